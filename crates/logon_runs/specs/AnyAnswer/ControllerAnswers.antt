-- What a controller answers to the calls of a member's turn, whatever it keeps of that computer. Each is answered by
-- one reply, and what is kept of other computers stays (MS-NRPC 3.5.4.4.1, 3.5.4.4.3, 3.5.4.5.3).
use Rattle.std.specs.Prelude.{ℕ, ◌≡◌, ◌<◌, ◌^◌, false, List, [], ◌∷◌, Some}
use Rattle.wire_base.specs.Maps.{lookup}
use Rattle.wire_base.specs.Names.{IsName, same_name}
use Rattle.authenticators.specs.SecureChannels.{SecureChannelState}
use Rattle.outside.specs.declared.action.Action.TheVariants as action
use Rattle.outside.specs.declared.action.Judged.{Judged}
use Rattle.outside.specs.declared.event.Event.TheVariants as event
use Rattle.outside.specs.Machine.{whole_step}
use Rattle.rpc_units.specs.Calls.{bytes_of_call}
use Rattle.logon_stubs.specs.declared.calls.Reply.{Reply}
use Rattle.logon_stubs.specs.declared.calls.Reply.TheVariants as reply
use Rattle.logon_stubs.specs.declared.info.NetworkInfo.{NetworkInfo}
use Rattle.logon_stubs.specs.declared.info.SamInfo.{SamInfo}
use Rattle.logon_stubs.specs.declared.info.Verdict.TheVariants as verdict
use Rattle.account_table.specs.AccountTable.{AccountTable}
use Rattle.account_table.specs.Changes.{DifferInCounts}
use Rattle.account_table.specs.declared.account.Account.{Account}
use Rattle.channel_client.specs.declared.caller.Caller.{Caller}
use Rattle.channel_client.specs.declared.judging.Judgement.TheVariants as judgement
use Rattle.channel_client.specs.declared.state.Question.TheVariants as question
use Rattle.channel_client.specs.declared.state.Standing.TheVariants as standing
use Rattle.channel_client.specs.Machine.{auth_call, challenge_call, judge, logon_call, offered_flags}
use Rattle.domain_controller.specs.Machine.{account_for}
use Rattle.domain_controller.specs.Step.{step_of}
use Rattle.domain_controller.specs.Whole.{InRangeTable}
use Rattle.controller_calls.specs.declared.state.Computers.{Computers}
use Rattle.logon_steps.specs.Answering.{auth_value}
use Rattle.logon_steps.specs.ControllerTurns.{controller_at, reply_bytes, turn_link}
use Rattle.logon_steps.specs.Turning.{IsTurnCall, IsTurnReply, turn_request}
use Rattle.logon_runs.specs.OtherKeys.GrantRests.{HasShortName}

-- the channels of all computers of another name are as they were
abbrev pub KeepsBut : List ℕ → Computers → Computers → Type 0
KeepsBut name later computers =
    (other : List ℕ) → same_name name other ≡ false → lookup same_name other later.channels ≡ lookup same_name other computers.channels

-- a controller that answers a NetrServerReqChallenge: both challenges may wait then; no channel changes
pub record ToldChallenge (table : AccountTable) (name : List ℕ) (computers : Computers) (link now number : ℕ) (caller : Caller) (client server : List ℕ) (left : List (List ℕ)) : Type 0 where
  pub later : Computers
  pub kept : later.channels ≡ computers.channels
  pub steps : step_of (controller_at table name computers (turn_link link)) (event.Bytes link (bytes_of_call (turn_request number (challenge_call caller client)) 5840)) now (server ∷ left)
      ≡ whole_step (server ∷ left) left (action.Send link (reply_bytes number (reply.Challenge (record { challenge = server; status = 0 }))) ∷ [])
      (controller_at table name later (turn_link link))

-- an account was found for the call that opens a channel
pub record FindsAccount (table : AccountTable) (caller : Caller) (client server : List ℕ) : Type 0 where
  pub machine : Account
  pub found : account_for table (auth_value caller client server) ≡ Some machine

-- a channel may stand then, by an account, or the proof is refused with some status
pub record ToldProof (table : AccountTable) (name : List ℕ) (computers : Computers) (link now number : ℕ) (caller : Caller) (client server : List ℕ) (left : List (List ℕ)) : Type 0 where
  pub later : Computers
  pub others : KeepsBut caller.computer later computers
  pub credential : List ℕ
  pub status : ℕ
  pub is : IsTurnReply question.Authenticate (reply.Authenticate (record { credential = credential; flags = offered_flags; status = status }))
  pub finds : status ≡ 0 → FindsAccount table caller client server
  pub steps : step_of (controller_at table name computers (turn_link link)) (event.Bytes link (bytes_of_call (turn_request number (auth_call caller client server)) 5840)) now left
      ≡ whole_step left left (action.Send link (reply_bytes number (reply.Authenticate (record { credential = credential; flags = offered_flags; status = status }))) ∷ [])
      (controller_at table name later (turn_link link))

-- where the channel's end takes it as granted, the name that is told fits
abbrev pub TellsShort : Reply → Type 0
TellsShort r =
    (o state : SecureChannelState) (secret : List ℕ) (sam : SamInfo) → judge question.Logon r (standing.Open o) secret ≡ judgement.Answer state (verdict.Granted sam) → HasShortName sam

-- the logon is judged, or not; of the accounts counts of bad passwords change alone
pub record ToldLogon (table : AccountTable) (name : List ℕ) (computers : Computers) (link now number timestamp : ℕ) (caller : Caller) (o : SecureChannelState) (info : NetworkInfo) (left : List (List ℕ)) : Type 0 where
  pub later : Computers
  pub others : KeepsBut caller.computer later computers
  pub accounts : AccountTable
  pub differs : DifferInCounts table accounts
  pub ranged : InRangeTable accounts
  pub how : Judged
  pub answer : Reply
  pub is : IsTurnReply question.Logon answer
  pub names : TellsShort answer
  pub steps : step_of (controller_at table name computers (turn_link link)) (event.Bytes link (bytes_of_call (turn_request number (logon_call caller o timestamp info)) 5840)) now left
      ≡ whole_step left left (action.Judged how ∷ action.Send link (reply_bytes number answer) ∷ []) (controller_at accounts name later (turn_link link))

pub record ControllersAnswer : Type 0 where
  pub challenge : (table : AccountTable) (name : List ℕ) (computers : Computers) (link now number : ℕ) (caller : Caller) (client server : List ℕ) (left : List (List ℕ)) → number < 2 ^ 32 →
      IsTurnCall (challenge_call caller client) → ToldChallenge table name computers link now number caller client server left
  pub proof : (table : AccountTable) (name : List ℕ) (computers : Computers) (link now number : ℕ) (caller : Caller) (client server : List ℕ) (left : List (List ℕ)) → number < 2 ^ 32 →
      IsTurnCall (auth_call caller client server) → ToldProof table name computers link now number caller client server left
  pub logon : (table : AccountTable) (name : List ℕ) (computers : Computers) (link now number timestamp : ℕ) (caller : Caller) (o : SecureChannelState) (info : NetworkInfo) (left : List (List ℕ)) →
      number < 2 ^ 32 → IsTurnCall (logon_call caller o timestamp info) → InRangeTable table → IsName name → now < 2 ^ 64 →
      ToldLogon table name computers link now number timestamp caller o info left
