-- One turn at a controller, step by step, on the one link that is open there (MS-NRPC 3.5.4; C706
-- 12.6.3).
use Rattle.std.specs.Prelude.{ℕ, ◌≡◌, ◌<◌, ◌^◌, true, List, [], ◌∷◌, Some, None}
use Rattle.wire_base.specs.Maps.{lookup, put, take_out}
use Rattle.wire_base.specs.Names.{same_name}
use Rattle.authenticators.specs.Sequences.{return_of}
use Rattle.authenticators.specs.SecureChannels.{SecureChannelState, key_of_channel}
use Rattle.outside.specs.declared.action.Action.TheVariants as action
use Rattle.outside.specs.declared.action.Judged.TheVariants as judged
use Rattle.outside.specs.declared.event.Event.TheVariants as event
use Rattle.outside.specs.Machine.{whole_step}
use Rattle.rpc_units.specs.Calls.{bytes_of_call}
use Rattle.rpc_units.specs.Writing.{written}
use Rattle.logon_stubs.specs.declared.calls.Reply.{Reply}
use Rattle.logon_stubs.specs.declared.calls.Reply.TheVariants as reply
use Rattle.logon_stubs.specs.declared.info.NetworkInfo.{NetworkInfo}
use Rattle.logon_stubs.specs.declared.info.Verdict.{Verdict}
use Rattle.account_table.specs.AccountTable.{AccountTable}
use Rattle.account_table.specs.LookUps.{knows_in}
use Rattle.account_table.specs.declared.account.Account.{Account}
use Rattle.sam_logon.specs.Verdict.{table_after, verdict_of}
use Rattle.end_links.specs.Binding.{bind_of}
use Rattle.logon_stubs.specs.Interface.{netlogon_syntax}
use Rattle.channel_client.specs.declared.caller.Caller.{Caller}
use Rattle.channel_client.specs.Machine.{auth_call, challenge_call, level_asked, logon_call, offered_flags, server_credential}
use Rattle.domain_controller.specs.Hearing.{bound_talk, first_talk}
use Rattle.domain_controller.specs.Machine.{account_for, channel_for, info_of, status_of}
use Rattle.domain_controller.specs.State.{State}
use Rattle.domain_controller.specs.Step.{LinkMap, step_of}
use Rattle.domain_controller.specs.Trusting.{no_trusting}
use Rattle.controller_calls.specs.declared.state.Computers.{Computers}
use Rattle.domain_controller.specs.declared.state.Talk.{Talk}
use Rattle.logon_steps.specs.Answering.{IsInStep, auth_value, moved, pair_of}
use Rattle.logon_steps.specs.Turning.{IsTurnCall, turn_ack, turn_agreed, turn_request, turn_response}

-- ---- a controller

abbrev pub controller_at : AccountTable → List ℕ → Computers → LinkMap → State
controller_at table name computers links = record {
  table = table;
  name = name;
  running = Some (record { computers = computers; links = links });
  trusting = no_trusting;
}

-- the one link, on which all that came is served
abbrev pub one_link : ℕ → Talk → LinkMap
one_link link talk = (link, record { rest = []; talk = talk }) ∷ []

abbrev pub turn_link : ℕ → LinkMap
turn_link link = one_link link (bound_talk None turn_agreed)

-- what is sent on it, in reply to the call of that number
abbrev pub reply_bytes : ℕ → Reply → List ℕ
reply_bytes number r = bytes_of_call (turn_response number r) 5840

-- what a Logon call is answered that passes
abbrev pub passed_reply : List ℕ → List ℕ → Verdict → Reply
passed_reply key credential verdict = reply.Logon (record {
  returned = Some (record { credential = credential; timestamp = 0 });
  level = level_asked;
  info = info_of level_asked key verdict;
  authoritative = 1;
  status = status_of verdict;
})

-- ---- the steps of the controller

pub record ControllersStep : Type 0 where
  pub opened : (table : AccountTable) (name : List ℕ) (computers : Computers) (link now : ℕ) (left : List (List ℕ)) →
      step_of (controller_at table name computers []) (event.Opened link) now left
      ≡ whole_step left left [] (controller_at table name computers (one_link link first_talk))
  pub closed : (table : AccountTable) (name : List ℕ) (computers : Computers) (link now : ℕ) (talk : Talk) (left : List (List ℕ)) →
      step_of (controller_at table name computers (one_link link talk)) (event.Closed link) now left
      ≡ whole_step left left [] (controller_at table name computers [])
  pub bound : (table : AccountTable) (name : List ℕ) (computers : Computers) (link now number : ℕ) (left : List (List ℕ)) → number < 2 ^ 32 →
      step_of (controller_at table name computers (one_link link first_talk)) (event.Bytes link (written (bind_of netlogon_syntax number))) now left
      ≡ whole_step left left (action.Send link (written (turn_ack number)) ∷ []) (controller_at table name computers (turn_link link))
  -- the calls of a computer that is known, whose secret is the account's hash, and that is in step
  pub challenged : (table : AccountTable) (name : List ℕ) (computers : Computers) (link now number : ℕ) (caller : Caller) (client server : List ℕ) (left : List (List ℕ)) →
      number < 2 ^ 32 → IsTurnCall (challenge_call caller client) → knows_in table.accounts caller.computer ≡ true →
      step_of (controller_at table name computers (turn_link link)) (event.Bytes link (bytes_of_call (turn_request number (challenge_call caller client)) 5840)) now (server ∷ left)
      ≡ whole_step (server ∷ left) left (action.Send link (reply_bytes number (reply.Challenge (record { challenge = server; status = 0 }))) ∷ [])
      (controller_at table name (record computers { pending = put same_name caller.computer (pair_of client server) computers.pending }) (turn_link link))
  pub proved : (table : AccountTable) (name : List ℕ) (computers : Computers) (link now number : ℕ) (caller : Caller) (client server : List ℕ) (account : Account)
      (left : List (List ℕ)) → number < 2 ^ 32 → IsTurnCall (auth_call caller client server) → account_for table (auth_value caller client server) ≡ Some account →
      account.hash ≡ caller.secret → lookup same_name caller.computer computers.pending ≡ Some (pair_of client server) →
      step_of (controller_at table name computers (turn_link link)) (event.Bytes link (bytes_of_call (turn_request number (auth_call caller client server)) 5840)) now left
      ≡ whole_step left left
      (action.Send link (reply_bytes number (reply.Authenticate (record { credential = server_credential caller.secret client server; flags = offered_flags; status = 0 }))) ∷ [])
      (controller_at table name (record {
        pending = take_out same_name caller.computer computers.pending;
        channels = put same_name caller.computer (channel_for account (pair_of client server) (auth_value caller client server)) computers.channels;
        sessions = computers.sessions;
      }) (turn_link link))
  -- the logon is judged by the accounts as they stand, and leaves what the judgement does
  pub judged : (table : AccountTable) (name : List ℕ) (computers : Computers) (link now number timestamp : ℕ) (caller : Caller) (o c : SecureChannelState)
      (info : NetworkInfo) (left : List (List ℕ)) → number < 2 ^ 32 → IsTurnCall (logon_call caller o timestamp info) →
      lookup same_name caller.computer computers.channels ≡ Some c → IsInStep o c →
      let verdict : Verdict = verdict_of table name info now in
      step_of (controller_at table name computers (turn_link link)) (event.Bytes link (bytes_of_call (turn_request number (logon_call caller o timestamp info)) 5840)) now left
      ≡ whole_step left left
      (action.Judged (judged.Passed (status_of verdict))
      ∷ action.Send link (reply_bytes number (passed_reply (key_of_channel o) (return_of (key_of_channel o) o.seed timestamp) verdict)) ∷ [])
      (controller_at (table_after table info now) name (record computers {
        channels = put same_name caller.computer (moved c timestamp) (take_out same_name caller.computer computers.channels);
      }) (turn_link link))
