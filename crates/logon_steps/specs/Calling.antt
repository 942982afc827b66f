-- That the calls of a member's turns, and the replies of a controller that knows it, can be written, joined and read
-- (MS-NRPC 3.5.4.4.1, 3.5.4.4.3, 3.5.4.5.3), and that a hidden key is shown again.
use Rattle.std.specs.Prelude.{ℕ, ◌≡◌, ◌≤◌, ◌<◌, ◌^◌, List, length, replicate}
use Rattle.rc4_stream.specs.Rc4.{applied}
use Rattle.account_table.specs.AccountTable.{AccountTable}
use Rattle.account_table.specs.Ranges.{InRangeAccount, InRangeSid}
use Rattle.account_table.specs.declared.account.Account.{Account}
use Rattle.sam_logon.specs.Granting.{sam_info_of}
use Rattle.wire_base.specs.Names.{IsName}
use Rattle.wire_base.specs.Units.{AreUnits}
use Rattle.channel_keys.specs.Hidden.{crypt_key}
use Rattle.authenticators.specs.SecureChannels.{SecureChannelState, key_of_channel}
use Rattle.logon_stubs.specs.declared.info.NetworkInfo.{NetworkInfo}
use Rattle.logon_stubs.specs.declared.calls.Reply.TheVariants as reply
use Rattle.logon_stubs.specs.Ranges.{InRangeNetworkInfo, IsBlock}
use Rattle.channel_client.specs.Machine.{auth_call, challenge_call, logon_call, offered_flags, server_credential}
use Rattle.channel_client.specs.declared.caller.Caller.{Caller}
use Rattle.channel_client.specs.declared.state.Question.TheVariants as question
use Rattle.member_server.specs.declared.plan.MemberPlan.{MemberPlan}
use Rattle.member_server.specs.Machine.{caller_of}
use Rattle.logon_steps.specs.MemberAnswers.{granting}
use Rattle.logon_steps.specs.Turning.{IsTurnCall, IsTurnReply}

-- the computer's names fit
pub record HasShortCaller (caller : Caller) : Type 0 where
  pub computer : length caller.computer ≤ 64
  pub computer_units : AreUnits caller.computer
  pub account : length caller.account ≤ 65
  pub account_units : AreUnits caller.account
  pub kind : caller.kind < 2 ^ 16

-- what is told of a logon fits
pub record HasShortInfo (info : NetworkInfo) : Type 0 where
  pub range : InRangeNetworkInfo info
  pub domain : length info.domain ≤ 64
  pub user : length info.user ≤ 64
  pub workstation : length info.workstation ≤ 64
  pub nt : length info.nt ≤ 8192
  pub lm : length info.lm ≤ 8192

-- the key is hidden as zeros, which nobody hides again
abbrev pub TravelsAsZeros : List ℕ → List ℕ → Type 0
TravelsAsZeros key base = base ≡ applied key 0 (replicate 16 0)

pub record CallsCanGo : Type 0 where
  pub caller : (plan : MemberPlan) → IsName plan.computer → HasShortCaller (caller_of plan)
  pub challenge : (caller : Caller) (client : List ℕ) → HasShortCaller caller → IsBlock 8 client → IsTurnCall (challenge_call caller client)
  pub authenticate : (caller : Caller) (client server : List ℕ) → HasShortCaller caller → IsTurnCall (auth_call caller client server)
  pub logon : (caller : Caller) (o : SecureChannelState) (timestamp : ℕ) (info : NetworkInfo) → HasShortCaller caller → timestamp < 2 ^ 32 → HasShortInfo info →
      IsTurnCall (logon_call caller o timestamp info)
  -- the replies: to the challenge, to the proof, and to the logon that is granted
  pub challenged : (client server : List ℕ) → IsBlock 8 server →
      IsTurnReply (question.Challenge client) (reply.Challenge (record { challenge = server; status = 0 }))
  pub proved : (secret client server : List ℕ) →
      IsTurnReply question.Authenticate (reply.Authenticate (record { credential = server_credential secret client server; flags = offered_flags; status = 0 }))
  pub granted : (o : SecureChannelState) (timestamp : ℕ) (table : AccountTable) (name : List ℕ) (account : Account) (key : List ℕ) (now : ℕ) →
      IsName table.domain → InRangeSid table.sid → IsName name → InRangeAccount account → IsBlock 16 key → now < 2 ^ 64 →
      IsTurnReply question.Logon (granting o timestamp 0 1 (record (sam_info_of table name account key now) { key = crypt_key (key_of_channel o) key }))
  -- unless it travels as zeros
  pub shown : (key base : List ℕ) → (TravelsAsZeros key base → ⊥) → crypt_key key (crypt_key key base) ≡ base
