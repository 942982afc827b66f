-- NetrLogonSamLogon at a controller (MS-NRPC 3.5.4.5.3; the order of checks is this project's own choice). A moment is
-- in units of 100 ns since 1601; a credential has 8 bytes, a key 16.
use Rattle.std.specs.Prelude.{ℕ, ◌≡◌, ◌⊎◌, ◌==◌, ◌||◌, Bool, true, false, List, Option, Some, None}
use Rattle.wire_base.specs.declared.authenticator.Authenticator.{Authenticator}
use Rattle.channel_keys.specs.Hidden.{crypt_key}
use Rattle.authenticators.specs.SecureChannels.{SecureChannelState, key_of_channel}
use Rattle.outside.specs.declared.action.Action.TheVariants as action
use Rattle.outside.specs.declared.action.Judged.{Judged}
use Rattle.outside.specs.declared.action.Judged.TheVariants as judged
use Rattle.logon_stubs.specs.declared.calls.Reply.{Reply}
use Rattle.logon_stubs.specs.declared.calls.Reply.TheVariants as reply
use Rattle.logon_stubs.specs.declared.info.NetworkInfo.{NetworkInfo}
use Rattle.logon_stubs.specs.declared.info.SamInfo.{SamInfo}
use Rattle.logon_stubs.specs.declared.info.Verdict.{Verdict}
use Rattle.logon_stubs.specs.declared.info.Verdict.TheVariants.{Granted, Status}
use Rattle.logon_stubs.specs.Status.{access_denied, invalid_info_class}
use Rattle.account_table.specs.AccountTable.{AccountTable}
use Rattle.sam_logon.specs.Granting.{at_level}
use Rattle.sam_logon.specs.Verdict.{Judgement, judgement_of}
use Rattle.controller_calls.specs.Desk.{Desk, desk, send_reply, tell}
use Rattle.controller_calls.specs.Judging.{CallAnswers, answer_named, answer_on, answer_return}
use Rattle.controller_calls.specs.declared.line.Line.{Line}
use Rattle.controller_calls.specs.declared.state.Work.{Work}

-- without a channel and an authenticator that passes, nothing is returned
abbrev pub refuse_logon : Judged → Line → ℕ → Work → Work
refuse_logon how line validation work =
    send_reply (tell work (action.Judged how)) line (reply.Logon (record {
      returned = None;
      level = validation;
      info = None;
      authoritative = 1;
      status = access_denied;
    }))

-- the status of a verdict; 0 of what is granted
abbrev pub status_of : Verdict → ℕ
status_of (Granted info) = 0
status_of (Status status) = status

-- what a reply at a validation level carries of what is granted, with its key hidden under the session key
abbrev pub reply_info : ℕ → List ℕ → SamInfo → SamInfo
reply_info validation key info = record (at_level validation info) { key = crypt_key key info.key }

abbrev pub info_of : ℕ → List ℕ → Verdict → Option SamInfo
info_of validation key (Granted info) = Some (reply_info validation key info)
info_of validation key (Status status) = None

-- The reply: the authenticator that is returned has a timestamp of 0.
abbrev pub reply_to : Verdict → ℕ → List ℕ → List ℕ → Reply
reply_to verdict validation key credential = reply.Logon (record {
  returned = Some (record { credential = credential; timestamp = 0 });
  level = validation;
  info = info_of validation key verdict;
  authoritative = 1;
  status = status_of verdict;
})

abbrev pub pass_logon : Verdict → Line → ℕ → List ℕ → List ℕ → Work → Work
pass_logon verdict line validation key credential work =
    send_reply (tell work (action.Judged (judged.Passed (status_of verdict)))) line (reply_to verdict validation key credential)

-- the validation levels that are served: NETLOGON_VALIDATION_SAM_INFO, 2, and with identifiers beside the groups
-- NETLOGON_VALIDATION_SAM_INFO2, 3 (MS-NRPC 2.2.1.4.14)
abbrev pub IsServedLevel : ℕ → Type 0
IsServedLevel validation = (validation ≡ 2) ⊎ (validation ≡ 3)

abbrev pub serves_level : ℕ → Bool
serves_level validation = (validation == 2) || (validation == 3)

-- a logon is judged at a validation level that is served
abbrev pub judge_level : (serves : Bool) → AccountTable → List ℕ → NetworkInfo → ℕ → Judgement
judge_level false table name info now = record { verdict = Status invalid_info_class; table = table }
judge_level true table name info now = judgement_of table name info now

abbrev pub judge_info : AccountTable → List ℕ → ℕ → NetworkInfo → ℕ → Judgement
judge_info table name now info validation = judge_level (serves_level validation) table name info now

abbrev pub with_judgement : Judgement → Line → ℕ → List ℕ → List ℕ → Work → Desk
with_judgement j line validation key credential work = desk j.table (pass_logon j.verdict line validation key credential work)

-- where its authenticator passes, by the channel's key and the credential that is returned
abbrev pub pass_network : List ℕ → ℕ → Line → NetworkInfo → ℕ → List ℕ → List ℕ → Desk → Desk
pass_network name now line info validation key credential d =
    with_judgement (judge_info d.table name now info validation) line validation key credential d.work

abbrev pub network_answers : List ℕ → ℕ → Line → NetworkInfo → ℕ → CallAnswers
network_answers name now line info validation = record {
  refused = λ how work. refuse_logon how line validation work;
  passed = λ computer channel credential d. pass_network name now line info validation (key_of_channel channel) credential d;
}

-- ---- a logon by the parts of the call, as it is judged

abbrev pub judge_return : Option (List ℕ) → List ℕ → List ℕ → ℕ → Line → NetworkInfo → ℕ → Desk → Desk
judge_return credential key name now line info validation d =
    answer_return credential (λ how work. refuse_logon how line validation work)
    (λ returned later. pass_network name now line info validation key returned later) d

abbrev pub judge_channel : Option SecureChannelState → List ℕ → Authenticator → List ℕ → ℕ → Line → NetworkInfo → ℕ → Desk → Desk
judge_channel found computer given name now line info validation d =
    answer_on found computer given (network_answers name now line info validation) d

abbrev pub answer_logon : Option (List ℕ) → Option Authenticator → List ℕ → ℕ → Line → NetworkInfo → ℕ → Desk → Desk
answer_logon computer given name now line info validation d =
    answer_named computer given (network_answers name now line info validation) d
