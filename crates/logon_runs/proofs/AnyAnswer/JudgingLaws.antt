-- How the reply to a logon's call is judged, whatever it is.
-- Of `controllers_answer` and `any_phases_go_on`.
use Rattle.std.proofs.Common.{◌≡◌, ℕ, Bool, true, false, refl, List, Option, None, Some}
use Rattle.std.specs.Prelude.{◌==◌}
use Rattle.wire_base.specs.declared.authenticator.Authenticator.{Authenticator}
use Rattle.authenticators.specs.SecureChannels.{SecureChannelState, after_return, is_awaited}
use Rattle.logon_stubs.specs.Status.{access_denied}
use Rattle.logon_stubs.specs.declared.calls.Reply.{Reply}
use Rattle.logon_stubs.specs.declared.calls.Reply.TheVariants as reply
use Rattle.logon_stubs.specs.declared.info.SamInfo.{SamInfo}
use Rattle.logon_stubs.specs.declared.info.Verdict.TheVariants as verdict
use Rattle.channel_client.specs.declared.judging.Judgement.{Judgement}
use Rattle.channel_client.specs.declared.judging.Judgement.TheVariants as judgement
use Rattle.channel_client.specs.declared.state.Question.TheVariants as question
use Rattle.channel_client.specs.declared.state.Standing.TheVariants as standing
use Rattle.channel_client.specs.Machine.{judge, judge_awaited, judge_level, judge_logon, judge_return, judge_status, level_asked}
use Rattle.member_server.specs.Outcomes.{name_in}

-- the information of a reply
abbrev pub info_in : Reply → Option SamInfo
info_in (reply.Logon r) = r.info
info_in (reply.Logoff r) = None
info_in (reply.Challenge r) = None
info_in (reply.Authenticate r) = None

-- the user is named as in the reply's
pub record IsNamedIn (info : Option SamInfo) (sam : SamInfo) : Type 0 where
  pub told : SamInfo
  pub is : info ≡ Some told
  pub name : name_in sam ≡ name_in told

-- the reply to a logon is dropped, or answers it, and the channel's state is that after the return
abbrev pub IsLogonJudged : Option SamInfo → SecureChannelState → Judgement → Type 0
IsLogonJudged info o (judgement.Half client server) = ⊥
IsLogonJudged info o (judgement.Opened state) = ⊥
IsLogonJudged info o (judgement.Answer state (verdict.Status status)) = state ≡ after_return true o
IsLogonJudged info o (judgement.Answer state (verdict.Granted sam)) = (state ≡ after_return true o) × IsNamedIn info sam
IsLogonJudged info o (judgement.Drop cause) = Unit {0}

level_judged : (same : Bool) (info : Option SamInfo) (o : SecureChannelState) → IsLogonJudged info o (judge_level same info (after_return true o))
level_judged false info o = tt
level_judged true None o = tt
level_judged true (Some info) o = (refl, record { told = info; is = refl; name = refl })

status_judged : (zeroed : Bool) (status level : ℕ) (info : Option SamInfo) (o : SecureChannelState) → IsLogonJudged info o (judge_status zeroed status level info (after_return true o))
status_judged false status level info o = refl
status_judged true status level info o = level_judged (level == level_asked) info o

awaited_judged : (awaited : Bool) (status level : ℕ) (info : Option SamInfo) (o : SecureChannelState) → IsLogonJudged info o (judge_awaited awaited status level info o)
awaited_judged false status level info o = tt
awaited_judged true status level info o = status_judged (status == 0) status level info o

return_judged : (returned : Option Authenticator) (status level : ℕ) (info : Option SamInfo) (o : SecureChannelState) → IsLogonJudged info o (judge_return returned status level info o)
return_judged None status level info o = tt
return_judged (Some returned) status level info o = awaited_judged (is_awaited o.awaited returned.credential) status level info o

denied_judged : (denied : Bool) (returned : Option Authenticator) (status level : ℕ) (info : Option SamInfo) (o : SecureChannelState) →
    IsLogonJudged info o (judge_logon denied (standing.Open o) returned status level info)
denied_judged true returned status level info o = tt
denied_judged false returned status level info o = return_judged returned status level info o

pub logon_judged : (answer : Reply) (o : SecureChannelState) (secret : List ℕ) → IsLogonJudged (info_in answer) o (judge question.Logon answer (standing.Open o) secret)
logon_judged (reply.Logon r) o secret = denied_judged (r.status == access_denied) r.returned r.status r.level r.info o
logon_judged (reply.Logoff r) o secret = tt
logon_judged (reply.Challenge r) o secret = tt
logon_judged (reply.Authenticate r) o secret = tt
