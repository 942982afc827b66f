-- The controller at work: how a call is answered on its link, and how the units of a link are served (this project's
-- own choice). The answers to the calls themselves are those of `controller_calls`, which are passed on.
use Rattle.std.specs.Prelude.{ℕ, List, [], ◌∷◌, Some, None, Ok, Err}
use Rattle.outside.specs.declared.action.Action.TheVariants as action
use Rattle.outside.specs.declared.action.CloseCause.TheVariants as close
use Rattle.outside.specs.declared.action.StepRefused.TheVariants as refused
use Rattle.logon_stubs.specs.declared.calls.ChallengeCall.{ChallengeCall}
use Rattle.end_links.specs.Serving.{Server, ServedPart}
use Rattle.controller_calls.specs.declared.calls.ControllerCall.{ControllerCall}
use Rattle.controller_calls.specs.declared.calls.ControllerCall.TheVariants as call
use Rattle.controller_calls.specs.declared.line.Line.{Line}
use Rattle.domain_controller.specs.Hearing.{hear}
use Rattle.domain_controller.specs.declared.state.Talk.{Talk}
use Rattle.domain_controller.specs.declared.hearing.Heard.{Heard}
use Rattle.domain_controller.specs.declared.hearing.Heard.TheVariants as heard
pub use Rattle.controller_calls.specs.Desk.{Desk, desk, at_desk, tell, send_stub, send_reply, put_pair, take_pair, put_channel, take_channel}
pub use Rattle.controller_calls.specs.Opening.{put_pair_if, answer_challenge, grant_flags, deny_channel, channel_with, channel_for, open_channel, judge_client, judge_pair_with, judge_pair, judge_offer_with, judge_offer, judge_account, account_for, answer_authenticate}
pub use Rattle.controller_calls.specs.Judging.{CallAnswers, answer_return, answer_on, answer_named}
pub use Rattle.controller_calls.specs.Logons.{refuse_logon, status_of, reply_info, info_of, pass_logon, IsServedLevel, serves_level, judge_level, judge_info, with_judgement, pass_network, network_answers, judge_return, judge_channel, answer_logon}
pub use Rattle.controller_calls.specs.Interactive.{with_sessions, shown_hash, judge_interactive_level, judge_interactive, admitted, session_opened, pass_admitted, pass_interactive, send_logoff_reply, refuse_logoff, pass_logoff, logoff_status, is_open, end_session}
pub use Rattle.controller_calls.specs.Setting.{send_set_reply, refuse_set, pass_set, keep_secrets, set_at, set_hash}
pub use Rattle.controller_calls.specs.Asking.{refuse_asked, pass_asked, answers_to, answer_judged}

-- ---- a call, and what is said on its link then

abbrev pub goes_on : Desk → Talk → List (List ℕ) → ServedPart Desk Talk
goes_on d talk left = Ok (record { value = (d, Some talk); left = left })

-- a server challenge is drawn
abbrev pub draw_challenge : List (List ℕ) → Line → ChallengeCall → Talk → Desk → ServedPart Desk Talk
draw_challenge [] line c talk d = Err refused.Spent
draw_challenge (server ∷ left) line c talk d = goes_on (desk d.table (answer_challenge d.table line c server d.work)) talk left

abbrev pub by_call : ControllerCall → Line → Talk → List ℕ → ℕ → Desk → List (List ℕ) → ServedPart Desk Talk
by_call (call.Challenge c) line talk name now d left = draw_challenge left line c talk d
by_call (call.Authenticate c) line talk name now d left =
    goes_on (desk d.table (answer_authenticate d.table line c d.work)) talk left
by_call (call.Judged c) line talk name now d left = goes_on (answer_judged c name now line d) talk left

-- ---- a unit

abbrev pub by_heard : Heard → ℕ → List ℕ → ℕ → Desk → List (List ℕ) → ServedPart Desk Talk
by_heard (heard.Close cause) link name now d left =
    Ok (record { value = (desk d.table (tell d.work (action.Close link cause)), None); left = left })
by_heard (heard.Answer bytes talk) link name now d left = goes_on (desk d.table (tell d.work (action.Send link bytes))) talk left
by_heard (heard.Waits talk) link name now d left = goes_on d talk left
by_heard (heard.Asked line call talk) link name now d left = by_call call line talk name now d left

-- how a controller of that name serves the units of a link at a moment; a rest that is refused closes it
abbrev pub controller_server : List ℕ → ℕ → ℕ → Server Desk Talk
controller_server name now link = record {
  unit = λ bytes d talk left. by_heard (hear link bytes talk) link name now d left;
  refusal = λ why d talk left. Ok (record { value = desk d.table (tell d.work (action.Close link close.BadUnit)); left = left });
}
