-- How a controller that trusts other domains answers what is heard on an accepted link, and what an answer of a trusted
-- domain's controller comes to (this project's own choice). Where no logon is handed on it is as in `Machine`.
use Rattle.std.specs.Prelude.{ℕ, ◌+◌, ◌*◌, Bool, true, false, nat_le, List, [], ◌∷◌, ◌++◌, length, map, Option, Some, None, Result, Ok, Err, slice_get, slice_set}
use Rattle.wire_base.specs.Maps.{lookup, take_out}
use Rattle.account_table.specs.AccountTable.{AccountTable}
use Rattle.outside.specs.declared.action.Action.{Action}
use Rattle.outside.specs.declared.action.Action.TheVariants as action
use Rattle.outside.specs.declared.action.CloseCause.{CloseCause}
use Rattle.outside.specs.declared.action.CloseCause.TheVariants as close
use Rattle.outside.specs.declared.action.Judged.TheVariants as judged
use Rattle.outside.specs.declared.action.StepRefused.{StepRefused}
use Rattle.logon_stubs.specs.declared.info.NetworkInfo.{NetworkInfo}
use Rattle.logon_stubs.specs.declared.info.Verdict.{Verdict}
use Rattle.logon_stubs.specs.declared.info.Verdict.TheVariants.{Status}
use Rattle.logon_stubs.specs.Status.{no_logon_servers}
use Rattle.end_links.specs.Serving.{Server, ServedPart}
use Rattle.end_links.specs.Whole.{content_limit}
use Rattle.channel_client.specs.declared.answers.AskRefused.{AskRefused}
use Rattle.channel_client.specs.Machine.{ask_of}
use Rattle.channel_client.specs.State.{Requester}
use Rattle.channel_turns.specs.declared.state.TurnEnd.{TurnEnd}
use Rattle.channel_turns.specs.declared.state.TurnEnd.TheVariants as turn_end
use Rattle.channel_turns.specs.declared.state.TurnEnded.{TurnEnded}
use Rattle.controller_calls.specs.Desk.{Desk, desk, tell}
use Rattle.controller_calls.specs.Forwarded.{ForwardedState}
use Rattle.controller_calls.specs.Handing.{CallPlace, Handing, answer_forwarded, answer_unasked, call_without, judge_call}
use Rattle.controller_calls.specs.declared.calls.ControllerCall.{ControllerCall}
use Rattle.controller_calls.specs.declared.calls.ControllerCall.TheVariants as call
use Rattle.controller_calls.specs.declared.calls.JudgedCall.{JudgedCall}
use Rattle.controller_calls.specs.declared.handing.HandOn.{HandOn}
use Rattle.controller_calls.specs.declared.line.Line.{Line}
use Rattle.domain_controller.specs.Hearing.{hear}
use Rattle.domain_controller.specs.Machine.{by_call, by_heard}
use Rattle.domain_controller.specs.Trusting.{ForwardedCalls, same_place}
use Rattle.domain_controller.specs.declared.hearing.Heard.{Heard}
use Rattle.domain_controller.specs.declared.hearing.Heard.TheVariants as heard
use Rattle.domain_controller.specs.declared.state.Talk.{Talk}
use Rattle.domain_controller.specs.declared.trusting.Queues.{Queues}
use Rattle.domain_controller.specs.declared.trusting.TrustWork.{TrustWork}

-- a controller at work: its accounts, and the rest
pub record TrustDesk : Type 0 where
  pub table : AccountTable
  pub work : TrustWork

abbrev pub trust_desk : AccountTable → TrustWork → TrustDesk
trust_desk table work = record { table = table; work = work }

-- what of it answers calls, and the same with the queues beside it
abbrev pub base_desk : TrustDesk → Desk
base_desk d = desk d.table d.work.work

abbrev pub with_queues : Queues → Desk → TrustDesk
with_queues queues d = trust_desk d.table (record { work = d.work; queues = queues })

-- how a call that works on the table answers: the table stands beside the value, which has the rest of the desk
abbrev pub at_trust_desk : {X : Type 0} → AccountTable → Result (TrustWork × X) StepRefused → Result (TrustDesk × X) StepRefused
at_trust_desk table (Ok done) = Ok (trust_desk table done.0, done.1)
at_trust_desk table (Err why) = Err why

-- one action more, behind those so far
abbrev pub told : Action → TrustWork → TrustWork
told what w = record w { work = tell w.work what }

-- ---- a logon that is handed on

-- the bytes of a logon's texts and responses
abbrev pub logon_bytes : NetworkInfo → ℕ
logon_bytes info =
    2 * length info.domain + (2 * length info.user + (2 * length info.workstation + (length info.nt + length info.lm)))

-- The most bytes of them in a logon that is handed on. The call that asks for it has 1,209 bytes besides at most, and
-- its frames 1,008 (24 of each 1,432), so that it is heard whole: it has fewer than 65,536. (None that a member makes
-- has more: each of the five is a field of a message of at most 5,840 bytes, and as fields may lie over one another,
-- they have 29,200 in all.)
abbrev pub logon_limit : ℕ
logon_limit = content_limit

abbrev pub fits_on : NetworkInfo → Bool
fits_on info = nat_le (logon_bytes info) logon_limit

-- nobody is asked for it
abbrev pub leave_unasked : ForwardedState → Line → TrustWork → TrustWork
leave_unasked f line w = record w { work = answer_unasked f line w.work }

-- The requesters, of which that one was asked, and the place that the logon has there, or None where as many wait there
-- as may. (`ask_of` never answers `Memory`.)
abbrev pub asked_by : Result ℕ AskRefused → Requester → ℕ → List Requester → List Requester × Option ℕ
asked_by (Ok place) requester trust requesters = (slice_set requesters trust requester, Some place)
asked_by (Err why) requester trust requesters = (requesters, None)

abbrev pub asked_of_found : Option Requester → NetworkInfo → ℕ → List Requester → List Requester × Option ℕ
asked_of_found None info trust requesters = (requesters, None)
asked_of_found (Some requester) info trust requesters =
    asked_by (ask_of requester info).answer (ask_of requester info).state trust requesters

abbrev pub ask_trust : NetworkInfo → ℕ → List Requester → List Requester × Option ℕ
ask_trust info trust requesters = asked_of_found (slice_get requesters trust) info trust requesters

-- a logon waits at a place of its trust, which is told, and nothing is sent
abbrev pub wait_at : ℕ → ℕ → ForwardedState → List Requester → TrustWork → TrustWork
wait_at place trust f requesters w = record {
  work = tell w.work (action.Judged judged.Forwarded);
  queues = record { requesters = requesters; forwarded = w.queues.forwarded ++ ((trust, place), f) ∷ [] };
}

abbrev pub wait_or_leave : List Requester × Option ℕ → ℕ → ForwardedState → Line → TrustWork → TrustWork
wait_or_leave (requesters, None) trust f line w = leave_unasked f line w
wait_or_leave (requesters, Some place) trust f line w = wait_at place trust f requesters w

abbrev pub forward_if : (fits : Bool) → HandOn → Line → TrustWork → TrustWork
forward_if false handed line w = leave_unasked handed.call line w
forward_if true handed line w =
    wait_or_leave (ask_trust handed.info handed.trust w.queues.requesters) handed.trust handed.call line w

abbrev pub forward_handed : Option HandOn → Line → TrustWork → TrustWork
forward_handed None line w = w
forward_handed (Some handed) line w = forward_if (fits_on handed.info) handed line w

abbrev pub after_handing : Handing → Line → Queues → TrustDesk
after_handing handing line queues =
    trust_desk handing.0.table (forward_handed handing.1 line (record { work = handing.0.work; queues = queues }))

-- ---- a call, and a unit

abbrev pub place_of_call : List ℕ → ℕ → Line → Queues → CallPlace
place_of_call name now line queues =
    record { name = name; now = now; line = line; trusts = length queues.requesters }

abbrev pub answer_trust_call : JudgedCall → List ℕ → ℕ → Line → TrustDesk → TrustDesk
answer_trust_call c name now line d =
    after_handing (judge_call c (place_of_call name now line d.work.queues) (base_desk d)) line d.work.queues

-- what is served without a look at the queues
abbrev pub beside : Queues → ServedPart Desk Talk → ServedPart TrustDesk Talk
beside queues (Err why) = Err why
beside queues (Ok part) = Ok (record { value = (with_queues queues part.value.0, part.value.1); left = part.left })

abbrev pub goes_on_trusting : TrustDesk → Talk → List (List ℕ) → ServedPart TrustDesk Talk
goes_on_trusting d talk left = Ok (record { value = (d, Some talk); left = left })

abbrev pub by_trust_call : ControllerCall → Line → Talk → List ℕ → ℕ → TrustDesk → List (List ℕ) → ServedPart TrustDesk Talk
by_trust_call (call.Challenge c) line talk name now d left =
    beside d.work.queues (by_call (call.Challenge c) line talk name now (base_desk d) left)
by_trust_call (call.Authenticate c) line talk name now d left =
    beside d.work.queues (by_call (call.Authenticate c) line talk name now (base_desk d) left)
by_trust_call (call.Judged c) line talk name now d left = goes_on_trusting (answer_trust_call c name now line d) talk left

abbrev pub by_trust_heard : Heard → ℕ → List ℕ → ℕ → TrustDesk → List (List ℕ) → ServedPart TrustDesk Talk
by_trust_heard (heard.Close cause) link name now d left =
    beside d.work.queues (by_heard (heard.Close cause) link name now (base_desk d) left)
by_trust_heard (heard.Answer bytes talk) link name now d left =
    beside d.work.queues (by_heard (heard.Answer bytes talk) link name now (base_desk d) left)
by_trust_heard (heard.Waits talk) link name now d left =
    beside d.work.queues (by_heard (heard.Waits talk) link name now (base_desk d) left)
by_trust_heard (heard.Asked line call talk) link name now d left = by_trust_call call line talk name now d left

-- how a controller of that name serves the units of an accepted link at a moment; a rest that is refused closes it
abbrev pub trust_server : List ℕ → ℕ → ℕ → Server TrustDesk Talk
trust_server name now link = record {
  unit = λ bytes d talk left. by_trust_heard (hear link bytes talk) link name now d left;
  refusal = λ why d talk left. Ok (record {
    value = with_queues d.work.queues (desk d.table (tell d.work.work (action.Close link close.BadUnit)));
    left = left;
  });
}

-- ---- a link that closes leaves its logons without a line: they are answered to nobody

abbrev pub calls_without : ℕ → ForwardedCalls → ForwardedCalls
calls_without number calls = map (λ (entry : (ℕ × ℕ) × ForwardedState). (entry.0, call_without number entry.1)) calls

abbrev pub forget_link : ℕ → TrustWork → TrustWork
forget_link number w = record w { queues = record w.queues { forwarded = calls_without number w.queues.forwarded } }

-- ---- a turn that ended

-- the logon of that place is answered; nothing where there is none
abbrev pub answer_found : Option ForwardedState → ℕ × ℕ → Verdict → TrustWork → TrustWork
answer_found None place verdict w = w
answer_found (Some f) place verdict w = record {
  work = answer_forwarded verdict f w.work;
  queues = record w.queues { forwarded = take_out same_place place w.queues.forwarded };
}

abbrev pub answer_place : ℕ × ℕ → Verdict → TrustWork → TrustWork
answer_place place verdict w = answer_found (lookup same_place place w.queues.forwarded) place verdict w

-- a logon that got no answer comes to NO_LOGON_SERVERS
abbrev pub end_turn : TurnEnd → ℕ → TrustWork → TrustWork
end_turn turn_end.Half trust w = w
end_turn turn_end.Opened trust w = w
end_turn turn_end.Set trust w = w
end_turn (turn_end.Answer place verdict) trust w = answer_place (trust, place) verdict w
end_turn (turn_end.Dropped place cause) trust w = answer_place (trust, place) (Status no_logon_servers) w

-- the link of the turn is closed first, where it is open
abbrev pub close_ended : Option (ℕ × CloseCause) → TrustWork → TrustWork
close_ended None w = w
close_ended (Some closes) w = told (action.Close closes.0 closes.1) w

abbrev pub after_ended : Option TurnEnded → ℕ → TrustWork → TrustWork
after_ended None trust w = w
after_ended (Some ended) trust w = end_turn ended.how trust (close_ended ended.closes w)
