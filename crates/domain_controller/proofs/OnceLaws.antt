-- At most one logon that was asked is answered in a step. It serves `one_logon_is_answered`.
use Rattle.std.proofs.Common.{◌≡◌, ◌+◌, ◌≤◌, ◌++◌, ℕ, Bool, true, false, List, [], ◌∷◌, Option, Some, None, Result, Ok, Err, slice_get, refl, ap, ◌∙◌, arith}
use Rattle.std.specs.List.{AllByRecursion}
use Rattle.wire_base.specs.Maps.{lookup, same_number, take_out}
use Rattle.outside.specs.Machine.{Part, step_by, then_part}
use Rattle.outside.specs.declared.action.Action.{Action}
use Rattle.outside.specs.declared.action.Action.TheVariants as action
use Rattle.outside.specs.declared.action.CloseCause.{CloseCause}
use Rattle.outside.specs.declared.action.CloseCause.TheVariants as close
use Rattle.outside.specs.declared.action.Judged.{Judged}
use Rattle.outside.specs.declared.action.Judged.TheVariants as judged
use Rattle.outside.specs.declared.action.StepRefused.{StepRefused}
use Rattle.outside.specs.declared.event.Event.{Event}
use Rattle.outside.specs.declared.event.Event.TheVariants as event
use Rattle.rpc_units.specs.Stream.{cut_stream}
use Rattle.logon_stubs.specs.Status.{no_logon_servers}
use Rattle.logon_stubs.specs.declared.calls.Reply.{Reply}
use Rattle.logon_stubs.specs.declared.info.Verdict.{Verdict}
use Rattle.logon_stubs.specs.declared.info.Verdict.TheVariants.{Status}
use Rattle.account_table.specs.declared.account.Trust.{Trust}
use Rattle.end_links.proofs.KeepLaws.{StaysServing, served_stays}
use Rattle.end_links.specs.Links.{LinkState}
use Rattle.end_links.specs.Sending.{joined_frames}
use Rattle.end_links.specs.Serving.{ServedPart, served_cut}
use Rattle.end_loop.specs.Runs.{actions_of}
use Rattle.channel_client.specs.Machine.{take_of}
use Rattle.channel_client.specs.State.{Requester}
use Rattle.channel_turns.proofs.KeepLaws.{StaysOnTurns, taken_by, turn_stays}
use Rattle.channel_turns.specs.Dials.{NextTurn, next_turn as channel_turn}
use Rattle.channel_turns.specs.Turning.{Turned, answer_by, close_if, dial_for, dial_part, fail_by, hear_by, hear_if, is_on, is_waiting, link_answers, link_closes, link_hears, no_dial}
use Rattle.channel_turns.specs.Turns.{TurnServed}
use Rattle.channel_turns.specs.declared.state.Dialling.{Dialling}
use Rattle.channel_turns.specs.declared.state.Dialling.TheVariants as dialling
use Rattle.channel_turns.specs.declared.state.TurnEnd.{TurnEnd}
use Rattle.channel_turns.specs.declared.state.TurnEnd.TheVariants as turn_end
use Rattle.channel_turns.specs.declared.state.TurnEnded.{TurnEnded}
use Rattle.channel_turns.specs.declared.state.TurnTalk.{TurnTalk}
use Rattle.channel_turns.specs.declared.state.TurnWork.{TurnWork}
use Rattle.channel_turns.specs.declared.state.Turning.{Turning}
use Rattle.controller_calls.specs.Desk.{Desk, tell}
use Rattle.controller_calls.specs.Forwarded.{ForwardedState}
use Rattle.controller_calls.specs.Handing.{forwarded_reply, reply_if}
use Rattle.controller_calls.specs.Logons.{status_of}
use Rattle.controller_calls.specs.Passing.{IsKeep, judges_call}
use Rattle.controller_calls.specs.declared.calls.ControllerCall.TheVariants as call
use Rattle.controller_calls.specs.declared.calls.JudgedCall.{JudgedCall}
use Rattle.controller_calls.specs.declared.line.Line.{Line}
use Rattle.controller_calls.specs.declared.state.Work.{Work}
use Rattle.domain_controller.specs.Forwarding.{TrustDesk, after_ended, answer_found, answer_place, answer_trust_call, base_desk, beside, by_trust_heard, close_ended, end_turn, trust_desk, trust_server}
use Rattle.domain_controller.specs.Hearing.{hear}
use Rattle.domain_controller.specs.Machine.{by_heard}
use Rattle.domain_controller.specs.State.{State}
use Rattle.domain_controller.specs.Step.{LinkMap}
use Rattle.domain_controller.specs.TrustLaws.{AnswersOnce, answers_in, answers_judged, told_answers}
use Rattle.domain_controller.specs.TrustStep.{TrustPart, TrustParts, after_units, answer_dial, by_trust_event, close_by, close_number, event_and_turn, fail_dial, first_waiting, is_idle, link_with, next_if, next_part, next_turn, after_turned, open_by, parts_of, put_open, serve_bytes, serve_on, start_at, start_on, trust_halted, trust_part, trust_state_after, trust_step_on, turn_at, turned_work, turning_of, without_link}
use Rattle.domain_controller.specs.declared.hearing.Heard.{Heard}
use Rattle.domain_controller.specs.declared.hearing.Heard.TheVariants as heard
use Rattle.domain_controller.specs.declared.state.Running.{Running}
use Rattle.domain_controller.specs.declared.state.Talk.{Talk}
use Rattle.domain_controller.specs.declared.trusting.Parts.{Parts}
use Rattle.domain_controller.specs.declared.trusting.Queues.{Queues}
use Rattle.domain_controller.specs.declared.trusting.TrustWork.{TrustWork}
use Rattle.domain_controller.proofs.HandOnLaws.{AnsweredHere, CallComes, ForwardedOn, call_comes}
use Rattle.domain_controller.proofs.UnitLaws.{UnitCases, heard_comes}

-- ---- actions

pub more : (actions others : List Action) → told_answers (actions ++ others) ≡ told_answers actions + told_answers others
more [] others = omega arith
more (what ∷ actions) others = omega (arith, more actions others)

none_more : (actions : List Action) (what : Action) → answers_in what ≡ 0 → told_answers (actions ++ what ∷ []) ≡ told_answers actions
none_more actions what none = omega (arith, more actions (what ∷ []), none)

pub texts_none : (kept : List Action) → AllByRecursion IsKeep kept → told_answers kept ≡ 0
texts_none [] are = refl
texts_none (action.Keep text ∷ kept) are = omega (arith, texts_none kept are.1)
texts_none (action.Send at bytes ∷ kept) are = absurd are.0
texts_none (action.Dial peer ∷ kept) are = absurd are.0
texts_none (action.Close at cause ∷ kept) are = absurd are.0
texts_none (action.Told at outcome ∷ kept) are = absurd are.0
texts_none (action.Judged how ∷ kept) are = absurd are.0

pub judged_none : (how : Judged) → judges_call how ≡ true → answers_judged how ≡ 0
judged_none (judged.Passed status) judges = refl
judged_none judged.Forwarded judges = refl
judged_none (judged.Answered status) judges = absurd (let x = judges in cc)
judged_none judged.Barred judges = refl
judged_none judged.NoChannel judges = refl

-- ---- a unit on an accepted link answers none

abbrev BaseSame : Desk → ServedPart Desk Talk → Type 0
BaseSame d (Err why) = Unit {0}
BaseSame d (Ok part) = told_answers part.value.0.work.actions ≡ told_answers d.work.actions

abbrev pub UnlessJudged : Heard → Type 0 → Type 0
UnlessJudged (heard.Close cause) Fact = Fact
UnlessJudged (heard.Answer bytes talk) Fact = Fact
UnlessJudged (heard.Waits talk) Fact = Fact
UnlessJudged (heard.Asked line (call.Challenge c) talk) Fact = Fact
UnlessJudged (heard.Asked line (call.Authenticate c) talk) Fact = Fact
UnlessJudged (heard.Asked line (call.Judged c) talk) Fact = Unit {0}

base_cases : (link : ℕ) (name : List ℕ) (now : ℕ) (d : Desk) (left : List (List ℕ)) →
    UnitCases (λ h part. UnlessJudged h (BaseSame d part)) link name now d left
base_cases link name now d left = record {
  close = λ cause. none_more d.work.actions (action.Close link cause) refl;
  answer = λ bytes talk. none_more d.work.actions (action.Send link bytes) refl;
  waits = λ talk. refl;
  spent = λ line c talk none. tt;
  unknown = λ line c talk server rest is not. none_more d.work.actions _ refl;
  known = λ line c talk server rest is knows. none_more d.work.actions _ refl;
  denied = λ line c talk status fails none. none_more d.work.actions _ refl;
  accepted = λ line c talk opens. none_more d.work.actions _ refl;
  judged = λ line c talk after comes. tt;
}

abbrev TrustSame : TrustDesk → ServedPart TrustDesk Talk → Type 0
TrustSame d (Err why) = Unit {0}
TrustSame d (Ok part) = told_answers part.value.0.work.work.actions ≡ told_answers d.work.work.actions

beside_same : (d : TrustDesk) (queues : Queues) (part : ServedPart Desk Talk) → BaseSame (base_desk d) part → TrustSame d (beside queues part)
beside_same d queues (Err why) same = tt
beside_same d queues (Ok part) same = same

call_same : (c : JudgedCall) (line : Line) (before after : TrustDesk) → CallComes c line before after →
    told_answers after.work.work.actions ≡ told_answers before.work.work.actions
call_same c line before after (ForwardedOn is so) = ap told_answers so.actions ∙ none_more before.work.work.actions (action.Judged judged.Forwarded) refl
call_same c line before after (AnsweredHere so) =
    let last : List Action = action.Judged so.how ∷ action.Send line.link so.answer ∷ [] in
    ap told_answers so.actions
    ∙ omega (arith, more before.work.work.actions (so.kept ++ last), more so.kept last, texts_none so.kept so.texts, judged_none so.how so.judges)

unit_same : (h : Heard) (link : ℕ) (name : List ℕ) (now : ℕ) (d : TrustDesk) (left : List (List ℕ)) → TrustSame d (by_trust_heard h link name now d left)
unit_same (heard.Close cause) link name now d left =
    beside_same d d.work.queues (by_heard (heard.Close cause) link name now (base_desk d) left)
    (heard_comes (λ h part. UnlessJudged h (BaseSame (base_desk d) part)) link name now (base_desk d) left (base_cases link name now (base_desk d) left) (heard.Close cause))
unit_same (heard.Answer bytes talk) link name now d left =
    beside_same d d.work.queues (by_heard (heard.Answer bytes talk) link name now (base_desk d) left)
    (heard_comes (λ h part. UnlessJudged h (BaseSame (base_desk d) part)) link name now (base_desk d) left (base_cases link name now (base_desk d) left) (heard.Answer bytes talk))
unit_same (heard.Waits talk) link name now d left = refl
unit_same (heard.Asked line (call.Challenge c) talk) link name now d left =
    beside_same d d.work.queues (by_heard (heard.Asked line (call.Challenge c) talk) link name now (base_desk d) left)
    (heard_comes (λ h part. UnlessJudged h (BaseSame (base_desk d) part)) link name now (base_desk d) left (base_cases link name now (base_desk d) left)
    (heard.Asked line (call.Challenge c) talk))
unit_same (heard.Asked line (call.Authenticate c) talk) link name now d left =
    beside_same d d.work.queues (by_heard (heard.Asked line (call.Authenticate c) talk) link name now (base_desk d) left)
    (heard_comes (λ h part. UnlessJudged h (BaseSame (base_desk d) part)) link name now (base_desk d) left (base_cases link name now (base_desk d) left)
    (heard.Asked line (call.Authenticate c) talk))
unit_same (heard.Asked line (call.Judged c) talk) link name now d left =
    call_same c line d (answer_trust_call c name now line d) (call_comes c name now line d)

from_first : (first d : TrustDesk) (part : ServedPart TrustDesk Talk) → told_answers d.work.work.actions ≡ told_answers first.work.work.actions → TrustSame d part → TrustSame first part
from_first first d (Err why) is same = tt
from_first first d (Ok part) is same = same ∙ is

units_same : (name : List ℕ) (now link : ℕ) (first : TrustDesk) → StaysServing (trust_server name now link) (TrustSame first)
units_same name now link first = record {
  spent = λ why. tt;
  unit = λ bytes d talk left is.
      from_first first d (by_trust_heard (hear link bytes talk) link name now d left) is (unit_same (hear link bytes talk) link name now d left);
  refusal = λ why d talk left is. none_more d.work.work.actions (action.Close link close.BadUnit) refl ∙ is;
}

-- ---- a turn that ended answers one at most

abbrev told_by : TrustWork → ℕ
told_by w = told_answers w.work.actions

reply_same : (line : Option Line) (answer : Reply) (work : Work) → told_answers (reply_if line answer work).actions ≡ told_answers work.actions
reply_same None answer work = refl
reply_same (Some line) answer work = none_more work.actions _ refl

found_once : (found : Option ForwardedState) (place : ℕ × ℕ) (verdict : Verdict) (w : TrustWork) → told_by (answer_found found place verdict w) ≤ told_by w + 1
found_once None place verdict w = omega arith
found_once (Some f) place verdict w =
    let answered : Action = action.Judged (judged.Answered (status_of verdict)) in
    omega (arith, reply_same f.line (forwarded_reply f verdict) (tell w.work answered), more w.work.actions (answered ∷ []))

place_once : (place : ℕ × ℕ) (verdict : Verdict) (w : TrustWork) → told_by (answer_place place verdict w) ≤ told_by w + 1
place_once place verdict w = found_once _ place verdict w

end_once : (how : TurnEnd) (trust : ℕ) (w : TrustWork) → told_by (end_turn how trust w) ≤ told_by w + 1
end_once turn_end.Half trust w = omega arith
end_once turn_end.Opened trust w = omega arith
end_once turn_end.Set trust w = omega arith
end_once (turn_end.Answer place verdict) trust w = place_once (trust, place) verdict w
end_once (turn_end.Dropped place cause) trust w = place_once (trust, place) (Status no_logon_servers) w

closed_same : (closes : Option (ℕ × CloseCause)) (w : TrustWork) → told_by (close_ended closes w) ≡ told_by w
closed_same None w = refl
closed_same (Some closes) w = none_more w.work.actions (action.Close closes.0 closes.1) refl

ended_once : (ended : Option TurnEnded) (trust : ℕ) (w : TrustWork) → told_by (after_ended ended trust w) ≤ told_by w + 1
ended_once None trust w = omega arith
ended_once (Some ended) trust w = omega (arith, end_once ended.how trust (close_ended ended.closes w), closed_same ended.closes w)

-- ---- events on the link of the turn

-- the actions tell of no answer more
abbrev TellsNone : (Turning → Turned) → Type 0
TellsNone happens = (turning : Turning) → told_answers (happens turning).0.actions ≡ told_answers turning.actions

closes_if : (b : Bool) (turning : Turning) → told_answers (close_if b turning).0.actions ≡ told_answers turning.actions
closes_if false turning = refl
closes_if true turning = refl

fails_by : (how : Dialling) (turning : Turning) → told_answers (fail_by how turning).0.actions ≡ told_answers turning.actions
fails_by dialling.Nothing turning = refl
fails_by (dialling.Waits turn frames) turning = refl
fails_by (dialling.On number said) turning = refl

answers_by : (how : Dialling) (link : ℕ) (turning : Turning) → told_answers (answer_by how link turning).actions ≡ told_answers turning.actions
answers_by dialling.Nothing link turning = refl
answers_by (dialling.Waits turn frames) link turning = none_more turning.actions (action.Send link (joined_frames frames)) refl
answers_by (dialling.On number said) link turning = refl

abbrev ServedSame : TurnWork → TurnServed → Type 0
ServedSame first served = told_answers served.0.actions ≡ told_answers first.actions

turns_same : (first : TurnWork) → StaysOnTurns (ServedSame first)
turns_same first = record {
  waits = λ at talk other is. is;
  takes = λ unit joiner at talk is.
      taken_by (take_of at.channel unit).taken joiner (record at { channel = (take_of at.channel unit).state }) (ServedSame first) (record {
        skips = λ right taken. is;
        sends = λ right frames taken. none_more at.actions (action.Send at.link (joined_frames frames)) refl ∙ is;
        ends = λ how taken. is;
      });
  breaks = λ cause at talk is. is;
}

hears_if : (b : Bool) (number : ℕ) (said : LinkState TurnTalk) (piece : List ℕ) (turning : Turning) →
    told_answers (hear_if b number said piece turning).0.actions ≡ told_answers turning.actions
hears_if false number said piece turning = refl
hears_if true number said piece turning =
    let at : TurnWork = record { link = number; channel = turning.channel; actions = turning.actions; ended = None } in
    turn_stays (ServedSame at) (turns_same at) (cut_stream (said.rest ++ piece)) at said.talk refl

hears_by : (how : Dialling) (link : ℕ) (piece : List ℕ) (turning : Turning) → told_answers (hear_by how link piece turning).0.actions ≡ told_answers turning.actions
hears_by dialling.Nothing link piece turning = refl
hears_by (dialling.Waits turn frames) link piece turning = refl
hears_by (dialling.On number said) link piece turning = hears_if _ number said piece turning

turn_once : (found : Option Requester) (happens : Turning → Turned) (parts : Parts) → TellsNone happens → told_by parts.work ≡ 0 → told_by (turn_at found happens parts).work ≤ 1
turn_once None happens parts none first = omega (arith, first)
turn_once (Some channel) happens parts none first =
    let done : Turned = happens (turning_of channel parts) in
    omega (arith, ended_once done.1 parts.turn_of (turned_work parts.turn_of done.0 parts.work), none (turning_of channel parts), first)

-- ---- the next turn

abbrev StartsNone : Parts → Result (Part Parts) StepRefused → Type 0
StartsNone before (Err why) = Unit {0}
StartsNone before (Ok part) = told_by part.value.work ≡ told_by before.work

dialled_same : (start : Option (Unit {0} × List (List ℕ))) (peer : List ℕ) (turning : Turning) → told_answers (dial_for start peer turning).actions ≡ told_answers turning.actions
dialled_same None peer turning = refl
dialled_same (Some start) peer turning = none_more turning.actions (action.Dial peer) refl

begun_same : (next : Result (Part NextTurn) StepRefused) (peer : List ℕ) (channel : Requester) (trust : ℕ) (parts : Parts) →
    StartsNone parts (then_part (then_part next (dial_part peer (turning_of channel parts))) (λ turning rest. next_part (after_turned trust (turning, None) parts) rest))
begun_same (Err why) peer channel trust parts = tt
begun_same (Ok part) peer channel trust parts = dialled_same part.value.1 peer (record (turning_of channel parts) { channel = part.value.0 })

start_same : (found : Option Requester) (entry : Option Trust) (trust now : ℕ) (parts : Parts) (left : List (List ℕ)) → StartsNone parts (start_on found entry trust now parts left)
start_same None entry trust now parts left = refl
start_same (Some channel) None trust now parts left = refl
start_same (Some channel) (Some entry) trust now parts left = begun_same (channel_turn now channel left) entry.address channel trust parts

at_same : (first : Option ℕ) (trusts : List Trust) (now : ℕ) (parts : Parts) (left : List (List ℕ)) → StartsNone parts (start_at first trusts now parts left)
at_same None trusts now parts left = refl
at_same (Some trust) trusts now parts left = start_same _ _ trust now parts left

next_same : (idle : Bool) (trusts : List Trust) (now : ℕ) (parts : Parts) (left : List (List ℕ)) → StartsNone parts (next_if idle trusts now parts left)
next_same false trusts now parts left = refl
next_same true trusts now parts left = at_same (first_waiting parts.work.queues.requesters) trusts now parts left

-- ---- an event, and a step

abbrev OncePart : TrustPart → Type 0
OncePart (Err why) = Unit {0}
OncePart (Ok part) = told_by part.value.parts.work ≤ 1

closed_once : (b : Bool) (number : ℕ) (parts : Parts) → told_by parts.work ≡ 0 → told_by (close_by b number parts).work ≤ 1
closed_once false number parts first = omega (arith, first)
closed_once true number parts first =
    turn_once (slice_get parts.work.queues.requesters parts.turn_of) (λ turning. link_closes number turning) parts (λ turning. closes_if (is_on number turning.dialling) turning) first

opened_once : (full : Bool) (number : ℕ) (parts : Parts) → told_by parts.work ≤ 1 → told_by (open_by full number parts).work ≤ 1
opened_once true number parts once = omega (arith, once, none_more parts.work.work.actions (action.Close number close.TooManyLinks) refl)
opened_once false number parts once = once

dial_once : (waits : Bool) (number : ℕ) (parts : Parts) → told_by parts.work ≡ 0 → told_by (answer_dial waits number parts).work ≤ 1
dial_once false number parts first = omega (arith, first)
dial_once true number parts first =
    turn_once _ (λ turning. (link_answers number turning, None)) (without_link number parts) (λ turning. answers_by turning.dialling number turning) first

failed_once : (waits : Bool) (parts : Parts) → told_by parts.work ≡ 0 → told_by (fail_dial waits parts).work ≤ 1
failed_once false parts first = omega (arith, first)
failed_once true parts first = turn_once _ (λ turning. no_dial turning) parts (λ turning. fails_by turning.dialling turning) first

put_same : (open_link : Option (LinkState Talk)) (number : ℕ) (parts : Parts) → told_by (put_open open_link number parts).work ≡ told_by parts.work
put_same None number parts = refl
put_same (Some link) number parts = refl

units_once : (part : ServedPart TrustDesk Talk) (d : TrustDesk) (rest : List ℕ) (number : ℕ) (others : LinkMap) (parts : Parts) → told_by d.work ≡ 0 → TrustSame d part →
    OncePart (after_units part rest number others parts)
units_once (Err why) d rest number others parts first same = tt
units_once (Ok part) d rest number others parts first same =
    omega (arith, same, first, put_same (link_with rest part.value.1) number (record parts { work = part.value.0.work; links = others }))

serve_once : (found : Option (LinkState Talk)) (number : ℕ) (piece name : List ℕ) (now : ℕ) (others : LinkMap) (table : _) (parts : Parts) (left : List (List ℕ)) →
    told_by parts.work ≡ 0 → OncePart (serve_on found number piece name now others table parts left)
serve_once None number piece name now others table parts left first = omega (arith, first)
serve_once (Some link) number piece name now others table parts left first =
    let cut = cut_stream (link.rest ++ piece) in
    let d : TrustDesk = trust_desk table parts.work in
    units_once (served_cut (trust_server name now number) cut d link.talk left) d cut.rest number others parts first
    (served_stays (trust_server name now number) (TrustSame d) (units_same name now number d) cut d link.talk left refl)

bytes_once : (b : Bool) (number : ℕ) (piece name : List ℕ) (now : ℕ) (table : _) (parts : Parts) (left : List (List ℕ)) → told_by parts.work ≡ 0 →
    OncePart (serve_bytes b number piece name now table parts left)
bytes_once true number piece name now table parts left first =
    turn_once _ (λ turning. link_hears number piece turning) parts (λ turning. hears_by turning.dialling number piece turning) first
bytes_once false number piece name now table parts left first =
    serve_once (lookup same_number number parts.links) number piece name now (take_out same_number number parts.links) table parts left first

event_once : (what : Event) (name : List ℕ) (now : ℕ) (table : _) (parts : Parts) (left : List (List ℕ)) → told_by parts.work ≡ 0 →
    OncePart (by_trust_event what name now table parts left)
event_once (event.Opened number) name now table parts left first =
    opened_once _ number (close_number number parts) (closed_once (is_on number parts.dialling) number parts first)
event_once (event.Bytes number piece) name now table parts left first = bytes_once (is_on number parts.dialling) number piece name now table parts left first
event_once (event.Closed number) name now table parts left first = closed_once (is_on number parts.dialling) number parts first
event_once (event.Dialled number) name now table parts left first = dial_once (is_waiting parts.dialling) number parts first
event_once event.DialFailed name now table parts left first = failed_once (is_waiting parts.dialling) parts first
event_once event.Stop name now table parts left first = omega (arith, first)

with_table : (part : Result (Part Parts) StepRefused) (table : _) (before : Parts) → told_by before.work ≤ 1 → StartsNone before part →
    OncePart (then_part part (λ later last. trust_part table later last))
with_table (Err why) table before once same = tt
with_table (Ok part) table before once same = omega (arith, once, same)

turn_behind : (part : TrustPart) (trusts : List Trust) (now : ℕ) → OncePart part →
    OncePart (then_part part (λ after rest. then_part (next_turn trusts now after.parts rest) (λ later last. trust_part after.table later last)))
turn_behind (Err why) trusts now once = tt
turn_behind (Ok part) trusts now once =
    with_table (next_turn trusts now part.value.parts part.left) part.value.table part.value.parts once
    (next_same (is_idle part.value.parts.dialling) trusts now part.value.parts part.left)

taken_once : (part : TrustPart) (s : State) (left : List (List ℕ)) → OncePart part →
    told_answers (actions_of (step_by (λ (after : TrustParts). after.parts.work.work.actions) (λ after. trust_state_after s after) (trust_halted s) left part)) ≤ 1
taken_once (Err why) s left once = omega arith
taken_once (Ok part) s left once = once

step_once : (running : Option Running) (s : State) (what : Event) (now : ℕ) (left : List (List ℕ)) → told_answers (actions_of (trust_step_on running s what now left)) ≤ 1
step_once None s what now left = omega arith
step_once (Some running) s what now left =
    taken_once (event_and_turn s.table.trusts what s.name now s.table (parts_of running s.trusting) left) s left
    (turn_behind (by_trust_event what s.name now s.table (parts_of running s.trusting) left) s.table.trusts now
    (event_once what s.name now s.table (parts_of running s.trusting) left refl))

pub answers_once : AnswersOnce
answers_once = record { once = λ s what now left. step_once s.running s what now left }
