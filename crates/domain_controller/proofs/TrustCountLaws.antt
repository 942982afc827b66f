-- Each logon that is handed on is among those that were asked until it is answered. It serves `each_logon_is_answered`.
use Rattle.std.proofs.Common.{◌≡◌, ◌+◌, ◌++◌, ℕ, Bool, true, false, List, [], ◌∷◌, length, Option, Some, None, Result, Ok, Err, refl, sym, ap, subst, ◌∙◌, arith}
use Rattle.std.proofs.lemmas.List.{length-append}
use Rattle.std.specs.List.{AllByRecursion}
use Rattle.wire_base.specs.Maps.{lookup, same_number, take_out}
use Rattle.outside.specs.Machine.{Part, Stepped, step_by, then_part}
use Rattle.outside.specs.declared.action.Action.{Action}
use Rattle.outside.specs.declared.action.Action.TheVariants as action
use Rattle.outside.specs.declared.action.CloseCause.{CloseCause}
use Rattle.outside.specs.declared.action.CloseCause.TheVariants as close
use Rattle.outside.specs.declared.action.Judged.TheVariants as judged
use Rattle.outside.specs.declared.action.StepRefused.{StepRefused}
use Rattle.outside.specs.declared.event.Event.{Event}
use Rattle.outside.specs.declared.event.Event.TheVariants as event
use Rattle.rpc_units.specs.Stream.{cut_stream}
use Rattle.logon_stubs.specs.Status.{no_logon_servers}
use Rattle.logon_stubs.specs.declared.calls.Reply.{Reply}
use Rattle.logon_stubs.specs.declared.info.Verdict.{Verdict}
use Rattle.logon_stubs.specs.declared.info.Verdict.TheVariants.{Status}
use Rattle.account_table.specs.AccountTable.{AccountTable}
use Rattle.account_table.specs.declared.account.Trust.{Trust}
use Rattle.end_links.proofs.KeepLaws.{StaysServing, served_stays}
use Rattle.end_links.specs.Links.{LinkState}
use Rattle.end_links.specs.Serving.{ServedPart, served_cut}
use Rattle.end_loop.specs.Runs.{actions_of}
use Rattle.channel_client.specs.State.{Requester}
use Rattle.channel_turns.specs.Dials.{NextTurn, next_turn as channel_turn}
use Rattle.channel_turns.specs.Turning.{Turned, dial_for, dial_part, is_on, is_waiting, link_answers, link_closes, link_hears, no_dial}
use Rattle.channel_turns.specs.declared.state.TurnEnd.{TurnEnd}
use Rattle.channel_turns.specs.declared.state.TurnEnd.TheVariants as turn_end
use Rattle.channel_turns.specs.declared.state.TurnEnded.{TurnEnded}
use Rattle.channel_turns.specs.declared.state.Turning.{Turning}
use Rattle.controller_calls.specs.Desk.{Desk, tell}
use Rattle.controller_calls.specs.Forwarded.{ForwardedState}
use Rattle.controller_calls.specs.Handing.{forwarded_reply, reply_if}
use Rattle.controller_calls.specs.Logons.{status_of}
use Rattle.controller_calls.specs.declared.calls.ControllerCall.TheVariants as call
use Rattle.controller_calls.specs.declared.calls.JudgedCall.{JudgedCall}
use Rattle.controller_calls.specs.declared.line.Line.{Line}
use Rattle.controller_calls.specs.declared.state.Work.{Work}
use Rattle.controller_calls.proofs.OutcomeLaws.{texts_have}
use Rattle.domain_controller.specs.Forwarding.{TrustDesk, after_ended, answer_found, answer_trust_call, base_desk, beside, by_trust_heard, close_ended, end_turn, trust_desk, trust_server}
use Rattle.domain_controller.specs.Hearing.{hear}
use Rattle.domain_controller.specs.Machine.{by_heard}
use Rattle.domain_controller.specs.State.{State}
use Rattle.domain_controller.specs.Step.{LinkMap}
use Rattle.domain_controller.specs.TrustLaws.{answers_in, told_answers}
use Rattle.domain_controller.specs.TrustOrder.{AreCounted, EachIsAnswered, count_if, forwards_in, told_forwards}
use Rattle.domain_controller.specs.TrustStep.{TrustPart, TrustParts, after_turned, after_units, answer_dial, by_trust_event, close_by, close_number, event_and_turn, fail_dial, first_waiting, is_idle, link_with, next_if, next_part, next_turn, open_by, parts_of, put_open, serve_bytes, serve_on, start_at, start_on, trust_halted, trust_part, trust_state_after, trust_step_on, turn_at, turned_work, turning_of, without_link}
use Rattle.domain_controller.specs.Trusting.{same_place}
use Rattle.domain_controller.specs.declared.hearing.Heard.{Heard}
use Rattle.domain_controller.specs.declared.hearing.Heard.TheVariants as heard
use Rattle.domain_controller.specs.declared.state.Running.{Running}
use Rattle.domain_controller.specs.declared.state.Talk.{Talk}
use Rattle.domain_controller.specs.declared.trusting.Parts.{Parts}
use Rattle.domain_controller.specs.declared.trusting.Queues.{Queues}
use Rattle.domain_controller.specs.declared.trusting.TrustWork.{TrustWork}
use Rattle.domain_controller.specs.declared.trusting.Trusting.{Trusting}
use Rattle.domain_controller.proofs.HandOnLaws.{AnsweredHere, CallComes, ForwardedOn, call_comes}
use Rattle.domain_controller.proofs.OnceLaws.{judged_none, more, UnlessJudged}
use Rattle.domain_controller.proofs.TrustSettleLaws.{same_count, taken_count}
use Rattle.domain_controller.proofs.TrustWalkLaws.{AddsTo, IsGoing, IsOfGoing, adds_none, adds_one, answers_go, closes_go, dials_go, fails_go, going_adds, hears_go}
use Rattle.domain_controller.proofs.UnitLaws.{UnitCases, heard_comes}

-- ---- actions

-- an action tells neither that a logon is handed on, nor that one is answered
record IsStill (what : Action) : Type 0 where
  answers : answers_in what ≡ 0
  forwards : forwards_in what ≡ 0

still_going : IsOfGoing IsStill
still_going = record {
  sends = λ link bytes. record { answers = refl; forwards = refl };
  dials = λ peer. record { answers = refl; forwards = refl };
}

still_close : (link : ℕ) (cause : CloseCause) → IsStill (action.Close link cause)
still_close link cause = record { answers = refl; forwards = refl }

still_send : (link : ℕ) (bytes : List ℕ) → IsStill (action.Send link bytes)
still_send link bytes = record { answers = refl; forwards = refl }

more_forwards : (actions others : List Action) → told_forwards (actions ++ others) ≡ told_forwards actions + told_forwards others
more_forwards [] others = omega arith
more_forwards (what ∷ actions) others = omega (arith, more_forwards actions others)

still_answers : (new : List Action) → AllByRecursion IsStill new → told_answers new ≡ 0
still_answers [] all = refl
still_answers (what ∷ new) all = omega (arith, all.0.answers, still_answers new all.1)

still_forwards : (new : List Action) → AllByRecursion IsStill new → told_forwards new ≡ 0
still_forwards [] all = refl
still_forwards (what ∷ new) all = omega (arith, all.0.forwards, still_forwards new all.1)

-- ---- as many were asked at first and handed on since as are asked now and were answered

abbrev IsEven : ℕ → ℕ → List Action → Type 0
IsEven first asked actions = asked + told_answers actions ≡ first + told_forwards actions

abbrev Even : ℕ → TrustWork → Type 0
Even first w = IsEven first (length w.queues.forwarded) w.work.actions

even_more : (first asked : ℕ) (old all : List Action) → AddsTo IsStill old all → IsEven first asked old → IsEven first asked all
even_more first asked old all adds even =
    let new : List Action = adds.0 in
    let answers : told_answers all ≡ told_answers old + told_answers new = ap told_answers adds.1 ∙ more old new in
    let forwards : told_forwards all ≡ told_forwards old + told_forwards new = ap told_forwards adds.1 ∙ more_forwards old new in
    omega (arith, even, answers, forwards, still_answers new adds.2, still_forwards new adds.2)

-- ---- what follows of a turn that ended

reply_even : (line : Option Line) (answer : Reply) (first asked : ℕ) (work : Work) → IsEven first asked work.actions → IsEven first asked (reply_if line answer work).actions
reply_even None answer first asked work even = even
reply_even (Some line) answer first asked work even = even_more first asked work.actions _ (adds_one IsStill work.actions _ (still_send line.link _)) even

found_even : (found : Option ForwardedState) (first : ℕ) (place : ℕ × ℕ) (verdict : Verdict) (w : TrustWork) → lookup same_place place w.queues.forwarded ≡ found → Even first w →
    Even first (answer_found found place verdict w)
found_even None first place verdict w is even = even
found_even (Some f) first place verdict w is even =
    let what : Action = action.Judged (judged.Answered (status_of verdict)) in
    reply_even f.line (forwarded_reply f verdict) first (length (take_out same_place place w.queues.forwarded)) (tell w.work what)
    (omega (arith, even, more w.work.actions (what ∷ []), more_forwards w.work.actions (what ∷ []), taken_count place w.queues.forwarded f is))

end_even : (how : TurnEnd) (first trust : ℕ) (w : TrustWork) → Even first w → Even first (end_turn how trust w)
end_even turn_end.Half first trust w even = even
end_even turn_end.Opened first trust w even = even
end_even turn_end.Set first trust w even = even
end_even (turn_end.Answer place verdict) first trust w even = found_even (lookup same_place (trust, place) w.queues.forwarded) first (trust, place) verdict w refl even
end_even (turn_end.Dropped place cause) first trust w even =
    found_even (lookup same_place (trust, place) w.queues.forwarded) first (trust, place) (Status no_logon_servers) w refl even

closed_even : (closes : Option (ℕ × CloseCause)) (first : ℕ) (w : TrustWork) → Even first w → Even first (close_ended closes w)
closed_even None first w even = even
closed_even (Some closes) first w even =
    even_more first (length w.queues.forwarded) w.work.actions _ (adds_one IsStill w.work.actions (action.Close closes.0 closes.1) (still_close closes.0 closes.1)) even

ended_even : (ended : Option TurnEnded) (first trust : ℕ) (w : TrustWork) → Even first w → Even first (after_ended ended trust w)
ended_even None first trust w even = even
ended_even (Some ended) first trust w even = end_even ended.how first trust (close_ended ended.closes w) (closed_even ended.closes first w even)

abbrev Goes : (Turning → Turned) → Type 0
Goes happens = (turning : Turning) → AddsTo IsGoing turning.actions (happens turning).0.actions

turned_even : (first trust : ℕ) (turned : Turned) (parts : Parts) → AddsTo IsGoing parts.work.work.actions turned.0.actions → Even first parts.work → Even first (after_turned trust turned parts).work
turned_even first trust turned parts goes even =
    ended_even turned.1 first trust (turned_work trust turned.0 parts.work)
    (even_more first (length parts.work.queues.forwarded) parts.work.work.actions turned.0.actions (going_adds IsStill still_going parts.work.work.actions turned.0.actions goes) even)

turn_even : (found : Option Requester) (first : ℕ) (happens : Turning → Turned) (parts : Parts) → Goes happens → Even first parts.work → Even first (turn_at found happens parts).work
turn_even None first happens parts goes even = even
turn_even (Some channel) first happens parts goes even = turned_even first parts.turn_of (happens (turning_of channel parts)) parts (goes (turning_of channel parts)) even

-- ---- links and dials

left_even : (first number : ℕ) (parts : Parts) → Even first parts.work → Even first (without_link number parts).work
left_even first number parts even = omega (arith, even, same_count number parts.work.queues.forwarded)

close_even : (b : Bool) (first number : ℕ) (parts : Parts) → Even first parts.work → Even first (close_by b number parts).work
close_even false first number parts even = left_even first number parts even
close_even true first number parts even = turn_even _ first (λ turning. link_closes number turning) parts (λ turning. closes_go (is_on number turning.dialling) turning) even

opened_even : (full : Bool) (first number : ℕ) (parts : Parts) → Even first parts.work → Even first (open_by full number parts).work
opened_even true first number parts even =
    even_more first (length parts.work.queues.forwarded) parts.work.work.actions _ (adds_one IsStill parts.work.work.actions _ (still_close number close.TooManyLinks)) even
opened_even false first number parts even = even

dial_even : (waits : Bool) (first number : ℕ) (parts : Parts) → Even first parts.work → Even first (answer_dial waits number parts).work
dial_even false first number parts even = even
dial_even true first number parts even =
    turn_even _ first (λ turning. (link_answers number turning, None)) (without_link number parts) (λ turning. answers_go turning.dialling number turning) (left_even first number parts even)

failed_even : (waits : Bool) (first : ℕ) (parts : Parts) → Even first parts.work → Even first (fail_dial waits parts).work
failed_even false first parts even = even
failed_even true first parts even = turn_even _ first (λ turning. no_dial turning) parts (λ turning. fails_go turning.dialling turning) even

-- ---- units on an accepted link

abbrev BaseAdds : Desk → ServedPart Desk Talk → Type 0
BaseAdds d (Err why) = Unit {0}
BaseAdds d (Ok part) = AddsTo IsStill d.work.actions part.value.0.work.actions

base_cases : (link : ℕ) (name : List ℕ) (now : ℕ) (d : Desk) (left : List (List ℕ)) → UnitCases (λ h part. UnlessJudged h (BaseAdds d part)) link name now d left
base_cases link name now d left = record {
  close = λ cause. adds_one IsStill d.work.actions (action.Close link cause) (still_close link cause);
  answer = λ bytes talk. adds_one IsStill d.work.actions (action.Send link bytes) (still_send link bytes);
  waits = λ talk. adds_none IsStill d.work.actions;
  spent = λ line c talk none. tt;
  unknown = λ line c talk server rest is not. adds_one IsStill d.work.actions _ (still_send line.link _);
  known = λ line c talk server rest is knows. adds_one IsStill d.work.actions _ (still_send line.link _);
  denied = λ line c talk status fails none. adds_one IsStill d.work.actions _ (still_send line.link _);
  accepted = λ line c talk opens. adds_one IsStill d.work.actions _ (still_send line.link _);
  judged = λ line c talk after comes. tt;
}

abbrev PartEven : ℕ → ServedPart TrustDesk Talk → Type 0
PartEven first (Err why) = Unit {0}
PartEven first (Ok part) = Even first part.value.0.work

beside_even : (first : ℕ) (d : TrustDesk) (part : ServedPart Desk Talk) → Even first d.work → BaseAdds (base_desk d) part → PartEven first (beside d.work.queues part)
beside_even first d (Err why) even adds = tt
beside_even first d (Ok part) even adds = even_more first (length d.work.queues.forwarded) d.work.work.actions part.value.0.work.actions adds even

still_text : (text : List ℕ) → IsStill (action.Keep text)
still_text text = record { answers = refl; forwards = refl }

both_still : (one two : List Action) → AllByRecursion IsStill one → AllByRecursion IsStill two → AllByRecursion IsStill (one ++ two)
both_still [] two all also = also
both_still (what ∷ one) two all also = (all.0, both_still one two all.1 also)

call_even : (first : ℕ) (c : JudgedCall) (line : Line) (before after : TrustDesk) → CallComes c line before after → Even first before.work → Even first after.work
call_even first c line before after (ForwardedOn is so) even =
    let what : Action = action.Judged judged.Forwarded in
    let many = ap (λ (calls : _). length calls) so.forwarded ∙ length-append before.work.queues.forwarded _ in
    let answers : told_answers after.work.work.actions ≡ told_answers before.work.work.actions + told_answers (what ∷ []) = ap told_answers so.actions ∙ more before.work.work.actions (what ∷ []) in
    let forwards : told_forwards after.work.work.actions ≡ told_forwards before.work.work.actions + told_forwards (what ∷ []) =
    ap told_forwards so.actions ∙ more_forwards before.work.work.actions (what ∷ []) in
    omega (arith, even, many, answers, forwards)
call_even first c line before after (AnsweredHere so) even =
    let last : List Action = action.Judged so.how ∷ action.Send line.link so.answer ∷ [] in
    let texts : AllByRecursion IsStill so.kept = texts_have IsStill still_text so.kept so.texts in
    let how : IsStill (action.Judged so.how) = record { answers = judged_none so.how so.judges; forwards = ap count_if so.not } in
    let lasts : AllByRecursion IsStill last = (how, (still_send line.link so.answer, tt)) in
    let same : length after.work.queues.forwarded ≡ length before.work.queues.forwarded = ap (λ (q : Queues). length q.forwarded) so.queues in
    let all : IsEven first (length before.work.queues.forwarded) after.work.work.actions =
    even_more first (length before.work.queues.forwarded) before.work.work.actions after.work.work.actions (
      so.kept ++ last,
      so.actions,
      both_still so.kept last texts lasts,
    ) even in
    omega (arith, same, all)

unit_even : (first : ℕ) (h : Heard) (link : ℕ) (name : List ℕ) (now : ℕ) (d : TrustDesk) (left : List (List ℕ)) → Even first d.work → PartEven first (by_trust_heard h link name now d left)
unit_even first (heard.Close cause) link name now d left even =
    beside_even first d (by_heard (heard.Close cause) link name now (base_desk d) left) even
    (heard_comes (λ h part. UnlessJudged h (BaseAdds (base_desk d) part)) link name now (base_desk d) left (base_cases link name now (base_desk d) left) (heard.Close cause))
unit_even first (heard.Answer bytes talk) link name now d left even =
    beside_even first d (by_heard (heard.Answer bytes talk) link name now (base_desk d) left) even
    (heard_comes (λ h part. UnlessJudged h (BaseAdds (base_desk d) part)) link name now (base_desk d) left (base_cases link name now (base_desk d) left) (heard.Answer bytes talk))
unit_even first (heard.Waits talk) link name now d left even = even
unit_even first (heard.Asked line (call.Challenge c) talk) link name now d left even =
    beside_even first d (by_heard (heard.Asked line (call.Challenge c) talk) link name now (base_desk d) left) even
    (heard_comes (λ h part. UnlessJudged h (BaseAdds (base_desk d) part)) link name now (base_desk d) left (base_cases link name now (base_desk d) left)
    (heard.Asked line (call.Challenge c) talk))
unit_even first (heard.Asked line (call.Authenticate c) talk) link name now d left even =
    beside_even first d (by_heard (heard.Asked line (call.Authenticate c) talk) link name now (base_desk d) left) even
    (heard_comes (λ h part. UnlessJudged h (BaseAdds (base_desk d) part)) link name now (base_desk d) left (base_cases link name now (base_desk d) left)
    (heard.Asked line (call.Authenticate c) talk))
unit_even first (heard.Asked line (call.Judged c) talk) link name now d left even =
    call_even first c line d (answer_trust_call c name now line d) (call_comes c name now line d) even

units_even : (first : ℕ) (name : List ℕ) (now link : ℕ) → StaysServing (trust_server name now link) (PartEven first)
units_even first name now link = record {
  spent = λ why. tt;
  unit = λ bytes d talk left even. unit_even first (hear link bytes talk) link name now d left even;
  refusal = λ why d talk left even.
      even_more first (length d.work.queues.forwarded) d.work.work.actions _ (adds_one IsStill d.work.work.actions _ (still_close link close.BadUnit)) even;
}

-- ---- an event, the next turn, and a step

abbrev StepEven : ℕ → TrustPart → Type 0
StepEven first (Err why) = Unit {0}
StepEven first (Ok part) = Even first part.value.parts.work

put_even : (open_link : Option (LinkState Talk)) (first number : ℕ) (parts : Parts) → Even first parts.work → Even first (put_open open_link number parts).work
put_even None first number parts even = omega (arith, even, same_count number parts.work.queues.forwarded)
put_even (Some link) first number parts even = even

after_even : (part : ServedPart TrustDesk Talk) (rest : List ℕ) (first number : ℕ) (others : LinkMap) (parts : Parts) → PartEven first part → StepEven first (after_units part rest number others parts)
after_even (Err why) rest first number others parts even = tt
after_even (Ok part) rest first number others parts even =
    put_even (link_with rest part.value.1) first number (record parts { work = part.value.0.work; links = others }) even

serve_even : (found : Option (LinkState Talk)) (first number : ℕ) (piece name : List ℕ) (now : ℕ) (others : LinkMap) (table : AccountTable) (parts : Parts) (left : List (List ℕ)) →
    Even first parts.work → StepEven first (serve_on found number piece name now others table parts left)
serve_even None first number piece name now others table parts left even = even
serve_even (Some link) first number piece name now others table parts left even =
    let cut = cut_stream (link.rest ++ piece) in
    let d : TrustDesk = trust_desk table parts.work in
    after_even (served_cut (trust_server name now number) cut d link.talk left) cut.rest first number others parts
    (served_stays (trust_server name now number) (PartEven first) (units_even first name now number) cut d link.talk left even)

bytes_even : (b : Bool) (first number : ℕ) (piece name : List ℕ) (now : ℕ) (table : AccountTable) (parts : Parts) (left : List (List ℕ)) → Even first parts.work →
    StepEven first (serve_bytes b number piece name now table parts left)
bytes_even true first number piece name now table parts left even =
    turn_even _ first (λ turning. link_hears number piece turning) parts (λ turning. hears_go turning.dialling number piece turning) even
bytes_even false first number piece name now table parts left even =
    serve_even (lookup same_number number parts.links) first number piece name now (take_out same_number number parts.links) table parts left even

event_even : (what : Event) (first : ℕ) (name : List ℕ) (now : ℕ) (table : AccountTable) (parts : Parts) (left : List (List ℕ)) → Even first parts.work →
    StepEven first (by_trust_event what name now table parts left)
event_even (event.Opened number) first name now table parts left even =
    opened_even _ first number (close_number number parts) (close_even (is_on number parts.dialling) first number parts even)
event_even (event.Bytes number piece) first name now table parts left even = bytes_even (is_on number parts.dialling) first number piece name now table parts left even
event_even (event.Closed number) first name now table parts left even = close_even (is_on number parts.dialling) first number parts even
event_even (event.Dialled number) first name now table parts left even = dial_even (is_waiting parts.dialling) first number parts even
event_even event.DialFailed first name now table parts left even = failed_even (is_waiting parts.dialling) first parts even
event_even event.Stop first name now table parts left even = even

abbrev NextEven : ℕ → Result (Part Parts) StepRefused → Type 0
NextEven first (Err why) = Unit {0}
NextEven first (Ok part) = Even first part.value.work

begun_even : (next : Result (Part NextTurn) StepRefused) (first : ℕ) (peer : List ℕ) (channel : Requester) (trust : ℕ) (parts : Parts) → Even first parts.work →
    NextEven first (then_part (then_part next (dial_part peer (turning_of channel parts))) (λ turning rest. next_part (after_turned trust (turning, None) parts) rest))
begun_even (Err why) first peer channel trust parts even = tt
begun_even (Ok part) first peer channel trust parts even =
    let turning : Turning = record (turning_of channel parts) { channel = part.value.0 } in
    turned_even first trust (dial_for part.value.1 peer turning, None) parts (dials_go part.value.1 peer turning) even

start_even : (found : Option Requester) (entry : Option Trust) (first trust now : ℕ) (parts : Parts) (left : List (List ℕ)) → Even first parts.work → NextEven first (start_on found entry trust now parts left)
start_even None entry first trust now parts left even = even
start_even (Some channel) None first trust now parts left even = even
start_even (Some channel) (Some entry) first trust now parts left even = begun_even (channel_turn now channel left) first entry.address channel trust parts even

at_even : (who : Option ℕ) (first : ℕ) (trusts : List Trust) (now : ℕ) (parts : Parts) (left : List (List ℕ)) → Even first parts.work → NextEven first (start_at who trusts now parts left)
at_even None first trusts now parts left even = even
at_even (Some trust) first trusts now parts left even = start_even _ _ first trust now parts left even

next_even : (idle : Bool) (first : ℕ) (trusts : List Trust) (now : ℕ) (parts : Parts) (left : List (List ℕ)) → Even first parts.work → NextEven first (next_if idle trusts now parts left)
next_even false first trusts now parts left even = even
next_even true first trusts now parts left even = at_even (first_waiting parts.work.queues.requesters) first trusts now parts left even

with_table : (part : Result (Part Parts) StepRefused) (first : ℕ) (table : AccountTable) → NextEven first part → StepEven first (then_part part (λ later last. trust_part table later last))
with_table (Err why) first table even = tt
with_table (Ok part) first table even = even

turn_behind : (part : TrustPart) (first : ℕ) (trusts : List Trust) (now : ℕ) → StepEven first part →
    StepEven first (then_part part (λ after rest. then_part (next_turn trusts now after.parts rest) (λ later last. trust_part after.table later last)))
turn_behind (Err why) first trusts now even = tt
turn_behind (Ok part) first trusts now even =
    with_table (next_turn trusts now part.value.parts part.left) first part.value.table (next_even (is_idle part.value.parts.dialling) first trusts now part.value.parts part.left even)

abbrev CountedAfter : Trusting → Stepped State → Type 0
CountedAfter before stepped = AreCounted before (actions_of stepped) stepped.state.running stepped.state.trusting

taken_even : (part : TrustPart) (s : State) (left : List (List ℕ)) → StepEven (length s.trusting.queues.forwarded) part →
    CountedAfter s.trusting (step_by (λ (after : TrustParts). after.parts.work.work.actions) (λ after. trust_state_after s after) (trust_halted s) left part)
taken_even (Err why) s left even = tt
taken_even (Ok part) s left even = even

step_even : (running : Option Running) (s : State) (what : Event) (now : ℕ) (left : List (List ℕ)) → s.running ≡ running → CountedAfter s.trusting (trust_step_on running s what now left)
step_even None s what now left is = subst (λ (r : Option Running). AreCounted s.trusting [] r s.trusting) (sym is) tt
step_even (Some running) s what now left is =
    let parts : Parts = parts_of running s.trusting in
    let first : ℕ = length s.trusting.queues.forwarded in
    taken_even (event_and_turn s.table.trusts what s.name now s.table parts left) s left
    (turn_behind (by_trust_event what s.name now s.table parts left) first s.table.trusts now (event_even what first s.name now s.table parts left refl))

pub each_is_answered : EachIsAnswered
each_is_answered = record { step = λ s what now left. step_even s.running s what now left refl }
