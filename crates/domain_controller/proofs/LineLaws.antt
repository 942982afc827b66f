-- A logon that was asked is answered on the link on which it came, while that is open. It serves
-- `replies_go_to_open_links`.
use Rattle.std.proofs.Common.{◌≡◌, ◌==◌, ◌++◌, ℕ, Bool, true, false, List, [], ◌∷◌, Option, Some, None, is_some, Result, Ok, Err, refl, sym, ap, subst, ◌∙◌, arith, if◌then◌else◌}
use Rattle.std.proofs.lemmas.Bool.Decides.{nat_tests}
use Rattle.std.specs.List.{AllByRecursion}
use Rattle.wire_base.proofs.MapLaws.{lookup-put_other, lookup-put_same, lookup-take_out_other}
use Rattle.wire_base.specs.Maps.{has_key, lookup, put, same_number, take_out}
use Rattle.outside.specs.Machine.{Part, step_by, then_part}
use Rattle.outside.specs.declared.action.StepRefused.{StepRefused}
use Rattle.outside.specs.declared.event.Event.{Event}
use Rattle.outside.specs.declared.event.Event.TheVariants as event
use Rattle.rpc_units.specs.Stream.{cut_stream}
use Rattle.rpc_units.specs.declared.unit.Unit.{Unit as RpcUnit}
use Rattle.account_table.specs.AccountTable.{AccountTable}
use Rattle.account_table.specs.declared.account.Trust.{Trust}
use Rattle.end_links.proofs.KeepLaws.{StaysServing, served_stays}
use Rattle.end_links.specs.Links.{LinkState}
use Rattle.end_links.specs.Serving.{ServedPart, served_cut}
use Rattle.logon_stubs.specs.Status.{no_logon_servers}
use Rattle.logon_stubs.specs.declared.info.Verdict.{Verdict}
use Rattle.logon_stubs.specs.declared.info.Verdict.TheVariants.{Status}
use Rattle.channel_client.specs.State.{Requester}
use Rattle.channel_turns.specs.Dials.{NextTurn, next_turn as channel_turn}
use Rattle.channel_turns.specs.Turning.{Turned, dial_part, is_on, is_waiting, link_answers, link_closes, link_hears, no_dial}
use Rattle.channel_turns.specs.declared.state.TurnEnd.{TurnEnd}
use Rattle.channel_turns.specs.declared.state.TurnEnd.TheVariants as turn_end
use Rattle.channel_turns.specs.declared.state.TurnEnded.{TurnEnded}
use Rattle.channel_turns.specs.declared.state.Turning.{Turning}
use Rattle.controller_calls.specs.Desk.{Desk}
use Rattle.controller_calls.specs.Forwarded.{ForwardedState, line_unless, line_without}
use Rattle.controller_calls.specs.declared.calls.ControllerCall.TheVariants as call
use Rattle.controller_calls.specs.declared.calls.JudgedCall.{JudgedCall}
use Rattle.controller_calls.specs.declared.line.Line.{Line}
use Rattle.domain_controller.specs.Forwarding.{TrustDesk, after_ended, answer_found, answer_trust_call, base_desk, beside, by_trust_heard, calls_without, close_ended, end_turn, trust_desk, trust_server}
use Rattle.domain_controller.specs.Hearing.{hear}
use Rattle.domain_controller.specs.Machine.{by_call, by_heard}
use Rattle.domain_controller.specs.State.{State}
use Rattle.domain_controller.specs.Step.{LinkMap}
use Rattle.domain_controller.specs.TrustLaws.{AnswersOpenLinks, AreApart, AreLinesOpen, AreNotOn, IsLineOpen, IsNotOn, OpenUnlessStopped}
use Rattle.domain_controller.specs.TrustStep.{TrustPart, TrustParts, after_turned, after_units, answer_dial, by_trust_event, close_by, close_number, event_and_turn, fail_dial, first_waiting, is_idle, link_with, next_if, next_part, next_turn, open_by, parts_of, put_open, serve_bytes, serve_on, start_at, start_on, trust_halted, trust_part, trust_state_after, trust_step_on, turn_at, turning_of, without_link}
use Rattle.domain_controller.specs.Trusting.{ForwardedCalls, same_place}
use Rattle.domain_controller.specs.declared.hearing.Heard.{Heard}
use Rattle.domain_controller.specs.declared.hearing.Heard.TheVariants as heard
use Rattle.domain_controller.specs.declared.state.Running.{Running}
use Rattle.domain_controller.specs.declared.state.Talk.{Talk}
use Rattle.domain_controller.specs.declared.trusting.Parts.{Parts}
use Rattle.domain_controller.specs.declared.trusting.Queues.{Queues}
use Rattle.domain_controller.specs.declared.trusting.TrustWork.{TrustWork}
use Rattle.domain_controller.proofs.HandOnLaws.{AnsweredHere, CallComes, ForwardedOn, call_comes}
use Rattle.domain_controller.proofs.UnitLaws.{IsHeardAs, bytes_heard}

-- ---- links

abbrev IsOpen : LinkMap → ℕ → Type 0
IsOpen links n = is_some (lookup same_number n links) ≡ true

apart : (number n : ℕ) → (n == number) ≡ false → (k : ℕ) → same_number number k ≡ true → same_number n k ≡ false
apart number n differ k same = grind (arith, nat_tests)

apart_both : (number n : ℕ) → (n == number) ≡ false → same_number n number ≡ false
apart_both number n differ = differ

same_itself : (number : ℕ) → same_number number number ≡ true
same_itself number = grind (arith, nat_tests)

equal : (n number : ℕ) → (n == number) ≡ true → n ≡ number
equal n number same = grind (arith, nat_tests)

open_taken : (links : LinkMap) (number n : ℕ) → (n == number) ≡ false → IsOpen links n → IsOpen (take_out same_number number links) n
open_taken links number n differ is = ap is_some (lookup-take_out_other same_number number n links (apart number n differ)) ∙ is

open_put_by : (b : Bool) (links : LinkMap) (number n : ℕ) (link : LinkState Talk) → (n == number) ≡ b → ((b ≡ false) → IsOpen links n) → IsOpen (put same_number number link links) n
open_put_by true links number n link same is =
    subst (λ (m : ℕ). IsOpen (put same_number number link links) m) (sym (equal n number same))
    (ap is_some (lookup-put_same same_number number link links (same_itself number)))
open_put_by false links number n link differ is =
    ap is_some (lookup-put_other same_number number n link links (apart number n differ) (apart_both number n differ)) ∙ is refl

-- ---- lines

abbrev LineHas : (ℕ → Type 0) → Option Line → Type 0
LineHas Has None = Unit {0}
LineHas Has (Some line) = Has line.link

abbrev LinesHave : (ℕ → Type 0) → ForwardedCalls → Type 0
LinesHave Has calls = AllByRecursion (λ (entry : (ℕ × ℕ) × ForwardedState). LineHas Has entry.1.line) calls

line_more : (One Other : ℕ → Type 0) → ((n : ℕ) → One n → Other n) → (line : Option Line) → LineHas One line → LineHas Other line
line_more One Other more None has = tt
line_more One Other more (Some line) has = more line.link has

lines_more : (One Other : ℕ → Type 0) → ((n : ℕ) → One n → Other n) → (calls : ForwardedCalls) → LinesHave One calls → LinesHave Other calls
lines_more One Other more [] have = tt
lines_more One Other more (entry ∷ calls) have = (line_more One Other more entry.1.line have.0, lines_more One Other more calls have.1)

line_as : (links : LinkMap) (line : Option Line) → IsLineOpen line links → LineHas (IsOpen links) line
line_as links None is = tt
line_as links (Some line) is = is

line_is : (links : LinkMap) (line : Option Line) → LineHas (IsOpen links) line → IsLineOpen line links
line_is links None is = tt
line_is links (Some line) is = is

lines_as : (links : LinkMap) (calls : ForwardedCalls) → AreLinesOpen calls links → LinesHave (IsOpen links) calls
lines_as links [] have = tt
lines_as links (entry ∷ calls) have = (line_as links entry.1.line have.0, lines_as links calls have.1)

lines_are : (links : LinkMap) (calls : ForwardedCalls) → LinesHave (IsOpen links) calls → AreLinesOpen calls links
lines_are links [] have = tt
lines_are links (entry ∷ calls) have = (line_is links entry.1.line have.0, lines_are links calls have.1)

-- without those on that link

abbrev Others : (ℕ → Type 0) → ℕ → ℕ → Type 0
Others Has number n = Has n × ((n == number) ≡ false)

unless : (b : Bool) (Has : ℕ → Type 0) (number : ℕ) (line : Line) → (line.link == number) ≡ b → Has line.link → LineHas (Others Has number) (line_unless b line)
unless true Has number line is has = tt
unless false Has number line is has = (has, is)

line_left : (Has : ℕ → Type 0) (number : ℕ) (line : Option Line) → LineHas Has line → LineHas (Others Has number) (line_without number line)
line_left Has number None has = tt
line_left Has number (Some line) has = unless (line.link == number) Has number line refl has

lines_left : (Has : ℕ → Type 0) (number : ℕ) (calls : ForwardedCalls) → LinesHave Has calls → LinesHave (Others Has number) (calls_without number calls)
lines_left Has number [] have = tt
lines_left Has number (entry ∷ calls) have = (line_left Has number entry.1.line have.0, lines_left Has number calls have.1)

-- one more, and one less

lines_push : (Has : ℕ → Type 0) (calls : ForwardedCalls) (place : ℕ × ℕ) (f : ForwardedState) → LinesHave Has calls → LineHas Has f.line → LinesHave Has (calls ++ (place, f) ∷ [])
lines_push Has [] place f have has = (has, tt)
lines_push Has (entry ∷ calls) place f have has = (have.0, lines_push Has calls place f have.1 has)

taken_by : (b : Bool) (Has : ℕ → Type 0) (entry : (ℕ × ℕ) × ForwardedState) (calls rest : ForwardedCalls) → LinesHave Has (entry ∷ calls) → LinesHave Has rest →
    LinesHave Has (if b then calls else entry ∷ rest)
taken_by true Has entry calls rest have left = have.1
taken_by false Has entry calls rest have left = (have.0, left)

lines_taken : (Has : ℕ → Type 0) (place : ℕ × ℕ) (calls : ForwardedCalls) → LinesHave Has calls → LinesHave Has (take_out same_place place calls)
lines_taken Has place [] have = tt
lines_taken Has place (entry ∷ calls) have =
    taken_by (has_key same_place place entry) Has entry calls (take_out same_place place calls) have (lines_taken Has place calls have.1)

-- ---- what follows of a turn that ended

abbrev WorkHas : (ℕ → Type 0) → TrustWork → Type 0
WorkHas Has w = LinesHave Has w.queues.forwarded

found_has : (Has : ℕ → Type 0) (found : Option ForwardedState) (place : ℕ × ℕ) (verdict : Verdict) (w : TrustWork) → WorkHas Has w → WorkHas Has (answer_found found place verdict w)
found_has Has None place verdict w have = have
found_has Has (Some f) place verdict w have = lines_taken Has place w.queues.forwarded have

end_has : (Has : ℕ → Type 0) (how : TurnEnd) (trust : ℕ) (w : TrustWork) → WorkHas Has w → WorkHas Has (end_turn how trust w)
end_has Has turn_end.Half trust w have = have
end_has Has turn_end.Opened trust w have = have
end_has Has turn_end.Set trust w have = have
end_has Has (turn_end.Answer place verdict) trust w have = found_has Has _ (trust, place) verdict w have
end_has Has (turn_end.Dropped place cause) trust w have = found_has Has _ (trust, place) (Status no_logon_servers) w have

closed_has : (Has : ℕ → Type 0) (closes : Option _) (w : TrustWork) → WorkHas Has w → WorkHas Has (close_ended closes w)
closed_has Has None w have = have
closed_has Has (Some closes) w have = have

ended_has : (Has : ℕ → Type 0) (ended : Option TurnEnded) (trust : ℕ) (w : TrustWork) → WorkHas Has w → WorkHas Has (after_ended ended trust w)
ended_has Has None trust w have = have
ended_has Has (Some ended) trust w have = end_has Has ended.how trust (close_ended ended.closes w) (closed_has Has ended.closes w have)

abbrev Open : Parts → Type 0
Open parts = WorkHas (IsOpen parts.links) parts.work

turn_has : (Has : ℕ → Type 0) (found : Option Requester) (happens : Turning → Turned) (parts : Parts) → WorkHas Has parts.work → WorkHas Has (turn_at found happens parts).work
turn_has Has None happens parts have = have
turn_has Has (Some channel) happens parts have = ended_has Has (happens (turning_of channel parts)).1 parts.turn_of _ have

turn_open : (found : Option Requester) (happens : Turning → Turned) (parts : Parts) → Open parts → Open (turn_at found happens parts)
turn_open None happens parts have = have
turn_open (Some channel) happens parts have = turn_has (IsOpen parts.links) (Some channel) happens parts have

-- ---- links that close and open

left_open : (number : ℕ) (parts : Parts) → Open parts → Open (without_link number parts)
left_open number parts have =
    lines_more (Others (IsOpen parts.links) number) (IsOpen (take_out same_number number parts.links)) (λ n is. open_taken parts.links number n is.1 is.0)
    (calls_without number parts.work.queues.forwarded) (lines_left (IsOpen parts.links) number parts.work.queues.forwarded have)

closed_open : (b : Bool) (number : ℕ) (parts : Parts) → Open parts → Open (close_by b number parts)
closed_open false number parts have = left_open number parts have
closed_open true number parts have = turn_open _ (λ turning. link_closes number turning) parts have

opened_open : (full : Bool) (number : ℕ) (parts : Parts) → Open parts → Open (open_by full number parts)
opened_open true number parts have = have
opened_open false number parts have =
    lines_more (IsOpen parts.links) (IsOpen (put same_number number _ parts.links)) (λ n is. open_put_by (n == number) parts.links number n _ refl (λ differ. is))
    parts.work.queues.forwarded have

dial_open : (waits : Bool) (number : ℕ) (parts : Parts) → Open parts → Open (answer_dial waits number parts)
dial_open false number parts have = have
dial_open true number parts have = turn_open _ (λ turning. (link_answers number turning, None)) (without_link number parts) (left_open number parts have)

failed_open : (waits : Bool) (parts : Parts) → Open parts → Open (fail_dial waits parts)
failed_open false parts have = have
failed_open true parts have = turn_open _ (λ turning. no_dial turning) parts have

-- ---- units on an accepted link: each logon that is handed on came on it

abbrev IsOn : ℕ → Heard → Type 0
IsOn link (heard.Close cause) = Unit {0}
IsOn link (heard.Answer bytes talk) = Unit {0}
IsOn link (heard.Waits talk) = Unit {0}
IsOn link (heard.Asked line c talk) = line.link ≡ link

on_line : (link : ℕ) (unit : RpcUnit) (talk : Talk) (h : Heard) → IsHeardAs link unit talk h → IsOn link h
on_line link unit talk (heard.Close cause) known = tt
on_line link unit talk (heard.Answer bytes later) known = tt
on_line link unit talk (heard.Waits later) known = tt
on_line link unit talk (heard.Asked line c later) known = ap (λ (l : Line). l.link) known.0.line_is

heard_on : (link : ℕ) (bytes : List ℕ) (talk : Talk) → IsOn link (hear link bytes talk)
heard_on link bytes talk = bytes_heard (IsOn link) link bytes talk (λ cause. tt) (λ unit h is known. on_line link unit talk h known)

module _ (Has : ℕ → Type 0) where
  abbrev PartHas : ServedPart TrustDesk Talk → Type 0
  PartHas (Err why) = Unit {0}
  PartHas (Ok part) = WorkHas Has part.value.0.work

  beside_has : (queues : Queues) (part : ServedPart Desk Talk) → LinesHave Has queues.forwarded → PartHas (beside queues part)
  beside_has queues (Err why) have = tt
  beside_has queues (Ok part) have = have

  call_has : (c : JudgedCall) (line : Line) (before after : TrustDesk) → CallComes c line before after → Has line.link → WorkHas Has before.work → WorkHas Has after.work
  call_has c line before after (ForwardedOn is so) has have =
      subst (λ (calls : ForwardedCalls). LinesHave Has calls) (sym so.forwarded)
      (lines_push Has before.work.queues.forwarded (is.goes.trust, is.goes.requester.next_place) _ have has)
  call_has c line before after (AnsweredHere so) has have = subst (λ (queues : Queues). LinesHave Has queues.forwarded) (sym so.queues) have

  unit_has : (h : Heard) (link : ℕ) (name : List ℕ) (now : ℕ) (d : TrustDesk) (left : List (List ℕ)) → IsOn link h → Has link → WorkHas Has d.work →
      PartHas (by_trust_heard h link name now d left)
  unit_has (heard.Close cause) link name now d left on has have = beside_has d.work.queues (by_heard (heard.Close cause) link name now (base_desk d) left) have
  unit_has (heard.Answer bytes talk) link name now d left on has have = beside_has d.work.queues (by_heard (heard.Answer bytes talk) link name now (base_desk d) left) have
  unit_has (heard.Waits talk) link name now d left on has have = beside_has d.work.queues (by_heard (heard.Waits talk) link name now (base_desk d) left) have
  unit_has (heard.Asked line (call.Challenge c) talk) link name now d left on has have =
      beside_has d.work.queues (by_call (call.Challenge c) line talk name now (base_desk d) left) have
  unit_has (heard.Asked line (call.Authenticate c) talk) link name now d left on has have =
      beside_has d.work.queues (by_call (call.Authenticate c) line talk name now (base_desk d) left) have
  unit_has (heard.Asked line (call.Judged c) talk) link name now d left on has have =
      call_has c line d (answer_trust_call c name now line d) (call_comes c name now line d) (subst Has (sym on) has) have

  units_have : (name : List ℕ) (now link : ℕ) → Has link → StaysServing (trust_server name now link) PartHas
  units_have name now link has = record {
    spent = λ why. tt;
    unit = λ bytes d talk left have. unit_has (hear link bytes talk) link name now d left (heard_on link bytes talk) has have;
    refusal = λ why d talk left have. have;
  }

-- while a link is served, it isn't among the others

abbrev OrThat : LinkMap → ℕ → ℕ → Type 0
OrThat links number n = ((n == number) ≡ false) → IsOpen links n

abbrev OpenPart : TrustPart → Type 0
OpenPart (Err why) = Unit {0}
OpenPart (Ok part) = Open part.value.parts

put_has : (open_link : Option (LinkState Talk)) (number : ℕ) (w : TrustWork) (links : LinkMap) (parts : Parts) → WorkHas (OrThat links number) w →
    Open (put_open open_link number (record parts { work = w; links = take_out same_number number links }))
put_has None number w links parts have =
    lines_more (Others (OrThat links number) number) (IsOpen (take_out same_number number links)) (λ n is. open_taken links number n is.1 (is.0 is.1))
    (calls_without number w.queues.forwarded) (lines_left (OrThat links number) number w.queues.forwarded have)
put_has (Some link) number w links parts have =
    lines_more (OrThat links number) (IsOpen (put same_number number link (take_out same_number number links)))
    (λ n is. open_put_by (n == number) (take_out same_number number links) number n link refl (λ differ. open_taken links number n differ (is differ)))
    w.queues.forwarded have

units_open : (part : ServedPart TrustDesk Talk) (rest : List ℕ) (number : ℕ) (parts : Parts) → PartHas (OrThat parts.links number) part →
    OpenPart (after_units part rest number (take_out same_number number parts.links) parts)
units_open (Err why) rest number parts have = tt
units_open (Ok part) rest number parts have = put_has (link_with rest part.value.1) number part.value.0.work parts.links parts have

none_by : (b : Bool) (links : LinkMap) (number n : ℕ) → lookup same_number number links ≡ None → IsOpen links n → (n == number) ≡ b → (n == number) ≡ false
none_by false links number n none is differ = differ
none_by true links number n none is same =
    let never : false ≡ true = sym (ap is_some none) ∙ ap (λ (m : ℕ). is_some (lookup same_number m links)) (sym (equal n number same)) ∙ is in
    absurd (let x = never in cc)

none_there : (links : LinkMap) (number n : ℕ) → lookup same_number number links ≡ None → IsOpen links n → (n == number) ≡ false
none_there links number n none is = none_by (n == number) links number n none is refl

serve_open : (found : Option (LinkState Talk)) (number : ℕ) (piece name : List ℕ) (now : ℕ) (table : AccountTable) (parts : Parts) (left : List (List ℕ)) →
    lookup same_number number parts.links ≡ found → Open parts → OpenPart (serve_on found number piece name now (take_out same_number number parts.links) table parts left)
serve_open None number piece name now table parts left none have =
    lines_more (IsOpen parts.links) (IsOpen (take_out same_number number parts.links))
    (λ n is. open_taken parts.links number n (none_there parts.links number n none is) is) parts.work.queues.forwarded have
serve_open (Some link) number piece name now table parts left there have =
    let cut = cut_stream (link.rest ++ piece) in
    let d : TrustDesk = trust_desk table parts.work in
    let that : OrThat parts.links number number = λ differ. ap is_some there in
    units_open (served_cut (trust_server name now number) cut d link.talk left) cut.rest number parts
    (served_stays (trust_server name now number) (PartHas (OrThat parts.links number)) (units_have (OrThat parts.links number) name now number that) cut d link.talk left
    (lines_more (IsOpen parts.links) (OrThat parts.links number) (λ n is differ. is) parts.work.queues.forwarded have))

bytes_open : (b : Bool) (number : ℕ) (piece name : List ℕ) (now : ℕ) (table : AccountTable) (parts : Parts) (left : List (List ℕ)) → Open parts →
    OpenPart (serve_bytes b number piece name now table parts left)
bytes_open true number piece name now table parts left have = turn_open _ (λ turning. link_hears number piece turning) parts have
bytes_open false number piece name now table parts left have =
    serve_open (lookup same_number number parts.links) number piece name now table parts left refl have

-- ---- an event, the next turn, and a step

event_open : (what : Event) (name : List ℕ) (now : ℕ) (table : AccountTable) (parts : Parts) (left : List (List ℕ)) → Open parts → OpenPart (by_trust_event what name now table parts left)
event_open (event.Opened number) name now table parts left have =
    opened_open _ number (close_number number parts) (closed_open (is_on number parts.dialling) number parts have)
event_open (event.Bytes number piece) name now table parts left have = bytes_open (is_on number parts.dialling) number piece name now table parts left have
event_open (event.Closed number) name now table parts left have = closed_open (is_on number parts.dialling) number parts have
event_open (event.Dialled number) name now table parts left have = dial_open (is_waiting parts.dialling) number parts have
event_open event.DialFailed name now table parts left have = failed_open (is_waiting parts.dialling) parts have
event_open event.Stop name now table parts left have = have

-- what holds of the logons that were asked and of the accepted links holds behind the next turn
module _ (Fact : ForwardedCalls → LinkMap → Type 0) where
  abbrev Holds : Parts → Type 0
  Holds parts = Fact parts.work.queues.forwarded parts.links

  abbrev NextHolds : Result (Part Parts) StepRefused → Type 0
  NextHolds (Err why) = Unit {0}
  NextHolds (Ok part) = Holds part.value

  abbrev HoldsPart : TrustPart → Type 0
  HoldsPart (Err why) = Unit {0}
  HoldsPart (Ok part) = Holds part.value.parts

  begun_holds : (next : Result (Part NextTurn) StepRefused) (peer : List ℕ) (channel : Requester) (trust : ℕ) (parts : Parts) → Holds parts →
      NextHolds (then_part (then_part next (dial_part peer (turning_of channel parts))) (λ turning rest. next_part (after_turned trust (turning, None) parts) rest))
  begun_holds (Err why) peer channel trust parts have = tt
  begun_holds (Ok part) peer channel trust parts have = have

  start_holds : (found : Option Requester) (entry : Option Trust) (trust now : ℕ) (parts : Parts) (left : List (List ℕ)) → Holds parts → NextHolds (start_on found entry trust now parts left)
  start_holds None entry trust now parts left have = have
  start_holds (Some channel) None trust now parts left have = have
  start_holds (Some channel) (Some entry) trust now parts left have = begun_holds (channel_turn now channel left) entry.address channel trust parts have

  at_holds : (first : Option ℕ) (trusts : List Trust) (now : ℕ) (parts : Parts) (left : List (List ℕ)) → Holds parts → NextHolds (start_at first trusts now parts left)
  at_holds None trusts now parts left have = have
  at_holds (Some trust) trusts now parts left have = start_holds _ _ trust now parts left have

  next_holds : (idle : Bool) (trusts : List Trust) (now : ℕ) (parts : Parts) (left : List (List ℕ)) → Holds parts → NextHolds (next_if idle trusts now parts left)
  next_holds false trusts now parts left have = have
  next_holds true trusts now parts left have = at_holds (first_waiting parts.work.queues.requesters) trusts now parts left have

  with_table : (part : Result (Part Parts) StepRefused) (table : AccountTable) → NextHolds part → HoldsPart (then_part part (λ later last. trust_part table later last))
  with_table (Err why) table have = tt
  with_table (Ok part) table have = have

  turn_behind : (part : TrustPart) (trusts : List Trust) (now : ℕ) → HoldsPart part →
      HoldsPart (then_part part (λ after rest. then_part (next_turn trusts now after.parts rest) (λ later last. trust_part after.table later last)))
  turn_behind (Err why) trusts now have = tt
  turn_behind (Ok part) trusts now have =
      with_table (next_turn trusts now part.value.parts part.left) part.value.table (next_holds (is_idle part.value.parts.dialling) trusts now part.value.parts part.left have)

abbrev OpenFact : ForwardedCalls → LinkMap → Type 0
OpenFact calls links = LinesHave (IsOpen links) calls

abbrev OpenAfter : State → Type 0
OpenAfter s = OpenUnlessStopped s.running s.trusting

taken_open : (part : TrustPart) (s : State) (left : List (List ℕ)) → HoldsPart OpenFact part →
    OpenAfter (step_by (λ (after : TrustParts). after.parts.work.work.actions) (λ after. trust_state_after s after) (trust_halted s) left part).state
taken_open (Err why) s left have = tt
taken_open (Ok part) s left have = lines_are part.value.parts.links part.value.parts.work.queues.forwarded have

as_fact : (part : TrustPart) → OpenPart part → HoldsPart OpenFact part
as_fact (Err why) have = tt
as_fact (Ok part) have = have

step_open : (running : Option Running) (s : State) (what : Event) (now : ℕ) (left : List (List ℕ)) → s.running ≡ running → OpenUnlessStopped running s.trusting →
    OpenAfter (trust_step_on running s what now left).state
step_open None s what now left is have = subst (λ (r : Option Running). OpenUnlessStopped r s.trusting) (sym is) tt
step_open (Some running) s what now left is have =
    let event : TrustPart = by_trust_event what s.name now s.table (parts_of running s.trusting) left in
    taken_open (event_and_turn s.table.trusts what s.name now s.table (parts_of running s.trusting) left) s left
    (turn_behind OpenFact event s.table.trusts now
    (as_fact event (event_open what s.name now s.table (parts_of running s.trusting) left (lines_as running.links s.trusting.queues.forwarded have))))

-- ---- a link that opens has none of the lines

abbrev IsOther : ℕ → ℕ → Type 0
IsOther number n = (n == number) ≡ false

abbrev OtherFact : ℕ → ForwardedCalls → LinkMap → Type 0
OtherFact number calls links = LinesHave (IsOther number) calls

other_line : (number : ℕ) (line : Option Line) → LineHas (IsOther number) line → IsNotOn number line
other_line number None has = tt
other_line number (Some line) has = has

other_lines : (number : ℕ) (calls : ForwardedCalls) → LinesHave (IsOther number) calls → AreNotOn number calls
other_lines number [] have = tt
other_lines number (entry ∷ calls) have = (other_line number entry.1.line have.0, other_lines number calls have.1)

closed_other : (b : Bool) (number : ℕ) (parts : Parts) → is_on number parts.dialling ≡ b →
    (is_on number parts.dialling ≡ true → lookup same_number number parts.links ≡ None) → Open parts → WorkHas (IsOther number) (close_by b number parts).work
closed_other false number parts is none have =
    lines_more (Others (IsOpen parts.links) number) (IsOther number) (λ n other. other.1) (calls_without number parts.work.queues.forwarded)
    (lines_left (IsOpen parts.links) number parts.work.queues.forwarded have)
closed_other true number parts is none have =
    turn_has (IsOther number) _ (λ turning. link_closes number turning) parts
    (lines_more (IsOpen parts.links) (IsOther number) (λ n there. none_there parts.links number n (none is) there) parts.work.queues.forwarded have)

opened_other : (full : Bool) (number : ℕ) (parts : Parts) → WorkHas (IsOther number) parts.work → WorkHas (IsOther number) (open_by full number parts).work
opened_other true number parts have = have
opened_other false number parts have = have

taken_other : (part : TrustPart) (number : ℕ) (s : State) (left : List (List ℕ)) → HoldsPart (OtherFact number) part →
    AreNotOn number (step_by (λ (after : TrustParts). after.parts.work.work.actions) (λ after. trust_state_after s after) (trust_halted s) left part).state.trusting.queues.forwarded
taken_other (Err why) number s left have = tt
taken_other (Ok part) number s left have = other_lines number part.value.parts.work.queues.forwarded have

step_other : (s : State) (running : Running) (number now : ℕ) (left : List (List ℕ)) → AreApart running.links s.trusting.dialling → AreLinesOpen s.trusting.queues.forwarded running.links →
    AreNotOn number (trust_step_on (Some running) s (event.Opened number) now left).state.trusting.queues.forwarded
step_other s running number now left apart have =
    let parts : Parts = parts_of running s.trusting in
    taken_other (event_and_turn s.table.trusts (event.Opened number) s.name now s.table parts left) number s left
    (turn_behind (OtherFact number) (by_trust_event (event.Opened number) s.name now s.table parts left) s.table.trusts now
    (opened_other _ number (close_number number parts)
    (closed_other (is_on number parts.dialling) number parts refl (apart.turn number) (lines_as running.links s.trusting.queues.forwarded have))))

pub answers_open : AnswersOpenLinks
answers_open = record {
  first = λ table name. tt;
  keeps = λ s what now left have. step_open s.running s what now left refl have;
  opens = λ s running number now left is apart have.
      subst (λ (r : Option Running). AreNotOn number (trust_step_on r s (event.Opened number) now left).state.trusting.queues.forwarded) (sym is)
      (step_other s running number now left apart have);
}
