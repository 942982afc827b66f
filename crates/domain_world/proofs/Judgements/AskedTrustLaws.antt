-- A controller that hands logons on can ask each domain that its table trusts: as many as these are the ends that ask,
-- at first and behind each step, while it is at work. It serves `Proved.statuses`.
use Rattle.std.proofs.Common.{◌≡◌, ◌<◌, ℕ, suc, Bool, true, false, ◌||◌, ◌==◌, List, [], ◌∷◌, ◌++◌, length, Option, Some, None, Result, Ok, Err, option_map, slice_get, refl, sym, ap, ◌∙◌, subst, arith, if◌then◌else◌}
use Rattle.std.proofs.lemmas.List.{length-map}
use Rattle.wire_base.specs.Maps.{lookup, place_of, same_number, take_out}
use Rattle.wire_base.specs.Names.{same_name}
use Rattle.outside.specs.Machine.{Part, step_by, then_part}
use Rattle.outside.specs.declared.action.CloseCause.{CloseCause}
use Rattle.outside.specs.declared.action.StepRefused.{StepRefused}
use Rattle.outside.specs.declared.event.Event.{Event}
use Rattle.outside.specs.declared.event.Event.TheVariants as event
use Rattle.account_table.specs.AccountTable.{AccountTable}
use Rattle.account_table.specs.LookUps.{is_domain, route_by, route_in}
use Rattle.account_table.specs.declared.account.Trust.{Trust}
use Rattle.account_table.specs.declared.table.Route.TheVariants as route
use Rattle.logon_stubs.specs.Status.{no_logon_servers}
use Rattle.logon_stubs.specs.declared.info.Verdict.{Verdict}
use Rattle.logon_stubs.specs.declared.info.Verdict.TheVariants.{Status}
use Rattle.rpc_units.specs.Stream.{cut_stream}
use Rattle.end_links.specs.Links.{LinkState}
use Rattle.end_links.specs.Serving.{ServedPart, served_cut}
use Rattle.end_links.proofs.KeepLaws.{StaysServing, served_stays}
use Rattle.channel_client.specs.Machine.{ask_of, fresh_requester}
use Rattle.channel_client.specs.State.{Requester}
use Rattle.channel_turns.specs.Dials.{NextTurn, next_turn as channel_turn}
use Rattle.channel_turns.specs.Turning.{Turned, dial_for, dial_part, is_on, is_waiting, link_answers, link_closes, link_hears, no_dial}
use Rattle.channel_turns.specs.declared.state.TurnEnd.{TurnEnd}
use Rattle.channel_turns.specs.declared.state.TurnEnd.TheVariants as turn_end
use Rattle.channel_turns.specs.declared.state.TurnEnded.{TurnEnded}
use Rattle.channel_turns.specs.declared.state.Turning.{Turning}
use Rattle.controller_calls.specs.Forwarded.{ForwardedState}
use Rattle.controller_calls.specs.declared.calls.ControllerCall.TheVariants as call
use Rattle.controller_calls.specs.declared.calls.JudgedCall.{JudgedCall}
use Rattle.controller_calls.specs.declared.line.Line.{Line}
use Rattle.domain_controller.specs.Forwarding.{TrustDesk, after_ended, answer_found, answer_trust_call, base_desk, beside, by_trust_heard, close_ended, end_turn, trust_desk, trust_server}
use Rattle.domain_controller.specs.Hearing.{hear}
use Rattle.domain_controller.specs.Machine.{Desk, by_call, by_heard}
use Rattle.domain_controller.specs.State.{State as ControllerState}
use Rattle.domain_controller.specs.Step.{LinkMap}
use Rattle.domain_controller.specs.TrustStep.{TrustPart, TrustParts, after_turned, after_units, answer_dial, by_trust_event, close_by, close_number, event_and_turn, fail_dial, first_trust_state, first_waiting, is_idle, link_with, next_if, next_part, next_turn, on_turn, open_by, parts_of, put_open, serve_bytes, serve_on, start_at, start_on, trust_halted, trust_part, trust_state_after, trust_step_of, trust_step_on, turn_at, turned_work, turning_of, without_link}
use Rattle.domain_controller.specs.Trusting.{trust_caller}
use Rattle.domain_controller.specs.declared.hearing.Heard.{Heard}
use Rattle.domain_controller.specs.declared.hearing.Heard.TheVariants as heard
use Rattle.domain_controller.specs.declared.state.Running.{Running}
use Rattle.domain_controller.specs.declared.state.Talk.{Talk}
use Rattle.domain_controller.specs.declared.trusting.Parts.{Parts}
use Rattle.domain_controller.specs.declared.trusting.Queues.{Queues}
use Rattle.domain_controller.specs.declared.trusting.TrustWork.{TrustWork}
use Rattle.domain_controller.proofs.CountLaws.{counts_by_verdict}
use Rattle.domain_controller.proofs.HandOnLaws.{CallGoes, GoesOn, IsLeft, StaysHere, call_goes}
use Rattle.domain_controller.proofs.TurnOutLaws.{set_length}

-- ---- a turn changes one end that asks, and no other

abbrev SameMany : List Requester → List Requester → Type 0
SameMany before after = length after ≡ length before

abbrev KeepsMany : TrustWork → TrustWork → Type 0
KeepsMany before after = SameMany before.queues.requesters after.queues.requesters

found_keeps : (found : Option ForwardedState) (place : ℕ × ℕ) (verdict : Verdict) (w : TrustWork) → KeepsMany w (answer_found found place verdict w)
found_keeps None place verdict w = refl
found_keeps (Some f) place verdict w = refl

end_keeps : (how : TurnEnd) (trust : ℕ) (w : TrustWork) → KeepsMany w (end_turn how trust w)
end_keeps turn_end.Half trust w = refl
end_keeps turn_end.Opened trust w = refl
end_keeps turn_end.Set trust w = refl
end_keeps (turn_end.Answer place verdict) trust w = found_keeps _ (trust, place) verdict w
end_keeps (turn_end.Dropped place cause) trust w = found_keeps _ (trust, place) (Status no_logon_servers) w

close_keeps : (closes : Option (ℕ × CloseCause)) (w : TrustWork) → KeepsMany w (close_ended closes w)
close_keeps None w = refl
close_keeps (Some closes) w = refl

ended_keeps : (ended : Option TurnEnded) (trust : ℕ) (w : TrustWork) → KeepsMany w (after_ended ended trust w)
ended_keeps None trust w = refl
ended_keeps (Some ended) trust w = end_keeps ended.how trust (close_ended ended.closes w) ∙ close_keeps ended.closes w

turned_keeps : (trust : ℕ) (turned : Turned) (parts : Parts) → KeepsMany parts.work (after_turned trust turned parts).work
turned_keeps trust turned parts =
    ended_keeps turned.1 trust (turned_work trust turned.0 parts.work) ∙ set_length parts.work.queues.requesters trust turned.0.channel

at_keeps : (found : Option Requester) (happens : Turning → Turned) (parts : Parts) → KeepsMany parts.work (turn_at found happens parts).work
at_keeps None happens parts = refl
at_keeps (Some channel) happens parts = turned_keeps parts.turn_of (happens (turning_of channel parts)) parts

turn_keeps : (happens : Turning → Turned) (parts : Parts) → KeepsMany parts.work (on_turn happens parts).work
turn_keeps happens parts = at_keeps (slice_get parts.work.queues.requesters parts.turn_of) happens parts

-- ---- the units of a stream

abbrev ServesMany : ℕ → ServedPart TrustDesk Talk → Type 0
ServesMany many (Err why) = Unit {0}
ServesMany many (Ok part) = length part.value.0.work.queues.requesters ≡ many

beside_many : (d : TrustDesk) (part : ServedPart Desk Talk) → ServesMany (length d.work.queues.requesters) (beside d.work.queues part)
beside_many d (Err why) = tt
beside_many d (Ok part) = refl

-- a call changes the end that is asked, or none
pub call_many : (c : JudgedCall) (name : List ℕ) (now : ℕ) (line : Line) (d after : TrustDesk) → CallGoes c name now line d after →
    length after.work.queues.requesters ≡ length d.work.queues.requesters
call_many c name now line d after (GoesOn is so) =
    ap (λ (all : List Requester). length all) so.requesters ∙ set_length d.work.queues.requesters is.goes.trust (ask_of is.goes.requester is.goes.info).state
call_many c name now line d after (IsLeft goes so) = ap (λ (queues : Queues). length queues.requesters) so.queues
call_many c name now line d after (StaysHere not is) = ap (λ (other : TrustDesk). length other.work.queues.requesters) is

unit_many : (h : Heard) (link : ℕ) (name : List ℕ) (now : ℕ) (d : TrustDesk) (left : List (List ℕ)) →
    ServesMany (length d.work.queues.requesters) (by_trust_heard h link name now d left)
unit_many (heard.Close cause) link name now d left = beside_many d (by_heard (heard.Close cause) link name now (base_desk d) left)
unit_many (heard.Answer bytes talk) link name now d left = beside_many d (by_heard (heard.Answer bytes talk) link name now (base_desk d) left)
unit_many (heard.Waits talk) link name now d left = beside_many d (by_heard (heard.Waits talk) link name now (base_desk d) left)
unit_many (heard.Asked line (call.Challenge c) talk) link name now d left = beside_many d (by_call (call.Challenge c) line talk name now (base_desk d) left)
unit_many (heard.Asked line (call.Authenticate c) talk) link name now d left = beside_many d (by_call (call.Authenticate c) line talk name now (base_desk d) left)
unit_many (heard.Asked line (call.Judged c) talk) link name now d left = call_many c name now line d (answer_trust_call c name now line d) (call_goes c name now line d)

units_many : (name : List ℕ) (now link many : ℕ) → StaysServing (trust_server name now link) (ServesMany many)
units_many name now link many = record {
  spent = λ why. tt;
  unit = λ bytes d talk left is. subst (λ (n : ℕ). ServesMany n (by_trust_heard (hear link bytes talk) link name now d left)) is (unit_many (hear link bytes talk) link name now d left);
  refusal = λ why d talk left is. is;
}

-- ---- an event, and a step

abbrev PartKeeps : Parts → TrustPart → Type 0
PartKeeps before (Err why) = Unit {0}
PartKeeps before (Ok part) = KeepsMany before.work part.value.parts.work

closed_keeps : (b : Bool) (number : ℕ) (parts : Parts) → KeepsMany parts.work (close_by b number parts).work
closed_keeps false number parts = refl
closed_keeps true number parts = turn_keeps (λ turning. link_closes number turning) parts

opened_keeps : (full : Bool) (number : ℕ) (parts : Parts) → KeepsMany parts.work (open_by full number parts).work
opened_keeps true number parts = refl
opened_keeps false number parts = refl

dial_keeps : (waits : Bool) (number : ℕ) (parts : Parts) → KeepsMany parts.work (answer_dial waits number parts).work
dial_keeps false number parts = refl
dial_keeps true number parts = turn_keeps (λ turning. (link_answers number turning, None)) (without_link number parts)

failed_keeps : (waits : Bool) (parts : Parts) → KeepsMany parts.work (fail_dial waits parts).work
failed_keeps false parts = refl
failed_keeps true parts = turn_keeps (λ turning. no_dial turning) parts

put_keeps : (open_link : Option (LinkState Talk)) (number : ℕ) (parts : Parts) → KeepsMany parts.work (put_open open_link number parts).work
put_keeps None number parts = refl
put_keeps (Some link) number parts = refl

units_keep : (part : ServedPart TrustDesk Talk) (rest : List ℕ) (number : ℕ) (others : LinkMap) (parts : Parts) → ServesMany (length parts.work.queues.requesters) part →
    PartKeeps parts (after_units part rest number others parts)
units_keep (Err why) rest number others parts same = tt
units_keep (Ok part) rest number others parts same =
    put_keeps (link_with rest part.value.1) number (record parts { work = part.value.0.work; links = others }) ∙ same

serve_keeps : (found : Option (LinkState Talk)) (number : ℕ) (piece name : List ℕ) (now : ℕ) (others : LinkMap) (table : AccountTable) (parts : Parts) (left : List (List ℕ)) →
    PartKeeps parts (serve_on found number piece name now others table parts left)
serve_keeps None number piece name now others table parts left = refl
serve_keeps (Some link) number piece name now others table parts left =
    let cut = cut_stream (link.rest ++ piece) in
    let many : ℕ = length parts.work.queues.requesters in
    units_keep (served_cut (trust_server name now number) cut (trust_desk table parts.work) link.talk left) cut.rest number others parts
    (served_stays (trust_server name now number) (ServesMany many) (units_many name now number many) cut (trust_desk table parts.work) link.talk left refl)

bytes_keep : (b : Bool) (number : ℕ) (piece name : List ℕ) (now : ℕ) (table : AccountTable) (parts : Parts) (left : List (List ℕ)) →
    PartKeeps parts (serve_bytes b number piece name now table parts left)
bytes_keep true number piece name now table parts left = turn_keeps (λ turning. link_hears number piece turning) parts
bytes_keep false number piece name now table parts left = serve_keeps (lookup same_number number parts.links) number piece name now (take_out same_number number parts.links) table parts left

event_keeps : (what : Event) (name : List ℕ) (now : ℕ) (table : AccountTable) (parts : Parts) (left : List (List ℕ)) → PartKeeps parts (by_trust_event what name now table parts left)
event_keeps (event.Opened number) name now table parts left =
    opened_keeps _ number (close_number number parts) ∙ closed_keeps (is_on number parts.dialling) number parts
event_keeps (event.Bytes number piece) name now table parts left = bytes_keep (is_on number parts.dialling) number piece name now table parts left
event_keeps (event.Closed number) name now table parts left = closed_keeps (is_on number parts.dialling) number parts
event_keeps (event.Dialled number) name now table parts left = dial_keeps (is_waiting parts.dialling) number parts
event_keeps event.DialFailed name now table parts left = failed_keeps (is_waiting parts.dialling) parts
event_keeps event.Stop name now table parts left = refl

abbrev NextKeeps : Parts → Result (Part Parts) StepRefused → Type 0
NextKeeps before (Err why) = Unit {0}
NextKeeps before (Ok part) = KeepsMany before.work part.value.work

begun_keeps : (next : Result (Part NextTurn) StepRefused) (peer : List ℕ) (channel : Requester) (trust : ℕ) (parts : Parts) →
    NextKeeps parts (then_part (then_part next (dial_part peer (turning_of channel parts))) (λ turning rest. next_part (after_turned trust (turning, None) parts) rest))
begun_keeps (Err why) peer channel trust parts = tt
begun_keeps (Ok part) peer channel trust parts =
    turned_keeps trust (dial_for part.value.1 peer (record (turning_of channel parts) { channel = part.value.0 }), None) parts

start_keeps : (found : Option Requester) (entry : Option Trust) (trust now : ℕ) (parts : Parts) (left : List (List ℕ)) → NextKeeps parts (start_on found entry trust now parts left)
start_keeps None entry trust now parts left = refl
start_keeps (Some channel) None trust now parts left = refl
start_keeps (Some channel) (Some entry) trust now parts left = begun_keeps (channel_turn now channel left) entry.address channel trust parts

first_keeps : (first : Option ℕ) (trusts : List Trust) (now : ℕ) (parts : Parts) (left : List (List ℕ)) → NextKeeps parts (start_at first trusts now parts left)
first_keeps None trusts now parts left = refl
first_keeps (Some trust) trusts now parts left = start_keeps _ _ trust now parts left

next_keeps : (idle : Bool) (trusts : List Trust) (now : ℕ) (parts : Parts) (left : List (List ℕ)) → NextKeeps parts (next_if idle trusts now parts left)
next_keeps false trusts now parts left = refl
next_keeps true trusts now parts left = first_keeps (first_waiting parts.work.queues.requesters) trusts now parts left

with_table : (part : Result (Part Parts) StepRefused) (table : AccountTable) (before middle : Parts) → KeepsMany before.work middle.work → NextKeeps middle part →
    PartKeeps before (then_part part (λ later last. trust_part table later last))
with_table (Err why) table before middle first then_so = tt
with_table (Ok part) table before middle first then_so = then_so ∙ first

turn_behind : (part : TrustPart) (before : Parts) (trusts : List Trust) (now : ℕ) → PartKeeps before part →
    PartKeeps before (then_part part (λ after rest. then_part (next_turn trusts now after.parts rest) (λ later last. trust_part after.table later last)))
turn_behind (Err why) before trusts now keeps = tt
turn_behind (Ok part) before trusts now keeps =
    with_table (next_turn trusts now part.value.parts part.left) part.value.table before part.value.parts keeps
    (next_keeps (is_idle part.value.parts.dialling) trusts now part.value.parts part.left)

-- ---- as many as its table trusts domains

abbrev pub AsksEach : ControllerState → Type 0
AsksEach c = (running : Running) → c.running ≡ Some running → length c.trusting.queues.requesters ≡ length c.table.trusts

taken_asks : (part : TrustPart) (c : ControllerState) (running : Running) (left : List (List ℕ)) → length c.trusting.queues.requesters ≡ length c.table.trusts → PartKeeps (parts_of running c.trusting) part →
    let new : ControllerState = (step_by (λ (after : TrustParts). after.parts.work.work.actions) (λ after. trust_state_after c after) (trust_halted c) left part).state in
    new.table.trusts ≡ c.table.trusts → AsksEach new
taken_asks (Err why) c running left was keeps same = λ r none. absurd (let x = none in cc)
taken_asks (Ok part) c running left was keeps same = λ r is. keeps ∙ was ∙ ap (λ (all : List Trust). length all) (sym same)

step_on_asks : (found : Option Running) (c : ControllerState) (what : Event) (now : ℕ) (left : List (List ℕ)) → c.running ≡ found → AsksEach c →
    (trust_step_on found c what now left).state.table.trusts ≡ c.table.trusts → AsksEach (trust_step_on found c what now left).state
step_on_asks None c what now left is asks same = asks
step_on_asks (Some running) c what now left is asks same =
    let parts : Parts = parts_of running c.trusting in
    taken_asks (event_and_turn c.table.trusts what c.name now c.table parts left) c running left (asks running is)
    (turn_behind (by_trust_event what c.name now c.table parts left) parts c.table.trusts now (event_keeps what c.name now c.table parts left)) same

pub step_asks : (c : ControllerState) (what : Event) (now : ℕ) (left : List (List ℕ)) → AsksEach c → AsksEach (trust_step_of c what now left).state
step_asks c what now left asks = step_on_asks c.running c what now left refl asks (counts_by_verdict.trusting_states c what now left).trusts

pub fresh_asks : (table : AccountTable) (name : List ℕ) → AsksEach (first_trust_state table name)
fresh_asks table name running is = length-map table.trusts (λ (trust : Trust). fresh_requester (trust_caller table name trust))

-- ---- a domain that is trusted is that of one of them

place_by : (test : Bool) (later : Option ℕ) (place many : ℕ) → (if test then Some 0 else option_map suc later) ≡ Some place → ((p : ℕ) → later ≡ Some p → p < many) → place < suc many
place_by true later place many is each = let same : 0 ≡ place = cc in omega (arith, same)
place_by false None place many is each = absurd (let x = is in cc)
place_by false (Some p) place many is each = let same : suc p ≡ place = cc in omega (arith, same, each p refl)

place_below : {T : Type 0} (test : T → Bool) (items : List T) (place : ℕ) → place_of test items ≡ Some place → place < length items
place_below test [] place is = absurd (let x = is in cc)
place_below test (item ∷ items) place is = place_by (test item) (place_of test items) place (length items) is (λ p found. place_below test items p found)

found_by : (own : Bool) (found : Option ℕ) (trust : ℕ) → (if own then route.Own else route_by found) ≡ route.Trust trust → found ≡ Some trust
found_by true found trust is = absurd (let x = is in cc)
found_by false None trust is = absurd (let x = is in cc)
found_by false (Some place) trust is = let same : place ≡ trust = cc in ap (λ (p : ℕ). Some p) same

pub trust_below : (table : AccountTable) (domain : List ℕ) (trust : ℕ) → route_in table domain ≡ route.Trust trust → trust < length table.trusts
unfolding route_in
trust_below table domain trust is =
    place_below (is_domain domain) table.trusts trust (found_by ((length domain == 0) || same_name table.domain domain) (place_of (is_domain domain) table.trusts) trust is)
