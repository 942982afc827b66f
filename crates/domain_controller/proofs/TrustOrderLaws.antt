-- Which logons a controller asks others for, and that each is answered once. It serves `what_is_asked_waits` and
-- `each_logon_is_answered`.
use Rattle.std.proofs.Common.{◌≡◌, ◌≢◌, ◌<◌, ◌≤◌, ◌==◌, ◌++◌, ℕ, zero, suc, Bool, true, false, nat_le, not, List, [], ◌∷◌, length, map, Option, Some, None, is_some, Result, Ok, Err, slice_get, slice_set, refl, sym, ap, subst, ◌∙◌, arith, if◌then◌else◌}
use Rattle.std.proofs.lemmas.Bool.Decides.{Decides-eqb}
use Rattle.std.proofs.lemmas.List.{append-nil}
use Rattle.std.specs.List.{AllByRecursion}
use Rattle.std.specs.Option.{option_map}
use Rattle.wire_base.specs.Maps.{lookup, same_number, take_out}
use Rattle.outside.specs.Machine.{Part, step_by, then_part}
use Rattle.outside.specs.declared.action.CloseCause.{CloseCause}
use Rattle.outside.specs.declared.action.StepRefused.{StepRefused}
use Rattle.outside.specs.declared.event.Event.{Event}
use Rattle.outside.specs.declared.event.Event.TheVariants as event
use Rattle.rpc_units.specs.Stream.{cut_stream}
use Rattle.logon_stubs.specs.Status.{no_logon_servers}
use Rattle.logon_stubs.specs.declared.info.Verdict.{Verdict}
use Rattle.logon_stubs.specs.declared.info.Verdict.TheVariants.{Status}
use Rattle.account_table.specs.AccountTable.{AccountTable}
use Rattle.account_table.specs.declared.account.Trust.{Trust}
use Rattle.end_links.proofs.KeepLaws.{StaysServing, served_stays}
use Rattle.end_links.specs.Links.{LinkState}
use Rattle.end_links.specs.Serving.{ServedPart, served_cut}
use Rattle.channel_client.proofs.EffectLaws.{steps_have_effects}
use Rattle.channel_client.specs.Effects.{ArePlacesApart, IsCoherent}
use Rattle.channel_client.specs.Machine.{ask_by, ask_of, can_start, fresh_requester}
use Rattle.channel_client.specs.State.{Requester}
use Rattle.channel_client.specs.Turns.{is_out}
use Rattle.channel_client.specs.declared.state.Pending.{Pending}
use Rattle.channel_client.specs.declared.state.Waiting.{Waiting}
use Rattle.channel_turns.specs.Dials.{NextTurn, next_turn as channel_turn}
use Rattle.channel_turns.specs.Turning.{Turned, dial_for, dial_part, is_on, is_waiting, link_answers, link_closes, link_hears, no_dial}
use Rattle.channel_turns.specs.declared.state.Dialling.{Dialling}
use Rattle.channel_turns.specs.declared.state.Dialling.TheVariants as dialling
use Rattle.channel_turns.specs.declared.state.TurnEnd.{TurnEnd}
use Rattle.channel_turns.specs.declared.state.TurnEnd.TheVariants as turn_end
use Rattle.channel_turns.specs.declared.state.TurnEnded.{TurnEnded}
use Rattle.channel_turns.specs.declared.state.Turning.{Turning}
use Rattle.controller_calls.specs.Desk.{Desk}
use Rattle.controller_calls.specs.Forwarded.{ForwardedState}
use Rattle.controller_calls.specs.declared.calls.ControllerCall.TheVariants as call
use Rattle.controller_calls.specs.declared.calls.JudgedCall.{JudgedCall}
use Rattle.controller_calls.specs.declared.line.Line.{Line}
use Rattle.domain_controller.specs.Forwarding.{TrustDesk, after_ended, answer_found, answer_trust_call, base_desk, beside, by_trust_heard, calls_without, close_ended, end_turn, trust_desk, trust_server}
use Rattle.domain_controller.specs.Hearing.{hear}
use Rattle.domain_controller.specs.Machine.{by_heard}
use Rattle.domain_controller.specs.State.{State}
use Rattle.domain_controller.specs.Step.{LinkMap}
use Rattle.domain_controller.specs.TrustLaws.{OneIsOut, none_out, one_out, outs}
use Rattle.domain_controller.specs.TrustOrder.{AskInOrder, IsInOrder, NobodyWaits, StaysInOrder, place_if, places_at, places_waiting}
use Rattle.domain_controller.specs.TrustStep.{TrustPart, TrustParts, after_turned, after_units, answer_dial, by_trust_event, close_by, close_number, event_and_turn, fail_dial, first_waiting, is_idle, link_with, next_if, next_part, next_turn, open_by, parts_of, put_open, serve_bytes, serve_on, start_at, start_on, starts, trust_halted, trust_part, trust_state_after, trust_step_of, trust_step_on, trusting_after, turn_at, turned_work, turning_of, without_link}
use Rattle.domain_controller.specs.Trusting.{ForwardedCalls, fresh_requesters, no_trusting, same_place, trust_caller}
use Rattle.domain_controller.specs.declared.hearing.Heard.{Heard}
use Rattle.domain_controller.specs.declared.hearing.Heard.TheVariants as heard
use Rattle.domain_controller.specs.declared.state.Running.{Running}
use Rattle.domain_controller.specs.declared.state.Talk.{Talk}
use Rattle.domain_controller.specs.declared.trusting.Parts.{Parts}
use Rattle.domain_controller.specs.declared.trusting.Queues.{Queues}
use Rattle.domain_controller.specs.declared.trusting.TrustWork.{TrustWork}
use Rattle.domain_controller.specs.declared.trusting.Trusting.{Trusting}
use Rattle.domain_controller.proofs.HandOnLaws.{AnsweredHere, CallComes, ForwardedOn, call_comes, not_full}
use Rattle.domain_controller.proofs.SettingLaws.{hashes_are_set}
use Rattle.domain_controller.proofs.TrustPlaceLaws.{AreApart, got_all, got_other, is_there, map_from, places_others, places_pushed, places_taken, places_without, set_all, such_more, such_pushed, such_taken, such_without}
use Rattle.domain_controller.proofs.TurnOutLaws.{Stands, StandsAll, alike, event_stands, found_by, got_inside, got_set, set_length}
use Rattle.domain_controller.proofs.TurnPlaceLaws.{EndsAs, EndsHow, MovesOn, NextOf, TurnMoves, answers_move, closes_moves, fails_move, hears_move, next_moves}

-- ---- the queues, where one end that asks changes

abbrev IsInside : ℕ → ℕ × ℕ → Type 0
IsInside many place = place.0 < many

-- What is known of the queues but that the logons asked of one trust are those that wait there.
record AskBut (many trust : ℕ) (at : Requester) (q : Queues) : Type 0 where
  coherent : AllByRecursion IsCoherent q.requesters
  there : slice_get q.requesters trust ≡ Some at
  others : (k : ℕ) (s : Requester) → (k == trust) ≡ false → slice_get q.requesters k ≡ Some s → places_at k q.forwarded ≡ places_waiting s
  inside : AllByRecursion (λ (entry : (ℕ × ℕ) × ForwardedState). IsInside (length q.requesters) entry.0) q.forwarded
  few : length q.requesters ≤ many

record Asks (many : ℕ) (q : Queues) : Type 0 where
  order : AskInOrder q
  few : length q.requesters ≤ many

equal : (n m : ℕ) → (n == m) ≡ true → n ≡ m
equal n m same = (Decides-eqb n m).0 same

asked_by : (b : Bool) (k trust : ℕ) (at s : Requester) (q : Queues) → (k == trust) ≡ b → slice_get q.requesters trust ≡ Some at → slice_get q.requesters k ≡ Some s →
    places_at trust q.forwarded ≡ places_waiting at → ((k == trust) ≡ false → places_at k q.forwarded ≡ places_waiting s) → places_at k q.forwarded ≡ places_waiting s
asked_by false k trust at s q is there found own others = others is
asked_by true k trust at s q is there found own others =
    let same : k ≡ trust = equal k trust is in
    let both : Some at ≡ Some s = sym there ∙ ap (λ (n : ℕ). slice_get q.requesters n) (sym same) ∙ found in
    let one : at ≡ s = (let x = both in cc) in
    ap (λ (n : ℕ). places_at n q.forwarded) same ∙ own ∙ ap places_waiting one

closed_up : (many trust : ℕ) (at : Requester) (q : Queues) → AskBut many trust at q → places_at trust q.forwarded ≡ places_waiting at → Asks many q
closed_up many trust at q but own = record {
  order = record {
    coherent = but.coherent;
    asked = λ k s found. asked_by (k == trust) k trust at s q refl but.there found own (λ differ. but.others k s differ found);
    inside = but.inside;
  };
  few = but.few;
}

-- one end that asks is another then
changed : (many trust : ℕ) (before after : Requester) (q : Queues) → Asks many q → slice_get q.requesters trust ≡ Some before → IsCoherent after →
    AskBut many trust after (record { requesters = slice_set q.requesters trust after; forwarded = q.forwarded })
changed many trust before after q asks there coherent =
    let same : length (slice_set q.requesters trust after) ≡ length q.requesters = set_length q.requesters trust after in
    record {
      coherent = set_all IsCoherent q.requesters trust after asks.order.coherent coherent;
      there = got_set q.requesters trust before after there;
      others = λ k s differ found. asks.order.asked k s (sym (got_other q.requesters trust k after differ) ∙ found);
      inside = such_more (IsInside (length q.requesters)) (IsInside (length (slice_set q.requesters trust after))) (λ place is. omega (arith, is, same)) q.forwarded asks.order.inside;
      few = omega (arith, same, asks.few);
    }

-- a logon of it is asked no more
taken_out : (many trust place : ℕ) (at : Requester) (q : Queues) → AskBut many trust at q →
    AskBut many trust at (record { requesters = q.requesters; forwarded = take_out same_place (trust, place) q.forwarded })
taken_out many trust place at q but = record {
  coherent = but.coherent;
  there = but.there;
  others = λ k s differ found. places_others k trust place q.forwarded differ ∙ but.others k s differ found;
  inside = such_taken (IsInside (length q.requesters)) (trust, place) q.forwarded but.inside;
  few = but.few;
}

-- one more is asked
pushed_at : (b : Bool) (k trust place : ℕ) (calls : ForwardedCalls) → (k == trust) ≡ b → places_at k calls ++ place_if (k == trust) place [] ≡ places_at k calls ++ place_if b place []
pushed_at b k trust place calls is = ap (λ (own : Bool). places_at k calls ++ place_if own place []) is

pushed_on : (many trust place : ℕ) (f : ForwardedState) (at : Requester) (q : Queues) → AskBut many trust at q →
    AskBut many trust at (record { requesters = q.requesters; forwarded = q.forwarded ++ ((trust, place), f) ∷ [] })
pushed_on many trust place f at q but = record {
  coherent = but.coherent;
  there = but.there;
  others = λ k s differ found.
      places_pushed k trust place f q.forwarded ∙ pushed_at false k trust place q.forwarded differ ∙ append-nil (places_at k q.forwarded) ∙ but.others k s differ found;
  inside = such_pushed (IsInside (length q.requesters)) q.forwarded (trust, place) f but.inside (got_inside q.requesters trust at but.there);
  few = but.few;
}

places_more : (logons more : List Waiting) → map (λ (logon : Waiting). logon.place) (logons ++ more) ≡ map (λ (logon : Waiting). logon.place) logons ++ map (λ (logon : Waiting). logon.place) more
places_more [] more = refl
places_more (logon ∷ logons) more = ap (λ (rest : List ℕ). logon.place ∷ rest) (places_more logons more)

room_places : (full : Bool) (s : Requester) (info : _) → full ≡ false → places_waiting (ask_by full s info).state ≡ places_waiting s ++ s.next_place ∷ []
room_places true s info room = absurd (let x = room in cc)
room_places false s info room = places_more s.waiting _

asked_more : (many trust : ℕ) (s : Requester) (info : _) (f : ForwardedState) (q : Queues) → Asks many q → slice_get q.requesters trust ≡ Some s → length s.waiting < 64 →
    Asks many (record { requesters = slice_set q.requesters trust (ask_of s info).state; forwarded = q.forwarded ++ ((trust, s.next_place), f) ∷ [] })
asked_more many trust s info f q asks there room =
    let after : Requester = (ask_of s info).state in
    let coherent : IsCoherent after = (steps_have_effects.ask 0 s info (got_all IsCoherent q.requesters trust s asks.order.coherent there)).1 in
    let middle : Queues = record { requesters = slice_set q.requesters trust after; forwarded = q.forwarded } in
    let own : (trust == trust) ≡ true = (Decides-eqb trust trust).1 refl in
    closed_up many trust after (record { requesters = middle.requesters; forwarded = q.forwarded ++ ((trust, s.next_place), f) ∷ [] })
    (pushed_on many trust s.next_place f after middle (changed many trust s after q asks there coherent))
    (places_pushed trust trust s.next_place f q.forwarded
    ∙ pushed_at true trust trust s.next_place q.forwarded own
    ∙ ap (λ (all : List ℕ). all ++ s.next_place ∷ []) (asks.order.asked trust s there)
    ∙ sym (room_places (nat_le 64 (length s.waiting)) s info (not_full (length s.waiting) room)))

forgotten : (many number : ℕ) (q : Queues) → Asks many q → Asks many (record q { forwarded = calls_without number q.forwarded })
forgotten many number q asks = record {
  order = record {
    coherent = asks.order.coherent;
    asked = λ k s found. places_without k number q.forwarded ∙ asks.order.asked k s found;
    inside = such_without (IsInside (length q.requesters)) number q.forwarded asks.order.inside;
  };
  few = asks.few;
}

-- ---- an event for a turn

abbrev AsksAt : ℕ → TrustWork → Type 0
AsksAt many w = Asks many w.queues

found_asks : (found : Option ForwardedState) (many trust place : ℕ) (verdict : Verdict) (at : Requester) (w : TrustWork) → lookup same_place (trust, place) w.queues.forwarded ≡ found →
    AskBut many trust at w.queues → places_at trust w.queues.forwarded ≡ place ∷ places_waiting at → AsksAt many (answer_found found (trust, place) verdict w)
found_asks None many trust place verdict at w none but waits = absurd (is_there trust place w.queues.forwarded (places_waiting at) waits none)
found_asks (Some f) many trust place verdict at w there but waits =
    closed_up many trust at (record w.queues { forwarded = take_out same_place (trust, place) w.queues.forwarded }) (taken_out many trust place at w.queues but)
    (places_taken trust place w.queues.forwarded (places_waiting at) waits)

end_asks : (how : TurnEnd) (many trust : ℕ) (before : List ℕ) (at : Requester) (w : TrustWork) → AskBut many trust at w.queues → places_at trust w.queues.forwarded ≡ before →
    EndsHow before (places_waiting at) how → AsksAt many (end_turn how trust w)
end_asks turn_end.Half many trust before at w but own ends = closed_up many trust at w.queues but (own ∙ sym ends)
end_asks turn_end.Opened many trust before at w but own ends = closed_up many trust at w.queues but (own ∙ sym ends)
end_asks turn_end.Set many trust before at w but own ends = closed_up many trust at w.queues but (own ∙ sym ends)
end_asks (turn_end.Answer place verdict) many trust before at w but own ends = found_asks _ many trust place verdict at w refl but (own ∙ ends)
end_asks (turn_end.Dropped place cause) many trust before at w but own ends = found_asks _ many trust place (Status no_logon_servers) at w refl but (own ∙ ends)

closed_queues : (closes : Option (ℕ × CloseCause)) (w : TrustWork) → (close_ended closes w).queues ≡ w.queues
closed_queues None w = refl
closed_queues (Some closes) w = refl

ended_asks : (ended : Option TurnEnded) (many trust : ℕ) (before : List ℕ) (at : Requester) (w : TrustWork) → AskBut many trust at w.queues → places_at trust w.queues.forwarded ≡ before →
    EndsAs before (places_waiting at) ended → AsksAt many (after_ended ended trust w)
ended_asks None many trust before at w but own ends = closed_up many trust at w.queues but (own ∙ sym ends)
ended_asks (Some ended) many trust before at w but own ends =
    let same : w.queues ≡ (close_ended ended.closes w).queues = sym (closed_queues ended.closes w) in
    end_asks ended.how many trust before at (close_ended ended.closes w) (subst (λ (q : Queues). AskBut many trust at q) same but)
    (ap (λ (q : Queues). places_at trust q.forwarded) (sym same) ∙ own) ends

turned_asks : (many trust : ℕ) (channel : Requester) (turned : Turned) (parts : Parts) → AsksAt many parts.work → slice_get parts.work.queues.requesters trust ≡ Some channel →
    TurnMoves channel turned → AsksAt many (after_turned trust turned parts).work
turned_asks many trust channel turned parts asks there moves =
    ended_asks turned.1 many trust (places_waiting channel) turned.0.channel (turned_work trust turned.0 parts.work)
    (changed many trust channel turned.0.channel parts.work.queues asks there moves.0) (asks.order.asked trust channel there) moves.1

turn_asks : (found : Option Requester) (many : ℕ) (happens : Turning → Turned) (parts : Parts) → slice_get parts.work.queues.requesters parts.turn_of ≡ found → MovesOn happens →
    Stands parts → AsksAt many parts.work → AsksAt many (turn_at found happens parts).work
turn_asks None many happens parts none moves stands asks = asks
turn_asks (Some channel) many happens parts there moves stands asks =
    turned_asks many parts.turn_of channel (happens (turning_of channel parts)) parts asks there
    (moves (turning_of channel parts) (got_all IsCoherent parts.work.queues.requesters parts.turn_of channel asks.order.coherent there)
    (found_by (is_idle parts.dialling) parts.turn_of parts.work.queues.requesters channel there stands.outs))

-- ---- links and dials

abbrev stands_without : (number : ℕ) (parts : Parts) → Stands parts → Stands (without_link number parts)
stands_without number parts stands = alike (trusting_after parts) (trusting_after (without_link number parts)) refl refl refl stands

closed_asks : (b : Bool) (many number : ℕ) (parts : Parts) → Stands parts → AsksAt many parts.work → AsksAt many (close_by b number parts).work
closed_asks false many number parts stands asks = forgotten many number parts.work.queues asks
closed_asks true many number parts stands asks =
    turn_asks (slice_get parts.work.queues.requesters parts.turn_of) many (λ turning. link_closes number turning) parts refl (closes_moves number) stands asks

opened_asks : (full : Bool) (many number : ℕ) (parts : Parts) → AsksAt many parts.work → AsksAt many (open_by full number parts).work
opened_asks true many number parts asks = asks
opened_asks false many number parts asks = asks

dial_asks : (waits : Bool) (many number : ℕ) (parts : Parts) → Stands parts → AsksAt many parts.work → AsksAt many (answer_dial waits number parts).work
dial_asks false many number parts stands asks = asks
dial_asks true many number parts stands asks =
    let less : Parts = without_link number parts in
    turn_asks (slice_get less.work.queues.requesters less.turn_of) many (λ turning. (link_answers number turning, None)) less refl
    (λ turning coherent agrees. answers_move turning.dialling number turning coherent) (stands_without number parts stands) (forgotten many number parts.work.queues asks)

failed_asks : (waits : Bool) (many : ℕ) (parts : Parts) → Stands parts → AsksAt many parts.work → AsksAt many (fail_dial waits parts).work
failed_asks false many parts stands asks = asks
failed_asks true many parts stands asks =
    turn_asks (slice_get parts.work.queues.requesters parts.turn_of) many (λ turning. no_dial turning) parts refl
    (λ turning coherent agrees. fails_move turning.dialling turning refl coherent agrees) stands asks

-- ---- units on an accepted link

abbrev PartAsks : ℕ → ServedPart TrustDesk Talk → Type 0
PartAsks many (Err why) = Unit {0}
PartAsks many (Ok part) = AsksAt many part.value.0.work

beside_asks : (many : ℕ) (queues : Queues) (part : ServedPart Desk Talk) → Asks many queues → PartAsks many (beside queues part)
beside_asks many queues (Err why) asks = tt
beside_asks many queues (Ok part) asks = asks

queues_so : (q : Queues) (requesters : List Requester) (forwarded : ForwardedCalls) → q.requesters ≡ requesters → q.forwarded ≡ forwarded → record { requesters = requesters; forwarded = forwarded } ≡ q
queues_so q requesters forwarded one other = ap (λ (r : List Requester). record { requesters = r; forwarded = forwarded }) (sym one) ∙ ap (λ (f : ForwardedCalls). record { requesters = q.requesters; forwarded = f }) (sym other)

call_asks : (many : ℕ) (c : JudgedCall) (line : Line) (before after : TrustDesk) → CallComes c line before after → AsksAt many before.work → AsksAt many after.work
call_asks many c line before after (AnsweredHere so) asks = subst (λ (q : Queues). Asks many q) (sym so.queues) asks
call_asks many c line before after (ForwardedOn is so) asks =
    subst (λ (q : Queues). Asks many q) (queues_so after.work.queues _ _ so.requesters so.forwarded)
    (asked_more many is.goes.trust is.goes.requester is.goes.info _ before.work.queues asks is.goes.at is.room)

unit_asks : (many : ℕ) (h : Heard) (link : ℕ) (name : List ℕ) (now : ℕ) (d : TrustDesk) (left : List (List ℕ)) → AsksAt many d.work → PartAsks many (by_trust_heard h link name now d left)
unit_asks many (heard.Close cause) link name now d left asks = beside_asks many d.work.queues (by_heard (heard.Close cause) link name now (base_desk d) left) asks
unit_asks many (heard.Answer bytes talk) link name now d left asks = beside_asks many d.work.queues (by_heard (heard.Answer bytes talk) link name now (base_desk d) left) asks
unit_asks many (heard.Waits talk) link name now d left asks = asks
unit_asks many (heard.Asked line (call.Challenge c) talk) link name now d left asks =
    beside_asks many d.work.queues (by_heard (heard.Asked line (call.Challenge c) talk) link name now (base_desk d) left) asks
unit_asks many (heard.Asked line (call.Authenticate c) talk) link name now d left asks =
    beside_asks many d.work.queues (by_heard (heard.Asked line (call.Authenticate c) talk) link name now (base_desk d) left) asks
unit_asks many (heard.Asked line (call.Judged c) talk) link name now d left asks =
    call_asks many c line d (answer_trust_call c name now line d) (call_comes c name now line d) asks

units_ask : (many : ℕ) (name : List ℕ) (now link : ℕ) → StaysServing (trust_server name now link) (PartAsks many)
units_ask many name now link = record {
  spent = λ why. tt;
  unit = λ bytes d talk left asks. unit_asks many (hear link bytes talk) link name now d left asks;
  refusal = λ why d talk left asks. asks;
}

abbrev StepAsks : ℕ → TrustPart → Type 0
StepAsks many (Err why) = Unit {0}
StepAsks many (Ok part) = AsksAt many part.value.parts.work

put_asks : (open_link : Option (LinkState Talk)) (many number : ℕ) (parts : Parts) → AsksAt many parts.work → AsksAt many (put_open open_link number parts).work
put_asks None many number parts asks = forgotten many number parts.work.queues asks
put_asks (Some link) many number parts asks = asks

after_asks : (part : ServedPart TrustDesk Talk) (rest : List ℕ) (many number : ℕ) (others : LinkMap) (parts : Parts) → PartAsks many part → StepAsks many (after_units part rest number others parts)
after_asks (Err why) rest many number others parts asks = tt
after_asks (Ok part) rest many number others parts asks =
    put_asks (link_with rest part.value.1) many number (record parts { work = part.value.0.work; links = others }) asks

serve_asks : (found : Option (LinkState Talk)) (many number : ℕ) (piece name : List ℕ) (now : ℕ) (others : LinkMap) (table : AccountTable) (parts : Parts) (left : List (List ℕ)) →
    AsksAt many parts.work → StepAsks many (serve_on found number piece name now others table parts left)
serve_asks None many number piece name now others table parts left asks = asks
serve_asks (Some link) many number piece name now others table parts left asks =
    let cut = cut_stream (link.rest ++ piece) in
    let d : TrustDesk = trust_desk table parts.work in
    after_asks (served_cut (trust_server name now number) cut d link.talk left) cut.rest many number others parts
    (served_stays (trust_server name now number) (PartAsks many) (units_ask many name now number) cut d link.talk left asks)

bytes_ask : (b : Bool) (many number : ℕ) (piece name : List ℕ) (now : ℕ) (table : AccountTable) (parts : Parts) (left : List (List ℕ)) → Stands parts → AsksAt many parts.work →
    StepAsks many (serve_bytes b number piece name now table parts left)
bytes_ask true many number piece name now table parts left stands asks =
    turn_asks (slice_get parts.work.queues.requesters parts.turn_of) many (λ turning. link_hears number piece turning) parts refl
    (λ turning coherent agrees. hears_move turning.dialling number piece turning refl coherent agrees) stands asks
bytes_ask false many number piece name now table parts left stands asks =
    serve_asks (lookup same_number number parts.links) many number piece name now (take_out same_number number parts.links) table parts left asks

event_asks : (what : Event) (many : ℕ) (name : List ℕ) (now : ℕ) (table : AccountTable) (parts : Parts) (left : List (List ℕ)) → Stands parts → AsksAt many parts.work →
    StepAsks many (by_trust_event what name now table parts left)
event_asks (event.Opened number) many name now table parts left stands asks =
    opened_asks _ many number (close_number number parts) (closed_asks (is_on number parts.dialling) many number parts stands asks)
event_asks (event.Bytes number piece) many name now table parts left stands asks = bytes_ask (is_on number parts.dialling) many number piece name now table parts left stands asks
event_asks (event.Closed number) many name now table parts left stands asks = closed_asks (is_on number parts.dialling) many number parts stands asks
event_asks (event.Dialled number) many name now table parts left stands asks = dial_asks (is_waiting parts.dialling) many number parts stands asks
event_asks event.DialFailed many name now table parts left stands asks = failed_asks (is_waiting parts.dialling) many parts stands asks
event_asks event.Stop many name now table parts left stands asks = asks

-- ---- the next turn, behind which nobody waits while none is out

record IsBusy (many : ℕ) (parts : Parts) : Type 0 where
  asks : AsksAt many parts.work
  busy : is_idle parts.dialling ≡ true → NobodyWaits parts.work.queues.requesters

abbrev NextBusy : ℕ → Result (Part Parts) StepRefused → Type 0
NextBusy many (Err why) = Unit {0}
NextBusy many (Ok part) = IsBusy many part.value

-- where nobody could start, nobody waits
no_start : (turn : Option Pending) (logons : List Waiting) → is_some turn ≡ false → can_start turn logons ≡ false → logons ≡ []
no_start None [] out none = refl
no_start None (logon ∷ logons) out none = absurd (let x = none in cc)
no_start (Some pending) logons out none = absurd (let x = out in cc)

none_by : (b : Bool) (rest : Option ℕ) → (if b then Some 0 else option_map suc rest) ≡ None → (b ≡ false) × (rest ≡ None)
none_by true rest is = absurd (let x = is in cc)
none_by false None is = (refl, refl)
none_by false (Some place) is = absurd (let x = is in cc)

nobody : (requesters : List Requester) → first_waiting requesters ≡ None → outs requesters ≡ none_out requesters → NobodyWaits requesters
nobody [] none same = tt
nobody (s ∷ requesters) none same =
    let both = none_by (starts s) (first_waiting requesters) none in
    let out : is_out s ≡ false = (let x = same in cc) in
    (no_start s.turn s.waiting out both.0, nobody requesters both.1 (let x = same in cc))

found_in : (b : Bool) (s : Requester) (requesters : List Requester) (rest : Option ℕ) (at : ℕ) (found : Requester) → starts s ≡ b → (if b then Some 0 else option_map suc rest) ≡ Some at →
    slice_get (s ∷ requesters) at ≡ Some found → ((later : ℕ) → rest ≡ Some later → slice_get requesters later ≡ Some found → starts found ≡ true) → starts found ≡ true
found_in true s requesters rest zero found can is got later = let same : s ≡ found = (let x = got in cc) in ap starts (sym same) ∙ can
found_in true s requesters rest (suc at) found can is got later = absurd (let x = is in cc)
found_in false s requesters None at found can is got later = absurd (let x = is in cc)
found_in false s requesters (Some place) zero found can is got later = absurd (let x = is in cc)
found_in false s requesters (Some place) (suc at) found can is got later =
    let both : suc place ≡ suc at = (let x = is in cc) in
    let same : place ≡ at = omega (arith, both) in
    later at (ap (λ (n : ℕ). Some n) same) got

-- the first that waits can start
can_first : (requesters : List Requester) (at : ℕ) (found : Requester) → first_waiting requesters ≡ Some at → slice_get requesters at ≡ Some found → starts found ≡ true
can_first [] at found is got = absurd (let x = is in cc)
can_first (s ∷ requesters) at found is got = found_in (starts s) s requesters (first_waiting requesters) at found refl is got (λ later so there. can_first requesters later found so there)

there_by : {T : Type 0} (items : List T) (at : ℕ) → at < length items → slice_get items at ≡ None → ⊥
there_by [] at lt none = absurd (omega arith)
there_by (first ∷ items) zero lt none = absurd (let x = none in cc)
there_by (first ∷ items) (suc at) lt none = there_by items at (omega arith) none

inside_by : (b : Bool) (rest : Option ℕ) (many at : ℕ) → (if b then Some 0 else option_map suc rest) ≡ Some at → ((later : ℕ) → rest ≡ Some later → later < many) → at < suc many
inside_by true rest many at is later = let same : 0 ≡ at = (let x = is in cc) in omega (arith, same)
inside_by false None many at is later = absurd (let x = is in cc)
inside_by false (Some place) many at is later = let same : suc place ≡ at = (let x = is in cc) in let lt = later place refl in omega (arith, same, lt)

first_inside : (requesters : List Requester) (at : ℕ) → first_waiting requesters ≡ Some at → at < length requesters
first_inside [] at is = absurd (let x = is in cc)
first_inside (s ∷ requesters) at is = inside_by (starts s) (first_waiting requesters) (length requesters) at is (λ later so. first_inside requesters later so)

dialled_on : (start : Option (Unit {0} × List (List ℕ))) (peer : List ℕ) (turning : Turning) → is_some start ≡ true → is_idle (dial_for start peer turning).dialling ≡ false
dialled_on None peer turning is = absurd (let x = is in cc)
dialled_on (Some start) peer turning is = refl

channel_on : (start : Option (Unit {0} × List (List ℕ))) (peer : List ℕ) (turning : Turning) → (dial_for start peer turning).channel ≡ turning.channel
channel_on None peer turning = refl
channel_on (Some start) peer turning = refl

begun_busy : (next : Result (Part NextTurn) StepRefused) (many : ℕ) (peer : List ℕ) (channel : Requester) (trust : ℕ) (parts : Parts) → NextOf channel next → starts channel ≡ true →
    slice_get parts.work.queues.requesters trust ≡ Some channel → AsksAt many parts.work →
    NextBusy many (then_part (then_part next (dial_part peer (turning_of channel parts))) (λ turning rest. next_part (after_turned trust (turning, None) parts) rest))
begun_busy (Err why) many peer channel trust parts is can there asks = tt
begun_busy (Ok part) many peer channel trust parts is can there asks =
    let before : Turning = record (turning_of channel parts) { channel = part.value.0 } in
    let turning : Turning = dial_for part.value.1 peer before in
    let same : turning.channel ≡ part.value.0 = channel_on part.value.1 peer before in
    record {
      asks = turned_asks many trust channel (turning, None) parts asks there (
        subst (λ (s : Requester). IsCoherent s) (sym same) is.coherent,
        ap places_waiting same ∙ ap (λ (logons : List Waiting). map (λ (logon : Waiting). logon.place) logons) is.waiting,
      );
      busy = λ idle. absurd (let never : false ≡ true = sym (dialled_on part.value.1 peer before (is.starts can)) ∙ idle in cc);
    }

start_busy : (found : Option Requester) (entry : Option Trust) (many trust now : ℕ) (parts : Parts) (left : List (List ℕ)) → slice_get parts.work.queues.requesters trust ≡ found →
    (found ≡ None → ⊥) → (entry ≡ None → ⊥) → ((channel : Requester) → found ≡ Some channel → starts channel ≡ true) → AsksAt many parts.work → NextBusy many (start_on found entry trust now parts left)
start_busy None entry many trust now parts left there some known can asks = absurd (some refl)
start_busy (Some channel) None many trust now parts left there some known can asks = absurd (known refl)
start_busy (Some channel) (Some entry) many trust now parts left there some known can asks =
    begun_busy (channel_turn now channel left) many entry.address channel trust parts
    (next_moves now channel left (got_all IsCoherent parts.work.queues.requesters trust channel asks.order.coherent there)) (can channel refl) there asks

at_busy : (first : Option ℕ) (trusts : List Trust) (now : ℕ) (parts : Parts) (left : List (List ℕ)) → first_waiting parts.work.queues.requesters ≡ first →
    outs parts.work.queues.requesters ≡ none_out parts.work.queues.requesters → AsksAt (length trusts) parts.work → NextBusy (length trusts) (start_at first trusts now parts left)
at_busy None trusts now parts left none same asks = record { asks = asks; busy = λ idle. nobody parts.work.queues.requesters none same }
at_busy (Some trust) trusts now parts left is same asks =
    let lt = first_inside parts.work.queues.requesters trust is in
    start_busy (slice_get parts.work.queues.requesters trust) (slice_get trusts trust) (length trusts) trust now parts left refl
    (λ none. there_by parts.work.queues.requesters trust lt none) (λ none. there_by trusts trust (omega (arith, lt, asks.few)) none)
    (λ channel there. can_first parts.work.queues.requesters trust channel is there) asks

next_busy : (how : Dialling) (trusts : List Trust) (now : ℕ) (parts : Parts) (left : List (List ℕ)) → parts.dialling ≡ how → Stands parts → AsksAt (length trusts) parts.work →
    NextBusy (length trusts) (next_if (is_idle how) trusts now parts left)
next_busy dialling.Nothing trusts now parts left nothing stands asks =
    at_busy (first_waiting parts.work.queues.requesters) trusts now parts left refl
    (stands.outs ∙ ap (λ (d : Dialling). one_out (is_idle d) parts.turn_of parts.work.queues.requesters) nothing) asks
next_busy (dialling.Waits turn frames) trusts now parts left is stands asks =
    record { asks = asks; busy = λ idle. absurd (let never : false ≡ true = ap is_idle (sym is) ∙ idle in cc) }
next_busy (dialling.On number said) trusts now parts left is stands asks =
    record { asks = asks; busy = λ idle. absurd (let never : false ≡ true = ap is_idle (sym is) ∙ idle in cc) }

-- ---- a step

abbrev StepBusy : ℕ → TrustPart → Type 0
StepBusy many (Err why) = Unit {0}
StepBusy many (Ok part) = IsBusy many part.value.parts

with_table : (part : Result (Part Parts) StepRefused) (many : ℕ) (table : AccountTable) → NextBusy many part → StepBusy many (then_part part (λ later last. trust_part table later last))
with_table (Err why) many table busy = tt
with_table (Ok part) many table busy = busy

turn_behind : (part : TrustPart) (trusts : List Trust) (now : ℕ) → StandsAll part → StepAsks (length trusts) part →
    StepBusy (length trusts) (then_part part (λ after rest. then_part (next_turn trusts now after.parts rest) (λ later last. trust_part after.table later last)))
turn_behind (Err why) trusts now stands asks = tt
turn_behind (Ok part) trusts now stands asks =
    with_table (next_turn trusts now part.value.parts part.left) (length trusts) part.value.table
    (next_busy part.value.parts.dialling trusts now part.value.parts part.left refl stands asks)

abbrev QueuesInOrder : ℕ → Trusting → Type 0
QueuesInOrder many t = Asks many t.queues × (is_idle t.dialling ≡ true → NobodyWaits t.queues.requesters)

stopped_order : (many : ℕ) → QueuesInOrder many no_trusting
stopped_order many = (
  record { order = record { coherent = tt; asked = λ trust s there. absurd (let x = there in cc); inside = tt }; few = omega arith },
  λ idle. tt,
)

taken_order : (part : TrustPart) (many : ℕ) (s : State) (left : List (List ℕ)) → StepBusy many part →
    QueuesInOrder many (step_by (λ (after : TrustParts). after.parts.work.work.actions) (λ after. trust_state_after s after) (trust_halted s) left part).state.trusting
taken_order (Err why) many s left busy = stopped_order many
taken_order (Ok part) many s left busy = (busy.asks, busy.busy)

step_order : (running : Option Running) (s : State) (what : Event) (now : ℕ) (left : List (List ℕ)) → OneIsOut s.trusting → IsInOrder s →
    QueuesInOrder (length s.table.trusts) (trust_step_on running s what now left).state.trusting
step_order None s what now left stands is = (record { order = is.queues; few = is.trusts }, is.busy)
step_order (Some running) s what now left stands is =
    let parts : Parts = parts_of running s.trusting in
    let event : TrustPart = by_trust_event what s.name now s.table parts left in
    taken_order (event_and_turn s.table.trusts what s.name now s.table parts left) (length s.table.trusts) s left
    (turn_behind event s.table.trusts now (event_stands what s.name now s.table parts left (record { outs = stands.outs; inside = stands.inside }))
    (event_asks what (length s.table.trusts) s.name now s.table parts left (record { outs = stands.outs; inside = stands.inside }) (record { order = is.queues; few = is.trusts })))

-- ---- at first

fresh_coherent : (table : AccountTable) (name : List ℕ) (trusts : List Trust) → AllByRecursion IsCoherent (map (λ (trust : Trust). fresh_requester (trust_caller table name trust)) trusts)
fresh_coherent table name [] = tt
fresh_coherent table name (trust ∷ trusts) = (steps_have_effects.fresh (trust_caller table name trust), fresh_coherent table name trusts)

fresh_waits : (table : AccountTable) (name : List ℕ) (trusts : List Trust) → NobodyWaits (map (λ (trust : Trust). fresh_requester (trust_caller table name trust)) trusts)
fresh_waits table name [] = tt
fresh_waits table name (trust ∷ trusts) = (refl, fresh_waits table name trusts)

fresh_many : (table : AccountTable) (name : List ℕ) (trusts : List Trust) → length (map (λ (trust : Trust). fresh_requester (trust_caller table name trust)) trusts) ≡ length trusts
fresh_many table name [] = refl
fresh_many table name (trust ∷ trusts) = ap suc (fresh_many table name trusts)

-- ---- no two have one place

differ_by : (b : Bool) (one other : ℕ) → (one == other) ≡ b → one ≢ other → b ≡ false
differ_by true one other is not = absurd (not (equal one other is))
differ_by false one other is not = refl

differ : (one other : ℕ) → one ≢ other → (one == other) ≡ false
differ one other not = differ_by (one == other) one other refl not

apart_all : (place : ℕ) (logons : List Waiting) → AllByRecursion (λ (later : Waiting). place ≢ later.place) logons →
    AllByRecursion (λ (other : ℕ). (place == other) ≡ false) (map (λ (logon : Waiting). logon.place) logons)
apart_all place [] all = tt
apart_all place (logon ∷ logons) all = (differ place logon.place all.0, apart_all place logons all.1)

apart_places : (logons : List Waiting) → ArePlacesApart logons → AreApart (map (λ (logon : Waiting). logon.place) logons)
apart_places [] all = tt
apart_places (logon ∷ logons) all = (apart_all logon.place logons all.0, apart_places logons all.1)

no_places : (trust many : ℕ) (calls : ForwardedCalls) → many ≤ trust → AllByRecursion (λ (entry : (ℕ × ℕ) × ForwardedState). IsInside many entry.0) calls → places_at trust calls ≡ []
no_places trust many [] past inside = refl
no_places trust many (entry ∷ calls) past inside =
    ap (λ (b : Bool). place_if b entry.0.1 (places_at trust calls)) (differ trust entry.0.0 (λ same. let lt = inside.0 in absurd (omega (arith, lt, same, past))))
    ∙ no_places trust many calls past inside.1

got_past : {T : Type 0} (items : List T) (at : ℕ) → slice_get items at ≡ None → length items ≤ at
got_past [] at none = omega arith
got_past (first ∷ items) zero none = absurd (let x = none in cc)
got_past (first ∷ items) (suc at) none = let le = got_past items at none in omega (arith, le)

apart_at : (found : Option Requester) (trust : ℕ) (q : Queues) → slice_get q.requesters trust ≡ found → AskInOrder q → AreApart (places_at trust q.forwarded)
apart_at None trust q none order =
    subst AreApart (sym (no_places trust (length q.requesters) q.forwarded (got_past q.requesters trust none) order.inside)) tt
apart_at (Some s) trust q there order =
    subst AreApart (sym (order.asked trust s there))
    (apart_places s.waiting (steps_have_effects.places s (got_all IsCoherent q.requesters trust s order.coherent there)))

pub stays_in_order : StaysInOrder
stays_in_order = record {
  first = λ table name. record {
    queues = record {
      coherent = fresh_coherent table name table.trusts;
      asked = λ trust s there. sym (ap (λ (logons : List Waiting). map (λ (logon : Waiting). logon.place) logons)
          (got_all (λ (r : Requester). r.waiting ≡ []) (fresh_requesters table name) trust s (fresh_waits table name table.trusts) there));
      inside = tt;
    };
    trusts = let same = fresh_many table name table.trusts in omega (arith, same);
    busy = λ idle. fresh_waits table name table.trusts;
  };
  keeps = λ s what now left stands is.
      let after = step_order s.running s what now left stands is in
      let trusts : (trust_step_of s what now left).state.table.trusts ≡ s.table.trusts = (hashes_are_set.trusting s what now left).states.trusts in
      let few = after.0.few in
      record {
        queues = after.0.order;
        trusts = omega (arith, few, ap (λ (all : List Trust). length all) trusts);
        busy = after.1;
      };
  apart = λ s is. map_from s.trusting.queues.forwarded (λ trust. apart_at (slice_get s.trusting.queues.requesters trust) trust s.trusting.queues refl is.queues);
}
