-- What a world counts is what its ends' actions are.
-- It serves `State::put_answered`, `State::shut_link`, `World::new` and 4 more.
use Rattle.std.proofs.Common.{◌≡◌, ℕ, ◌+◌, ◌-◌, Bool, true, false, cond, List, [], ◌∷◌, ◌++◌, length, Option, Some, None, slice_get, refl, ap, sym, subst, ◌∙◌, arith, if◌then◌else◌}
use Rattle.std.specs.List.{count_by}
use Rattle.std.proofs.lemmas.List.{append_assoc}
use Rattle.std.proofs.lemmas.List.Sums.{sum_by-append}
use Rattle.wire_base.specs.Maps.{lookup, same_number}
use Rattle.outside.specs.declared.action.Action.{Action}
use Rattle.outside.specs.declared.event.Event.{Event}
use Rattle.outside.specs.declared.event.Event.TheVariants as event
use Rattle.interactive_station.specs.declared.plan.StationPlan.{StationPlan}
use Rattle.logon_client.specs.declared.plan.ClientPlan.{ClientPlan}
use Rattle.domain_controller.specs.Laws.{is_passed}
use Rattle.world_moves.specs.declared.bag.BagUnit.{BagUnit}
use Rattle.world_moves.specs.declared.counting.Counts.{Counts}
use Rattle.world_moves.specs.declared.links.EndId.{EndId}
use Rattle.world_moves.specs.declared.links.EndId.TheVariants.{Client, Member, Station}
use Rattle.world_moves.specs.declared.links.OpenLink.{OpenLink}
use Rattle.world_moves.specs.declared.links.Route.{Route}
use Rattle.world_moves.specs.declared.links.Route.TheVariants.{Stranger}
use Rattle.world_moves.specs.declared.moves.Move.{Move}
use Rattle.world_moves.specs.declared.moves.Move.TheVariants as move
use Rattle.world_moves.specs.declared.plan.Plan.{Plan}
use Rattle.world_moves.specs.declared.state.State.{State}
use Rattle.world_moves.specs.declared.state.WaitingDial.{WaitingDial}
use Rattle.world_moves.specs.Acting.{Acted, Given, AfterHearing, close_open, closed_at, done, forget, given_by, hear, hear_and_act, hear_and_act_if, link_closed, nothing_done, perform, perform_all, perform_all_quietly, perform_by, perform_quietly, piece_comes, pieces_come, shut_link, then_act}
use Rattle.world_moves.specs.Bag.{first_waiting, pieces_of}
use Rattle.world_moves.specs.Choosing.{chosen_in, chosen_place}
use Rattle.world_moves.specs.Counting.{add_counts, clipped, counted_of, counts_of, is_barred, is_counted, is_in, is_out, is_unanswered, judges, no_counts, tells}
use Rattle.world_moves.specs.Ends.{EndStates, EndStep, acceptors_in, count_of, end_at, end_step, starters_in}
use Rattle.world_moves.specs.Links.{acceptor_of, handed_links, hearer_of, hearer_on, links_of, other_hearer}
use Rattle.world_moves.specs.Moving.{act, answer_by, answered_link, begun, change_at, changed, come, come_by, come_on_own, connect_by, connect_first, deliver_by, deliver_on, deliver_unit, end_of_peer, fail_first, hand_on, lose_by, onward_by, open_link, restart_at, restart_by, route_to, settle, shut_at, shut_by, start_at, start_by, start_station_by, station_begun, stranger_at, stranger_by, with_link, without_first}
use Rattle.world_moves.specs.World.{World, counted_given, counted_of_run, first_world, happens, report_by, report_of, report_of_run, run, run_of}
use Rattle.world_moves.proofs.ChangeLaws.{by_change}
use Rattle.world_moves.proofs.EndKindLaws.{step_by}

-- ---- counts

count_append : (test : Action → Bool) (actions later : List Action) → count_by test (actions ++ later) ≡ count_by test actions + count_by test later
count_append test actions later = sum_by-append (λ (a : Action). cond (test a) 1 0) actions later

clip_more : (c m n : ℕ) → clipped (clipped (c + clipped m) + clipped n) ≡ clipped (c + clipped (m + n))
clip_more c m n = omega arith

clip_still : (n : ℕ) → clipped (clipped n + clipped 0) ≡ clipped n
clip_still n = omega arith

same_counts : (one other : Counts) → one.accepted ≡ other.accepted → one.refused ≡ other.refused → one.no_controller ≡ other.no_controller → one.passed ≡ other.passed → one.barred ≡ other.barred → one ≡ other
same_counts one other a r n p b =
    ap (λ x. record one { accepted = x }) a
    ∙ ap (λ x. record one { accepted = other.accepted; refused = x }) r
    ∙ ap (λ x. record one { accepted = other.accepted; refused = other.refused; no_controller = x }) n
    ∙ ap (λ x. record one { accepted = other.accepted; refused = other.refused; no_controller = other.no_controller; passed = x }) p
    ∙ ap (λ x. record one { accepted = other.accepted; refused = other.refused; no_controller = other.no_controller; passed = other.passed; barred = x }) b

one_more : (test : Action → Bool) (c : ℕ) (actions later : List Action) →
    clipped (clipped (c + clipped (count_by test actions)) + clipped (count_by test later)) ≡ clipped (c + clipped (count_by test (actions ++ later)))
one_more test c actions later =
    clip_more c (count_by test actions) (count_by test later) ∙ ap (λ n. clipped (c + clipped n)) (sym (count_append test actions later))

add_more : (c : Counts) (actions later : List Action) → add_counts (add_counts c (counts_of actions)) (counts_of later) ≡ add_counts c (counts_of (actions ++ later))
add_more c actions later = same_counts _ _
    (one_more (tells is_in) c.accepted actions later)
    (one_more (tells is_out) c.refused actions later)
    (one_more (tells is_unanswered) c.no_controller actions later)
    (one_more (judges is_passed) c.passed actions later)
    (one_more (judges is_barred) c.barred actions later)

-- adding no action changes nothing, of counts that stand within their type
unfoldable pub Still : Counts → Type 0
Still c = add_counts c (counts_of []) ≡ c

still_add : (c d : Counts) → Still (add_counts c d)
unfolding Still
still_add c d = same_counts _ _ (clip_still _) (clip_still _) (clip_still _) (clip_still _) (clip_still _)

-- ---- actions that were given

counted_append : (given later : Given) → counted_given (given ++ later) ≡ counted_given given ++ counted_given later
counted_append [] later = refl
counted_append (one ∷ given) later =
    ap (λ rest. counted_of one.0 (one.1 ∷ []) ++ rest) (counted_append given later)
    ∙ sym (append_assoc (counted_of one.0 (one.1 ∷ [])) (counted_given given) (counted_given later))

-- what is counted of an end's actions: all of an end that is counted, none of another
counted_by : (hit : Bool) (end : EndId) (actions : List Action) → is_counted end ≡ hit → counted_given (given_by end actions) ≡ (if hit then actions else [])
counted_by false end [] is = refl
counted_by true end [] is = refl
counted_by false end (what ∷ actions) is =
    ap (λ (hit : Bool). (if hit then what ∷ [] else []) ++ counted_given (given_by end actions)) is ∙ counted_by false end actions is
counted_by true end (what ∷ actions) is =
    ap (λ (hit : Bool). (if hit then what ∷ [] else []) ++ counted_given (given_by end actions)) is ∙ ap (λ rest. what ∷ rest) (counted_by true end actions is)

given_counted : (end : EndId) (actions : List Action) → counted_given (given_by end actions) ≡ counted_of end actions
given_counted end actions = counted_by (is_counted end) end actions refl

-- of a step they are those that its end counts
none_if : (hit : Bool) (actions : List Action) → actions ≡ [] → [] ≡ (if hit then actions else [])
none_if true actions is = sym is
none_if false actions is = refl

step_counted : (end : EndId) (what : Event) (s : State) → (end_step end what s.moment s.ends s.chances).counted ≡ counted_of end (hear end what s).actions
step_counted end what s =
    step_by (λ (one : EndId) (step : EndStep). step.counted ≡ counted_of one step.actions) what s.moment s.ends s.chances (λ one. none_if (is_counted one) [] refl) (λ at c is. refl) (λ at m is. refl)
    (λ at c is. refl) (λ at t is. refl) end

-- ---- a part counts what its ends gave

pub record Right (s : State) (a : Acted) : Type 0 where
  pub counts : a.state.counts ≡ add_counts s.counts (counts_of (counted_given a.given))

still_after : (s : State) (a : Acted) → Right s a → Still a.state.counts
still_after s a right = subst Still (sym right.counts) (still_add s.counts (counts_of (counted_given a.given)))

unchanged : (s t : State) → t.counts ≡ s.counts → Still s.counts → Right s (nothing_done t)
unfolding Still
unchanged s t same still = record { counts = same ∙ sym still }

then_right : (s : State) (a : Acted) (later : State → Acted) → Right s a → Right a.state (later a.state) → Right s (then_act a later)
then_right s a later first second = record {
  counts = second.counts
      ∙ ap (λ c. add_counts c (counts_of (counted_given (later a.state).given))) first.counts
      ∙ add_more s.counts (counted_given a.given) (counted_given (later a.state).given)
      ∙ ap (λ all. add_counts s.counts (counts_of all)) (sym (counted_append a.given (later a.state).given));
}

-- what is right from one world is right from another with the same counts
from_same : (s t : State) (a : Acted) → t.counts ≡ s.counts → Right t a → Right s a
from_same s t a same right = record { counts = right.counts ∙ ap (λ c. add_counts c (counts_of (counted_given a.given))) same }

all_quiet_counts : (end : EndId) (actions : List Action) (s : State) → (perform_all_quietly end actions s).counts ≡ s.counts
all_quiet_counts end [] s = refl
all_quiet_counts end (what ∷ actions) s = all_quiet_counts end actions (perform_quietly end what s)

closed_right : (end : Option EndId) (link : ℕ) (s : State) → Still s.counts → Right s (closed_at end link s)
closed_right None link s still = unchanged s s refl still
closed_right (Some end) link s still =
    let heard : AfterHearing = hear end (event.Closed link) s in
    record {
      counts = all_quiet_counts end heard.actions heard.state
          ∙ ap (λ all. add_counts s.counts (counts_of all)) (step_counted end (event.Closed link) s ∙ sym (given_counted end heard.actions));
    }

close_right : (there : Option OpenLink) (end : EndId) (link : ℕ) (s : State) → Still s.counts → Right s (close_open there end link s)
close_right None end link s still = unchanged s s refl still
close_right (Some there) end link s still =
    from_same s (shut_link link s) _ refl (closed_right (other_hearer end there) link (shut_link link s) still)

perform_by_right : (closed : Option ℕ) (end : EndId) (what : Action) (s : State) → Still s.counts → Right s (perform_by closed end what s)
perform_by_right None end what s still = unchanged s (perform_quietly end what s) refl still
perform_by_right (Some link) end what s still = close_right (lookup same_number link s.open_links) end link s still

perform_right : (end : EndId) (what : Action) (s : State) → Still s.counts → Right s (perform end what s)
perform_right end what s still = perform_by_right (link_closed what) end what s still

all_right : (end : EndId) (actions : List Action) (s : State) → Still s.counts → Right s (perform_all end actions s)
all_right end [] s still = unchanged s s refl still
all_right end (what ∷ actions) s still =
    let first : Right s (perform end what s) = perform_right end what s still in
    then_right s (perform end what s) (λ later. perform_all end actions later) first
    (all_right end actions (perform end what s).state (still_after s (perform end what s) first))

-- what an end gave where these were counted already, and what came of it
done_right : (end : EndId) (heard : AfterHearing) (s : State) → heard.state.counts ≡ add_counts s.counts (counts_of (counted_of end heard.actions)) → Right s (done end heard)
done_right end heard s counted =
    let own : List Action = counted_of end heard.actions in
    let later : Given = (perform_all end heard.actions heard.state).given in
    let rest : Right heard.state (perform_all end heard.actions heard.state) =
    all_right end heard.actions heard.state (subst Still (sym counted) (still_add s.counts (counts_of own))) in
    record {
      counts = rest.counts
          ∙ ap (λ c. add_counts c (counts_of (counted_given later))) counted
          ∙ add_more s.counts own (counted_given later)
          ∙ ap (λ all. add_counts s.counts (counts_of (all ++ counted_given later))) (sym (given_counted end heard.actions))
          ∙ ap (λ all. add_counts s.counts (counts_of all)) (sym (counted_append (given_by end heard.actions) later));
    }

hears_right : (end : EndId) (what : Event) (s : State) → Right s (hear_and_act end what s)
hears_right end what s = done_right end (hear end what s) s (ap (λ all. add_counts s.counts (counts_of all)) (step_counted end what s))

hears_if_right : (end : Option EndId) (what : Event) (s : State) → Still s.counts → Right s (hear_and_act_if end what s)
hears_if_right None what s still = unchanged s s refl still
hears_if_right (Some end) what s still = hears_right end what s

piece_right : (back : Bool) (link : ℕ) (piece : List ℕ) (s : State) → Still s.counts → Right s (piece_comes back link piece s)
piece_right back link piece s still = hears_if_right (hearer_of back (lookup same_number link s.open_links)) (event.Bytes link piece) s still

pieces_right : (back : Bool) (link : ℕ) (pieces : List (List ℕ)) (s : State) → Still s.counts → Right s (pieces_come back link pieces s)
pieces_right back link [] s still = unchanged s s refl still
pieces_right back link (piece ∷ pieces) s still =
    let first : Right s (piece_comes back link piece s) = piece_right back link piece s still in
    then_right s (piece_comes back link piece s) (λ later. pieces_come back link pieces later) first
    (pieces_right back link pieces (piece_comes back link piece s).state (still_after s (piece_comes back link piece s) first))

-- ---- moves

station_by_right : (plan : Option StationPlan) (at : ℕ) (s : State) → Still s.counts → Right s (start_station_by plan at s)
station_by_right None at s still = unchanged s s refl still
station_by_right (Some plan) at s still = done_right (Station at) (station_begun at plan (forget (Station at) s)) s refl

start_by_right : (plan : Option ClientPlan) (at : ℕ) (s : State) → Still s.counts → Right s (start_by plan at s)
start_by_right None at s still = station_by_right (slice_get s.station_plans (at - length s.client_plans)) (at - length s.client_plans) s still
start_by_right (Some plan) at s still = done_right (Client at) (begun at plan (forget (Client at) s)) s refl

start_right : (at : Option ℕ) (s : State) → Still s.counts → Right s (start_at at s)
start_right None s still = unchanged s s refl still
start_right (Some at) s still = start_by_right (slice_get s.client_plans at) at s still

open_right : (route : Route) (s : State) → Right s (open_link route s)
open_right route s = from_same s (with_link route s) _ refl (hears_right (acceptor_of route) (event.Opened (length s.links)) (with_link route s))

stranger_by_right : (end : Option EndId) (s : State) → Still s.counts → Right s (stranger_by end s)
stranger_by_right None s still = unchanged s s refl still
stranger_by_right (Some end) s still = open_right (Stranger end) s

stranger_right : (number : Option ℕ) (s : State) → Still s.counts → Right s (stranger_at number s)
stranger_right None s still = unchanged s s refl still
stranger_right (Some number) s still = stranger_by_right (end_at number s.ends) s still

answer_right : (there : Option OpenLink) (end : EndId) (link : ℕ) (s : State) → Right s (answer_by there end link s)
answer_right None end link s =
    let first : Right s (hear_and_act end (event.Dialled link) s) = hears_right end (event.Dialled link) s in
    then_right s (hear_and_act end (event.Dialled link) s) (λ later. closed_at (Some end) link later) first
    (closed_right (Some end) link (hear_and_act end (event.Dialled link) s).state (still_after s (hear_and_act end (event.Dialled link) s) first))
answer_right (Some there) end link s =
    from_same s (answered_link link there s) _ refl (hears_right end (event.Dialled link) (answered_link link there s))

connect_by_right : (route : Option Route) (end : EndId) (s : State) → Right s (connect_by route end s)
connect_by_right None end s = hears_right end event.DialFailed s
connect_by_right (Some route) end s =
    let later : State = (open_link route s).state in
    then_right s (open_link route s) (λ t. answer_by (lookup same_number (length s.links) t.open_links) end (length s.links) t) (open_right route s)
    (answer_right (lookup same_number (length s.links) later.open_links) end (length s.links) later)

connect_right : (first : Option WaitingDial) (s : State) → Still s.counts → Right s (connect_first first s)
connect_right None s still = unchanged s s refl still
connect_right (Some first) s still = connect_by_right (route_to first.end (end_of_peer first.peer s.ends)) first.end s

fail_right : (first : Option WaitingDial) (s : State) → Still s.counts → Right s (fail_first first s)
fail_right None s still = unchanged s s refl still
fail_right (Some first) s still = hears_right first.end event.DialFailed s

come_by_right : (unit : Option BagUnit) (link : ℕ) (s : State) → Still s.counts → Right s (come_by unit link s)
come_by_right None link s still = unchanged s s refl still
come_by_right (Some unit) link s still = pieces_right unit.back link (pieces_of unit.bytes) s still

settled_right : (number link : ℕ) (s : State) → Still s.counts → Right s (come number link (settle number s))
settled_right number link s still =
    from_same s (settle number s) _ refl (come_by_right (slice_get (settle number s).bag number) link (settle number s) still)

own_right : (unit : Option BagUnit) (number : ℕ) (s : State) → Still s.counts → Right s (come_on_own unit number s)
own_right None number s still = unchanged s s refl still
own_right (Some unit) number s still = settled_right number unit.link s still

onward_right : (number : Option ℕ) (s : State) → Still s.counts → Right s (onward_by number s)
onward_right None s still = unchanged s s refl still
onward_right (Some number) s still = own_right (slice_get s.bag number) number s still

lose_counts : (number : Option ℕ) (s : State) → (lose_by number s).counts ≡ s.counts
lose_counts None s = refl
lose_counts (Some number) s = refl

deliver_on_right : (link : Option ℕ) (number : ℕ) (s : State) → Still s.counts → Right s (deliver_on link number s)
deliver_on_right None number s still = unchanged s s refl still
deliver_on_right (Some link) number s still = settled_right number link s still

deliver_unit_right : (unit : Option BagUnit) (number link : ℕ) (s : State) → Still s.counts → Right s (deliver_unit unit number link s)
deliver_unit_right None number link s still = unchanged s s refl still
deliver_unit_right (Some unit) number link s still = deliver_on_right (chosen_in link (links_of unit.kind s.links)) number s still

deliver_right : (number : Option ℕ) (link : ℕ) (s : State) → Still s.counts → Right s (deliver_by number link s)
deliver_right None link s still = unchanged s s refl still
deliver_right (Some number) link s still = deliver_unit_right (slice_get s.bag number) number link s still

hand_right : (link : Option ℕ) (back : Bool) (bytes : List ℕ) (s : State) → Still s.counts → Right s (hand_on link back bytes s)
hand_right None back bytes s still = unchanged s s refl still
hand_right (Some link) back bytes s still = piece_right back link bytes s still

shut_right : (entry : Option (ℕ × OpenLink)) (s : State) → Still s.counts → Right s (shut_by entry s)
shut_right None s still = unchanged s s refl still
shut_right (Some entry) s still =
    let closed : State = shut_link entry.0 s in
    let first : Right s (closed_at (hearer_on false entry.1) entry.0 closed) =
    from_same s closed _ refl (closed_right (hearer_on false entry.1) entry.0 closed still) in
    then_right s (closed_at (hearer_on false entry.1) entry.0 closed) (λ later. closed_at (hearer_on true entry.1) entry.0 later) first
    (closed_right (hearer_on true entry.1) entry.0 (closed_at (hearer_on false entry.1) entry.0 closed).state (still_after s _ first))

shut_at_right : (at : Option ℕ) (s : State) → Still s.counts → Right s (shut_at at s)
shut_at_right None s still = unchanged s s refl still
shut_at_right (Some at) s still = shut_right (slice_get s.open_links at) s still

-- a change of a secret tells nothing, so nothing is counted
change_counts : (at : ℕ) (secret : List ℕ) (s : State) → Still s.counts → s.counts ≡ add_counts s.counts (counts_of (changed at secret s).actions)
unfolding Still
change_counts at secret s still =
    by_change (λ (ends : EndStates) (actions : List Action). s.counts ≡ add_counts s.counts (counts_of actions)) at secret s.ends (sym still) (λ running is none. sym still)

change_right : (at : Option ℕ) (secret : List ℕ) (s : State) → Still s.counts → Right s (change_at at secret s)
change_right None secret s still = unchanged s s refl still
change_right (Some at) secret s still = done_right (Member at) (changed at secret s) s (change_counts at secret s still)

restart_by_counts : (end : Option EndId) (s : State) → (restart_by end s).counts ≡ s.counts
restart_by_counts None s = refl
restart_by_counts (Some end) s = refl

restart_counts : (number : Option ℕ) (s : State) → (restart_at number s).counts ≡ s.counts
restart_counts None s = refl
restart_counts (Some number) s = restart_by_counts (end_at number s.ends) s

pub act_right : (s : State) (what : Move) → Still s.counts → Right s (act s what)
act_right s (move.Start number) still = start_right (chosen_place number (starters_in s.ends)) s still
act_right s (move.Stranger number) still = stranger_right (chosen_place number (acceptors_in s.ends)) s still
act_right s move.Connect still = from_same s (without_first s) _ refl (connect_right (slice_get s.dials 0) (without_first s) still)
act_right s move.FailDial still = from_same s (without_first s) _ refl (fail_right (slice_get s.dials 0) (without_first s) still)
act_right s move.Onward still = onward_right (first_waiting s.bag) s still
act_right s move.Lose still = unchanged s _ (lose_counts (first_waiting s.bag) s) still
act_right s (move.Deliver unit link) still = deliver_right (chosen_place unit (length s.bag)) link s still
act_right s (move.Hand link back bytes) still = hand_right (chosen_in link (handed_links s.links)) back bytes s still
act_right s (move.Shut number) still = shut_at_right (chosen_place number (length s.open_links)) s still
act_right s (move.Restart number) still = unchanged s _ (restart_counts (chosen_place number (count_of s.ends)) s) still
act_right s (move.Change member secret) still = change_right (chosen_place member (length s.ends.members)) secret s still
act_right s (move.Tick more) still = unchanged s _ refl still

-- ---- a run

run_counts : (moves : List Move) (w : World) → Still w.state.counts → (run moves w).state.counts ≡ add_counts w.state.counts (counts_of (counted_of_run (run_of moves w)))
unfolding Still
run_counts [] w still = sym still
run_counts (what ∷ moves) w still =
    let right : Right w.state (act w.state what) = act_right w.state what still in
    run_counts moves (happens w what) (still_after w.state (act w.state what) right)
    ∙ ap (λ c. add_counts c (counts_of (counted_of_run (run_of moves (happens w what))))) right.counts
    ∙ add_more w.state.counts (counted_given (act w.state what).given) (counted_of_run (run_of moves (happens w what)))

run_moves : (moves : List Move) (w : World) → (run moves w).moves ≡ w.moves + length moves
run_moves [] w = omega arith
run_moves (what ∷ moves) w = run_moves moves (happens w what) ∙ (let e : w.moves + 1 + length moves ≡ w.moves + length (what ∷ moves) = omega arith in e)

clip_none : (n : ℕ) → clipped (0 + clipped n) ≡ clipped n
clip_none n = omega arith

from_none : (actions : List Action) → add_counts no_counts (counts_of actions) ≡ counts_of actions
from_none actions = same_counts _ _ (clip_none _) (clip_none _) (clip_none _) (clip_none _) (clip_none _)

-- the report of a run from a plan is that of the actions that are counted
pub counts_are_of_actions : (plan : Plan) (moves : List Move) → report_of (run moves (first_world plan)) ≡ report_of_run plan moves
counts_are_of_actions plan moves =
    ap (λ c. report_by c (run moves (first_world plan)).moves) (run_counts moves (first_world plan) (still_add no_counts no_counts)
    ∙ from_none (counted_of_run (run_of moves (first_world plan))))
    ∙ ap (λ n. report_by (counts_of (counted_of_run (run_of moves (first_world plan)))) n) (run_moves moves (first_world plan) ∙ (let e : 0 + length moves ≡ length moves = omega arith in e))
