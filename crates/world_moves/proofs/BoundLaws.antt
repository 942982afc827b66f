-- A move makes one link at most.
-- It serves `World::step`.
use Rattle.std.proofs.Common.{◌≡◌, ℕ, ◌+◌, ◌-◌, ◌≤◌, Bool, true, false, List, [], ◌∷◌, length, Option, Some, None, slice_get, refl, ap, ◌∙◌, arith, length-append}
use Rattle.wire_base.specs.Maps.{lookup, same_number}
use Rattle.outside.specs.declared.action.Action.{Action}
use Rattle.outside.specs.declared.event.Event.{Event}
use Rattle.outside.specs.declared.event.Event.TheVariants as event
use Rattle.interactive_station.specs.declared.plan.StationPlan.{StationPlan}
use Rattle.logon_client.specs.declared.plan.ClientPlan.{ClientPlan}
use Rattle.world_moves.specs.declared.bag.BagUnit.{BagUnit}
use Rattle.world_moves.specs.declared.links.EndId.{EndId}
use Rattle.world_moves.specs.declared.links.EndId.TheVariants.{Client, Member, Station}
use Rattle.world_moves.specs.declared.links.OpenLink.{OpenLink}
use Rattle.world_moves.specs.declared.links.Route.{Route}
use Rattle.world_moves.specs.declared.links.Route.TheVariants.{Stranger}
use Rattle.world_moves.specs.declared.moves.Move.{Move}
use Rattle.world_moves.specs.declared.moves.Move.TheVariants as move
use Rattle.world_moves.specs.declared.state.State.{State}
use Rattle.world_moves.specs.declared.state.WaitingDial.{WaitingDial}
use Rattle.world_moves.specs.Acting.{closed_at, forget, hear_and_act, perform_all, piece_comes, shut_link}
use Rattle.world_moves.specs.Bag.{first_waiting, pieces_of}
use Rattle.world_moves.specs.Choosing.{chosen_in, chosen_place}
use Rattle.world_moves.specs.Ends.{acceptors_in, count_of, end_at, starters_in}
use Rattle.world_moves.specs.Links.{acceptor_of, handed_links, hearer_of, hearer_on, links_of}
use Rattle.world_moves.specs.Moving.{act, answer_by, answered_link, begun, change_at, changed, come, come_by, come_on_own, connect_by, connect_first, deliver_by, deliver_on, deliver_unit, end_of_peer, fail_first, hand_on, lose_by, onward_by, open_link, restart_at, restart_by, route_to, settle, shut_at, shut_by, start_at, start_by, start_station_by, station_begun, stranger_at, stranger_by, with_link, without_first}
use Rattle.world_moves.proofs.StateFrameLaws.{HoldsActing, StateFact, actions_so, closed_so, hears_if_so, hears_so, pieces_so}

-- the links are the same
abbrev SameLinks : StateFact
SameLinks s after = after.links ≡ s.links

same_links : HoldsActing SameLinks
same_links = record {
  none = λ s. refl;
  both = λ s between after first later. later ∙ first;
  hears = λ end what s. refl;
  acts = λ end what s. refl;
  shuts = λ link s. refl;
}

closed_links : (end : Option EndId) (link : ℕ) (s : State) → (closed_at end link s).state.links ≡ s.links
closed_links = closed_so SameLinks same_links

all_links : (end : EndId) (actions : List Action) (s : State) → (perform_all end actions s).state.links ≡ s.links
all_links = actions_so SameLinks same_links

pub hears_links : (end : EndId) (what : Event) (s : State) → (hear_and_act end what s).state.links ≡ s.links
hears_links = hears_so SameLinks same_links

piece_links : (back : Bool) (link : ℕ) (piece : List ℕ) (s : State) → (piece_comes back link piece s).state.links ≡ s.links
piece_links back link piece s = hears_if_so SameLinks same_links (hearer_of back (lookup same_number link s.open_links)) (event.Bytes link piece) s

-- ---- moves that make no link

station_by_links : (plan : Option StationPlan) (at : ℕ) (s : State) → (start_station_by plan at s).state.links ≡ s.links
station_by_links None at s = refl
station_by_links (Some plan) at s =
    all_links (Station at) (station_begun at plan (forget (Station at) s)).actions (station_begun at plan (forget (Station at) s)).state

start_by_links : (plan : Option ClientPlan) (at : ℕ) (s : State) → (start_by plan at s).state.links ≡ s.links
start_by_links None at s = station_by_links (slice_get s.station_plans (at - length s.client_plans)) (at - length s.client_plans) s
start_by_links (Some plan) at s = all_links (Client at) (begun at plan (forget (Client at) s)).actions (begun at plan (forget (Client at) s)).state

start_at_links : (at : Option ℕ) (s : State) → (start_at at s).state.links ≡ s.links
start_at_links None s = refl
start_at_links (Some at) s = start_by_links (slice_get s.client_plans at) at s

fail_links : (first : Option WaitingDial) (s : State) → (fail_first first s).state.links ≡ s.links
fail_links None s = refl
fail_links (Some first) s = hears_links first.end event.DialFailed s

come_by_links : (unit : Option BagUnit) (link : ℕ) (s : State) → (come_by unit link s).state.links ≡ s.links
come_by_links None link s = refl
come_by_links (Some unit) link s = pieces_so SameLinks same_links unit.back link (pieces_of unit.bytes) s

come_links : (number link : ℕ) (s : State) → (come number link s).state.links ≡ s.links
come_links number link s = come_by_links (slice_get s.bag number) link s

own_links : (unit : Option BagUnit) (number : ℕ) (s : State) → (come_on_own unit number s).state.links ≡ s.links
own_links None number s = refl
own_links (Some unit) number s = come_links number unit.link (settle number s)

onward_links : (number : Option ℕ) (s : State) → (onward_by number s).state.links ≡ s.links
onward_links None s = refl
onward_links (Some number) s = own_links (slice_get s.bag number) number s

lose_links : (number : Option ℕ) (s : State) → (lose_by number s).links ≡ s.links
lose_links None s = refl
lose_links (Some number) s = refl

deliver_on_links : (link : Option ℕ) (number : ℕ) (s : State) → (deliver_on link number s).state.links ≡ s.links
deliver_on_links None number s = refl
deliver_on_links (Some link) number s = come_links number link (settle number s)

deliver_unit_links : (unit : Option BagUnit) (number link : ℕ) (s : State) → (deliver_unit unit number link s).state.links ≡ s.links
deliver_unit_links None number link s = refl
deliver_unit_links (Some unit) number link s = deliver_on_links (chosen_in link (links_of unit.kind s.links)) number s

deliver_links : (number : Option ℕ) (link : ℕ) (s : State) → (deliver_by number link s).state.links ≡ s.links
deliver_links None link s = refl
deliver_links (Some number) link s = deliver_unit_links (slice_get s.bag number) number link s

hand_links : (link : Option ℕ) (back : Bool) (bytes : List ℕ) (s : State) → (hand_on link back bytes s).state.links ≡ s.links
hand_links None back bytes s = refl
hand_links (Some link) back bytes s = piece_links back link bytes s

shut_links : (entry : Option (ℕ × OpenLink)) (s : State) → (shut_by entry s).state.links ≡ s.links
shut_links None s = refl
shut_links (Some entry) s =
    closed_links (hearer_on true entry.1) entry.0 (closed_at (hearer_on false entry.1) entry.0 (shut_link entry.0 s)).state
    ∙ closed_links (hearer_on false entry.1) entry.0 (shut_link entry.0 s)

shut_at_links : (at : Option ℕ) (s : State) → (shut_at at s).state.links ≡ s.links
shut_at_links None s = refl
shut_at_links (Some at) s = shut_links (slice_get s.open_links at) s

change_links : (at : Option ℕ) (secret : List ℕ) (s : State) → (change_at at secret s).state.links ≡ s.links
change_links None secret s = refl
change_links (Some at) secret s = all_links (Member at) (changed at secret s).actions (changed at secret s).state

restart_by_links : (end : Option EndId) (s : State) → (restart_by end s).links ≡ s.links
restart_by_links None s = refl
restart_by_links (Some end) s = refl

restart_links : (number : Option ℕ) (s : State) → (restart_at number s).links ≡ s.links
restart_links None s = refl
restart_links (Some number) s = restart_by_links (end_at number s.ends) s

-- ---- moves that make one

open_count : (route : Route) (s : State) → length (open_link route s).state.links ≡ length s.links + 1
open_count route s = ap length (hears_links (acceptor_of route) (event.Opened (length s.links)) (with_link route s)) ∙ length-append s.links (route ∷ [])

answer_links : (there : Option OpenLink) (end : EndId) (link : ℕ) (s : State) → (answer_by there end link s).state.links ≡ s.links
answer_links None end link s = closed_links (Some end) link (hear_and_act end (event.Dialled link) s).state ∙ hears_links end (event.Dialled link) s
answer_links (Some there) end link s = hears_links end (event.Dialled link) (answered_link link there s)

connect_by_count : (route : Option Route) (end : EndId) (s : State) → length (connect_by route end s).state.links ≤ length s.links + 1
connect_by_count None end s = omega (arith, ap length (hears_links end event.DialFailed s))
connect_by_count (Some route) end s =
    let later : State = (open_link route s).state in
    omega (arith, ap length (answer_links (lookup same_number (length s.links) later.open_links) end (length s.links) later), open_count route s)

connect_count : (first : Option WaitingDial) (s : State) → length (connect_first first s).state.links ≤ length s.links + 1
connect_count None s = omega arith
connect_count (Some first) s = connect_by_count (route_to first.end (end_of_peer first.peer s.ends)) first.end s

stranger_by_count : (end : Option EndId) (s : State) → length (stranger_by end s).state.links ≤ length s.links + 1
stranger_by_count None s = omega arith
stranger_by_count (Some end) s = omega (arith, open_count (Stranger end) s)

stranger_count : (number : Option ℕ) (s : State) → length (stranger_at number s).state.links ≤ length s.links + 1
stranger_count None s = omega arith
stranger_count (Some number) s = stranger_by_count (end_at number s.ends) s

same_count : (s t : State) → t.links ≡ s.links → length t.links ≤ length s.links + 1
same_count s t is = omega (arith, ap length is)

act_count : (s : State) (what : Move) → length (act s what).state.links ≤ length s.links + 1
act_count s (move.Start number) = same_count s (act s (move.Start number)).state (start_at_links (chosen_place number (starters_in s.ends)) s)
act_count s (move.Stranger number) = stranger_count (chosen_place number (acceptors_in s.ends)) s
act_count s move.Connect = connect_count (slice_get s.dials 0) (without_first s)
act_count s move.FailDial = same_count s (act s move.FailDial).state (fail_links (slice_get s.dials 0) (without_first s))
act_count s move.Onward = same_count s (act s move.Onward).state (onward_links (first_waiting s.bag) s)
act_count s move.Lose = same_count s (act s move.Lose).state (lose_links (first_waiting s.bag) s)
act_count s (move.Deliver unit link) = same_count s (act s (move.Deliver unit link)).state (deliver_links (chosen_place unit (length s.bag)) link s)
act_count s (move.Hand link back bytes) = same_count s (act s (move.Hand link back bytes)).state (hand_links (chosen_in link (handed_links s.links)) back bytes s)
act_count s (move.Shut number) = same_count s (act s (move.Shut number)).state (shut_at_links (chosen_place number (length s.open_links)) s)
act_count s (move.Restart number) = same_count s (act s (move.Restart number)).state (restart_links (chosen_place number (count_of s.ends)) s)
act_count s (move.Change member secret) =
    same_count s (act s (move.Change member secret)).state (change_links (chosen_place member (length s.ends.members)) secret s)
act_count s (move.Tick more) = same_count s (act s (move.Tick more)).state refl

-- a move keeps the bound
pub act_bounded : (s after : State) (what : Move) (moves : ℕ) → length s.links ≤ moves → after ≡ (act s what).state → length after.links ≤ moves + 1
act_bounded s after what moves few is = omega (arith, act_count s what, few, ap (λ (t : State). length t.links) is)
