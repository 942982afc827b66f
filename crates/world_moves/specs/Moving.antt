-- The moves of a world (this project's own choice).
use Rattle.std.specs.Prelude.{ℕ, ◌+◌, ◌-◌, ◌==◌, ◌^◌, min, nat_le, Bool, true, false, List, [], ◌∷◌, ◌++◌, drop, length, Option, Some, None, slice_get, if◌then◌else◌}
use Rattle.wire_base.specs.Maps.{lookup, put, same_number}
use Rattle.outside.specs.declared.event.Event.TheVariants as event
use Rattle.interactive_station.specs.Machine.{begin_of as station_begin_of, fresh_station}
use Rattle.interactive_station.specs.declared.plan.StationPlan.{StationPlan}
use Rattle.logon_client.specs.Machine.{begin_of, fresh_client}
use Rattle.logon_client.specs.declared.plan.ClientPlan.{ClientPlan}
use Rattle.world_moves.specs.declared.bag.BagUnit.{BagUnit}
use Rattle.world_moves.specs.declared.links.EndId.{EndId}
use Rattle.world_moves.specs.declared.links.EndId.TheVariants.{Controller, Member, Client, Station}
use Rattle.world_moves.specs.declared.links.OpenLink.{OpenLink}
use Rattle.world_moves.specs.declared.links.Route.{Route}
use Rattle.world_moves.specs.declared.links.Route.TheVariants.{ToMember, ToController, Between, FromStation, Stranger}
use Rattle.world_moves.specs.declared.moves.Move.{Move}
use Rattle.world_moves.specs.declared.moves.Move.TheVariants as move
use Rattle.world_moves.specs.declared.state.State.{State}
use Rattle.world_moves.specs.declared.state.WaitingDial.{WaitingDial}
use Rattle.world_moves.specs.Acting.{Acted, AfterHearing, closed_at, done, forget, hear_and_act, nothing_done, piece_comes, pieces_come, shut_link, then_act}
use Rattle.world_moves.specs.Bag.{first_waiting, pieces_of, settle_at}
use Rattle.world_moves.specs.Choosing.{chosen_in, chosen_place}
use Rattle.world_moves.specs.Counting.{add_counts, counted_of, counts_of}
use Rattle.world_moves.specs.Ends.{EndChange, EndStates, acceptors_in, count_of, end_at, end_change, renew_client, renew_controller, renew_member, renew_station, starters_in, with_client, with_station}
use Rattle.world_moves.specs.Links.{accepted, acceptor_of, answered, handed_links, hearer_on, links_of}

-- ---- a station starts: it is made anew from its plan, and begins

abbrev pub station_begun : ℕ → StationPlan → State → AfterHearing
station_begun at plan s = record {
  state = record s {
    ends = with_station at (station_begin_of (fresh_station plan)).state s.ends;
    counts = add_counts s.counts (counts_of (counted_of (Station at) (station_begin_of (fresh_station plan)).actions));
  };
  actions = (station_begin_of (fresh_station plan)).actions;
}

abbrev pub start_station_by : Option StationPlan → ℕ → State → Acted
start_station_by None at s = nothing_done s
start_station_by (Some plan) at s = done (Station at) (station_begun at plan (forget (Station at) s))

abbrev pub start_station : ℕ → State → Acted
start_station at s = start_station_by (slice_get s.station_plans at) at s

-- ---- so does a client; a number past the clients is that of a station, counted behind them

abbrev pub begun : ℕ → ClientPlan → State → AfterHearing
begun at plan s = record {
  state = record s {
    ends = with_client at (begin_of (fresh_client plan)).state s.ends;
    counts = add_counts s.counts (counts_of (counted_of (Client at) (begin_of (fresh_client plan)).actions));
  };
  actions = (begin_of (fresh_client plan)).actions;
}

abbrev pub start_by : Option ClientPlan → ℕ → State → Acted
start_by None at s = start_station (at - length s.client_plans) s
start_by (Some plan) at s = done (Client at) (begun at plan (forget (Client at) s))

abbrev pub start_at : Option ℕ → State → Acted
start_at None s = nothing_done s
start_at (Some at) s = start_by (slice_get s.client_plans at) at s

abbrev pub start : ℕ → State → Acted
start number s = start_at (chosen_place number (starters_in s.ends)) s

-- ---- a link opens: the end that accepts it hears of it

abbrev pub with_link : Route → State → State
with_link route s = record s {
  links = s.links ++ route ∷ [];
  open_links = s.open_links ++ (length s.links, accepted route) ∷ [];
}

abbrev pub open_link : Route → State → Acted
open_link route s = hear_and_act (acceptor_of route) (event.Opened (length s.links)) (with_link route s)

-- ---- a stranger

abbrev pub stranger_by : Option EndId → State → Acted
stranger_by None s = nothing_done s
stranger_by (Some end) s = open_link (Stranger end) s

abbrev pub stranger_at : Option ℕ → State → Acted
stranger_at None s = nothing_done s
stranger_at (Some number) s = stranger_by (end_at number s.ends) s

abbrev pub stranger : ℕ → State → Acted
stranger number s = stranger_at (chosen_place number (acceptors_in s.ends)) s

-- ---- dials

-- an address is the number of an end, as one byte
abbrev pub end_of_peer : List ℕ → EndStates → Option EndId
end_of_peer (number ∷ []) ends = end_at number ends
end_of_peer _ ends = None

-- the link of a controller that dials another one: a dial to itself fails
abbrev pub between_if : (is_itself : Bool) → (from to : ℕ) → Option Route
between_if true from to = None
between_if false from to = Some (Between from to)

-- a client dials members, a member and a station controllers, and a controller other controllers; no other dial is
-- connected
abbrev pub route_to : EndId → Option EndId → Option Route
route_to (Client client) (Some (Member member)) = Some (ToMember client member)
route_to (Member member) (Some (Controller controller)) = Some (ToController member controller)
route_to (Controller from) (Some (Controller to)) = between_if (from == to) from to
route_to (Station station) (Some (Controller controller)) = Some (FromStation station controller)
route_to _ _ = None

-- the link is open at the side of the end that dialled too
abbrev pub answered_link : ℕ → OpenLink → State → State
answered_link link there s = record s { open_links = put same_number link (answered there) s.open_links }

-- the end that dialled hears that it is answered; where the end that accepted has closed the link, it hears that too
abbrev pub answer_by : Option OpenLink → EndId → ℕ → State → Acted
answer_by None end link s =
    then_act (hear_and_act end (event.Dialled link) s) (λ later. closed_at (Some end) link later)
answer_by (Some there) end link s = hear_and_act end (event.Dialled link) (answered_link link there s)

abbrev pub answer : EndId → ℕ → State → Acted
answer end link s = answer_by (lookup same_number link s.open_links) end link s

abbrev pub connect_by : Option Route → EndId → State → Acted
connect_by None end s = hear_and_act end event.DialFailed s
connect_by (Some route) end s = then_act (open_link route s) (λ later. answer end (length s.links) later)

-- the oldest dial waits no more
abbrev pub without_first : State → State
without_first s = record s { dials = drop 1 s.dials }

abbrev pub connect_first : Option WaitingDial → State → Acted
connect_first None s = nothing_done s
connect_first (Some first) s = connect_by (route_to first.end (end_of_peer first.peer s.ends)) first.end s

abbrev pub connect : State → Acted
connect s = connect_first (slice_get s.dials 0) (without_first s)

abbrev pub fail_first : Option WaitingDial → State → Acted
fail_first None s = nothing_done s
fail_first (Some first) s = hear_and_act first.end event.DialFailed s

abbrev pub fail_dial : State → Acted
fail_dial s = fail_first (slice_get s.dials 0) (without_first s)

-- ---- units

abbrev pub settle : ℕ → State → State
settle number s = record s { bag = settle_at number s.bag }

-- the unit of that number comes on the link in its direction
abbrev pub come_by : Option BagUnit → ℕ → State → Acted
come_by None link s = nothing_done s
come_by (Some unit) link s = pieces_come unit.back link (pieces_of unit.bytes) s

abbrev pub come : ℕ → ℕ → State → Acted
come number link s = come_by (slice_get s.bag number) link s

-- on the link on which it was sent
abbrev pub come_on_own : Option BagUnit → ℕ → State → Acted
come_on_own None number s = nothing_done s
come_on_own (Some unit) number s = come number unit.link (settle number s)

abbrev pub onward_by : Option ℕ → State → Acted
onward_by None s = nothing_done s
onward_by (Some number) s = come_on_own (slice_get s.bag number) number s

abbrev pub onward : State → Acted
onward s = onward_by (first_waiting s.bag) s

abbrev pub lose_by : Option ℕ → State → State
lose_by None s = s
lose_by (Some number) s = settle number s

abbrev pub lose : State → State
lose s = lose_by (first_waiting s.bag) s

-- a unit counts as delivered also where nobody hears it
abbrev pub deliver_on : Option ℕ → ℕ → State → Acted
deliver_on None number s = nothing_done s
deliver_on (Some link) number s = come number link (settle number s)

abbrev pub deliver_unit : Option BagUnit → ℕ → ℕ → State → Acted
deliver_unit None number link s = nothing_done s
deliver_unit (Some unit) number link s = deliver_on (chosen_in link (links_of unit.kind s.links)) number s

abbrev pub deliver_by : Option ℕ → ℕ → State → Acted
deliver_by None link s = nothing_done s
deliver_by (Some number) link s = deliver_unit (slice_get s.bag number) number link s

abbrev pub deliver : ℕ → ℕ → State → Acted
deliver unit link s = deliver_by (chosen_place unit (length s.bag)) link s

-- ---- bytes from outside

abbrev pub hand_on : Option ℕ → Bool → List ℕ → State → Acted
hand_on None back bytes s = nothing_done s
hand_on (Some link) back bytes s = piece_comes back link bytes s

abbrev pub hand : ℕ → Bool → List ℕ → State → Acted
hand link back bytes s = hand_on (chosen_in link (handed_links s.links)) back bytes s

-- ---- a link is shut: each side that is open hears of it, the one that accepted first

abbrev pub shut_by : Option (ℕ × OpenLink) → State → Acted
shut_by None s = nothing_done s
shut_by (Some entry) s =
    then_act (closed_at (hearer_on false entry.1) entry.0 (shut_link entry.0 s))
    (λ later. closed_at (hearer_on true entry.1) entry.0 later)

abbrev pub shut_at : Option ℕ → State → Acted
shut_at None s = nothing_done s
shut_at (Some at) s = shut_by (slice_get s.open_links at) s

abbrev pub shut : ℕ → State → Acted
shut number s = shut_at (chosen_place number (length s.open_links)) s

-- ---- an end is made anew

abbrev pub renew : EndId → State → EndStates
renew (Controller at) s = renew_controller s.hands_on s.seals (slice_get s.ends.controllers at) at s.ends
renew (Member at) s = renew_member (slice_get s.member_plans at) at s.ends
renew (Client at) s = renew_client (slice_get s.client_plans at) at s.ends
renew (Station at) s = renew_station (slice_get s.station_plans at) at s.ends

abbrev pub renewed : EndId → State → State
renewed end s = record s { ends = renew end s }

abbrev pub restart_by : Option EndId → State → State
restart_by None s = s
restart_by (Some end) s = renewed end (forget end s)

abbrev pub restart_at : Option ℕ → State → State
restart_at None s = s
restart_at (Some number) s = restart_by (end_at number s.ends) s

abbrev pub restart : ℕ → State → State
restart number s = restart_at (chosen_place number (count_of s.ends)) s

-- ---- a member begins to change its secret, and keeps its text

abbrev pub changed_by : EndChange → State → AfterHearing
changed_by change s = record { state = record s { ends = change.ends }; actions = change.actions }

abbrev pub changed : ℕ → List ℕ → State → AfterHearing
changed at secret s = changed_by (end_change at secret s.ends) s

abbrev pub change_at : Option ℕ → List ℕ → State → Acted
change_at None secret s = nothing_done s
change_at (Some at) secret s = done (Member at) (changed at secret s)

abbrev pub change : ℕ → List ℕ → State → Acted
change number secret s = change_at (chosen_place number (length s.ends.members)) secret s

-- ---- time passes, up to 2^63

abbrev pub moment_after : ℕ → ℕ → ℕ
moment_after more now = if nat_le now (2 ^ 63) then min (now + more) (2 ^ 63) else now

abbrev pub tick : ℕ → State → State
tick more s = record s { moment = moment_after more s.moment }

-- ---- a move

abbrev pub act : State → Move → Acted
act s (move.Start number) = start number s
act s (move.Stranger number) = stranger number s
act s move.Connect = connect s
act s move.FailDial = fail_dial s
act s move.Onward = onward s
act s move.Lose = nothing_done (lose s)
act s (move.Deliver unit link) = deliver unit link s
act s (move.Hand link back bytes) = hand link back bytes s
act s (move.Shut number) = shut number s
act s (move.Restart number) = nothing_done (restart number s)
act s (move.Change member secret) = change member secret s
act s (move.Tick more) = nothing_done (tick more s)
