-- The ends of a world, and one step of one of them (this project's own choice). Ends are numbered from 0: controllers,
-- then members, then clients, then stations.
use Rattle.std.specs.Prelude.{ℕ, ◌≡◌, ◌+◌, ◌-◌, ◌++◌, nat_lt, Bool, true, false, List, [], length, Option, Some, None, Result, Ok, Err, slice_get, slice_set, if◌then◌else◌}
use Rattle.outside.specs.Drawing.{Drawing}
use Rattle.outside.specs.Machine.{Stepped}
use Rattle.outside.specs.declared.action.Action.{Action}
use Rattle.outside.specs.declared.action.StepRefused.{StepRefused}
use Rattle.outside.specs.declared.event.Event.{Event}
use Rattle.account_table.specs.AccountTable.{AccountTable}
use Rattle.domain_controller.specs.SealStep.{first_seal_state, seal_step_of as controller_step_of}
use Rattle.domain_controller.specs.State.{State as ControllerState}
use Rattle.domain_controller.specs.Step.{first_state}
use Rattle.domain_controller.specs.TrustStep.{first_trust_state}
use Rattle.interactive_station.specs.State.{StationState}
use Rattle.interactive_station.specs.Machine.{fresh_station, step_of as station_step_of}
use Rattle.interactive_station.specs.declared.plan.StationPlan.{StationPlan}
use Rattle.logon_client.specs.State.{State as ClientState}
use Rattle.logon_client.specs.Machine.{fresh_client, step_of as client_step_of}
use Rattle.logon_client.specs.declared.plan.ClientPlan.{ClientPlan}
use Rattle.member_server.specs.State.{State as MemberState}
use Rattle.member_server.specs.Machine.{Changing, change_of}
use Rattle.member_server.specs.SealStep.{any_step_of as member_step_of, sealing_member}
use Rattle.member_server.specs.declared.change.ChangeRefused.{ChangeRefused}
use Rattle.member_server.specs.declared.plan.MemberPlan.{MemberPlan}
use Rattle.world_moves.specs.declared.links.EndId.{EndId}
use Rattle.world_moves.specs.declared.links.EndId.TheVariants.{Controller, Member, Client, Station}
use Rattle.world_moves.specs.Counting.{counted_of}

pub record EndStates : Type 0 where
  pub controllers : List ControllerState
  pub members : List MemberState
  pub clients : List ClientState
  pub stations : List StationState

-- ---- numbers of ends

abbrev pub end_in : (number controllers members clients stations : ℕ) → Option EndId
end_in number controllers members clients stations =
    if nat_lt number controllers then Some (Controller number)
    else if nat_lt number (controllers + members) then Some (Member (number - controllers))
    else if nat_lt number (controllers + members + clients) then Some (Client (number - (controllers + members)))
    else if nat_lt number (controllers + members + clients + stations) then Some (Station (number - (controllers + members + clients)))
    else None

-- the end of that number
abbrev pub end_at : ℕ → EndStates → Option EndId
end_at number ends =
    end_in number (length ends.controllers) (length ends.members) (length ends.clients) (length ends.stations)

-- how many ends take links, how many can be started, and how many ends there are
abbrev pub acceptors_in : EndStates → ℕ
acceptors_in ends = length ends.controllers + length ends.members

abbrev pub starters_in : EndStates → ℕ
starters_in ends = length ends.clients + length ends.stations

abbrev pub count_of : EndStates → ℕ
count_of ends = length ends.controllers + length ends.members + length ends.clients + length ends.stations

-- ---- one step

-- what a step of an end comes to: all ends, the maker of challenges, the actions and those of them that are counted
pub record EndStep : Type 0 where
  pub ends : EndStates
  pub chances : Drawing
  pub actions : List Action
  pub counted : List Action

abbrev pub end_done : EndId → EndStates → Drawing → List Action → EndStep
end_done end ends chances actions =
    record { ends = ends; chances = chances; actions = actions; counted = counted_of end actions }

-- an end that isn't there takes none
abbrev pub no_step : EndStates → Drawing → EndStep
no_step ends chances = record { ends = ends; chances = chances; actions = []; counted = [] }

-- the actions of a step that is taken
abbrev pub actions_by : Result (List Action) StepRefused → List Action
actions_by (Ok actions) = actions
actions_by (Err why) = []

-- the maker of challenges after these were drawn, where those are left
abbrev pub drawn_on : Drawing → List (List ℕ) → List (List ℕ) → Drawing
drawn_on chances drawn left = record chances { drawn = chances.drawn ++ drawn; left = left }

abbrev pub controller_done : Stepped ControllerState → ℕ → EndStates → Drawing → EndStep
controller_done step at ends chances =
    end_done (Controller at) (record ends { controllers = slice_set ends.controllers at step.state })
    (drawn_on chances step.drawn step.left) (actions_by step.answer)

abbrev pub member_done : Stepped MemberState → ℕ → EndStates → Drawing → EndStep
member_done step at ends chances =
    end_done (Member at) (record ends { members = slice_set ends.members at step.state })
    (drawn_on chances step.drawn step.left) (actions_by step.answer)

abbrev pub client_done : Stepped ClientState → ℕ → EndStates → Drawing → EndStep
client_done step at ends chances =
    end_done (Client at) (record ends { clients = slice_set ends.clients at step.state })
    (drawn_on chances step.drawn step.left) (actions_by step.answer)

abbrev pub station_done : Stepped StationState → ℕ → EndStates → Drawing → EndStep
station_done step at ends chances =
    end_done (Station at) (record ends { stations = slice_set ends.stations at step.state })
    (drawn_on chances step.drawn step.left) (actions_by step.answer)

abbrev pub controller_step : Option ControllerState → ℕ → Event → ℕ → EndStates → Drawing → EndStep
controller_step None at what now ends chances = no_step ends chances
controller_step (Some controller) at what now ends chances =
    controller_done (controller_step_of controller what now chances.left) at ends chances

abbrev pub member_step : Option MemberState → ℕ → Event → ℕ → EndStates → Drawing → EndStep
member_step None at what now ends chances = no_step ends chances
member_step (Some member) at what now ends chances =
    member_done (member_step_of member what now chances.left) at ends chances

abbrev pub client_step : Option ClientState → ℕ → Event → ℕ → EndStates → Drawing → EndStep
client_step None at what now ends chances = no_step ends chances
client_step (Some client) at what now ends chances =
    client_done (client_step_of client what now chances.left) at ends chances

abbrev pub station_step : Option StationState → ℕ → Event → ℕ → EndStates → Drawing → EndStep
station_step None at what now ends chances = no_step ends chances
station_step (Some station) at what now ends chances =
    station_done (station_step_of station what now chances.left) at ends chances

-- the step of an end for an event at a moment
abbrev pub end_step : EndId → Event → ℕ → EndStates → Drawing → EndStep
end_step (Controller at) what now ends chances =
    controller_step (slice_get ends.controllers at) at what now ends chances
end_step (Member at) what now ends chances = member_step (slice_get ends.members at) at what now ends chances
end_step (Client at) what now ends chances = client_step (slice_get ends.clients at) at what now ends chances
end_step (Station at) what now ends chances = station_step (slice_get ends.stations at) at what now ends chances

-- ---- ends that are made anew

-- a controller of that name over these accounts, which can seal or can't. One that can hands logons on to the
-- controllers of trusted domains; one that can't does so or asks nobody
abbrev pub fresh_controller : (hands_on seals : Bool) → AccountTable → List ℕ → ControllerState
fresh_controller hands_on true table name = first_seal_state table name
fresh_controller false false table name = first_state table name
fresh_controller true false table name = first_trust_state table name

-- a controller keeps its accounts as they stand, and its name
abbrev pub renew_controller : (hands_on seals : Bool) → Option ControllerState → ℕ → EndStates → EndStates
renew_controller hands_on seals None at ends = ends
renew_controller hands_on seals (Some c) at ends =
    record ends { controllers = slice_set ends.controllers at (fresh_controller hands_on seals c.table c.name) }

-- members, clients and stations are made from their plans; a member's channel seals where its plan says so
abbrev pub with_member : ℕ → MemberState → EndStates → EndStates
with_member at member ends = record ends { members = slice_set ends.members at member }

abbrev pub renew_member : Option MemberPlan → ℕ → EndStates → EndStates
renew_member None at ends = ends
renew_member (Some plan) at ends = with_member at (sealing_member plan) ends

abbrev pub with_client : ℕ → ClientState → EndStates → EndStates
with_client at client ends = record ends { clients = slice_set ends.clients at client }

abbrev pub renew_client : Option ClientPlan → ℕ → EndStates → EndStates
renew_client None at ends = ends
renew_client (Some plan) at ends = with_client at (fresh_client plan) ends

abbrev pub with_station : ℕ → StationState → EndStates → EndStates
with_station at station ends = record ends { stations = slice_set ends.stations at station }

abbrev pub renew_station : Option StationPlan → ℕ → EndStates → EndStates
renew_station None at ends = ends
renew_station (Some plan) at ends = with_station at (fresh_station plan) ends

-- ---- a member begins to change its secret

-- what that comes to: all ends, and its actions
pub record EndChange : Type 0 where
  pub ends : EndStates
  pub actions : List Action

-- the actions of a change that begins; a member that changes to another secret already begins none
abbrev pub actions_begun : Result (List Action) ChangeRefused → List Action
actions_begun (Ok actions) = actions
actions_begun (Err why) = []

-- a member began to change its secret: its actions, and the member afterwards
pub record HasChanged (given : List Action) (before : MemberState) (secret : List ℕ) (after : MemberState) : Type 0 where
  pub member : after ≡ (change_of before secret).state
  pub actions : given ≡ actions_begun (change_of before secret).answer

abbrev pub change_done : Changing → ℕ → EndStates → EndChange
change_done changing at ends =
    record { ends = with_member at changing.state ends; actions = actions_begun changing.answer }

abbrev pub change_by : Option MemberState → ℕ → List ℕ → EndStates → EndChange
change_by None at secret ends = record { ends = ends; actions = [] }
change_by (Some member) at secret ends = change_done (change_of member secret) at ends

-- the member of that number is told to change to the secret
abbrev pub end_change : ℕ → List ℕ → EndStates → EndChange
end_change at secret ends = change_by (slice_get ends.members at) at secret ends
