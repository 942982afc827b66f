-- A plain world (this project's own choice): nothing seals in it, since its controllers can't and no member's plan asks
-- for it, and no station stands in it. Each controller and member takes the steps of one that can't seal.
use Rattle.std.specs.Prelude.{ℕ, ◌≡◌, Bool, false, List, [], map, Option, Some, None, slice_get, slice_set}
use Rattle.std.specs.List.{AllByRecursion}
use Rattle.outside.specs.Counter.{counter_at}
use Rattle.outside.specs.Drawing.{Drawing}
use Rattle.outside.specs.declared.event.Event.{Event}
use Rattle.domain_controller.specs.State.{State as ControllerState}
use Rattle.domain_controller.specs.TrustStep.{trust_step_of}
use Rattle.interactive_station.specs.Machine.{fresh_station}
use Rattle.interactive_station.specs.State.{StationState}
use Rattle.interactive_station.specs.declared.plan.StationPlan.{StationPlan}
use Rattle.logon_client.specs.Machine.{fresh_client}
use Rattle.member_server.specs.Machine.{fresh_member, step_of as plain_member_step_of}
use Rattle.member_server.specs.SealStep.{SealsNothing}
use Rattle.member_server.specs.State.{State as MemberState}
use Rattle.member_server.specs.declared.plan.MemberPlan.{MemberPlan}
use Rattle.world_moves.specs.declared.links.EndId.{EndId}
use Rattle.world_moves.specs.declared.links.EndId.TheVariants.{Controller, Member, Client, Station}
use Rattle.world_moves.specs.declared.moves.Move.{Move}
use Rattle.world_moves.specs.declared.plan.Plan.{Plan}
use Rattle.world_moves.specs.declared.state.State.{State}
use Rattle.world_moves.specs.Acting.{AfterHearing, hear, heard_by}
use Rattle.world_moves.specs.Counting.{no_counts}
use Rattle.world_moves.specs.Ends.{EndStates, EndStep, client_step, controller_done, member_done, no_step, renew_client, renew_controller, with_member}
use Rattle.world_moves.specs.Moving.{act, renew}
use Rattle.world_moves.specs.World.{World, first_controllers, first_world}

-- ---- plans

abbrev pub IsUnsealed : MemberPlan → Type 0
IsUnsealed plan = plan.sealed ≡ false

-- a plan whose controllers can't seal, none of whose members' channels does, and in which no station stands
pub record IsPlainPlan (plan : Plan) : Type 0 where
  pub controllers : plan.seals ≡ false
  pub members : AllByRecursion IsUnsealed plan.members
  pub stations : plan.stations ≡ []

-- ---- a step, and what an end hears

abbrev pub plain_controller_step : Option ControllerState → ℕ → Event → ℕ → EndStates → Drawing → EndStep
plain_controller_step None at what now ends chances = no_step ends chances
plain_controller_step (Some controller) at what now ends chances =
    controller_done (trust_step_of controller what now chances.left) at ends chances

abbrev pub plain_member_step : Option MemberState → ℕ → Event → ℕ → EndStates → Drawing → EndStep
plain_member_step None at what now ends chances = no_step ends chances
plain_member_step (Some member) at what now ends chances =
    member_done (plain_member_step_of member what now chances.left) at ends chances

-- the step of an end, where each steps as one that can't seal, and no station stands
abbrev pub plain_end_step : EndId → Event → ℕ → EndStates → Drawing → EndStep
plain_end_step (Controller at) what now ends chances =
    plain_controller_step (slice_get ends.controllers at) at what now ends chances
plain_end_step (Member at) what now ends chances = plain_member_step (slice_get ends.members at) at what now ends chances
plain_end_step (Client at) what now ends chances = client_step (slice_get ends.clients at) at what now ends chances
plain_end_step (Station at) what now ends chances = no_step ends chances

abbrev pub hear_plain : EndId → Event → State → AfterHearing
hear_plain end what s = heard_by (plain_end_step end what s.moment s.ends s.chances) s

-- ---- ends that are made anew, and a world at first

abbrev pub renew_plain_member : Option MemberPlan → ℕ → EndStates → EndStates
renew_plain_member None at ends = ends
renew_plain_member (Some plan) at ends = with_member at (fresh_member plan) ends

abbrev pub renew_plain : EndId → State → EndStates
renew_plain (Controller at) s = renew_controller s.hands_on false (slice_get s.ends.controllers at) at s.ends
renew_plain (Member at) s = renew_plain_member (slice_get s.member_plans at) at s.ends
renew_plain (Client at) s = renew_client (slice_get s.client_plans at) at s.ends
renew_plain (Station at) s = s.ends

abbrev pub renewed_plain : EndId → State → State
renewed_plain end s = record s { ends = renew_plain end s }

abbrev pub plain_ends : Plan → EndStates
plain_ends plan = record {
  controllers = first_controllers plan.hands_on false plan.tables plan.controllers;
  members = map fresh_member plan.members;
  clients = map fresh_client plan.clients;
  stations = map fresh_station plan.stations;
}

abbrev pub plain_world : Plan → World
plain_world plan = record {
  state = record {
    ends = plain_ends plan;
    member_plans = plan.members;
    client_plans = plan.clients;
    station_plans = plan.stations;
    hands_on = plan.hands_on;
    seals = false;
    links = [];
    open_links = [];
    bag = [];
    dials = [];
    moment = plan.now;
    chances = counter_at plan.seed 0 0;
    counts = no_counts;
  };
  moves = 0;
  stopped = false;
}

-- ---- what holds of such worlds

-- a controller that can't seal
abbrev pub CantSeal : ControllerState → Type 0
CantSeal controller = controller.trusting.sealing ≡ None

-- no end seals, and none will that is made anew; and no station stands, and none will
pub record StandsPlain (seals : Bool) (controllers : List ControllerState) (members : List MemberState) (plans : List MemberPlan)
    (stations : List StationState) (tasks : List StationPlan) : Type 0 where
  pub none : seals ≡ false
  pub each_controller : (at : ℕ) (c : ControllerState) → slice_get controllers at ≡ Some c → CantSeal c
  pub each_member : (at : ℕ) (m : MemberState) → slice_get members at ≡ Some m → SealsNothing m
  pub each_plan : (at : ℕ) (plan : MemberPlan) → slice_get plans at ≡ Some plan → IsUnsealed plan
  pub no_station : stations ≡ []
  pub no_task : tasks ≡ []

abbrev pub IsPlain : State → Type 0
IsPlain s = StandsPlain s.seals s.ends.controllers s.ends.members s.member_plans s.ends.stations s.station_plans

-- A world of a plain plan is plain at first, each move leaves it so, and an end hears and is made anew as one that
-- can't seal, and a station not at all.
pub record HearsPlainly : Type 0 where
  pub world : (plan : Plan) → IsPlainPlan plan → first_world plan ≡ plain_world plan
  pub first : (plan : Plan) → IsPlainPlan plan → IsPlain (first_world plan).state
  pub stays : (s : State) (what : Move) → IsPlain s → IsPlain (act s what).state
  pub hears : (end : EndId) (what : Event) (s : State) → IsPlain s → hear end what s ≡ hear_plain end what s
  pub renews : (end : EndId) (s : State) → IsPlain s → renew end s ≡ renew_plain end s
