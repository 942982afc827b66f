-- A world, and its run over a list of moves (this project's own choice).
use Rattle.std.specs.Prelude.{ℕ, ◌≡◌, ◌+◌, ◌≤◌, Bool, false, List, [], ◌∷◌, length, map, Option, Some, None, All, slice_get}
use Rattle.std.specs.List.{flat_map}
use Rattle.outside.specs.Counter.{counter_at}
use Rattle.outside.specs.declared.action.Action.{Action}
use Rattle.account_table.specs.AccountTable.{AccountTable}
use Rattle.domain_controller.specs.State.{State as ControllerState}
use Rattle.interactive_station.specs.Machine.{fresh_station}
use Rattle.interactive_station.specs.Plans.{CanStation}
use Rattle.interactive_station.specs.State.{StationState}
use Rattle.interactive_station.specs.declared.outcome.StationOutcome.{StationOutcome}
use Rattle.logon_client.specs.State.{State as ClientState}
use Rattle.logon_client.specs.Machine.{fresh_client}
use Rattle.logon_client.specs.Plans.{CanLogOn}
use Rattle.logon_client.specs.declared.outcome.ClientOutcome.{ClientOutcome}
use Rattle.member_server.specs.SealStep.{sealing_member}
use Rattle.member_server.specs.declared.plan.MemberPlan.{MemberPlan}
use Rattle.secret_change.specs.Secrets.{SecretsState}
use Rattle.world_moves.specs.declared.counting.Counts.{Counts}
use Rattle.world_moves.specs.declared.counting.Report.{Report}
use Rattle.world_moves.specs.declared.links.EndId.{EndId}
use Rattle.world_moves.specs.declared.moves.Move.{Move}
use Rattle.world_moves.specs.declared.moves.Move.TheVariants as move
use Rattle.world_moves.specs.declared.plan.Plan.{Plan}
use Rattle.world_moves.specs.declared.state.State.{State}
use Rattle.world_moves.specs.Acting.{Given}
use Rattle.world_moves.specs.Counting.{counted_of, counts_of, no_counts}
use Rattle.world_moves.specs.Ends.{EndStates, fresh_controller}
use Rattle.world_moves.specs.Moving.{act}

-- ---- a world

pub record World : Type 0 where
  pub state : State
  -- the moves that were made
  pub moves : ℕ
  -- whether a move wasn't made
  pub stopped : Bool

-- a plan that a world can be made from: each controller has a table, and each client and each station can follow its
-- plan
pub record IsPlan (plan : Plan) : Type 0 where
  pub tables : length plan.tables ≡ length plan.controllers
  pub clients : All CanLogOn plan.clients
  pub stations : All CanStation plan.stations

-- how many ends of a plan can be started: its clients and its stations
abbrev pub starters_of : Plan → ℕ
starters_of plan = length plan.clients + length plan.stations

-- a move that a world can make: at most 65,536 bytes are handed in
abbrev pub IsMove : Move → Type 0
IsMove (move.Hand link back bytes) = length bytes ≤ 65536
IsMove _ = Unit {0}

-- the most moves of a world
abbrev pub move_limit : ℕ
move_limit = 100000

-- ---- at first

abbrev pub first_controllers : (hands_on seals : Bool) → List AccountTable → List (List ℕ) → List ControllerState
first_controllers hands_on seals [] names = []
first_controllers hands_on seals (table ∷ tables) [] = []
first_controllers hands_on seals (table ∷ tables) (name ∷ names) =
    fresh_controller hands_on seals table name ∷ first_controllers hands_on seals tables names

abbrev pub first_ends : Plan → EndStates
first_ends plan = record {
  controllers = first_controllers plan.hands_on plan.seals plan.tables plan.controllers;
  members = map sealing_member plan.members;
  clients = map fresh_client plan.clients;
  stations = map fresh_station plan.stations;
}

abbrev pub first_world : Plan → World
first_world plan = record {
  state = record {
    ends = first_ends plan;
    member_plans = plan.members;
    client_plans = plan.clients;
    station_plans = plan.stations;
    hands_on = plan.hands_on;
    seals = plan.seals;
    links = [];
    open_links = [];
    bag = [];
    dials = [];
    moment = plan.now;
    chances = counter_at plan.seed 0 0;
    counts = no_counts;
  };
  moves = 0;
  stopped = false;
}

-- ---- moves

-- the move is counted, whatever it comes to
abbrev pub happens : World → Move → World
happens w what = record w { state = (act w.state what).state; moves = w.moves + 1 }

-- the actions that ends give at a move
abbrev pub given_at : World → Move → Given
given_at w what = (act w.state what).given

abbrev pub run : List Move → World → World
run [] w = w
run (what ∷ moves) w = run moves (happens w what)

-- a state of a run, and the actions that ends gave at the move that led to it
pub record Passed : Type 0 where
  pub world : World
  pub given : Given

-- the states of a run, one for each move
abbrev pub run_of : List Move → World → List Passed
run_of [] w = []
run_of (what ∷ moves) w = record { world = happens w what; given = given_at w what } ∷ run_of moves (happens w what)

-- the world at the end of a list of states
abbrev pub last_of : List Passed → World → World
last_of [] w = w
last_of (one ∷ passed) w = last_of passed one.world

-- ---- what is counted

abbrev pub actions_in : Given → List Action
actions_in given = map (λ (one : EndId × Action). one.1) given

-- all actions of a run, in order
abbrev pub actions_of_run : List Passed → List Action
actions_of_run passed = flat_map (λ (one : Passed). actions_in one.given) passed

-- the actions that are counted, by the ends that gave them
abbrev pub counted_given : Given → List Action
counted_given given = flat_map (λ (one : EndId × Action). counted_of one.0 (one.1 ∷ [])) given

abbrev pub counted_of_run : List Passed → List Action
counted_of_run passed = flat_map (λ (one : Passed). counted_given one.given) passed

abbrev pub report_by : Counts → ℕ → Report
report_by counts moves = record {
  moves = moves;
  accepted = counts.accepted;
  refused = counts.refused;
  no_controller = counts.no_controller;
  passed = counts.passed;
  barred = counts.barred;
}

-- what a world has counted
abbrev pub report_of : World → Report
report_of w = report_by w.state.counts w.moves

-- the counts of the actions that are counted of a run from a plan
abbrev pub report_of_run : Plan → List Move → Report
report_of_run plan moves = report_by (counts_of (counted_of_run (run_of moves (first_world plan)))) (length moves)

-- ---- secrets

-- the secrets that a member keeps: those of the text that it kept last, and before that those of its plan
abbrev pub kept_by : Option MemberPlan → Option SecretsState
kept_by None = None
kept_by (Some plan) = Some plan.secrets

abbrev pub kept_of : World → ℕ → Option SecretsState
kept_of w member = kept_by (slice_get w.state.member_plans member)

-- ---- outcomes

abbrev pub outcome_by : Option ClientState → Option ClientOutcome
outcome_by None = None
outcome_by (Some client) = client.outcome

abbrev pub outcome_of : World → ℕ → Option ClientOutcome
outcome_of w client = outcome_by (slice_get w.state.ends.clients client)

abbrev pub station_outcome_by : Option StationState → Option StationOutcome
station_outcome_by None = None
station_outcome_by (Some station) = station.outcome

abbrev pub station_outcome_of : World → ℕ → Option StationOutcome
station_outcome_of w station = station_outcome_by (slice_get w.state.ends.stations station)
