-- A plain world. It serves `a_plain_world_hears_plainly`, and the laws of all runs.
use Rattle.std.proofs.Common.{◌≡◌, ℕ, zero, suc, arith, Bool, true, false, List, [], ◌∷◌, length, map, Option, Some, None, slice_get, slice_set, refl, ap, ap₂, subst, sym, ◌∙◌}
use Rattle.std.specs.List.{AllByRecursion}
use Rattle.outside.specs.Drawing.{Drawing}
use Rattle.outside.specs.Machine.{Stepped}
use Rattle.outside.specs.declared.action.Action.{Action}
use Rattle.outside.specs.declared.action.Action.TheVariants as action
use Rattle.outside.specs.declared.event.Event.{Event}
use Rattle.secret_change.specs.Secrets.{SecretsState, secrets_of}
use Rattle.account_table.specs.AccountTable.{AccountTable}
use Rattle.domain_controller.specs.SealStep.{seal_step_of}
use Rattle.domain_controller.specs.State.{State as ControllerState}
use Rattle.domain_controller.proofs.PlainLaws.{plain_controllers_stay}
use Rattle.interactive_station.specs.Machine.{begin_of as station_begin_of, fresh_station, step_of as station_step_of}
use Rattle.interactive_station.specs.State.{StationState}
use Rattle.interactive_station.specs.declared.plan.StationPlan.{StationPlan}
use Rattle.member_server.specs.Machine.{fresh_member}
use Rattle.member_server.specs.SealStep.{SealsNothing, any_step_of, sealing_in, sealing_member}
use Rattle.member_server.specs.State.{State as MemberState}
use Rattle.member_server.specs.declared.plan.MemberPlan.{MemberPlan}
use Rattle.member_server.proofs.SealLaws.{plain_members_stay}
use Rattle.world_moves.specs.declared.links.EndId.{EndId}
use Rattle.world_moves.specs.declared.links.EndId.TheVariants.{Controller, Member, Client, Station}
use Rattle.world_moves.specs.declared.moves.Move.{Move}
use Rattle.world_moves.specs.declared.plan.Plan.{Plan}
use Rattle.world_moves.specs.declared.state.State.{State}
use Rattle.world_moves.specs.Acting.{hear, heard_by, keep_at, keep_by, nothing_done, perform_quietly, plans_after, put_secrets}
use Rattle.world_moves.specs.Ends.{EndStates, EndStep, controller_done, controller_step, end_change, end_step, fresh_controller, member_done, member_step, no_step, renew_controller, renew_member, renew_station, starters_in, station_step, with_member}
use Rattle.world_moves.specs.Moving.{act, renew, start_station, start_station_by}
use Rattle.world_moves.specs.Plain.{CantSeal, HearsPlainly, IsPlain, IsPlainPlan, IsUnsealed, StandsPlain, hear_plain, plain_controller_step, plain_end_step, plain_member_step, plain_world, renew_plain, renew_plain_member}
use Rattle.world_moves.specs.World.{World, first_controllers, first_ends, first_world, run}
use Rattle.world_moves.proofs.ChangeLaws.{by_change, member_begun}
use Rattle.world_moves.proofs.EndKindLaws.{renew_by, step_by}
use Rattle.world_moves.proofs.StateFrameLaws.{HoldsActing, HoldsMoving, StateFact, move_so}

-- ---- an end hears as one that can't seal

-- whatever holds of each of a list holds of the one that is found there
abbrev pub OfFound : {T : Type 0} → (T → Type 0) → Option T → Type 0
OfFound P None = Unit {0}
OfFound P (Some one) = P one

pub of_found : {T : Type 0} (P : T → Type 0) (items : List T) (at : ℕ) (found : Option T) → slice_get items at ≡ found → ((one : T) → slice_get items at ≡ Some one → P one) → OfFound P found
of_found P items at None is each = tt
of_found P items at (Some one) is each = each one is

pub controller_plain : (found : Option ControllerState) (at : ℕ) (what : Event) (now : ℕ) (ends : EndStates) (chances : Drawing) → OfFound CantSeal found →
    controller_step found at what now ends chances ≡ plain_controller_step found at what now ends chances
controller_plain None at what now ends chances none = refl
controller_plain (Some c) at what now ends chances none =
    ap (λ (step : Stepped ControllerState). controller_done step at ends chances) (plain_controllers_stay.step c what now chances.left none)

member_plain : (found : Option MemberState) (at : ℕ) (what : Event) (now : ℕ) (ends : EndStates) (chances : Drawing) → OfFound SealsNothing found →
    member_step found at what now ends chances ≡ plain_member_step found at what now ends chances
member_plain None at what now ends chances none = refl
member_plain (Some m) at what now ends chances none =
    ap (λ (step : Stepped MemberState). member_done step at ends chances) (plain_members_stay.step m what now chances.left none)

-- a station that isn't there takes no step
station_plain : (stations : List StationState) (at : ℕ) (what : Event) (now : ℕ) (ends : EndStates) (chances : Drawing) → stations ≡ [] →
    station_step (slice_get stations at) at what now ends chances ≡ no_step ends chances
station_plain stations at what now ends chances none = ap (λ (all : List StationState). station_step (slice_get all at) at what now ends chances) none

pub step_plain : (seals : Bool) (plans : List MemberPlan) (tasks : List StationPlan) (end : EndId) (what : Event) (now : ℕ) (ends : EndStates) (chances : Drawing) →
    StandsPlain seals ends.controllers ends.members plans ends.stations tasks →
    end_step end what now ends chances ≡ plain_end_step end what now ends chances
step_plain seals plans tasks (Controller at) what now ends chances plain =
    controller_plain (slice_get ends.controllers at) at what now ends chances (of_found CantSeal ends.controllers at (slice_get ends.controllers at) refl (plain.each_controller at))
step_plain seals plans tasks (Member at) what now ends chances plain =
    member_plain (slice_get ends.members at) at what now ends chances (of_found SealsNothing ends.members at (slice_get ends.members at) refl (plain.each_member at))
step_plain seals plans tasks (Client at) what now ends chances plain = refl
step_plain seals plans tasks (Station at) what now ends chances plain = station_plain ends.stations at what now ends chances plain.no_station

pub hears_so_plainly : (end : EndId) (what : Event) (s : State) → IsPlain s → hear end what s ≡ hear_plain end what s
hears_so_plainly end what s plain = ap (λ (step : EndStep). heard_by step s) (step_plain s.seals s.member_plans s.station_plans end what s.moment s.ends s.chances plain)

-- ---- an end is made anew so

member_anew : (found : Option MemberPlan) (at : ℕ) (ends : EndStates) → OfFound IsUnsealed found → renew_member found at ends ≡ renew_plain_member found at ends
member_anew None at ends none = refl
member_anew (Some plan) at ends none = ap (λ (new : MemberState). with_member at new ends) (plain_members_stay.made plan none)

pub renews_plainly : (end : EndId) (s : State) → IsPlain s → renew end s ≡ renew_plain end s
renews_plainly (Controller at) s plain = ap (λ (seals : Bool). renew_controller s.hands_on seals (slice_get s.ends.controllers at) at s.ends) plain.none
renews_plainly (Member at) s plain =
    member_anew (slice_get s.member_plans at) at s.ends (of_found IsUnsealed s.member_plans at (slice_get s.member_plans at) refl (plain.each_plan at))
renews_plainly (Client at) s plain = refl
renews_plainly (Station at) s plain = ap (λ (tasks : List StationPlan). renew_station (slice_get tasks at) at s.ends) plain.no_task

-- ---- no station starts, and the number of a start chooses among the clients

pub none_start : (at : ℕ) (s : State) → IsPlain s → start_station at s ≡ nothing_done s
none_start at s plain = ap (λ (tasks : List StationPlan). start_station_by (slice_get tasks at) at s) plain.no_task

pub starters_plain : (s : State) → IsPlain s → starters_in s.ends ≡ length s.ends.clients
starters_plain s plain = omega (arith, ap length plain.no_station)

-- ---- a plain world stays one

-- what holds of each of a list holds on where one is put in a place of which it holds
pub put_each : {T : Type 0} (P : T → Type 0) (items : List T) (at : ℕ) (item : T) → ((k : ℕ) (one : T) → slice_get items k ≡ Some one → P one) → P item →
    (k : ℕ) (one : T) → slice_get (slice_set items at item) k ≡ Some one → P one
put_each P [] at item each new k one is = each k one is
put_each P (first ∷ items) zero item each new zero one is = subst P (let same : item ≡ one = cc in same) new
put_each P (first ∷ items) zero item each new (suc k) one is = each (suc k) one is
put_each P (first ∷ items) (suc at) item each new zero one is = each zero one is
put_each P (first ∷ items) (suc at) item each new (suc k) one is = put_each P items at item (λ n other there. each (suc n) other there) new k one is

module _ (seals : Bool) (controllers : List ControllerState) (members : List MemberState) (plans : List MemberPlan) (stations : List StationState) (tasks : List StationPlan)
    (plain : StandsPlain seals controllers members plans stations tasks) where
  controller_put : (at : ℕ) (new : ControllerState) → CantSeal new → StandsPlain seals (slice_set controllers at new) members plans stations tasks
  controller_put at new none = record {
    none = plain.none;
    each_controller = put_each CantSeal controllers at new plain.each_controller none;
    each_member = plain.each_member;
    each_plan = plain.each_plan;
    no_station = plain.no_station;
    no_task = plain.no_task;
  }

  member_put : (at : ℕ) (new : MemberState) → SealsNothing new → StandsPlain seals controllers (slice_set members at new) plans stations tasks
  member_put at new none = record {
    none = plain.none;
    each_controller = plain.each_controller;
    each_member = put_each SealsNothing members at new plain.each_member none;
    each_plan = plain.each_plan;
    no_station = plain.no_station;
    no_task = plain.no_task;
  }

  plan_put : (at : ℕ) (new : MemberPlan) → IsUnsealed new → StandsPlain seals controllers members (slice_set plans at new) stations tasks
  plan_put at new none = record {
    none = plain.none;
    each_controller = plain.each_controller;
    each_member = plain.each_member;
    each_plan = put_each IsUnsealed plans at new plain.each_plan none;
    no_station = plain.no_station;
    no_task = plain.no_task;
  }

  -- none that is put in a place makes one stand
  station_put : (at : ℕ) (new : StationState) → StandsPlain seals controllers members plans (slice_set stations at new) tasks
  station_put at new = record {
    none = plain.none;
    each_controller = plain.each_controller;
    each_member = plain.each_member;
    each_plan = plain.each_plan;
    no_station = ap (λ (all : List StationState). slice_set all at new) plain.no_station;
    no_task = plain.no_task;
  }

  -- a text that is kept changes no more of a plan than its secrets
  put_plain : (found : Option MemberPlan) (secrets : SecretsState) (at : ℕ) → slice_get plans at ≡ found → StandsPlain seals controllers members (put_secrets found secrets at plans) stations tasks
  put_plain None secrets at is = plain
  put_plain (Some plan) secrets at is = plan_put at (record plan { secrets = secrets }) (plain.each_plan at plan is)

  keep_plain : (secrets : Option SecretsState) (at : ℕ) → StandsPlain seals controllers members (keep_by secrets at plans) stations tasks
  keep_plain None at = plain
  keep_plain (Some secrets) at = put_plain (slice_get plans at) secrets at refl

  text_plain : (end : EndId) (text : List ℕ) → StandsPlain seals controllers members (keep_at end text plans) stations tasks
  text_plain (Controller at) text = plain
  text_plain (Member at) text = keep_plain (secrets_of text) at
  text_plain (Client at) text = plain
  text_plain (Station at) text = plain

  action_plain : (end : EndId) (what : Action) → StandsPlain seals controllers members (plans_after end what plans) stations tasks
  action_plain end (action.Keep text) = text_plain end text
  action_plain end (action.Send link bytes) = plain
  action_plain end (action.Dial peer) = plain
  action_plain end (action.Close link cause) = plain
  action_plain end (action.Told link outcome) = plain
  action_plain end (action.Judged how) = plain

member_stays : (m : MemberState) (what : Event) (now : ℕ) (left : List (List ℕ)) → SealsNothing m → SealsNothing (any_step_of m what now left).state
member_stays m what now left none =
    ap (λ (step : Stepped MemberState). sealing_in step.state) (plain_members_stay.step m what now left none) ∙ plain_members_stay.stepped m what now left none

step_stays : (seals : Bool) (plans : List MemberPlan) (tasks : List StationPlan) (what : Event) (now : ℕ) (ends : EndStates) (chances : Drawing) →
    StandsPlain seals ends.controllers ends.members plans ends.stations tasks → (end : EndId) →
    let after : EndStates = (end_step end what now ends chances).ends in StandsPlain seals after.controllers after.members plans after.stations tasks
step_stays seals plans tasks what now ends chances plain end =
    step_by (λ (one : EndId) (step : EndStep). StandsPlain seals step.ends.controllers step.ends.members plans step.ends.stations tasks) what now ends chances (λ one. plain)
    (λ at c is.
    controller_put seals ends.controllers ends.members plans ends.stations tasks plain at (seal_step_of c what now chances.left).state
    (plain_controllers_stay.stays c what now chances.left (plain.each_controller at c is)))
    (λ at m is.
    member_put seals ends.controllers ends.members plans ends.stations tasks plain at (any_step_of m what now chances.left).state (member_stays m what now chances.left (plain.each_member at m is)))
    (λ at c is. plain)
    (λ at t is. station_put seals ends.controllers ends.members plans ends.stations tasks plain at (station_step_of t what now chances.left).state) end

fresh_controller_plain : (hands_on seals : Bool) (table : AccountTable) (name : List ℕ) → seals ≡ false → CantSeal (fresh_controller hands_on seals table name)
fresh_controller_plain hands_on true table name none = absurd cc
fresh_controller_plain false false table name none = refl
fresh_controller_plain true false table name none = refl

fresh_member_plain : (plan : MemberPlan) → IsUnsealed plan → SealsNothing (sealing_member plan)
fresh_member_plain plan none = ap sealing_in (plain_members_stay.made plan none)

renew_stays : (s : State) → IsPlain s → (end : EndId) → let after : EndStates = renew end s in StandsPlain s.seals after.controllers after.members s.member_plans after.stations s.station_plans
renew_stays s plain end =
    renew_by (λ (one : EndId) (ends : EndStates). StandsPlain s.seals ends.controllers ends.members s.member_plans ends.stations s.station_plans) s (λ one. plain)
    (λ at c is.
    controller_put s.seals s.ends.controllers s.ends.members s.member_plans s.ends.stations s.station_plans plain at (fresh_controller s.hands_on s.seals c.table c.name)
    (fresh_controller_plain s.hands_on s.seals c.table c.name plain.none))
    (λ at plan is.
    member_put s.seals s.ends.controllers s.ends.members s.member_plans s.ends.stations s.station_plans plain at (sealing_member plan) (fresh_member_plain plan (plain.each_plan at plan is)))
    (λ at plan is. plain)
    (λ at plan is. station_put s.seals s.ends.controllers s.ends.members s.member_plans s.ends.stations s.station_plans plain at (fresh_station plan)) end

change_stays : (at : ℕ) (secret : List ℕ) (s : State) → IsPlain s → IsPlain (record s { ends = (end_change at secret s.ends).ends })
change_stays at secret s plain =
    by_change (λ (ends : EndStates) (actions : List Action). StandsPlain s.seals ends.controllers ends.members s.member_plans ends.stations s.station_plans) at secret s.ends plain
    (λ running is none.
    member_put s.seals s.ends.controllers s.ends.members s.member_plans s.ends.stations s.station_plans plain at (member_begun secret running)
    (plain.each_member at (record { running = Some running }) is))

-- ---- through moves, and what is done in them

-- a world is plain later where it is before
abbrev pub StaysPlain : StateFact
StaysPlain s after = IsPlain s → IsPlain after

pub acts_plain : HoldsActing StaysPlain
acts_plain = record {
  none = λ s plain. plain;
  both = λ s between after first later plain. later (first plain);
  hears = λ end what s plain. step_stays s.seals s.member_plans s.station_plans what s.moment s.ends s.chances plain end;
  acts = λ end what s plain. action_plain s.seals s.ends.controllers s.ends.members s.member_plans s.ends.stations s.station_plans plain end what;
  shuts = λ link s plain. plain;
}

pub moves_plain : HoldsMoving StaysPlain
moves_plain = record {
  acting = acts_plain;
  begins = λ client plan s plain. plain;
  starts = λ station plan s plain.
      station_put s.seals s.ends.controllers s.ends.members s.member_plans s.ends.stations s.station_plans plain station (station_begin_of (fresh_station plan)).state;
  opens = λ route s plain. plain;
  answers = λ link there s is plain. plain;
  forgets = λ end s plain. plain;
  settles = λ number s plain. plain;
  dials = λ s plain. plain;
  renews = λ end s plain. renew_stays s plain end;
  changes = λ at secret s plain. change_stays at secret s plain;
  ticks = λ more s plain. plain;
}

pub moved_plain : (what : Move) (s : State) → IsPlain s → IsPlain (act s what).state
moved_plain = move_so StaysPlain moves_plain

pub run_plain : (moves : List Move) (w : World) → IsPlain w.state → IsPlain (run moves w).state
run_plain [] w plain = plain
run_plain (what ∷ moves) w plain = run_plain moves _ (moved_plain what w.state plain)

-- ---- at first

members_first : (plans : List MemberPlan) → AllByRecursion IsUnsealed plans → map sealing_member plans ≡ map fresh_member plans
members_first [] none = refl
members_first (plan ∷ plans) none = ap₂ (λ (m : MemberState) (rest : List MemberState). m ∷ rest) (plain_members_stay.made plan none.0) (members_first plans none.1)

pub world_plain : (plan : Plan) → IsPlainPlan plan → first_world plan ≡ plain_world plan
world_plain plan nothing =
    ap₂ (λ (seals : Bool) (members : List MemberState). record (first_world plan) {
      state = record (first_world plan).state {
        ends = record (first_ends plan) { controllers = first_controllers plan.hands_on seals plan.tables plan.controllers; members = members };
        seals = seals;
      };
    }) nothing.controllers (members_first plan.members nothing.members)

controllers_first : (hands_on : Bool) (tables : List AccountTable) (names : List (List ℕ)) → (at : ℕ) (c : ControllerState) → slice_get (first_controllers hands_on false tables names) at ≡ Some c →
    CantSeal c
controllers_first hands_on [] names at c is = absurd cc
controllers_first hands_on (table ∷ tables) [] at c is = absurd cc
controllers_first hands_on (table ∷ tables) (name ∷ names) zero c is =
    subst CantSeal (let same : fresh_controller hands_on false table name ≡ c = cc in same) (fresh_controller_plain hands_on false table name refl)
controllers_first hands_on (table ∷ tables) (name ∷ names) (suc at) c is = controllers_first hands_on tables names at c is

members_plain : (plans : List MemberPlan) (at : ℕ) (m : MemberState) → slice_get (map fresh_member plans) at ≡ Some m → SealsNothing m
members_plain [] at m is = absurd cc
members_plain (plan ∷ plans) zero m is = subst SealsNothing (let same : fresh_member plan ≡ m = cc in same) refl
members_plain (plan ∷ plans) (suc at) m is = members_plain plans at m is

plans_plain : (plans : List MemberPlan) → AllByRecursion IsUnsealed plans → (at : ℕ) (plan : MemberPlan) → slice_get plans at ≡ Some plan → IsUnsealed plan
plans_plain [] none at plan is = absurd cc
plans_plain (first ∷ plans) none zero plan is = subst IsUnsealed (let same : first ≡ plan = cc in same) none.0
plans_plain (first ∷ plans) none (suc at) plan is = plans_plain plans none.1 at plan is

-- the first world of a plain plan, made without the plan's flag, is plain
pub plain_first : (plan : Plan) → IsPlainPlan plan → IsPlain (plain_world plan).state
plain_first plan nothing = record {
  none = refl;
  each_controller = controllers_first plan.hands_on plan.tables plan.controllers;
  each_member = members_plain plan.members;
  each_plan = plans_plain plan.members nothing.members;
  no_station = ap (λ (stations : List StationPlan). map fresh_station stations) nothing.stations;
  no_task = nothing.stations;
}

pub first_plain : (plan : Plan) → IsPlainPlan plan → IsPlain (first_world plan).state
first_plain plan nothing = subst (λ (w : World). IsPlain w.state) (sym (world_plain plan nothing)) (plain_first plan nothing)

pub hears_plainly : HearsPlainly
hears_plainly = record {
  world = world_plain;
  first = first_plain;
  stays = λ s what plain. moved_plain what s plain;
  hears = hears_so_plainly;
  renews = renews_plainly;
}
