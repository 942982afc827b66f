-- In every run of a plan that hands nothing on each call was judged by the accounts of the plan, and told with its
-- status. It serves `Proved.alone`, `Proved.let_on` and `Proved.statuses`.
use Rattle.std.proofs.Common.{false, ◌≡◌, Bool, ℕ, zero, suc, true, List, [], ◌∷◌, ◌++◌, Option, Some, None, Ok, Err, inl, inr, slice_get, slice_set, refl, sym, ap, subst, ◌∙◌}
use Rattle.std.specs.List.{AllByRecursion}
use Rattle.wire_base.specs.Maps.{lookup, same_number}
use Rattle.authenticators.specs.SecureChannels.{SecureChannelState}
use Rattle.outside.specs.Machine.{step_by, then_part}
use Rattle.outside.specs.declared.event.Event.{Event}
use Rattle.rpc_units.specs.Stream.{cut_stream}
use Rattle.account_table.specs.AccountTable.{AccountTable}
use Rattle.account_table.specs.Changes.{DifferInStates}
use Rattle.account_table.proofs.ChangeLaws.{states-again, states-none}
use Rattle.end_links.specs.Links.{LinkState}
use Rattle.end_links.specs.Serving.{ServedUnit, served_units}
use Rattle.domain_controller.specs.Hearing.{hear}
use Rattle.domain_controller.proofs.CountLaws.{PartDiffers, counts_by_verdict, heard-differs, part-differs}
use Rattle.domain_controller.specs.Machine.{Desk, answer_judged, by_heard, controller_server}
use Rattle.controller_calls.specs.Calls.{asked_of}
use Rattle.controller_calls.specs.declared.calls.JudgedCall.{JudgedCall}
use Rattle.controller_calls.proofs.DoneLaws.{texts_kept}
use Rattle.step_notes.proofs.Controllers.ReplySendLaws.{IsSentAsPassed, passed_sends}
use Rattle.domain_controller.specs.State.{State as ControllerState}
use Rattle.domain_controller.specs.Step.{StepPart, by_event, first_desk, first_state, halted, start_turn, state_after, step_of, step_on}
use Rattle.controller_calls.specs.declared.line.Line.{Line}
use Rattle.domain_controller.specs.declared.state.Running.{Running}
use Rattle.domain_controller.specs.declared.state.Talk.{Talk}
use Rattle.step_notes.specs.ControllerNotes.{Answered, Where, answer_on, judged_in, judging_of, new_actions, units_at, units_by, units_of_controller}
use Rattle.step_notes.specs.Records.{Judging}
use Rattle.step_notes.specs.ReplySends.{done_on}
use Rattle.world_moves.specs.declared.moves.Move.{Move}
use Rattle.world_moves.specs.declared.plan.Plan.{Plan}
use Rattle.world_moves.specs.declared.state.State.{State}
use Rattle.world_moves.specs.World.{first_controllers}
use Rattle.world_moves.specs.Alone.{IsPlainAlone}
use Rattle.world_moves.specs.Ends.{fresh_controller}
use Rattle.world_moves.specs.Plain.{plain_world}
use Rattle.domain_world.specs.Claims.Statuses.{TellsItsStatus}
use Rattle.domain_world.specs.Past.{Delivery, at_controller, judged_of, numbers_on, past}
use Rattle.step_notes.proofs.Controllers.JudgedStepLaws.{told_kept}
use Rattle.domain_world.proofs.Frames.AloneNoteLaws.{alone_answers as answers_of, note_controller_alone as note_controller}
use Rattle.domain_world.proofs.Frames.AloneStepLaws.{fresh_by}
use Rattle.domain_world.proofs.Messages.MessageOnceLaws.{set_cases}
use Rattle.domain_world.proofs.Frames.FrameLaws.{run_stays}
use Rattle.domain_world.proofs.Frames.ControllerFrameLaws.{AmongControllers, ControllersFact, KeepsControllers, controllers_written}
use Rattle.domain_world.proofs.Frames.EndNoteLaws.{judged_so, judgings_of}
use Rattle.domain_world.proofs.Judgements.JudgedLaws.{HoldsIf, IsServedBy, answers_hold, are_if_taken, heard_holds, judged_hold, onto_hold}
use Rattle.step_notes.proofs.ServedLaws.{served_such}
use Rattle.outside.specs.declared.action.Judged.TheVariants as judged
use Rattle.outside.specs.declared.event.Event.TheVariants as event
use Rattle.wire_base.proofs.ListLaws.{all_weaker, some_is}

-- ---- a call: its status is that of what it comes to

pub call_status : (w : Where) (line : Line) (c : JudgedCall) (d : Desk) → TellsItsStatus (judging_of w line c d (Some (answer_judged c w.name w.moment line d)))
call_status w line c d channel stands passed =
    let j : Judging = judging_of w line c d (Some (answer_judged c w.name w.moment line d)) in
    let sent : IsSentAsPassed j line (new_actions (Some (answer_judged c w.name w.moment line d)) d) = passed_sends w line c d passed in
    subst (λ (one : SecureChannelState). j.how ≡ Some (judged.Passed (done_on j one).status)) (some_is sent.next.channel channel (sym sent.next.stands ∙ stands))
    (ap judged_in sent.actions ∙ told_kept _ _ _ (texts_kept (asked_of c) (done_on j sent.next.channel)))

-- ---- the units of a stream

-- a unit that was served, where these accounts differed in counts and hashes alone from those before it
abbrev pub IsServedFrom : List ℕ → ℕ → ℕ → AccountTable → ServedUnit Desk Talk → Type 0
IsServedFrom name now link table unit = DifferInStates table unit.work.table × IsServedBy (controller_server name now link) unit

units_served : (name : List ℕ) (now link : ℕ) (table : AccountTable) (units : List (List ℕ)) (d : Desk) (talk : Talk) (left : List (List ℕ)) → DifferInStates table d.table →
    AllByRecursion (IsServedFrom name now link table) (served_units (controller_server name now link) units d talk left)
units_served name now link table units d talk left is =
    served_such (controller_server name now link) (PartDiffers table) (IsServedFrom name now link table)
    (λ bytes d talk left is. (
      (is, refl),
      part-differs table d.table (by_heard (hear link bytes talk) link name now d left) is (heard-differs (hear link bytes talk) link name now d left),
    ))
    units d talk left is

-- ---- a step of a controller

-- a controller has its accounts, but for their counts and hashes, and its name
abbrev pub KeepsPlan : ControllerState → ControllerState → Type 0
KeepsPlan c new = DifferInStates c.table new.table × (new.name ≡ c.name)

part_named : (part : StepPart) (c : ControllerState) (left : List (List ℕ)) →
    (step_by (λ after. after.0.work.actions) (λ after. state_after c after) (halted c) left (then_part part (λ after rest. start_turn after rest))).state.name ≡ c.name
part_named (Err why) c left = refl
part_named (Ok part) c left = refl

running_named : (running : Option Running) (c : ControllerState) (what : Event) (now : ℕ) (left : List (List ℕ)) → (step_on running c what now left).state.name ≡ c.name
running_named None c what now left = refl
running_named (Some running) c what now left = part_named (by_event what c.name now (first_desk c.table running) running.links left) c left

step_keeps : (c : ControllerState) (what : Event) (now : ℕ) (left : List (List ℕ)) → KeepsPlan c (step_of c what now left).state
step_keeps c what now left = (counts_by_verdict.states c what now left, running_named c.running c what now left)

-- ---- what a controller is by its plan, and what it judges

-- accounts are, but for their counts and hashes, those of a controller of the plan, and a name is that controller's
pub record IsPlanned (plan : Plan) (controller : ℕ) (table : AccountTable) (name : List ℕ) : Type 0 where
  pub planned : AccountTable
  pub is : slice_get plan.tables controller ≡ Some planned
  pub states : DifferInStates planned table
  pub name_is : slice_get plan.controllers controller ≡ Some name

pub planned_later : (plan : Plan) (controller : ℕ) (table other : AccountTable) (name : List ℕ) → IsPlanned plan controller table name → DifferInStates table other →
    IsPlanned plan controller other name
planned_later plan controller table other name planned differ = record {
  planned = planned.planned;
  is = planned.is;
  states = states-again planned.planned table other planned.states differ;
  name_is = planned.name_is;
}

-- a call was judged by the accounts of the plan, and tells its status
abbrev pub IsByPlan : Plan → Judging → Type 0
IsByPlan plan j = IsPlanned plan j.controller j.table j.name × TellsItsStatus j

unit_by_plan : (plan : Plan) (w : Where) (link : ℕ) (table : AccountTable) → IsPlanned plan w.controller table w.name → (unit : ServedUnit Desk Talk) → IsServedFrom w.name w.moment link table unit →
    HoldsIf (IsByPlan plan) (answer_on link w unit).judging
unit_by_plan plan w link table planned unit served =
    heard_holds (IsByPlan plan) (hear link unit.bytes unit.talk) w link unit.work unit.left unit.part
    (λ line c. (
      planned_later plan w.controller table unit.work.table w.name planned served.0,
      call_status w line c unit.work,
    ))
    served.1

at_served : (found : Option (LinkState Talk)) (number : ℕ) (piece : List ℕ) (c : ControllerState) (running : Running) (now : ℕ) (left : List (List ℕ)) →
    AllByRecursion (IsServedFrom c.name now number c.table) (units_at found number piece c running now left)
at_served None number piece c running now left = tt
at_served (Some link) number piece c running now left = units_served c.name now number c.table (cut_stream (link.rest ++ piece)).units (first_desk c.table running) link.talk left (states-none c.table)

by_served : (running : Option Running) (number : ℕ) (piece : List ℕ) (c : ControllerState) (now : ℕ) (left : List (List ℕ)) →
    AllByRecursion (IsServedFrom c.name now number c.table) (units_by running number piece c now left)
by_served None number piece c now left = tt
by_served (Some running) number piece c now left = at_served (lookup same_number number running.links) number piece c running now left

answers_by_plan : (plan : Plan) (controller : ℕ) (c : ControllerState) (w : Delivery) (piece : List ℕ) (s : State) → IsPlanned plan controller c.table c.name →
    AllByRecursion (λ (one : Answered). HoldsIf (IsByPlan plan) one.judging) (answers_of controller c w piece s)
answers_by_plan plan controller c w piece s planned =
    answers_hold (IsByPlan plan) (IsServedFrom c.name s.moment w.link c.table) (at_controller controller c w s) w.link
    (unit_by_plan plan (at_controller controller c w s) w.link c.table planned)
    (units_of_controller c w.link piece s.moment s.chances.left)
    (are_if_taken (IsServedFrom c.name s.moment w.link c.table) (step_of c (event.Bytes w.link piece) s.moment s.chances.left).answer (units_by c.running w.link piece c s.moment s.chances.left)
    (by_served c.running w.link piece c s.moment s.chances.left))

-- ---- through the moves

-- what was judged, and each controller as it stands, have their accounts by the plan
pub record StandsByPlan (plan : Plan) (judgings : List Judging) (controllers : List ControllerState) : Type 0 where
  pub judged : AllByRecursion (IsByPlan plan) judgings
  pub each : (at : ℕ) (c : ControllerState) → slice_get controllers at ≡ Some c → IsPlanned plan at c.table c.name

abbrev pub ByPlan : Plan → List Judging → ControllersFact
ByPlan plan judgings controllers chances = StandsByPlan plan judgings controllers

-- a controller that keeps its accounts and its name is put in its place
controller_put : (plan : Plan) (judgings now : List Judging) (controllers : List ControllerState) (at : ℕ) (c new : ControllerState) → slice_get controllers at ≡ Some c → KeepsPlan c new →
    AllByRecursion (IsByPlan plan) now → StandsByPlan plan judgings controllers → StandsByPlan plan now (slice_set controllers at new)
controller_put plan judgings now controllers at c new there keeps all stands =
    let was : IsPlanned plan at c.table c.name = stands.each at c there in
    let is : IsPlanned plan at new.table new.name =
    subst (λ (n : List ℕ). IsPlanned plan at new.table n) (sym keeps.1) (planned_later plan at c.table new.table c.name was keeps.0) in
    record {
      judged = all;
      each = λ k other its. elim (set_cases controllers at k new other its) [
        | inl here ↦
            subst (λ (x : ControllerState). IsPlanned plan k x.table x.name) here.1 (subst (λ (n : ℕ). IsPlanned plan n new.table new.name) (sym here.0) is)
        | inr apart ↦ stands.each k other apart.1
      ];
    }

pub stand_on : (plan : Plan) → KeepsControllers judgings_of (ByPlan plan)
stand_on plan = record {
  of = judged_so;
  given = λ at given after b. refl;
  draws = λ judgings controllers chances later on stands. stands;
  hears = λ judgings c at what now controllers chances none is stands.
      controller_put plan judgings judgings controllers at c (step_of c what now chances.left).state is (step_keeps c what now chances.left) stands.judged stands;
  comes = λ c at w piece s after b is stands.
      controller_put plan b.judged (note_controller (Some c) at w piece s after b).judged s.ends.controllers at c (step_of c (event.Bytes w.link piece) s.moment s.chances.left).state is
      (step_keeps c (event.Bytes w.link piece) s.moment s.chances.left)
      (onto_hold (IsByPlan plan) (judged_of (answers_of at c w piece s) (numbers_on w.link true s.bag after.bag)) b.judged
      (judged_hold (IsByPlan plan) (λ j number holds. holds) (answers_of at c w piece s) (numbers_on w.link true s.bag after.bag) (answers_by_plan plan at c w piece s (stands.each at c is)))
      stands.judged)
      stands;
  anew = λ judgings c at controllers chances is stands.
      controller_put plan judgings judgings controllers at c (first_state c.table c.name) is (states-none c.table, refl) stands.judged stands;
}

-- ---- at first

pub first_planned : (hands_on : Bool) (tables : List AccountTable) (names : List (List ℕ)) (at : ℕ) (c : ControllerState) → slice_get (first_controllers hands_on false tables names) at ≡ Some c →
    (slice_get tables at ≡ Some c.table) × (slice_get names at ≡ Some c.name)
first_planned hands_on [] names at c there = absurd cc
first_planned hands_on (table ∷ tables) [] at c there = absurd cc
first_planned hands_on (table ∷ tables) (name ∷ names) zero c there =
    let is : fresh_controller hands_on false table name ≡ c = cc in
    subst (λ (x : ControllerState). (Some table ≡ Some x.table) × (Some name ≡ Some x.name)) is
    (fresh_by (λ (x : ControllerState). (Some table ≡ Some x.table) × (Some name ≡ Some x.name)) table name (refl, refl) (refl, refl) hands_on)
first_planned hands_on (table ∷ tables) (name ∷ names) (suc at) c there = first_planned hands_on tables names at c there

pub first_stands : (plan : Plan) → StandsByPlan plan [] (plain_world plan).state.ends.controllers
first_stands plan = record {
  judged = tt;
  each = λ at c there. let both = first_planned plan.hands_on plan.tables plan.controllers at c there in
      record { planned = c.table; is = both.0; states = states-none c.table; name_is = both.1 };
}

-- after all moves of a run
pub stand_after : (plan : Plan) (moves : List Move) → IsPlainAlone plan → StandsByPlan plan (past plan moves).book.judged (past plan moves).world.state.ends.controllers
stand_after plan moves nobody =
    run_stays judgings_of (AmongControllers judgings_of (ByPlan plan) (stand_on plan)) (controllers_written judgings_of (ByPlan plan) (stand_on plan)) plan moves nobody (first_stands plan)

-- in every run each call that passed was told with its status
pub each_status : (plan : Plan) (moves : List Move) → IsPlainAlone plan → AllByRecursion TellsItsStatus (past plan moves).book.judged
each_status plan moves nobody =
    all_weaker (IsByPlan plan) TellsItsStatus (past plan moves).book.judged (λ j planned. planned.1)
    (stand_after plan moves nobody).judged
