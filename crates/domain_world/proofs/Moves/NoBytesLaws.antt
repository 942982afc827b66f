-- What a controller does beside its answers: where no bytes come, a link that opens is closed, or nothing is done, and
-- its accounts, its channels and the challenges that are left stay. What the world's proofs know of such steps is here.
-- It serves `Proved.credentials`, `Proved.tables`, `Proved.replays` and those that rest on them.
use Rattle.std.proofs.Common.{◌≡◌, ℕ, Bool, true, false, List, length, Option, Some, None, refl, sym, subst}
use Rattle.std.specs.Prelude.{nat_le}
use Rattle.std.specs.List.{AllByRecursion}
use Rattle.wire_base.specs.Maps.{same_number, take_out}
use Rattle.outside.specs.Machine.{step_by, then_part}
use Rattle.outside.specs.declared.action.Action.{Action}
use Rattle.outside.specs.declared.action.Action.TheVariants as action
use Rattle.outside.specs.declared.event.Event.{Event}
use Rattle.outside.specs.declared.event.Event.TheVariants as event
use Rattle.domain_controller.specs.Machine.{Desk}
use Rattle.domain_controller.specs.State.{State as ControllerState}
use Rattle.domain_controller.specs.Step.{LinkMap, first_desk, halted, open_by, start_turn, state_after, step_of, step_on, with_open}
use Rattle.domain_controller.specs.declared.state.Running.{Running}
use Rattle.world_moves.specs.Ends.{actions_by}

-- no bytes come
abbrev pub IsNoBytes : Event → Type 0
IsNoBytes (event.Bytes link piece) = ⊥
IsNoBytes (event.Opened link) = Unit {0}
IsNoBytes (event.Closed link) = Unit {0}
IsNoBytes (event.Dialled link) = Unit {0}
IsNoBytes event.DialFailed = Unit {0}
IsNoBytes event.Stop = Unit {0}

-- what may be done then
abbrev pub IsBeside : Action → Type 0
IsBeside (action.Keep bytes) = ⊥
IsBeside (action.Send link bytes) = ⊥
IsBeside (action.Dial peer) = ⊥
IsBeside (action.Close link cause) = Unit {0}
IsBeside (action.Told link outcome) = ⊥
IsBeside (action.Judged how) = ⊥

-- what is kept of computers, by one that goes on, or that had stopped
abbrev pub KeepsComputers : Option Running → Option Running → Type 0
KeepsComputers None None = Unit {0}
KeepsComputers None (Some after) = ⊥
KeepsComputers (Some before) None = ⊥
KeepsComputers (Some before) (Some after) = after.computers ≡ before.computers

pub record DoesNothingElse (c : ControllerState) (what : Event) (now : ℕ) (left : List (List ℕ)) : Type 0 where
  pub acts : AllByRecursion IsBeside (actions_by (step_of c what now left).answer)
  pub table : (step_of c what now left).state.table ≡ c.table
  pub keeps : KeepsComputers c.running (step_of c what now left).state.running
  pub rest : (step_of c what now left).left ≡ left

-- of the controller at work, by its running state
record StepsSo (running : Option Running) (c : ControllerState) (what : Event) (now : ℕ) (left : List (List ℕ)) : Type 0 where
  acts : AllByRecursion IsBeside (actions_by (step_on running c what now left).answer)
  table : (step_on running c what now left).state.table ≡ c.table
  keeps : KeepsComputers running (step_on running c what now left).state.running
  rest : (step_on running c what now left).left ≡ left

-- what a controller does where a link opens, whether or not as many are open as may be
record OpensSo (full : Bool) (link : ℕ) (links : LinkMap) (running : Running) (c : ControllerState) (left : List (List ℕ)) : Type 0 where
  acts : AllByRecursion IsBeside
      (actions_by (step_by (λ (after : Desk × LinkMap). after.0.work.actions) (λ after. state_after c after) (halted c) left
      (then_part (with_open (open_by full link (first_desk c.table running).work links) c.table left) (λ after rest. start_turn after rest))).answer)
  table : (step_by (λ (after : Desk × LinkMap). after.0.work.actions) (λ after. state_after c after) (halted c) left
      (then_part (with_open (open_by full link (first_desk c.table running).work links) c.table left) (λ after rest. start_turn after rest))).state.table
      ≡ c.table
  keeps : KeepsComputers (Some running)
      (step_by (λ (after : Desk × LinkMap). after.0.work.actions) (λ after. state_after c after) (halted c) left
      (then_part (with_open (open_by full link (first_desk c.table running).work links) c.table left) (λ after rest. start_turn after rest))).state.running
  rest : (step_by (λ (after : Desk × LinkMap). after.0.work.actions) (λ after. state_after c after) (halted c) left
      (then_part (with_open (open_by full link (first_desk c.table running).work links) c.table left) (λ after rest. start_turn after rest))).left
      ≡ left

opened_so : (full : Bool) (link : ℕ) (links : LinkMap) (running : Running) (c : ControllerState) (left : List (List ℕ)) → OpensSo full link links running c left
opened_so false link links running c left = record { acts = tt; table = refl; keeps = refl; rest = refl }
opened_so true link links running c left = record { acts = (tt, tt); table = refl; keeps = refl; rest = refl }

steps_so : (running : Option Running) (c : ControllerState) (what : Event) (now : ℕ) (left : List (List ℕ)) → c.running ≡ running → IsNoBytes what → StepsSo running c what now left
steps_so None c what now left is none =
    record { acts = tt; table = refl; keeps = subst (λ (r : Option Running). KeepsComputers None r) (sym is) tt; rest = refl }
steps_so (Some running) c (event.Bytes link piece) now left is none = absurd none
steps_so (Some running) c (event.Opened link) now left is none =
    let links : LinkMap = take_out same_number link running.links in
    let so : OpensSo (nat_le 256 (length links)) link links running c left = opened_so (nat_le 256 (length links)) link links running c left in
    record { acts = so.acts; table = so.table; keeps = so.keeps; rest = so.rest }
steps_so (Some running) c (event.Closed link) now left is none = record { acts = tt; table = refl; keeps = refl; rest = refl }
steps_so (Some running) c (event.Dialled link) now left is none = record { acts = tt; table = refl; keeps = refl; rest = refl }
steps_so (Some running) c event.DialFailed now left is none = record { acts = tt; table = refl; keeps = refl; rest = refl }
steps_so (Some running) c event.Stop now left is none = record { acts = tt; table = refl; keeps = refl; rest = refl }

pub does_nothing_else : (c : ControllerState) (what : Event) (now : ℕ) (left : List (List ℕ)) → IsNoBytes what → DoesNothingElse c what now left
does_nothing_else c what now left none =
    let so : StepsSo c.running c what now left = steps_so c.running c what now left refl none in
    record { acts = so.acts; table = so.table; keeps = so.keeps; rest = so.rest }
