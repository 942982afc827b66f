-- A step of a station that runs and has no outcome, by what its event comes to.
use Rattle.std.proofs.Common.{◌≡◌, ℕ, false, List, [], Option, Some, None, Ok, Err, is_some, refl, sym, ap, subst, ◌∙◌}
use Rattle.outside.specs.declared.action.Action.{Action}
use Rattle.outside.specs.declared.action.StepRefused.{StepRefused}
use Rattle.outside.specs.declared.event.Event.{Event}
use Rattle.outside.specs.Drawing.{Drawing, DrawsSome, draws_between}
use Rattle.outside.specs.Machine.{Takes, StepsBy, AnswersBy, step_by}
use Rattle.outside.proofs.DrawLaws.{DrawsSome-between}
use Rattle.outside.proofs.MachineLaws.{StepsBy-refused}
use Rattle.interactive_station.specs.declared.state.StationAfter.{StationAfter}
use Rattle.interactive_station.specs.declared.state.StationRunning.{StationRunning}
use Rattle.interactive_station.specs.declared.state.StationWork.{StationWork}
use Rattle.interactive_station.specs.State.{StationState}
use Rattle.interactive_station.specs.Machine.{by_event, work_of, halted, actions_after, state_after, step_by_outcome, step_by_running, step_of}

pub none_of : {T : Type 0} (option : Option T) → is_some option ≡ false → option ≡ None
none_of None not = refl
none_of (Some value) not = absurd cc

pub step_is : (s : StationState) (running : StationRunning) (what : Event) (now : ℕ) (left : List (List ℕ)) → s.running ≡ Some running → s.outcome ≡ None →
    step_of s what now left ≡ step_by actions_after state_after (halted s) left (by_event what running.standing (work_of running.task now) left)
step_is s running what now left runs none =
    ap (λ r. step_by_running r s what now left) runs ∙ ap (λ o. step_by_outcome o running s what now left) none

-- the work before the event, with these actions
abbrev pub work_with : StationRunning → ℕ → List Action → StationWork
work_with running now actions = record (work_of running.task now) { actions = actions }

-- the work begins with no actions
pub step_taken : (s : StationState) (running : StationRunning) (what : Event) (now : ℕ) (before after : Drawing) (actions : List Action) (value : StationAfter) → s.running ≡ Some running → s.outcome ≡ None → DrawsSome before after → actions ≡ [] →
    by_event what running.standing (work_with running now actions) before.left ≡ Ok (record { value = value; left = after.left }) →
    Takes (step_of s what now before.left) (state_after value) before after value.work.actions
step_taken s running what now before after actions value runs none some empty part = record {
  drawn = draws_between before.left after.left;
  is = step_is s running what now before.left runs none
      ∙ ap (λ a. step_by actions_after state_after (halted s) before.left (by_event what running.standing (work_with running now a) before.left)) (sym empty)
      ∙ ap (step_by actions_after state_after (halted s) before.left) part;
  draws = DrawsSome-between before after some;
}

pub step_refused : (why : StepRefused) (s : StationState) (running : StationRunning) (what : Event) (now : ℕ) (before after : Drawing) (actions : List Action) → s.running ≡ Some running → s.outcome ≡ None → DrawsSome before after → actions ≡ [] →
    AnswersBy (Err why) (by_event what running.standing (work_with running now actions) before.left) after.left →
    StepsBy (Err why) (step_of s what now before.left) (halted s) (halted s) before after
step_refused why s running what now before after actions runs none some empty answer =
    subst (λ stepped. StepsBy (Err why) stepped (halted s) (halted s) before after) (sym (step_is s running what now before.left runs none))
    (StepsBy-refused why actions_after state_after (halted s) (by_event what running.standing (work_of running.task now) before.left) before after some
    (subst (λ a. AnswersBy (Err why) (by_event what running.standing (work_with running now a) before.left) after.left) empty answer))
