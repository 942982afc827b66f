-- Ends as machines, whatever their state (this project's own choice): what a step comes to, and how an end's call
-- stands to it. A moment is in units of 100 ns since 1601-01-01, and a challenge is a list of 8 bytes.
use Rattle.std.specs.Prelude.{◌≡◌, ℕ, Bool, List, [], ◌++◌, Option, Result, Ok, Err}
use Rattle.outside.specs.Drawing.{Drawing, DrawsAll, DrawsSome, IsRest, draws_between}
use Rattle.outside.specs.declared.event.Event.{Event}
use Rattle.outside.specs.declared.action.Action.{Action}
use Rattle.outside.specs.declared.action.StepRefused.{StepRefused}
use Rattle.outside.specs.declared.action.StepRefused.TheVariants as refused

-- What a step comes to.
pub record Stepped (S : Type 0) : Type 0 where
  -- the actions in order; or `Spent`, where the step draws more challenges than are left; or `Stopped`, where the end
  -- had stopped
  pub answer : Result (List Action) StepRefused
  -- the state that the step leaves
  pub state : S
  -- the challenges that it draws, in order, and those left after it. Where they aren't enough, all that were left are
  -- drawn
  pub drawn : List (List ℕ)
  pub left : List (List ℕ)

-- a step that is taken, where the first challenges were left before it and the second after it
abbrev pub whole_step : {S : Type 0} → List (List ℕ) → List (List ℕ) → List Action → S → Stepped S
whole_step before after actions state = record { answer = Ok actions; state = state; drawn = draws_between before after; left = after }

-- a step that draws more challenges than these, which were left before it
abbrev pub spent_step : {S : Type 0} → List (List ℕ) → S → Stepped S
spent_step before state = record { answer = Err refused.Spent; state = state; drawn = before; left = [] }

-- a step of an end that had stopped: nothing is done
abbrev pub stopped_step : {S : Type 0} → List (List ℕ) → S → Stepped S
stopped_step before state = record { answer = Err refused.Stopped; state = state; drawn = []; left = before }

-- The machine of an end whose states are S.
pub record Machine (S : Type 0) : Type 0 where
  -- the step for an event at a moment, with the challenges that are left
  pub step : S → Event → ℕ → List (List ℕ) → Stepped S
  -- the link that the end waits for
  pub want : S → Option ℕ
  -- whether the end has its outcome, after which no event is asked for
  pub is_over : S → Bool
  -- the line that is put for an action
  pub line : Action → List ℕ

-- ---- how a call that steps stands to the step

-- The step was taken: the actions are these, the state is now that, and the step's challenges were drawn.
pub record Takes {S : Type 0} (stepped : Stepped S) (now : S) (before after : Drawing) (actions : List Action) : Type 0 where
  pub drawn : List (List ℕ)
  pub is : stepped ≡ record { answer = Ok actions; state = now; drawn = drawn; left = after.left }
  pub draws : DrawsAll before after drawn

-- The step draws more challenges than were left: all of them were drawn, and the state is now that.
pub record Spends {S : Type 0} (stepped : Stepped S) (now : S) (before after : Drawing) : Type 0 where
  pub is : stepped ≡ spent_step before.left now
  pub draws : DrawsAll before after before.left

-- The step was given up: of the challenges that it draws, a front was drawn.
pub record GivesUp {S : Type 0} (stepped : Stepped S) (before after : Drawing) : Type 0 where
  pub drawn : List (List ℕ)
  pub more : List (List ℕ)
  pub front : drawn ++ more ≡ stepped.drawn
  pub draws : DrawsAll before after drawn

-- How a call that steps an end answers, where its machine's step is that. `halted` is the state of the end that gave
-- the step up for want of memory, `now` the state after the call.
abbrev pub StepsBy : {S : Type 0} → Result (List Action) StepRefused → Stepped S → S → S → Drawing → Drawing → Type 0
StepsBy (Ok actions) stepped halted now before after = Takes stepped now before after actions
StepsBy (Err refused.Spent) stepped halted now before after = Spends stepped now before after
StepsBy (Err refused.Memory) stepped halted now before after = (now ≡ halted) × GivesUp stepped before after
StepsBy (Err refused.Stopped) stepped halted now before after = (stepped ≡ stopped_step before.left now) × (after ≡ before)

-- ---- parts of a step

-- What a part of a step comes to, where the challenges are enough: a value, and the challenges that are left.
pub record Part (T : Type 0) : Type 0 where
  pub value : T
  pub left : List (List ℕ)

-- a part of a step after another: it isn't made where the challenges weren't enough for the first
abbrev pub then_part : {T U : Type 0} → Result (Part T) StepRefused → (T → List (List ℕ) → Result (Part U) StepRefused) → Result (Part U) StepRefused
then_part (Err why) next = Err why
then_part (Ok part) next = next part.value part.left

-- the step of an end that runs, by the part that its event comes to: from that part's value come the actions and the
-- state, and the end is halted where the challenges weren't enough
abbrev pub step_by : {S T : Type 0} → (T → List Action) → (T → S) → S → List (List ℕ) → Result (Part T) StepRefused → Stepped S
step_by actions state halted before (Err why) = spent_step before halted
step_by actions state halted before (Ok part) = whole_step before part.left (actions part.value) (state part.value)

-- the challenges that a part of a step leaves: none where they weren't enough
abbrev pub left_by : {T : Type 0} → Result (Part T) StepRefused → List (List ℕ)
left_by (Ok part) = part.left
left_by (Err refused) = []

-- How a call that makes a part of a step answers, where the machine's part is that and these challenges are left after
-- the call. After want of memory the machine's part leaves no more than these.
abbrev pub AnswersBy : {T : Type 0} → Result T StepRefused → Result (Part T) StepRefused → List (List ℕ) → Type 0
AnswersBy (Ok value) part left = part ≡ Ok (record { value = value; left = left })
AnswersBy (Err refused.Spent) part left = (part ≡ Err refused.Spent) × (left ≡ [])
AnswersBy (Err refused.Memory) part left = IsRest (left_by part) left
AnswersBy (Err refused.Stopped) part left = ⊥

-- ---- what follows a part that was refused

-- a part of a step leaves a rest of the challenges that it is given
abbrev pub LeavesRest : {T U : Type 0} → (T → List (List ℕ) → Result (Part U) StepRefused) → Type 0
LeavesRest next = (value : _) (left : List (List ℕ)) → IsRest (left_by (next value left)) left

-- A call that makes two parts, the second from the value of the first, and a call that steps by a part, answer as said
-- where the first part is refused; two parts leave a rest, as each does.
pub record RefusalsPass (S T U : Type 0) : Type 0 where
  pub parts : (why : StepRefused) (part : Result (Part T) StepRefused) (next : T → List (List ℕ) → Result (Part U) StepRefused)
      (left : List (List ℕ)) → LeavesRest next → AnswersBy (Err why) part left → AnswersBy (Err why) (then_part part next) left
  pub steps : (why : StepRefused) (actions : T → List Action) (state : T → S) (halted : S) (part : Result (Part T) StepRefused)
      (before after : Drawing) → DrawsSome before after → AnswersBy (Err why) part after.left →
      StepsBy (Err why) (step_by actions state halted before.left part) halted halted before after
  pub rests : (part : Result (Part T) StepRefused) (next : T → List (List ℕ) → Result (Part U) StepRefused) (left : List (List ℕ)) →
      LeavesRest next → IsRest (left_by part) left → IsRest (left_by (then_part part next)) left
