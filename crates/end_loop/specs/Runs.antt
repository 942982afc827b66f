-- Runs of an end's machine over the answers of a port, a clock and a maker of challenges (this project's own choice).
use Rattle.std.specs.Prelude.{◌≡◌, ◌≤◌, ◌<◌, ◌⊎◌, ℕ, Bool, true, false, Option, List, [], ◌∷◌, ◌++◌, ◌+◌, length, map, Result, Ok, Err, IsOk}
use Rattle.std.specs.List.{flat_map}
use Rattle.outside.specs.declared.event.Event.{Event}
use Rattle.outside.specs.declared.event.Event.TheVariants as event
use Rattle.outside.specs.declared.event.Happening.{Happening}
use Rattle.outside.specs.declared.event.Happening.TheVariants as happening
use Rattle.outside.specs.declared.action.Action.{Action}
use Rattle.outside.specs.declared.action.StepRefused.{StepRefused}
use Rattle.outside.specs.declared.action.StepRefused.TheVariants as refusals
use Rattle.end_loop.specs.declared.halt.Halt.{Halt}
use Rattle.end_loop.specs.declared.halt.Halt.TheVariants.{PortFault, FileFault, SinkFault, NoMemory, Spent}
use Rattle.outside.specs.Machine.{Machine, Stepped}
use Rattle.end_loop.specs.Acts.{puts, writes_for, Loses, Performs, made_events, next_line}
use Rattle.end_loop.specs.Seen.{Sight, Shows}
use Rattle.end_loop.specs.Writing.{Write}

-- the actions of a step: none where it isn't taken
abbrev pub taken_actions : Result (List Action) StepRefused → List Action
taken_actions (Ok actions) = actions
taken_actions (Err refused) = []

-- the actions of what a step comes to
abbrev pub actions_of : {S : Type 0} → Stepped S → List Action
actions_of stepped = taken_actions stepped.answer

-- Where a run stands: the end, the events that wait, and the challenges that are left.
pub record RunState (S : Type 0) : Type 0 where
  pub state : S
  pub queue : List Event
  pub left : List (List ℕ)

-- where a run of the end stands at a moment, while these events wait
abbrev pub run_state_at : {S : Type 0} → S → List Event → Sight → RunState S
run_state_at state queue sight = record { state = state; queue = queue; left = sight.drawing.left }

-- where a run of the end stands at a moment, while no event waits
abbrev pub idle_at : {S : Type 0} → S → Sight → RunState S
idle_at state sight = run_state_at state [] sight

-- One step of a run.
pub record Step : Type 0 where
  -- the call of `next` by which the event came: one, or none where it waited
  pub asked : List Happening
  pub event : Event
  pub moment : ℕ
  pub drawn : List (List ℕ)
  pub actions : List Action
  -- what happened at the port while the actions were performed
  pub happened : List Happening

-- whether the event is `Stop`
abbrev pub is_stop : Event → Bool
is_stop event.Stop = true
is_stop _ = false

-- an exit that asking for an event can come to
abbrev pub IsOfAsk : Halt → Type 0
IsOfAsk PortFault = Unit {0}
IsOfAsk NoMemory = Unit {0}
IsOfAsk _ = ⊥

-- an exit that a step can come to
abbrev pub IsOfSteps : Halt → Type 0
IsOfSteps PortFault = ⊥
IsOfSteps _ = Unit {0}

-- Which event is stepped: the first that waits; where none waits and the end has no outcome, the one that `next` gave
-- while the end waited for its link, which isn't `Stop`. `waiting` is the events that wait then.
abbrev pub Chooses : {S : Type 0} → Machine S → S → List Event → Step → (waiting : List Event) → Type 0
Chooses machine state [] step waiting =
    (machine.is_over state ≡ false) × (step.asked ≡ happening.Given step.event (machine.want state) ∷ [])
    × (is_stop step.event ≡ false) × (waiting ≡ [])
Chooses machine state (first ∷ later) step waiting = (step.asked ≡ []) × (step.event ≡ first) × (waiting ≡ later)

-- One whole step: all its actions were performed.
pub record IsStep {S : Type 0} (machine : Machine S) (old : RunState S) (step : Step) (new : RunState S) : Type 0 where
  pub waiting : List Event
  pub chooses : Chooses machine old.state old.queue step waiting
  pub is : machine.step old.state step.event step.moment old.left
      ≡ record { answer = Ok step.actions; state = new.state; drawn = step.drawn; left = new.left }
  pub left : old.left ≡ step.drawn ++ new.left
  pub performs : Performs [] step.actions step.happened
  pub queue : new.queue ≡ waiting ++ made_events step.happened

-- Steps in a row lead from the one standing to the other.
abbrev pub AreSteps : {S : Type 0} → Machine S → RunState S → List Step → RunState S → Type 0
AreSteps machine old [] new = new ≡ old
AreSteps machine old (step ∷ steps) new = (middle : RunState _) × IsStep machine old step middle × AreSteps machine middle steps new

-- ---- what a run does

-- what happens at the port in a step
abbrev pub step_story : Step → List Happening
step_story step = step.asked ++ step.happened

-- the lines that a step puts
abbrev pub step_line : (Action → List ℕ) → Step → List ℕ
step_line line step = flat_map line step.actions

-- the writes of a step, where texts go into the file of that name
abbrev pub step_writes : Option (List ℕ) → Step → List Write
step_writes file step = flat_map (writes_for file) step.actions

-- what happens at the port in a run
abbrev pub story_of : List Step → List Happening
story_of steps = flat_map step_story steps

-- the moments of a run: one a step
abbrev pub moments_of : List Step → List ℕ
moments_of steps = map (λ (step : Step). step.moment) steps

-- the challenges that a run draws
abbrev pub drawn_of : List Step → List (List ℕ)
drawn_of steps = flat_map (λ (step : Step). step.drawn) steps

-- the actions of a run
abbrev pub actions_in : List Step → List Action
actions_in steps = flat_map (λ (step : Step). step.actions) steps

-- the lines that a run puts
abbrev pub lines_of : (Action → List ℕ) → List Step → List ℕ
lines_of line steps = flat_map (step_line line) steps

-- the writes of a run
abbrev pub writes_in : Option (List ℕ) → List Step → List Write
writes_in file steps = flat_map (step_writes file) steps

-- how many events a run asked for
abbrev pub asked_by : List Step → ℕ
asked_by steps = length (flat_map (λ (step : Step). step.asked) steps)

-- The machine ran from the one standing to the other, and that is what the outside saw.
pub record Ran {S : Type 0} (machine : Machine S) (file : Option (List ℕ)) (start last : RunState S) (asked : ℕ) (before after : Sight) : Type 0 where
  pub steps : List Step
  pub are : AreSteps machine start steps last
  pub count : asked ≡ asked_by steps
  pub shows : Shows before after (story_of steps) (moments_of steps) (drawn_of steps) (lines_of (puts machine) steps) (writes_in file steps)

-- Why a step wasn't finished: the machine draws more challenges than were left, and they were all drawn; a write or the
-- sink failed, after the step drew all that it draws; or no memory was found.
abbrev pub Breaks : {S : Type 0} → Halt → Stepped S → List (List ℕ) → Type 0
Breaks Spent stepped undrawn = (stepped.answer ≡ Err refusals.Spent) × (undrawn ≡ [])
Breaks FileFault stepped undrawn = IsOk stepped.answer × (undrawn ≡ [])
Breaks SinkFault stepped undrawn = IsOk stepped.answer × (undrawn ≡ [])
Breaks NoMemory stepped undrawn = Unit {0}
Breaks PortFault stepped undrawn = ⊥

-- A step that was begun and not finished: what it drew is a front of what the machine draws, and the actions performed
-- are a front of the machine's; of the line of the next action a front was put, or the write of its text failed.
pub record Begins {S : Type 0} (machine : Machine S) (file : Option (List ℕ)) (old : RunState S) (step : Step) (part : List ℕ) (lost : List Write) (halt : Halt) : Type 0 where
  pub waiting : List Event
  pub chooses : Chooses machine old.state old.queue step waiting
  pub undrawn : List (List ℕ)
  pub draws : step.drawn ++ undrawn ≡ (machine.step old.state step.event step.moment old.left).drawn
  pub rest : List Action
  pub all : step.actions ++ rest ≡ actions_of (machine.step old.state step.event step.moment old.left)
  pub performs : Performs [] step.actions step.happened
  pub more : List ℕ
  pub front : part ++ more ≡ next_line (puts machine) rest
  pub loses : Loses halt file rest lost
  pub breaks : Breaks halt (machine.step old.state step.event step.moment old.left) undrawn

-- The machine ran, and then began a step that it didn't finish.
pub record RanInto {S : Type 0} (machine : Machine S) (file : Option (List ℕ)) (start : RunState S) (most : ℕ) (before after : Sight) (halt : Halt) : Type 0 where
  pub last : RunState S
  pub asked : ℕ
  pub middle : Sight
  pub ran : Ran machine file start last asked before middle
  pub step : Step
  pub part : List ℕ
  pub lost : List Write
  pub begins : Begins machine file last step part lost halt
  pub within : asked + length step.asked ≤ most
  pub shows : Shows middle after (step_story step) (step.moment ∷ []) step.drawn (step_line (puts machine) step ++ part) (step_writes file step ++ lost)

-- The machine ran until it would ask for one more event, of those that the command takes.
pub record RanToAsk {S : Type 0} (machine : Machine S) (file : Option (List ℕ)) (start : RunState S) (most : ℕ) (before after : Sight) : Type 0 where
  pub last : RunState S
  pub asked : ℕ
  pub ran : Ran machine file start last asked before after
  pub idle : last.queue ≡ []
  pub more : asked < most
  pub open_still : machine.is_over last.state ≡ false

-- How a run comes to its end: the end has its outcome, as many events as the command takes were given, or `Stop` was.
abbrev pub Closes : {S : Type 0} → Machine S → RunState S → ℕ → ℕ → List Happening → Type 0
Closes machine last asked most stop =
    ((machine.is_over last.state ≡ true) × (stop ≡ []))
    ⊎ (((asked ≡ most) × (stop ≡ []))
    ⊎ ((machine.is_over last.state ≡ false) × (asked < most) × (stop ≡ happening.Given event.Stop (machine.want last.state) ∷ [])))

-- The machine ran to its end, and no event waits.
pub record RanOut {S : Type 0} (machine : Machine S) (file : Option (List ℕ)) (start : RunState S) (last : S) (most : ℕ) (before after : Sight) : Type 0 where
  pub left : List (List ℕ)
  pub asked : ℕ
  pub middle : Sight
  pub ran : Ran machine file start (record { state = last; queue = []; left = left }) asked before middle
  pub within : asked ≤ most
  pub stop : List Happening
  pub closes : Closes machine (record { state = last; queue = []; left = left }) asked most stop
  pub shows : Shows middle after stop [] [] [] []

-- How far a run came that halted.
abbrev pub Halts : {S : Type 0} → Machine S → Option (List ℕ) → RunState S → ℕ → Sight → Sight → Halt → Type 0
Halts machine file start most before after PortFault = RanToAsk machine file start most before after
Halts machine file start most before after FileFault = RanInto machine file start most before after FileFault
Halts machine file start most before after SinkFault = RanInto machine file start most before after SinkFault
Halts machine file start most before after NoMemory = RanToAsk machine file start most before after ⊎ RanInto machine file start most before after NoMemory
Halts machine file start most before after Spent = RanInto machine file start most before after Spent

-- ---- one step in the loop's own terms: the event is chosen already

-- The step was made whole.
pub record Made {S : Type 0} (machine : Machine S) (file : Option (List ℕ)) (old new : S) (what : Event) (behind later : List Event) (before after : Sight) : Type 0 where
  pub moment : ℕ
  pub drawn : List (List ℕ)
  pub actions : List Action
  pub happened : List Happening
  pub is : machine.step old what moment before.drawing.left
      ≡ record { answer = Ok actions; state = new; drawn = drawn; left = after.drawing.left }
  pub performs : Performs [] actions happened
  pub queue : later ≡ behind ++ made_events happened
  pub shows : Shows before after happened (moment ∷ []) drawn (flat_map (puts machine) actions) (flat_map (writes_for file) actions)

-- The step was begun and not finished.
pub record MadePart {S : Type 0} (machine : Machine S) (file : Option (List ℕ)) (old : S) (what : Event) (before after : Sight) (halt : Halt) : Type 0 where
  pub moment : ℕ
  pub drawn : List (List ℕ)
  pub undrawn : List (List ℕ)
  pub actions : List Action
  pub rest : List Action
  pub happened : List Happening
  pub part : List ℕ
  pub more : List ℕ
  pub lost : List Write
  pub draws : drawn ++ undrawn ≡ (machine.step old what moment before.drawing.left).drawn
  pub all : actions ++ rest ≡ actions_of (machine.step old what moment before.drawing.left)
  pub performs : Performs [] actions happened
  pub front : part ++ more ≡ next_line (puts machine) rest
  pub loses : Loses halt file rest lost
  pub breaks : Breaks halt (machine.step old what moment before.drawing.left) undrawn
  pub shows : Shows before after happened (moment ∷ []) drawn (flat_map (puts machine) actions ++ part) (flat_map (writes_for file) actions ++ lost)

-- A fact of the moment before the event was given, at which the outside told all but that.
abbrev pub SinceAsked : {S : Type 0} → Machine S → S → Event → Sight → (Sight → Type 0) → Type 0
SinceAsked machine old what before fact =
    (asked : Sight) → Shows asked before (happening.Given what (machine.want old) ∷ []) [] [] [] [] → fact asked

-- One answer of `next` and all that it leads to: `Stop`, which changes nothing, or a run that leaves no event waiting.
abbrev pub Turns : {S : Type 0} → Machine S → Option (List ℕ) → S → S → Sight → Sight → Bool → Type 0
Turns machine file old new before after true = (new ≡ old) × Shows before after (happening.Given event.Stop (machine.want old) ∷ []) [] [] [] []
Turns machine file old new before after false = Ran machine file (idle_at old before) (idle_at new after) 1 before after
