-- The events that a run asks for (this project's own choice).
use Rattle.std.specs.Prelude.{◌≡◌, ℕ, Bool, false, List, length, Option}
use Rattle.std.specs.List.{flat_map, list_any}
use Rattle.outside.specs.declared.event.Event.{Event}
use Rattle.outside.specs.Machine.{Machine}
use Rattle.outside.specs.Stories.{events_in}
use Rattle.end_loop.specs.Runs.{RunState, Step, AreSteps, story_of, asked_by, is_stop}

-- whether an event that the port gave is `Stop`
abbrev pub gives_stop : Event × Option ℕ → Bool
gives_stop event = is_stop event.0

-- The events that the port gave, each with the link that the end waited for, are those that the steps asked for; so
-- they are as many as the run asked for, and none of them is `Stop`.
pub record Asks (steps : List Step) : Type 0 where
  pub events : events_in (story_of steps) ≡ flat_map (λ (step : Step). events_in step.asked) steps
  pub count : length (events_in (story_of steps)) ≡ asked_by steps
  pub no_stop : list_any gives_stop (events_in (story_of steps)) ≡ false

-- Each run of the machine asks so.
abbrev pub AsksFor : {S : Type 0} → Machine S → Type 0
AsksFor {S} machine = (start last : RunState S) (steps : List Step) → AreSteps machine start steps last → Asks steps
