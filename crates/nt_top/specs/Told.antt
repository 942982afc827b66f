-- What the outside tells of a run that begins with actions of its own (this project's own choice).
use Rattle.std.specs.Prelude.{ℕ, ◌≡◌, ◌++◌, List, [], Some}
use Rattle.outside.specs.Drawing.{Drawing}
use Rattle.outside.specs.Machine.{Machine}
use Rattle.outside.specs.declared.action.Action.{Action}
use Rattle.outside.specs.declared.event.Happening.{Happening}
use Rattle.end_loop.specs.Acts.{Performs, made_events}
use Rattle.end_loop.specs.Runs.{RunState, Step, AreSteps, moments_of, story_of}
use Rattle.end_loop.specs.Seen.{Sight}

-- an end of that state, where no event waits and these challenges are left
abbrev pub rest_at : {S : Type 0} → S → List (List ℕ) → RunState S
rest_at state left = record { state = state; queue = []; left = left }

-- where an end of that state stands once its first actions were performed: what they made waits, and the challenges are
-- left that were drawn later and those that still are
abbrev pub begun_at : {S : Type 0} → S → List Happening → Drawing → RunState S
begun_at state happened drawing = record { state = state; queue = made_events happened; left = drawing.drawn ++ drawing.left }

-- The outside tells that this happened at the port before the end began, that the end's first actions were performed,
-- that it made these steps, and that this happened at the port and these moments were given after them.
pub record TellsBegun {S : Type 0} (machine : Machine S) (first : List Action) (old : S) (opening : List Happening) (before after : Sight)
    (steps : List Step) (last : RunState S) (later : List Happening) (moments_later : List ℕ) : Type 0 where
  pub story : List Happening
  pub story_before : before.story ≡ Some story
  pub moments : List ℕ
  pub moments_before : before.moments ≡ Some moments
  -- what happened at the port while the first actions were performed
  pub happened : List Happening
  pub performs : Performs [] first happened
  pub are : AreSteps machine (begun_at old happened after.drawing) steps last
  pub story_after : after.story ≡ Some (story ++ (opening ++ (happened ++ (story_of steps ++ later))))
  pub moments_after : after.moments ≡ Some (moments ++ (moments_of steps ++ moments_later))
