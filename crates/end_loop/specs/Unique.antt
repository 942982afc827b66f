-- That a run is determined by what its outside gave (this project's own choice).
use Rattle.std.specs.Prelude.{◌≡◌, List}
use Rattle.outside.specs.Machine.{Machine}
use Rattle.end_loop.specs.Runs.{RunState, Step, AreSteps, story_of, moments_of, drawn_of, actions_in}

-- Two runs did the same and came to the same.
pub record Agrees {S : Type 0} (last other : RunState S) (steps others : List Step) : Type 0 where
  pub last_is : last ≡ other
  pub drawn : drawn_of steps ≡ drawn_of others
  pub actions : actions_in steps ≡ actions_in others

-- Runs from one standing, with the same story and the same moments, agree.
abbrev pub IsDetermined : {S : Type 0} → Machine S → Type 0
IsDetermined {S} machine = (start last other : RunState S) (steps others : List Step) →
    AreSteps machine start steps last → AreSteps machine start others other →
    story_of steps ≡ story_of others → moments_of steps ≡ moments_of others → Agrees last other steps others
