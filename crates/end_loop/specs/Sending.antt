-- What is sent on one link (this project's own choice).
use Rattle.std.specs.Prelude.{◌≡◌, ℕ, Bool, false, ◌==◌, List, [], ◌∷◌, ◌++◌, if◌then◌else◌}
use Rattle.std.specs.List.{flat_map}
use Rattle.outside.specs.declared.action.Action.{Action}
use Rattle.outside.specs.declared.action.Action.TheVariants.{Send}
use Rattle.outside.specs.Machine.{Machine}
use Rattle.outside.specs.Stories.{strings_on, fails_on}
use Rattle.end_loop.specs.Runs.{RunState, Step, AreSteps, story_of, actions_in}

-- the byte string that an action sends on the link, if it does
abbrev pub asked_one : ℕ → Action → List (List ℕ)
asked_one link (Send other bytes) = if other == link then bytes ∷ [] else []
asked_one link _ = []

-- the byte strings that actions send on the link, in order
abbrev pub asked_on : ℕ → List Action → List (List ℕ)
asked_on link actions = flat_map (asked_one link) actions

-- What was sent is a front of what was asked for, and all of it where none failed.
pub record IsFront (failed : Bool) (sent asked : List (List ℕ)) : Type 0 where
  pub rest : List (List ℕ)
  pub is : sent ++ rest ≡ asked
  pub whole : failed ≡ false → rest ≡ []

-- What was sent on a link up to the first send on it that failed is a front of what the machine's actions send on it,
-- in order; where no send on it failed, it is all of it.
abbrev pub SendsFront : {S : Type 0} → Machine S → Type 0
SendsFront {S} machine = (start last : RunState S) (steps : List Step) (link : ℕ) → AreSteps machine start steps last →
    IsFront (fails_on link (story_of steps)) (strings_on link (story_of steps)) (asked_on link (actions_in steps))
