-- The peers dialled and the links closed in a run (this project's own choice).
use Rattle.std.specs.Prelude.{◌≡◌, ℕ, List, [], ◌∷◌, map, Option}
use Rattle.std.specs.List.{flat_map}
use Rattle.outside.specs.declared.action.Action.{Action}
use Rattle.outside.specs.declared.action.Action.TheVariants.{Dial, Close}
use Rattle.outside.specs.Machine.{Machine}
use Rattle.outside.specs.Stories.{dials_in, closes_in}
use Rattle.end_loop.specs.Runs.{RunState, Step, AreSteps, story_of, actions_in}

-- the peers of dials
abbrev pub peers_of : List (List ℕ × Option ℕ) → List (List ℕ)
peers_of dials = map (λ (dial : List ℕ × Option ℕ). dial.0) dials

-- the peer that an action dials, if it does
abbrev pub peer_one : Action → List (List ℕ)
peer_one (Dial peer) = peer ∷ []
peer_one _ = []

-- the link that an action closes, if it does
abbrev pub close_one : Action → List ℕ
close_one (Close link cause) = link ∷ []
close_one _ = []

-- The peers dialled in a run and the links closed in it are those of the machine's actions, in their order.
pub record DialsAndCloses {S : Type 0} (machine : Machine S) : Type 0 where
  pub dials : (start last : RunState S) (steps : List Step) → AreSteps machine start steps last →
      peers_of (dials_in (story_of steps)) ≡ flat_map peer_one (actions_in steps)
  pub closes : (start last : RunState S) (steps : List Step) → AreSteps machine start steps last →
      closes_in (story_of steps) ≡ flat_map close_one (actions_in steps)
