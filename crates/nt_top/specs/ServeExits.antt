-- When each exit of a service comes, by what the outside tells (this project's own choice).
use Rattle.std.specs.Prelude.{ℕ, ◌≡◌, ◌⊎◌, List, [], ◌∷◌, Option, Some, Err}
use Rattle.outside.specs.Machine.{Machine}
use Rattle.outside.specs.declared.action.Action.{Action}
use Rattle.outside.specs.declared.action.StepRefused.TheVariants as refusals
use Rattle.outside.specs.declared.event.Event.{Event}
use Rattle.outside.specs.declared.event.Happening.{Happening}
use Rattle.outside.specs.declared.event.Happening.TheVariants as happening
use Rattle.end_loop.specs.Runs.{RunState, Step, Chooses, Closes, asked_by}
use Rattle.end_loop.specs.Seen.{Sight}
use Rattle.nt_top.specs.declared.exit.Exit.{Exit}
use Rattle.nt_top.specs.declared.exit.Exit.TheVariants.{Done, FileFault, PortFault, Spent}
use Rattle.nt_top.specs.LogonExits.{IsExcuse}
use Rattle.nt_top.specs.Serve.{GivesFewer, MayServe}
use Rattle.nt_top.specs.Told.{TellsBegun, rest_at}

-- The outside tells that the port listened at the address, that the end's first actions were performed, that it made
-- these steps, and that this happened at the port and these moments were given after them.
abbrev pub TellsService : {S : Type 0} → Machine S → List Action → S → List ℕ → Sight → Sight → List Step → RunState S → List Happening → List ℕ → Type 0
TellsService machine first old address before after steps last later moments_later =
    TellsBegun machine first old (happening.Listened address ∷ []) before after steps last later moments_later

-- The outside tells that the end ran to where `Stop` was given, or as many events as are taken.
pub record TellsEnd {S : Type 0} (machine : Machine S) (first : List Action) (old : S) (address : List ℕ) (most : ℕ) (before after : Sight) : Type 0 where
  pub state : S
  pub left : List (List ℕ)
  pub steps : List Step
  pub stop : List Happening
  pub tells : TellsService machine first old address before after steps (rest_at state left) stop []
  pub closes : Closes machine (rest_at state left) (asked_by steps) most stop

-- The outside tells that the end came to a step that draws more challenges than were left.
pub record TellsSpent {S : Type 0} (machine : Machine S) (first : List Action) (old : S) (address : List ℕ) (before after : Sight) : Type 0 where
  pub last : RunState S
  pub steps : List Step
  pub step : Step
  pub waiting : List Event
  pub tells : TellsService machine first old address before after steps last step.asked (step.moment ∷ [])
  pub chooses : Chooses machine last.state last.queue step waiting
  pub spent : (machine.step last.state step.event step.moment last.left).answer ≡ Err refusals.Spent

-- an exit that may come in place of another: a fault of the sink or want of memory, and where a file is named for what
-- the end keeps, a fault of the files
abbrev pub Replaces : Exit → Option (List ℕ) → Type 0
Replaces FileFault file = (name : List ℕ) × (file ≡ Some name)
Replaces exit file = IsExcuse exit

-- What the outside tells decides the exit of a service; and a failure of the port is the exit only where it gave no
-- `Stop` and too few events.
pub record ServiceLaws {S : Type 0} (machine : Machine S) : Type 0 where
  pub done : (file : Option (List ℕ)) (first : List Action) (old : S) (address seed : List ℕ) (boot most : ℕ) (before after : Sight) (exit : Exit) →
      MayServe machine file first old address seed boot most before after exit → TellsEnd machine first old address most before after → (exit ≡ Done) ⊎ Replaces exit file
  pub spent : (file : Option (List ℕ)) (first : List Action) (old : S) (address seed : List ℕ) (boot most : ℕ) (before after : Sight) (exit : Exit) →
      MayServe machine file first old address seed boot most before after exit → TellsSpent machine first old address before after → (exit ≡ Spent) ⊎ Replaces exit file
  pub port : (file : Option (List ℕ)) (first : List Action) (old : S) (address seed : List ℕ) (boot most : ℕ) (before after : Sight) (exit : Exit) →
      MayServe machine file first old address seed boot most before after exit → exit ≡ PortFault → GivesFewer most before after
