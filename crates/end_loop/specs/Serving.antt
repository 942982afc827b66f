-- A command that serves: the challenges are started, the port listens, and the end begins with actions of its own and
-- runs (this project's own choice).
use Rattle.std.specs.Prelude.{◌≡◌, ◌⊎◌, ℕ, List, [], ◌∷◌, Option}
use Rattle.outside.specs.declared.action.Action.{Action}
use Rattle.outside.specs.Telling.{Appends}
use Rattle.outside.specs.declared.event.Happening.{Happening}
use Rattle.outside.specs.declared.event.Happening.TheVariants as happening
use Rattle.end_loop.specs.declared.halt.Halt.{Halt}
use Rattle.end_loop.specs.declared.halt.Halt.TheVariants.{PortFault}
use Rattle.outside.specs.Machine.{Machine}
use Rattle.end_loop.specs.Seen.{Sight}
use Rattle.end_loop.specs.Begun.{Begun, BegunUntil}

-- The challenges were started with this seed and boot, and these things happened at the port.
pub record Opens (seed : List ℕ) (boot : ℕ) (before opened : Sight) (happened : List Happening) : Type 0 where
  pub seed_is : opened.drawing.seed ≡ seed
  pub boot_is : opened.drawing.boot ≡ boot
  pub none_drawn : opened.drawing.drawn ≡ []
  pub story : Appends before.story opened.story happened
  pub link_faults : opened.link_faults ≡ before.link_faults
  pub moments : opened.moments ≡ before.moments
  pub taken : opened.taken ≡ before.taken
  pub files : opened.files ≡ before.files

-- The challenges were started, the port listened at the address, and from there the first actions were performed and
-- the machine ran to its end.
pub record Served {S : Type 0} (machine : Machine S) (file : Option (List ℕ)) (first : List Action) (old new : S) (address seed : List ℕ) (boot most : ℕ) (before after : Sight) : Type 0 where
  pub opened : Sight
  pub opens : Opens seed boot before opened (happening.Listened address ∷ [])
  pub run : Begun machine file first old new most opened after

-- The challenges were started and the port listened at the address; but the first actions were cut short, or the run
-- halted.
pub record ServedHalf {S : Type 0} (machine : Machine S) (file : Option (List ℕ)) (first : List Action) (old : S) (address seed : List ℕ) (boot most : ℕ) (before after : Sight)
    (halt : Halt) : Type 0 where
  pub opened : Sight
  pub opens : Opens seed boot before opened (happening.Listened address ∷ [])
  pub run : BegunUntil machine file first old most opened after halt

-- The port didn't listen, and then no first action was performed; or it did, and the end halted.
abbrev pub ServedUntil : {S : Type 0} → Machine S → Option (List ℕ) → List Action → S → List ℕ → List ℕ → ℕ → ℕ → Sight → Sight → Halt → Type 0
ServedUntil machine file first old address seed boot most before after halt =
    ((halt ≡ PortFault) × Opens seed boot before after []) ⊎ ServedHalf machine file first old address seed boot most before after halt
