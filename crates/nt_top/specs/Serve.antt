-- An end that is served (this project's own choice): the challenges are started, the port listens, and the end begins
-- with actions of its own and runs.
use Rattle.std.specs.Prelude.{◌≡◌, ◌⊎◌, ◌<◌, ℕ, false, List, [], length, Option, Result, Ok, Err}
use Rattle.std.specs.List.{list_any}
use Rattle.outside.specs.Machine.{Machine}
use Rattle.outside.specs.Stories.{events_in}
use Rattle.outside.specs.Telling.{Appends}
use Rattle.outside.specs.declared.action.Action.{Action}
use Rattle.outside.specs.declared.event.Happening.{Happening}
use Rattle.end_loop.specs.Asking.{gives_stop}
use Rattle.end_loop.specs.Seen.{Sight}
use Rattle.end_loop.specs.Serving.{Served, ServedUntil}
use Rattle.end_loop.specs.declared.halt.Halt.{Halt}
use Rattle.end_loop.specs.declared.halt.Halt.TheVariants as halts
use Rattle.nt_top.specs.declared.exit.Exit.{Exit}
use Rattle.nt_top.specs.declared.exit.Exit.TheVariants.{Done, FileFault, PortFault, SinkFault, NoMemory, Spent}

-- the exit of a run that halted
abbrev pub halt_exit : Halt → Exit
halt_exit halts.PortFault = PortFault
halt_exit halts.FileFault = FileFault
halt_exit halts.SinkFault = SinkFault
halt_exit halts.NoMemory = NoMemory
halt_exit halts.Spent = Spent

-- the exit of a service
abbrev pub service_exit : {T : Type 0} → Result T Halt → Exit
service_exit (Ok x) = Done
service_exit (Err halt) = halt_exit halt

-- Where a service ends so, the end's machine, from this state and these first actions on, ran to its end, with this
-- address, seed, number of the boot and most events, and with that file for what it keeps; or it halted so.
abbrev pub ServesTo : {S : Type 0} → Machine S → Option (List ℕ) → List Action → S → List ℕ → List ℕ → ℕ → ℕ → Sight → Sight → Exit → Type 0
ServesTo machine file first old address seed boot most before after Done = (new : _) × Served machine file first old new address seed boot most before after
ServesTo machine file first old address seed boot most before after PortFault = ServedUntil machine file first old address seed boot most before after halts.PortFault
ServesTo machine file first old address seed boot most before after FileFault = ServedUntil machine file first old address seed boot most before after halts.FileFault
ServesTo machine file first old address seed boot most before after SinkFault = ServedUntil machine file first old address seed boot most before after halts.SinkFault
ServesTo machine file first old address seed boot most before after NoMemory = ServedUntil machine file first old address seed boot most before after halts.NoMemory
ServesTo machine file first old address seed boot most before after Spent = ServedUntil machine file first old address seed boot most before after halts.Spent
ServesTo machine file first old address seed boot most before after _ = ⊥

-- nothing was done with the port, the clock, the challenges or the sink, and this is the exit
abbrev pub IsLeft : Exit → Sight → Sight → Exit → Type 0
IsLeft due before after exit = (exit ≡ due) × (after ≡ before)

-- The end is served from this state and these first actions on. Want of memory may come before it.
abbrev pub MayServe : {S : Type 0} → Machine S → Option (List ℕ) → List Action → S → List ℕ → List ℕ → ℕ → ℕ → Sight → Sight → Exit → Type 0
MayServe machine file first old address seed boot most before after exit = IsLeft NoMemory before after exit ⊎ ServesTo machine file first old address seed boot most before after exit

-- a service that served to its end, spent the challenges, or ran out of memory
abbrev pub IsServed : Exit → Type 0
IsServed Done = Unit {0}
IsServed Spent = Unit {0}
IsServed NoMemory = Unit {0}
IsServed _ = ⊥

-- The port gave no `Stop`, and no event or fewer than are taken.
pub record GivesFewer (most : ℕ) (before after : Sight) : Type 0 where
  pub happened : List Happening
  pub told : Appends before.story after.story happened
  pub no_stop : list_any gives_stop (events_in happened) ≡ false
  pub fewer : (events_in happened ≡ []) ⊎ (length (events_in happened) < most)
