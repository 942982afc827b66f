-- The count of link faults over a run (this project's own choice).
use Rattle.std.specs.Prelude.{ℕ, List, Option}
use Rattle.outside.specs.Causes.{RisesWhere}
use Rattle.outside.specs.Stories.{fails_at_links}
use Rattle.outside.specs.Telling.{Appends}
use Rattle.outside.specs.declared.event.Happening.{Happening}
use Rattle.outside.specs.Machine.{Machine}
use Rattle.end_loop.specs.declared.halt.Halt.{Halt}
use Rattle.end_loop.specs.Seen.{Sight}
use Rattle.end_loop.specs.Runs.{RunState, RanOut, Halts}

-- What happened between two moments, and that the count of link faults rose where a dial or a send in it failed.
pub record CountsFaults (before after : Sight) : Type 0 where
  pub happened : List Happening
  pub story : Appends before.story after.story happened
  pub links : RisesWhere (fails_at_links happened) before.link_faults after.link_faults

-- Over a run, to its end or to a halt, the count rose where a dial or a send failed.
pub record RunsCountFaults {S : Type 0} (machine : Machine S) : Type 0 where
  pub ends : (file : Option (List ℕ)) (start : RunState S) (last : S) (most : ℕ) (before after : Sight) →
      RanOut machine file start last most before after → CountsFaults before after
  pub halts : (file : Option (List ℕ)) (start : RunState S) (most : ℕ) (before after : Sight) (halt : Halt) →
      Halts machine file start most before after halt → CountsFaults before after
