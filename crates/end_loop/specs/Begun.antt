-- A command that begins with actions of its own, before it asks for an event (this project's own choice).
use Rattle.std.specs.Prelude.{◌≡◌, ◌⊎◌, ℕ, List, [], ◌++◌, Option}
use Rattle.std.specs.List.{flat_map}
use Rattle.outside.specs.declared.event.Happening.{Happening}
use Rattle.outside.specs.declared.action.Action.{Action}
use Rattle.outside.specs.Machine.{Machine}
use Rattle.end_loop.specs.declared.halt.Halt.{Halt}
use Rattle.end_loop.specs.Acts.{puts, writes_for, Loses, Performs, made_events, next_line, IsOfActs}
use Rattle.end_loop.specs.Seen.{Sight, Shows}
use Rattle.end_loop.specs.Writing.{Write}
use Rattle.end_loop.specs.Runs.{RanOut, Halts, run_state_at}

-- The first actions were performed, and the machine ran from there to its end; what they made waited at its start.
pub record Begun {S : Type 0} (machine : Machine S) (file : Option (List ℕ)) (first : List Action) (old new : S) (most : ℕ) (before after : Sight) : Type 0 where
  pub happened : List Happening
  pub performs : Performs [] first happened
  pub middle : Sight
  pub shows : Shows before middle happened [] [] (flat_map (puts machine) first) (flat_map (writes_for file) first)
  pub run : RanOut machine file (run_state_at old (made_events happened) middle) new most middle after

-- A front of the first actions was performed; of the next one's line a front was put, or the write of its text
-- failed.
pub record BegunShort {S : Type 0} (machine : Machine S) (file : Option (List ℕ)) (first : List Action) (before after : Sight) (halt : Halt) : Type 0 where
  pub done : List Action
  pub rest : List Action
  pub all : done ++ rest ≡ first
  pub happened : List Happening
  pub performs : Performs [] done happened
  pub part : List ℕ
  pub more : List ℕ
  pub front : part ++ more ≡ next_line (puts machine) rest
  pub lost : List Write
  pub loses : Loses halt file rest lost
  pub shows : Shows before after happened [] [] (flat_map (puts machine) done ++ part) (flat_map (writes_for file) done ++ lost)

-- The first actions were performed, and the run from there halted.
pub record BegunHalf {S : Type 0} (machine : Machine S) (file : Option (List ℕ)) (first : List Action) (old : S) (most : ℕ) (before after : Sight) (halt : Halt) : Type 0 where
  pub happened : List Happening
  pub performs : Performs [] first happened
  pub middle : Sight
  pub shows : Shows before middle happened [] [] (flat_map (puts machine) first) (flat_map (writes_for file) first)
  pub run : Halts machine file (run_state_at old (made_events happened) middle) most middle after halt

-- The first actions were cut short, or the run after them halted.
abbrev pub BegunUntil : {S : Type 0} → Machine S → Option (List ℕ) → List Action → S → ℕ → Sight → Sight → Halt → Type 0
BegunUntil machine file first old most before after halt =
    (IsOfActs halt × BegunShort machine file first before after halt) ⊎ BegunHalf machine file first old most before after halt
