-- Why a call of the outside failed (this project's own choice): each implementation counts its failures in a u64, and a
-- call answers `Failed` only where that count rose in the call.
use Rattle.std.specs.Prelude.{ℕ, ◌+◌, ◌-◌, ◌^◌, ◌≤◌, min, Bool, false, ◌||◌, IsTrue}

-- a count of 64 bits after one more, which stands still at the end of its type
abbrev pub next_count : ℕ → ℕ
next_count count = min (count + 1) (2 ^ 64 - 1)

-- The count rose. One that stands at the end of its type can't, and is taken as risen.
abbrev pub Rose : ℕ → ℕ → Type 0
Rose before now = next_count before ≤ now

-- The count didn't fall; and where there was a failure, it rose.
abbrev pub RisesWhere : Bool → ℕ → ℕ → Type 0
RisesWhere failed before now = (before ≤ now) × (IsTrue failed → Rose before now)

-- ---- several calls in a row: one of them failed where the first did or the others did

pub record RisesAddUp : Type 0 where
  pub none : (count : ℕ) → RisesWhere false count count
  pub both : (one others : Bool) (first second third : ℕ) →
      RisesWhere one first second → RisesWhere others second third → RisesWhere (one || others) first third
