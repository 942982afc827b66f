-- How the causes of several calls in a row come together.
use Rattle.std.proofs.Common.{◌≤◌, ℕ, Bool, true, false, ◌||◌, Result, Ok, Err, OnErr, is_err, refl, arith}
use Rattle.outside.specs.Causes.{Rose, RisesWhere, RisesAddUp}

-- what rose before or after didn't fall
pub Rose-then : (first second third : ℕ) → Rose first second → second ≤ third → Rose first third
Rose-then first second third rose more = omega arith

pub then-Rose : (first second third : ℕ) → first ≤ second → Rose second third → Rose first third
then-Rose first second third more rose = omega arith

pub RisesWhere-none : (count : ℕ) → RisesWhere false count count
RisesWhere-none count = (omega arith, λ never. absurd (cc))

pub RisesWhere-trans : (one others : Bool) (first second third : ℕ) → RisesWhere one first second → RisesWhere others second third → RisesWhere (one || others) first third
RisesWhere-trans true others first second third here later = (omega (arith, here.0, later.0), λ _. Rose-then first second third (here.1 refl) later.0)
RisesWhere-trans false others first second third here later = (omega (arith, here.0, later.0), λ failed. then-Rose first second third here.0 (later.1 failed))

-- a call that answers a failure only where its count rose
pub RisesWhere-call : {T E : Type 0} (result : Result T E) (before now : ℕ) → OnErr result (Rose before now) → before ≤ now → RisesWhere (is_err result) before now
RisesWhere-call (Ok value) before now cause more = (more, λ never. absurd (cc))
RisesWhere-call (Err failure) before now cause more = (more, λ _. cause)

pub rises_add_up : RisesAddUp
rises_add_up = record { none = RisesWhere-none; both = RisesWhere-trans }
