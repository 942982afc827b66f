-- What an implementation of the outside tells of what happened in it (this project's own choice). It may leave it
-- untold, and may stop telling at any call; once it has stopped it never tells again.
use Rattle.std.specs.Prelude.{◌≡◌, ◌≤◌, ℕ, List, ◌++◌, length, take, Option, Some, None}

-- Where the meaning is told before and after a call, the step leads from the one to the other.
abbrev pub Tells : {X : Type 0} → Option X → Option X → (X → X → Type 0) → Type 0
Tells None new step = new ≡ None
Tells (Some before) None step = Unit {0}
Tells (Some before) (Some now) step = step before now

-- A list that is told gained these items at its end.
abbrev pub Appends : {X : Type 0} → Option (List X) → Option (List X) → List X → Type 0
Appends old new items = Tells old new (λ before now. now ≡ before ++ items)

-- A list that is told gained a front of these items at its end: it lies between what it was and that with all of them.
abbrev pub AppendsFront : {X : Type 0} → Option (List X) → Option (List X) → List X → Type 0
AppendsFront old new items =
    Tells old new (λ before now. (length before ≤ length now) × (now ≡ take (length now) (before ++ items)))

-- A list that is told gained that part of the items at its end, and more of them is left.
pub record AppendsPart {X : Type 0} (old new : Option (List X)) (items : List X) : Type 0 where
  pub part : List X
  pub more : List X
  pub all : part ++ more ≡ items
  pub told : Appends old new part

-- A front that bytes gained at their end is a part of them by value.
abbrev pub FrontsAreParts : Type 0
FrontsAreParts = (old new : Option (List ℕ)) (items : List ℕ) → AppendsFront old new items → AppendsPart old new items
