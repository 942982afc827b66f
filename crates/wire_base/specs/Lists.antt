-- A fact of one item of a list (this project's own choice).
use Rattle.std.specs.Prelude.{List, [], ◌∷◌, ◌⊎◌}

-- the fact holds of at least one of the items
abbrev pub OneOf : {T : Type 0} → (T → Type 0) → List T → Type 0
OneOf Fact [] = ⊥
OneOf Fact (item ∷ items) = Fact item ⊎ OneOf Fact items
