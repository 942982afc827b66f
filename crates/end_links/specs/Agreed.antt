-- What a bind agreed on (C706 12.6.3.1).
use Rattle.std.specs.Prelude.{ℕ, ◌==◌, Bool, List}
use Rattle.std.specs.List.{list_any}

-- the ids of the contexts that were accepted, and the most bytes of a fragment
pub record Agreed : Type 0 where
  pub contexts : List ℕ
  pub limit : ℕ

abbrev pub has_number : List ℕ → ℕ → Bool
has_number ids number = list_any (λ id. id == number) ids

-- whether the context was accepted
abbrev pub accepts : Agreed → ℕ → Bool
accepts agreed context = has_number agreed.contexts context
