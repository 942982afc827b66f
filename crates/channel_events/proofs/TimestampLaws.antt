-- How far timestamps move a seed.
-- It serves `calls_stay_apart`, `requesters_keep_calls_apart`.
use Rattle.std.proofs.Common.{◌≡◌, ℕ, List, [], ◌∷◌, ◌+◌, refl}
use Rattle.std.proofs.lemmas.List.Sums.{sum_by-cons}
use Rattle.authenticators.specs.Sequences.{moved_by}

pub moved_one : (timestamp : ℕ) (timestamps : List ℕ) → moved_by (timestamp ∷ timestamps) ≡ timestamp + 1 + moved_by timestamps
unfolding moved_by
moved_one timestamp timestamps = sum_by-cons (λ n. n + 1) timestamp timestamps

pub moved_none : moved_by [] ≡ 0
unfolding moved_by
moved_none = refl
