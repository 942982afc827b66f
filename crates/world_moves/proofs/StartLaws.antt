-- A start whose number is no client's: it is that of a station, counted from the clients on. It serves `State::start`.
use Rattle.std.proofs.Common.{◌≡◌, ◌≤◌, ℕ, zero, suc, List, [], ◌∷◌, length, None, slice_get, arith}

-- a list has no item at a place only where it isn't longer than the place
pub none_past : {T : Type 0} (items : List T) (at : ℕ) → slice_get items at ≡ None → length items ≤ at
none_past [] at none = omega arith
none_past (item ∷ items) zero none = absurd (let never = none in cc)
none_past (item ∷ items) (suc at) none = omega (arith, none_past items at none)
