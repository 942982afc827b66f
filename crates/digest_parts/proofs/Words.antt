-- The words of a block by their places.
use Rattle.std.proofs.Common.{◌≡◌, ℕ, zero, suc, ◌+◌, ◌*◌, ◌/◌, ◌≤◌, List, [], ◌∷◌, length, slice_index, refl, arith}
use Rattle.std.specs.Int.{w32, from_le_bytes}
use Rattle.digest_parts.specs.Md4.{words_of}

pub length-words_of : (b : List ℕ) → length (words_of b) ≡ length b / 4
unfolding words_of
length-words_of [] = refl
length-words_of (p ∷ []) = omega arith
length-words_of (p ∷ q ∷ []) = omega arith
length-words_of (p ∷ q ∷ r ∷ []) = omega arith
length-words_of (p ∷ q ∷ r ∷ s ∷ rest) = omega (arith, length-words_of rest)

pub words_of_at : (b : List ℕ) (k : ℕ) → 4 * k + 4 ≤ length b
    → slice_index (words_of b) k
    ≡ from_le_bytes w32 (slice_index b (4 * k) ∷ slice_index b (4 * k + 1) ∷ slice_index b (4 * k + 2) ∷ slice_index b (4 * k + 3) ∷ [])
unfolding words_of
words_of_at [] k fits = absurd (omega arith)
words_of_at (p ∷ []) k fits = absurd (omega arith)
words_of_at (p ∷ q ∷ []) k fits = absurd (omega arith)
words_of_at (p ∷ q ∷ r ∷ []) k fits = absurd (omega arith)
words_of_at (p ∷ q ∷ r ∷ s ∷ rest) zero fits = refl
words_of_at (p ∷ q ∷ r ∷ s ∷ rest) (suc k) fits =
    let e0 : 4 * suc k ≡ suc (suc (suc (suc (4 * k)))) = omega arith in
    let e1 : suc (suc (suc (suc (4 * k)))) + 1 ≡ suc (suc (suc (suc (4 * k + 1)))) = omega arith in
    let e2 : suc (suc (suc (suc (4 * k)))) + 2 ≡ suc (suc (suc (suc (4 * k + 2)))) = omega arith in
    let e3 : suc (suc (suc (suc (4 * k)))) + 3 ≡ suc (suc (suc (suc (4 * k + 3)))) = omega arith in
    rw (e0, e1, e2, e3) (words_of_at rest k (omega arith))
