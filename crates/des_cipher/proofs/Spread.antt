-- A key of 7 bytes spread over 8, by a word of 64 bits.
use Rattle.std.proofs.Common.{◌≡◌, ℕ, ◌+◌, ◌/◌, ◌^◌, ◌<◌, ◌==◌, min, Bool, true, false, cond, List, [], ◌∷◌, ◌++◌, suc, zero, take, drop, length, get_or, bit_and, ltb, refl, ap, ap₂, sym, ◌∙◌, arith, lit<}
use Rattle.std.proofs.lemmas.Bool.{eqb-true}
use Rattle.std.proofs.lemmas.Nat.Bits.{bit_at-lt, bit_at_and}
use Rattle.std.specs.Int.{bit_at}
use Rattle.std.proofs.lemmas.Nat.{and_le_r}
use Rattle.des_cipher.specs.Bits.{number_bits, number_of, bits_of}
use Rattle.des_cipher.specs.Des.{spread_of}
use Rattle.des_cipher.proofs.ByteLaws.{number_of-number_bits}
use Rattle.des_cipher.proofs.Places.{read, number_bits_by, at_each, bit_at-shr}

is_upper : ℕ → Bool
is_upper j = bit_at 254 j == cond (ltb 0 j) 1 0

min_by : (a : ℕ) (t : Bool) → a < 2 → min a (cond t 1 0) ≡ cond t a 0
min_by a true h = omega (arith, h)
min_by a false h = omega arith

upper_seven : (n s : ℕ) → number_bits 8 (bit_and (n / 2 ^ s) 254) ≡ read (λ j. cond (ltb 0 j) (bit_at n (s + j)) 0) 8
unfolding is_upper
upper_seven n s =
    number_bits_by 8 (bit_and (n / 2 ^ s) 254) (λ j. cond (ltb 0 j) (bit_at n (s + j)) 0) (λ j h.
    bit_at_and (n / 2 ^ s) 254 j
    ∙ ap₂ min (bit_at-shr n s j) (eqb-true _ _ (at_each is_upper 8 j refl h))
    ∙ min_by (bit_at n (s + j)) (ltb 0 j) (bit_at-lt n (s + j)))

-- the number that seven bits and one that is not set write
seven : (bits : List Bool) (x : ℕ) → number_bits 8 (bit_and x 254) ≡ bits → bit_and x 254 ≡ number_of bits
seven bits x e = sym (number_of-number_bits (bit_and x 254) (omega (arith, and_le_r x 254))) ∙ ap number_of e

spread_by : (n a b c d e f g : ℕ) → number_bits 64 n ≡ bits_of (a ∷ b ∷ c ∷ d ∷ e ∷ f ∷ g ∷ 0 ∷ []) → bit_and (n / 2 ^ 56) 254 ∷ bit_and (n / 2 ^ 49) 254 ∷ bit_and (n / 2 ^ 42) 254 ∷ bit_and (n / 2 ^ 35) 254 ∷ bit_and (n / 2 ^ 28) 254 ∷ bit_and (n / 2 ^ 21) 254 ∷ bit_and (n / 2 ^ 14) 254 ∷ bit_and (n / 2 ^ 7) 254 ∷ [] ≡ spread_of (a ∷ b ∷ c ∷ d ∷ e ∷ f ∷ g ∷ [])
unfolding spread_of bits_of number_bits read
spread_by n a b c d e f g h =
    let e0 = seven _ (n / 2 ^ 56) (upper_seven n 56 ∙ ap (λ (z : List Bool). take 7 (drop 0 z) ++ false ∷ []) h) in
    let e1 = seven _ (n / 2 ^ 49) (upper_seven n 49 ∙ ap (λ (z : List Bool). take 7 (drop 7 z) ++ false ∷ []) h) in
    let e2 = seven _ (n / 2 ^ 42) (upper_seven n 42 ∙ ap (λ (z : List Bool). take 7 (drop 14 z) ++ false ∷ []) h) in
    let e3 = seven _ (n / 2 ^ 35) (upper_seven n 35 ∙ ap (λ (z : List Bool). take 7 (drop 21 z) ++ false ∷ []) h) in
    let e4 = seven _ (n / 2 ^ 28) (upper_seven n 28 ∙ ap (λ (z : List Bool). take 7 (drop 28 z) ++ false ∷ []) h) in
    let e5 = seven _ (n / 2 ^ 21) (upper_seven n 21 ∙ ap (λ (z : List Bool). take 7 (drop 35 z) ++ false ∷ []) h) in
    let e6 = seven _ (n / 2 ^ 14) (upper_seven n 14 ∙ ap (λ (z : List Bool). take 7 (drop 42 z) ++ false ∷ []) h) in
    let e7 = seven _ (n / 2 ^ 7) (upper_seven n 7 ∙ ap (λ (z : List Bool). take 7 (drop 49 z) ++ false ∷ []) h) in
    ap₂ (λ (x : ℕ) (xs : List ℕ). x ∷ xs) e0 (ap₂ (λ (x : ℕ) (xs : List ℕ). x ∷ xs) e1 (ap₂ (λ (x : ℕ) (xs : List ℕ). x ∷ xs) e2 (ap₂ (λ (x : ℕ) (xs : List ℕ). x ∷ xs) e3 (ap₂ (λ (x : ℕ) (xs : List ℕ). x ∷ xs) e4 (ap₂ (λ (x : ℕ) (xs : List ℕ). x ∷ xs) e5 (ap₂ (λ (x : ℕ) (xs : List ℕ). x ∷ xs) e6 (ap₂ (λ (x : ℕ) (xs : List ℕ). x ∷ xs) e7 refl)))))))

pub spread_from : (key : List ℕ) (n : ℕ) → length key ≡ 7 → number_bits 64 n ≡ bits_of (get_or key 0 0 ∷ get_or key 1 0 ∷ get_or key 2 0 ∷ get_or key 3 0 ∷ get_or key 4 0 ∷ get_or key 5 0 ∷ get_or key 6 0 ∷ 0 ∷ []) → bit_and (n / 2 ^ 56) 254 ∷ bit_and (n / 2 ^ 49) 254 ∷ bit_and (n / 2 ^ 42) 254 ∷ bit_and (n / 2 ^ 35) 254 ∷ bit_and (n / 2 ^ 28) 254 ∷ bit_and (n / 2 ^ 21) 254 ∷ bit_and (n / 2 ^ 14) 254 ∷ bit_and (n / 2 ^ 7) 254 ∷ [] ≡ spread_of key
spread_from (a ∷ b ∷ c ∷ d ∷ e ∷ f ∷ g ∷ []) n l h = spread_by n a b c d e f g h
spread_from [] n l h = absurd (omega (arith, l))
spread_from (a ∷ []) n l h = absurd (omega (arith, l))
spread_from (a ∷ b ∷ []) n l h = absurd (omega (arith, l))
spread_from (a ∷ b ∷ c ∷ []) n l h = absurd (omega (arith, l))
spread_from (a ∷ b ∷ c ∷ d ∷ []) n l h = absurd (omega (arith, l))
spread_from (a ∷ b ∷ c ∷ d ∷ e ∷ []) n l h = absurd (omega (arith, l))
spread_from (a ∷ b ∷ c ∷ d ∷ e ∷ f ∷ []) n l h = absurd (omega (arith, l))
spread_from (a ∷ b ∷ c ∷ d ∷ e ∷ f ∷ g ∷ i ∷ rest) n l h = absurd (omega (arith, l))

-- seven bytes and a zero are bytes
pub small_eight : (key : List ℕ) → ((i : ℕ) → get_or key i 0 < 256) → (i : ℕ) → get_or (get_or key 0 0 ∷ get_or key 1 0 ∷ get_or key 2 0 ∷ get_or key 3 0 ∷ get_or key 4 0 ∷ get_or key 5 0 ∷ get_or key 6 0 ∷ 0 ∷ []) i 0 < 256
small_eight key h zero = h 0
small_eight key h (suc zero) = h 1
small_eight key h (suc (suc zero)) = h 2
small_eight key h (suc (suc (suc zero))) = h 3
small_eight key h (suc (suc (suc (suc zero)))) = h 4
small_eight key h (suc (suc (suc (suc (suc zero))))) = h 5
small_eight key h (suc (suc (suc (suc (suc (suc zero)))))) = h 6
small_eight key h (suc (suc (suc (suc (suc (suc (suc zero))))))) = lit< tt
small_eight key h (suc (suc (suc (suc (suc (suc (suc (suc i)))))))) = lit< tt
