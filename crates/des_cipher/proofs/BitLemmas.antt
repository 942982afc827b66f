-- Lemmas on the words of specs/Bits: the steps of the loops that compute them, their lengths and bounds.
use Rattle.std.proofs.Common.{◌≡◌, ℕ, zero, suc, ◌+◌, ◌*◌, ◌<◌, ◌≤◌, Bool, true, false, not, cond, List, [], ◌∷◌, ◌++◌, length, get_or, take, drop, set, refl, ap, add-zero, sym, ◌∙◌, arith}
use Rattle.std.proofs.lemmas.Grind.{flat_map-append}
use Rattle.std.proofs.lemmas.List.{map_more, length-map, length-append, length-take-le, take_at, take_more, take_more_set, drop_more, drop-set-lt, append-nil, append_assoc, take_all, drop_all}
use Rattle.std.proofs.lemmas.List.Sums.{fold_more, fold-append}
use Rattle.std.proofs.Math.Bool.{xor, beq}
use Rattle.std.specs.List.{fold, flat_map}
use Rattle.des_cipher.specs.Bits.{bit, permuted, combined, number_bits, number_of, bits_of}

-- ---- permuted

pub permuted_none : (bits : List Bool) → permuted [] bits ≡ []
unfolding permuted
permuted_none bits = refl

pub permuted_more : (bits : List Bool) (places : List ℕ) (i : ℕ) → i < length places → permuted (take (i + 1) places) bits ≡ permuted (take i places) bits ++ bit bits (get_or places i 0) ∷ []
unfolding permuted
permuted_more bits places i h = map_more (bit bits) places i 0 h

-- ---- combined

combined-cons : (x y : Bool) (xs ys : List Bool) → combined (x ∷ xs) (y ∷ ys) ≡ xor x y ∷ combined xs ys
unfolding combined
combined-cons x y xs ys = refl

pub combined-nil : (ys : List Bool) → combined [] ys ≡ []
unfolding combined
combined-nil ys = refl

-- how `!=` computes
not-beq : (x y : Bool) → not (beq x y) ≡ xor x y
unfolding xor
not-beq true true = refl
not-beq true false = refl
not-beq false true = refl
not-beq false false = refl

-- one step of the loop that combines in place
pub combined_step : (xs ys : List Bool) (i : ℕ) → i < length xs → i < length ys → let b = not (beq (get_or xs i false) (get_or ys i false)) in take (i + 1) (set xs i b) ++ combined (drop (i + 1) (set xs i b)) (drop (i + 1) ys) ≡ take i xs ++ combined (drop i xs) (drop i ys)
combined_step xs ys i hx hy =
    let b : Bool = not (beq (get_or xs i false) (get_or ys i false)) in
    let front : take (i + 1) (set xs i b) ≡ take i xs ++ b ∷ [] = take_more_set xs i b hx in
    let back : drop (i + 1) (set xs i b) ≡ drop (i + 1) xs = drop-set-lt (i + 1) xs i b (omega arith) in
    let dx : drop i xs ≡ get_or xs i false ∷ drop (i + 1) xs = drop_more xs i false hx in
    let dy : drop i ys ≡ get_or ys i false ∷ drop (i + 1) ys = drop_more ys i false hy in
    let rest = combined (drop (i + 1) xs) (drop (i + 1) ys) in
    let whole : combined (drop i xs) (drop i ys) ≡ b ∷ rest =
    rw (dx, dy) (combined-cons _ _ _ _ ∙ ap (λ z. z ∷ rest) (sym (not-beq (get_or xs i false) (get_or ys i false)))) in
    rw (front, back, whole) (append_assoc (take i xs) (b ∷ []) rest)

-- ---- number_of

pub number_of_push : (bits : List Bool) (i : ℕ) → i < length bits → number_of (take (i + 1) bits) ≡ 2 * number_of (take i bits) + cond (get_or bits i false) 1 0
unfolding number_of
number_of_push bits i h = fold_more (λ n b. 2 * n + cond b 1 0) 0 bits i false h

-- one bit more that is not set
pub number_of-append_false : (bits : List Bool) → number_of (bits ++ false ∷ []) ≡ 2 * number_of bits
unfolding number_of
number_of-append_false bits =
    fold-append (λ n b. 2 * n + cond b 1 0) 0 bits (false ∷ []) ∙ add-zero (2 * fold (λ n b. 2 * n + cond b 1 0) 0 bits)

pub number_of_none : number_of [] ≡ 0
unfolding number_of
number_of_none = refl

-- ---- bits_of

pub bits_of_none : bits_of [] ≡ []
unfolding bits_of
bits_of_none = refl

pub bits_of_more : (bytes : List ℕ) (i : ℕ) → i < length bytes → bits_of (take (i + 1) bytes) ≡ bits_of (take i bytes) ++ number_bits 8 (get_or bytes i 0)
unfolding bits_of
bits_of_more bytes i h =
    ap (flat_map (number_bits 8)) (take_more bytes i 0 h) ∙ flat_map-append (number_bits 8) (take i bytes) (get_or bytes i 0 ∷ []) ∙ ap (λ xs. flat_map (number_bits 8) (take i bytes) ++ xs) (append-nil (number_bits 8 (get_or bytes i 0)))

pub combined_end : (xs ys : List Bool) (i : ℕ) → length xs ≤ i → take i xs ++ combined (drop i xs) (drop i ys) ≡ xs
combined_end xs ys i h =
    rw (take_all i xs h, drop_all i xs h, combined-nil (drop i ys)) (append-nil xs)

-- ---- a part written into a list

pub take_put : (xs part rest : List Bool) (at n : ℕ) → at ≤ length xs → n ≡ at + length part → take n (take at xs ++ part ++ rest) ≡ take at xs ++ part
take_put xs part rest at n h e =
    take_at (take at xs ++ part) rest n (omega (arith, length-append (take at xs) part, length-take-le at xs h))

-- ---- lengths

pub length-permuted : (places : List ℕ) (bits : List Bool) → length (permuted places bits) ≡ length places
unfolding permuted
length-permuted places bits = length-map places (bit bits)

pub length-number_bits : (width n : ℕ) → length (number_bits width n) ≡ width
unfolding number_bits
length-number_bits zero n = refl
length-number_bits (suc width) n = ap suc (length-number_bits width n)
