-- The inverse law of the cipher: a round undoes itself with the halves exchanged, so the rounds in reverse order undo
-- the rounds.
use Rattle.std.proofs.Common.{◌≡◌, ℕ, suc, Bool, true, false, List, [], ◌∷◌, ◌++◌, map, length, get_or, take, drop, reverse, refl, ap, sym, ◌∙◌, arith}
use Rattle.std.proofs.lemmas.List.{length-append, length-drop, length-take-le, take-append-drop, take_at, drop_at, reverse-append, reverse-reverse}
use Rattle.std.proofs.lemmas.List.FromFn.{fill_by_all}
use Rattle.std.proofs.Math.Bool.{xor}
use Rattle.std.specs.List.{range_with_len}
use Rattle.des_cipher.specs.Bits.{permuted, combined}
use Rattle.des_cipher.specs.Cipher.{mixed, Halves, round, rounds, first_halves, last_block, cipher}
use Rattle.des_cipher.specs.Tables.{initial_permutation, final_permutation, round_permutation}
use Rattle.des_cipher.proofs.BitLemmas.{length-permuted}

-- ---- exclusive or

xor_twice : (x y : Bool) → xor (xor x y) y ≡ x
unfolding xor
xor_twice true true = refl
xor_twice true false = refl
xor_twice false true = refl
xor_twice false false = refl

combined_twice : (xs ys : List Bool) → length xs ≡ length ys → combined (combined xs ys) ys ≡ xs
unfolding combined
combined_twice [] ys h = refl
combined_twice (x ∷ xs) [] h = absurd (omega (arith, h))
combined_twice (x ∷ xs) (y ∷ ys) h =
    ap (λ z. z ∷ combined (combined xs ys) ys) (xor_twice x y) ∙ ap (λ z. x ∷ z) (combined_twice xs ys (omega (arith, h)))

length-combined : (xs ys : List Bool) → length xs ≡ length ys → length (combined xs ys) ≡ length xs
unfolding combined
length-combined [] ys h = refl
length-combined (x ∷ xs) [] h = absurd (omega (arith, h))
length-combined (x ∷ xs) (y ∷ ys) h = ap suc (length-combined xs ys (omega (arith, h)))

length-mixed : (half key : List Bool) → length (mixed half key) ≡ 32
unfolding mixed
length-mixed half key = length-permuted round_permutation _

-- ---- rounds

exchanged : Halves → Halves
exchanged h = record { left = h.right; right = h.left }

-- both halves have 32 bits
record AreHalves (h : Halves) : Type 0 where
  left : length h.left ≡ 32
  right : length h.right ≡ 32

AreHalves-round : (h : Halves) (key : List Bool) → AreHalves h → AreHalves (round h key)
AreHalves-round h key long = record {
  left = long.right;
  right = length-combined h.left (mixed h.right key) (long.left ∙ sym (length-mixed h.right key)) ∙ long.left;
}

AreHalves-rounds : (keys : List (List Bool)) (h : Halves) → AreHalves h → AreHalves (rounds keys h)
unfolding rounds
AreHalves-rounds [] h long = long
AreHalves-rounds (key ∷ keys) h long = AreHalves-rounds keys (round h key) (AreHalves-round h key long)

-- a round undoes itself with the halves exchanged
round_back : (h : Halves) (key : List Bool) → AreHalves h → round (exchanged (round h key)) key ≡ exchanged h
unfolding exchanged
round_back h key long =
    ap (λ (x : List Bool). record { left = h.right; right = x }) (combined_twice h.left (mixed h.right key) (long.left ∙ sym (length-mixed h.right key)))

rounds-append : (keys more : List (List Bool)) (h : Halves) → rounds (keys ++ more) h ≡ rounds more (rounds keys h)
unfolding rounds
rounds-append [] more h = refl
rounds-append (key ∷ keys) more h = rounds-append keys more (round h key)

rounds_back : (keys : List (List Bool)) (h : Halves) → AreHalves h → rounds (reverse keys) (exchanged (rounds keys h)) ≡ exchanged h
unfolding rounds
rounds_back [] h long = refl
rounds_back (key ∷ keys) h long =
    let last : reverse (key ∷ keys) ≡ reverse keys ++ key ∷ [] = reverse-append (key ∷ []) keys in
    ap (λ z. rounds z (exchanged (rounds keys (round h key)))) last
    ∙ rounds-append (reverse keys) (key ∷ []) (exchanged (rounds keys (round h key)))
    ∙ ap (λ z. round z key) (rounds_back keys (round h key) (AreHalves-round h key long))
    ∙ round_back h key long

-- ---- permutations

-- the bits of a list by their places
by_places : (bits : List Bool) (n : ℕ) → length bits ≡ n → map (λ i. get_or bits i false) (range_with_len 0 n) ≡ bits
by_places bits n h = sym (fill_by_all (λ i. get_or bits i false) bits n false h (λ k below. refl))

final_of_initial : (bits : List Bool) → length bits ≡ 64 → permuted final_permutation (permuted initial_permutation bits) ≡ bits
unfolding permuted
final_of_initial bits h = by_places bits 64 h

initial_of_final : (bits : List Bool) → length bits ≡ 64 → permuted initial_permutation (permuted final_permutation bits) ≡ bits
unfolding permuted
initial_of_final bits h = by_places bits 64 h

-- ---- the cipher

AreHalves-first_halves : (block : List Bool) → AreHalves (first_halves block)
AreHalves-first_halves block =
    let long : length (permuted initial_permutation block) ≡ 64 = length-permuted initial_permutation block in
    record {
      left = length-take-le 32 (permuted initial_permutation block) (omega arith);
      right = omega (arith, length-drop 32 (permuted initial_permutation block));
    }

-- a block made of halves has them exchanged as its first halves
first_halves-last_block : (h : Halves) → AreHalves h → first_halves (last_block h) ≡ exchanged h
unfolding exchanged
first_halves-last_block h long =
    let joined : length (h.right ++ h.left) ≡ 64 = omega (arith, length-append h.right h.left, long.left, long.right) in
    let e = initial_of_final (h.right ++ h.left) joined in
    ap (λ (z : List Bool). record { left = take 32 z; right = drop 32 z }) e
    ∙ ap (λ (z : List Bool). record { left = z; right = drop 32 (h.right ++ h.left) }) (take_at h.right h.left 32 long.right)
    ∙ ap (λ (z : List Bool). record { left = h.right; right = z }) (drop_at h.right h.left 32 long.right)

-- the block made of a block's first halves, exchanged
last_block-exchanged : (block : List Bool) → length block ≡ 64 → last_block (exchanged (first_halves block)) ≡ block
unfolding exchanged
last_block-exchanged block h =
    ap (permuted final_permutation) (take-append-drop 32 (permuted initial_permutation block)) ∙ final_of_initial block h

pub length-cipher : (keys : List (List Bool)) (block : List Bool) → length (cipher keys block) ≡ 64
unfolding cipher
length-cipher keys block = length-permuted final_permutation _

-- the cipher under the round keys in reverse order undoes the cipher
pub cipher_back : (keys : List (List Bool)) (block : List Bool) → length block ≡ 64 → cipher (reverse keys) (cipher keys block) ≡ block
unfolding cipher
cipher_back keys block h =
    let first = first_halves block in
    let long : AreHalves first = AreHalves-first_halves block in
    ap (λ z. last_block (rounds (reverse keys) z)) (first_halves-last_block (rounds keys first) (AreHalves-rounds keys first long))
    ∙ ap last_block (rounds_back keys first long)
    ∙ last_block-exchanged block h

-- a block that was ciphered by the reversed keys is ciphered back by the keys
pub cipher_forth : (keys : List (List Bool)) (block : List Bool) → length block ≡ 64 → cipher keys (cipher (reverse keys) block) ≡ block
cipher_forth keys block h =
    ap (λ z. cipher z (cipher (reverse keys) block)) (sym (reverse-reverse keys)) ∙ cipher_back (reverse keys) block h
