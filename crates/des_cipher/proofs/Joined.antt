-- The joined tables of the boxes.
use Rattle.std.proofs.Common.{◌≡◌, ℕ, ◌<◌, ◌&&◌, Bool, true, false, List, [], ◌∷◌, get_or, refl, ap₂, sym}
use Rattle.std.proofs.lemmas.Bool.{and_parts}
use Rattle.des_cipher.proofs.Places.{at_each}
use Rattle.std.specs.List.{list_all, range_with_len}
use Rattle.des_cipher.specs.Bits.{number_bits, permuted, number_of}
use Rattle.des_cipher.specs.Cipher.{substituted, box_place}
use Rattle.des_cipher.specs.Words.{joined, in_place}
use Rattle.des_cipher.specs.declared.joined_boxes.TheConstants.{SUBSTITUTION}

pub same : Bool → Bool → Bool
same true b = b
same false true = false
same false false = true

pub same_bits : List Bool → List Bool → Bool
same_bits [] [] = true
same_bits [] (y ∷ ys) = false
same_bits (x ∷ xs) [] = false
same_bits (x ∷ xs) (y ∷ ys) = same x y && same_bits xs ys

pub is_joined : ℕ → ℕ → Bool
is_joined box v = same_bits (number_bits 32 (get_or (get_or SUBSTITUTION box []) v 0)) (joined box v)

pub are_joined : ℕ → Bool
are_joined box = list_all (is_joined box) (range_with_len 0 64)

pub all_joined : list_all are_joined (range_with_len 0 8) ≡ true
unfolding are_joined is_joined same_bits same number_bits joined in_place permuted number_of substituted box_place
all_joined = refl

same_from : (x y : Bool) → same x y ≡ true → x ≡ y
unfolding same
same_from true true h = refl
same_from true false h = sym h
same_from false true h = h
same_from false false h = refl

bits_from : (xs ys : List Bool) → same_bits xs ys ≡ true → xs ≡ ys
unfolding same_bits
bits_from [] [] h = refl
bits_from [] (y ∷ ys) h = cc
bits_from (x ∷ xs) [] h = cc
bits_from (x ∷ xs) (y ∷ ys) h =
    let both = and_parts (same x y) (same_bits xs ys) h in
    ap₂ (λ (z : Bool) (zs : List Bool). z ∷ zs) (same_from x y both.0) (bits_from xs ys both.1)

-- each entry is P of what its box gives, in its place
pub joined_entry : (box v : ℕ) → box < 8 → v < 64 → number_bits 32 (get_or (get_or SUBSTITUTION box []) v 0) ≡ joined box v
unfolding are_joined is_joined
joined_entry box v hb hv =
    bits_from _ _ (at_each (is_joined box) 64 v (at_each are_joined 8 box all_joined hb) hv)
