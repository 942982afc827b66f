-- The cipher (FIPS 46-3, "Enciphering" and "The Cipher Function f"), on lists of bits, under a list of round keys of 48
-- bits each.
use Rattle.std.specs.Prelude.{ℕ, ◌+◌, ◌*◌, Bool, List, [], ◌∷◌, ◌++◌, slice_index, take, drop}
use Rattle.des_cipher.specs.Bits.{bit, permuted, combined, number_bits, number_of}
use Rattle.des_cipher.specs.Tables.{initial_permutation, final_permutation, expansion, round_permutation, s_boxes}

-- the place in a box of six bits: the first and the last give the row, of 16 entries, the middle four the column
unfoldable pub box_place : List Bool → ℕ
box_place six =
    16 * number_of (bit six 1 ∷ bit six 6 ∷ [])
    + number_of (bit six 2 ∷ bit six 3 ∷ bit six 4 ∷ bit six 5 ∷ [])

-- the four bits that a box gives for six
unfoldable pub substituted : List ℕ → List Bool → List Bool
substituted box six = number_bits 4 (slice_index box (box_place six))

-- boxes applied to groups of six bits, the first to the first
unfoldable pub substitutions : List (List ℕ) → List Bool → List Bool
substitutions [] bits = []
substitutions (box ∷ boxes) bits = substituted box (take 6 bits) ++ substitutions boxes (drop 6 bits)

-- the cipher function f of a half and a round key
unfoldable pub mixed : List Bool → List Bool → List Bool
mixed half round_key =
    permuted round_permutation (substitutions s_boxes (combined (permuted expansion half) round_key))

-- the halves L and R
pub record Halves : Type 0 where
  pub left : List Bool
  pub right : List Bool

-- a round gives R, and L combined with f of R and the round key
abbrev pub round : Halves → List Bool → Halves
round h round_key = record { left = h.right; right = combined h.left (mixed h.right round_key) }

-- one round for each round key, in order
unfoldable pub rounds : List (List Bool) → Halves → Halves
rounds [] h = h
rounds (key ∷ keys) h = rounds keys (round h key)

-- the halves that the initial permutation gives
abbrev pub first_halves : List Bool → Halves
first_halves block =
    record { left = take 32 (permuted initial_permutation block); right = drop 32 (permuted initial_permutation block) }

-- the block that the last halves make: exchanged, joined and permuted
abbrev pub last_block : Halves → List Bool
last_block h = permuted final_permutation (h.right ++ h.left)

-- the cipher on a block of 64 bits
unfoldable pub cipher : List (List Bool) → List Bool → List Bool
cipher keys block = last_block (rounds keys (first_halves block))
