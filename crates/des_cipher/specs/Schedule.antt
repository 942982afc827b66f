-- The key schedule (FIPS 46-3, "Key schedule calculation"): the 16 round keys of a key of 64 bits.
use Rattle.std.specs.Prelude.{ℕ, Bool, List, [], ◌∷◌, ◌++◌, take, drop}
use Rattle.des_cipher.specs.Bits.{permuted}
use Rattle.des_cipher.specs.Tables.{key_choice_c, key_choice_d, round_key_choice, rotations}

-- a half of the key rotated to the left
abbrev pub rotated : ℕ → List Bool → List Bool
rotated count half = drop count half ++ take count half

-- the round keys from the halves C and D before a round on, with the rotations that are left
unfoldable pub round_keys_from : List ℕ → List Bool → List Bool → List (List Bool)
round_keys_from [] c d = []
round_keys_from (count ∷ counts) c d =
    permuted round_key_choice (rotated count c ++ rotated count d)
    ∷ round_keys_from counts (rotated count c) (rotated count d)

-- the round keys of a key. Permuted choice 1 passes over the last bit of each byte.
unfoldable pub round_keys : List Bool → List (List Bool)
round_keys key = round_keys_from rotations (permuted key_choice_c key) (permuted key_choice_d key)
