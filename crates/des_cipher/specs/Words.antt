-- Words of 64 and 32 bits whose bits, the highest first, are those of the lists that the cipher is defined on (this
-- project's own choice): blocks, the boxes joined with P, and round keys.
use Rattle.std.specs.Prelude.{ℕ, ◌-◌, ◌*◌, ◌/◌, ◌%◌, ◌^◌, Bool, false, List, [], ◌++◌, slice_index_or, take, drop, replicate, bit_and, bit_xor}
use Rattle.des_cipher.specs.Bits.{permuted, number_bits}
use Rattle.des_cipher.specs.Cipher.{substituted}
use Rattle.des_cipher.specs.Tables.{round_permutation, s_boxes}
use Rattle.des_cipher.specs.declared.word_schedule.RoundKey.{RoundKey}

-- a word of 64 bits whose bits under a mask are exchanged with those that many places higher
unfoldable pub exchanged : ℕ → ℕ → ℕ → ℕ
exchanged x n mask =
    bit_xor (bit_xor x (bit_and (bit_xor (x / 2 ^ n) x) mask)) (bit_and (bit_xor (x / 2 ^ n) x) mask * 2 ^ n % 2 ^ 64)

-- four bits at the place of a box, the first being 0, among 32
unfoldable pub in_place : ℕ → List Bool → List Bool
in_place box four = replicate (4 * box) false ++ (four ++ replicate (28 - 4 * box) false)

-- P of what a box gives for six bits, in its place
unfoldable pub joined : ℕ → ℕ → List Bool
joined box v = permuted round_permutation (in_place box (substituted (slice_index_or s_boxes box []) (number_bits 6 v)))

-- six of 32 bits, after so many
abbrev pub six : ℕ → List Bool → List Bool
six at word = take 6 (drop at word)

-- the 48 bits of a round key, of which one word has the groups for boxes 1, 3, 5 and 7 and another those for 2, 4, 6
-- and 8
unfoldable pub interleaved : List Bool → List Bool → List Bool
interleaved odd even =
    six 0 odd ++ six 0 even ++ six 8 odd ++ six 8 even ++ six 16 odd ++ six 16 even ++ six 24 odd ++ six 24 even

-- the 48 bits of a round key that two words keep
unfoldable pub key_bits : ℕ → ℕ → List Bool
key_bits odd even = interleaved (number_bits 32 odd) (number_bits 32 even)

abbrev pub round_key_bits : RoundKey → List Bool
round_key_bits k = key_bits k.odd k.even
