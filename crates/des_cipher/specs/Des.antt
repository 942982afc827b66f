-- DES (FIPS 46-3) on keys and blocks of 8 bytes, and keys of 7 bytes.
use Rattle.std.specs.Prelude.{◌≡◌, ℕ, ◌+◌, ◌*◌, ◌/◌, ◌<◌, Bool, false, List, [], ◌∷◌, ◌++◌, All, length, map, reverse, slice_range}
use Rattle.std.specs.List.{range_with_len}
use Rattle.des_cipher.specs.Bits.{number_of, bits_of, bytes_of}
use Rattle.des_cipher.specs.Cipher.{cipher}
use Rattle.des_cipher.specs.Schedule.{round_keys}

-- DES on lists of 64 bits: the cipher under the round keys of the key
abbrev pub enciphered : List Bool → List Bool → List Bool
enciphered key block = cipher (round_keys key) block

-- DES of a block of 8 bytes under a key of 8 bytes
unfoldable pub des_of : List ℕ → List ℕ → List ℕ
des_of key block = bytes_of (enciphered (bits_of key) (bits_of block))

-- the inverse of DES on lists of 64 bits (FIPS 46-3, "Deciphering"): the same cipher under the round keys in reverse
-- order
abbrev pub deciphered : List Bool → List Bool → List Bool
deciphered key block = cipher (reverse (round_keys key)) block

-- the inverse of DES of a block of 8 bytes under a key of 8 bytes
unfoldable pub des_back_of : List ℕ → List ℕ → List ℕ
des_back_of key block = bytes_of (deciphered (bits_of key) (bits_of block))

-- a block of 8 bytes
pub record IsBlock (block : List ℕ) : Type 0 where
  pub eight : length block ≡ 8
  pub bytes : All (λ b. b < 256) block

-- a key of 7 bytes spread over 8: seven bits in each byte, in order, and a last bit that is not set
-- (MS-NRPC 3.1.4.4.2, InitLMKey)
unfoldable pub spread_of : List ℕ → List ℕ
spread_of key =
    map (λ i. number_of (slice_range (bits_of key) (7 * i) (7 * i + 7) ++ false ∷ [])) (range_with_len 0 8)

-- two keys that are alike but for the last bit of each byte
abbrev pub SameButLowBits : List ℕ → List ℕ → Type 0
SameButLowBits key other = map (λ b. b / 2) key ≡ map (λ b. b / 2) other
