-- Words of 64 bits and their 8 bytes, the highest first.
use Rattle.std.proofs.Common.{◌≡◌, ℕ, zero, suc, ◌+◌, ◌*◌, ◌/◌, ◌%◌, ◌^◌, ◌<◌, List, length, get_or, refl, ap, sym, ◌∙◌, arith, w64, mod-lt, lit<}
use Rattle.std.proofs.lemmas.Nat.{be_bytes_8}
use Rattle.std.specs.Int.{bit_at, from_be_bytes, to_be_bytes}
use Rattle.des_cipher.specs.Bits.{number_bits, bits_of, bytes_of}
use Rattle.des_cipher.specs.Des.{IsBlock}
use Rattle.des_cipher.proofs.ByteLaws.{bytes_of-bits_of}
use Rattle.des_cipher.proofs.Places.{read, number_bits_by, bit_at-shr, bit_at-wrapped}

-- a byte of a word, counted from the lowest
byte_by : ℕ → ℕ → ℕ
byte_by zero n = n % 256
byte_by (suc k) n = n / 2 ^ (8 * suc k) % 256

bit_at-byte_by : (k n j : ℕ) → j < 8 → bit_at (byte_by k n) j ≡ bit_at n (8 * k + j)
unfolding byte_by
bit_at-byte_by zero n j h = bit_at-wrapped n 8 j h ∙ ap (bit_at n) (omega arith)
bit_at-byte_by (suc k) n j h = bit_at-wrapped (n / 2 ^ (8 * suc k)) 8 j h ∙ bit_at-shr n (8 * suc k) j

-- the bits of a word are those of its bytes
pub bits_of_word : (n : ℕ) → number_bits 64 n ≡ bits_of (to_be_bytes w64 n)
unfolding read number_bits bits_of byte_by
bits_of_word n =
    number_bits_by 64 n (λ i. bit_at (byte_by (i / 8) n) (i % 8)) (λ i h.
    let parts : 8 * (i / 8) + i % 8 ≡ i = omega arith in
    sym (bit_at-byte_by (i / 8) n (i % 8) (mod-lt i (lit< tt)) ∙ ap (bit_at n) parts))

pub bits_of_read : (block : List ℕ) (n : ℕ) → length block ≡ 8 → ((i : ℕ) → get_or block i 0 < 256) → n ≡ from_be_bytes w64 block → number_bits 64 n ≡ bits_of block
bits_of_read block n h small e = bits_of_word n ∙ ap bits_of (be_bytes_8 block n h small e)

IsBlock-to_be_bytes : (n : ℕ) → IsBlock (to_be_bytes w64 n)
IsBlock-to_be_bytes n = record { eight = refl; bytes = search arith }

pub bytes_of_word : (n : ℕ) → to_be_bytes w64 n ≡ bytes_of (number_bits 64 n)
bytes_of_word n = sym (ap bytes_of (bits_of_word n) ∙ bytes_of-bits_of (to_be_bytes w64 n) (IsBlock-to_be_bytes n))
