-- Laws of the digests: 16 bytes, each below 256. Of MD4's padding: it ends a block.
use Rattle.std.proofs.Common.{◌≡◌, ℕ, ◌/◌, ◌<◌, List, ◌++◌, length, slice_index, refl, arith}
use Rattle.std.proofs.lemmas.List.Elements.{All-append, All-from_recursion}
use Rattle.std.specs.List.{All}
use Rattle.std.specs.Int.{w32, to_le_bytes}
use Rattle.md5.specs.Md5.{md5, hash_after, padded_message, digest_bytes}
use Rattle.digest_parts.specs.Hmac.{hmac_of}
use Rattle.digest_parts.specs.Md4.{padded, md4_of, register_bytes, after_blocks, initial_registers}

abbrev IsByte : ℕ → Type 0
IsByte b = b < 256

word_bytes : (n : ℕ) → All IsByte (to_le_bytes w32 n)
word_bytes n = All-from_recursion IsByte (to_le_bytes w32 n) (omega arith, (omega arith, (omega arith, (omega arith, tt))))

-- the bytes of four words
four_words : (a b c d : ℕ) → All IsByte (to_le_bytes w32 a ++ to_le_bytes w32 b ++ to_le_bytes w32 c ++ to_le_bytes w32 d)
four_words a b c d =
    All-append IsByte (to_le_bytes w32 a ++ to_le_bytes w32 b ++ to_le_bytes w32 c) (to_le_bytes w32 d)
    (All-append IsByte (to_le_bytes w32 a ++ to_le_bytes w32 b) (to_le_bytes w32 c)
    (All-append IsByte (to_le_bytes w32 a) (to_le_bytes w32 b) (word_bytes a) (word_bytes b)) (word_bytes c)) (word_bytes d)

pub length-md4_of : (message : List ℕ) → length (md4_of message) ≡ 16
unfolding md4_of register_bytes
length-md4_of message = refl

pub All-md4_of : (message : List ℕ) → All (λ byte. byte < 256) (md4_of message)
unfolding md4_of register_bytes
All-md4_of message =
    let h = after_blocks initial_registers (padded message) in
    four_words (slice_index h 0) (slice_index h 1) (slice_index h 2) (slice_index h 3)

pub length-md5 : (message : List ℕ) → length (md5 message) ≡ 16
unfolding md5 digest_bytes
length-md5 message = refl

pub All-md5 : (message : List ℕ) → All (λ byte. byte < 256) (md5 message)
unfolding md5 digest_bytes
All-md5 message =
    let h = hash_after (padded_message message) (length (padded_message message) / 64) in
    four_words (slice_index h 0) (slice_index h 1) (slice_index h 2) (slice_index h 3)

pub length-hmac_of : (key message : List ℕ) → length (hmac_of key message) ≡ 16
unfolding hmac_of
length-hmac_of key message = length-md5 _

pub All-hmac_of : (key message : List ℕ) → All (λ byte. byte < 256) (hmac_of key message)
unfolding hmac_of
All-hmac_of key message = All-md5 _
