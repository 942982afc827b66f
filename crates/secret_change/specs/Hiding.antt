-- The new secret as it travels (MS-NRPC 3.5.4.4.6; MS-SAMR 2.2.11.1.1): its two halves of 8 bytes, each under DES. The
-- key of the first half is the first 7 bytes of the channel's key, that of the second half the next 7. Keys and secrets
-- have 16 bytes; the last two bytes of the key are passed over.
use Rattle.std.specs.Prelude.{ℕ, List, ◌++◌, slice_range}
use Rattle.des_cipher.specs.Des.{des_of, des_back_of, spread_of}

-- the two keys of 7 bytes, spread over 8
abbrev pub first_key : List ℕ → List ℕ
first_key key = spread_of (slice_range key 0 7)

abbrev pub second_key : List ℕ → List ℕ
second_key key = spread_of (slice_range key 7 14)

-- the halves of 16 bytes
abbrev pub first_half : List ℕ → List ℕ
first_half sixteen = slice_range sixteen 0 8

abbrev pub second_half : List ℕ → List ℕ
second_half sixteen = slice_range sixteen 8 16

-- under a key, what hides a secret, and the secret that hidden bytes show
unfoldable pub hide_of : List ℕ → List ℕ → List ℕ
hide_of key secret =
    des_of (first_key key) (first_half secret) ++ des_of (second_key key) (second_half secret)

unfoldable pub show_of : List ℕ → List ℕ → List ℕ
show_of key hidden =
    des_back_of (first_key key) (first_half hidden) ++ des_back_of (second_key key) (second_half hidden)
