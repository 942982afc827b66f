-- The session key of a secure channel (MS-NRPC 3.1.4.3), of 16 bytes, as compositions of lists of bytes. The secret is
-- the account's NT hash, of 16 bytes; the client's and the server's challenge have 8.
use Rattle.std.specs.Prelude.{ℕ, ◌+◌, ◌%◌, ◌^◌, Bool, true, false, List, ◌++◌, take, drop, replicate}
use Rattle.std.specs.Int.{w32, to_le_bytes, from_le_bytes}
use Rattle.md5.specs.Md5.{md5}
use Rattle.des_cipher.specs.Des.{des_of, spread_of}
use Rattle.digest_parts.specs.Hmac.{hmac_of}
use Rattle.ntlm_flags.specs.Flags.{has_flag}
use Rattle.channel_keys.specs.Flags.{strong_key_flag}

-- ---- the strong key (3.1.4.3.2)

-- HMAC-MD5, under the secret, of MD5 of four zeros and both challenges
unfoldable pub strong_key_of : List ℕ → List ℕ → List ℕ → List ℕ
strong_key_of secret client server = hmac_of secret (md5 (replicate 4 0 ++ client ++ server))

-- ---- the DES key (3.1.4.3.3)

-- the sum, modulo 2^32, of the numbers that two halves of 4 bytes are, low byte first
unfoldable pub half_sum : List ℕ → List ℕ → List ℕ
half_sum x y = to_le_bytes w32 ((from_le_bytes w32 x + from_le_bytes w32 y) % 2 ^ 32)

-- the client's and the server's challenge, added half by half
unfoldable pub halves_sum : List ℕ → List ℕ → List ℕ
halves_sum client server =
    half_sum (take 4 client) (take 4 server) ++ half_sum (take 4 (drop 4 client)) (take 4 (drop 4 server))

-- the sum under bytes 0 to 6 of the secret and then under bytes 9 to 15, and eight zeros
unfoldable pub des_key_of : List ℕ → List ℕ → List ℕ → List ℕ
des_key_of secret client server =
    des_of (spread_of (take 7 (drop 9 secret))) (des_of (spread_of (take 7 secret)) (halves_sum client server))
    ++ replicate 8 0

-- ---- the key that the flags call for

-- the session key of a secret and of the challenges of both sides
abbrev pub key_by : (is_strong : Bool) (secret client server : List ℕ) → List ℕ
key_by true secret client server = strong_key_of secret client server
key_by false secret client server = des_key_of secret client server

abbrev pub key_of : List ℕ → List ℕ → List ℕ → ℕ → List ℕ
key_of secret client server flags = key_by (has_flag flags strong_key_flag) secret client server
