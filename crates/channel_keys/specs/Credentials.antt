-- The credential under a session key of 16 bytes (MS-NRPC 3.1.4.4.2), on lists of 8 bytes.
use Rattle.std.specs.Prelude.{ℕ, List, take, drop}
use Rattle.des_cipher.specs.Des.{des_of, des_back_of, spread_of}

-- DES under bytes 0 to 6 of the key, and then under bytes 7 to 13
unfoldable pub cred_of : List ℕ → List ℕ → List ℕ
cred_of key input = des_of (spread_of (take 7 (drop 7 key))) (des_of (spread_of (take 7 key)) input)

-- the inverse: the inverse of DES under bytes 7 to 13 of the key, and then under bytes 0 to 6
unfoldable pub cred_back_of : List ℕ → List ℕ → List ℕ
cred_back_of key output = des_back_of (spread_of (take 7 key)) (des_back_of (spread_of (take 7 (drop 7 key))) output)
