-- The hashes of a password and the keys made of them (MS-NLMP 3.3.1, 3.3.2 and 6), as compositions of lists of bytes. A
-- password, a user's name and a domain's name are lists of 16-bit units, but the LM hash is of a password in bytes.
use Rattle.std.specs.Prelude.{ℕ, List, [], ◌∷◌, ◌++◌, take, drop, replicate}
use Rattle.des_cipher.specs.Des.{des_of, spread_of}
use Rattle.digest_parts.specs.Hmac.{hmac_of}
use Rattle.digest_parts.specs.Md4.{md4_of}
use Rattle.wire_base.specs.Names.{upper_case}
use Rattle.wire_base.specs.Units.{utf16_of}

-- ---- DES under keys of 7 bytes (6)

-- DES(K, D): a block of 8 bytes under a key of 7 bytes
abbrev pub des7_of : List ℕ → List ℕ → List ℕ
des7_of key block = des_of (spread_of key) block

-- DESL(K, D): a block of 8 bytes under bytes 0 to 6 of a key of 16 bytes, under bytes 7 to 13, and under bytes 14 and
-- 15 with five zeros, joined to 24 bytes
unfoldable pub desl_of : List ℕ → List ℕ → List ℕ
desl_of key block =
    des7_of (take 7 key) block
    ++ des7_of (take 7 (drop 7 key)) block
    ++ des7_of (take 2 (drop 14 key) ++ replicate 5 0) block

-- ---- NTOWFv1 and LMOWFv1 (3.3.1)

-- NTOWFv1, the NT hash: MD4 of the password in UTF-16LE, 16 bytes
unfoldable pub nt_hash_of : List ℕ → List ℕ
nt_hash_of password = md4_of (utf16_of password)

-- the password in upper case, cut to 14 bytes or filled with zeros to 14
unfoldable pub lm_key_of : List ℕ → List ℕ
lm_key_of password = take 14 (upper_case password ++ replicate 14 0)

-- the text "KGS!@#$%"
abbrev pub lm_text : List ℕ
lm_text = 0x4B ∷ 0x47 ∷ 0x53 ∷ 0x21 ∷ 0x40 ∷ 0x23 ∷ 0x24 ∷ 0x25 ∷ []

-- LMOWFv1, the LM hash: DES of that text under bytes 0 to 6 of the key and under bytes 7 to 13, joined to 16 bytes
unfoldable pub lm_hash_of : List ℕ → List ℕ
lm_hash_of password =
    des7_of (take 7 (lm_key_of password)) lm_text ++ des7_of (take 7 (drop 7 (lm_key_of password))) lm_text

-- ---- NTOWFv2 (3.3.2)

-- NTOWFv2, the NTLMv2 key: HMAC-MD5, under the NT hash, of the user's name in upper case and the domain's name as it
-- stands, in UTF-16LE: 16 bytes
unfoldable pub key_v2_of : List ℕ → List ℕ → List ℕ → List ℕ
key_v2_of hash user domain = hmac_of hash (utf16_of (upper_case user ++ domain))
