-- HMAC (RFC 2104) with MD5 as a function on lists of bytes: H is MD5, of 16 bytes, over blocks of B = 64
-- bytes. Section numbers are those of RFC 2104.
use Rattle.std.specs.Prelude.{ℕ, ◌-◌, List, ◌++◌, length, replicate, map, nat_lt, bit_xor, if◌then◌else◌}
use Rattle.md5.specs.Md5.{md5}

-- the key, or its digest where it is longer than a block (2)
unfoldable pub shortened : List ℕ → List ℕ
shortened key = if nat_lt 64 (length key) then md5 key else key

-- K with zeros appended to 64 bytes: step (1) of 2
unfoldable pub key_block : List ℕ → List ℕ
key_block key = shortened key ++ replicate (64 - length (shortened key)) 0

-- the key's block combined with a pad, 64 times one byte: steps (2) and (5) of 2
unfoldable pub padded_key : ℕ → List ℕ → List ℕ
padded_key pad key = map (λ byte. bit_xor byte pad) (key_block key)

-- the bytes of the two pads
abbrev pub ipad : ℕ
ipad = 0x36

abbrev pub opad : ℕ
opad = 0x5c

-- H(K XOR opad, H(K XOR ipad, text)): 16 bytes
unfoldable pub hmac_of : List ℕ → List ℕ → List ℕ
hmac_of key text = md5 (padded_key opad key ++ md5 (padded_key ipad key ++ text))
