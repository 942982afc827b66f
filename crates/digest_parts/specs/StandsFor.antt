-- What the hashers that take a message in pieces stand for: this project's own choice.
use Rattle.std.specs.Prelude.{◌≡◌, ℕ, ◌%◌, ◌^◌, List, ◌++◌, length, take}
use Rattle.md5.specs.Md5.{Holds}
use Rattle.digest_parts.specs.declared.hmac_digest.Hmac.{Hmac}
use Rattle.digest_parts.specs.declared.md4_digest.Md4Hasher.{Md4Hasher}
use Rattle.digest_parts.specs.Hmac.{padded_key, ipad, opad}
use Rattle.digest_parts.specs.Md4.{initial_registers, after_blocks, rest_of}

-- The hasher stands for the message: its registers are those after the message's whole blocks, its block
-- begins with the bytes after these, and its count is the message's length in bytes modulo 2 ^ 64.
unfoldable pub StandsFor : Md4Hasher → List ℕ → Type 0
StandsFor hasher message =
    (hasher.count ≡ length message % 2 ^ 64)
    × (hasher.registers ≡ after_blocks initial_registers message)
    × (take (length message % 64) hasher.block ≡ rest_of message)

-- The HMAC stands, under the key, for the message: its inner digest has taken the key combined with ipad
-- and then the message, and its outer digest the key combined with opad.
unfoldable pub StandsForUnder : Hmac → List ℕ → List ℕ → Type 0
StandsForUnder hmac key message =
    Holds hmac.inner (padded_key ipad key ++ message) × Holds hmac.outer (padded_key opad key)
