-- Credentials as blocks of bytes, for the laws of seeds and for those of what ends send.
use Rattle.std.proofs.Common.{◌≡◌, ◌<◌, ℕ, List, length, replicate, refl, arith}
use Rattle.std.proofs.lemmas.List.Elements.{All-replicate}
use Rattle.wire_base.specs.Numbers.{AreBytes}
use Rattle.wire_base.proofs.NumberLaws.{bytes_from_all}
use Rattle.channel_keys.specs.Credentials.{cred_of}
use Rattle.channel_keys.proofs.CredLaws.{IsBlock-cred_of}

-- a credential has 8 bytes
pub cred_block : (key input : List ℕ) → (length (cred_of key input) ≡ 8) × AreBytes (cred_of key input)
cred_block key input = ((IsBlock-cred_of key input).eight, bytes_from_all (cred_of key input) (IsBlock-cred_of key input).bytes)

-- 8 zeros are a block of 8 bytes
pub zeros_block : (length {A = ℕ} (replicate 8 0) ≡ 8) × AreBytes (replicate 8 0)
zeros_block = (refl, bytes_from_all (replicate 8 0) (All-replicate (λ b. b < 256) 8 0 (omega arith)))
