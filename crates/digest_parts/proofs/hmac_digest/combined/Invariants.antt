use Rattle.std.proofs.Common.{◌≡◌, ◌++◌, map, take, drop, bit_xor}
use Rattle.digest_parts.proofs.hmac_digest.combined.Given as goal

-- the bytes so far are combined with the pad
abbrev pub invariant-loop-byte : goal.invariant-loop-byte
invariant-loop-byte l = l.byte-items ≡ map (λ byte. bit_xor byte l.pad) (take l.byte-index l.block) ++ drop l.byte-index l.block
