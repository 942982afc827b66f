use Rattle.std.proofs.Common.{◌≡◌, ◌++◌, map, take, drop, bit_xor}
use Rattle.netlogon_seal.proofs.keys.mask_key.Given as goal

-- the bytes so far are combined with the mask
abbrev pub invariant-loop-byte : goal.invariant-loop-byte
invariant-loop-byte l = l.byte-items ≡ map (λ byte. bit_xor byte 0xF0) (take l.byte-index l.key) ++ drop l.byte-index l.key
