-- One more byte of a list is changed (`proofs/SealLaws`).
use Rattle.std.proofs.Common.{bit_xor, arith}
use Rattle.netlogon_seal.proofs.SealLaws.{mapped_more}
use Rattle.netlogon_seal.proofs.keys.mask_key.Goals as goal

pub loop-byte-preserved : goal.loop-byte-preserved
loop-byte-preserved c =
    mapped_more (λ byte. bit_xor byte 0xF0) c.args.key.now c.loop-byte.byte-items c.loop-byte.byte-index (omega arith) c.loop-byte.invariant
