use Rattle.std.proofs.Common.{◌≡◌, ◌*◌, take}
use Rattle.des_cipher.specs.Bits.{bits_of}
use Rattle.des_cipher.proofs.bits.write_bits.Given as goal

abbrev pub invariant-loop-i : goal.invariant-loop-i
invariant-loop-i l = take (8 * l.i) l.bits ≡ bits_of (take l.i l.bytes)
