use Rattle.std.proofs.Common.{◌≡◌, ◌++◌, take, drop}
use Rattle.des_cipher.specs.Bits.{combined}
use Rattle.des_cipher.proofs.bits.combine.Given as goal

abbrev pub invariant-loop-i : goal.invariant-loop-i
invariant-loop-i l = take l.i l.bits ++ combined (drop l.i l.bits) (drop l.i l.others) ≡ combined l.initial.bits l.others
