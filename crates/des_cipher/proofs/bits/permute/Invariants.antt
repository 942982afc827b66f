use Rattle.std.proofs.Common.{◌≡◌, take, length}
use Rattle.des_cipher.specs.Bits.{permuted}
use Rattle.des_cipher.proofs.bits.permute.Given as goal

abbrev pub invariant-loop-i : goal.invariant-loop-i
invariant-loop-i g l = record {
  room : length l.chosen ≡ l.i-end;
  done : take l.i l.chosen ≡ permuted (take l.i l.places) l.bits;
}
