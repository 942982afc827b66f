use Rattle.std.proofs.Common.{◌≡◌, ◌++◌, ◌*◌, take, drop, length}
use Rattle.des_cipher.specs.Cipher.{substitutions}
use Rattle.des_cipher.specs.Tables.{s_boxes}
use Rattle.des_cipher.proofs.cipher.substitute_all.Given as goal

abbrev pub invariant-loop-i : goal.invariant-loop-i
invariant-loop-i l = record {
  room : length l.out ≡ 32;
  done : take (4 * l.i) l.out ++ substitutions (drop l.i s_boxes) (drop (6 * l.i) l.bits) ≡ substitutions s_boxes l.bits;
}
