use Rattle.std.proofs.Common.{◌≡◌, ℕ, ◌*◌, ◌+◌, ◌<◌, get_or, length, slice_range}
use Rattle.des_cipher.specs.Bits.{number_of}
use Rattle.des_cipher.proofs.bits.bytes_from.Given as goal

abbrev pub invariant-loop-i : goal.invariant-loop-i
invariant-loop-i l = record {
  room : length l.bytes ≡ 8;
  done : (k : ℕ) → k < l.i → get_or l.bytes k 0 ≡ number_of (slice_range l.bits (8 * k) (8 * k + 8));
}
