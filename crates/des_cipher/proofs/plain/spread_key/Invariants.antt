use Rattle.std.proofs.Common.{◌≡◌, ℕ, ◌*◌, ◌+◌, ◌<◌, ◌++◌, ◌∷◌, [], false, get_or, length, slice_range}
use Rattle.des_cipher.specs.Bits.{number_of}
use Rattle.des_cipher.proofs.plain.spread_key.Given as goal

abbrev pub invariant-loop-i : goal.invariant-loop-i
invariant-loop-i l = record {
  room : length l.spread ≡ 8;
  done : (k : ℕ) → k < l.i → get_or l.spread k 0 ≡ number_of (slice_range l.bits (7 * k) (7 * k + 7) ++ false ∷ []);
}
