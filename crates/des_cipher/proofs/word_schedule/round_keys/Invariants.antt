use Rattle.std.proofs.Common.{◌≡◌, ℕ, ◌<◌, [], length, get_or, map}
use Rattle.des_cipher.specs.Words.{round_key_bits}
use Rattle.des_cipher.proofs.SoFar.{key_row}
use Rattle.des_cipher.proofs.word_schedule.round_keys.Given as goal

abbrev pub invariant-loop-i : goal.invariant-loop-i
invariant-loop-i l = record {
  room : length l.keys ≡ 16;
  done : (m : ℕ) → m < l.i → get_or (map round_key_bits l.keys) m [] ≡ key_row l.key m;
}
