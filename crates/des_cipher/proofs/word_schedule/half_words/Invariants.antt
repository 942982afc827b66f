use Rattle.std.proofs.Common.{◌≡◌, ℕ, ◌<◌, get_or}
use Rattle.std.specs.Int.{bit_at}
use Rattle.des_cipher.specs.KeyPlaces.{left_place, right_place, bit_so_far}
use Rattle.des_cipher.proofs.word_schedule.half_words.Given as goal

abbrev pub invariant-loop-i : goal.invariant-loop-i
invariant-loop-i l = record {
  left : (k : ℕ) (j : ℕ) → k < 16 → j < 32 → bit_at (get_or l.left k 0) j ≡ bit_so_far l.key l.i (left_place k j);
  right : (k : ℕ) (j : ℕ) → k < 16 → j < 32 → bit_at (get_or l.right k 0) j ≡ bit_so_far l.key l.i (right_place k j);
}
