use Rattle.std.proofs.Common.{◌≡◌, ℕ, ◌<◌, ◌≤◌, length, get_or, bit_xor}
use Rattle.des_cipher.proofs.word_schedule.add.Given as goal

abbrev pub invariant-loop-i : goal.invariant-loop-i
invariant-loop-i l = record {
  room : length l.words ≡ 16;
  done : (k : ℕ) → k < l.i → get_or l.words k 0 ≡ bit_xor (get_or l.fn.words k 0) (get_or l.row k 0);
  left : (k : ℕ) → l.i ≤ k → get_or l.words k 0 ≡ get_or l.fn.words k 0;
}
