use Rattle.std.proofs.Common.{◌≡◌, ℕ, ◌<◌, get_or, length}
use Rattle.rc4_stream.proofs.state.ordered_table.Given as goal

abbrev pub invariant-loop-i : goal.invariant-loop-i
invariant-loop-i l = record {
  room : length l.table ≡ 256;
  done : (k : ℕ) → k < l.i → get_or l.table k 0 ≡ k;
}
