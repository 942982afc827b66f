use Rattle.std.proofs.Common.{◌≡◌}
use Rattle.rc4_stream.specs.Rc4.{shuffled}
use Rattle.rc4_stream.proofs.state.Cells.scheduled.Given as goal

abbrev pub invariant-loop-i : goal.invariant-loop-i
invariant-loop-i l = record {
  table : l.table ≡ (shuffled l.key l.i).table;
  j : l.j ≡ (shuffled l.key l.i).j;
}
