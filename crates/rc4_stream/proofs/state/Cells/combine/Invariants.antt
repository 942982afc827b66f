use Rattle.std.proofs.Common.{◌≡◌, ◌-◌, ◌++◌, ◌≤◌, take, drop, length}
use Rattle.rc4_stream.specs.CellStates.{state_of}
use Rattle.rc4_stream.specs.Steps.{state_at, combined_from, advanced}
use Rattle.rc4_stream.proofs.state.Cells.combine.Given as goal

abbrev pub invariant-loop-bytes : goal.invariant-loop-bytes
invariant-loop-bytes l = record {
  bytes : take l.at l.bytes ++ combined_from (state_at l.self.table l.i l.j) (drop l.at l.bytes) ≡ combined_from (state_of l.initial.self) l.initial.bytes;
  state : advanced (length l.initial.bytes - l.at) (state_at l.self.table l.i l.j) ≡ advanced (length l.initial.bytes) (state_of l.initial.self);
  len : length l.bytes ≡ length l.initial.bytes;
  inside : l.at ≤ length l.bytes;
}

abbrev pub decreases-loop-bytes : goal.decreases-loop-bytes
decreases-loop-bytes l = length l.bytes - l.at
