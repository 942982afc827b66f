use Rattle.std.proofs.Common.{◌≡◌, ◌-◌, ◌++◌, take, drop, length}
use Rattle.rc4_stream.specs.Steps.{state_at, combined_from, advanced}
use Rattle.rc4_stream.proofs.state.combine_piece.Given as goal

abbrev pub invariant-loop-byte : goal.invariant-loop-byte
invariant-loop-byte l = record {
  bytes : take l.byte-index l.bytes ++ combined_from (state_at l.table l.i l.j) (drop l.byte-index l.bytes) ≡ combined_from (state_at l.initial.table l.initial.i l.initial.j) l.initial.bytes;
  state : advanced (length l.initial.bytes - l.byte-index) (state_at l.table l.i l.j) ≡ advanced (length l.initial.bytes) (state_at l.initial.table l.initial.i l.initial.j);
}
