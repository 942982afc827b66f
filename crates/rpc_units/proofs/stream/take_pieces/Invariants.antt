-- The pieces so far have these units and this rest, which waits.
use Rattle.std.proofs.Common.{◌≡◌, None, false, take}
use Rattle.rpc_units.specs.Stream.{cut_stream, stream_of}
use Rattle.rpc_units.proofs.stream.take_pieces.Given as goal

abbrev pub invariant-loop-piece : goal.invariant-loop-piece
invariant-loop-piece l = record {
  runs : l.flow.broken ≡ false;
  so_far : cut_stream (stream_of (take l.piece-index l.pieces)) ≡ record { units = l.units; rest = l.flow.held; refused = None };
}
