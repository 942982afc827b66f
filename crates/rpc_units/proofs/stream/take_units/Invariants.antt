-- The units that were taken, and those that are held or still to come, are all.
use Rattle.std.proofs.Common.{◌≡◌, ◌++◌, false, length}
use Rattle.rpc_units.specs.Stream.{cut_stream}
use Rattle.rpc_units.proofs.stream.take_units.Given as goal

abbrev pub invariant-units : goal.invariant-units
invariant-units l = record {
  runs : l.coming.flow.broken ≡ false;
  so_far : l.units ++ (cut_stream (l.coming.flow.held ++ l.coming.left)).units ≡ l.fn.others ++ (cut_stream (l.fn.flow.held ++ l.fn.piece)).units;
  rest : (cut_stream (l.coming.flow.held ++ l.coming.left)).rest ≡ (cut_stream (l.fn.flow.held ++ l.fn.piece)).rest;
  refused : (cut_stream (l.coming.flow.held ++ l.coming.left)).refused ≡ (cut_stream (l.fn.flow.held ++ l.fn.piece)).refused;
}

abbrev pub decreases-units : goal.decreases-units
decreases-units l = length (cut_stream (l.coming.flow.held ++ l.coming.left)).units
