-- The stream goes on.
use Rattle.std.proofs.Common.{◌≡◌, false}
use Rattle.wire_cases.proofs.streams.take_piece.Given as goal

abbrev pub invariant-loop : goal.invariant-loop
invariant-loop l = l.coming.flow.broken ≡ false
