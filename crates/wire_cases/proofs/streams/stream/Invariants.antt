-- The stream goes on.
use Rattle.std.proofs.Common.{◌≡◌, false}
use Rattle.wire_cases.proofs.streams.stream.Given as goal

abbrev pub invariant-loop-word : goal.invariant-loop-word
invariant-loop-word l = l.flow.broken ≡ false
