-- The units so far and those of the rest are the units of all bytes.
use Rattle.std.proofs.Common.{◌≡◌, ◌++◌, length}
use Rattle.wire_base.specs.Units.{whole_units}
use Rattle.wire_base.proofs.units.pairs.Given as goal

abbrev pub invariant-loop-rest : goal.invariant-loop-rest
invariant-loop-rest l = l.units.items ++ whole_units l.rest ≡ whole_units l.bytes

abbrev pub decreases-loop-rest : goal.decreases-loop-rest
decreases-loop-rest l = length l.rest
