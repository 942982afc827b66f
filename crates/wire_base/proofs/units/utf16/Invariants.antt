-- The bytes so far are those of the units so far.
use Rattle.std.proofs.Common.{◌≡◌, take}
use Rattle.wire_base.specs.Units.{utf16_of}
use Rattle.wire_base.proofs.units.utf16.Given as goal

abbrev pub invariant-loop-unit : goal.invariant-loop-unit
invariant-loop-unit l = l.bytes.items ≡ utf16_of (take l.unit-index l.units)
