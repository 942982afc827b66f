-- The rests are the same name where the texts are.
use Rattle.std.proofs.Common.{◌≡◌, drop}
use Rattle.wire_base.specs.Names.{same_name}
use Rattle.wire_base.proofs.names.same_units.Given as goal

abbrev pub invariant-loop-i : goal.invariant-loop-i
invariant-loop-i l = same_name (drop l.i l.one) (drop l.i l.other) ≡ same_name l.one l.other
