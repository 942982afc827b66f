use Rattle.std.proofs.Common.{◌≡◌, ◌++◌, take}
use Rattle.wire_base.specs.Names.{printable_text}
use Rattle.wire_base.proofs.printing.put_printable.Given as goal

abbrev pub invariant-loop-unit : goal.invariant-loop-unit
invariant-loop-unit l = l.line.items ≡ l.initial.line.items ++ printable_text (take l.unit-index l.units)
