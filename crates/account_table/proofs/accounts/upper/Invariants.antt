-- The units so far in upper case.
use Rattle.std.proofs.Common.{◌≡◌, take}
use Rattle.wire_base.specs.Names.{upper_case}
use Rattle.account_table.proofs.accounts.upper.Given as goal

abbrev pub invariant-loop-unit : goal.invariant-loop-unit
invariant-loop-unit l = l.upper.items ≡ upper_case (take l.unit-index l.units)
