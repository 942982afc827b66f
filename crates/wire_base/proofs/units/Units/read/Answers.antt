use Rattle.std.proofs.Common.{◌≡◌, ◌%◌, length, arith}
use Rattle.wire_base.proofs.UnitLaws.{utf16_of-whole_units}
use Rattle.wire_base.proofs.units.Units.read.Goals as goal

pub returns-clause-found : goal.returns-clause-found
returns-clause-found c =
    let even : length c.args.bytes.now % 2 ≡ 0 = omega arith in
    rw c.in_ok-pairs.ensures (utf16_of-whole_units c.args.bytes.now (λ i. omega (arith, c.type_inv.bytes i)) even)
