use Rattle.unit_security.proofs.FragmentLaws.{range_short}
use Rattle.unit_security.proofs.securing.range_of.Goals as goal

pub returns-clause-few : goal.returns-clause-few
returns-clause-few c = range_short c.args.bytes.now c.in_ok-from.from c.in_ok-from.to c.in_ok-from.ensures.unit
