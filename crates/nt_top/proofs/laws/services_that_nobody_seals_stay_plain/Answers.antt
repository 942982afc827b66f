use Rattle.nt_top.proofs.PlainServiceLaws.{services_stay_plain}
use Rattle.nt_top.proofs.laws.services_that_nobody_seals_stay_plain.Goals as goal

pub returns : goal.returns
returns c = services_stay_plain
