use Rattle.end_loop.proofs.DoingLaws.{dials_and_closes}
use Rattle.end_loop.proofs.laws.dials_and_closes_as_the_machine_asks.Goals as goal

pub returns : goal.returns
returns g c = dials_and_closes g.E.End.machine
