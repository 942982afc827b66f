use Rattle.end_loop.proofs.FaultLaws.{runs_count_faults}
use Rattle.end_loop.proofs.laws.counts_its_link_faults.Goals as goal

pub returns : goal.returns
returns g c = runs_count_faults g.E.End.machine
