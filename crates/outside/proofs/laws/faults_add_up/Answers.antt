use Rattle.outside.proofs.CauseLaws.{rises_add_up as law}
use Rattle.outside.proofs.laws.faults_add_up.Goals as goal

pub returns : goal.returns
returns c = law
