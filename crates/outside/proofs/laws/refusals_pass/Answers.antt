use Rattle.outside.proofs.MachineLaws.{refusals_pass as law}
use Rattle.outside.proofs.laws.refusals_pass.Goals as goal

pub returns : goal.returns
returns g c = law
