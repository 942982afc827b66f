use Rattle.outside.proofs.DrawLaws.{draws_add_up as law}
use Rattle.outside.proofs.laws.draws_add_up.Goals as goal

pub returns : goal.returns
returns c = law
