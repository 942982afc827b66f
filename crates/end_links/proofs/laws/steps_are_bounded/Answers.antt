use Rattle.end_links.proofs.BoundLaws.{steps_bounded}
use Rattle.end_links.proofs.laws.steps_are_bounded.Goals as goal

pub returns : goal.returns
returns g c = steps_bounded
