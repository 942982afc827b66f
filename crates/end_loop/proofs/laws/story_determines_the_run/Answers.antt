use Rattle.end_loop.proofs.UniqueLaws.{determined}
use Rattle.end_loop.proofs.laws.story_determines_the_run.Goals as goal

pub returns : goal.returns
returns g c = determined g.E.End.machine
