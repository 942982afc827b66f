use Rattle.end_loop.proofs.KeepingLaws.{keeps_texts}
use Rattle.end_loop.proofs.laws.writes_what_the_end_keeps.Goals as goal

pub returns : goal.returns
returns g c = keeps_texts g.E.End.machine
