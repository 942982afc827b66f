use Rattle.end_loop.proofs.AskingLaws.{asks_for}
use Rattle.end_loop.proofs.laws.asks_for_its_events.Goals as goal

pub returns : goal.returns
returns g c = asks_for g.E.End.machine
