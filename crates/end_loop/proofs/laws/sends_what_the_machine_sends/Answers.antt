use Rattle.end_loop.proofs.SendingLaws.{sends_front_of}
use Rattle.end_loop.proofs.laws.sends_what_the_machine_sends.Goals as goal

pub returns : goal.returns
returns g c = sends_front_of g.E.End.machine
