use Rattle.logon_client.proofs.LossLaws.{losses_come_of_events}
use Rattle.logon_client.proofs.laws.a_loss_comes_of_its_event.Goals as goal

pub returns : goal.returns
returns c = losses_come_of_events
