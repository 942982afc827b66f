use Rattle.domain_world.proofs.Unforwarded.CarryLaws.{carries_over}
use Rattle.domain_world.proofs.claims.what_is_proved_alone_is_carried_over.Goals as goal

pub returns : goal.returns
returns c = carries_over
