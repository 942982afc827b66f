use Rattle.domain_world.proofs.HeadlineLaws.{all_proved}
use Rattle.domain_world.proofs.claims.claims_hold_of_runs.Goals as goal

pub returns : goal.returns
returns c = all_proved
