-- `kept_channels_are_last`.
use Rattle.domain_world.proofs.Apart.AcceptedLaws.{kept_last}
use Rattle.domain_world.proofs.claims.kept_channels_are_last.Goals as goal

-- src/claims.rt:69:1
pub returns : goal.returns
returns c = kept_last
