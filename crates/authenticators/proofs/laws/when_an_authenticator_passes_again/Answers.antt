use Rattle.authenticators.proofs.ReplayLaws.{replay}
use Rattle.authenticators.proofs.laws.when_an_authenticator_passes_again.Goals as goal

pub returns : goal.returns
returns c = replay
