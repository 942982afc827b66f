use Rattle.authenticators.proofs.ReplayLaws.{Passes-made}
use Rattle.authenticators.proofs.laws.an_authenticator_passes_at_its_seed_alone.Goals as goal

pub returns : goal.returns
returns c = Passes-made
