use Rattle.std.proofs.Common.{refl}
use Rattle.des_cipher.specs.Words.{exchanged}
use Rattle.des_cipher.proofs.exchanges.exchange.Goals as goal

pub returns : goal.returns
unfolding exchanged
returns c = refl
