use Rattle.std.specs.Prelude.{replicate}
use Rattle.outside.specs.Counter.{most_draws}
use Rattle.outside.proofs.CounterLaws.{blocks-challenges_from}
use Rattle.outside.proofs.counter_chances.CounterChances.new.Goals as goal

pub returns-clause-blocks : goal.returns-clause-blocks
returns-clause-blocks c = blocks-challenges_from (replicate 32 0) 0 0 most_draws
