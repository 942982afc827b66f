use Rattle.outside.specs.Counter.{most_draws}
use Rattle.outside.proofs.CounterLaws.{challenges_from-none, blocks-challenges_from}
use Rattle.outside.proofs.counter_chances.CounterChancesChances.start.Goals as goal

pub returns-clause-drawn : goal.returns-clause-drawn
returns-clause-drawn c = challenges_from-none c.args.seed c.args.boot 0

pub returns-clause-blocks : goal.returns-clause-blocks
returns-clause-blocks c = blocks-challenges_from c.args.seed c.args.boot 0 most_draws
