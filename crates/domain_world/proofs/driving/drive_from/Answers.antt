use Rattle.std.proofs.Common.{[]}
use Rattle.domain_world.proofs.driving.drive_from.Goals as goal

pub returns-in-Ok-clause-proved : goal.returns-in-Ok-clause-proved
returns-in-Ok-clause-proved c = c.in-Ok.ensures.proved c.args.plan [] c.in_ok-world.ensures
