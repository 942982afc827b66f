-- A unit is taken exactly where it is what the other end seals (`proofs/CarryLaws`).
use Rattle.std.proofs.Common.{rules}
use Rattle.netlogon_seal.proofs.CarryLaws.{accepts_by}
use Rattle.netlogon_seal.proofs.channel.NlSeal.open.Goals as goal

pub returns-in_err-open_front-clause-accepts : goal.returns-in_err-open_front-clause-accepts
returns-in_err-open_front-clause-accepts c =
    accepts_by c.args.self.now c.args.unit.now c.args.from c.args.to _ c.requires.range c.requires.within (search rules)

pub returns-clause-accepts : goal.returns-clause-accepts
returns-clause-accepts c =
    accepts_by c.args.self.now c.args.unit.now c.args.from c.args.to _ c.requires.range c.requires.within (search rules)
