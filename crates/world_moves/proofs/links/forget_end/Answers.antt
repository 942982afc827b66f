use Rattle.std.proofs.Common.{◌≡◌, length, ap, arith}
use Rattle.std.proofs.lemmas.Grind.{common_steps}
use Rattle.world_moves.specs.Links.{forget_end}
use Rattle.world_moves.proofs.OpenLaws.{forgotten_fewer}
use Rattle.world_moves.proofs.links.forget_end.Goals as goal

pub returns-clause-fewer : goal.returns-clause-fewer
returns-clause-fewer c =
    let value : c.loop-number.rest ≡ forget_end c.args.end c.args.links.now = grind (arith, common_steps) in
    omega (arith, ap length value, forgotten_fewer c.args.end c.args.links.now)
