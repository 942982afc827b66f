use Rattle.std.proofs.Common.{◌≡◌, length, ap, arith, rules}
use Rattle.wire_base.specs.Maps.{take_out, same_number}
use Rattle.world_moves.proofs.OpenLaws.{taken_fewer, taken_one}
use Rattle.world_moves.proofs.state.State.shut_link.Goals as goal

pub returns-clause-fewer : goal.returns-clause-fewer
returns-clause-fewer c =
    let is : c.take_number-rest.result.0 ≡ take_out same_number c.args.link c.args.self.now.open_links = search rules in
    omega (arith, ap length is, taken_fewer c.args.link c.args.self.now.open_links)

pub returns-clause-one : goal.returns-clause-one
returns-clause-one c =
    let is : c.take_number-rest.result.0 ≡ take_out same_number c.args.link c.args.self.now.open_links = search rules in
    λ there. omega (arith, ap length is, taken_one c.args.link c.args.self.now.open_links there)
