use Rattle.std.proofs.Common.{◌≡◌, length, ap, arith, rules}
use Rattle.wire_base.specs.Maps.{put, same_number}
use Rattle.world_moves.specs.Links.{answered}
use Rattle.world_moves.proofs.OpenLaws.{put_more}
use Rattle.world_moves.proofs.state.State.put_answered.Goals as goal

pub returns-clause-few : goal.returns-clause-few
returns-clause-few c =
    let is : c.in_ok-self.field-0 ≡ put same_number c.args.link (answered c.args.there) c.args.self.now.open_links = search rules in
    omega (arith, ap length is, put_more c.args.link (answered c.args.there) c.args.self.now.open_links)
