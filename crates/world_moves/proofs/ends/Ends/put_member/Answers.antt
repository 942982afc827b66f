use Rattle.std.proofs.Common.{◌≡◌, rules}
use Rattle.world_moves.proofs.EndLaws.{member_put}
use Rattle.world_moves.proofs.ends.Ends.put_member.Goals as goal

pub invariant_of-self : goal.invariant_of-self
invariant_of-self c =
    let placed : c.replace.new.dest ≡ c.args.member = search rules in
    member_put c.self.inside.gave_up c.self.inside.controllers.items c.self.inside.members.items c.self.inside.clients.items c.self.inside.stations.items c.args.at c.args.member c.replace.new.dest placed
    c.requires c.self.invariant
