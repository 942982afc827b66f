use Rattle.world_moves.proofs.DrawBlockLaws.{next_blocks}
use Rattle.world_moves.proofs.maker.MakerChances.next.Goals as goal

pub invariant_of-self : goal.invariant_of-self
invariant_of-self c =
    let both = next_blocks c.next.result c.self.inside.chances c.next.new.self c.next.ensures.drawn c.next.ensures.unchanged (c.self.invariant.1, c.self.invariant.2) in
    (c.next.ensures.distinct, both.0, both.1)
