use Rattle.std.proofs.Common.{◌≡◌}
use Rattle.std.specs.Vec.Iter.{into_iter_items}
use Rattle.end_links.specs.Bounds.{AreShortSends}
use Rattle.world_moves.specs.Acting.{perform_all_quietly}
use Rattle.world_moves.specs.Bounds.{DrawsWithin}
use Rattle.world_moves.proofs.state.State.perform_all_quietly.Given as goal

-- what the rest comes to from here is what all come to; no send of the rest is longer than it may be; nothing was
-- drawn; and the ends are as they were
abbrev pub invariant-loop-action : goal.invariant-loop-action
invariant-loop-action l =
    (perform_all_quietly l.end (into_iter_items l.action-iterator) l.self ≡ perform_all_quietly l.fn.end l.fn.actions l.fn.self)
    × AreShortSends (into_iter_items l.action-iterator)
    × DrawsWithin 0 l.fn.self l.self
    × (l.self.ends ≡ l.fn.self.ends)
