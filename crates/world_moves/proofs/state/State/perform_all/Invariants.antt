use Rattle.std.proofs.Common.{◌≡◌}
use Rattle.std.specs.Vec.Iter.{into_iter_items}
use Rattle.end_links.specs.Bounds.{AreShortSends}
use Rattle.world_moves.specs.Acting.{perform_all}
use Rattle.world_moves.specs.Bounds.{DrawsWithin}
use Rattle.world_moves.specs.Outcomes.{KeepsOutcomes}
use Rattle.world_moves.proofs.state.State.perform_all.Given as goal

-- what the rest comes to from here is what all come to; no send of the rest is longer than it may be; no more were
-- drawn than links were closed; and clients keep their outcomes
abbrev pub invariant-loop-action : goal.invariant-loop-action
invariant-loop-action l =
    ((perform_all l.end (into_iter_items l.action-iterator) l.self).state ≡ (perform_all l.fn.end l.fn.actions l.fn.self).state)
    × AreShortSends (into_iter_items l.action-iterator)
    × DrawsWithin 0 l.fn.self l.self
    × KeepsOutcomes l.fn.self l.self
