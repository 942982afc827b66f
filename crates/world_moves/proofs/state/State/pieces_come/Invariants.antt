use Rattle.std.proofs.Common.{◌≡◌, ◌≤◌, ◌+◌, ◌*◌, length}
use Rattle.std.specs.Vec.Iter.{into_iter_items}
use Rattle.world_moves.specs.Acting.{pieces_come}
use Rattle.world_moves.specs.Bag.{AreShortPieces}
use Rattle.world_moves.specs.Outcomes.{KeepsOutcomes}
use Rattle.world_moves.proofs.state.State.pieces_come.Given as goal
use Rattle.world_moves.specs.Bounds.{piece_draws}

-- what the rest comes to from here is what all come to; no piece of the rest is longer than it may be; so many
-- challenges may be drawn for each of the rest; and clients keep their outcomes
abbrev pub invariant-loop-piece : goal.invariant-loop-piece
invariant-loop-piece l =
    ((pieces_come l.back l.link (into_iter_items l.piece-iterator) l.self).state ≡ (pieces_come l.fn.back l.fn.link l.fn.pieces l.fn.self).state)
    × AreShortPieces (into_iter_items l.piece-iterator)
    × (length l.fn.self.chances.left + 3 * length l.self.open_links + piece_draws * length (into_iter_items l.piece-iterator)
    ≤ length l.self.chances.left + 3 * length l.fn.self.open_links + piece_draws * length l.fn.pieces)
    × KeepsOutcomes l.fn.self l.self
