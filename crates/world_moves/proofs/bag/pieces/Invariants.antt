use Rattle.std.proofs.Common.{◌≡◌, ◌++◌}
use Rattle.std.specs.Slice.Iter.{chunks_rest, chunks_size}
use Rattle.world_moves.specs.Bag.{piece_limit, pieces_of}
use Rattle.world_moves.proofs.bag.pieces.Given as goal

-- the pieces so far, and those of what is left
abbrev pub invariant-loop-piece : goal.invariant-loop-piece
invariant-loop-piece l =
    (l.pieces ++ pieces_of (chunks_rest l.piece-iterator) ≡ pieces_of l.fn.bytes) × (chunks_size l.piece-iterator ≡ piece_limit)
