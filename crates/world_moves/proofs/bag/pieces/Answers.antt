use Rattle.std.proofs.Common.{◌≡◌, ◌++◌, ◌∷◌, [], ◌∙◌, length, ap, sym, subst, arith, rules}
use Rattle.std.specs.Slice.Iter.{chunks_rest}
use Rattle.world_moves.specs.Bag.{AreShortPieces, pieces_of}
use Rattle.world_moves.proofs.BagLaws.{chunk_off, pieces_end, pieces_few, pieces_short}
use Rattle.world_moves.proofs.bag.pieces.Goals as goal

pub loop-piece-preserved : goal.loop-piece-preserved
loop-piece-preserved c =
    let pushed : c.push.new.self ≡ c.loop-piece.pieces ++ c.in-Some.piece.now ∷ [] = search rules in (
      ap (λ pieces. pieces ++ pieces_of (chunks_rest c.next.new.self)) pushed
          ∙ chunk_off c.loop-piece.pieces _ c.in-Some.piece.now (chunks_rest c.next.new.self) _ _ c.loop-piece.invariant.0 c.loop-piece.invariant.1 c.in-Some.ensures.steps.1,
      c.in-Some.ensures.steps.0 ∙ c.loop-piece.invariant.1,
    )

pub returns-clause-value : goal.returns-clause-value
returns-clause-value c = pieces_end c.loop-piece.pieces _ _ c.loop-piece.invariant.0 c.in-None.ensures.steps.1.0

pub returns-clause-short : goal.returns-clause-short
returns-clause-short c = subst AreShortPieces (sym (returns-clause-value c)) (pieces_short c.args.bytes.now)

pub returns-clause-few : goal.returns-clause-few
returns-clause-few c = omega (arith, ap length (returns-clause-value c), pieces_few c.args.bytes.now c.requires)
