use Rattle.std.proofs.Common.{◌≡◌, ◌++◌, Option, None, get_or, sym, ap, subst, ◌∙◌}
use Rattle.std.proofs.lemmas.List.{get_or_default}
use Rattle.rpc_units.specs.declared.refused.UnitRefused.{UnitRefused}
use Rattle.rpc_units.specs.Stream.{Flow, cut_stream, Takes}
use Rattle.rpc_units.proofs.PieceLaws.{none_yet, piece_more, piece_refused}
use Rattle.rpc_units.proofs.stream.take_pieces.Goals as goal

pub loop-piece-init : goal.loop-piece-init
loop-piece-init c = record {
  runs = ap Flow.broken c.in_ok-flow.ensures;
  so_far = none_yet ∙ (λ i. record { units = sym c.new-units.ensures i; rest = sym (ap Flow.held c.in_ok-flow.ensures) i; refused = None });
}

pub returns-in-Some : goal.returns-in-Some
returns-in-Some c =
    let pieces = c.args.pieces.now in
    let piece : c.bytes.result.now ≡ get_or pieces c.loop-piece.piece-index c.bytes.result.now = c.bytes.ensures ∙ c.piece-item.is ∙ get_or_default pieces c.loop-piece.piece-index c.piece-item.result c.bytes.result.now c.loop-piece-test.true in
    piece_refused pieces c.loop-piece.piece-index c.bytes.result.now c.loop-piece.flow c.in_ok-still.still c.loop-piece.units c.in_ok-still.more c.in-Some.why c.loop-piece-test.true piece c.loop-piece.invariant.so_far (subst (λ (r : Option UnitRefused). Takes c.in_ok-still.still c.in_ok-still.more r c.loop-piece.units (cut_stream (c.loop-piece.flow.held ++ c.bytes.result.now))) c.in-Some.is c.in_ok-still.ensures)

pub loop-piece-preserved : goal.loop-piece-preserved
loop-piece-preserved c =
    let pieces = c.args.pieces.now in
    let piece : c.bytes.result.now ≡ get_or pieces c.loop-piece.piece-index c.bytes.result.now = c.bytes.ensures ∙ c.piece-item.is ∙ get_or_default pieces c.loop-piece.piece-index c.piece-item.result c.bytes.result.now c.loop-piece-test.true in
    let next = piece_more pieces c.loop-piece.piece-index c.bytes.result.now c.loop-piece.flow c.in_ok-still.still c.loop-piece.units c.in_ok-still.more c.loop-piece-test.true piece c.loop-piece.invariant.so_far (subst (λ (r : Option UnitRefused). Takes c.in_ok-still.still c.in_ok-still.more r c.loop-piece.units (cut_stream (c.loop-piece.flow.held ++ c.bytes.result.now))) c.in-None.is c.in_ok-still.ensures) in
    record { runs = next.1; so_far = next.0 }
