use Rattle.std.proofs.Common.{All, ap, arith, length, subst}
use Rattle.std.proofs.lemmas.List.{take_all}
use Rattle.std.proofs.lemmas.List.Elements.{All-more}
use Rattle.world_moves.specs.Forms.{HasMoveForm}
use Rattle.world_moves.proofs.moves.moves_have_forms.Goals as goal

pub loop-what-preserved : goal.loop-what-preserved
loop-what-preserved c =
    rw (← c.items-what-items.ensures)
    (All-more HasMoveForm c.items-what-items.result.now c.loop-what.what-index c.what-item.result c.loop-what-test.true (rw c.items-what-items.ensures c.loop-what.invariant) (rw (← c.what-item.is) c.has_form.ensures))

pub returns : goal.returns
returns c =
    subst (All HasMoveForm) (take_all c.loop-what.what-index c.args.moves.now (omega (arith, c.loop-what-test.false, ap length c.items-what-items.ensures))) c.loop-what.invariant
