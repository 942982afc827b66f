use Rattle.std.proofs.Common.{All, arith, subst}
use Rattle.std.proofs.lemmas.List.{take_all}
use Rattle.std.proofs.lemmas.List.Elements.{All-more}
use Rattle.world_moves.specs.Forms.{IsTable}
use Rattle.world_moves.proofs.forms.tables_have_forms.Goals as goal

pub loop-table-preserved : goal.loop-table-preserved
loop-table-preserved c =
    All-more IsTable c.args.tables.now c.loop-table.table-index c.table-item.result c.loop-table-test.true c.loop-table.invariant (rw (← c.table-item.is) c.has_form.ensures)

pub returns : goal.returns
returns c =
    subst (All IsTable) (take_all c.loop-table.table-index c.args.tables.now (omega (arith, c.loop-table-test.false))) c.loop-table.invariant
