use Rattle.std.proofs.Common.{All, arith, subst}
use Rattle.std.proofs.lemmas.List.{take_all}
use Rattle.std.proofs.lemmas.List.Elements.{All-more}
use Rattle.wire_base.specs.Names.{IsName}
use Rattle.account_table.proofs.having.names_have_forms.Goals as goal

pub loop-name-preserved : goal.loop-name-preserved
loop-name-preserved c =
    All-more IsName c.args.names.now c.loop-name.name-index c.name-item.result c.loop-name-test.true c.loop-name.invariant (rw (← c.name-item.is) c.bytes-bytes.ensures.form)

pub returns : goal.returns
returns c =
    subst (All IsName) (take_all c.loop-name.name-index c.args.names.now (omega (arith, c.loop-name-test.false))) c.loop-name.invariant
