use Rattle.std.proofs.Common.{All, arith, subst}
use Rattle.std.proofs.lemmas.List.{take_all}
use Rattle.std.proofs.lemmas.List.Elements.{All-more}
use Rattle.account_table.specs.TableForms.{HasTrustForm}
use Rattle.account_table.proofs.having.trusts_have_forms.Goals as goal

pub loop-trust-preserved : goal.loop-trust-preserved
loop-trust-preserved c =
    All-more HasTrustForm c.args.trusts.now c.loop-trust.trust-index c.trust-item.result c.loop-trust-test.true c.loop-trust.invariant (rw (← c.trust-item.is) c.trust_has_form.ensures)

pub returns : goal.returns
returns c =
    subst (All HasTrustForm) (take_all c.loop-trust.trust-index c.args.trusts.now (omega (arith, c.loop-trust-test.false))) c.loop-trust.invariant
