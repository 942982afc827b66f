use Rattle.std.proofs.Common.{All, arith, subst}
use Rattle.std.proofs.lemmas.List.{take_all}
use Rattle.account_table.specs.TableForms.{HasAccountForm}
use Rattle.account_table.proofs.TableFormLaws.{forms_more}
use Rattle.account_table.proofs.accounts.Accounts.have_forms.Goals as goal

pub loop-place-preserved : goal.loop-place-preserved
loop-place-preserved c =
    forms_more c.args.self.now c.loop-place.place (omega (arith, c.loop-place-test.true, c.len-place-end.ensures.value)) c.loop-place.invariant c.has_form_at.ensures

pub returns : goal.returns
returns c =
    subst (All HasAccountForm) (take_all c.loop-place.place c.args.self.now (omega (arith, c.loop-place-test.false, c.len-place-end.ensures.value))) c.loop-place.invariant
