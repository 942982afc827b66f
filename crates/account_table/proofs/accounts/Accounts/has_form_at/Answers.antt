use Rattle.std.proofs.Common.{◌≡◌, Some, slice_get, sym}
use Rattle.account_table.proofs.TableFormLaws.{names_at}
use Rattle.account_table.proofs.accounts.Accounts.has_form_at.Goals as goal

pub account_has_form-requires-clause-names : goal.account_has_form-requires-clause-names
account_has_form-requires-clause-names c =
    let found : Some c.in-Some.account.now ≡ slice_get c.args.self.now c.args.place = rw c.in-Some.is at c.get.ensures.value in
    names_at c.args.self.now c.args.place c.in-Some.account.now c.requires (sym found)
