use Rattle.std.proofs.Common.{sym, ◌∙◌}
use Rattle.account_table.proofs.ChangeLaws.{places-left, with_changes-differs}
use Rattle.sam_logon.proofs.judging.find_with.Goals as goal

pub returns-clause-value : goal.returns-clause-value
returns-clause-value c = c.find.ensures.value ∙ sym (places-left c.args.table.now _ (with_changes-differs c.args.changes.now c.args.table.now) c.args.user.now)
