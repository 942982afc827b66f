use Rattle.std.proofs.Common.{sym, ◌∙◌}
use Rattle.account_table.proofs.ChangeLaws.{routes-left, with_changes-differs}
use Rattle.controller_calls.proofs.standing.route_with.Goals as goal

pub returns : goal.returns
returns c = c.route.ensures ∙ sym (routes-left c.args.table.now _ (with_changes-differs c.args.changes.now c.args.table.now) c.args.domain.now)
