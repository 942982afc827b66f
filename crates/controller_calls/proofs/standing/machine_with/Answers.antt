use Rattle.std.proofs.Common.{sym, ◌∙◌}
use Rattle.account_table.proofs.ChangeLaws.{machines-left, with_changes-differs}
use Rattle.controller_calls.proofs.standing.machine_with.Goals as goal

pub returns : goal.returns
returns c = c.machine.ensures ∙ sym (machines-left c.args.table.now _ (with_changes-differs c.args.changes.now c.args.table.now) c.args.account.now c.args.kind c.args.computer.now)
