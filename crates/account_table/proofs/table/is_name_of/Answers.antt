use Rattle.std.proofs.Common.{sym, ◌∙◌, ap, length}
use Rattle.account_table.proofs.IndexLaws.{machine_name-lengths}
use Rattle.account_table.proofs.table.is_name_of.Goals as goal

pub returns-then-bytes-computer : goal.returns-then-bytes-computer
returns-then-bytes-computer c = sym (machine_name-lengths c.args.name.now c.args.computer.now (λ e. absurd (c.if-bytes-computer.true (ap length c.bytes.ensures.value ∙ e))))
