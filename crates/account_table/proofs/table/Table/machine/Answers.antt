use Rattle.std.proofs.Common.{◌∙◌}
use Rattle.account_table.proofs.IndexLaws.{found-machine_in}
use Rattle.account_table.proofs.table.Table.machine.Goals as goal

pub returns : goal.returns
returns c = c.machine_found.ensures.value ∙ found-machine_in _ _ _ _ c.machine_found.ensures.different
