use Rattle.account_table.proofs.TableFormLaws.{kept_settings}
use Rattle.account_table.proofs.table.Table.apply.Goals as goal

pub invariant_of-self : goal.invariant_of-self
invariant_of-self c =
    (c.self.invariant.0, kept_settings _ _ _ _ c.items.result.now c.set_hashes.ensures c.self.invariant.1)
