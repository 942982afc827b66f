use Rattle.account_table.proofs.TableFormLaws.{kept_count}
use Rattle.account_table.proofs.table.Table.set_bad_count.Goals as goal

pub invariant_of-self : goal.invariant_of-self
invariant_of-self c =
    (c.self.invariant.0, kept_count _ _ _ _ _ _ c.set_bad_count.ensures c.self.invariant.1)
