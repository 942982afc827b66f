use Rattle.account_table.proofs.TableFormLaws.{kept_hash}
use Rattle.account_table.proofs.table.Table.make_hash.Goals as goal

pub invariant_of-self : goal.invariant_of-self
invariant_of-self c =
    (c.self.invariant.0, kept_hash _ _ _ _ _ _ c.set_hash.ensures c.self.invariant.1)
