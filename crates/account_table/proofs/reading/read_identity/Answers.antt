use Rattle.account_table.proofs.DocumentLaws.{few_groups}
use Rattle.account_table.proofs.reading.read_identity.Goals as goal

pub returns-clause-groups : goal.returns-clause-groups
returns-clause-groups c = few_groups _ _ _ c.in_ok-rids_or_users.ensures
