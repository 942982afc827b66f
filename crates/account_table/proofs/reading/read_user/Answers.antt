use Rattle.account_table.proofs.DocumentLaws.{few_sids}
use Rattle.account_table.proofs.reading.read_user.Goals as goal

pub returns-clause-sids : goal.returns-clause-sids
returns-clause-sids c = few_sids _ _ _ c.in_ok-extra_sids.ensures
