-- Each clause is a law of `proofs/KeptLaws`.
use Rattle.account_table.proofs.KeptLaws.{none_set, secrets_kept}
use Rattle.account_table.proofs.laws.what_secrets_keep.Goals as goal

pub returns-clause-unset : goal.returns-clause-unset
returns-clause-unset c = none_set

pub returns-clause-again : goal.returns-clause-again
returns-clause-again c = secrets_kept
