use Rattle.nt_words.proofs.FormLaws.{secrets, seeds}
use Rattle.nt_words.proofs.laws.what_files_hold.Goals as goal

pub returns-clause-seeds : goal.returns-clause-seeds
returns-clause-seeds c = seeds

pub returns-clause-secrets : goal.returns-clause-secrets
returns-clause-secrets c = secrets
