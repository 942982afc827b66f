-- The laws on the form of the text (`proofs/FormLaws`).
use Rattle.secret_change.proofs.FormLaws.{written_is_read, read_has_form, form_is_read, read_is_secrets}
use Rattle.secret_change.proofs.secrets.what_is_written_is_read.Goals as goal

pub returns-clause-again : goal.returns-clause-again
returns-clause-again c = written_is_read

pub returns-clause-form : goal.returns-clause-form
returns-clause-form c text s = (read_has_form text s, form_is_read text s)

pub returns-clause-secrets : goal.returns-clause-secrets
returns-clause-secrets c = read_is_secrets
