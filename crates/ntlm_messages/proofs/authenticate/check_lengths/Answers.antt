use Rattle.std.proofs.Common.{refl, ◌∙◌}
use Rattle.ntlm_messages.specs.Authenticate.{authenticate_fields}
use Rattle.ntlm_messages.proofs.FieldLaws.{fit_on_ok}
use Rattle.ntlm_messages.proofs.authenticate.check_lengths.Goals as goal

pub returns-clause-value : goal.returns-clause-value
returns-clause-value c = c.check_fields.ensures ∙ rw (c.bytes.ensures, c.bytes-2.ensures, c.bytes-3.ensures, c.bytes-4.ensures, c.bytes-5.ensures, c.bytes-6.ensures) refl

pub returns-clause-fits : goal.returns-clause-fits
returns-clause-fits c = fit_on_ok c.check_fields.result (authenticate_fields c.args.value.now) (c.check_fields.ensures ∙ rw (c.bytes.ensures, c.bytes-2.ensures, c.bytes-3.ensures, c.bytes-4.ensures, c.bytes-5.ensures, c.bytes-6.ensures) refl)
