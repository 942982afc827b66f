use Rattle.ntlm_messages.specs.Authenticate.{authenticate_fields, written_authenticate}
use Rattle.ntlm_messages.proofs.FieldLaws.{too_long_from, written_from}
use Rattle.ntlm_messages.proofs.authenticate.write_authenticate.Goals as goal

pub returns-clause-too_long : goal.returns-clause-too_long
returns-clause-too_long c = too_long_from c.authenticate_form.result (authenticate_fields c.args.value.now) (written_authenticate c.args.value.now) c.authenticate_form.ensures.exact c.authenticate_form.ensures.refusals

pub returns-clause-fits : goal.returns-clause-fits
returns-clause-fits c = written_from c.authenticate_form.result (authenticate_fields c.args.value.now) (written_authenticate c.args.value.now) c.authenticate_form.ensures.exact
