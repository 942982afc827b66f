use Rattle.ntlm_messages.specs.Negotiate.{negotiate_fields, written_negotiate}
use Rattle.ntlm_messages.proofs.FieldLaws.{too_long_from, written_from}
use Rattle.ntlm_messages.proofs.negotiate.write_negotiate.Goals as goal

pub returns-clause-too_long : goal.returns-clause-too_long
returns-clause-too_long c = too_long_from c.negotiate_form.result (negotiate_fields c.args.value.now) (written_negotiate c.args.value.now) c.negotiate_form.ensures.exact c.negotiate_form.ensures.refusals

pub returns-clause-fits : goal.returns-clause-fits
returns-clause-fits c = written_from c.negotiate_form.result (negotiate_fields c.args.value.now) (written_negotiate c.args.value.now) c.negotiate_form.ensures.exact
