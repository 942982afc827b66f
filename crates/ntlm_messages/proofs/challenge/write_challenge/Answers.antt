use Rattle.ntlm_messages.specs.Challenge.{challenge_fields, written_challenge}
use Rattle.ntlm_messages.proofs.FieldLaws.{too_long_from, written_from}
use Rattle.ntlm_messages.proofs.challenge.write_challenge.Goals as goal

pub returns-clause-too_long : goal.returns-clause-too_long
returns-clause-too_long c = too_long_from c.challenge_form.result (challenge_fields c.args.value.now) (written_challenge c.args.value.now) c.challenge_form.ensures.exact c.challenge_form.ensures.refusals

pub returns-clause-fits : goal.returns-clause-fits
returns-clause-fits c = written_from c.challenge_form.result (challenge_fields c.args.value.now) (written_challenge c.args.value.now) c.challenge_form.ensures.exact
