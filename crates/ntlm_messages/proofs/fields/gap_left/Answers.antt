use Rattle.std.proofs.Common.{◌∙◌, arith}
use Rattle.ntlm_messages.proofs.WrittenLaws.{gap_in, gap_narrowed}
use Rattle.ntlm_messages.proofs.fields.gap_left.Goals as goal

pub returns-clause-value : goal.returns-clause-value
returns-clause-value c = c.requires ∙ gap_narrowed c.args.places.now c.args.bytes.now

pub returns-clause-within : goal.returns-clause-within
returns-clause-within c = omega (arith, c.requires, gap_narrowed c.args.places.now c.args.bytes.now, gap_in c.args.places.now c.args.bytes.now)
