use Rattle.std.proofs.Common.{◌≡◌, length}
use Rattle.std.specs.Prelude.{map}
use Rattle.ntlm_messages.specs.Fields.{lengths_of}
use Rattle.ntlm_messages.proofs.fields.check_fields.Given as goal

abbrev pub invariant-loop-rest : goal.invariant-loop-rest
invariant-loop-rest l = lengths_of (map (λ field. (field.0, field.1.now)) l.rest) ≡ lengths_of (map (λ field. (field.0, field.1.now)) l.fields)

abbrev pub decreases-loop-rest : goal.decreases-loop-rest
decreases-loop-rest l = length l.rest
