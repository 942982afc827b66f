use Rattle.std.proofs.Common.{arith, append-nil}
use Rattle.std.proofs.lemmas.List.{append_assoc}
use Rattle.wire_base.proofs.UnitLaws.{utf16_of-nil}
use Rattle.ntlm_responses.proofs.HashLaws.{utf16_of_upper_more}
use Rattle.ntlm_responses.proofs.hashes.update_upper_case.Goals as goal

pub loop-unit-init : goal.loop-unit-init
loop-unit-init c = λ key message stands. rw (utf16_of-nil, append-nil) stands

pub loop-unit-preserved : goal.loop-unit-preserved
loop-unit-preserved c = λ key message stands.
    let step = c.update.ensures key _ (c.loop-unit.invariant key message stands) in
    rw (utf16_of_upper_more c.args.text.now c.loop-unit.unit-index (omega arith), ← c.upper_unit.ensures, ← c.to_le_bytes.ensures, ← append_assoc message) step
