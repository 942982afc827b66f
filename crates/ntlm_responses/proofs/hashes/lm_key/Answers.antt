use Rattle.std.proofs.Common.{◌∙◌, arith}
use Rattle.ntlm_responses.proofs.HashLaws.{lm_key_more, lm_key_all}
use Rattle.ntlm_responses.proofs.hashes.lm_key.Goals as goal

pub loop-i-preserved : goal.loop-i-preserved
loop-i-preserved c =
    let more = lm_key_more c.args.password.now c.loop-i.i (omega arith) (omega arith) in
    rw (c.loop-i.invariant, c.upper_byte.ensures) more

pub returns : goal.returns
returns c = c.loop-i.invariant ∙ lm_key_all c.args.password.now c.loop-i.i (omega arith) (omega arith) (grind arith)
