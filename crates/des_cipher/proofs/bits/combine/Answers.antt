use Rattle.std.proofs.Common.{arith, ◌∙◌, sym}
use Rattle.des_cipher.proofs.BitLemmas.{combined_step, combined_end}
use Rattle.des_cipher.proofs.bits.combine.Goals as goal

pub loop-i-preserved : goal.loop-i-preserved
loop-i-preserved c =
    combined_step c.loop-i.bits c.args.others.now c.loop-i.i (omega arith) (omega arith) ∙ c.loop-i.invariant

pub returns : goal.returns
returns c =
    sym (combined_end c.loop-i.bits c.args.others.now c.loop-i.i (omega arith)) ∙ c.loop-i.invariant
