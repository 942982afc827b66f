use Rattle.std.proofs.Common.{arith}
use Rattle.digest_parts.proofs.Majority.{g_of_as_sum, g_of_below}
use Rattle.digest_parts.proofs.md4_block.g.Goals as goal

pub overflow_add-result : goal.overflow_add-result
overflow_add-result c =
    let below = g_of_below 32 c.args.x c.args.y c.args.z (omega arith) (omega arith) in
    omega (arith, g_of_as_sum c.args.x c.args.y c.args.z)

pub returns : goal.returns
returns c = g_of_as_sum c.args.x c.args.y c.args.z
