use Rattle.std.proofs.Common.{arith}
use Rattle.sam_logon.proofs.granting.are_bytes.Goals as goal

pub returns : goal.returns
returns c place = omega (arith, c.type_inv.bytes place)
