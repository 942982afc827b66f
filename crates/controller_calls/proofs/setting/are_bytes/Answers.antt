use Rattle.std.proofs.Common.{arith}
use Rattle.controller_calls.proofs.setting.are_bytes.Goals as goal

pub returns : goal.returns
returns c place = omega (arith, c.type_inv.bytes place)
