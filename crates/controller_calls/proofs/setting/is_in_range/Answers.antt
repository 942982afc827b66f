use Rattle.std.proofs.Common.{arith}
use Rattle.controller_calls.proofs.setting.is_in_range.Goals as goal

pub returns : goal.returns
returns c = record {
  returned = record { credential = (c.told-credential, c.are_bytes.ensures); timestamp = omega arith };
  status = c.is_long.ensures;
}
