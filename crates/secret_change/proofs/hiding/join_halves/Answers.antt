-- Two halves of 8 bytes are a whole of 16.
use Rattle.std.proofs.Common.{rules}
use Rattle.secret_change.proofs.HideLaws.{joined_is}
use Rattle.secret_change.proofs.hiding.join_halves.Goals as goal

pub returns : goal.returns
returns c = joined_is _ _ c.args.first c.args.second c.copy_from_slice.ensures.after c.copy_from_slice-2.ensures.after (search rules) (search rules)
