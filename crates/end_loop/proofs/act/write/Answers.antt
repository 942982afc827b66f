use Rattle.std.proofs.Common.{true, false}
use Rattle.end_loop.proofs.WritingLaws.{one_write}
use Rattle.end_loop.proofs.act.write.Goals as goal

pub returns-in-Ok-clause-writes : goal.returns-in-Ok-clause-writes
returns-in-Ok-clause-writes g c = one_write _ _ false _ _ c.in-Ok.ensures.contents c.in-Ok.ensures.reads c.in-Ok.ensures.told

pub returns-in-Err-clause-writes : goal.returns-in-Err-clause-writes
returns-in-Err-clause-writes g c = one_write _ _ true _ _ c.in-Err.ensures.contents c.in-Err.ensures.reads c.in-Err.ensures.told
