use Rattle.sam_logon.proofs.CountLaws.{judgement-differs}
use Rattle.sam_logon.proofs.judging.weigh_logon.Goals as goal

pub returns-clause-counts : goal.returns-clause-counts
returns-clause-counts c = judgement-differs _ _ _ _
