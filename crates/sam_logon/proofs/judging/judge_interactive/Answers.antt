use Rattle.sam_logon.proofs.CountLaws.{interactive_judgement-differs}
use Rattle.sam_logon.proofs.judging.judge_interactive.Goals as goal

pub returns-clause-counts : goal.returns-clause-counts
returns-clause-counts c = interactive_judgement-differs _ _ _ _ _ _ _

pub returns-in-Err-clause-counts : goal.returns-in-Err-clause-counts
returns-in-Err-clause-counts c = interactive_judgement-differs _ _ _ _ _ _ _
