use Rattle.nt_top.proofs.PlainRunLaws.{runs_stay_plain}
use Rattle.nt_top.proofs.laws.runs_that_nobody_seals_stay_plain.Goals as goal

pub returns : goal.returns
returns c = runs_stay_plain
