use Rattle.nt_top.proofs.UnsealedLaws.{steps_stay_plain}
use Rattle.nt_top.proofs.laws.what_nobody_seals_stays_plain.Goals as goal

pub returns : goal.returns
returns c = steps_stay_plain
