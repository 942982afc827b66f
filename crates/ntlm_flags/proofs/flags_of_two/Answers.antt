use Rattle.ntlm_flags.proofs.FlagLaws.{has_flag-and, has_flag-challenge}
use Rattle.ntlm_flags.proofs.flags_of_two.Goals as goal

pub returns-clause-agreed : goal.returns-clause-agreed
returns-clause-agreed c = has_flag-and

pub returns-clause-challenge : goal.returns-clause-challenge
returns-clause-challenge c = has_flag-challenge
