use Rattle.ntlm_responses.proofs.ResponseLaws.{pair_v1, pair_ess, pair_v2, message_names}
use Rattle.ntlm_responses.proofs.verification.what_is_written_verifies.Goals as goal

pub returns-clause-v1 : goal.returns-clause-v1
returns-clause-v1 c = pair_v1

pub returns-clause-ess : goal.returns-clause-ess
returns-clause-ess c = pair_ess

pub returns-clause-v2 : goal.returns-clause-v2
returns-clause-v2 c = pair_v2

pub returns-clause-names : goal.returns-clause-names
returns-clause-names c = message_names
