use Rattle.ntlm_responses.proofs.ResponseLaws.{response_v1_of-one_to_one}
use Rattle.ntlm_responses.proofs.responses.one_response_answers_one_challenge.Goals as goal

pub returns : goal.returns
returns c = response_v1_of-one_to_one
