use Rattle.channel_keys.proofs.CredLaws.{IsBlock-cred_of, IsBlock-cred_back_of, cred_back_of-cred_of, cred_of-cred_back_of, cred_of-one_to_one}
use Rattle.channel_keys.proofs.laws.credentials_are_one_to_one.Goals as goal

pub returns-clause-block : goal.returns-clause-block
returns-clause-block c = IsBlock-cred_of

pub returns-clause-back_block : goal.returns-clause-back_block
returns-clause-back_block c = IsBlock-cred_back_of

pub returns-clause-undone : goal.returns-clause-undone
returns-clause-undone c = cred_back_of-cred_of

pub returns-clause-conversely : goal.returns-clause-conversely
returns-clause-conversely c = cred_of-cred_back_of

pub returns-clause-one_to_one : goal.returns-clause-one_to_one
returns-clause-one_to_one c = cred_of-one_to_one
