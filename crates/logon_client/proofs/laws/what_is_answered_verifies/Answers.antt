use Rattle.logon_client.proofs.AnswerLaws.{offers_agreed, draws_keys, answers_verify, keys_found}
use Rattle.logon_client.proofs.FittingLaws.{answers_fit}
use Rattle.logon_client.proofs.laws.what_is_answered_verifies.Goals as goal

pub returns-clause-agreed : goal.returns-clause-agreed
returns-clause-agreed c = offers_agreed

pub returns-clause-drawn : goal.returns-clause-drawn
returns-clause-drawn c = draws_keys

pub returns-clause-verifies : goal.returns-clause-verifies
returns-clause-verifies c = answers_verify

pub returns-clause-keys : goal.returns-clause-keys
returns-clause-keys c = keys_found

pub returns-clause-fits : goal.returns-clause-fits
returns-clause-fits c = answers_fit
