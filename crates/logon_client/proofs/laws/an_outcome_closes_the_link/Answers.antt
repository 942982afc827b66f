use Rattle.logon_client.proofs.OutcomeLaws.{closes_once, outcome_stays}
use Rattle.logon_client.proofs.laws.an_outcome_closes_the_link.Goals as goal

pub returns-clause-closes : goal.returns-clause-closes
returns-clause-closes c = closes_once

pub returns-clause-stays : goal.returns-clause-stays
returns-clause-stays c = outcome_stays
