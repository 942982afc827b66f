-- Each clause is a law of `proofs/ChangeLaws`.
use Rattle.account_table.proofs.ChangeLaws.{with_bad_count-differs, differs-none, differs-again, places-stay, machines-stay, known-stay, routes-stay, accounts-stay}
use Rattle.account_table.proofs.laws.what_counts_leave.Goals as goal

pub returns-clause-sets : goal.returns-clause-sets
returns-clause-sets c = with_bad_count-differs

pub returns-clause-none : goal.returns-clause-none
returns-clause-none c = differs-none

pub returns-clause-again : goal.returns-clause-again
returns-clause-again c = differs-again

pub returns-clause-places : goal.returns-clause-places
returns-clause-places c = places-stay

pub returns-clause-machines : goal.returns-clause-machines
returns-clause-machines c = machines-stay

pub returns-clause-known : goal.returns-clause-known
returns-clause-known c = known-stay

pub returns-clause-routes : goal.returns-clause-routes
returns-clause-routes c = routes-stay

pub returns-clause-accounts : goal.returns-clause-accounts
returns-clause-accounts c = accounts-stay
