-- Each clause is a law of `proofs/ChangeLaws`.
use Rattle.account_table.proofs.ChangeLaws.{with_changes-none, with_changes-append, with_changes-differs, with_changes-states, states-again, counts-states, places-left, machines-left, known-left, routes-left, accounts-left}
use Rattle.account_table.proofs.laws.what_changes_leave.Goals as goal

pub returns-clause-none : goal.returns-clause-none
returns-clause-none c = with_changes-none

pub returns-clause-joined : goal.returns-clause-joined
returns-clause-joined c = with_changes-append

pub returns-clause-differ : goal.returns-clause-differ
returns-clause-differ c = with_changes-differs

pub returns-clause-again : goal.returns-clause-again
returns-clause-again c = states-again

pub returns-clause-counts : goal.returns-clause-counts
returns-clause-counts c = counts-states

pub returns-clause-states : goal.returns-clause-states
returns-clause-states c = with_changes-states

pub returns-clause-machines : goal.returns-clause-machines
returns-clause-machines c = machines-left

pub returns-clause-places : goal.returns-clause-places
returns-clause-places c = places-left

pub returns-clause-known : goal.returns-clause-known
returns-clause-known c = known-left

pub returns-clause-routes : goal.returns-clause-routes
returns-clause-routes c = routes-left

pub returns-clause-accounts : goal.returns-clause-accounts
returns-clause-accounts c = accounts-left
