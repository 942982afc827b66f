-- What a step changes of the accounts.
use Rattle.account_table.proofs.ChangeLaws.{states-none, with_changes-differs}

pub ruleset differing = (states-none, with_changes-differs)
