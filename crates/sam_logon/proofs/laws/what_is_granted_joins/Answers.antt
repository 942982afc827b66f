-- Each clause is a law of `proofs/GrantedLaws`.
use Rattle.sam_logon.proofs.GrantedLaws.{granting-CanWrite, granting-InRange, granting-joins}
use Rattle.sam_logon.proofs.laws.what_is_granted_joins.Goals as goal

pub returns-clause-writable : goal.returns-clause-writable
returns-clause-writable c = granting-CanWrite

pub returns-clause-range : goal.returns-clause-range
returns-clause-range c = granting-InRange

pub returns-clause-joins : goal.returns-clause-joins
returns-clause-joins c = granting-joins
