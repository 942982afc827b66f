-- The changes that are left give of what the account has last what all give.
use Rattle.std.proofs.Common.{◌≡◌, drop}
use Rattle.account_table.specs.Changes.{state_by}
use Rattle.account_table.proofs.changes.state_by.Given as goal

abbrev pub invariant-loop-change : goal.invariant-loop-change
invariant-loop-change l = state_by (drop l.change-index l.changes) l.at l.last ≡ state_by l.changes l.at l.initial.last
