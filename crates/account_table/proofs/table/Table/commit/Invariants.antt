-- The changes that are left, made in the table as it stands, give what all give.
use Rattle.std.proofs.Common.{◌≡◌, drop}
use Rattle.account_table.specs.Changes.{with_changes}
use Rattle.account_table.proofs.table.Table.commit.Given as goal

abbrev pub invariant-loop-change : goal.invariant-loop-change
invariant-loop-change l = with_changes (drop l.change-index l.change-items) l.self ≡ with_changes l.changes l.initial.self
