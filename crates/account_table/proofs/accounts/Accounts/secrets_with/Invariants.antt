-- The lines so far, and those of the accounts that are left, are all.
use Rattle.std.proofs.Common.{◌≡◌, ◌++◌, drop}
use Rattle.account_table.specs.Changes.{accounts_after}
use Rattle.account_table.specs.Secrets.{secrets_of}
use Rattle.account_table.proofs.accounts.Accounts.secrets_with.Given as goal

abbrev pub invariant-loop-place : goal.invariant-loop-place
invariant-loop-place l = l.text.items ++ secrets_of (accounts_after l.changes l.place (drop l.place l.self)) ≡ secrets_of (accounts_after l.changes 0 l.self)
