-- The lines of the changed ones among the accounts so far.
use Rattle.std.proofs.Common.{◌≡◌, map}
use Rattle.account_table.specs.Secrets.{secrets_of}
use Rattle.account_table.proofs.accounts.Accounts.secrets.Given as goal

abbrev pub invariant-loop-account : goal.invariant-loop-account
invariant-loop-account l = l.text.items ≡ secrets_of (map (λ a. a.now) l.yielded)
