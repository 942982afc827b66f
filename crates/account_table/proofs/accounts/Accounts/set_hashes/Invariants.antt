-- The hashes that are left, set in the accounts as they stand, give what all hashes give, set in the accounts as they
-- were; there are as many accounts as there were.
use Rattle.std.proofs.Common.{◌≡◌, drop, length}
use Rattle.account_table.specs.Secrets.{with_settings}
use Rattle.account_table.proofs.accounts.Accounts.set_hashes.Given as goal

abbrev pub invariant-loop-place : goal.invariant-loop-place
invariant-loop-place l = record {
  exact : with_settings (drop l.place-index l.settings) l.self ≡ with_settings l.settings l.initial.self;
  count : length l.self ≡ length l.initial.self;
}
