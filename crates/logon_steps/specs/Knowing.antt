-- A controller that has an enabled workstation's account of a member's computer (MS-NRPC 3.5.4.4.1,
-- 3.5.4.4.3), also once it has judged logons, which change counts of bad passwords alone.
use Rattle.std.specs.Prelude.{ℕ, ◌≡◌, true, false, List, Some}
use Rattle.authenticators.specs.SecureChannels.{fresh_channel}
use Rattle.account_table.specs.AccountTable.{AccountTable}
use Rattle.account_table.specs.Changes.{DifferInCounts, with_count}
use Rattle.account_table.specs.LookUps.{account_in, knows_in, machine_name}
use Rattle.account_table.specs.declared.account.Account.{Account}
use Rattle.account_table.specs.declared.account.Kind.TheVariants.{Workstation}
use Rattle.logon_stubs.specs.declared.info.NetworkInfo.{NetworkInfo}
use Rattle.sam_logon.specs.Verdict.{table_after}
use Rattle.channel_client.specs.Machine.{offered_flags}
use Rattle.domain_controller.specs.Machine.{account_for, channel_for}
use Rattle.member_server.specs.declared.plan.MemberPlan.{MemberPlan}
use Rattle.member_server.specs.Machine.{caller_of}
use Rattle.member_server.specs.Secrets.{tried_of}
use Rattle.logon_steps.specs.Answering.{IsInStep, auth_value, pair_of}

-- the account of that name is there, but for its count of bad passwords
pub record StandsLater (table : AccountTable) (name : List ℕ) (account : Account) : Type 0 where
  pub count : ℕ
  pub found : account_in table.accounts name ≡ Some (with_count count account)

-- the computer is known, its account but for that count is found for its channel, and a channel that is opened by it is
-- in step
pub record IsKnownLater (table : AccountTable) (plan : MemberPlan) (client server : List ℕ) (account : Account) : Type 0 where
  pub count : ℕ
  pub knows : knows_in table.accounts plan.computer ≡ true
  pub machine : account_for table (auth_value (caller_of plan) client server) ≡ Some (with_count count account)
  pub step : IsInStep (fresh_channel (tried_of plan.secrets) client server offered_flags)
      (channel_for (with_count count account) (pair_of client server) (auth_value (caller_of plan) client server))

pub record ComputersAreKnown : Type 0 where
  pub knows : (table : AccountTable) (computer : List ℕ) (account : Account) → account_in table.accounts (machine_name computer) ≡ Some account → account.kind ≡ Workstation →
      knows_in table.accounts computer ≡ true
  pub machine : (table : AccountTable) (plan : MemberPlan) (client server : List ℕ) (account : Account) → account_in table.accounts (machine_name plan.computer) ≡ Some account →
      account.kind ≡ Workstation → account.disabled ≡ false → account_for table (auth_value (caller_of plan) client server) ≡ Some account
  -- a verdict changes counts of bad passwords alone; where no more differs, accounts are there still
  pub judged : (table : AccountTable) (info : NetworkInfo) (now : ℕ) → DifferInCounts table (table_after table info now)
  pub stands : (old new : AccountTable) (name : List ℕ) (account : Account) → DifferInCounts old new → account_in old.accounts name ≡ Some account →
      StandsLater new name account
  pub later : (old new : AccountTable) (plan : MemberPlan) (client server : List ℕ) (account : Account) → DifferInCounts old new →
      account_in old.accounts (machine_name plan.computer) ≡ Some account → account.kind ≡ Workstation → account.disabled ≡ false → account.hash ≡ tried_of plan.secrets →
      IsKnownLater new plan client server account
