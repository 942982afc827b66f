-- What a secret that is set leaves of a controller's other accounts (MS-NRPC 3.5.4.4.6).
use Rattle.std.specs.Prelude.{ℕ, ◌≡◌, false, IsSomeAnd, List, Some}
use Rattle.wire_base.specs.Names.{same_name}
use Rattle.channel_keys.specs.ChannelTypes.{workstation_channel}
use Rattle.account_table.specs.AccountTable.{AccountTable}
use Rattle.account_table.specs.Changes.{with_hash}
use Rattle.account_table.specs.LookUps.{account_in, knows_in, machine_in, machine_name}
use Rattle.account_table.specs.declared.account.Account.{Account}
use Rattle.account_table.specs.declared.account.Kind.TheVariants.{User}
use Rattle.logon_runs.specs.Rests.{channel_account}

pub record SetsLeaveOthers : Type 0 where
  -- by which account a channel is opened doesn't change, nor which computers are known
  pub place : (table : AccountTable) (at : ℕ) (hash computer : List ℕ) →
      machine_in (with_hash at hash table).accounts (machine_name computer) workstation_channel computer ≡ machine_in table.accounts (machine_name computer) workstation_channel computer
  pub knows : (table : AccountTable) (at : ℕ) (hash computer : List ℕ) → knows_in (with_hash at hash table).accounts computer ≡ knows_in table.accounts computer
  -- the account of another computer's channel is as it was
  pub others : (table : AccountTable) (mine other : List ℕ) (at : ℕ) (hash : List ℕ) → same_name mine other ≡ false →
      machine_in table.accounts (machine_name other) workstation_channel other ≡ Some at → channel_account (with_hash at hash table) mine ≡ channel_account table mine
  -- a user's account is as it was, which is no machine's
  pub users : (table : AccountTable) (at : ℕ) (hash name : List ℕ) (channel : ℕ) (computer user : List ℕ) (account : Account) → machine_in table.accounts name channel computer ≡ Some at →
      account_in table.accounts user ≡ Some account → IsSomeAnd (account_in (with_hash at hash table).accounts user) (λ (found : Account). found.kind ≡ User) →
      account_in (with_hash at hash table).accounts user ≡ Some account
  -- the computer's own account has that hash
  pub own : (table : AccountTable) (mine : List ℕ) (at : ℕ) (hash : List ℕ) (account : Account) → machine_in table.accounts (machine_name mine) workstation_channel mine ≡ Some at →
      channel_account (with_hash at hash table) mine ≡ Some account → account.hash ≡ hash
