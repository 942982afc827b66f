-- What changes in an account table after it was read (this project's own choice).
use Rattle.std.specs.Prelude.{ℕ, ◌≡◌, ◌==◌, zero, suc, Bool, true, false, List, [], ◌∷◌, Option, Some, None, map, if◌then◌else◌}
use Rattle.account_table.specs.AccountTable.{AccountTable}
use Rattle.account_table.specs.declared.account.Account.{Account}
use Rattle.account_table.specs.declared.account.Kind.{Kind}
use Rattle.account_table.specs.declared.account.Kind.TheVariants.{User, Workstation, Backup, Trust}
use Rattle.account_table.specs.declared.changes.Change.{Change}
use Rattle.account_table.specs.declared.changes.AccountState.{AccountState}
use Rattle.account_table.specs.declared.changes.Change.TheVariants.{Count, Hash}
use Rattle.account_table.specs.declared.changes.TableChange.{TableChange}

-- the accounts, with a change of the one at a place, counted from 0; past the end nothing changes
abbrev pub at_place : ℕ → (Account → Account) → List Account → List Account
at_place place change [] = []
at_place zero change (account ∷ accounts) = change account ∷ accounts
at_place (suc place) change (account ∷ accounts) = account ∷ at_place place change accounts

-- the account with this count of bad passwords
abbrev pub with_count : ℕ → Account → Account
with_count count account = record account { bad_count = count }

-- the table with this count of bad passwords for the account at a place
unfoldable pub with_bad_count : ℕ → ℕ → AccountTable → AccountTable
with_bad_count place count table = record table { accounts = at_place place (with_count count) table.accounts }

-- the account with another hash, a changed one
abbrev pub with_new_hash : List ℕ → Account → Account
with_new_hash hash account = record account { hash = hash; changed = true }

-- the table with this hash for the account at a place
unfoldable pub with_hash : ℕ → List ℕ → AccountTable → AccountTable
with_hash place hash table = record table { accounts = at_place place (with_new_hash hash) table.accounts }

abbrev pub is_user : Kind → Bool
is_user User = true
is_user Workstation = false
is_user Backup = false
is_user Trust = false

-- the tables differ in counts of bad passwords alone
pub record DifferInCounts (old new : AccountTable) : Type 0 where
  pub domain : new.domain ≡ old.domain
  pub sid : new.sid ≡ old.sid
  pub policy : new.policy ≡ old.policy
  pub accounts : map (with_count 0) new.accounts ≡ map (with_count 0) old.accounts
  pub trusts : new.trusts ≡ old.trusts

-- ---- what changes of an account after it was read: its count of bad passwords, its hash, and whether the hash was set

abbrev pub state_of : Account → AccountState
state_of account = record { bad_count = account.bad_count; hash = account.hash; changed = account.changed }

abbrev pub with_state : AccountState → Account → Account
with_state state account = record account { bad_count = state.bad_count; hash = state.hash; changed = state.changed }

-- the account without that
abbrev pub without_state : Account → Account
without_state account = with_state (record { bad_count = 0; hash = []; changed = false }) account

-- the tables differ in counts of bad passwords, and in hashes that were set, alone
pub record DifferInStates (old new : AccountTable) : Type 0 where
  pub domain : new.domain ≡ old.domain
  pub sid : new.sid ≡ old.sid
  pub policy : new.policy ≡ old.policy
  pub accounts : map without_state new.accounts ≡ map without_state old.accounts
  pub trusts : new.trusts ≡ old.trusts

-- ---- changes that are collected, and made later

abbrev pub with_change_of : Change → ℕ → AccountTable → AccountTable
with_change_of (Count count) place table = with_bad_count place count table
with_change_of (Hash hash) place table = with_hash place hash table

-- the table with a change of the account at its place
abbrev pub with_change : TableChange → AccountTable → AccountTable
with_change change table = with_change_of change.change change.place table

-- with all of them, one after the other, so that the last one of an account holds
abbrev pub with_changes : List TableChange → AccountTable → AccountTable
with_changes [] table = table
with_changes (change ∷ changes) table = with_changes changes (with_change change table)

-- with a change, where there is one
abbrev pub with_change_if : Option TableChange → AccountTable → AccountTable
with_change_if None table = table
with_change_if (Some change) table = with_change change table

abbrev pub state_by_change_of : Change → AccountState → AccountState
state_by_change_of (Count count) state = record state { bad_count = count }
state_by_change_of (Hash hash) state = record state { hash = hash; changed = true }

-- what the account at a place has after a change, where it had that before
abbrev pub state_by_change : TableChange → ℕ → AccountState → AccountState
state_by_change change place state = if change.place == place then state_by_change_of change.change state else state

-- after all of them
abbrev pub state_by : List TableChange → ℕ → AccountState → AccountState
state_by [] place state = state
state_by (change ∷ changes) place state = state_by changes place (state_by_change change place state)

-- the accounts as the changes leave them, from a place on
abbrev pub accounts_after : List TableChange → ℕ → List Account → List Account
accounts_after changes place [] = []
accounts_after changes place (account ∷ accounts) =
    with_state (state_by changes place (state_of account)) account ∷ accounts_after changes (suc place) accounts
