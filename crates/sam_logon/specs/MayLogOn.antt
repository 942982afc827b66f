-- When a logon is refused, if at all, because what it shows of the password isn't right (this project's own choice of
-- rules). Moments are in units of 100 ns since 1601, and an account's 0 is none.
use Rattle.std.specs.Prelude.{◌≡◌, ◌≢◌, ℕ, ◌<◌, ◌⊎◌, false, List, [], length, Any, IsSomeAnd}
use Rattle.wire_base.specs.Names.{SameName}
use Rattle.account_table.specs.AccountTable.{AccountTable}
use Rattle.account_table.specs.LookUps.{account_in}
use Rattle.account_table.specs.declared.account.Account.{Account}
use Rattle.account_table.specs.declared.account.Policy.{Policy}
use Rattle.account_table.specs.declared.account.Kind.TheVariants.{User}
use Rattle.logon_stubs.specs.declared.info.NetworkInfo.{NetworkInfo}
use Rattle.ntlm_responses.specs.Verification.{Verifies}

-- the moment isn't set, or is still to come
abbrev pub HasNotCome : ℕ → ℕ → Type 0
HasNotCome moment now = (moment ≡ 0) ⊎ (now < moment)

-- no workstation is listed, or one of that name
abbrev pub Allows : List (List ℕ) → List ℕ → Type 0
Allows workstations computer = (workstations ≡ []) ⊎ Any (λ workstation. SameName workstation computer) workstations

-- accounts aren't locked out, or not yet at that count of bad passwords
abbrev pub IsBelowLockout : ℕ → ℕ → Type 0
IsBelowLockout lockout count = (lockout ≡ 0) ⊎ (count < lockout)

-- NT responses of 24 bytes are taken, or this is none
abbrev pub IsTakenResponse : Policy → List ℕ → Type 0
IsTakenResponse policy nt = (policy.ntlmv2_only ≡ false) ⊎ (length nt ≢ 24)

-- the account is a user's, and none of the rules refuses a logon from that computer now, whatever it shows of the
-- password
pub record AccountMayLogOnAt (policy : Policy) (account : Account) (computer : List ℕ) (now : ℕ) : Type 0 where
  pub user : account.kind ≡ User
  pub unlocked : account.locked ≡ false
  pub below_lockout : IsBelowLockout policy.lockout account.bad_count
  pub enabled : account.disabled ≡ false
  pub not_expired : HasNotCome account.expires now
  pub workstation : Allows account.workstations computer
  pub no_change_due : account.must_change ≡ false
  pub password_not_expired : HasNotCome account.password_expires now

-- the domain that is named is none or the table's, and the account of the user's name may log on
pub record MayLogOnAt (table : AccountTable) (named user computer : List ℕ) (now : ℕ) : Type 0 where
  pub domain : (named ≡ []) ⊎ SameName table.domain named
  pub account : IsSomeAnd (account_in table.accounts user) (λ account. AccountMayLogOnAt table.policy account computer now)

-- the account that a network logon names may log on, and NT responses of its length are taken
pub record MayLogOn (table : AccountTable) (info : NetworkInfo) (now : ℕ) : Type 0 where
  pub there : MayLogOnAt table info.domain info.user info.workstation now
  pub taken_response : IsTakenResponse table.policy info.nt

-- the response verifies under the hash of the account of the user's name, and the names and the challenge as sent
abbrev pub ResponseVerifies : AccountTable → NetworkInfo → Type 0
ResponseVerifies table info =
    IsSomeAnd (account_in table.accounts info.user) (λ account. Verifies account.hash info.user info.domain info.challenge info.nt)

-- the hash is the one that is stored for the account of the user's name
abbrev pub HashIsStored : AccountTable → List ℕ → List ℕ → Type 0
HashIsStored table user nt = IsSomeAnd (account_in table.accounts user) (λ account. nt ≡ account.hash)
