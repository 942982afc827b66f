-- The forms that the types of an account table give its parts (this project's own choice): what a table of the program
-- has of itself, and a record of lists and numbers may lack.
use Rattle.std.specs.Prelude.{ℕ, ◌+◌, ◌≡◌, ◌<◌, ◌≤◌, ◌^◌, true, List, length, All, IsTrue}
use Rattle.std.specs.List.{AllByRecursion}
use Rattle.wire_base.specs.Names.{IsName}
use Rattle.wire_base.specs.Sid.{IsSid, SidParts}
use Rattle.account_table.specs.AccountTable.{AccountTable, has_distinct_domains, has_distinct_names}
use Rattle.account_table.specs.Limits.{account_limit, controller_limit, last_lockout, workstation_limit}
use Rattle.account_table.specs.declared.account.Account.{Account}
use Rattle.account_table.specs.declared.account.Policy.{Policy}
use Rattle.account_table.specs.declared.account.Trust.{Trust}

abbrev pub IsByte : ℕ → Type 0
IsByte byte = byte < 2 ^ 8

-- bytes, as many as `count`
abbrev pub IsBlock : (count : ℕ) → List ℕ → Type 0
IsBlock count bytes = (length bytes ≡ count) × All IsByte bytes

-- a security identifier whose numbers have 32 bits
abbrev pub IsIdentifier : SidParts → Type 0
IsIdentifier sid = IsSid sid × All (λ (number : ℕ). number < 2 ^ 32) sid.numbers

-- the names have at most 64 printable bytes, the NT hash has 16, at most 256 groups and 16 identifiers beside them are
-- listed, and at most 8 computers and 8 controllers
pub record HasAccountForm (account : Account) : Type 0 where
  pub name : IsName account.name
  pub rid : account.rid < 2 ^ 32
  pub hash : IsBlock 16 account.hash
  pub full_name : IsName account.full_name
  pub group : account.group < 2 ^ 32
  pub few_groups : length account.groups ≤ 256
  pub groups : All (λ (group : ℕ). group < 2 ^ 32) account.groups
  pub expires : account.expires < 2 ^ 64
  pub password_set : account.password_set < 2 ^ 64
  pub password_expires : account.password_expires < 2 ^ 64
  pub few_workstations : length account.workstations ≤ 8
  pub workstations : All IsName account.workstations
  pub few_extra_sids : length account.extra_sids ≤ 16
  pub extra_sids : All IsIdentifier account.extra_sids
  pub bad_count : account.bad_count < 2 ^ 16
  pub few_controllers : length account.controllers ≤ 8
  pub controllers : All IsName account.controllers

-- the domain's name has at most 64 printable bytes, the secret is an NT hash, and the address has bytes
pub record HasTrustForm (trust : Trust) : Type 0 where
  pub domain : IsName trust.domain
  pub hash : IsBlock 16 trust.hash
  pub address : All IsByte trust.address

-- at most 10,000 accounts and trusted domains are listed, and no two of either have the same name
pub record HasTableForm (table : AccountTable) : Type 0 where
  pub domain : IsName table.domain
  pub sid : IsSid table.sid
  pub numbers : All (λ (number : ℕ). number < 2 ^ 32) table.sid.numbers
  pub lockout : table.policy.lockout ≤ 1000
  pub few : length table.accounts + length table.trusts ≤ 10000
  pub accounts : All HasAccountForm table.accounts
  pub distinct : has_distinct_names table.accounts ≡ true
  pub trusts : All HasTrustForm table.trusts
  pub distinct_domains : has_distinct_domains table.trusts ≡ true

-- ---- what a table keeps, beside what its parts keep of themselves

-- at most 8 workstations and 8 controllers
abbrev pub HasFewNames : Account → Type 0
HasFewNames account =
    (length account.workstations ≤ workstation_limit) × (length account.controllers ≤ controller_limit)

-- at most 10,000 accounts and trusted domains, a count of 0 to 1,000 that locks out, few names in each account, and
-- trusted domains of different names
pub record IsKept (policy : Policy) (accounts : List Account) (trusts : List Trust) : Type 0 where
  pub few : length accounts + length trusts ≤ account_limit
  pub lockout : policy.lockout ≤ last_lockout
  pub names : AllByRecursion HasFewNames accounts
  pub distinct : IsTrue (has_distinct_domains trusts)

-- the table of these parts
abbrev pub table_by : List ℕ → SidParts → Policy → List Account → List Trust → AccountTable
table_by domain sid policy accounts trusts =
    record { domain = domain; sid = sid; policy = policy; accounts = accounts; trusts = trusts }
