-- Which account table a document is, in the words of the table of its keys (this project's own choice): each key has a
-- form, some a default where the key isn't there, and other keys are passed over. No order of checks is said.
use Rattle.std.specs.Prelude.{◌≡◌, ℕ, ◌+◌, ◌≤◌, ◌⊎◌, false, List, [], ◌∷◌, ◌++◌, length, Option, Some, None, Ok, IsTrue, IsSomeAnd}
use Rattle.std.specs.List.{AllZip}
use Rattle.toml.specs.Data.{Data, Members, get_member}
use Rattle.account_table.specs.AccountTable.{AccountTable, has_distinct_names, has_distinct_domains}
use Rattle.account_table.specs.Document.{document_of}
use Rattle.account_table.specs.Forms.{a_name, a_user_name, a_machine_name, a_full_name, a_rid, a_moment, a_lockout, a_truth, a_hash, a_domain_sid, a_kind, a_trusted_domain, an_address, rids, computers, controllers, sids, tables}
use Rattle.account_table.specs.Keys.{word_text}
use Rattle.account_table.specs.Limits.{account_limit, domain_users}
use Rattle.account_table.specs.declared.account.Account.{Account}
use Rattle.account_table.specs.declared.account.Kind.{Kind as KindOf}
use Rattle.account_table.specs.declared.account.Kind.TheVariants as kind
use Rattle.account_table.specs.declared.account.Trust.{Trust as TrustOf}
use Rattle.account_table.specs.declared.key.Word.{Word}
use Rattle.account_table.specs.declared.key.Word.TheVariants.{Domain, Sid, Lockout, Ntlmv2Only, User, Machine, Trust, Name, Rid, Hash, FullName, Group, Groups, Disabled, Locked, MustChange, Expires, PasswordSet, PasswordExpires, Workstations, ExtraSids, Kind, Controllers, Address}

-- what stands at the key is of the form, and is this value
abbrev pub Has : {T : Type 0} → (Data → Option T) → Word → Members → T → Type 0
Has form word entry value = IsSomeAnd (get_member (word_text word) entry) (λ found. form found ≡ Some value)

-- what stands at the key is of the form, and is this value; or nothing stands there, and the value is the default
abbrev pub HasOr : {T : Type 0} → T → (Data → Option T) → Word → Members → T → Type 0
HasOr default form word entry value =
    ((get_member (word_text word) entry ≡ None) × (value ≡ default)) ⊎ Has form word entry value

-- the entry is this user's, and no password was bad yet
pub record IsUser (entry : Members) (account : Account) : Type 0 where
  pub name : Has a_user_name Name entry account.name
  pub rid : Has a_rid Rid entry account.rid
  pub hash : Has a_hash Hash entry account.hash
  pub full_name : HasOr [] a_full_name FullName entry account.full_name
  pub group : HasOr domain_users a_rid Group entry account.group
  pub groups : HasOr (domain_users ∷ []) rids Groups entry account.groups
  pub disabled : HasOr false a_truth Disabled entry account.disabled
  pub locked : HasOr false a_truth Locked entry account.locked
  pub must_change : HasOr false a_truth MustChange entry account.must_change
  pub expires : HasOr 0 a_moment Expires entry account.expires
  pub password_set : HasOr 0 a_moment PasswordSet entry account.password_set
  pub password_expires : HasOr 0 a_moment PasswordExpires entry account.password_expires
  pub workstations : HasOr [] computers Workstations entry account.workstations
  pub extra_sids : HasOr [] sids ExtraSids entry account.extra_sids
  pub bad_count : account.bad_count ≡ 0
  pub controllers : account.controllers ≡ []
  pub changed : account.changed ≡ false
  pub kind : account.kind ≡ kind.User

-- a trust's account has the controllers that its entry lists; one of another kind has none
abbrev pub HasControllers : KindOf → Members → List (List ℕ) → Type 0
HasControllers kind.User entry names = names ≡ []
HasControllers kind.Workstation entry names = names ≡ []
HasControllers kind.Backup entry names = names ≡ []
HasControllers kind.Trust entry names = Has controllers Controllers entry names

-- the entry is this machine's; what it doesn't say is a user's default, and the relative identifier is 0
pub record IsMachine (entry : Members) (account : Account) : Type 0 where
  pub name : Has a_machine_name Name entry account.name
  pub kind : Has a_kind Kind entry account.kind
  pub hash : Has a_hash Hash entry account.hash
  pub disabled : HasOr false a_truth Disabled entry account.disabled
  pub controllers : HasControllers account.kind entry account.controllers
  pub rid : account.rid ≡ 0
  pub full_name : account.full_name ≡ []
  pub group : account.group ≡ domain_users
  pub groups : account.groups ≡ domain_users ∷ []
  pub locked : account.locked ≡ false
  pub must_change : account.must_change ≡ false
  pub expires : account.expires ≡ 0
  pub password_set : account.password_set ≡ 0
  pub password_expires : account.password_expires ≡ 0
  pub workstations : account.workstations ≡ []
  pub extra_sids : account.extra_sids ≡ []
  pub bad_count : account.bad_count ≡ 0
  pub changed : account.changed ≡ false

-- the entry is this trusted domain's, in the table of that domain
pub record IsTrust (own : List ℕ) (entry : Members) (trust : TrustOf) : Type 0 where
  pub domain : Has (a_trusted_domain own) Domain entry trust.domain
  pub hash : Has a_hash Hash entry trust.hash
  pub address : Has an_address Address entry trust.address

-- the document is this table
pub record IsTable (document : Members) (table : AccountTable) : Type 0 where
  pub domain : Has a_name Domain document table.domain
  pub sid : Has a_domain_sid Sid document table.sid
  pub lockout : HasOr 0 a_lockout Lockout document table.policy.lockout
  pub ntlmv2_only : HasOr false a_truth Ntlmv2Only document table.policy.ntlmv2_only
  -- the entries of the two lists, and the account of each
  pub users : List Members
  pub machines : List Members
  pub user_accounts : List Account
  pub machine_accounts : List Account
  pub listed_users : HasOr [] tables User document users
  pub listed_machines : HasOr [] tables Machine document machines
  pub each_user : AllZip IsUser users user_accounts
  pub each_machine : AllZip IsMachine machines machine_accounts
  pub trusted : List Members
  pub listed_trusts : HasOr [] tables Trust document trusted
  pub each_trust : AllZip (IsTrust table.domain) trusted table.trusts
  -- users before machines, few enough with the trusted domains, and no two of one name
  pub accounts : table.accounts ≡ user_accounts ++ machine_accounts
  pub few : length users + length machines + length trusted ≤ account_limit
  pub distinct : IsTrue (has_distinct_names table.accounts)
  pub distinct_trusts : IsTrue (has_distinct_domains table.trusts)

-- the text is a TOML document that is this table
pub record IsTableText (text : List ℕ) (table : AccountTable) : Type 0 where
  pub document : Members
  pub parsed : document_of text ≡ Ok document
  pub is : IsTable document table
