-- The account table's document (this project's own choice): a TOML document in which each key has a form, and a default
-- where it may be missing. Other keys are passed over. Checks come in the order of the lines; the first that fails is
-- the refusal.
use Rattle.std.specs.Prelude.{ℕ, suc, ◌+◌, Bool, true, false, List, [], ◌∷◌, ◌++◌, length, Option, Some, None, Result, Ok, Err, nat_lt, is_some}
use Rattle.std.specs.List.{list_any}
use Rattle.std.specs.Str.{is_utf8}
use Rattle.toml.specs.Data.{Data, Members, get_member}
use Rattle.toml.specs.Parse.{parse_document}
use Rattle.wire_base.specs.Maps.{place_of}
use Rattle.wire_base.specs.Names.{same_name}
use Rattle.wire_base.specs.Sid.{SidParts}
use Rattle.account_table.specs.declared.account.Account.{Account}
use Rattle.account_table.specs.declared.account.Kind.{Kind as KindOf}
use Rattle.account_table.specs.declared.account.Kind.TheVariants as kind
use Rattle.account_table.specs.declared.account.Policy.{Policy}
use Rattle.account_table.specs.declared.account.Trust.{Trust as TrustOf}
use Rattle.account_table.specs.declared.key.Key.{Key}
use Rattle.account_table.specs.declared.key.Word.TheVariants.{Domain, Sid, Lockout, Ntlmv2Only, User, Machine, Trust, Name, Rid, Hash, FullName, Group, Groups, Disabled, Locked, MustChange, Expires, PasswordSet, PasswordExpires, Workstations, ExtraSids, Kind, Controllers, Address}
use Rattle.account_table.specs.declared.refused.TableRefused.{TableRefused}
use Rattle.account_table.specs.declared.refused.TableRefused.TheVariants.{BadToml, TooMany, Missing, BadValue, Twice}
use Rattle.account_table.specs.declared.reading.Restrictions.{Restrictions}
use Rattle.account_table.specs.declared.reading.Identity.{Identity}
use Rattle.account_table.specs.declared.reading.Moments.{Moments}
use Rattle.account_table.specs.AccountTable.{AccountTable}
use Rattle.account_table.specs.Forms.{a_name, a_user_name, a_machine_name, a_full_name, a_rid, a_moment, a_lockout, a_truth, a_hash, a_domain_sid, a_kind, a_trusted_domain, an_address, rids, computers, controllers, sids, tables}
use Rattle.account_table.specs.Keys.{word_text, top, of_user, of_machine, of_trust}
use Rattle.account_table.specs.Limits.{account_limit, domain_users}

-- a step after a step that wasn't refused
infixl 10 ◌>>=◌
abbrev pub ◌>>=◌ : {A B E : Type 0} → Result A E → (A → Result B E) → Result B E
(Ok x) >>= next = next x
(Err refused) >>= next = Err refused

-- ---- the value of a key

-- what stands at the key
abbrev pub value_at : Key → Members → Option Data
value_at key entry = get_member (word_text key.word) entry

abbrev pub formed : {T : Type 0} → Key → Option T → Result T TableRefused
formed key None = Err (BadValue key)
formed key (Some value) = Ok value

abbrev pub formed_by : {T : Type 0} → (Data → Option T) → Key → Option Data → Result T TableRefused
formed_by form key None = Err (Missing key)
formed_by form key (Some value) = formed key (form value)

-- a key that has to be there, of this form
unfoldable pub needed : {T : Type 0} → (Data → Option T) → Key → Members → Result T TableRefused
needed form key entry = formed_by form key (value_at key entry)

abbrev pub formed_or : {T : Type 0} → T → (Data → Option T) → Key → Option Data → Result T TableRefused
formed_or default form key None = Ok default
formed_or default form key (Some value) = formed key (form value)

-- a key of this form, with a default where it isn't there
unfoldable pub optional : {T : Type 0} → T → (Data → Option T) → Key → Members → Result T TableRefused
optional default form key entry = formed_or default form key (value_at key entry)

-- ---- accounts

-- the account's name is the same as this one
abbrev pub has_name : List ℕ → Account → Bool
has_name name account = same_name name account.name

abbrev pub unless : Bool → TableRefused → Result (Unit {0}) TableRefused
unless true refused = Err refused
unless false refused = Ok tt

-- no account before has the name
unfoldable pub new_name : List ℕ → List Account → Result (Unit {0}) TableRefused
new_name name before = unless (is_some (place_of (has_name name) before)) (Twice name)

-- who the user is
unfoldable pub identity_of : ℕ → Members → Result Identity TableRefused
identity_of number entry = do
  rid ← needed a_rid (of_user number Rid) entry
  hash ← needed a_hash (of_user number Hash) entry
  full_name ← optional [] a_full_name (of_user number FullName) entry
  group ← optional domain_users a_rid (of_user number Group) entry
  groups ← optional (domain_users ∷ []) rids (of_user number Groups) entry
  Ok (record { rid = rid; hash = hash; full_name = full_name; group = group; groups = groups })

-- what keeps the user from logging on
unfoldable pub restrictions_of : ℕ → Members → Result Restrictions TableRefused
restrictions_of number entry = do
  disabled ← optional false a_truth (of_user number Disabled) entry
  locked ← optional false a_truth (of_user number Locked) entry
  must_change ← optional false a_truth (of_user number MustChange) entry
  Ok (record { disabled = disabled; locked = locked; must_change = must_change })

-- the user's moments
unfoldable pub moments_of : ℕ → Members → Result Moments TableRefused
moments_of number entry = do
  expires ← optional 0 a_moment (of_user number Expires) entry
  password_set ← optional 0 a_moment (of_user number PasswordSet) entry
  password_expires ← optional 0 a_moment (of_user number PasswordExpires) entry
  Ok (record { expires = expires; password_set = password_set; password_expires = password_expires })

-- the account of a user of these parts; no password was bad yet, and the hash is that of the document
abbrev pub user_account : List ℕ → Identity → Restrictions → Moments → List (List ℕ) → List SidParts → Account
user_account name identity restrictions moments workstations extra_sids = record {
  name = name;
  rid = identity.rid;
  hash = identity.hash;
  full_name = identity.full_name;
  group = identity.group;
  groups = identity.groups;
  disabled = restrictions.disabled;
  locked = restrictions.locked;
  must_change = restrictions.must_change;
  expires = moments.expires;
  password_set = moments.password_set;
  password_expires = moments.password_expires;
  workstations = workstations;
  extra_sids = extra_sids;
  bad_count = 0;
  controllers = [];
  changed = false;
  kind = kind.User;
}

-- the user of that entry, after these accounts
unfoldable pub user_of : ℕ → List Account → Members → Result Account TableRefused
user_of number before entry = do
  name ← needed a_user_name (of_user number Name) entry
  fresh ← new_name name before
  identity ← identity_of number entry
  restrictions ← restrictions_of number entry
  moments ← moments_of number entry
  workstations ← optional [] computers (of_user number Workstations) entry
  extra_sids ← optional [] sids (of_user number ExtraSids) entry
  Ok (user_account name identity restrictions moments workstations extra_sids)

-- an account whose entry says no more than this: it is of the group of all users of the domain, and nothing keeps it
-- from logging on
abbrev pub plain_account : KindOf → List ℕ → ℕ → List ℕ → Account
plain_account kind name rid hash = record {
  name = name;
  rid = rid;
  hash = hash;
  full_name = [];
  group = domain_users;
  groups = domain_users ∷ [];
  disabled = false;
  locked = false;
  must_change = false;
  expires = 0;
  password_set = 0;
  password_expires = 0;
  workstations = [];
  extra_sids = [];
  bad_count = 0;
  controllers = [];
  changed = false;
  kind = kind;
}

-- the account of a machine; what its entry doesn't say is as a user's default
abbrev pub machine_account : List ℕ → KindOf → List ℕ → Bool → List (List ℕ) → Account
machine_account name kind hash disabled controllers =
    record (plain_account kind name 0 hash) { disabled = disabled; controllers = controllers }

-- the controllers of a trust's account; those of another kind have none, and the key is passed over
abbrev pub controllers_of : KindOf → ℕ → Members → Result (List (List ℕ)) TableRefused
controllers_of kind.User number entry = Ok []
controllers_of kind.Workstation number entry = Ok []
controllers_of kind.Backup number entry = Ok []
controllers_of kind.Trust number entry = needed controllers (of_machine number Controllers) entry

-- the machine of that entry, after these accounts
unfoldable pub machine_of : ℕ → List Account → Members → Result Account TableRefused
machine_of number before entry = do
  name ← needed a_machine_name (of_machine number Name) entry
  fresh ← new_name name before
  kind ← needed a_kind (of_machine number Kind) entry
  hash ← needed a_hash (of_machine number Hash) entry
  disabled ← optional false a_truth (of_machine number Disabled) entry
  controllers ← controllers_of kind number entry
  Ok (machine_account name kind hash disabled controllers)

-- ---- trusted domains

-- the trusted domain's name is the same as this one
abbrev pub has_trusted : List ℕ → TrustOf → Bool
has_trusted domain trust = same_name domain trust.domain

-- no trusted domain before has the name
unfoldable pub new_trust : List ℕ → List TrustOf → Result (Unit {0}) TableRefused
new_trust domain before = unless (list_any (has_trusted domain) before) (Twice domain)

-- the trusted domain of that entry, after these, in the table of that domain
unfoldable pub trust_of : List ℕ → ℕ → List TrustOf → Members → Result TrustOf TableRefused
trust_of own number before entry = do
  domain ← needed (a_trusted_domain own) (of_trust number Domain) entry
  fresh ← new_trust domain before
  hash ← needed a_hash (of_trust number Hash) entry
  address ← needed an_address (of_trust number Address) entry
  Ok (record { domain = domain; hash = hash; address = address })

-- ---- lists of entries

-- each entry in order, from that number on, after these
abbrev pub each_entry : {T : Type 0} → (ℕ → List T → Members → Result T TableRefused) → ℕ → List T → List Members → Result (List T) TableRefused
each_entry one_of number before [] = Ok before
each_entry one_of number before (entry ∷ entries) = do
  one ← one_of number before entry
  each_entry one_of (suc number) (before ++ one ∷ []) entries

-- ---- the document

-- more accounts and trusted domains than a table has
abbrev pub too_many : ℕ → Bool
too_many count = nat_lt account_limit count

-- what holds of all accounts
unfoldable pub policy_of : Members → Result Policy TableRefused
policy_of document = do
  lockout ← optional 0 a_lockout (top Lockout) document
  ntlmv2_only ← optional false a_truth (top Ntlmv2Only) document
  Ok (record { lockout = lockout; ntlmv2_only = ntlmv2_only })

-- the table of a TOML document
unfoldable pub table_in : Members → Result AccountTable TableRefused
table_in document = do
  users ← optional [] tables (top User) document
  machines ← optional [] tables (top Machine) document
  trusted ← optional [] tables (top Trust) document
  few ← unless (too_many (length users + length machines + length trusted)) TooMany
  domain ← needed a_name (top Domain) document
  sid ← needed a_domain_sid (top Sid) document
  policy ← policy_of document
  user_accounts ← each_entry user_of 0 [] users
  accounts ← each_entry machine_of 0 user_accounts machines
  trusts ← each_entry (trust_of domain) 0 [] trusted
  Ok (record { domain = domain; sid = sid; policy = policy; accounts = accounts; trusts = trusts })

abbrev pub document_by : Bool → Option Members → Result Members TableRefused
document_by false document = Err BadToml
document_by true None = Err BadToml
document_by true (Some document) = Ok document

-- the TOML document that a text is
unfoldable pub document_of : List ℕ → Result Members TableRefused
document_of text = document_by (is_utf8 text) (parse_document text)

-- the account table that a text is, or the first refusal
unfoldable pub table_of : List ℕ → Result AccountTable TableRefused
table_of text = do
  document ← document_of text
  table_in document
