-- The table that a document is: the function with the order of refusals agrees with the relation of the table of keys.
use Rattle.std.proofs.Common.{◌≡◌, ℕ, suc, ◌+◌, ◌≤◌, ◌⊎◌, ◌||◌, Bool, true, false, not, List, [], ◌∷◌, ◌++◌, length, Option, Some, None, Result, Ok, Err, is_some, IfOk, refl, sym, ap, ◌∙◌, inl, inr, subst}
use Rattle.std.specs.List.{list_any, AllZip}
use Rattle.std.specs.Option.{IsSomeAnd}
use Rattle.std.proofs.lemmas.Bool.{cases_Bool, not-true, and_parts, or_parts, ltb-false, le-ltb}
use Rattle.std.proofs.lemmas.List.{append_assoc, append-nil}
use Rattle.std.proofs.lemmas.List.Folds.{list_any-append}
use Rattle.toml.specs.Data.{Data, Members}
use Rattle.wire_base.specs.Maps.{place_of}
use Rattle.wire_base.specs.Memory.{UpToMemory}
use Rattle.wire_base.specs.Names.{same_name}
use Rattle.wire_base.specs.Sid.{SidParts}
use Rattle.account_table.specs.AccountTable.{AccountTable, has_distinct, has_distinct_names}
use Rattle.account_table.specs.Document.{◌>>=◌, value_at, formed_by, formed_or, needed, optional, has_name, unless, new_name, policy_of, identity_of, restrictions_of, moments_of, user_of, machine_account, controllers_of, machine_of, has_trusted, new_trust, trust_of, each_entry, too_many, table_in, table_of}
use Rattle.account_table.specs.Forms.{a_name, a_user_name, a_machine_name, a_full_name, a_rid, a_moment, a_lockout, a_truth, a_hash, a_domain_sid, a_kind, a_trusted_domain, an_address, rids, computers, controllers, sids, tables}
use Rattle.account_table.specs.IsTable.{Has, HasOr, IsUser, HasControllers, IsMachine, IsTrust, IsTable, IsTableText}
use Rattle.account_table.specs.Keys.{top, of_user, of_machine, of_trust}
use Rattle.account_table.specs.Limits.{account_limit, domain_users}
use Rattle.account_table.specs.declared.account.Account.{Account}
use Rattle.account_table.specs.declared.account.Kind.{Kind as KindOf}
use Rattle.account_table.specs.declared.account.Kind.TheVariants as kind
use Rattle.account_table.specs.declared.account.Trust.{Trust as TrustOf}
use Rattle.account_table.specs.declared.account.Policy.{Policy}
use Rattle.account_table.specs.declared.key.Key.{Key}
use Rattle.account_table.specs.declared.key.Word.TheVariants.{Domain, Sid, Lockout, Ntlmv2Only, User, Machine, Trust, Name, Rid, Hash, FullName, Group, Groups, Disabled, Locked, MustChange, Expires, PasswordSet, PasswordExpires, Workstations, ExtraSids, Kind, Controllers, Address}
use Rattle.account_table.specs.declared.reading.Identity.{Identity}
use Rattle.account_table.specs.declared.reading.Moments.{Moments}
use Rattle.account_table.specs.declared.reading.Restrictions.{Restrictions}
use Rattle.account_table.specs.declared.refused.TableRefused.{TableRefused}
use Rattle.account_table.specs.declared.refused.TableRefused.TheVariants.{Memory, TooMany, Twice}
use Rattle.account_table.proofs.DocumentLaws.{formed-Ok}
use Rattle.account_table.proofs.IndexLaws.{distinct_more, list_any-place_of, same_name-sym}

-- ---- steps

-- a step after a step that wasn't refused, and what the first gave
record Steps {A B : Type 0} (first : Result A TableRefused) (next : A → Result B TableRefused) (last : B) : Type 0 where
  value : A
  was : first ≡ Ok value
  then_was : next value ≡ Ok last

steps : {A B : Type 0} (first : Result A TableRefused) (next : A → Result B TableRefused) (last : B) → (first >>= next) ≡ Ok last → Steps first next last
steps (Ok x) next last e = record { value = x; was = refl; then_was = e }
steps (Err refused) next last e = absurd cc

along : {A B : Type 0} (first : Result A TableRefused) (next : A → Result B TableRefused) (x : A) (last : Result B TableRefused) → first ≡ Ok x → next x ≡ last → (first >>= next) ≡ last
along first next x last e f = ap (λ r. r >>= next) e ∙ f

-- ---- the value of a key

module _ {T : Type 0} where
  has_by : (form : Data → Option T) (key : Key) (found : Option Data) (x : T) → formed_by form key found ≡ Ok x → IsSomeAnd found (λ found. form found ≡ Some x)
  has_by form key None x e = absurd cc
  has_by form key (Some found) x e = formed-Ok key (form found) x e

  has : (form : Data → Option T) (key : Key) (entry : Members) (x : T) → needed form key entry ≡ Ok x → Has form key.word entry x
  unfolding needed
  has form key entry x e = has_by form key (value_at key entry) x e

  needed_by : (form : Data → Option T) (key : Key) (found : Option Data) (x : T) → IsSomeAnd found (λ found. form found ≡ Some x) → formed_by form key found ≡ Ok x
  needed_by form key None x h = absurd h
  needed_by form key (Some found) x h = rw h refl

  is_needed : (form : Data → Option T) (key : Key) (entry : Members) (x : T) → Has form key.word entry x → needed form key entry ≡ Ok x
  unfolding needed
  is_needed form key entry x h = needed_by form key (value_at key entry) x h

  has_or_by : (default : T) (form : Data → Option T) (key : Key) (found : Option Data) (x : T) → formed_or default form key found ≡ Ok x → ((found ≡ None) × (x ≡ default)) ⊎ IsSomeAnd found (λ found. form found ≡ Some x)
  has_or_by default form key None x e = inl (refl, cc)
  has_or_by default form key (Some found) x e = inr (formed-Ok key (form found) x e)

  has_or : (default : T) (form : Data → Option T) (key : Key) (entry : Members) (x : T) → optional default form key entry ≡ Ok x → HasOr default form key.word entry x
  unfolding optional
  has_or default form key entry x e = has_or_by default form key (value_at key entry) x e

  optional_by : (default : T) (form : Data → Option T) (key : Key) (found : Option Data) (x : T) → ((found ≡ None) × (x ≡ default)) ⊎ IsSomeAnd found (λ found. form found ≡ Some x) → formed_or default form key found ≡ Ok x
  optional_by default form key None x (inl h) = ap (λ (y : T). Ok y) (sym h.1)
  optional_by default form key None x (inr h) = absurd h
  optional_by default form key (Some found) x (inl h) = absurd (let no = h.0 in cc)
  optional_by default form key (Some found) x (inr h) = rw h refl

  is_optional : (default : T) (form : Data → Option T) (key : Key) (entry : Members) (x : T) → HasOr default form key.word entry x → optional default form key entry ≡ Ok x
  unfolding optional
  is_optional default form key entry x h = optional_by default form key (value_at key entry) x h

-- ---- a new name

fresh_by : (name : List ℕ) (found : Option ℕ) (u : Unit {0}) → unless (is_some found) (Twice name) ≡ Ok u → found ≡ None
fresh_by name None u e = refl
fresh_by name (Some place) u e = absurd cc

fresh_from : (name : List ℕ) (before : List Account) (u : Unit {0}) → new_name name before ≡ Ok u → place_of (has_name name) before ≡ None
unfolding new_name
fresh_from name before u e = fresh_by name (place_of (has_name name) before) u e

new_from : (name : List ℕ) (before : List Account) → place_of (has_name name) before ≡ None → new_name name before ≡ Ok tt
unfolding new_name
new_from name before none = rw none refl

same_ok : {T : Type 0} (x y : T) (r : Result T TableRefused) → r ≡ Ok x → r ≡ Ok y → x ≡ y
same_ok x y r e f = cc

-- ---- a user

record IsIdentity (entry : Members) (identity : Identity) : Type 0 where
  rid : Has a_rid Rid entry identity.rid
  hash : Has a_hash Hash entry identity.hash
  full_name : HasOr [] a_full_name FullName entry identity.full_name
  group : HasOr domain_users a_rid Group entry identity.group
  groups : HasOr (domain_users ∷ []) rids Groups entry identity.groups

identity_found : (number : ℕ) (entry : Members) (identity : Identity) → identity_of number entry ≡ Ok identity → IsIdentity entry identity
unfolding identity_of
identity_found number entry identity e =
    let rid = steps _ _ _ e in
    let hash = steps _ _ _ rid.then_was in
    let full_name = steps _ _ _ hash.then_was in
    let group = steps _ _ _ full_name.then_was in
    let groups = steps _ _ _ group.then_was in
    subst (IsIdentity entry) (same_ok _ _ _ refl groups.then_was) (record {
      rid = has a_rid (of_user number Rid) entry rid.value rid.was;
      hash = has a_hash (of_user number Hash) entry hash.value hash.was;
      full_name = has_or [] a_full_name (of_user number FullName) entry full_name.value full_name.was;
      group = has_or domain_users a_rid (of_user number Group) entry group.value group.was;
      groups = has_or (domain_users ∷ []) rids (of_user number Groups) entry groups.value groups.was;
    })

identity_only : (number : ℕ) (entry : Members) (identity : Identity) → IsIdentity entry identity → identity_of number entry ≡ Ok identity
unfolding identity_of
identity_only number entry identity h =
    along _ _ identity.rid _ (is_needed a_rid (of_user number Rid) entry identity.rid h.rid)
    (along _ _ identity.hash _ (is_needed a_hash (of_user number Hash) entry identity.hash h.hash)
    (along _ _ identity.full_name _ (is_optional [] a_full_name (of_user number FullName) entry identity.full_name h.full_name)
    (along _ _ identity.group _ (is_optional domain_users a_rid (of_user number Group) entry identity.group h.group)
    (along _ _ identity.groups _ (is_optional (domain_users ∷ []) rids (of_user number Groups) entry identity.groups h.groups) refl))))

record AreRestrictions (entry : Members) (restrictions : Restrictions) : Type 0 where
  disabled : HasOr false a_truth Disabled entry restrictions.disabled
  locked : HasOr false a_truth Locked entry restrictions.locked
  must_change : HasOr false a_truth MustChange entry restrictions.must_change

restrictions_found : (number : ℕ) (entry : Members) (restrictions : Restrictions) → restrictions_of number entry ≡ Ok restrictions → AreRestrictions entry restrictions
unfolding restrictions_of
restrictions_found number entry restrictions e =
    let disabled = steps _ _ _ e in
    let locked = steps _ _ _ disabled.then_was in
    let must_change = steps _ _ _ locked.then_was in
    subst (AreRestrictions entry) (same_ok _ _ _ refl must_change.then_was) (record {
      disabled = has_or false a_truth (of_user number Disabled) entry disabled.value disabled.was;
      locked = has_or false a_truth (of_user number Locked) entry locked.value locked.was;
      must_change = has_or false a_truth (of_user number MustChange) entry must_change.value must_change.was;
    })

restrictions_only : (number : ℕ) (entry : Members) (restrictions : Restrictions) → AreRestrictions entry restrictions → restrictions_of number entry ≡ Ok restrictions
unfolding restrictions_of
restrictions_only number entry restrictions h =
    along _ _ restrictions.disabled _ (is_optional false a_truth (of_user number Disabled) entry restrictions.disabled h.disabled)
    (along _ _ restrictions.locked _ (is_optional false a_truth (of_user number Locked) entry restrictions.locked h.locked)
    (along _ _ restrictions.must_change _ (is_optional false a_truth (of_user number MustChange) entry restrictions.must_change h.must_change) refl))

record AreMoments (entry : Members) (moments : Moments) : Type 0 where
  expires : HasOr 0 a_moment Expires entry moments.expires
  password_set : HasOr 0 a_moment PasswordSet entry moments.password_set
  password_expires : HasOr 0 a_moment PasswordExpires entry moments.password_expires

moments_found : (number : ℕ) (entry : Members) (moments : Moments) → moments_of number entry ≡ Ok moments → AreMoments entry moments
unfolding moments_of
moments_found number entry moments e =
    let expires = steps _ _ _ e in
    let password_set = steps _ _ _ expires.then_was in
    let password_expires = steps _ _ _ password_set.then_was in
    subst (AreMoments entry) (same_ok _ _ _ refl password_expires.then_was) (record {
      expires = has_or 0 a_moment (of_user number Expires) entry expires.value expires.was;
      password_set = has_or 0 a_moment (of_user number PasswordSet) entry password_set.value password_set.was;
      password_expires = has_or 0 a_moment (of_user number PasswordExpires) entry password_expires.value password_expires.was;
    })

moments_only : (number : ℕ) (entry : Members) (moments : Moments) → AreMoments entry moments → moments_of number entry ≡ Ok moments
unfolding moments_of
moments_only number entry moments h =
    along _ _ moments.expires _ (is_optional 0 a_moment (of_user number Expires) entry moments.expires h.expires)
    (along _ _ moments.password_set _ (is_optional 0 a_moment (of_user number PasswordSet) entry moments.password_set h.password_set)
    (along _ _ moments.password_expires _ (is_optional 0 a_moment (of_user number PasswordExpires) entry moments.password_expires h.password_expires) refl))

-- the entry is the account's, and no account before has its name
record IsNew (Is : Members → Account → Type 0) (entry : Members) (before : List Account) (account : Account) : Type 0 where
  is : Is entry account
  fresh : place_of (has_name account.name) before ≡ None

user_found : (number : ℕ) (before : List Account) (entry : Members) (account : Account) → user_of number before entry ≡ Ok account → IsNew IsUser entry before account
unfolding user_of
user_found number before entry account e =
    let name = steps _ _ _ e in
    let fresh = steps _ _ _ name.then_was in
    let identity = steps _ _ _ fresh.then_was in
    let restrictions = steps _ _ _ identity.then_was in
    let moments = steps _ _ _ restrictions.then_was in
    let workstations = steps _ _ _ moments.then_was in
    let extra_sids = steps _ _ _ workstations.then_was in
    let who = identity_found number entry identity.value identity.was in
    let bars = restrictions_found number entry restrictions.value restrictions.was in
    let times = moments_found number entry moments.value moments.was in
    subst (IsNew IsUser entry before) (same_ok _ _ _ refl extra_sids.then_was) (record {
      is = record {
        name = has a_user_name (of_user number Name) entry name.value name.was;
        rid = who.rid;
        hash = who.hash;
        full_name = who.full_name;
        group = who.group;
        groups = who.groups;
        disabled = bars.disabled;
        locked = bars.locked;
        must_change = bars.must_change;
        expires = times.expires;
        password_set = times.password_set;
        password_expires = times.password_expires;
        workstations = has_or [] computers (of_user number Workstations) entry workstations.value workstations.was;
        extra_sids = has_or [] sids (of_user number ExtraSids) entry extra_sids.value extra_sids.was;
        bad_count = refl;
        controllers = refl;
        changed = refl;
        kind = refl;
      };
      fresh = fresh_from name.value before fresh.value fresh.was;
    })

user_only : (number : ℕ) (before : List Account) (entry : Members) (account : Account) → IsUser entry account → place_of (has_name account.name) before ≡ None → user_of number before entry ≡ Ok account
unfolding user_of
user_only number before entry account h fresh =
    let identity : Identity = record { rid = account.rid; hash = account.hash; full_name = account.full_name; group = account.group; groups = account.groups } in
    let restrictions : Restrictions = record { disabled = account.disabled; locked = account.locked; must_change = account.must_change } in
    let moments : Moments = record { expires = account.expires; password_set = account.password_set; password_expires = account.password_expires } in
    along _ _ account.name _ (is_needed a_user_name (of_user number Name) entry account.name h.name)
    (along _ _ tt _ (new_from account.name before fresh)
    (along _ _ identity _ (identity_only number entry identity (record { rid = h.rid; hash = h.hash; full_name = h.full_name; group = h.group; groups = h.groups }))
    (along _ _ restrictions _ (restrictions_only number entry restrictions (record { disabled = h.disabled; locked = h.locked; must_change = h.must_change }))
    (along _ _ moments _ (moments_only number entry moments (record { expires = h.expires; password_set = h.password_set; password_expires = h.password_expires }))
    (along _ _ account.workstations _ (is_optional [] computers (of_user number Workstations) entry account.workstations h.workstations)
    (along _ _ account.extra_sids _ (is_optional [] sids (of_user number ExtraSids) entry account.extra_sids h.extra_sids)
    (ap (λ (k : KindOf). Ok (record account { bad_count = 0; controllers = []; changed = false; kind = k })) (sym h.kind) ∙ ap (λ (n : ℕ). Ok (record account { bad_count = n; controllers = []; changed = false })) (sym h.bad_count) ∙ ap (λ (x : List (List ℕ)). Ok (record account { controllers = x; changed = false })) (sym h.controllers) ∙ ap (λ (b : Bool). Ok (record account { changed = b })) (sym h.changed))))))))

-- ---- a machine

controllers_found : (kind : KindOf) (number : ℕ) (entry : Members) (names : List (List ℕ)) → controllers_of kind number entry ≡ Ok names → HasControllers kind entry names
controllers_found kind.User number entry names e = cc
controllers_found kind.Workstation number entry names e = cc
controllers_found kind.Backup number entry names e = cc
controllers_found kind.Trust number entry names e = has controllers (of_machine number Controllers) entry names e

controllers_only : (kind : KindOf) (number : ℕ) (entry : Members) (names : List (List ℕ)) → HasControllers kind entry names → controllers_of kind number entry ≡ Ok names
controllers_only kind.User number entry names h = rw h refl
controllers_only kind.Workstation number entry names h = rw h refl
controllers_only kind.Backup number entry names h = rw h refl
controllers_only kind.Trust number entry names h = is_needed controllers (of_machine number Controllers) entry names h

machine_found : (number : ℕ) (before : List Account) (entry : Members) (account : Account) → machine_of number before entry ≡ Ok account → IsNew IsMachine entry before account
unfolding machine_of
machine_found number before entry account e =
    let name = steps _ _ _ e in
    let fresh = steps _ _ _ name.then_was in
    let kind = steps _ _ _ fresh.then_was in
    let hash = steps _ _ _ kind.then_was in
    let disabled = steps _ _ _ hash.then_was in
    let controllers = steps _ _ _ disabled.then_was in
    subst (IsNew IsMachine entry before) (same_ok _ _ _ refl controllers.then_was) (record {
      is = record {
        name = has a_machine_name (of_machine number Name) entry name.value name.was;
        kind = has a_kind (of_machine number Kind) entry kind.value kind.was;
        hash = has a_hash (of_machine number Hash) entry hash.value hash.was;
        disabled = has_or false a_truth (of_machine number Disabled) entry disabled.value disabled.was;
        controllers = controllers_found kind.value number entry controllers.value controllers.was;
        rid = refl;
        full_name = refl;
        group = refl;
        groups = refl;
        locked = refl;
        must_change = refl;
        expires = refl;
        password_set = refl;
        password_expires = refl;
        workstations = refl;
        extra_sids = refl;
        bad_count = refl;
        changed = refl;
      };
      fresh = fresh_from name.value before fresh.value fresh.was;
    })

-- an account whose parts are a machine's
machine_whole : (entry : Members) (account : Account) → IsMachine entry account → machine_account account.name account.kind account.hash account.disabled account.controllers ≡ account
machine_whole entry account h =
    sym
    (ap (λ (x : ℕ). record account { rid = x }) h.rid
    ∙ ap (λ (x : List ℕ). record account { rid = 0; full_name = x }) h.full_name
    ∙ ap (λ (x : ℕ). record account { rid = 0; full_name = []; group = x }) h.group
    ∙ ap (λ (x : List ℕ). record account { rid = 0; full_name = []; group = domain_users; groups = x }) h.groups
    ∙ ap (λ (x : Bool). record account { rid = 0; full_name = []; group = domain_users; groups = domain_users ∷ []; locked = x }) h.locked
    ∙ ap (λ (x : Bool). record account { rid = 0; full_name = []; group = domain_users; groups = domain_users ∷ []; locked = false; must_change = x }) h.must_change
    ∙ ap (λ (x : ℕ). record account { rid = 0; full_name = []; group = domain_users; groups = domain_users ∷ []; locked = false; must_change = false; expires = x }) h.expires
    ∙ ap (λ (x : ℕ). record account { rid = 0; full_name = []; group = domain_users; groups = domain_users ∷ []; locked = false; must_change = false; expires = 0; password_set = x }) h.password_set
    ∙ ap (λ (x : ℕ). record account { rid = 0; full_name = []; group = domain_users; groups = domain_users ∷ []; locked = false; must_change = false; expires = 0; password_set = 0; password_expires = x }) h.password_expires
    ∙ ap (λ (x : List (List ℕ)). record account { rid = 0; full_name = []; group = domain_users; groups = domain_users ∷ []; locked = false; must_change = false; expires = 0; password_set = 0; password_expires = 0; workstations = x }) h.workstations
    ∙ ap (λ (x : List SidParts). record account { rid = 0; full_name = []; group = domain_users; groups = domain_users ∷ []; locked = false; must_change = false; expires = 0; password_set = 0; password_expires = 0; workstations = []; extra_sids = x }) h.extra_sids
    ∙ ap (λ (x : ℕ). record account { rid = 0; full_name = []; group = domain_users; groups = domain_users ∷ []; locked = false; must_change = false; expires = 0; password_set = 0; password_expires = 0; workstations = []; extra_sids = []; bad_count = x }) h.bad_count
    ∙ ap (λ (x : Bool). record account { rid = 0; full_name = []; group = domain_users; groups = domain_users ∷ []; locked = false; must_change = false; expires = 0; password_set = 0; password_expires = 0; workstations = []; extra_sids = []; bad_count = 0; changed = x }) h.changed)

machine_only : (number : ℕ) (before : List Account) (entry : Members) (account : Account) → IsMachine entry account → place_of (has_name account.name) before ≡ None → machine_of number before entry ≡ Ok account
unfolding machine_of
machine_only number before entry account h fresh =
    along _ _ account.name _ (is_needed a_machine_name (of_machine number Name) entry account.name h.name)
    (along _ _ tt _ (new_from account.name before fresh)
    (along _ _ account.kind _ (is_needed a_kind (of_machine number Kind) entry account.kind h.kind)
    (along _ _ account.hash _ (is_needed a_hash (of_machine number Hash) entry account.hash h.hash)
    (along _ _ account.disabled _ (is_optional false a_truth (of_machine number Disabled) entry account.disabled h.disabled)
    (along _ _ account.controllers _ (controllers_only account.kind number entry account.controllers h.controllers)
    (ap (λ (a : Account). Ok a) (machine_whole entry account h)))))))

-- ---- a trusted domain

-- the entry is the trusted domain's, and none before has its name
record IsNewTrust (own : List ℕ) (entry : Members) (before : List TrustOf) (trust : TrustOf) : Type 0 where
  is : IsTrust own entry trust
  fresh : place_of (has_trusted trust.domain) before ≡ None

no_place : (found : Option ℕ) → is_some found ≡ false → found ≡ None
no_place None e = refl
no_place (Some place) e = absurd cc

fresh_by_test : (domain : List ℕ) (test : Bool) (u : Unit {0}) → unless test (Twice domain) ≡ Ok u → test ≡ false
fresh_by_test domain true u e = absurd cc
fresh_by_test domain false u e = refl

fresh_trust : (domain : List ℕ) (before : List TrustOf) (u : Unit {0}) → new_trust domain before ≡ Ok u → place_of (has_trusted domain) before ≡ None
unfolding new_trust
fresh_trust domain before u e =
    no_place _ (sym (list_any-place_of (has_trusted domain) before) ∙ fresh_by_test domain (list_any (has_trusted domain) before) u e)

new_trust_from : (domain : List ℕ) (before : List TrustOf) → place_of (has_trusted domain) before ≡ None → new_trust domain before ≡ Ok tt
unfolding new_trust
new_trust_from domain before none =
    let absent : list_any (has_trusted domain) before ≡ false = list_any-place_of (has_trusted domain) before ∙ ap is_some none in
    rw absent refl

trust_found : (own : List ℕ) (number : ℕ) (before : List TrustOf) (entry : Members) (trust : TrustOf) → trust_of own number before entry ≡ Ok trust → IsNewTrust own entry before trust
unfolding trust_of
trust_found own number before entry trust e =
    let domain = steps _ _ _ e in
    let fresh = steps _ _ _ domain.then_was in
    let hash = steps _ _ _ fresh.then_was in
    let address = steps _ _ _ hash.then_was in
    subst (IsNewTrust own entry before) (same_ok _ _ _ refl address.then_was) (record {
      is = record {
        domain = has (a_trusted_domain own) (of_trust number Domain) entry domain.value domain.was;
        hash = has a_hash (of_trust number Hash) entry hash.value hash.was;
        address = has an_address (of_trust number Address) entry address.value address.was;
      };
      fresh = fresh_trust domain.value before fresh.value fresh.was;
    })

trust_only : (own : List ℕ) (number : ℕ) (before : List TrustOf) (entry : Members) (trust : TrustOf) → IsTrust own entry trust → place_of (has_trusted trust.domain) before ≡ None → trust_of own number before entry ≡ Ok trust
unfolding trust_of
trust_only own number before entry trust h fresh =
    along _ _ trust.domain _ (is_needed (a_trusted_domain own) (of_trust number Domain) entry trust.domain h.domain)
    (along _ _ tt _ (new_trust_from trust.domain before fresh)
    (along _ _ trust.hash _ (is_needed a_hash (of_trust number Hash) entry trust.hash h.hash)
    (along _ _ trust.address _ (is_needed an_address (of_trust number Address) entry trust.address h.address) refl)))

-- ---- all entries of a list

module _ {T : Type 0} (name : T → List ℕ) where
  abbrev alike : List ℕ → T → Bool
  alike wanted other = same_name wanted (name other)

  -- no item before has the name of one behind it
  fresh_in : (before own : List T) (item : T) → has_distinct name (before ++ item ∷ own) ≡ true → place_of (alike (name item)) before ≡ None
  fresh_in [] own item different = refl
  fresh_in (first ∷ before) own item different =
      let parts = and_parts _ _ different in
      let none = sym (list_any-append (alike (name first)) before (item ∷ own)) ∙ not-true _ parts.0 in
      let other = or_parts _ _ (or_parts _ _ none).1 in
      rw (same_name-sym (name item) (name first) other.0, fresh_in before own item parts.1) refl

  -- names that differ all differ before
  different_before : (before own : List T) → has_distinct name (before ++ own) ≡ true → has_distinct name before ≡ true
  different_before [] own different = refl
  different_before (first ∷ before) own different =
      let parts = and_parts (not (list_any (alike (name first)) (before ++ own))) (has_distinct name (before ++ own)) different in
      let none : (list_any (alike (name first)) before || list_any (alike (name first)) own) ≡ false = sym (list_any-append (alike (name first)) before own) ∙ not-true _ parts.0 in
      let apart = or_parts (list_any (alike (name first)) before) (list_any (alike (name first)) own) none in
      rw (apart.0, different_before before own parts.1) refl

  -- the items that a list of entries gives, behind those before
  record AreListed (Is : Members → T → Type 0) (entries : List Members) (before items : List T) : Type 0 where
    own : List T
    whole : items ≡ before ++ own
    each : AllZip Is entries own
    different : has_distinct name items ≡ true

  module _ (one_of : ℕ → List T → Members → Result T TableRefused) (Is : Members → T → Type 0) where
    listed_found : ((number : ℕ) (before : List T) (entry : Members) (item : T) → one_of number before entry ≡ Ok item → Is entry item × (place_of (alike (name item)) before ≡ None)) → (number : ℕ) (before : List T) (entries : List Members) (items : List T) → has_distinct name before ≡ true → each_entry one_of number before entries ≡ Ok items → AreListed Is entries before items
    listed_found found number before [] items different e =
        let same : before ≡ items = cc in
        record { own = []; whole = sym same ∙ sym (append-nil before); each = tt; different = rw (← same) different }
    listed_found found number before (entry ∷ entries) items different e =
        let first = steps _ _ _ e in
        let new = found number before entry first.value first.was in
        let more = distinct_more name first.value before different new.1 in
        let later = listed_found found (suc number) (before ++ first.value ∷ []) entries items more first.then_was in
        record {
          own = first.value ∷ later.own;
          whole = later.whole ∙ append_assoc before (first.value ∷ []) later.own;
          each = (new.0, later.each);
          different = later.different;
        }

    listed_only : ((number : ℕ) (before : List T) (entry : Members) (item : T) → Is entry item → place_of (alike (name item)) before ≡ None → one_of number before entry ≡ Ok item) → (number : ℕ) (before : List T) (entries : List Members) (own : List T) → has_distinct name (before ++ own) ≡ true → AllZip Is entries own → each_entry one_of number before entries ≡ Ok (before ++ own)
    listed_only only number before [] [] different each = ap (λ (xs : List T). Ok xs) (sym (append-nil before))
    listed_only only number before [] (item ∷ own) different each = absurd each
    listed_only only number before (entry ∷ entries) [] different each = absurd each
    listed_only only number before (entry ∷ entries) (item ∷ own) different each =
        let regrouped = append_assoc before (item ∷ []) own in
        along _ _ item _ (only number before entry item each.0 (fresh_in before own item different))
        (listed_only only (suc number) (before ++ item ∷ []) entries own (rw regrouped different) each.1 ∙ ap (λ (xs : List T). Ok xs) regrouped)

abbrev name_of_account : Account → List ℕ
name_of_account account = account.name

abbrev name_of_trust : TrustOf → List ℕ
name_of_trust trust = trust.domain

-- ---- the document

record IsPolicy (document : Members) (policy : Policy) : Type 0 where
  lockout : HasOr 0 a_lockout Lockout document policy.lockout
  ntlmv2_only : HasOr false a_truth Ntlmv2Only document policy.ntlmv2_only

policy_found : (document : Members) (policy : Policy) → policy_of document ≡ Ok policy → IsPolicy document policy
unfolding policy_of
policy_found document policy e =
    let lockout = steps _ _ _ e in
    let ntlmv2_only = steps _ _ _ lockout.then_was in
    subst (IsPolicy document) (same_ok _ _ _ refl ntlmv2_only.then_was) (record {
      lockout = has_or 0 a_lockout (top Lockout) document lockout.value lockout.was;
      ntlmv2_only = has_or false a_truth (top Ntlmv2Only) document ntlmv2_only.value ntlmv2_only.was;
    })

policy_only : (document : Members) (policy : Policy) → IsPolicy document policy → policy_of document ≡ Ok policy
unfolding policy_of
policy_only document policy h =
    along _ _ policy.lockout _ (is_optional 0 a_lockout (top Lockout) document policy.lockout h.lockout)
    (along _ _ policy.ntlmv2_only _ (is_optional false a_truth (top Ntlmv2Only) document policy.ntlmv2_only h.ntlmv2_only) refl)

few_by : (count : ℕ) (u : Unit {0}) → unless (too_many count) TooMany ≡ Ok u → count ≤ account_limit
few_by count u e =
    elim (cases_Bool (too_many count)) [
      | inl many ↦ absurd (let no : unless (too_many count) TooMany ≡ Err TooMany = rw many refl in cc)
      | inr few ↦ ltb-false account_limit count few
    ]

few_from : (count : ℕ) → count ≤ account_limit → unless (too_many count) TooMany ≡ Ok tt
few_from count few = rw (le-ltb account_limit count few) refl

pub table_found : (document : Members) (table : AccountTable) → table_in document ≡ Ok table → IsTable document table
unfolding table_in
table_found document table e =
    let users = steps _ _ _ e in
    let machines = steps _ _ _ users.then_was in
    let trusted = steps _ _ _ machines.then_was in
    let few = steps _ _ _ trusted.then_was in
    let domain = steps _ _ _ few.then_was in
    let sid = steps _ _ _ domain.then_was in
    let policy = steps _ _ _ sid.then_was in
    let rule = policy_found document policy.value policy.was in
    let user_accounts = steps _ _ _ policy.then_was in
    let accounts = steps _ _ _ user_accounts.then_was in
    let trusts = steps _ _ _ accounts.then_was in
    let user_list = listed_found name_of_account user_of IsUser (λ n before entry account e. let new = user_found n before entry account e in (new.is, new.fresh)) 0 [] users.value user_accounts.value refl user_accounts.was in
    let machine_list = listed_found name_of_account machine_of IsMachine (λ n before entry account e. let new = machine_found n before entry account e in (new.is, new.fresh)) 0 user_accounts.value machines.value accounts.value user_list.different accounts.was in
    let trust_list = listed_found name_of_trust (trust_of domain.value) (IsTrust domain.value) (λ n before entry trust e. let new = trust_found domain.value n before entry trust e in (new.is, new.fresh)) 0 [] trusted.value trusts.value refl trusts.was in
    subst (IsTable document) (same_ok _ _ _ refl trusts.then_was) (record {
      domain = has a_name (top Domain) document domain.value domain.was;
      sid = has a_domain_sid (top Sid) document sid.value sid.was;
      lockout = rule.lockout;
      ntlmv2_only = rule.ntlmv2_only;
      users = users.value;
      machines = machines.value;
      user_accounts = user_list.own;
      machine_accounts = machine_list.own;
      listed_users = has_or [] tables (top User) document users.value users.was;
      listed_machines = has_or [] tables (top Machine) document machines.value machines.was;
      each_user = user_list.each;
      each_machine = machine_list.each;
      accounts = machine_list.whole ∙ ap (λ (xs : List Account). xs ++ machine_list.own) user_list.whole;
      few = few_by (length users.value + length machines.value + length trusted.value) few.value few.was;
      distinct = machine_list.different;
      trusted = trusted.value;
      listed_trusts = has_or [] tables (top Trust) document trusted.value trusted.was;
      each_trust = rw trust_list.whole trust_list.each;
      distinct_trusts = trust_list.different;
    })

pub table_only : (document : Members) (table : AccountTable) → IsTable document table → table_in document ≡ Ok table
unfolding table_in
table_only document table h =
    let different : has_distinct_names (h.user_accounts ++ h.machine_accounts) ≡ true = rw (← h.accounts) h.distinct in
    along _ _ h.users _ (is_optional [] tables (top User) document h.users h.listed_users)
    (along _ _ h.machines _ (is_optional [] tables (top Machine) document h.machines h.listed_machines)
    (along _ _ h.trusted _ (is_optional [] tables (top Trust) document h.trusted h.listed_trusts)
    (along _ _ tt _ (few_from (length h.users + length h.machines + length h.trusted) h.few)
    (along _ _ table.domain _ (is_needed a_name (top Domain) document table.domain h.domain)
    (along _ _ table.sid _ (is_needed a_domain_sid (top Sid) document table.sid h.sid)
    (along _ _ table.policy _ (policy_only document table.policy (record { lockout = h.lockout; ntlmv2_only = h.ntlmv2_only }))
    (along _ _ h.user_accounts _ (listed_only name_of_account user_of IsUser user_only 0 [] h.users h.user_accounts (different_before name_of_account h.user_accounts h.machine_accounts different) h.each_user)
    (along _ _ (h.user_accounts ++ h.machine_accounts) _ (listed_only name_of_account machine_of IsMachine machine_only 0 h.user_accounts h.machines h.machine_accounts different h.each_machine)
    (along _ _ table.trusts _ (listed_only name_of_trust (trust_of table.domain) (IsTrust table.domain) (trust_only table.domain) 0 [] h.trusted table.trusts h.distinct_trusts h.each_trust)
    (ap (λ (xs : List Account). Ok (record table { accounts = xs })) (sym h.accounts)))))))))))

-- ---- the text

pub text_found : (text : List ℕ) (table : AccountTable) → table_of text ≡ Ok table → IsTableText text table
unfolding table_of
text_found text table e =
    let document = steps _ _ _ e in
    record { document = document.value; parsed = document.was; is = table_found document.value table document.then_was }

pub text_only : (text : List ℕ) (table : AccountTable) → IsTableText text table → table_of text ≡ Ok table
unfolding table_of
text_only text table h = along _ _ h.document _ h.parsed (table_only h.document table h.is)

-- what is answered up to memory
pub answer_found : (text : List ℕ) (answer : Result AccountTable TableRefused) → UpToMemory Memory answer (table_of text) → IfOk answer (IsTableText text)
answer_found text (Ok table) exact = text_found text table exact
answer_found text (Err refused) exact = tt

pub answer_only : (text : List ℕ) (answer : Result AccountTable TableRefused) → UpToMemory Memory answer (table_of text) → (table : AccountTable) → IsTableText text table → UpToMemory Memory answer (Ok table)
answer_only text answer exact table is = rw (← text_only text table is) exact
