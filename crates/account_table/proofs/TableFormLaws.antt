-- The law `Table::has_form`: a table that is read keeps what its type says, and so does one after a change.
use Rattle.std.proofs.Common.{◌≡◌, ℕ, ℤ, pos, negsuc, zero, suc, ◌+◌, ◌<◌, ◌≤◌, ◌&&◌, ◌⊎◌, List, [], ◌∷◌, ◌++◌, length, take, get_or, All, IfSome, slice_get, Option, Some, None, Ok, refl, ap, inl, inr, arith, leb, lit≤}
use Rattle.std.specs.List.{AllByRecursion, AllZip}
use Rattle.std.specs.Option.{IsSomeAnd, option_and_then}
use Rattle.std.proofs.lemmas.Bool.{cases_Bool, and_parts, leb-true}
use Rattle.std.proofs.lemmas.List.{length-append}
use Rattle.std.proofs.lemmas.List.Elements.{All-more}
use Rattle.toml.specs.Data.{Data, Members, as_integer}
use Rattle.account_table.specs.AccountTable.{AccountTable}
use Rattle.account_table.specs.Changes.{at_place, with_count, with_new_hash}
use Rattle.account_table.specs.Document.{table_in}
use Rattle.account_table.specs.Forms.{only_if, in_range, a_lockout, a_list, a_name, computers, controllers, some_but_few}
use Rattle.account_table.specs.IsTable.{HasControllers, IsMachine, IsTrust, IsUser}
use Rattle.account_table.specs.Limits.{controller_limit, last_lockout, workstation_limit}
use Rattle.account_table.specs.Secrets.{Setting, with_settings}
use Rattle.account_table.specs.TableForms.{HasAccountForm, HasFewNames, IsKept}
use Rattle.account_table.specs.declared.account.Account.{Account}
use Rattle.account_table.specs.declared.account.Kind.{Kind as KindOf}
use Rattle.account_table.specs.declared.account.Kind.TheVariants as kind
use Rattle.account_table.specs.declared.account.Policy.{Policy}
use Rattle.account_table.specs.declared.account.Trust.{Trust as TrustOf}
use Rattle.account_table.proofs.DocumentLaws.{few_from_only_if}
use Rattle.account_table.proofs.TableLaws.{table_found}

-- ---- an integer in its range

most_in_range : (least most n v : ℕ) → in_range least most (pos n) ≡ Some v → v ≤ most
most_in_range least most n v e =
    elim (cases_Bool (leb least n && leb n most)) [
      | inl inside ↦
          let here : in_range least most (pos n) ≡ Some n = rw inside refl in
          let same : n ≡ v = cc in
          rw (← same) (leb-true _ _ (and_parts _ _ inside).1)
      | inr outside ↦ absurd (let none : in_range least most (pos n) ≡ None = rw outside refl in cc)
    ]

most_integer : (least most v : ℕ) (found : Option ℤ) → option_and_then (in_range least most) found ≡ Some v → v ≤ most
most_integer least most v None e = absurd cc
most_integer least most v (Some (pos n)) e = most_in_range least most n v e
most_integer least most v (Some (negsuc n)) e = absurd cc

few_lockout : (v : ℕ) (found : Option Data) → ((found ≡ None) × (v ≡ 0)) ⊎ IsSomeAnd found (λ value. a_lockout value ≡ Some v) → v ≤ last_lockout
few_lockout v found (inl h) = rw h.1 (lit≤ tt)
few_lockout v None (inr h) = absurd h
few_lockout v (Some value) (inr h) = most_integer 0 last_lockout v (as_integer value) h

-- ---- few names

few_computers : (names : List (List ℕ)) (found : Option Data) → ((found ≡ None) × (names ≡ [])) ⊎ IsSomeAnd found (λ value. computers value ≡ Some names) → length names ≤ workstation_limit
few_computers names found (inl h) = rw h.1 (lit≤ tt)
few_computers names None (inr h) = absurd h
few_computers names (Some value) (inr h) = (few_from_only_if workstation_limit (a_list a_name value) names h).0

some_few : (o : Option (List (List ℕ))) (names : List (List ℕ)) → only_if (some_but_few controller_limit) o ≡ Some names → length names ≤ controller_limit
some_few None names e = absurd cc
some_few (Some listed) names e =
    elim (cases_Bool (some_but_few controller_limit listed)) [
      | inl few ↦
          let here : only_if (some_but_few controller_limit) (Some listed) ≡ Some listed = rw few refl in
          let same : listed ≡ names = cc in
          rw (← same) (leb-true _ _ (and_parts _ _ few).1)
      | inr many ↦ absurd (let none : only_if (some_but_few controller_limit) (Some listed) ≡ None = rw many refl in cc)
    ]

few_listed : (names : List (List ℕ)) (found : Option Data) → IsSomeAnd found (λ value. controllers value ≡ Some names) → length names ≤ controller_limit
few_listed names None h = absurd h
few_listed names (Some value) h = some_few (a_list a_name value) names h

few_controllers : (which : KindOf) (entry : Members) (names : List (List ℕ)) → HasControllers which entry names → length names ≤ controller_limit
few_controllers kind.User entry names h = rw h (lit≤ tt)
few_controllers kind.Workstation entry names h = rw h (lit≤ tt)
few_controllers kind.Backup entry names h = rw h (lit≤ tt)
few_controllers kind.Trust entry names h = few_listed names _ h

user_names : (entry : Members) (account : Account) → IsUser entry account → HasFewNames account
user_names entry account is = (few_computers account.workstations _ is.workstations, rw is.controllers (lit≤ tt))

machine_names : (entry : Members) (account : Account) → IsMachine entry account → HasFewNames account
machine_names entry account is = (rw is.workstations (lit≤ tt), few_controllers account.kind entry account.controllers is.controllers)

each_names : (Is : Members → Account → Type 0) → ((entry : Members) (account : Account) → Is entry account → HasFewNames account) → (entries : List Members) (accounts : List Account) → AllZip Is entries accounts → AllByRecursion HasFewNames accounts
each_names Is few [] [] each = tt
each_names Is few [] (account ∷ accounts) each = absurd each
each_names Is few (entry ∷ entries) [] each = absurd each
each_names Is few (entry ∷ entries) (account ∷ accounts) each = (few entry account each.0, each_names Is few entries accounts each.1)

names_append : (before after : List Account) → AllByRecursion HasFewNames before → AllByRecursion HasFewNames after → AllByRecursion HasFewNames (before ++ after)
names_append [] after few more = more
names_append (account ∷ before) after few more = (few.0, names_append before after few.1 more)

-- ---- a table that is read

zip_length : {A B : Type 0} (R : A → B → Type 0) (xs : List A) (ys : List B) → AllZip R xs ys → length xs ≡ length ys
zip_length R [] [] each = refl
zip_length R [] (y ∷ ys) each = absurd each
zip_length R (x ∷ xs) [] each = absurd each
zip_length R (x ∷ xs) (y ∷ ys) each = ap (λ (n : ℕ). suc n) (zip_length R xs ys each.1)

pub kept_table : (document : Members) (table : AccountTable) → table_in document ≡ Ok table → IsKept table.policy table.accounts table.trusts
kept_table document table e =
    let is = table_found document table e in
    let users = zip_length IsUser is.users is.user_accounts is.each_user in
    let machines = zip_length IsMachine is.machines is.machine_accounts is.each_machine in
    let trusts = zip_length (IsTrust table.domain) is.trusted table.trusts is.each_trust in
    let all : AllByRecursion HasFewNames (is.user_accounts ++ is.machine_accounts) = names_append is.user_accounts is.machine_accounts (each_names IsUser user_names is.users is.user_accounts is.each_user) (each_names IsMachine machine_names is.machines is.machine_accounts is.each_machine) in
    record {
      few = rw is.accounts (omega (arith, length-append is.user_accounts is.machine_accounts, users, machines, trusts, is.few));
      lockout = few_lockout table.policy.lockout _ is.lockout;
      names = rw is.accounts all;
      distinct = is.distinct_trusts;
    }

-- ---- a change at a place

module _ (change : Account → Account) (few : (account : Account) → HasFewNames account → HasFewNames (change account)) where
  length-at_place : (place : ℕ) (accounts : List Account) → length (at_place place change accounts) ≡ length accounts
  length-at_place place [] = refl
  length-at_place zero (account ∷ accounts) = refl
  length-at_place (suc place) (account ∷ accounts) = ap (λ (n : ℕ). suc n) (length-at_place place accounts)

  names-at_place : (place : ℕ) (accounts : List Account) → AllByRecursion HasFewNames accounts → AllByRecursion HasFewNames (at_place place change accounts)
  names-at_place place [] each = tt
  names-at_place zero (account ∷ accounts) each = (few account each.0, each.1)
  names-at_place (suc place) (account ∷ accounts) each = (each.0, names-at_place place accounts each.1)

  kept-at_place : (policy : Policy) (accounts : List Account) (trusts : List TrustOf) (place : ℕ) → IsKept policy accounts trusts → IsKept policy (at_place place change accounts) trusts
  kept-at_place policy accounts trusts place kept = record {
    few = rw (length-at_place place accounts) kept.few;
    lockout = kept.lockout;
    names = names-at_place place accounts kept.names;
    distinct = kept.distinct;
  }

pub kept_count : (policy : Policy) (old new : List Account) (trusts : List TrustOf) (place count : ℕ) → new ≡ at_place place (with_count count) old → IsKept policy old trusts → IsKept policy new trusts
kept_count policy old new trusts place count made kept =
    rw made (kept-at_place (with_count count) (λ account few. few) policy old trusts place kept)

pub kept_hash : (policy : Policy) (old new : List Account) (trusts : List TrustOf) (place : ℕ) (hash : List ℕ) → new ≡ at_place place (with_new_hash hash) old → IsKept policy old trusts → IsKept policy new trusts
kept_hash policy old new trusts place hash made kept =
    rw made (kept-at_place (with_new_hash hash) (λ account few. few) policy old trusts place kept)

kept_each : (policy : Policy) (settings : List Setting) (accounts : List Account) (trusts : List TrustOf) → IsKept policy accounts trusts → IsKept policy (with_settings settings accounts) trusts
kept_each policy [] accounts trusts kept = kept
kept_each policy (setting ∷ settings) accounts trusts kept =
    kept_each policy settings (at_place setting.0 (with_new_hash setting.1) accounts) trusts
    (kept-at_place (with_new_hash setting.1) (λ account few. few) policy accounts trusts setting.0 kept)

pub kept_settings : (policy : Policy) (old new : List Account) (trusts : List TrustOf) (settings : List Setting) → new ≡ with_settings settings old → IsKept policy old trusts → IsKept policy new trusts
kept_settings policy old new trusts settings made kept = rw made (kept_each policy settings old trusts kept)

-- ---- the form of each account

pub names_at : (accounts : List Account) (place : ℕ) (account : Account) → AllByRecursion HasFewNames accounts → slice_get accounts place ≡ Some account → HasFewNames account
names_at [] place account each found = absurd cc
names_at (first ∷ accounts) zero account each found =
    let same : first ≡ account = cc in
    rw (← same) each.0
names_at (first ∷ accounts) (suc place) account each found = names_at accounts place account each.1 found

form_at : (accounts : List Account) (place : ℕ) (other : Account) → place < length accounts → IfSome (slice_get accounts place) HasAccountForm → HasAccountForm (get_or accounts place other)
form_at [] place other inside form = absurd (omega (arith, inside))
form_at (first ∷ accounts) zero other inside form = form
form_at (first ∷ accounts) (suc place) other inside form = form_at accounts place other (omega (arith, inside)) form

-- one account more has its form
pub forms_more : (accounts : List Account) (place : ℕ) → place < length accounts → All HasAccountForm (take place accounts) → IfSome (slice_get accounts place) HasAccountForm → All HasAccountForm (take (place + 1) accounts)
forms_more [] place inside before form = absurd (omega (arith, inside))
forms_more (first ∷ accounts) place inside before form =
    All-more HasAccountForm (first ∷ accounts) place first inside before (form_at (first ∷ accounts) place first inside form)
