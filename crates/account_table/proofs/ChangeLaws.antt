-- Laws of what changes in an account table after it was read.
use Rattle.std.proofs.Common.{◌≡◌, ◌≢◌, ℕ, zero, suc, ◌+◌, ◌<◌, ◌≤◌, ◌==◌, if◌then◌else◌, Bool, true, false, append-nil, append_assoc, ◌&&◌, ◌||◌, List, [], ◌∷◌, ◌++◌, map, length, drop, get_or, Option, Some, None, option_map, refl, sym, ap, ◌∙◌, inl, inr, arith}
use Rattle.std.specs.List.{filter, flat_map, list_any, slice_get}
use Rattle.std.proofs.lemmas.Bool.{cases_Bool, eqb-true, eq-eqb, ne_eqb}
use Rattle.std.proofs.lemmas.List.{at_drop_more}
use Rattle.std.proofs.lemmas.List.Elements.{filter-append}
use Rattle.std.proofs.lemmas.Grind.{flat_map-append}
use Rattle.std.proofs.lemmas.Option.{get_or_from_slice_get, slice_get_within}
use Rattle.wire_base.specs.Maps.{place_of}
use Rattle.account_table.specs.AccountTable.{AccountTable}
use Rattle.account_table.specs.Changes.{accounts_after, at_place, without_state, state_by, state_by_change, state_by_change_of, state_of, with_count, with_bad_count, with_change, with_change_of, with_changes, with_hash, with_new_hash, with_state, DifferInCounts, DifferInStates}
use Rattle.account_table.specs.Document.{has_name}
use Rattle.account_table.specs.LookUps.{machine_name, place_in, machine_in, knows_in, route_in, is_machine, is_machine_for, is_trust_for}
use Rattle.account_table.specs.declared.account.Account.{Account}
use Rattle.account_table.specs.declared.changes.Change.{Change}
use Rattle.account_table.specs.declared.changes.AccountState.{AccountState}
use Rattle.account_table.specs.declared.changes.Change.TheVariants.{Count, Hash}
use Rattle.account_table.specs.Secrets.{line_if, line_of, secret_line, secrets_of}
use Rattle.account_table.specs.declared.changes.TableChange.{TableChange}

-- ---- a change at a place

-- what a change makes of the account at the place is all that counts
pub at_place-like : (one other : Account → Account) (place : ℕ) (accounts : List Account) (account : Account) → slice_get accounts place ≡ Some account → one account ≡ other account → at_place place one accounts ≡ at_place place other accounts
at_place-like one other place [] account found same = refl
at_place-like one other zero (first ∷ accounts) account found same =
    let is : first ≡ account = cc in
    ap (λ (a : Account). a ∷ accounts) (ap one is ∙ same ∙ ap other (sym is))
at_place-like one other (suc place) (first ∷ accounts) account found same =
    ap (λ (xs : List Account). first ∷ xs) (at_place-like one other place accounts account found same)

-- where nothing changes at the place, nothing does
pub at_place-id : (place : ℕ) (accounts : List Account) → at_place place (λ account. account) accounts ≡ accounts
at_place-id place [] = refl
at_place-id zero (account ∷ accounts) = refl
at_place-id (suc place) (account ∷ accounts) = ap (λ (xs : List Account). account ∷ xs) (at_place-id place accounts)

-- what a change leaves of each account it leaves of all
pub map-at_place : {T : Type 0} (part : Account → T) (change : Account → Account) → ((account : Account) → part (change account) ≡ part account) → (place : ℕ) (accounts : List Account) → map part (at_place place change accounts) ≡ map part accounts
map-at_place part change left place [] = refl
map-at_place {T = T} part change left zero (first ∷ accounts) = ap (λ (x : T). x ∷ map part accounts) (left first)
map-at_place {T = T} part change left (suc place) (first ∷ accounts) =
    ap (λ (xs : List T). part first ∷ xs) (map-at_place part change left place accounts)

-- the table with another count differs in counts alone
pub with_bad_count-differs : (place count : ℕ) (table : AccountTable) → DifferInCounts table (with_bad_count place count table)
unfolding with_bad_count
with_bad_count-differs place count table = record {
  domain = refl;
  sid = refl;
  policy = refl;
  accounts = map-at_place (with_count 0) (with_count count) (λ account. refl) place table.accounts;
  trusts = refl;
}

-- tables that differ in counts alone from one
pub differs-none : (table : AccountTable) → DifferInCounts table table
differs-none table = record { domain = refl; sid = refl; policy = refl; accounts = refl; trusts = refl }

pub differs-again : (old mid new : AccountTable) → DifferInCounts old mid → DifferInCounts mid new → DifferInCounts old new
differs-again old mid new one other = record {
  domain = other.domain ∙ one.domain;
  sid = other.sid ∙ one.sid;
  policy = other.policy ∙ one.policy;
  accounts = other.accounts ∙ one.accounts;
  trusts = other.trusts ∙ one.trusts;
}

-- ---- changes that are collected

-- past the end nothing changes
pub at_place-past : (place : ℕ) (change : Account → Account) (accounts : List Account) → length accounts ≤ place → at_place place change accounts ≡ accounts
at_place-past place change [] past = refl
at_place-past zero change (account ∷ accounts) past = absurd (omega (arith, past))
at_place-past (suc place) change (account ∷ accounts) past = ap (λ (xs : List Account). account ∷ xs) (at_place-past place change accounts (omega (arith, past)))

pub ruleset making = (at_place-past)

-- ---- tables that differ in counts and in hashes

-- what a change makes of an account
abbrev pub account_by : Change → Account → Account
account_by (Count count) account = with_count count account
account_by (Hash hash) account = with_new_hash hash account

pub states-none : (table : AccountTable) → DifferInStates table table
states-none table = record { domain = refl; sid = refl; policy = refl; accounts = refl; trusts = refl }

pub states-again : (old mid new : AccountTable) → DifferInStates old mid → DifferInStates mid new → DifferInStates old new
states-again old mid new one other = record {
  domain = other.domain ∙ one.domain;
  sid = other.sid ∙ one.sid;
  policy = other.policy ∙ one.policy;
  accounts = other.accounts ∙ one.accounts;
  trusts = other.trusts ∙ one.trusts;
}

without_state-uncounted : (accounts : List Account) → map without_state (map (with_count 0) accounts) ≡ map without_state accounts
without_state-uncounted [] = refl
without_state-uncounted (account ∷ accounts) = ap (λ (xs : List Account). without_state account ∷ xs) (without_state-uncounted accounts)

-- tables that differ in counts alone
pub counts-states : (old new : AccountTable) → DifferInCounts old new → DifferInStates old new
counts-states old new differ = record {
  domain = differ.domain;
  sid = differ.sid;
  policy = differ.policy;
  accounts = sym (without_state-uncounted new.accounts) ∙ ap (map without_state) differ.accounts ∙ without_state-uncounted old.accounts;
  trusts = differ.trusts;
}

change_accounts : (change : Change) (place : ℕ) (table : AccountTable) → (with_change_of change place table).accounts ≡ at_place place (account_by change) table.accounts
unfolding with_bad_count with_hash
change_accounts (Count count) place table = refl
change_accounts (Hash hash) place table = refl

pub with_hash-differs : (place : ℕ) (hash : List ℕ) (table : AccountTable) → DifferInStates table (with_hash place hash table)
unfolding with_hash
with_hash-differs place hash table = record {
  domain = refl;
  sid = refl;
  policy = refl;
  accounts = map-at_place without_state (with_new_hash hash) (λ account. refl) place table.accounts;
  trusts = refl;
}

with_change_of-differs : (change : Change) (place : ℕ) (table : AccountTable) → DifferInStates table (with_change_of change place table)
with_change_of-differs (Count count) place table = counts-states table (with_bad_count place count table) (with_bad_count-differs place count table)
with_change_of-differs (Hash hash) place table = with_hash-differs place hash table

pub with_changes-differs : (changes : List TableChange) (table : AccountTable) → DifferInStates table (with_changes changes table)
with_changes-differs [] table = states-none table
with_changes-differs (change ∷ changes) table =
    states-again table (with_change change table) _ (with_change_of-differs change.change change.place table) (with_changes-differs changes (with_change change table))

pub with_changes-none : (table : AccountTable) → with_changes [] table ≡ table
with_changes-none table = refl

pub with_changes-append : (before after : List TableChange) (table : AccountTable) → with_changes (before ++ after) table ≡ with_changes after (with_changes before table)
with_changes-append [] after table = refl
with_changes-append (change ∷ before) after table = with_changes-append before after (with_change change table)

-- one change fewer is left
pub with_changes_step : (changes : List TableChange) (i : ℕ) (none : TableChange) (table : AccountTable) → i < length changes → with_changes (drop (i + 1) changes) (with_change (get_or changes i none) table) ≡ with_changes (drop i changes) table
with_changes_step changes i none table lt = sym (at_drop_more (λ (rest : List TableChange). with_changes rest table) changes i none lt)

pub ruleset committing = (with_changes_step)

pub state_by_step : (changes : List TableChange) (i : ℕ) (none : TableChange) (place : ℕ) (state : AccountState) → i < length changes → state_by (drop (i + 1) changes) place (state_by_change (get_or changes i none) place state) ≡ state_by (drop i changes) place state
state_by_step changes i none place state lt = sym (at_drop_more (λ (rest : List TableChange). state_by rest place state) changes i none lt)

pub ruleset stating = (state_by_step)

-- ---- an account after them

abbrev stated : Option Account → Option AccountState
stated found = option_map state_of found

slice_get-same : (place : ℕ) (change : Account → Account) (accounts : List Account) → slice_get (at_place place change accounts) place ≡ option_map change (slice_get accounts place)
slice_get-same place change [] = refl
slice_get-same zero change (account ∷ accounts) = refl
slice_get-same (suc place) change (account ∷ accounts) = slice_get-same place change accounts

slice_get-other : (place other : ℕ) (change : Account → Account) (accounts : List Account) → place ≢ other → slice_get (at_place place change accounts) other ≡ slice_get accounts other
slice_get-other place other change [] differ = refl
slice_get-other zero zero change (account ∷ accounts) differ = absurd (differ refl)
slice_get-other zero (suc other) change (account ∷ accounts) differ = refl
slice_get-other (suc place) zero change (account ∷ accounts) differ = refl
slice_get-other (suc place) (suc other) change (account ∷ accounts) differ = slice_get-other place other change accounts (λ same. differ (ap suc same))

account_stated : (change : Change) (account : Account) → state_of (account_by change account) ≡ state_by_change_of change (state_of account)
account_stated (Count count) account = refl
account_stated (Hash hash) account = refl

state-set : (change : Change) (found : Option Account) → stated (option_map (account_by change) found) ≡ option_map (λ account. state_by_change_of change (state_of account)) found
state-set change None = refl
state-set change (Some account) = ap (λ (s : AccountState). Some s) (account_stated change account)

one_state : (change : Change) (at place : ℕ) (table : AccountTable) → stated (slice_get (with_change_of change at table).accounts place) ≡ option_map (λ account. if at == place then state_by_change_of change (state_of account) else state_of account) (slice_get table.accounts place)
one_state change at place table =
    ap (λ (accounts : List Account). stated (slice_get accounts place)) (change_accounts change at table)
    ∙ elim (cases_Bool (at == place)) [
      | inl same ↦
          let here : slice_get (at_place at (account_by change) table.accounts) place ≡ option_map (account_by change) (slice_get table.accounts place) =
          rw (eqb-true at place same) (slice_get-same place (account_by change) table.accounts) in
          rw same (ap stated here ∙ state-set change (slice_get table.accounts place))
      | inr other ↦ rw other (ap stated (slice_get-other at place (account_by change) table.accounts (λ same. absurd (let equal = eq-eqb at place same in cc))))
    ]

-- the states of an account behind changes, whether the account is there or not
states_later : (changes : List TableChange) (place : ℕ) (found : Option Account) → option_map (λ account. state_by changes place (state_of account)) found ≡ option_map (state_by changes place) (stated found)
states_later changes place None = refl
states_later changes place (Some account) = refl

states_first : (changes : List TableChange) (change : TableChange) (place : ℕ) (found : Option Account) → option_map (state_by changes place) (option_map (λ account. state_by_change change place (state_of account)) found) ≡ option_map (λ account. state_by (change ∷ changes) place (state_of account)) found
states_first changes change place None = refl
states_first changes change place (Some account) = refl

pub with_changes-states : (changes : List TableChange) (table : AccountTable) (place : ℕ) → stated (slice_get (with_changes changes table).accounts place) ≡ option_map (λ account. state_by changes place (state_of account)) (slice_get table.accounts place)
with_changes-states [] table place = refl
with_changes-states (change ∷ changes) table place =
    with_changes-states changes (with_change change table) place
    ∙ states_later changes place (slice_get (with_change change table).accounts place)
    ∙ ap (λ (found : Option AccountState). option_map (state_by changes place) found) (one_state change.change change.place place table)
    ∙ states_first changes change place (slice_get table.accounts place)

pub changed_some : (changes : List TableChange) (table : AccountTable) (place : ℕ) (account : Account) → Some account ≡ slice_get table.accounts place → Some (state_by changes place (state_of account)) ≡ option_map state_of (slice_get (with_changes changes table).accounts place)
changed_some changes table place account found =
    ap (λ (o : Option Account). option_map (λ a. state_by changes place (state_of a)) o) found
    ∙ sym (with_changes-states changes table place)

pub changed_none : (changes : List TableChange) (table : AccountTable) (place : ℕ) → None ≡ slice_get table.accounts place → None ≡ option_map state_of (slice_get (with_changes changes table).accounts place)
changed_none changes table place past =
    ap (λ (o : Option Account). option_map (λ a. state_by changes place (state_of a)) o) past
    ∙ sym (with_changes-states changes table place)

pub ruleset changing = (changed_some, changed_none)

counted_some : (found : Option Account) (state : AccountState) → Some state ≡ option_map state_of found → Some state.bad_count ≡ option_map (λ account. account.bad_count) found
counted_some None state is = absurd cc
counted_some (Some account) state is = let same : state ≡ state_of account = cc in ap (λ (s : AccountState). Some s.bad_count) same

counted_none : (found : Option Account) → None ≡ option_map state_of found → None ≡ option_map (λ account. account.bad_count) found
counted_none None is = refl
counted_none (Some account) is = absurd cc

pub count_some : (changes : List TableChange) (table : AccountTable) (place : ℕ) (state : AccountState) → Some state ≡ option_map state_of (slice_get (with_changes changes table).accounts place) → Some state.bad_count ≡ option_map (λ account. account.bad_count) (slice_get (with_changes changes table).accounts place)
count_some changes table place state is = counted_some (slice_get (with_changes changes table).accounts place) state is

pub count_none : (changes : List TableChange) (table : AccountTable) (place : ℕ) → None ≡ option_map state_of (slice_get (with_changes changes table).accounts place) → None ≡ option_map (λ account. account.bad_count) (slice_get (with_changes changes table).accounts place)
count_none changes table place is = counted_none (slice_get (with_changes changes table).accounts place) is

pub ruleset counting = (count_some, count_none)

-- ---- all accounts after them

after_none : (place : ℕ) (accounts : List Account) → accounts_after [] place accounts ≡ accounts
after_none place [] = refl
after_none place (account ∷ accounts) = ap (λ (xs : List Account). account ∷ xs) (after_none (suc place) accounts)

-- what the account at a place has, where the change is of it or of another one
step_state : (test : Bool) (changes : List TableChange) (place : ℕ) (change : TableChange) (account : Account) → (change.place == place) ≡ test →
    state_by (change ∷ changes) place (state_of account) ≡ state_by changes place (if test then state_by_change_of change.change (state_of account) else state_of account)
step_state test changes place change account is =
    ap (λ (t : Bool). state_by changes place (if t then state_by_change_of change.change (state_of account) else state_of account)) is

-- a change of an account before them changes nothing
after_below : (change : TableChange) (changes : List TableChange) (place : ℕ) (accounts : List Account) → change.place < place → accounts_after (change ∷ changes) place accounts ≡ accounts_after changes place accounts
after_below change changes place [] below = refl
after_below change changes place (account ∷ accounts) below =
    let other : (change.place == place) ≡ false = ne_eqb change.place place (λ e. omega (arith, below, e)) in
    let first = ap (λ (s : AccountState). with_state s account) (step_state false changes place change account other) in
    let rest = after_below change changes (suc place) accounts (omega (arith, below)) in
    (λ i. first i ∷ rest i)

account_after : (change : Change) (state : AccountState) (account : Account) → with_state state (account_by change account) ≡ with_state state account
account_after (Count count) state account = refl
account_after (Hash hash) state account = refl

after_change : (change : TableChange) (steps : ℕ) (changes : List TableChange) (place : ℕ) (accounts : List Account) → change.place ≡ steps + place →
    accounts_after (change ∷ changes) place accounts ≡ accounts_after changes place (at_place steps (account_by change.change) accounts)
after_change change steps changes place [] at = refl
after_change change zero changes place (account ∷ accounts) at =
    let here : (change.place == place) ≡ true = eq-eqb change.place place (omega (arith, at)) in
    let first : with_state (state_by (change ∷ changes) place (state_of account)) account ≡ with_state (state_by changes place (state_of (account_by change.change account))) (account_by change.change account) =
    ap (λ (s : AccountState). with_state s account) (step_state true changes place change account here)
    ∙ ap (λ (s : AccountState). with_state (state_by changes place s) account) (sym (account_stated change.change account))
    ∙ sym (account_after change.change (state_by changes place (state_of (account_by change.change account))) account) in
    let rest : accounts_after (change ∷ changes) (suc place) accounts ≡ accounts_after changes (suc place) accounts = after_below change changes (suc place) accounts (omega (arith, at)) in
    (λ i. first i ∷ rest i)
after_change change (suc steps) changes place (account ∷ accounts) at =
    let other : (change.place == place) ≡ false = ne_eqb change.place place (λ e. omega (arith, at, e)) in
    let first = ap (λ (s : AccountState). with_state s account) (step_state false changes place change account other) in
    let rest = after_change change steps changes (suc place) accounts (omega (arith, at)) in
    (λ i. first i ∷ rest i)

pub with_changes-accounts : (changes : List TableChange) (table : AccountTable) → (with_changes changes table).accounts ≡ accounts_after changes 0 table.accounts
with_changes-accounts [] table = sym (after_none 0 table.accounts)
with_changes-accounts (change ∷ changes) table =
    with_changes-accounts changes (with_change change table)
    ∙ ap (λ (accounts : List Account). accounts_after changes 0 accounts) (change_accounts change.change change.place table)
    ∙ sym (after_change change change.place changes 0 table.accounts (omega arith))

pub secrets_left : (changes : List TableChange) (table : AccountTable) → secrets_of (accounts_after changes 0 table.accounts) ≡ secrets_of (with_changes changes table).accounts
secrets_left changes table = ap secrets_of (sym (with_changes-accounts changes table))

-- the lines of one account, and of those behind it
secret_first : (account : Account) (accounts : List Account) → secrets_of (account ∷ accounts) ≡ secrets_of (account ∷ []) ++ secrets_of accounts
secret_first account accounts =
    ap (λ (changed : List Account). flat_map secret_line changed) (filter-append (λ (a : Account). a.changed) (account ∷ []) accounts)
    ∙ flat_map-append secret_line (filter (λ (a : Account). a.changed) (account ∷ [])) (filter (λ (a : Account). a.changed) accounts)

secret_one : (changed : Bool) (count : ℕ) (hash : List ℕ) (account : Account) → secrets_of (with_state (record { bad_count = count; hash = hash; changed = changed }) account ∷ []) ≡ line_if changed account.name hash
secret_one false count hash account = refl
secret_one true count hash account = append-nil (line_of account.name hash)

pub line_put : (changes : List TableChange) (accounts : List Account) (place : ℕ) (account : Account) (old new : List ℕ) → slice_get accounts place ≡ Some account →
    new ≡ old ++ line_if (state_by changes place (state_of account)).changed account.name (state_by changes place (state_of account)).hash →
    new ++ secrets_of (accounts_after changes (place + 1) (drop (place + 1) accounts)) ≡ old ++ secrets_of (accounts_after changes place (drop place accounts))
line_put changes accounts place account old new found put =
    let state : AccountState = state_by changes place (state_of account) in
    let rest : List Account = drop (place + 1) accounts in
    let here : drop place accounts ≡ account ∷ rest =
    at_drop_more (λ (xs : List Account). xs) accounts place account (slice_get_within accounts place account found)
    ∙ ap (λ (a : Account). a ∷ rest) (get_or_from_slice_get accounts place account account found) in
    let next : suc place ≡ place + 1 = omega arith in
    ap (λ (xs : List ℕ). xs ++ secrets_of (accounts_after changes (place + 1) rest)) put
    ∙ append_assoc old (line_if state.changed account.name state.hash) (secrets_of (accounts_after changes (place + 1) rest))
    ∙ ap (λ (xs : List ℕ). old ++ (xs ++ secrets_of (accounts_after changes (place + 1) rest))) (sym (secret_one state.changed state.bad_count state.hash account))
    ∙ ap (λ (n : ℕ). old ++ (secrets_of (with_state state account ∷ []) ++ secrets_of (accounts_after changes n rest))) (sym next)
    ∙ ap (λ (xs : List ℕ). old ++ xs) (sym (secret_first (with_state state account) (accounts_after changes (suc place) rest)))
    ∙ ap (λ (xs : List Account). old ++ secrets_of (accounts_after changes place xs)) (sym here)

-- ---- look-ups, where what may change alone differs

place_of-clean : (clean : Account → Account) (test : Account → Bool) → ((account : Account) → test (clean account) ≡ test account) → (accounts : List Account) → place_of test (map clean accounts) ≡ place_of test accounts
place_of-clean clean test blind [] = refl
place_of-clean clean test blind (account ∷ accounts) = rw (blind account, place_of-clean clean test blind accounts) refl

list_any-clean : (clean : Account → Account) (test : Account → Bool) → ((account : Account) → test (clean account) ≡ test account) → (accounts : List Account) → list_any test (map clean accounts) ≡ list_any test accounts
list_any-clean clean test blind [] = refl
list_any-clean clean test blind (account ∷ accounts) = rw (blind account, list_any-clean clean test blind accounts) refl

slice_get-clean : (clean : Account → Account) (accounts : List Account) (place : ℕ) → slice_get (map clean accounts) place ≡ option_map clean (slice_get accounts place)
slice_get-clean clean [] place = refl
slice_get-clean clean (account ∷ accounts) zero = refl
slice_get-clean clean (account ∷ accounts) (suc place) = slice_get-clean clean accounts place

module _ (old new : AccountTable) (differ : DifferInStates old new) where
  pub places-left : (name : List ℕ) → place_in new.accounts name ≡ place_in old.accounts name
  unfolding place_in
  places-left name =
      sym (place_of-clean without_state (has_name name) (λ account. refl) new.accounts)
      ∙ ap (place_of (has_name name)) differ.accounts
      ∙ place_of-clean without_state (has_name name) (λ account. refl) old.accounts

  pub machines-left : (name : List ℕ) (channel : ℕ) (computer : List ℕ) → machine_in new.accounts name channel computer ≡ machine_in old.accounts name channel computer
  unfolding machine_in
  machines-left name channel computer =
      let test : Account → Bool = λ account. has_name name account && is_machine_for channel computer account in
      sym (place_of-clean without_state test (λ account. refl) new.accounts)
      ∙ ap (place_of test) differ.accounts
      ∙ place_of-clean without_state test (λ account. refl) old.accounts

  pub known-left : (computer : List ℕ) → knows_in new.accounts computer ≡ knows_in old.accounts computer
  unfolding knows_in
  known-left computer =
      let named : Account → Bool = λ account. has_name (machine_name computer) account && is_machine account.kind in
      ap (λ (b : Bool). b || list_any (is_trust_for computer) new.accounts)
      (sym (list_any-clean without_state named (λ account. refl) new.accounts) ∙ ap (list_any named) differ.accounts ∙ list_any-clean without_state named (λ account. refl) old.accounts)
      ∙ ap (λ (b : Bool). list_any named old.accounts || b)
      (sym (list_any-clean without_state (is_trust_for computer) (λ account. refl) new.accounts) ∙ ap (list_any (is_trust_for computer)) differ.accounts ∙ list_any-clean without_state (is_trust_for computer) (λ account. refl) old.accounts)

  pub routes-left : (domain : List ℕ) → route_in new domain ≡ route_in old domain
  unfolding route_in
  routes-left domain = rw (differ.domain, differ.trusts) refl

  pub accounts-left : (place : ℕ) → option_map without_state (slice_get new.accounts place) ≡ option_map without_state (slice_get old.accounts place)
  accounts-left place =
      sym (slice_get-clean without_state new.accounts place)
      ∙ ap (λ (xs : List Account). slice_get xs place) differ.accounts
      ∙ slice_get-clean without_state old.accounts place

-- where counts of bad passwords alone differ
module _ (old new : AccountTable) (differ : DifferInCounts old new) where
  pub places-stay : (name : List ℕ) → place_in new.accounts name ≡ place_in old.accounts name
  places-stay name = places-left old new (counts-states old new differ) name

  pub machines-stay : (name : List ℕ) (channel : ℕ) (computer : List ℕ) → machine_in new.accounts name channel computer ≡ machine_in old.accounts name channel computer
  machines-stay name channel computer = machines-left old new (counts-states old new differ) name channel computer

  pub known-stay : (computer : List ℕ) → knows_in new.accounts computer ≡ knows_in old.accounts computer
  known-stay computer = known-left old new (counts-states old new differ) computer

  pub routes-stay : (domain : List ℕ) → route_in new domain ≡ route_in old domain
  routes-stay domain = routes-left old new (counts-states old new differ) domain

  pub accounts-stay : (place : ℕ) → option_map (with_count 0) (slice_get new.accounts place) ≡ option_map (with_count 0) (slice_get old.accounts place)
  accounts-stay place =
      sym (slice_get-clean (with_count 0) new.accounts place)
      ∙ ap (λ (xs : List Account). slice_get xs place) differ.accounts
      ∙ slice_get-clean (with_count 0) old.accounts place
