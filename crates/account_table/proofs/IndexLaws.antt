-- Laws of the index by name: what it finds is what a walk over the accounts finds.
use Rattle.std.proofs.Common.{◌≡◌, ℕ, zero, suc, ◌+◌, ◌^◌, ◌<◌, ◌≤◌, ltb, ◌&&◌, Bool, true, false, List, [], ◌∷◌, ◌++◌, length, Option, Some, None, option_map, is_some, Vec, IsTrue, refl, sym, ap, ◌∙◌, arith, inl, inr, zero-add, add-zero}
use Rattle.std.specs.List.{AllByRecursion, list_all, list_any, position, position_from, slice_get}
use Rattle.std.specs.Bool.{then_some}
use Rattle.std.specs.Map.{keys_of}
use Rattle.std.specs.Option.{option_map_or, option_and_then}
use Rattle.std.specs.Str.{bytes_eq}
use Rattle.std.specs.declared.alloc.Global.{Global}
use Rattle.std.proofs.lemmas.Bool.{cases_Bool, not-true, and_parts, or_parts, leb-true, ltb-true, le-leb}
use Rattle.std.proofs.lemmas.Iterator.Adapters.{position_from-zero}
use Rattle.std.proofs.lemmas.List.{map-append, length-map, length-append}
use Rattle.std.proofs.lemmas.List.Folds.{list_all-append, list_any-append}
use Rattle.std.proofs.lemmas.Option.{slice_get-map}
use Rattle.std.proofs.lemmas.Slice.Eq.{bytes_eq-Decides}
use Rattle.indexmap.specs.IndexMap.{insert_entry, set_value_at}
use Rattle.indexmap.specs.Layout.{length-set_value_at}
use Rattle.wire_base.specs.Maps.{place_of}
use Rattle.wire_base.specs.Names.{upper_case, SameName, same_name}
use Rattle.wire_base.proofs.NameLaws.{same_name-lengths, same_name-Decides}
use Rattle.account_table.specs.declared.account.Account.{Account}
use Rattle.account_table.specs.AccountTable.{has_distinct, has_distinct_names}
use Rattle.account_table.specs.Changes.{at_place}
use Rattle.account_table.specs.Document.{has_name}
use Rattle.account_table.specs.Index.{Entry, has_longs, has_few_sids, is_entry, is_index, accounts_in, machine_found, computer_found}
use Rattle.account_table.specs.Limits.{account_limit, group_limit, name_limit}
use Rattle.account_table.specs.Ranges.{AreLongs, InRangeSid}
use Rattle.wire_base.specs.Sid.{SidParts}
use Rattle.account_table.specs.LookUps.{machine_name, place_in, machine_in, knows_named, knows_in, is_machine, is_machine_for, is_trust_for}

-- ---- the place of the first that passes

later_place : (o : Option ℕ) (i : ℕ) → option_map (λ p. (i + 1) + p) o ≡ option_map (λ p. i + p) (option_map suc o)
later_place None i = refl
later_place (Some p) i = ap (λ (n : ℕ). Some n) (omega arith)

position_from-place_of : {X : Type 0} (test : X → Bool) (i : ℕ) (xs : List X) → position_from test i xs ≡ option_map (λ p. i + p) (place_of test xs)
position_from-place_of test i [] = refl
position_from-place_of test i (x ∷ xs) =
    elim (cases_Bool (test x)) [
      | inl pass ↦ rw (pass, add-zero i) refl
      | inr fail ↦ rw (fail, position_from-place_of test (i + 1) xs) (later_place (place_of test xs) i)
    ]

from_zero : (o : Option ℕ) → option_map (λ p. 0 + p) o ≡ o
from_zero None = refl
from_zero (Some p) = ap (λ (n : ℕ). Some n) (zero-add p)

pub position-place_of : {X : Type 0} (test : X → Bool) (xs : List X) → position test xs ≡ place_of test xs
position-place_of test xs = position_from-zero test xs ∙ position_from-place_of test 0 xs ∙ from_zero (place_of test xs)

pub ruleset placing = (position-place_of)

is_some-later : (o : Option ℕ) → is_some (option_map suc o) ≡ is_some o
is_some-later None = refl
is_some-later (Some p) = refl

is_some-then_some : (b : Bool) (p : ℕ) → is_some (then_some b p) ≡ b
is_some-then_some true p = refl
is_some-then_some false p = refl

-- one passes where there is a first
pub list_any-place_of : {X : Type 0} (test : X → Bool) (xs : List X) → list_any test xs ≡ is_some (place_of test xs)
list_any-place_of test [] = refl
list_any-place_of test (x ∷ xs) =
    elim (cases_Bool (test x)) [
      | inl pass ↦ rw pass refl
      | inr fail ↦ rw (fail, list_any-place_of test xs) (sym (is_some-later (place_of test xs)))
    ]

-- ---- an entry

pub record IsEntry (entry : Entry) : Type 0 where
  pub key : entry.0.items ≡ upper_case entry.1.name
  pub name : length entry.1.name ≤ 64
  pub groups : length entry.1.groups ≤ 256
  pub sids : has_few_sids entry.1.extra_sids ≡ true

pub IsEntry-from : (entry : Entry) → is_entry entry ≡ true → IsEntry entry
IsEntry-from entry e =
    let whole = and_parts _ _ e in
    let parts = and_parts _ _ whole.0 in
    let front = and_parts _ _ parts.0 in
    record {
      key = (bytes_eq-Decides entry.0.items (upper_case entry.1.name)).0 front.0;
      name = leb-true _ _ front.1;
      groups = leb-true _ _ parts.1;
      sids = whole.1;
    }

-- the keys find what the names find
place-keys : (name : List ℕ) (entries : List Entry) → list_all is_entry entries ≡ true → place_of (λ key. bytes_eq (upper_case name) key.items) (keys_of entries) ≡ place_of (has_name name) (accounts_in entries)
unfolding same_name
place-keys name [] each = refl
place-keys name (entry ∷ entries) each =
    let parts = and_parts (is_entry entry) (list_all is_entry entries) each in
    rw ((IsEntry-from entry parts.0).key, place-keys name entries parts.1) refl

-- no account has a longer name than 64
pub place_in-long : (name : List ℕ) (entries : List Entry) → list_all is_entry entries ≡ true → 64 < length name → place_in (accounts_in entries) name ≡ None
unfolding place_in
place_in-long name [] each long = refl
place_in-long name (entry ∷ entries) each long =
    let parts = and_parts (is_entry entry) (list_all is_entry entries) each in
    let short = (IsEntry-from entry parts.0).name in
    let differ : same_name name entry.1.name ≡ false = same_name-lengths name entry.1.name (λ e. omega arith) in
    rw (differ, place_in-long name entries parts.1 long) refl

pub position-place_in : (name : List ℕ) (entries : List Entry) → list_all is_entry entries ≡ true → position (λ key. bytes_eq (upper_case name) key.items) (keys_of entries) ≡ place_in (accounts_in entries) name
unfolding place_in
position-place_in name entries each = position-place_of (λ (key : Vec ℕ Global). bytes_eq (upper_case name) key.items) (keys_of entries) ∙ place-keys name entries each

-- ---- an index

-- an index of accounts: few entries, each an entry, of accounts with different names
pub record IsIndex (entries : List Entry) : Type 0 where
  pub few : length entries ≤ account_limit
  pub each : list_all is_entry entries ≡ true
  pub different : has_distinct_names (accounts_in entries) ≡ true

pub IsIndex-from : (entries : List Entry) → is_index entries ≡ true → IsIndex entries
IsIndex-from entries e =
    let parts = and_parts _ _ e in
    let front = and_parts _ _ parts.0 in
    record { few = leb-true _ _ front.0; each = front.1; different = parts.1 }

-- an entry of it
pub entry_at : (entries : List Entry) (place : ℕ) (entry : Entry) → list_all is_entry entries ≡ true → slice_get entries place ≡ Some entry → IsEntry entry
entry_at [] place entry each found = absurd cc
entry_at (first ∷ entries) zero entry each found =
    let parts = and_parts (is_entry first) (list_all is_entry entries) each in
    let same : first ≡ entry = cc in
    IsEntry-from entry (rw (← same) parts.0)
entry_at (first ∷ entries) (suc place) entry each found =
    let parts = and_parts (is_entry first) (list_all is_entry entries) each in
    entry_at entries place entry parts.1 found

-- ---- what the calls answer

-- the place that the index finds
pub found_place : (name key : List ℕ) (entries : List Entry) (accounts : List Account) (found : Option ℕ) → accounts_in entries ≡ accounts → is_index entries ≡ true → key ≡ upper_case name → found ≡ position (λ k. bytes_eq key k.items) (keys_of entries) → found ≡ place_in accounts name
found_place name key entries accounts found view whole upper at =
    rw (← view, ← position-place_in name entries (IsIndex-from entries whole).each, ← upper) at

pub long_place : (name : List ℕ) (entries : List Entry) (accounts : List Account) → accounts_in entries ≡ accounts → is_index entries ≡ true → 64 < length name → place_in accounts name ≡ None
long_place name entries accounts view whole long = rw (← view) (place_in-long name entries (IsIndex-from entries whole).each long)

-- past the end
pub none_past : (entries : List Entry) (accounts : List Account) (place : ℕ) → accounts_in entries ≡ accounts → None ≡ slice_get entries place → None ≡ slice_get accounts place
none_past entries accounts place view past = rw (← view, slice_get-map (λ (entry : Entry). entry.1) entries place, ← past) refl

-- at an entry
pub some_at : (entries : List Entry) (accounts : List Account) (place : ℕ) (entry : Entry) → accounts_in entries ≡ accounts → Some entry ≡ slice_get entries place → Some entry.1 ≡ slice_get accounts place
some_at entries accounts place entry view found = rw (← view, slice_get-map (λ (entry : Entry). entry.1) entries place, ← found) refl

pub groups_found : (entries : List Entry) (place : ℕ) (entry : Entry) → is_index entries ≡ true → Some entry ≡ slice_get entries place → length entry.1.groups ≤ 256
groups_found entries place entry whole found = (entry_at entries place entry (IsIndex-from entries whole).each (sym found)).groups

pub sids_found : (entries : List Entry) (place : ℕ) (entry : Entry) → is_index entries ≡ true → Some entry ≡ slice_get entries place → IsTrue (has_few_sids entry.1.extra_sids)
sids_found entries place entry whole found = (entry_at entries place entry (IsIndex-from entries whole).each (sym found)).sids

-- identifiers in it have numbers of 32 bits

longs_of : (numbers : List ℕ) → list_all (λ n. ltb n (2 ^ 32)) numbers ≡ true → AreLongs numbers
longs_of [] all = tt
longs_of (n ∷ numbers) all =
    let parts = and_parts (ltb n (2 ^ 32)) (list_all (λ n. ltb n (2 ^ 32)) numbers) all in
    (ltb-true _ _ parts.0, longs_of numbers parts.1)

sid_in_range : (sid : SidParts) → has_longs sid ≡ true → InRangeSid sid
sid_in_range sid e =
    let parts = and_parts _ _ e in
    let form = and_parts _ _ parts.0 in
    let front = and_parts _ _ form.0 in
    (record { authority = ltb-true _ _ front.0; one = leb-true _ _ front.1; at_most = leb-true _ _ form.1 }, longs_of sid.numbers parts.1)

each_in_range : (sids : List SidParts) → list_all has_longs sids ≡ true → AllByRecursion InRangeSid sids
each_in_range [] all = tt
each_in_range (sid ∷ sids) all =
    let parts = and_parts (has_longs sid) (list_all has_longs sids) all in
    (sid_in_range sid parts.0, each_in_range sids parts.1)

pub sids_in_range : (sids : List SidParts) → IsTrue (has_few_sids sids) → (length sids ≤ 16) × AllByRecursion InRangeSid sids
sids_in_range sids few =
    let parts = and_parts _ _ few in
    (leb-true _ _ parts.0, each_in_range sids parts.1)

-- ---- one account more

none_on : (o : Option ℕ) → option_map suc o ≡ None → o ≡ None
none_on None e = refl
none_on (Some p) e = absurd cc

insert_new : (key : Vec ℕ Global) (account : Account) (entries : List Entry) → place_of (λ k. bytes_eq key.items k.items) (keys_of entries) ≡ None → insert_entry (λ a b. bytes_eq a.items b.items) entries key account ≡ entries ++ (key, account) ∷ []
insert_new key account [] none = refl
insert_new key account (entry ∷ entries) none =
    elim (cases_Bool (bytes_eq key.items entry.0.items)) [
      | inl same ↦ absurd (let here : place_of (λ k. bytes_eq key.items k.items) (keys_of (entry ∷ entries)) ≡ Some 0 = rw same refl in cc)
      | inr other ↦
          let later : place_of (λ k. bytes_eq key.items k.items) (keys_of (entry ∷ entries)) ≡ option_map suc (place_of (λ k. bytes_eq key.items k.items) (keys_of entries)) = rw other refl in
          rw (other, insert_new key account entries (none_on _ (sym later ∙ none))) refl
    ]

-- a new account goes last
pub inserted : (key : Vec ℕ Global) (account : Account) (entries new : List Entry) (accounts : List Account) → accounts_in entries ≡ accounts → is_index entries ≡ true → key.items ≡ upper_case account.name → place_in accounts account.name ≡ None → new ≡ insert_entry (λ a b. bytes_eq a.items b.items) entries key account → new ≡ entries ++ (key, account) ∷ []
unfolding place_in
inserted key account entries new accounts view whole upper none made =
    made ∙ insert_new key account entries (rw upper (place-keys account.name entries (IsIndex-from entries whole).each ∙ rw view none))

pub accounts_in-inserted : (key : Vec ℕ Global) (account : Account) (entries new : List Entry) (accounts : List Account) → accounts_in entries ≡ accounts → new ≡ entries ++ (key, account) ∷ [] → accounts_in new ≡ accounts ++ account ∷ []
accounts_in-inserted key account entries new accounts view made =
    rw (made, ← view) (map-append (λ (entry : Entry). entry.1) entries ((key, account) ∷ []))

is_entry-from : (key : Vec ℕ Global) (account : Account) → key.items ≡ upper_case account.name → length account.name ≤ 64 → length account.groups ≤ 256 → has_few_sids account.extra_sids ≡ true → is_entry (key, account) ≡ true
is_entry-from key account upper short groups sids =
    rw ((bytes_eq-Decides key.items (upper_case account.name)).1 upper, le-leb _ _ short, le-leb _ _ groups, sids) refl

length-accounts_in : (entries : List Entry) → length (accounts_in entries) ≡ length entries
length-accounts_in entries = length-map entries (λ (entry : Entry). entry.1)

-- ---- the name of a computer's account

pub length-machine_name : (computer : List ℕ) → length (machine_name computer) ≡ length computer + 1
length-machine_name computer = length-append computer (36 ∷ [])

pub machine_name-lengths : (name computer : List ℕ) → (length name ≡ length computer + 1 → ⊥) → same_name name (machine_name computer) ≡ false
machine_name-lengths name computer differ = same_name-lengths name (machine_name computer) (λ e. differ (e ∙ length-machine_name computer))

pub long_machine : (computer : List ℕ) (entries : List Entry) (accounts : List Account) → accounts_in entries ≡ accounts → is_index entries ≡ true → 64 ≤ length computer → place_in accounts (machine_name computer) ≡ None
long_machine computer entries accounts view whole long = long_place (machine_name computer) entries accounts view whole (omega (arith, length-machine_name computer))

-- ---- names that differ

pub same_name-sym : (one other : List ℕ) → same_name other one ≡ false → same_name one other ≡ false
same_name-sym one other differ =
    elim (cases_Bool (same_name one other)) [
      | inl same ↦ absurd (let back : same_name other one ≡ true = (same_name-Decides other one).1 (sym ((same_name-Decides one other).0 same)) in cc)
      | inr other_name ↦ other_name
    ]

none_later : {T : Type 0} (test : T → Bool) (account : T) (accounts : List T) → place_of test (account ∷ accounts) ≡ None → (test account ≡ false) × (place_of test accounts ≡ None)
none_later test account accounts none =
    elim (cases_Bool (test account)) [
      | inl pass ↦ absurd (let here : place_of test (account ∷ accounts) ≡ Some 0 = rw pass refl in cc)
      | inr fail ↦ (fail, none_on _ (let later : place_of test (account ∷ accounts) ≡ option_map suc (place_of test accounts) = rw fail refl in sym later ∙ none))
    ]

pub distinct_more : {T : Type 0} (name : T → List ℕ) (item : T) (items : List T) → has_distinct name items ≡ true → place_of (λ other. same_name (name item) (name other)) items ≡ None → has_distinct name (items ++ item ∷ []) ≡ true
distinct_more name item [] distinct none = refl
distinct_more {T = T} name item (first ∷ items) distinct none =
    let parts = and_parts _ _ distinct in
    let later = none_later (λ (other : T). same_name (name item) (name other)) first items none in
    let differ : same_name (name first) (name item) ≡ false = same_name-sym (name first) (name item) later.0 in
    let before : list_any (λ (other : T). same_name (name first) (name other)) items ≡ false = not-true _ parts.0 in
    rw (list_any-append (λ (other : T). same_name (name first) (name other)) items (item ∷ []), before, differ, distinct_more name item items parts.1 later.1) refl

-- an account of a new name leaves the names distinct
pub has_distinct_names-more : (accounts new : List Account) (account : Account) → new ≡ accounts ++ account ∷ [] → has_distinct_names accounts ≡ true → place_in accounts account.name ≡ None → has_distinct_names new ≡ true
unfolding place_in
has_distinct_names-more accounts new account made distinct none = rw made (distinct_more (λ (a : Account). a.name) account accounts distinct none)

pub is_index-inserted : (key : Vec ℕ Global) (account : Account) (entries new : List Entry) (accounts : List Account) → accounts_in entries ≡ accounts → is_index entries ≡ true → length accounts < account_limit → place_in accounts account.name ≡ None → key.items ≡ upper_case account.name → length account.name ≤ name_limit → length account.groups ≤ group_limit → IsTrue (has_few_sids account.extra_sids) → new ≡ entries ++ (key, account) ∷ [] → is_index new ≡ true
is_index-inserted key account entries new accounts view whole room fresh upper short groups sids made =
    let index = IsIndex-from entries whole in
    let count : length new ≤ account_limit = rw made (omega (arith, length-append entries ((key, account) ∷ []), length-accounts_in entries, ap length view)) in
    let each : list_all is_entry new ≡ true = rw (made, list_all-append is_entry entries ((key, account) ∷ []), index.each, is_entry-from key account upper short groups sids) refl in
    let different : has_distinct_names (accounts_in new) ≡ true =
    has_distinct_names-more accounts (accounts_in new) account (accounts_in-inserted key account entries new accounts view made) (rw (← view) index.different) fresh in
    rw (le-leb _ _ count, each, different) refl

-- ---- a change at a place, which leaves names, groups and identifiers

module _ (change : Account → Account) (named : (account : Account) → (change account).name ≡ account.name) (entered : (key : Vec ℕ Global) (account : Account) → is_entry (key, change account) ≡ is_entry (key, account)) where
  any-at_place : (test : Account → Bool) → ((account : Account) → test (change account) ≡ test account) → (place : ℕ) (accounts : List Account) → list_any test (at_place place change accounts) ≡ list_any test accounts
  any-at_place test blind place [] = refl
  any-at_place test blind zero (account ∷ accounts) = rw (blind account) refl
  any-at_place test blind (suc place) (account ∷ accounts) = rw (any-at_place test blind place accounts) refl

  distinct-at_place : (place : ℕ) (accounts : List Account) → has_distinct_names (at_place place change accounts) ≡ has_distinct_names accounts
  distinct-at_place place [] = refl
  distinct-at_place zero (account ∷ accounts) = rw (named account) refl
  distinct-at_place (suc place) (account ∷ accounts) =
      let test : Account → Bool = λ other. same_name account.name other.name in
      rw (any-at_place test (λ other. ap (same_name account.name) (named other)) place accounts, distinct-at_place place accounts) refl

  -- the entries with the changed account as the value at the place
  accounts_in-set : (entries : List Entry) (place : ℕ) (account : Account) → slice_get (accounts_in entries) place ≡ Some account → accounts_in (set_value_at entries place (change account)) ≡ at_place place change (accounts_in entries)
  accounts_in-set [] place account found = refl
  accounts_in-set (entry ∷ entries) zero account found =
      let same : entry.1 ≡ account = cc in
      ap (λ (a : Account). change a ∷ accounts_in entries) (sym same)
  accounts_in-set (entry ∷ entries) (suc place) account found =
      ap (λ (xs : List Account). entry.1 ∷ xs) (accounts_in-set entries place account found)

  each-set : (entries : List Entry) (place : ℕ) (account : Account) → slice_get (accounts_in entries) place ≡ Some account → list_all is_entry entries ≡ true → list_all is_entry (set_value_at entries place (change account)) ≡ true
  each-set [] place account found each = refl
  each-set (entry ∷ entries) zero account found each =
      let same : entry.1 ≡ account = cc in
      let parts = and_parts (is_entry entry) (list_all is_entry entries) each in
      let one : is_entry (entry.0, change account) ≡ true = entered entry.0 account ∙ ap (λ (a : Account). is_entry (entry.0, a)) (sym same) ∙ parts.0 in
      rw (one, parts.1) refl
  each-set (entry ∷ entries) (suc place) account found each =
      let parts = and_parts (is_entry entry) (list_all is_entry entries) each in
      rw (parts.0, each-set entries place account found parts.1) refl

  pub changed_accounts : (entries new : List Entry) (accounts : List Account) (place : ℕ) (account : Account) → accounts_in entries ≡ accounts → slice_get (accounts_in entries) place ≡ Some account → new ≡ set_value_at entries place (change account) → accounts_in new ≡ at_place place change accounts
  changed_accounts entries new accounts place account view found made =
      rw (made, ← view) (accounts_in-set entries place account found)

  pub changed_index : (entries new : List Entry) (place : ℕ) (account : Account) → is_index entries ≡ true → slice_get (accounts_in entries) place ≡ Some account → new ≡ set_value_at entries place (change account) → is_index new ≡ true
  changed_index entries new place account whole found made =
      let index = IsIndex-from entries whole in
      let count : length new ≤ account_limit = rw made (omega (arith, length-set_value_at entries place (change account), index.few)) in
      let each : list_all is_entry new ≡ true = rw made (each-set entries place account found index.each) in
      let different : has_distinct_names (accounts_in new) ≡ true = rw (made, accounts_in-set entries place account found, distinct-at_place place (accounts_in entries)) index.different in
      rw (le-leb _ _ count, each, different) refl

-- the accounts of an index have different names
pub different_names : (entries : List Entry) (accounts : List Account) → accounts_in entries ≡ accounts → is_index entries ≡ true → IsTrue (has_distinct_names accounts)
different_names entries accounts view whole = rw (← view) (IsIndex-from entries whole).different

-- ---- the only account of a name

-- an account with another name than the first
other_name : (name : List ℕ) (first : Account) (account : Account) → has_name name first ≡ true → same_name first.name account.name ≡ false → has_name name account ≡ false
other_name name first account same differ =
    elim (cases_Bool (has_name name account)) [
      | inl also ↦
          absurd (let one : SameName name first.name = (same_name-Decides name first.name).0 same in
          let other : SameName name account.name = (same_name-Decides name account.name).0 also in
          let both : same_name first.name account.name ≡ true = (same_name-Decides first.name account.name).1 (sym one ∙ other) in
          cc)
      | inr other ↦ other
    ]

module _ (name : List ℕ) (test : Account → Bool) where
  none_by : (first : Account) (accounts : List Account) → has_name name first ≡ true → list_any (λ (other : Account). same_name first.name other.name) accounts ≡ false → place_of (λ account. has_name name account && test account) accounts ≡ None
  none_by first [] same none = refl
  none_by first (account ∷ accounts) same none =
      let parts = or_parts _ _ none in
      let differ : has_name name account ≡ false = other_name name first account same parts.0 in
      rw (differ, none_by first accounts same parts.1) refl

  later_hit : (first : Account) (accounts : List Account) (found : Option ℕ) → option_and_then (λ place. then_some (option_map_or test (slice_get (first ∷ accounts) place) false) place) (option_map suc found) ≡ option_map suc (option_and_then (λ place. then_some (option_map_or test (slice_get accounts place) false) place) found)
  later_hit first accounts None = refl
  later_hit first accounts (Some place) =
      elim (cases_Bool (option_map_or test (slice_get accounts place) false)) [
        | inl pass ↦ rw pass refl
        | inr fail ↦ rw fail refl
      ]

  -- the first account that has the name and passes is the one of that name, where it passes
  pub only_hit : (accounts : List Account) → has_distinct_names accounts ≡ true → place_of (λ account. has_name name account && test account) accounts ≡ option_and_then (λ place. then_some (option_map_or test (slice_get accounts place) false) place) (place_of (has_name name) accounts)
  only_hit [] different = refl
  only_hit (first ∷ accounts) different =
      let parts = and_parts _ _ different in
      elim (cases_Bool (has_name name first)) [
        | inl same ↦
            let none = none_by first accounts same (not-true _ parts.0) in
            elim (cases_Bool (test first)) [
              | inl pass ↦ rw (same, pass) refl
              | inr fail ↦ rw (same, fail, none) refl
            ]
        | inr other ↦ rw (other, only_hit accounts parts.1) (sym (later_hit first accounts (place_of (has_name name) accounts)))
      ]

  hit_passes : (accounts : List Account) (found : Option ℕ) → is_some (option_and_then (λ place. then_some (option_map_or test (slice_get accounts place) false) place) found) ≡ option_map_or test (option_and_then (slice_get accounts) found) false
  hit_passes accounts None = refl
  hit_passes accounts (Some place) = is_some-then_some (option_map_or test (slice_get accounts place) false) place

  -- some account has the name and passes where the one of that name does
  pub only_any : (accounts : List Account) → has_distinct_names accounts ≡ true → list_any (λ account. has_name name account && test account) accounts ≡ option_map_or test (option_and_then (slice_get accounts) (place_of (has_name name) accounts)) false
  only_any accounts different =
      list_any-place_of (λ account. has_name name account && test account) accounts
      ∙ ap is_some (only_hit accounts different)
      ∙ hit_passes accounts (place_of (has_name name) accounts)

-- ---- what the account tells that a name finds

pub found-machine_in : (accounts : List Account) (name : List ℕ) (channel : ℕ) (computer : List ℕ) → IsTrue (has_distinct_names accounts) → machine_found accounts name channel computer ≡ machine_in accounts name channel computer
unfolding machine_found machine_in place_in
found-machine_in accounts name channel computer different =
    sym (only_hit name (is_machine_for channel computer) accounts different)

pub found-knows_named : (accounts : List Account) (computer : List ℕ) → IsTrue (has_distinct_names accounts) → computer_found accounts computer ≡ knows_named accounts computer
unfolding computer_found place_in
found-knows_named accounts computer different =
    sym (only_any (machine_name computer) (λ (account : Account). is_machine account.kind) accounts different)

pub knows_in-first : (accounts : List Account) (computer : List ℕ) → IsTrue (has_distinct_names accounts) → computer_found accounts computer ≡ true → knows_in accounts computer ≡ true
unfolding knows_in
knows_in-first accounts computer different found =
    let named : knows_named accounts computer ≡ true = sym (found-knows_named accounts computer different) ∙ found in
    rw named refl

pub knows_in-other : (accounts : List Account) (computer : List ℕ) → IsTrue (has_distinct_names accounts) → computer_found accounts computer ≡ false → knows_in accounts computer ≡ list_any (is_trust_for computer) accounts
unfolding knows_in
knows_in-other accounts computer different found =
    let named : knows_named accounts computer ≡ false = sym (found-knows_named accounts computer different) ∙ found in
    rw named refl

pub ruleset knowing = (knows_in-first, knows_in-other)
