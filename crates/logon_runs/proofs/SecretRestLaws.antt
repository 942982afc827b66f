-- What a secret that is set leaves of a controller's other accounts.
-- Of `sets_leave_others`, `phases_go_on` and `any_phases_go_on`.
use Rattle.std.proofs.Common.{◌≡◌, ◌≢◌, ℕ, zero, suc, ◌&&◌, ◌||◌, Bool, true, false, List, [], ◌∷◌, ◌++◌, length, length-append, Option, Some, None, refl, sym, ap, ap₂, subst, ◌∙◌, arith, slice_get, if◌then◌else◌, inl, inr}
use Rattle.wire_base.specs.Maps.{place_of}
use Rattle.std.specs.List.{list_any}
use Rattle.std.specs.Option.{option_and_then, option_map}
use Rattle.std.specs.Prelude.{◌⊎◌, IsSomeAnd}
use Rattle.wire_base.specs.Names.{same_name, upper_case, upper_of}
use Rattle.wire_base.proofs.NameLaws.{same_name-Decides}
use Rattle.channel_keys.specs.ChannelTypes.{workstation_channel}
use Rattle.account_table.specs.AccountTable.{AccountTable}
use Rattle.account_table.specs.Changes.{DifferInCounts, at_place, with_count, with_hash, with_new_hash}
use Rattle.account_table.specs.Document.{has_name}
use Rattle.account_table.specs.LookUps.{account_in, is_machine, is_machine_for, is_trust_for, knows_in, lists_controller, machine_in, machine_name, opens, place_in}
use Rattle.account_table.specs.declared.account.Account.{Account}
use Rattle.account_table.specs.declared.account.Kind.{Kind}
use Rattle.account_table.specs.declared.account.Kind.TheVariants.{User}
use Rattle.account_table.proofs.ChangeLaws.{accounts-stay, machines-left, machines-stay, with_hash-differs}
use Rattle.secret_change.specs.Secrets.{SecretsState, alone, tried_of}
use Rattle.channel_client.specs.declared.caller.Caller.{Caller}
use Rattle.logon_runs.specs.Phases.{FitsCaller, IsSetAt, account_of_caller}
use Rattle.logon_runs.specs.Rests.{channel_account}
use Rattle.logon_runs.specs.SecretRests.{SetsLeaveOthers}

pub same_or_not : (one other : ℕ) → (one ≡ other) ⊎ (one ≢ other)
same_or_not zero zero = inl refl
same_or_not zero (suc other) = inr (λ is. absurd cc)
same_or_not (suc one) zero = inr (λ is. absurd cc)
same_or_not (suc one) (suc other) =
    elim (same_or_not one other) [
      | inl is ↦ inl (ap suc is)
      | inr apart ↦ inr (λ is. apart cc)
    ]

-- ---- a change that a test doesn't see

module _ (change : Account → Account) (test : Account → Bool) (blind : (account : Account) → test (change account) ≡ test account) where
  place_blind : (at : ℕ) (accounts : List Account) → place_of test (at_place at change accounts) ≡ place_of test accounts
  place_blind at [] = refl
  place_blind zero (account ∷ accounts) = ap (λ (b : Bool). if b then Some 0 else option_map suc (place_of test accounts)) (blind account)
  place_blind (suc at) (account ∷ accounts) = ap (λ (place : Option ℕ). if test account then Some 0 else option_map suc place) (place_blind at accounts)

  any_blind : (at : ℕ) (accounts : List Account) → list_any test (at_place at change accounts) ≡ list_any test accounts
  any_blind at [] = refl
  any_blind zero (account ∷ accounts) = ap (λ (b : Bool). b || list_any test accounts) (blind account)
  any_blind (suc at) (account ∷ accounts) = ap (λ (b : Bool). test account || b) (any_blind at accounts)

-- ---- the item at the place that is found passes

module _ {T : Type 0} (test : T → Bool) where
  passes_by : (here : Bool) (rest : Option ℕ) (first item : T) (items : List T) (at : ℕ) → test first ≡ here → (if here then Some 0 else option_map suc rest) ≡ Some at →
      ((later : ℕ) → rest ≡ Some later → slice_get items later ≡ Some item → test item ≡ true) → slice_get (first ∷ items) at ≡ Some item → test item ≡ true
  passes_by true rest first item items zero is found later there = subst (λ (one : T). test one ≡ true) (let same : Some first ≡ Some item = there in cc) is
  passes_by true rest first item items (suc at) is found later there = absurd cc
  passes_by false None first item items at is found later there = absurd cc
  passes_by false (Some place) first item items zero is found later there = absurd cc
  passes_by false (Some place) first item items (suc at) is found later there = later at (let same : Some (suc place) ≡ Some (suc at) = found in cc) there

  passes_at : (items : List T) (item : T) (at : ℕ) → place_of test items ≡ Some at → slice_get items at ≡ Some item → test item ≡ true
  passes_at [] item at found there = absurd cc
  passes_at (first ∷ items) item at found there = passes_by (test first) (place_of test items) first item items at refl found (λ later is. passes_at items item later is) there

-- ---- an item at another place

other_place : (at other : ℕ) (change : Account → Account) (accounts : List Account) → at ≢ other → slice_get (at_place at change accounts) other ≡ slice_get accounts other
other_place at other change [] differ = refl
other_place zero zero change (account ∷ accounts) differ = absurd (differ refl)
other_place zero (suc other) change (account ∷ accounts) differ = refl
other_place (suc at) zero change (account ∷ accounts) differ = refl
other_place (suc at) (suc other) change (account ∷ accounts) differ = other_place at other change accounts (λ same. differ (ap suc same))

none_still : (at other : ℕ) (change : Account → Account) (accounts : List Account) → slice_get accounts other ≡ None → slice_get (at_place at change accounts) other ≡ None
none_still at other change [] none = none
none_still zero zero change (account ∷ accounts) none = absurd cc
none_still zero (suc other) change (account ∷ accounts) none = none
none_still (suc at) zero change (account ∷ accounts) none = absurd cc
none_still (suc at) (suc other) change (account ∷ accounts) none = none_still at other change accounts none

same_place : (at : ℕ) (change : Account → Account) (accounts : List Account) → slice_get (at_place at change accounts) at ≡ option_map change (slice_get accounts at)
same_place at change [] = refl
same_place zero change (account ∷ accounts) = refl
same_place (suc at) change (account ∷ accounts) = same_place at change accounts

-- ---- names of machines' accounts

last_same : (one other : List ℕ) (last : ℕ) → one ++ last ∷ [] ≡ other ++ last ∷ [] → one ≡ other
last_same [] [] last is = refl
last_same [] (first ∷ other) last is = absurd (omega (arith, ap length is, length-append other (last ∷ [])))
last_same (first ∷ one) [] last is = absurd (omega (arith, ap length is, length-append one (last ∷ [])))
last_same (first ∷ one) (second ∷ other) last is =
    let rest : one ++ last ∷ [] ≡ other ++ last ∷ [] = cc in
    let same : first ≡ second = cc in
    ap₂ (λ (item : ℕ) (items : List ℕ). item ∷ items) same (last_same one other last rest)

upper_last : (name : List ℕ) (last : ℕ) → upper_case (name ++ last ∷ []) ≡ upper_case name ++ upper_of last ∷ []
upper_last [] last = refl
upper_last (first ∷ name) last = ap (λ (more : List ℕ). upper_of first ∷ more) (upper_last name last)

computers_same : (one other : List ℕ) → same_name (machine_name one) (machine_name other) ≡ true → same_name one other ≡ true
computers_same one other is =
    (same_name-Decides one other).1 (last_same (upper_case one) (upper_case other) (upper_of 0x24)
    (sym (upper_last one 0x24) ∙ (same_name-Decides (machine_name one) (machine_name other)).0 is ∙ upper_last other 0x24))

-- two names of one account are one name
both_named : (one other name : List ℕ) → same_name one name ≡ true → same_name other name ≡ true → same_name one other ≡ true
both_named one other name first second = (same_name-Decides one other).1 ((same_name-Decides one name).0 first ∙ sym ((same_name-Decides other name).0 second))

user_opens_none : (kind : Kind) (channel : ℕ) (is_named lists : Bool) → kind ≡ User → opens kind channel is_named lists ≡ true → ⊥
user_opens_none kind channel is_named lists user is = user_opens channel is_named lists (subst (λ (k : Kind). opens k channel is_named lists ≡ true) user is) where
  user_opens : (channel : ℕ) (is_named lists : Bool) → opens User channel is_named lists ≡ true → ⊥
  user_opens channel is_named lists is = absurd cc

and_second : (one other : Bool) → (one && other) ≡ true → other ≡ true
and_second true other is = is
and_second false other is = absurd cc

and_first : (one other : Bool) → (one && other) ≡ true → one ≡ true
and_first true other is = refl
and_first false other is = absurd cc

-- ---- a hash that is set

abbrev opens_for : List ℕ → Account → Bool
opens_for computer account = has_name (machine_name computer) account && is_machine_for workstation_channel computer account

abbrev found_by : List Account → Option ℕ → Option Account
found_by accounts found = option_and_then (slice_get accounts) found

module _ (table : AccountTable) (at : ℕ) (hash : List ℕ) where
  place_stays : (computer : List ℕ) → machine_in (with_hash at hash table).accounts (machine_name computer) workstation_channel computer ≡ machine_in table.accounts (machine_name computer) workstation_channel computer
  unfolding with_hash machine_in
  place_stays computer = place_blind (with_new_hash hash) (opens_for computer) (λ account. refl) at table.accounts

  known_still : (computer : List ℕ) → knows_in (with_hash at hash table).accounts computer ≡ knows_in table.accounts computer
  unfolding with_hash knows_in
  known_still computer =
      ap₂ (λ (one other : Bool). one || other)
      (any_blind (with_new_hash hash) (λ account. has_name (machine_name computer) account && is_machine account.kind) (λ account. refl) at table.accounts)
      (any_blind (with_new_hash hash) (is_trust_for computer) (λ account. refl) at table.accounts)

  -- the place isn't that of another computer's account
  places_differ : (mine other : List ℕ) (k : ℕ) (account : Account) → same_name mine other ≡ false → machine_in table.accounts (machine_name other) workstation_channel other ≡ Some at →
      machine_in table.accounts (machine_name mine) workstation_channel mine ≡ Some k → slice_get table.accounts k ≡ Some account → at ≢ k
  unfolding machine_in
  places_differ mine other k account apart set found there same =
      let first : same_name (machine_name mine) account.name ≡ true = and_first _ _ (passes_at (opens_for mine) table.accounts account k found there) in
      let second : same_name (machine_name other) account.name ≡ true =
      and_first _ _ (passes_at (opens_for other) table.accounts account at set (ap (slice_get table.accounts) same ∙ there)) in
      absurd (let is : same_name mine other ≡ true = computers_same mine other (both_named (machine_name mine) (machine_name other) account.name first second) in cc)

  others_by : (mine other : List ℕ) (found : Option ℕ) (item : Option Account) → same_name mine other ≡ false → machine_in table.accounts (machine_name other) workstation_channel other ≡ Some at →
      machine_in table.accounts (machine_name mine) workstation_channel mine ≡ found → found_by table.accounts found ≡ item → found_by (at_place at (with_new_hash hash) table.accounts) found ≡ item
  others_by mine other None item apart set is there = there
  others_by mine other (Some k) None apart set is there = none_still at k (with_new_hash hash) table.accounts there
  others_by mine other (Some k) (Some account) apart set is there = other_place at k (with_new_hash hash) table.accounts (places_differ mine other k account apart set is there) ∙ there

  -- the account of another computer's channel
  others_left : (mine other : List ℕ) → same_name mine other ≡ false → machine_in table.accounts (machine_name other) workstation_channel other ≡ Some at →
      channel_account (with_hash at hash table) mine ≡ channel_account table mine
  unfolding with_hash
  others_left mine other apart set =
      ap (found_by (at_place at (with_new_hash hash) table.accounts)) (place_stays mine)
      ∙ others_by mine other (machine_in table.accounts (machine_name mine) workstation_channel mine) (channel_account table mine) apart set refl refl

  -- a user's account is no machine's
  not_user : (name : List ℕ) (channel : ℕ) (computer : List ℕ) (account : Account) → machine_in table.accounts name channel computer ≡ Some at → slice_get table.accounts at ≡ Some account →
      account.kind ≡ User → ⊥
  unfolding machine_in
  not_user name channel computer account set there kind =
      let passes : (has_name name account && is_machine_for channel computer account) ≡ true =
      passes_at (λ (account : Account). has_name name account && is_machine_for channel computer account) table.accounts account at set there in
      user_opens_none account.kind channel (same_name account.name (machine_name computer)) (lists_controller account computer) kind (and_second _ _ (and_second _ _ passes))

  user_at : (name : List ℕ) (channel : ℕ) (computer : List ℕ) (k : ℕ) (account : Account) → machine_in table.accounts name channel computer ≡ Some at → slice_get table.accounts k ≡ Some account →
      (at ≡ k) ⊎ (at ≢ k) → IsSomeAnd (slice_get (at_place at (with_new_hash hash) table.accounts) k) (λ (found : Account). found.kind ≡ User) →
      slice_get (at_place at (with_new_hash hash) table.accounts) k ≡ Some account
  user_at name channel computer k account set there (inr apart) user = other_place at k (with_new_hash hash) table.accounts apart ∙ there
  user_at name channel computer k account set there (inl same) user =
      let is : slice_get table.accounts at ≡ Some account = ap (slice_get table.accounts) same ∙ there in
      let found : slice_get (at_place at (with_new_hash hash) table.accounts) k ≡ Some (with_new_hash hash account) =
      ap (slice_get (at_place at (with_new_hash hash) table.accounts)) (sym same) ∙ same_place at (with_new_hash hash) table.accounts ∙ ap (option_map (with_new_hash hash)) is in
      let kind : account.kind ≡ User = subst (λ (one : Option Account). IsSomeAnd one (λ (found : Account). found.kind ≡ User)) found user in
      absurd (not_user name channel computer account set is kind)

  user_by : (name : List ℕ) (channel : ℕ) (computer : List ℕ) (found : Option ℕ) (account : Account) → machine_in table.accounts name channel computer ≡ Some at → found_by table.accounts found ≡ Some account →
      IsSomeAnd (found_by (at_place at (with_new_hash hash) table.accounts) found) (λ (one : Account). one.kind ≡ User) → found_by (at_place at (with_new_hash hash) table.accounts) found ≡ Some account
  user_by name channel computer None account set there user = there
  user_by name channel computer (Some k) account set there user = user_at name channel computer k account set there (same_or_not at k) user

  user_place : (user : List ℕ) → place_in (with_hash at hash table).accounts user ≡ place_in table.accounts user
  unfolding with_hash place_in
  user_place user = place_blind (with_new_hash hash) (has_name user) (λ account. refl) at table.accounts

  users_left : (name : List ℕ) (channel : ℕ) (computer user : List ℕ) (account : Account) → machine_in table.accounts name channel computer ≡ Some at → account_in table.accounts user ≡ Some account →
      IsSomeAnd (account_in (with_hash at hash table).accounts user) (λ (found : Account). found.kind ≡ User) → account_in (with_hash at hash table).accounts user ≡ Some account
  unfolding with_hash
  users_left name channel computer user account set there is_user =
      let same : found_by (at_place at (with_new_hash hash) table.accounts) (place_in (with_hash at hash table).accounts user)
      ≡ found_by (at_place at (with_new_hash hash) table.accounts) (place_in table.accounts user) = ap (found_by (at_place at (with_new_hash hash) table.accounts)) (user_place user) in
      same ∙ user_by name channel computer (place_in table.accounts user) account set there
      (subst (λ (one : Option Account). IsSomeAnd one (λ (found : Account). found.kind ≡ User)) same is_user)

  -- a user's account stays as the hash of a machine's is set
  kept_at : (name : List ℕ) (channel : ℕ) (computer : List ℕ) (k : ℕ) (account : Account) → machine_in table.accounts name channel computer ≡ Some at → slice_get table.accounts k ≡ Some account →
      account.kind ≡ User → (at ≡ k) ⊎ (at ≢ k) → slice_get (at_place at (with_new_hash hash) table.accounts) k ≡ Some account
  kept_at name channel computer k account set there kind (inr apart) = other_place at k (with_new_hash hash) table.accounts apart ∙ there
  kept_at name channel computer k account set there kind (inl same) = absurd (not_user name channel computer account set (ap (slice_get table.accounts) same ∙ there) kind)

  kept_by : (name : List ℕ) (channel : ℕ) (computer : List ℕ) (found : Option ℕ) (account : Account) → machine_in table.accounts name channel computer ≡ Some at →
      found_by table.accounts found ≡ Some account → account.kind ≡ User → found_by (at_place at (with_new_hash hash) table.accounts) found ≡ Some account
  kept_by name channel computer None account set there kind = there
  kept_by name channel computer (Some k) account set there kind = kept_at name channel computer k account set there kind (same_or_not at k)

  pub users_kept : (name : List ℕ) (channel : ℕ) (computer user : List ℕ) (account : Account) → machine_in table.accounts name channel computer ≡ Some at →
      account_in table.accounts user ≡ Some account → account.kind ≡ User → account_in (with_hash at hash table).accounts user ≡ Some account
  unfolding with_hash
  users_kept name channel computer user account set there kind =
      ap (found_by (at_place at (with_new_hash hash) table.accounts)) (user_place user) ∙ kept_by name channel computer (place_in table.accounts user) account set there kind

  hash_so : (found : Option Account) (account : Account) → option_map (with_new_hash hash) found ≡ Some account → account.hash ≡ hash
  hash_so None account is = absurd cc
  hash_so (Some old) account is = sym (ap Account.hash (let same : with_new_hash hash old ≡ account = cc in same))

  -- the account of that channel has that hash
  pub hash_at : (name : List ℕ) (channel : ℕ) (computer : List ℕ) (account : Account) → machine_in table.accounts name channel computer ≡ Some at →
      found_by (with_hash at hash table).accounts (machine_in (with_hash at hash table).accounts name channel computer) ≡ Some account → account.hash ≡ hash
  unfolding with_hash
  hash_at name channel computer account set there =
      hash_so (slice_get table.accounts at) account
      (sym (same_place at (with_new_hash hash) table.accounts)
      ∙ sym (ap (found_by (at_place at (with_new_hash hash) table.accounts)) (machines-left table (with_hash at hash table) (with_hash-differs at hash table) name channel computer ∙ set)) ∙ there)

  own_hash : (mine : List ℕ) (account : Account) → machine_in table.accounts (machine_name mine) workstation_channel mine ≡ Some at →
      channel_account (with_hash at hash table) mine ≡ Some account → account.hash ≡ hash
  own_hash mine account set there = hash_at (machine_name mine) workstation_channel mine account set there

-- ---- the secret that a member tries

-- the member keeps the secret alone that was set
pub fits_set : (caller : Caller) (new : List ℕ) (table accounts : AccountTable) (set : IsSetAt caller table accounts) → set.hash ≡ new → FitsCaller accounts caller (alone new)
fits_set caller new table accounts set is machine found =
    hash_at table set.place set.hash caller.account caller.kind caller.computer machine set.found (subst (λ (t : AccountTable). account_of_caller t caller ≡ Some machine) set.is found) ∙ is

hash_counted : (found : Option Account) (machine : Account) (secret : List ℕ) → option_map (with_count 0) found ≡ Some (with_count 0 machine) →
    ((one : Account) → found ≡ Some one → one.hash ≡ secret) → machine.hash ≡ secret
hash_counted None machine secret same each = absurd cc
hash_counted (Some other) machine secret same each =
    let alike : with_count 0 other ≡ with_count 0 machine = cc in
    sym (ap Account.hash alike) ∙ each other refl

-- counts of bad passwords don't matter
pub fits_counted : (old new : AccountTable) (caller : Caller) (secrets : SecretsState) → DifferInCounts old new → FitsCaller old caller secrets → FitsCaller new caller secrets
fits_counted old new caller secrets differ fits machine found =
    at_found (machine_in old.accounts caller.account caller.kind caller.computer) refl
    (ap (found_by new.accounts) (sym (machines-stay old new differ caller.account caller.kind caller.computer)) ∙ found) where
      at_found : (place : Option ℕ) → machine_in old.accounts caller.account caller.kind caller.computer ≡ place → found_by new.accounts place ≡ Some machine → machine.hash ≡ tried_of secrets
      at_found None at there = absurd cc
      at_found (Some k) at there =
          hash_counted (slice_get old.accounts k) machine (tried_of secrets) (sym (accounts-stay old new differ k) ∙ ap (option_map (with_count 0)) there)
          (λ one is. fits one (ap (found_by old.accounts) at ∙ is))

pub sets_leave_others : SetsLeaveOthers
sets_leave_others = record {
  place = λ table at hash computer. place_stays table at hash computer;
  knows = λ table at hash computer. known_still table at hash computer;
  others = λ table mine other at hash apart set. others_left table at hash mine other apart set;
  users = λ table at hash name channel computer user account set there is_user. users_left table at hash name channel computer user account set there is_user;
  own = λ table mine at hash account set there. own_hash table at hash mine account set there;
}
