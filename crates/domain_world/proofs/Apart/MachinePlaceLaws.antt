-- The account that a call names by the name of its computer is the one of that computer: a table has each name once.
-- It serves `Proved.never_apart`.
use Rattle.std.proofs.Common.{◌≡◌, ℕ, zero, suc, Bool, true, false, List, [], ◌∷◌, ◌++◌, map, Option, Some, None, slice_get, refl, sym, ap, ap₂, subst, ◌∙◌, if◌then◌else◌}
use Rattle.std.specs.Prelude.{bytes_eq}
use Rattle.std.specs.Bool.{then_some}
use Rattle.std.specs.Option.{option_and_then, option_map, option_map_or}
use Rattle.std.proofs.lemmas.List.{map-append}
use Rattle.wire_base.specs.Maps.{place_of}
use Rattle.wire_base.specs.Names.{SameName, same_name, upper_case, upper_of}
use Rattle.wire_base.proofs.ListLaws.{no_some, some_is}
use Rattle.wire_base.proofs.NameLaws.{same_name-Decides}
use Rattle.account_table.specs.AccountTable.{AccountTable, has_distinct_names}
use Rattle.account_table.specs.Changes.{DifferInStates}
use Rattle.account_table.specs.Document.{has_name}
use Rattle.account_table.specs.LookUps.{is_machine_for, machine_in, machine_name}
use Rattle.account_table.specs.declared.account.Account.{Account}
use Rattle.account_table.proofs.ChangeLaws.{machines-left}
use Rattle.account_table.proofs.IndexLaws.{only_hit}
use Rattle.member_server.specs.Machine.{account_of}

-- ---- a name

-- with a dollar sign behind each
signed : (one other : List ℕ) → SameName one other → SameName (account_of one) (account_of other)
signed one other same =
    map-append upper_of one (0x24 ∷ []) ∙ ap (λ (upper : List ℕ). upper ++ map upper_of (0x24 ∷ [])) same ∙ sym (map-append upper_of other (0x24 ∷ []))

front_same : (one other : List ℕ) (last : ℕ) → one ++ last ∷ [] ≡ other ++ last ∷ [] → one ≡ other
front_same [] [] last same = refl
front_same [] (y ∷ []) last same = absurd (let never = same in cc)
front_same [] (y ∷ z ∷ other) last same = absurd (let never = same in cc)
front_same (x ∷ []) [] last same = absurd (let never = same in cc)
front_same (x ∷ z ∷ one) [] last same = absurd (let never = same in cc)
front_same (x ∷ one) (y ∷ other) last same =
    let first : x ≡ y = (let both = same in cc) in
    let rest : one ++ last ∷ [] ≡ other ++ last ∷ [] = (let both = same in cc) in
    ap₂ (λ (item : ℕ) (items : List ℕ). item ∷ items) first (front_same one other last rest)

unsigned : (one other : List ℕ) → SameName (account_of one) (account_of other) → SameName one other
unsigned one other same =
    front_same (upper_case one) (upper_case other) (upper_of 0x24)
    (sym (map-append upper_of one (0x24 ∷ [])) ∙ same ∙ map-append upper_of other (0x24 ∷ []))

-- ---- the place of a name

alike_test : (one other : List ℕ) → SameName one other → (account : Account) → has_name one account ≡ has_name other account
unfolding same_name
alike_test one other same account = ap (λ (upper : List ℕ). bytes_eq upper (upper_case account.name)) same

place_alike : (one other : List ℕ) → SameName one other → (accounts : List Account) → place_of (has_name one) accounts ≡ place_of (has_name other) accounts
place_alike one other same [] = refl
place_alike one other same (account ∷ accounts) =
    ap₂ (λ (hit : Bool) (later : Option ℕ). if hit then Some 0 else option_map suc later) (alike_test one other same account) (place_alike one other same accounts)

-- the account at the place of a name has it
hit_by : (hit : Bool) (test : Account → Bool) (account : Account) (accounts : List Account) (place : ℕ) (found : Account) → test account ≡ hit →
    (if hit then Some 0 else option_map suc (place_of test accounts)) ≡ Some place → slice_get (account ∷ accounts) place ≡ Some found →
    ((later : ℕ) → place_of test accounts ≡ Some later → slice_get accounts later ≡ Some found → test found ≡ true) → test found ≡ true
hit_by true test account accounts zero found hits is there more = ap test (sym (some_is account found there)) ∙ hits
hit_by true test account accounts (suc place) found hits is there more = absurd (let never = is in cc)
hit_by false test account accounts place found hits is there more = later_by (place_of test accounts) refl is
  where
    later_by : (later : Option ℕ) → place_of test accounts ≡ later → option_map suc later ≡ Some place → test found ≡ true
    later_by None at none = absurd (let never = none in cc)
    later_by (Some k) at some =
        let same : suc k ≡ place = (let x = some in cc) in
        more k at (subst (λ (n : ℕ). slice_get (account ∷ accounts) n ≡ Some found) (sym same) there)

hit_at : (test : Account → Bool) (accounts : List Account) (place : ℕ) (found : Account) → place_of test accounts ≡ Some place → slice_get accounts place ≡ Some found → test found ≡ true
hit_at test [] place found is there = absurd (no_some place is)
hit_at test (account ∷ accounts) place found is there =
    hit_by (test account) test account accounts place found refl is there (λ later at here. hit_at test accounts later found at here)

-- ---- the account that a call names

then_at : (hit : Bool) (place at : ℕ) → then_some hit place ≡ Some at → place ≡ at
then_at false place at is = absurd (no_some at is)
then_at true place at is = some_is place at is

found_at : (accounts : List Account) (test : Account → Bool) (at : ℕ) (found : Option ℕ) →
    option_and_then (λ place. then_some (option_map_or test (slice_get accounts place) false) place) found ≡ Some at → found ≡ Some at
found_at accounts test at None is = absurd (no_some at is)
found_at accounts test at (Some place) is = ap Some (then_at (option_map_or test (slice_get accounts place) false) place at is)

-- the place of a machine's account is that of its name
pub named_place : (accounts : List Account) → has_distinct_names accounts ≡ true → (name : List ℕ) (kind : ℕ) (computer : List ℕ) (at : ℕ) → machine_in accounts name kind computer ≡ Some at →
    place_of (has_name name) accounts ≡ Some at
unfolding machine_in
named_place accounts distinct name kind computer at is =
    found_at accounts (is_machine_for kind computer) at (place_of (has_name name) accounts) (sym (only_hit name (is_machine_for kind computer) accounts distinct) ∙ is)

-- in a table that differs in what moves alone
module _ (table later : AccountTable) (distinct : has_distinct_names table.accounts ≡ true) (differ : DifferInStates table later) (computer : List ℕ) (place : ℕ)
    (found : place_of (has_name (machine_name computer)) table.accounts ≡ Some place) where
  planned_place : (name : List ℕ) (kind : ℕ) (named : List ℕ) (at : ℕ) → machine_in later.accounts name kind named ≡ Some at → place_of (has_name name) table.accounts ≡ Some at
  planned_place name kind named at is = named_place table.accounts distinct name kind named at (sym (machines-left table later differ name kind named) ∙ is)

  -- the account of that computer has that place
  pub its_machine : (named : List ℕ) (kind at : ℕ) → SameName named computer → machine_in later.accounts (account_of named) kind named ≡ Some at → at ≡ place
  its_machine named kind at same is =
      some_is at place (sym (planned_place (account_of named) kind named at is) ∙ place_alike (account_of named) (account_of computer) (signed named computer same) table.accounts ∙ found)

  -- no other computer's account has that place
  pub its_computer : (account : Account) → slice_get table.accounts place ≡ Some account → (named : List ℕ) (kind : ℕ) → machine_in later.accounts (account_of named) kind named ≡ Some place → SameName named computer
  its_computer account there named kind is =
      let one : has_name (account_of named) account ≡ true = hit_at (has_name (account_of named)) table.accounts place account (planned_place (account_of named) kind named place is) there in
      let other : has_name (account_of computer) account ≡ true = hit_at (has_name (account_of computer)) table.accounts place account found there in
      unsigned named computer ((same_name-Decides (account_of named) account.name).0 one ∙ sym ((same_name-Decides (account_of computer) account.name).0 other))
