-- A controller that has an enabled workstation's account of a member's computer.
-- Of `computers_are_known` and `any_phases_go_on`.
use Rattle.std.proofs.Common.{◌≡◌, ℕ, suc, Bool, true, false, List, [], ◌∷◌, Option, Some, None, refl, sym, ap, ap₂, subst, ◌∙◌, inl, inr, slice_get, if◌then◌else◌}
use Rattle.std.specs.Prelude.{◌&&◌, ◌||◌, not, option_map}
use Rattle.std.specs.List.{list_any}
use Rattle.std.specs.Option.{option_and_then}
use Rattle.std.proofs.lemmas.Bool.{cases_Bool}
use Rattle.wire_base.specs.Maps.{place_of}
use Rattle.wire_base.specs.Names.{same_name}
use Rattle.wire_base.proofs.NameLaws.{same_name-Decides}
use Rattle.account_table.specs.AccountTable.{AccountTable}
use Rattle.account_table.specs.Document.{has_name}
use Rattle.account_table.specs.Changes.{DifferInCounts, with_count}
use Rattle.account_table.specs.LookUps.{account_in, is_machine, is_machine_for, is_trust_for, knows_in, lists_controller, machine_in, machine_name, opens, place_in}
use Rattle.account_table.specs.declared.account.Account.{Account}
use Rattle.account_table.specs.declared.account.Kind.{Kind}
use Rattle.account_table.specs.declared.account.Kind.TheVariants.{User, Workstation, Backup, Trust}
use Rattle.account_table.proofs.ChangeLaws.{accounts-stay, machines-stay, places-stay}
use Rattle.logon_stubs.specs.declared.info.NetworkInfo.{NetworkInfo}
use Rattle.sam_logon.specs.Verdict.{judgement_of, table_after}
use Rattle.sam_logon.proofs.CountLaws.{judgement-differs}
use Rattle.domain_controller.specs.Machine.{account_for}
use Rattle.member_server.specs.declared.plan.MemberPlan.{MemberPlan}
use Rattle.member_server.specs.Machine.{caller_of}
use Rattle.logon_steps.specs.Answering.{auth_value}
use Rattle.member_server.specs.Secrets.{tried_of}
use Rattle.logon_steps.specs.Knowing.{ComputersAreKnown, IsKnownLater, StandsLater}
use Rattle.logon_steps.proofs.AnsweringLaws.{calls_are_answered}

module _ {T : Type 0} (test : T → Bool) where
  -- the item at the place that is found
  abbrev found_at : List T → Option ℕ → Option T
  found_at items place = option_and_then (slice_get items) place

  behind : (item : T) (items : List T) (place : Option ℕ) → found_at (item ∷ items) (option_map suc place) ≡ found_at items place
  behind item items None = refl
  behind item items (Some place) = refl

  first : (item : T) (items : List T) → test item ≡ true → found_at (item ∷ items) (place_of test (item ∷ items)) ≡ Some item
  first item items passes = ap (λ (b : Bool). found_at (item ∷ items) (if b then Some 0 else option_map suc (place_of test items))) passes

  later : (item : T) (items : List T) → test item ≡ false → found_at (item ∷ items) (place_of test (item ∷ items)) ≡ found_at items (place_of test items)
  later item items fails =
      ap (λ (b : Bool). found_at (item ∷ items) (if b then Some 0 else option_map suc (place_of test items))) fails
      ∙ behind item items (place_of test items)

some_same : {T : Type 0} (one other : T) → Some one ≡ Some other → one ≡ other
some_same one other is = cc

passes_found : {T : Type 0} (test : T → Bool) (items : List T) (item : T) → found_at test items (place_of test items) ≡ Some item → test item ≡ true
passes_found test [] item is = absurd cc
passes_found test (one ∷ items) item is =
    elim (cases_Bool (test one)) [
      | inl passes ↦ subst (λ i. test i ≡ true) (some_same one item (sym (first test one items passes) ∙ is)) passes
      | inr fails ↦ passes_found test items item (sym (later test one items fails) ∙ is)
    ]

and_true : (one other : Bool) → one ≡ true → other ≡ true → (one && other) ≡ true
and_true one other is so = ap₂ (λ (a b : Bool). a && b) is so

pub narrow : {T : Type 0} (test more : T → Bool) (items : List T) (item : T) → found_at test items (place_of test items) ≡ Some item → more item ≡ true →
    found_at (λ i. test i && more i) items (place_of (λ i. test i && more i) items) ≡ Some item
narrow test more [] item is also = absurd cc
narrow test more (one ∷ items) item is also =
    elim (cases_Bool (test one)) [
      | inl passes ↦
          let same : one ≡ item = some_same one item (sym (first test one items passes) ∙ is) in
          first (λ i. test i && more i) one items (and_true (test one) (more one) passes (subst (λ i. more i ≡ true) (sym same) also)) ∙ ap Some same
      | inr fails ↦
          later (λ i. test i && more i) one items (ap (λ (b : Bool). b && more one) fails)
          ∙ narrow test more items item (sym (later test one items fails) ∙ is) also
    ]

pub or_either : (one other : Bool) → other ≡ true → (one || other) ≡ true
or_either true other is = refl
or_either false other is = is

some_passes : {T : Type 0} (test more : T → Bool) (items : List T) (item : T) → found_at test items (place_of test items) ≡ Some item → more item ≡ true →
    list_any (λ i. test i && more i) items ≡ true
some_passes test more [] item is also = absurd cc
some_passes test more (one ∷ items) item is also =
    elim (cases_Bool (test one)) [
      | inl passes ↦
          let same : one ≡ item = some_same one item (sym (first test one items passes) ∙ is) in
          ap (λ (b : Bool). b || list_any (λ i. test i && more i) items)
          (and_true (test one) (more one) passes (subst (λ i. more i ≡ true) (sym same) also))
      | inr fails ↦
          or_either (test one && more one) (list_any (λ i. test i && more i) items) (some_passes test more items item (sym (later test one items fails) ∙ is) also)
    ]

same_back : (one other : List ℕ) → same_name one other ≡ true → same_name other one ≡ true
same_back one other is = (same_name-Decides other one).1 (sym ((same_name-Decides one other).0 is))

known : (table : AccountTable) (computer : List ℕ) (account : Account) → account_in table.accounts (machine_name computer) ≡ Some account → account.kind ≡ Workstation →
    knows_in table.accounts computer ≡ true
unfolding knows_in place_in
known table computer account found kind =
    ap (λ (b : Bool). b || list_any (is_trust_for computer) table.accounts)
    (some_passes (has_name (machine_name computer)) (λ (a : Account). is_machine a.kind) table.accounts account found (ap is_machine kind))

has_machine : (accounts : List Account) (computer : List ℕ) (account : Account) → account_in accounts (machine_name computer) ≡ Some account →
    account.kind ≡ Workstation → account.disabled ≡ false → option_and_then (slice_get accounts) (machine_in accounts (machine_name computer) 2 computer) ≡ Some account
unfolding machine_in place_in
has_machine accounts computer account found kind enabled =
    narrow (has_name (machine_name computer)) (is_machine_for 2 computer) accounts account found
    (ap₂ (λ (d : Bool) (k : Kind). not d && opens k 2 (same_name account.name (machine_name computer)) (lists_controller account computer)) enabled kind
    ∙ same_back (machine_name computer) account.name (passes_found (has_name (machine_name computer)) accounts account found))

-- an account that opens the channel of a workstation is a machine's
machine_so : (named disabled : Bool) (kind : Kind) (same listed : Bool) → (named && (not disabled && opens kind 2 same listed)) ≡ true → (named && is_machine kind) ≡ true
machine_so false disabled kind same listed is = is
machine_so true true kind same listed is = absurd cc
machine_so true false User same listed is = is
machine_so true false Workstation same listed is = refl
machine_so true false Backup same listed is = refl
machine_so true false Trust same listed is = is

any_passes : {T : Type 0} (test other : T → Bool) → ((item : T) → test item ≡ true → other item ≡ true) → (items : List T) (item : T) →
    found_at test items (place_of test items) ≡ Some item → list_any other items ≡ true
any_passes test other so [] item is = absurd cc
any_passes test other so (one ∷ items) item is =
    elim (cases_Bool (test one)) [
      | inl passes ↦ ap (λ (b : Bool). b || list_any other items) (so one passes)
      | inr fails ↦ or_either (other one) (list_any other items) (any_passes test other so items item (sym (later test one items fails) ∙ is))
    ]

-- the computer is known, where an account is found for its channel
pub known_found : (table : AccountTable) (plan : MemberPlan) (client server : List ℕ) (account : Account) → account_for table (auth_value (caller_of plan) client server) ≡ Some account →
    knows_in table.accounts plan.computer ≡ true
unfolding knows_in machine_in
known_found table plan client server account found =
    ap (λ (b : Bool). b || list_any (is_trust_for plan.computer) table.accounts)
    (any_passes (λ (a : Account). has_name (machine_name plan.computer) a && is_machine_for 2 plan.computer a) (λ (a : Account). has_name (machine_name plan.computer) a && is_machine a.kind)
    (λ a. machine_so (has_name (machine_name plan.computer) a) a.disabled a.kind (same_name a.name (machine_name plan.computer)) (lists_controller a plan.computer))
    table.accounts account found)

-- ---- the table afterwards

-- an account that is found, but for its count of bad passwords
pub record IsCounted (found : Option Account) (account : Account) : Type 0 where
  pub count : ℕ
  pub is : found ≡ Some (with_count count account)

counted_from : (found : Option Account) (account : Account) → option_map (with_count 0) found ≡ Some (with_count 0 account) → IsCounted found account
counted_from None account same = absurd cc
counted_from (Some other) account same =
    let alike : with_count 0 other ≡ with_count 0 account = cc in
    record { count = other.bad_count; is = ap (λ (a : Account). Some (with_count other.bad_count a)) alike }

counted_at : (place : Option ℕ) (old new : AccountTable) (account : Account) → DifferInCounts old new → option_and_then (slice_get old.accounts) place ≡ Some account →
    IsCounted (option_and_then (slice_get new.accounts) place) account
counted_at None old new account differ is = absurd cc
counted_at (Some place) old new account differ is =
    counted_from (slice_get new.accounts place) account (accounts-stay old new differ place ∙ ap (λ (f : Option Account). option_map (with_count 0) f) is)

counted_back : (place : Option ℕ) (old new : AccountTable) (account : Account) → DifferInCounts old new → option_and_then (slice_get new.accounts) place ≡ Some account →
    IsCounted (option_and_then (slice_get old.accounts) place) account
counted_back None old new account differ is = absurd cc
counted_back (Some place) old new account differ is =
    counted_from (slice_get old.accounts place) account (sym (accounts-stay old new differ place) ∙ ap (λ (f : Option Account). option_map (with_count 0) f) is)

-- the account that is found for a channel was there before, but for its count
pub found_before : (old new : AccountTable) (plan : MemberPlan) (client server : List ℕ) (account : Account) → DifferInCounts old new →
    account_for new (auth_value (caller_of plan) client server) ≡ Some account → IsCounted (account_for old (auth_value (caller_of plan) client server)) account
found_before old new plan client server account differ found =
    counted_back (machine_in old.accounts (machine_name plan.computer) 2 plan.computer) old new account differ
    (ap (λ (p : Option ℕ). option_and_then (slice_get new.accounts) p) (sym (machines-stay old new differ (machine_name plan.computer) 2 plan.computer)) ∙ found)

stands_later : (old new : AccountTable) (name : List ℕ) (account : Account) → DifferInCounts old new → account_in old.accounts name ≡ Some account → StandsLater new name account
stands_later old new name account differ found =
    let there : IsCounted (option_and_then (slice_get new.accounts) (place_in old.accounts name)) account = counted_at (place_in old.accounts name) old new account differ found in
    record {
      count = there.count;
      found = ap (λ (p : Option ℕ). option_and_then (slice_get new.accounts) p) (places-stay old new differ name) ∙ there.is;
    }

known_later : (old new : AccountTable) (plan : MemberPlan) (client server : List ℕ) (account : Account) → DifferInCounts old new →
    account_in old.accounts (machine_name plan.computer) ≡ Some account → account.kind ≡ Workstation → account.disabled ≡ false → account.hash ≡ tried_of plan.secrets →
    IsKnownLater new plan client server account
known_later old new plan client server account differ found kind enabled hash =
    let there : StandsLater new (machine_name plan.computer) account = stands_later old new (machine_name plan.computer) account differ found in
    let counted : Account = with_count there.count account in
    record {
      count = there.count;
      knows = known new plan.computer counted there.found kind;
      machine = has_machine new.accounts plan.computer counted there.found kind enabled;
      step = calls_are_answered.in_step (caller_of plan) client server counted hash;
    }

judged_differs : (table : AccountTable) (info : NetworkInfo) (now : ℕ) → DifferInCounts table (table_after table info now)
unfolding judgement_of
judged_differs table info now = judgement-differs table [] info now

pub computers_are_known : ComputersAreKnown
computers_are_known = record {
  knows = known;
  machine = λ table plan client server account found kind enabled. has_machine table.accounts plan.computer account found kind enabled;
  judged = judged_differs;
  stands = stands_later;
  later = known_later;
}
