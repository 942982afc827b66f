-- Laws of the account table after a logon was judged.
use Rattle.std.proofs.Common.{◌≡◌, ℕ, ◌==◌, List, Option, Some, None, Ok, Err, option_map, refl, sym, ap, ◌∙◌, inl, inr}
use Rattle.std.specs.List.{slice_get}
use Rattle.std.proofs.lemmas.Bool.{cases_Bool, eqb-true}
use Rattle.account_table.specs.AccountTable.{AccountTable}
use Rattle.account_table.specs.Changes.{at_place, without_state, state_of, with_count, with_bad_count, with_change_if, with_changes, with_state, DifferInCounts}
use Rattle.account_table.specs.LookUps.{place_in, route_in}
use Rattle.account_table.specs.declared.account.Account.{Account}
use Rattle.account_table.specs.declared.account.Policy.{Policy}
use Rattle.account_table.specs.declared.changes.AccountState.{AccountState}
use Rattle.account_table.specs.declared.changes.TableChange.{TableChange}
use Rattle.account_table.specs.declared.table.Route.{Route}
use Rattle.account_table.specs.declared.table.Route.TheVariants.{Own, Trust, Elsewhere}
use Rattle.account_table.proofs.ChangeLaws.{accounts-left, at_place-id, at_place-like, differs-none, map-at_place, with_changes-differs}
use Rattle.logon_stubs.specs.declared.info.NetworkInfo.{NetworkInfo}
use Rattle.sam_logon.specs.Rules.{Shown, answer_by, change_of, count_after, first_refusal, rules_for, shown_by_hash, shown_by_response}
use Rattle.logon_stubs.specs.declared.info.SamInfo.{SamInfo}
use Rattle.logon_stubs.specs.declared.info.Verdict.TheVariants.{Granted, Status}
use Rattle.sam_logon.specs.Granting.{sam_info_of}
use Rattle.sam_logon.specs.Verdict.{interactive_judgement_of, interactive_table_after, judged_account, judgement_of, table_after, table_routed, table_shown, verdict_shown}
use Rattle.sam_logon.specs.declared.rules.Refusal.{Refusal}

none_from : (refusal : Option Refusal) (key found : List ℕ) → Ok found ≡ answer_by refusal key → refusal ≡ None
none_from None key found e = refl
none_from (Some refused) key found e = absurd (cc)

ok_from : (refusal : Option Refusal) (key found : List ℕ) → Ok found ≡ answer_by refusal key → found ≡ key
ok_from None key found e = cc
ok_from (Some refused) key found e = absurd (cc)

some_from : (refusal : Option Refusal) (key : List ℕ) (refused : Refusal) → Err refused ≡ answer_by refusal key → refusal ≡ Some refused
some_from None key refused e = absurd (cc)
some_from (Some other) key refused e = cc

-- an account at a place that is judged by what is shown
module _ (shown : Shown) (workstation : List ℕ) (now : ℕ) where
  module _ (table : AccountTable) (place : ℕ) (account : Account) (found : slice_get table.accounts place ≡ Some account) where
    by_refusal : (refusal : Option Refusal) → first_refusal (rules_for table.policy account shown workstation now) ≡ refusal → (count : ℕ) → count ≡ count_after refusal account.bad_count → with_bad_count place count table ≡ table_shown (Some place) shown table workstation now
    unfolding with_bad_count
    by_refusal refusal is count after =
        let same : with_count count account ≡ judged_account table.policy shown workstation now account =
        ap (λ (n : ℕ). with_count n account) (after ∙ ap (λ (r : Option Refusal). count_after r account.bad_count) (sym is)) in
        ap (λ (accounts : List Account). record table { accounts = accounts }) (at_place-like (with_count count) (judged_account table.policy shown workstation now) place table.accounts account found same)

    granted_table : (key granted : List ℕ) → Ok granted ≡ answer_by (first_refusal (rules_for table.policy account shown workstation now)) key → with_bad_count place 0 table ≡ table_shown (Some place) shown table workstation now
    granted_table key granted e = by_refusal None (none_from _ key granted e) 0 refl

    refused_table : (key : List ℕ) (refused : Refusal) → Err refused ≡ answer_by (first_refusal (rules_for table.policy account shown workstation now)) key → (count : ℕ) → count ≡ count_after (Some refused) account.bad_count → with_bad_count place count table ≡ table_shown (Some place) shown table workstation now
    refused_table key refused e count after = by_refusal (Some refused) (some_from _ key refused e) count after

    refused_verdict : (controller key : List ℕ) (refused : Refusal) → Err refused ≡ answer_by (first_refusal (rules_for table.policy account shown workstation now)) key → Status refused.status ≡ verdict_shown (slice_get table.accounts place) shown table controller workstation now
    refused_verdict controller key refused e =
        let is = some_from _ key refused e in
        rw (found, is) refl

    granted_verdict : (controller key : List ℕ) → Ok key ≡ answer_by (first_refusal (rules_for table.policy account shown workstation now)) (shown.key account.hash) → Granted (sam_info_of table controller account key now) ≡ verdict_shown (slice_get table.accounts place) shown table controller workstation now
    granted_verdict controller key e =
        let is = none_from _ _ key e in
        let same : key ≡ (shown.key account.hash) = ok_from _ _ key e in
        rw (found, is) (ap (λ (k : List ℕ). Granted (sam_info_of table controller account k now)) same)

-- the change that is told sets the count
change_made : (table : AccountTable) (place : ℕ) (account : Account) → slice_get table.accounts place ≡ Some account → (count after : ℕ) → count ≡ account.bad_count → with_change_if (change_of place count after) table ≡ with_bad_count place after table
unfolding with_bad_count
change_made table place account found count after count_is =
    elim (cases_Bool (count == after)) [
      | inl same ↦
          let is : after ≡ account.bad_count = sym (eqb-true count after same) ∙ count_is in
          let stays : with_count after account ≡ account = ap (λ (n : ℕ). with_count n account) is in
          let all : at_place place (with_count after) table.accounts ≡ table.accounts =
          at_place-like (with_count after) (λ a. a) place table.accounts account found stays ∙ at_place-id place table.accounts in
          rw same (ap (λ (accounts : List Account). record table { accounts = accounts }) (sym all))
      | inr other ↦ rw other refl
    ]

-- ---- the account as the changes leave it

-- an account that has that state, and is like one but for what may change, is that one with the state
state_put : (other account : Account) (state : AccountState) → without_state other ≡ without_state account → state_of other ≡ state → other ≡ with_state state account
state_put other account state same is =
    ap (λ (s : AccountState). with_state s other) is ∙ ap (λ (a : Account). with_state state a) same

standing_by : (found : Option Account) (account : Account) (state : AccountState) → option_map without_state found ≡ Some (without_state account) → Some state ≡ option_map state_of found → found ≡ Some (with_state state account)
standing_by None account state same stated = absurd (cc)
standing_by (Some other) account state same stated =
    let alike : without_state other ≡ without_state account = cc in
    let is : state_of other ≡ state = cc in
    ap (λ (a : Account). Some a) (state_put other account state alike is)

not_past : (found : Option Account) (account : Account) → option_map without_state found ≡ Some (without_state account) → None ≡ option_map state_of found → ⊥
not_past None account same past = cc
not_past (Some other) account same past = cc

module _ (table : AccountTable) (changes : List TableChange) (place : ℕ) (account : Account) (found : slice_get table.accounts place ≡ Some account) where
  alike : option_map without_state (slice_get (with_changes changes table).accounts place) ≡ Some (without_state account)
  alike =
      accounts-left table (with_changes changes table) (with_changes-differs changes table) place
      ∙ ap (λ (o : Option Account). option_map without_state o) found

  pub stands_there : None ≡ option_map state_of (slice_get (with_changes changes table).accounts place) → ⊥
  stands_there past = not_past _ account alike past

  module _ (shown : Shown) (workstation : List ℕ) (now : ℕ) (state : AccountState) (policy : Policy) (stated : Some state ≡ option_map state_of (slice_get (with_changes changes table).accounts place)) (policy_is : policy ≡ table.policy) where
    standing : slice_get (with_changes changes table).accounts place ≡ Some (with_state state account)
    standing = standing_by _ account state alike stated

    policies : (with_changes changes table).policy ≡ policy
    policies = (with_changes-differs changes table).policy ∙ sym policy_is

    pub granted_change : (key granted : List ℕ) → Ok granted ≡ answer_by (first_refusal (rules_for policy (with_state state account) shown workstation now)) key → (change : Option TableChange) → change ≡ change_of place state.bad_count 0 → with_change_if change (with_changes changes table) ≡ table_shown (Some place) shown (with_changes changes table) workstation now
    granted_change key granted judged change is =
        ap (λ (c : Option TableChange). with_change_if c (with_changes changes table)) is
        ∙ change_made (with_changes changes table) place (with_state state account) standing state.bad_count 0 refl
        ∙ granted_table shown workstation now (with_changes changes table) place (with_state state account) standing key granted (rw policies judged)

    pub refused_change : (key : List ℕ) (refused : Refusal) → Err refused ≡ answer_by (first_refusal (rules_for policy (with_state state account) shown workstation now)) key → (after : ℕ) → after ≡ count_after (Some refused) state.bad_count → (change : Option TableChange) → change ≡ change_of place state.bad_count after → with_change_if change (with_changes changes table) ≡ table_shown (Some place) shown (with_changes changes table) workstation now
    refused_change key refused judged after after_is change is =
        ap (λ (c : Option TableChange). with_change_if c (with_changes changes table)) is
        ∙ change_made (with_changes changes table) place (with_state state account) standing state.bad_count after refl
        ∙ refused_table shown workstation now (with_changes changes table) place (with_state state account) standing key refused (rw policies judged) after after_is

    pub refused_weighed : (controller key : List ℕ) (refused : Refusal) → Err refused ≡ answer_by (first_refusal (rules_for policy (with_state state account) shown workstation now)) key → Status refused.status ≡ verdict_shown (slice_get (with_changes changes table).accounts place) shown (with_changes changes table) controller workstation now
    refused_weighed controller key refused judged =
        refused_verdict shown workstation now (with_changes changes table) place (with_state state account) standing controller key refused (rw policies judged)

    -- what is granted names the domain, which the changes leave
    same_granted : (controller key : List ℕ) → sam_info_of table controller (with_count state.bad_count account) key now ≡ sam_info_of (with_changes changes table) controller (with_state state account) key now
    unfolding sam_info_of
    same_granted controller key = rw ((with_changes-differs changes table).domain, (with_changes-differs changes table).sid) refl

    pub granted_weighed : (controller key : List ℕ) (granted : SamInfo) → Ok key ≡ answer_by (first_refusal (rules_for policy (with_state state account) shown workstation now)) (shown.key state.hash) → granted ≡ sam_info_of table controller (with_count state.bad_count account) key now → Granted granted ≡ verdict_shown (slice_get (with_changes changes table).accounts place) shown (with_changes changes table) controller workstation now
    granted_weighed controller key granted judged is =
        ap (λ (i : SamInfo). Granted i) (is ∙ same_granted controller key)
        ∙ granted_verdict shown workstation now (with_changes changes table) place (with_state state account) standing controller key (rw policies judged)

-- ---- what differs

differs_on : (place : Option ℕ) (shown : Shown) (table : AccountTable) (workstation : List ℕ) (now : ℕ) → DifferInCounts table (table_shown place shown table workstation now)
differs_on None shown table workstation now = differs-none table
differs_on (Some place) shown table workstation now = record {
  domain = refl;
  sid = refl;
  policy = refl;
  accounts = map-at_place (with_count 0) (judged_account table.policy shown workstation now) (λ account. refl) place table.accounts;
  trusts = refl;
}

differs_at : (route : Route) (shown : Shown) (table : AccountTable) (user workstation : List ℕ) (now : ℕ) → DifferInCounts table (table_routed route shown table user workstation now)
differs_at Own shown table user workstation now = differs_on (place_in table.accounts user) shown table workstation now
differs_at (Trust place) shown table user workstation now = differs-none table
differs_at Elsewhere shown table user workstation now = differs-none table

pub judgement-differs : (table : AccountTable) (controller : List ℕ) (info : NetworkInfo) (now : ℕ) → DifferInCounts table (judgement_of table controller info now).table
unfolding judgement_of table_after
judgement-differs table controller info now = differs_at (route_in table info.domain) (shown_by_response info) table info.user info.workstation now

pub interactive_judgement-differs : (table : AccountTable) (controller domain user workstation nt : List ℕ) (now : ℕ) → DifferInCounts table (interactive_judgement_of table controller domain user workstation nt now).table
unfolding interactive_judgement_of interactive_table_after
interactive_judgement-differs table controller domain user workstation nt now = differs_at (route_in table domain) (shown_by_hash nt) table user workstation now
