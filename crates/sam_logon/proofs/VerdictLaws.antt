-- Laws of the verdict: a logon is granted exactly where its account may log on and what it shows of the password is
-- right.
use Rattle.std.proofs.Common.{◌≡◌, ◌≢◌, ℕ, ◌==◌, ◌&&◌, ◌||◌, Bool, true, false, List, [], ◌∷◌, length, Option, Some, None, refl, ap, ◌⊎◌, inl, inr, arith}
use Rattle.std.specs.Bool.{Decides}
use Rattle.std.specs.List.{Any, AllByRecursion}
use Rattle.std.specs.Option.{IsSomeAnd}
use Rattle.std.proofs.lemmas.Bool.{cases_Bool, not-false, not_from_true, or_parts, eq-eqb, ne_eqb}
use Rattle.std.proofs.lemmas.Bool.Decides.{Decides-or, Decides-like, Decides-eqb, nat_tests}
use Rattle.std.proofs.lemmas.List.Folds.{Any-from_list_any, list_any-from_Any}
use Rattle.std.proofs.lemmas.List.{nil_from_length}
use Rattle.std.proofs.lemmas.Slice.Eq.{bytes_eq-Decides}
use Rattle.wire_base.specs.Names.{SameName, same_name}
use Rattle.wire_base.proofs.NameLaws.{same_name-Decides}
use Rattle.account_table.specs.AccountTable.{AccountTable}
use Rattle.account_table.specs.LookUps.{account_in, is_trust, route_by, route_in}
use Rattle.account_table.specs.declared.account.Account.{Account}
use Rattle.account_table.specs.declared.account.Kind.{Kind}
use Rattle.account_table.specs.declared.account.Policy.{Policy}
use Rattle.account_table.specs.declared.account.Kind.TheVariants as kind
use Rattle.account_table.specs.declared.table.Route.{Route}
use Rattle.account_table.specs.declared.table.Route.TheVariants.{Own, Trust, Elsewhere}
use Rattle.logon_stubs.specs.declared.info.NetworkInfo.{NetworkInfo}
use Rattle.logon_stubs.specs.declared.info.SamInfo.{SamInfo}
use Rattle.ntlm_responses.specs.Verification.{Verifies}
use Rattle.ntlm_responses.proofs.VerificationLaws.{verifies-Decides}
use Rattle.sam_logon.specs.MayLogOn.{AccountMayLogOnAt, Allows, HashIsStored, HasNotCome, IsTakenResponse, MayLogOn, MayLogOnAt, ResponseVerifies}
use Rattle.sam_logon.specs.Rules.{Rule, Shown, allows, first_refusal, has_come, is_backup, is_refused_response, is_workstation, lists, rules_for, shown_by_hash, shown_by_response}
use Rattle.sam_logon.specs.declared.rules.Refusal.{Refusal}
use Rattle.sam_logon.specs.Verdict.{interactive_verdict_of, is_granted, verdict_by, verdict_of, verdict_routed, verdict_shown}

-- ---- what the rules test

not_come_from_test : (moment now : ℕ) → has_come moment now ≡ false → HasNotCome moment now
not_come_from_test moment now test = grind (arith, nat_tests)

test_from_not_come : (moment now : ℕ) → HasNotCome moment now → has_come moment now ≡ false
test_from_not_come moment now fact = grind (arith, nat_tests)

taken_from_test : (only : Bool) (count : ℕ) → (only && count == 24) ≡ false → (only ≡ false) ⊎ (count ≢ 24)
taken_from_test false count test = inl refl
taken_from_test true count test = inr (λ is. let same : (count == 24) ≡ true = eq-eqb count 24 is in absurd (cc))

test_from_taken : (only : Bool) (count : ℕ) → (only ≡ false) ⊎ (count ≢ 24) → (only && count == 24) ≡ false
test_from_taken false count taken = refl
test_from_taken true count (inl off) = absurd (cc)
test_from_taken true count (inr other) = ne_eqb count 24 other

lists-Decides : (workstations : List (List ℕ)) (computer : List ℕ) → Decides (lists workstations computer) (Any (λ workstation. SameName workstation computer) workstations)
lists-Decides workstations computer = (
  λ test.
      let found = Any-from_list_any (λ workstation. same_name workstation computer) workstations test in
      (found.0, found.1, found.2, found.3, (same_name-Decides found.1 computer).0 found.4),
  λ fact.
      list_any-from_Any (λ workstation. same_name workstation computer) workstations
      (fact.0, fact.1, fact.2, fact.3, (same_name-Decides fact.1 computer).1 fact.4),
)

empty-Decides : {T : Type 0} (items : List T) → Decides (length items == 0) (items ≡ [])
empty-Decides items =
    Decides-like _ (λ none. nil_from_length items none) (λ none. ap length none) (Decides-eqb (length items) 0)

allows-Decides : (workstations : List (List ℕ)) (computer : List ℕ) → Decides (allows workstations computer) (Allows workstations computer)
allows-Decides workstations computer =
    Decides-or _ _ (empty-Decides workstations) (lists-Decides workstations computer)

user_from_tests : (of : Kind) → is_trust of ≡ false → is_workstation of ≡ false → is_backup of ≡ false → of ≡ kind.User
user_from_tests kind.User trust workstation backup = refl
user_from_tests kind.Workstation trust workstation backup = absurd (cc)
user_from_tests kind.Backup trust workstation backup = absurd (cc)
user_from_tests kind.Trust trust workstation backup = absurd (cc)

-- ---- the first rule that refuses

all_pass : (rules : List Rule) → first_refusal rules ≡ None → AllByRecursion (λ rule. rule.0 ≡ false) rules
all_pass [] none = tt
all_pass (rule ∷ rules) none =
    elim (cases_Bool rule.0) [
      | inl refuses ↦ absurd (cc (rw refuses at none))
      | inr passes ↦ (passes, all_pass rules (rw passes at none))
    ]

none_refuses : (rules : List Rule) → AllByRecursion (λ rule. rule.0 ≡ false) rules → first_refusal rules ≡ None
none_refuses [] pass = refl
none_refuses (rule ∷ rules) pass = rw pass.0 (none_refuses rules pass.1)

-- what is shown isn't refused for its length, and is right
abbrev IsTaken : Policy → Shown → List ℕ → Type 0
IsTaken policy shown hash = (is_refused_response policy shown.short ≡ false) × (shown.right hash ≡ true)

-- the rules of an account pass exactly where it may log on and what is shown is taken
may_from_rules : (policy : Policy) (account : Account) (shown : Shown) (computer : List ℕ) (now : ℕ) → first_refusal (rules_for policy account shown computer now) ≡ None → AccountMayLogOnAt policy account computer now × IsTaken policy shown account.hash
may_from_rules policy account shown computer now none =
    let trust = all_pass (rules_for policy account shown computer now) none in
    let workstation = trust.1 in
    let backup = workstation.1 in
    let locked = backup.1 in
    let short = locked.1 in
    let wrong = short.1 in
    let disabled = wrong.1 in
    let expired = disabled.1 in
    let barred = expired.1 in
    let must_change = barred.1 in
    let password_expired = must_change.1 in
    let open_ones = or_parts _ _ locked.0 in (
      record {
        user = user_from_tests account.kind trust.0 workstation.0 backup.0;
        unlocked = open_ones.0;
        below_lockout = not_come_from_test policy.lockout account.bad_count open_ones.1;
        enabled = disabled.0;
        not_expired = not_come_from_test account.expires now expired.0;
        workstation = (allows-Decides account.workstations computer).0 (not-false _ barred.0);
        no_change_due = must_change.0;
        password_not_expired = not_come_from_test account.password_expires now password_expired.0;
      },
      (short.0, not-false _ wrong.0),
    )

rules_from_may : (policy : Policy) (account : Account) (shown : Shown) (computer : List ℕ) (now : ℕ) → AccountMayLogOnAt policy account computer now → IsTaken policy shown account.hash → first_refusal (rules_for policy account shown computer now) ≡ None
rules_from_may policy account shown computer now may taken =
    none_refuses (rules_for policy account shown computer now) (
      ap is_trust may.user,
      (
        ap is_workstation may.user,
        (
          ap is_backup may.user,
          (
            rw (may.unlocked, test_from_not_come policy.lockout account.bad_count may.below_lockout) refl,
            (
              taken.0,
              (
                not_from_true _ taken.1,
                (
                  may.enabled,
                  (
                    test_from_not_come account.expires now may.not_expired,
                    (
                      not_from_true _ ((allows-Decides account.workstations computer).1 may.workstation),
                      (may.no_change_due, (test_from_not_come account.password_expires now may.password_not_expired, tt)),
                    ),
                  ),
                ),
              ),
            ),
          ),
        ),
      ),
    )

-- ---- the verdict

verdict_by-Decides : (refusal : Option Refusal) (info : SamInfo) → Decides (is_granted (verdict_by refusal info)) (refusal ≡ None)
verdict_by-Decides None info = (λ _. refl, λ _. refl)
verdict_by-Decides (Some refused) info = (λ granted. absurd (cc), λ none. absurd (cc))

not_by : (place : Option ℕ) → route_by place ≡ Own → ⊥
not_by None is_own = cc
not_by (Some place) is_own = cc

own_from_route : (table : AccountTable) (domain : List ℕ) → route_in table domain ≡ Own → (domain ≡ []) ⊎ SameName table.domain domain
unfolding route_in
own_from_route table domain is_own =
    let named = Decides-or _ _ (empty-Decides domain) (same_name-Decides table.domain domain) in
    elim (cases_Bool ((length domain == 0) || same_name table.domain domain)) [
      | inl is_named ↦ named.0 is_named
      | inr other ↦ absurd (not_by _ (rw other at is_own))
    ]

route_from_own : (table : AccountTable) (domain : List ℕ) → (domain ≡ []) ⊎ SameName table.domain domain → route_in table domain ≡ Own
unfolding route_in
route_from_own table domain fact =
    let named = Decides-or _ _ (empty-Decides domain) (same_name-Decides table.domain domain) in
    rw (named.1 fact) refl

own_from_granted : (route : Route) (shown : Shown) (table : AccountTable) (controller user workstation : List ℕ) (now : ℕ) → is_granted (verdict_routed route shown table controller user workstation now) ≡ true → route ≡ Own
own_from_granted Own shown table controller user workstation now granted = refl
own_from_granted (Trust place) shown table controller user workstation now granted = absurd (cc)
own_from_granted Elsewhere shown table controller user workstation now granted = absurd (cc)

-- by what is shown
module _ (shown : Shown) (table : AccountTable) (controller workstation : List ℕ) (now : ℕ) where
  verdict_shown-Decides : (found : Option Account) → Decides (is_granted (verdict_shown found shown table controller workstation now)) (IsSomeAnd found (λ account. AccountMayLogOnAt table.policy account workstation now) × IsSomeAnd found (λ account. IsTaken table.policy shown account.hash))
  verdict_shown-Decides None = (λ granted. absurd (cc), λ fact. absurd fact.0)
  verdict_shown-Decides (Some account) =
      let decided = verdict_by-Decides (first_refusal (rules_for table.policy account shown workstation now)) _ in (
        λ granted. may_from_rules table.policy account shown workstation now (decided.0 granted),
        λ fact. decided.1 (rules_from_may table.policy account shown workstation now fact.0 fact.1),
      )

  verdict_routed-Decides : (domain user : List ℕ) → Decides (is_granted (verdict_routed (route_in table domain) shown table controller user workstation now)) (MayLogOnAt table domain user workstation now × IsSomeAnd (account_in table.accounts user) (λ account. IsTaken table.policy shown account.hash))
  verdict_routed-Decides domain user =
      let on = verdict_shown-Decides (account_in table.accounts user) in (
        λ granted.
            let own = own_from_granted (route_in table domain) shown table controller user workstation now granted in
            let facts = on.0 (rw own at granted) in
            (record { domain = own_from_route table domain own; account = facts.0 }, facts.1),
        λ fact. rw (route_from_own table domain fact.0.domain) (on.1 (fact.0.account, fact.1)),
      )

-- ---- a network logon: of the account that is found, the response has a length that is taken, and it verifies

taken_response : (policy : Policy) (info : NetworkInfo) (found : Option Account) → IsSomeAnd found (λ account. IsTaken policy (shown_by_response info) account.hash) → IsTakenResponse policy info.nt × IsSomeAnd found (λ account. Verifies account.hash info.user info.domain info.challenge info.nt)
taken_response policy info None taken = absurd taken
taken_response policy info (Some account) taken = (
  taken_from_test policy.ntlmv2_only (length info.nt) taken.0,
  (verifies-Decides account.hash info.user info.domain info.challenge info.nt).0 taken.1,
)

response_taken : (policy : Policy) (info : NetworkInfo) (found : Option Account) → IsTakenResponse policy info.nt → IsSomeAnd found (λ account. Verifies account.hash info.user info.domain info.challenge info.nt) → IsSomeAnd found (λ account. IsTaken policy (shown_by_response info) account.hash)
response_taken policy info None taken verified = absurd verified
response_taken policy info (Some account) taken verified = (
  test_from_taken policy.ntlmv2_only (length info.nt) taken,
  (verifies-Decides account.hash info.user info.domain info.challenge info.nt).1 verified,
)

pub verdict_of-Decides : (table : AccountTable) (controller : List ℕ) (info : NetworkInfo) (now : ℕ) → Decides (is_granted (verdict_of table controller info now)) (MayLogOn table info now × ResponseVerifies table info)
unfolding verdict_of
verdict_of-Decides table controller info now =
    let routed = verdict_routed-Decides (shown_by_response info) table controller info.workstation now info.domain info.user in (
      λ granted.
          let facts = routed.0 granted in
          let taken = taken_response table.policy info (account_in table.accounts info.user) facts.1 in
          (record { there = facts.0; taken_response = taken.0 }, taken.1),
      λ fact. routed.1 (fact.0.there, response_taken table.policy info (account_in table.accounts info.user) fact.0.taken_response fact.1),
    )

-- ---- an interactive logon: the hash is the account's

no_short : (policy : Policy) → is_refused_response policy false ≡ false
no_short policy = elim (cases_Bool policy.ntlmv2_only) [
  | inl only ↦ rw only refl
  | inr not_only ↦ rw not_only refl
]

stored_hash : (policy : Policy) (nt : List ℕ) (found : Option Account) → IsSomeAnd found (λ account. IsTaken policy (shown_by_hash nt) account.hash) → IsSomeAnd found (λ account. nt ≡ account.hash)
stored_hash policy nt None taken = absurd taken
stored_hash policy nt (Some account) taken = (bytes_eq-Decides nt account.hash).0 taken.1

hash_taken : (policy : Policy) (nt : List ℕ) (found : Option Account) → IsSomeAnd found (λ account. nt ≡ account.hash) → IsSomeAnd found (λ account. IsTaken policy (shown_by_hash nt) account.hash)
hash_taken policy nt None stored = absurd stored
hash_taken policy nt (Some account) stored = (no_short policy, (bytes_eq-Decides nt account.hash).1 stored)

pub interactive_verdict_of-Decides : (table : AccountTable) (controller domain user workstation nt : List ℕ) (now : ℕ) → Decides (is_granted (interactive_verdict_of table controller domain user workstation nt now)) (MayLogOnAt table domain user workstation now × HashIsStored table user nt)
unfolding interactive_verdict_of
interactive_verdict_of-Decides table controller domain user workstation nt now =
    let routed = verdict_routed-Decides (shown_by_hash nt) table controller workstation now domain user in (
      λ granted. let facts = routed.0 granted in (facts.0, stored_hash table.policy nt (account_in table.accounts user) facts.1),
      λ fact. routed.1 (fact.0, hash_taken table.policy nt (account_in table.accounts user) fact.1),
    )

-- for `grind`: the verdict tells the fact
pub ruleset granted = (verdict_of-Decides, interactive_verdict_of-Decides)
