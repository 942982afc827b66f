-- What a controller answers to a Logon call whose authenticator passes has status 0 exactly where it is a grant.
-- It serves `grants_carry_their_key`.
use Rattle.std.proofs.Common.{◌≡◌, ℕ, ◌==◌, ◌||◌, Bool, true, false, inl, inr, List, [], ◌∷◌, Option, Some, None, refl, sym, ap, ◌∙◌}
use Rattle.std.specs.List.{AllByRecursion}
use Rattle.std.proofs.lemmas.Bool.Decides.{Decides-eqb}
use Rattle.logon_stubs.specs.Status.{invalid_info_class, no_such_domain, no_such_user}
use Rattle.logon_stubs.specs.declared.info.NetworkInfo.{NetworkInfo}
use Rattle.logon_stubs.specs.declared.info.SamInfo.{SamInfo}
use Rattle.logon_stubs.specs.declared.info.Verdict.{Verdict}
use Rattle.logon_stubs.specs.declared.info.Verdict.TheVariants.{Granted, Status}
use Rattle.ntlm_responses.specs.Verification.{base_key_of}
use Rattle.account_table.specs.AccountTable.{AccountTable}
use Rattle.account_table.specs.LookUps.{account_in, route_in}
use Rattle.account_table.specs.declared.account.Account.{Account}
use Rattle.account_table.specs.declared.account.Policy.{Policy}
use Rattle.account_table.specs.declared.table.Route.{Route}
use Rattle.account_table.specs.declared.table.Route.TheVariants.{Own, Trust, Elsewhere}
use Rattle.sam_logon.specs.Granting.{sam_info_of}
use Rattle.sam_logon.specs.MayLogOn.{MayLogOn, ResponseVerifies}
use Rattle.sam_logon.specs.Rules.{Rule, first_refusal, refusal_by, rules_of}
use Rattle.sam_logon.specs.Verdict.{is_granted, judgement_of, verdict_at, verdict_by, verdict_of, verdict_on}
use Rattle.sam_logon.proofs.VerdictLaws.{verdict_of-Decides}
use Rattle.domain_controller.specs.Machine.{IsServedLevel, judge_info, judge_level, serves_level, status_of}

-- ---- no rule refuses with status 0

-- no status but 0 is 0
pub not_zero : (status : ℕ) → (status == 0) ≡ false → status ≡ 0 → ⊥
not_zero status other is = absurd (let never : false ≡ true = sym other ∙ ap (λ (n : ℕ). n == 0) is in cc)

one_refuses : (rule : Rule) (later : _) (info : SamInfo) → (rule.1.status == 0) ≡ false → (status_of (verdict_by later info) ≡ 0 → later ≡ None) →
    status_of (verdict_by (refusal_by rule.0 rule.1 later) info) ≡ 0 → refusal_by rule.0 rule.1 later ≡ None
one_refuses (true, refused) later info other rest is = absurd (not_zero refused.status other is)
one_refuses (false, refused) later info other rest is = rest is

none_refuses : (rules : List Rule) (info : SamInfo) → AllByRecursion (λ (rule : Rule). (rule.1.status == 0) ≡ false) rules → status_of (verdict_by (first_refusal rules) info) ≡ 0 → first_refusal rules ≡ None
none_refuses [] info others is = refl
none_refuses (rule ∷ rules) info others is = one_refuses rule (first_refusal rules) info others.0 (none_refuses rules info others.1) is

rules_have_status : (policy : Policy) (account : Account) (info : NetworkInfo) (now : ℕ) →
    AllByRecursion (λ (rule : Rule). (rule.1.status == 0) ≡ false) (rules_of policy account info now)
rules_have_status policy account info now =
    (refl, (refl, (refl, (refl, (refl, (refl, (refl, (refl, (refl, (refl, (refl, tt)))))))))))

-- ---- what is granted

-- the verdict is a grant for the account of the user's name, with the session base key of its hash
pub record IsGrantFor (table : AccountTable) (name : List ℕ) (info : NetworkInfo) (now : ℕ) (verdict : Verdict) : Type 0 where
  pub account : Account
  pub stored : account_in table.accounts info.user ≡ Some account
  pub is : verdict ≡ Granted (sam_info_of table name account (base_key_of account.hash info.user info.domain info.nt) now)

module _ (table : AccountTable) (name : List ℕ) (info : NetworkInfo) (now : ℕ) where
  on_account : (found : Option Account) → account_in table.accounts info.user ≡ found → status_of (verdict_on found table name info now) ≡ 0 →
      IsGrantFor table name info now (verdict_on found table name info now)
  on_account None there is = absurd (not_zero no_such_user refl is)
  on_account (Some account) there is =
      let granted : SamInfo = sam_info_of table name account (base_key_of account.hash info.user info.domain info.nt) now in
      record {
        account = account;
        stored = there;
        is = ap (λ (refusal : _). verdict_by refusal granted) (none_refuses (rules_of table.policy account info now) granted (rules_have_status table.policy account info now) is);
      }

  at_route : (route : Route) → status_of (verdict_at route table name info now) ≡ 0 → IsGrantFor table name info now (verdict_at route table name info now)
  at_route Own is = on_account (account_in table.accounts info.user) refl is
  at_route (Trust place) is = absurd (not_zero no_such_domain refl is)
  at_route Elsewhere is = absurd (not_zero no_such_domain refl is)

  of_verdict : status_of (verdict_of table name info now) ≡ 0 → IsGrantFor table name info now (verdict_of table name info now)
  unfolding verdict_of
  of_verdict is = at_route (route_in table info.domain) is

granted_zero : (verdict : Verdict) → is_granted verdict ≡ true → status_of verdict ≡ 0
granted_zero (Granted info) is = refl
granted_zero (Status status) is = absurd (let never : false ≡ true = is in cc)

-- ---- by the validation level

-- a status of 0 is that of a grant at a level that is served
pub record IsServedGrant (table : AccountTable) (name : List ℕ) (now : ℕ) (info : NetworkInfo) (validation : ℕ) (verdict : Verdict) : Type 0 where
  pub level : IsServedLevel validation
  pub grant : IsGrantFor table name info now verdict
  pub may : MayLogOn table info now
  pub verifies : ResponseVerifies table info

served_either : (validation : ℕ) (two : Bool) → (validation == 2) ≡ two → (two || (validation == 3)) ≡ true → IsServedLevel validation
served_either validation true is either = inl ((Decides-eqb validation 2).0 is)
served_either validation false is either = inr ((Decides-eqb validation 3).0 either)

either_served : (validation : ℕ) → IsServedLevel validation → serves_level validation ≡ true
either_served validation (inl two) = ap serves_level two
either_served validation (inr three) = ap serves_level three

module _ (table : AccountTable) (name : List ℕ) (now : ℕ) (info : NetworkInfo) (validation : ℕ) where
  served_at : (served : Bool) → serves_level validation ≡ served → status_of (judge_level served table name info now).verdict ≡ 0 →
      IsServedGrant table name now info validation (judge_level served table name info now).verdict
  unfolding judgement_of
  served_at false level is = absurd (not_zero invalid_info_class refl is)
  served_at true level is =
      let grant : IsGrantFor table name info now (verdict_of table name info now) = of_verdict table name info now is in
      let facts : MayLogOn table info now × ResponseVerifies table info = (verdict_of-Decides table name info now).0 (ap is_granted grant.is) in
      record { level = served_either validation (validation == 2) refl level; grant = grant; may = facts.0; verifies = facts.1 }

  pub served_grant : status_of (judge_info table name now info validation).verdict ≡ 0 → IsServedGrant table name now info validation (judge_info table name now info validation).verdict
  served_grant is = served_at (serves_level validation) refl is

  level_granted : (served : Bool) → served ≡ true → is_granted (verdict_of table name info now) ≡ true → status_of (judge_level served table name info now).verdict ≡ 0
  unfolding judgement_of
  level_granted false level is = absurd (let never : false ≡ true = level in cc)
  level_granted true level is = granted_zero (verdict_of table name info now) is

  pub granted_status : IsServedLevel validation → MayLogOn table info now → ResponseVerifies table info → status_of (judge_info table name now info validation).verdict ≡ 0
  granted_status level may verifies =
      level_granted (serves_level validation) (either_served validation level) ((verdict_of-Decides table name info now).1 (may, verifies))
