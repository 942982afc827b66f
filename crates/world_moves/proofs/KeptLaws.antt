-- What an action leaves of the plans of members, and of all else but the bag and the dials.
-- It serves `put_secrets` and the laws of all runs.
use Rattle.std.proofs.Common.{◌≡◌, ◌≤◌, ℕ, zero, suc, List, [], ◌∷◌, map, length, Option, Some, None, slice_get, slice_set, refl, ap, sym}
use Rattle.std.proofs.lemmas.Option.{slice_get_past}
use Rattle.outside.specs.declared.action.Action.{Action}
use Rattle.outside.specs.declared.action.Action.TheVariants as action
use Rattle.secret_change.specs.Secrets.{SecretsState, secrets_of}
use Rattle.member_server.specs.declared.plan.MemberPlan.{MemberPlan}
use Rattle.world_moves.specs.declared.links.EndId.{EndId}
use Rattle.world_moves.specs.declared.links.EndId.TheVariants.{Controller, Member, Client, Station}
use Rattle.world_moves.specs.Acting.{keep_at, keep_by, plans_after, put_secrets}
use Rattle.world_moves.specs.MemberPlans.{AreAlikeButSecrets, but_secret}

-- ---- secrets that are put into a plan

pub secrets_put : (plans : List MemberPlan) (at : ℕ) (plan : MemberPlan) (secrets : SecretsState) → slice_get plans at ≡ Some plan →
    slice_set plans at (record plan { secrets = secrets }) ≡ put_secrets (slice_get plans at) secrets at plans
secrets_put plans at plan secrets there = sym (ap (λ (found : Option MemberPlan). put_secrets found secrets at plans) there)

pub none_put : (plans : List MemberPlan) (at : ℕ) (secrets : SecretsState) → length plans ≤ at → plans ≡ put_secrets (slice_get plans at) secrets at plans
none_put plans at secrets past = sym (ap (λ (found : Option MemberPlan). put_secrets found secrets at plans) (slice_get_past plans at past))

-- ---- plans that are alike but for secrets

set_alike : (plans : List MemberPlan) (at : ℕ) (plan : MemberPlan) (secrets : SecretsState) → slice_get plans at ≡ Some plan → AreAlikeButSecrets plans (slice_set plans at (record plan { secrets = secrets }))
set_alike [] at plan secrets is = refl
set_alike (first ∷ plans) zero plan secrets is = let same : first ≡ plan = cc in ap (λ (p : MemberPlan). but_secret p ∷ map but_secret plans) (sym same)
set_alike (first ∷ plans) (suc at) plan secrets is = ap (λ (rest : List MemberPlan). but_secret first ∷ rest) (set_alike plans at plan secrets is)

put_alike : (found : Option MemberPlan) (secrets : SecretsState) (at : ℕ) (plans : List MemberPlan) → slice_get plans at ≡ found → AreAlikeButSecrets plans (put_secrets found secrets at plans)
put_alike None secrets at plans is = refl
put_alike (Some plan) secrets at plans is = set_alike plans at plan secrets is

keep_by_alike : (found : Option SecretsState) (at : ℕ) (plans : List MemberPlan) → AreAlikeButSecrets plans (keep_by found at plans)
keep_by_alike None at plans = refl
keep_by_alike (Some secrets) at plans = put_alike (slice_get plans at) secrets at plans refl

keep_alike : (end : EndId) (text : List ℕ) (plans : List MemberPlan) → AreAlikeButSecrets plans (keep_at end text plans)
keep_alike (Controller at) text plans = refl
keep_alike (Member at) text plans = keep_by_alike (secrets_of text) at plans
keep_alike (Client at) text plans = refl
keep_alike (Station at) text plans = refl

-- an action leaves the plans alike
pub plans_alike : (end : EndId) (what : Action) (plans : List MemberPlan) → AreAlikeButSecrets plans (plans_after end what plans)
plans_alike end (action.Keep text) plans = keep_alike end text plans
plans_alike end (action.Send link bytes) plans = refl
plans_alike end (action.Dial peer) plans = refl
plans_alike end (action.Close link cause) plans = refl
plans_alike end (action.Told link outcome) plans = refl
plans_alike end (action.Judged how) plans = refl
