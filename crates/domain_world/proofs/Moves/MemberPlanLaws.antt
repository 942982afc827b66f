-- Plans that are alike but for their secrets name the same controllers.
use Rattle.std.proofs.Common.{◌≡◌, ℕ, zero, suc, List, [], ◌∷◌, map, Some, refl, sym, ap, ◌∙◌, slice_get, subst}
use Rattle.member_server.specs.declared.plan.MemberPlan.{MemberPlan}
use Rattle.world_moves.specs.Ends.{EndStates}
use Rattle.world_moves.specs.MemberPlans.{AreAlikeButSecrets, but_secret}
use Rattle.domain_world.specs.Past.{controller_of_plan}

-- the controller is read of the address alone
pub controller_but_secret : (plans : List MemberPlan) (k : ℕ) (ends : EndStates) → controller_of_plan (slice_get (map but_secret plans) k) ends ≡ controller_of_plan (slice_get plans k) ends
controller_but_secret [] zero ends = refl
controller_but_secret [] (suc k) ends = refl
controller_but_secret (own ∷ plans) zero ends = refl
controller_but_secret (own ∷ plans) (suc k) ends = controller_but_secret plans k ends

pub controllers_alike : (plans later : List MemberPlan) (k : ℕ) (ends : EndStates) → AreAlikeButSecrets plans later →
    controller_of_plan (slice_get later k) ends ≡ controller_of_plan (slice_get plans k) ends
controllers_alike plans later k ends alike =
    sym (controller_but_secret later k ends)
    ∙ ap (λ (all : List MemberPlan). controller_of_plan (slice_get all k) ends) alike
    ∙ controller_but_secret plans k ends

pub found_but_secret : (plans : List MemberPlan) (k : ℕ) (own : MemberPlan) → slice_get plans k ≡ Some own → slice_get (map but_secret plans) k ≡ Some (but_secret own)
found_but_secret [] zero own is = absurd cc
found_but_secret [] (suc k) own is = absurd cc
found_but_secret (first ∷ plans) zero own is = let same : first ≡ own = cc in ap (λ (p : MemberPlan). Some (but_secret p)) same
found_but_secret (first ∷ plans) (suc k) own is = found_but_secret plans k own is

-- what holds of each name of a computer holds on where the plans are alike
pub names_alike : (Named : List ℕ → Type 0) (plans later : List MemberPlan) → AreAlikeButSecrets plans later → ((k : ℕ) (own : MemberPlan) → slice_get plans k ≡ Some own → Named own.computer) →
    (k : ℕ) (own : MemberPlan) → slice_get later k ≡ Some own → Named own.computer
names_alike Named [] [] alike named zero own is = absurd cc
names_alike Named [] [] alike named (suc k) own is = absurd cc
names_alike Named [] (first ∷ later) alike named k own is = absurd (let never = alike in cc)
names_alike Named (first ∷ plans) [] alike named k own is = absurd (let never = alike in cc)
names_alike Named (first ∷ plans) (new ∷ later) alike named zero own is =
    let one : but_secret new ≡ but_secret first = cc in
    let same : new ≡ own = cc in
    subst (λ (p : MemberPlan). Named p.computer) same (subst Named (sym (ap (λ (p : MemberPlan). p.computer) one)) (named zero first refl))
names_alike Named (first ∷ plans) (new ∷ later) alike named (suc k) own is =
    let rest : AreAlikeButSecrets plans later = cc in names_alike Named plans later rest (λ j p there. named (suc j) p there) k own is
