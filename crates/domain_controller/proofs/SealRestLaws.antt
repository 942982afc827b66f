-- A controller that can seal draws challenges and confounders from the front of those left, and at most one for
-- a unit.
use Rattle.std.proofs.Common.{◌≡◌, ◌+◌, ℕ, ◌≤◌, List, [], ◌∷◌, length, Option, Some, None, Result, Ok, Err, refl, subst, ap, ◌∙◌, arith}
use Rattle.outside.proofs.DrawLaws.{IsRest-later, IsRest-nothing, IsRest-refl}
use Rattle.outside.specs.Drawing.{IsRest}
use Rattle.outside.specs.declared.action.StepRefused.{StepRefused}
use Rattle.outside.specs.Machine.{AnswersBy, left_by}
use Rattle.end_links.proofs.BoundLaws.{nothing_drawn, none_fewer}
use Rattle.end_links.specs.Bounds.{ServerDrawsFew, extra_after, extra_on}
use Rattle.end_links.specs.Serving.{ServedPart, ServerLeavesRest}
use Rattle.controller_calls.specs.declared.calls.ControllerCall.TheVariants as call
use Rattle.controller_calls.specs.declared.calls.JudgedCall.{JudgedCall}
use Rattle.controller_calls.specs.declared.line.Line.{Line}
use Rattle.controller_calls.specs.declared.seals.LinkSeal.{LinkSeal}
use Rattle.domain_controller.proofs.TrustRestLaws.{DrawsFew, heard_few, trust_heard_rest}
use Rattle.domain_controller.specs.Forwarding.{TrustDesk, by_trust_call, by_trust_heard}
use Rattle.domain_controller.specs.Hearing.{hear}
use Rattle.domain_controller.specs.SealHearing.{seal_hear}
use Rattle.domain_controller.specs.SealServing.{SealDesk, SealPart, beside_sealing, by_seal_heard, draw_confounder, judge_sealed, seal_server, serve_sealing}
use Rattle.domain_controller.specs.Sealing.{link_sealed, seal_of_link, with_seals}
use Rattle.domain_controller.specs.declared.hearing.Heard.{Heard}
use Rattle.domain_controller.specs.declared.hearing.Heard.TheVariants as heard
use Rattle.domain_controller.specs.declared.sealed.Sealing.{Sealing}
use Rattle.domain_controller.specs.declared.state.Talk.{Talk}

-- ---- a unit

plain_rest : (s : Option Sealing) (part : ServedPart TrustDesk Talk) (left : List (List ℕ)) → IsRest (left_by part) left → IsRest (left_by (beside_sealing s part)) left
plain_rest s (Err why) left is = is
plain_rest s (Ok part) left is = is

drawn_rest : (left : List (List ℕ)) (c : JudgedCall) (link : LinkSeal) (line : Line) (talk : Talk) (name : List ℕ) (now : ℕ) (d : TrustDesk) (s : Sealing) →
    IsRest (left_by (draw_confounder left c link line talk name now d s)) left
drawn_rest [] c link line talk name now d s = IsRest-nothing []
drawn_rest (confounder ∷ left) c link line talk name now d s = IsRest-later confounder left left (IsRest-refl left)

seal_heard_rest : (h : Heard) (link : Option LinkSeal) (number : ℕ) (name : List ℕ) (now : ℕ) (d : TrustDesk) (s : Sealing) (left : List (List ℕ)) →
    IsRest (left_by (by_seal_heard h link number name now d s left)) left
seal_heard_rest (heard.Close cause) link number name now d s left = IsRest-refl left
seal_heard_rest (heard.Answer bytes talk) link number name now d s left = IsRest-refl left
seal_heard_rest (heard.Waits talk) link number name now d s left = IsRest-refl left
seal_heard_rest (heard.Asked line (call.Challenge c) talk) link number name now d s left =
    plain_rest (Some s) (by_trust_call (call.Challenge c) line talk name now d left) left (trust_heard_rest (heard.Asked line (call.Challenge c) talk) number name now d left)
seal_heard_rest (heard.Asked line (call.Authenticate c) talk) link number name now d s left = IsRest-refl left
seal_heard_rest (heard.Asked line (call.Judged c) talk) None number name now d s left = IsRest-refl left
seal_heard_rest (heard.Asked line (call.Judged c) talk) (Some link) number name now d s left = drawn_rest left c link line talk name now d s

pub serve_rest : (sealing : Option Sealing) (number : ℕ) (bytes : List ℕ) (talk : Talk) (name : List ℕ) (now : ℕ) (d : TrustDesk) (left : List (List ℕ)) →
    IsRest (left_by (serve_sealing sealing number bytes talk name now d left)) left
serve_rest None number bytes talk name now d left =
    plain_rest None (by_trust_heard (hear number bytes talk) number name now d left) left (trust_heard_rest (hear number bytes talk) number name now d left)
serve_rest (Some s) number bytes talk name now d left =
    seal_heard_rest (seal_hear number bytes talk (seal_of_link number s) s.seals).heard (seal_of_link number s) number name now d
    (link_sealed (seal_hear number bytes talk (seal_of_link number s) s.seals).bound number (with_seals (seal_hear number bytes talk (seal_of_link number s) s.seals).seals s)) left

pub seal_server_leaves : (name : List ℕ) (now number : ℕ) → ServerLeavesRest (seal_server name now number)
seal_server_leaves name now number = record {
  unit = λ bytes d talk left. serve_rest d.sealing number bytes talk name now d.desk left;
  refusal = λ why d talk left. IsRest-refl left;
}

-- what a unit comes to by what is heard
pub unit_heard : (result : Result (SealDesk × Option Talk) StepRefused) (h : Heard) (seal : Option LinkSeal) (s after : Sealing) (number : ℕ) (bytes : List ℕ) (talk : Talk) (name : List ℕ) (now : ℕ) (d : TrustDesk) (left rest : List (List ℕ)) →
    h ≡ (seal_hear number bytes talk (seal_of_link number s) s.seals).heard → seal ≡ seal_of_link number s →
    after ≡ link_sealed (seal_hear number bytes talk (seal_of_link number s) s.seals).bound number (with_seals (seal_hear number bytes talk (seal_of_link number s) s.seals).seals s) →
    AnswersBy result (by_seal_heard h seal number name now d after left) rest → AnswersBy result (serve_sealing (Some s) number bytes talk name now d left) rest
unit_heard result h seal s after number bytes talk name now d left rest heard_is seal_is after_is answer =
    subst (λ (part : SealPart). AnswersBy result part rest)
    (ap (λ (one : Heard). by_seal_heard one seal number name now d after left) heard_is
    ∙ ap (λ (one : Option LinkSeal). by_seal_heard (seal_hear number bytes talk (seal_of_link number s) s.seals).heard one number name now d after left) seal_is
    ∙ ap (λ (one : Sealing). by_seal_heard (seal_hear number bytes talk (seal_of_link number s) s.seals).heard (seal_of_link number s) number name now d one left) after_is)
    answer

-- ---- how many are drawn

abbrev SealsFew : List (List ℕ) → SealPart → Type 0
SealsFew left part = length left + extra_after (λ (t : Talk). 0) part ≤ length (left_by part) + 1 + 0

plain_few : (s : Option Sealing) (part : ServedPart TrustDesk Talk) (left : List (List ℕ)) → DrawsFew left part → SealsFew left (beside_sealing s part)
plain_few s (Err why) left few = few
plain_few s (Ok part) left few = few

no_extra : (talk : Option Talk) → extra_on (λ (t : Talk). 0) talk ≡ 0
no_extra None = refl
no_extra (Some talk) = refl

drawn_few : (left : List (List ℕ)) (c : JudgedCall) (link : LinkSeal) (line : Line) (talk : Talk) (name : List ℕ) (now : ℕ) (d : TrustDesk) (s : Sealing) →
    SealsFew left (draw_confounder left c link line talk name now d s)
drawn_few [] c link line talk name now d s = omega arith
drawn_few (confounder ∷ left) c link line talk name now d s = omega (arith, no_extra (judge_sealed c link confounder line talk name now d s).1)

seal_heard_few : (h : Heard) (link : Option LinkSeal) (number : ℕ) (name : List ℕ) (now : ℕ) (d : TrustDesk) (s : Sealing) (left : List (List ℕ)) →
    SealsFew left (by_seal_heard h link number name now d s left)
seal_heard_few (heard.Close cause) link number name now d s left = nothing_drawn (length left) 0
seal_heard_few (heard.Answer bytes talk) link number name now d s left = nothing_drawn (length left) 0
seal_heard_few (heard.Waits talk) link number name now d s left = nothing_drawn (length left) 0
seal_heard_few (heard.Asked line (call.Challenge c) talk) link number name now d s left =
    plain_few (Some s) (by_trust_call (call.Challenge c) line talk name now d left) left (heard_few (heard.Asked line (call.Challenge c) talk) number name now d left)
seal_heard_few (heard.Asked line (call.Authenticate c) talk) link number name now d s left = nothing_drawn (length left) 0
seal_heard_few (heard.Asked line (call.Judged c) talk) None number name now d s left = nothing_drawn (length left) 0
seal_heard_few (heard.Asked line (call.Judged c) talk) (Some link) number name now d s left = drawn_few left c link line talk name now d s

serve_few : (sealing : Option Sealing) (number : ℕ) (bytes : List ℕ) (talk : Talk) (name : List ℕ) (now : ℕ) (d : TrustDesk) (left : List (List ℕ)) →
    SealsFew left (serve_sealing sealing number bytes talk name now d left)
serve_few None number bytes talk name now d left =
    plain_few None (by_trust_heard (hear number bytes talk) number name now d left) left (heard_few (hear number bytes talk) number name now d left)
serve_few (Some s) number bytes talk name now d left =
    seal_heard_few (seal_hear number bytes talk (seal_of_link number s) s.seals).heard (seal_of_link number s) number name now d
    (link_sealed (seal_hear number bytes talk (seal_of_link number s) s.seals).bound number (with_seals (seal_hear number bytes talk (seal_of_link number s) s.seals).seals s)) left

pub seal_server_few : (name : List ℕ) (now number : ℕ) → ServerDrawsFew (seal_server name now number) (λ talk. 0)
seal_server_few name now number = record {
  unit = λ bytes d talk left. serve_few d.sealing number bytes talk name now d.desk left;
  refusal = λ why d talk left. none_fewer (length left);
}
