-- How a call on a link that may be sealed is answered, by what its parts come to. It serves the calls of
-- `seal_answering`.
use Rattle.std.proofs.Common.{◌≡◌, ℕ, Bool, List, length, Option, Some, Result, sym, subst, ap, ◌∙◌}
use Rattle.account_table.specs.AccountTable.{AccountTable}
use Rattle.outside.specs.Machine.{AnswersBy}
use Rattle.outside.specs.declared.action.StepRefused.{StepRefused}
use Rattle.controller_calls.specs.Calls.{computer_named}
use Rattle.controller_calls.specs.Desk.{desk}
use Rattle.controller_calls.specs.Seals.{belongs}
use Rattle.controller_calls.specs.Unsent.{Unsent, owned_unsent}
use Rattle.controller_calls.specs.declared.calls.JudgedCall.{JudgedCall}
use Rattle.controller_calls.specs.declared.handing.HandOn.{HandOn}
use Rattle.controller_calls.specs.declared.line.Line.{Line}
use Rattle.controller_calls.specs.declared.seals.LinkSeal.{LinkSeal}
use Rattle.controller_calls.specs.declared.seals.ReplySeal.{ReplySeal}
use Rattle.controller_calls.specs.declared.state.Work.{Work}
use Rattle.domain_controller.specs.Forwarding.{TrustDesk, place_of_call, trust_desk}
use Rattle.domain_controller.specs.SealServing.{SealDesk, SealedPart, after_unsent, at_table, draw_confounder, judge_on_link, judge_sealed, judge_unsent}
use Rattle.domain_controller.specs.declared.sealed.Sealing.{Sealing}
use Rattle.domain_controller.specs.declared.state.Talk.{Talk}
use Rattle.domain_controller.specs.declared.trusting.TrustWork.{TrustWork}

-- what is done of a call before its reply is sent, and what follows of it
pub unsent_if : (c : JudgedCall) (reply : ReplySeal) (line : Line) (talk : Talk) (name : List ℕ) (now trusts : ℕ) (own : Bool) (old new : AccountTable) (w : TrustWork) (s : Sealing)
    (judged : Work) (stub : Option (List ℕ)) (handed : Option HandOn) (done : SealedPart) →
    own ≡ belongs (Some reply.link) (computer_named c) s.seals → trusts ≡ length w.queues.requesters →
    ◌≡◌ {A = Unsent} (desk new judged, (stub, handed)) (owned_unsent own c (record { name = name; now = now; line = line; trusts = trusts }) (desk old w.work)) →
    done ≡ after_unsent stub handed reply line (record { work = judged; queues = w.queues }) s talk →
    at_table new done ≡ judge_sealed c reply.link reply.confounder line talk name now (trust_desk old w) s
unsent_if c reply line talk name now trusts own old new w s judged stub handed done own_is count is follows =
    ap (λ (part : SealedPart). at_table new part) follows
    ∙ ap (λ (u : Unsent). judge_unsent u reply line w.queues s talk) is
    ∙ ap (λ (n : ℕ). judge_unsent (owned_unsent own c (record { name = name; now = now; line = line; trusts = n }) (desk old w.work)) reply line w.queues s talk) count
    ∙ ap (λ (b : Bool). judge_unsent (owned_unsent b c (place_of_call name now line w.queues) (desk old w.work)) reply line w.queues s talk) own_is

-- on a sealed link
pub sealed_for : (result : Result (SealDesk × Option Talk) StepRefused) (seal : Option LinkSeal) (link : LinkSeal) (c : JudgedCall) (line : Line) (talk : Talk) (name : List ℕ) (now : ℕ) (d : TrustDesk) (s : Sealing) (left rest : List (List ℕ)) →
    seal ≡ Some link → AnswersBy result (draw_confounder left c link line talk name now d s) rest → AnswersBy result (judge_on_link seal c line talk name now d s left) rest
sealed_for result seal link c line talk name now d s left rest is answer =
    subst (λ (l : Option LinkSeal). AnswersBy result (judge_on_link l c line talk name now d s left) rest) (sym is) answer
