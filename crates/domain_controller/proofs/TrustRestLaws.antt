-- The challenges that a unit leaves to a controller that trusts other domains are a rest of those that it is given, and
-- at most one fewer.
use Rattle.std.proofs.Common.{ℕ, ◌+◌, ◌≤◌, List, [], ◌∷◌, length, Ok, Err, arith}
use Rattle.outside.proofs.DrawLaws.{IsRest-refl}
use Rattle.outside.specs.Drawing.{IsRest}
use Rattle.outside.specs.Machine.{left_by}
use Rattle.end_links.proofs.BoundLaws.{nothing_drawn, none_fewer}
use Rattle.end_links.specs.Bounds.{ServerDrawsFew, extra_after}
use Rattle.end_links.specs.Serving.{ServedPart, ServerLeavesRest}
use Rattle.logon_stubs.specs.declared.calls.ChallengeCall.{ChallengeCall}
use Rattle.controller_calls.specs.Desk.{Desk}
use Rattle.controller_calls.specs.declared.calls.ControllerCall.{ControllerCall}
use Rattle.controller_calls.specs.declared.calls.ControllerCall.TheVariants as call
use Rattle.controller_calls.specs.declared.line.Line.{Line}
use Rattle.domain_controller.proofs.RestLaws.{heard_rest}
use Rattle.domain_controller.specs.Forwarding.{TrustDesk, base_desk, beside, by_trust_call, by_trust_heard, trust_server}
use Rattle.domain_controller.specs.Hearing.{hear}
use Rattle.domain_controller.specs.Machine.{by_call}
use Rattle.domain_controller.specs.declared.hearing.Heard.{Heard}
use Rattle.domain_controller.specs.declared.hearing.Heard.TheVariants as heard
use Rattle.domain_controller.specs.declared.state.Talk.{Talk}
use Rattle.domain_controller.specs.declared.trusting.Queues.{Queues}

-- ---- a unit

beside_rest : (queues : Queues) (part : ServedPart Desk Talk) (left : List (List ℕ)) → IsRest (left_by part) left → IsRest (left_by (beside queues part)) left
beside_rest queues (Err why) left is = is
beside_rest queues (Ok part) left is = is

call_rest : (c : ControllerCall) (line : Line) (talk : Talk) (name : List ℕ) (now link : ℕ) (d : TrustDesk) (left : List (List ℕ)) →
    IsRest (left_by (by_trust_call c line talk name now d left)) left
call_rest (call.Challenge c) line talk name now link d left =
    beside_rest d.work.queues (by_call (call.Challenge c) line talk name now (base_desk d) left) left
    (heard_rest (heard.Asked line (call.Challenge c) talk) link name now (base_desk d) left)
call_rest (call.Authenticate c) line talk name now link d left = IsRest-refl left
call_rest (call.Judged c) line talk name now link d left = IsRest-refl left

pub trust_heard_rest : (h : Heard) (link : ℕ) (name : List ℕ) (now : ℕ) (d : TrustDesk) (left : List (List ℕ)) →
    IsRest (left_by (by_trust_heard h link name now d left)) left
trust_heard_rest (heard.Close cause) link name now d left = IsRest-refl left
trust_heard_rest (heard.Answer bytes talk) link name now d left = IsRest-refl left
trust_heard_rest (heard.Waits talk) link name now d left = IsRest-refl left
trust_heard_rest (heard.Asked line c talk) link name now d left = call_rest c line talk name now link d left

pub trust_server_leaves : (name : List ℕ) (now link : ℕ) → ServerLeavesRest (trust_server name now link)
trust_server_leaves name now link = record {
  unit = λ bytes d talk left. trust_heard_rest (hear link bytes talk) link name now d left;
  refusal = λ why d talk left. IsRest-refl left;
}

-- ---- how many are drawn

abbrev pub DrawsFew : List (List ℕ) → ServedPart TrustDesk Talk → Type 0
DrawsFew left part = length left + extra_after (λ (t : Talk). 0) part ≤ length (left_by part) + 1 + 0

challenge_few : (c : ChallengeCall) (line : Line) (talk : Talk) (name : List ℕ) (now : ℕ) (d : TrustDesk) (left : List (List ℕ)) →
    DrawsFew left (by_trust_call (call.Challenge c) line talk name now d left)
challenge_few c line talk name now d [] = omega arith
challenge_few c line talk name now d (server ∷ left) = omega arith

pub heard_few : (h : Heard) (link : ℕ) (name : List ℕ) (now : ℕ) (d : TrustDesk) (left : List (List ℕ)) → DrawsFew left (by_trust_heard h link name now d left)
heard_few (heard.Close cause) link name now d left = nothing_drawn (length left) 0
heard_few (heard.Answer bytes talk) link name now d left = nothing_drawn (length left) 0
heard_few (heard.Waits talk) link name now d left = nothing_drawn (length left) 0
heard_few (heard.Asked line (call.Challenge c) talk) link name now d left = challenge_few c line talk name now d left
heard_few (heard.Asked line (call.Authenticate c) talk) link name now d left = nothing_drawn (length left) 0
heard_few (heard.Asked line (call.Judged c) talk) link name now d left = nothing_drawn (length left) 0

pub trust_server_few : (name : List ℕ) (now link : ℕ) → ServerDrawsFew (trust_server name now link) (λ talk. 0)
trust_server_few name now link = record {
  unit = λ bytes d talk left. heard_few (hear link bytes talk) link name now d left;
  refusal = λ why d talk left. none_fewer (length left);
}
