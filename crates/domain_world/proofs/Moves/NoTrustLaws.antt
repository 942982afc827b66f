-- Where controllers ask nobody, there is nobody who asks for a trust. It serves `Proved.called` and
-- `schedules_are_heard`.
use Rattle.std.proofs.Common.{◌≡◌, ℕ, List, Option, Some, None, slice_get, refl, ap, ◌∙◌}
use Rattle.domain_controller.specs.State.{State as ControllerState}
use Rattle.domain_controller.specs.Trusting.{no_trusting}
use Rattle.domain_controller.specs.declared.state.Running.{Running}
use Rattle.domain_controller.specs.declared.trusting.Trusting.{Trusting}
use Rattle.step_notes.specs.Records.{OfTrust}
use Rattle.world_moves.specs.Alone.{AsksNobody, IsPlainAlone}
use Rattle.world_moves.specs.declared.moves.Move.{Move}
use Rattle.world_moves.specs.declared.plan.Plan.{Plan}
use Rattle.world_moves.specs.declared.state.State.{State}
use Rattle.domain_world.specs.Past.{past, requester_at, trust_asker, trust_asker_on}
use Rattle.domain_world.proofs.Frames.AloneFrameLaws.{asks_nobody}

-- no controller asks for a trust
abbrev pub NoneAsks : State → Type 0
NoneAsks s = (controller trust : ℕ) → requester_at s (OfTrust controller trust) ≡ None

pub nobody_on : (r : Option Running) (trust : ℕ) → trust_asker_on r trust no_trusting ≡ None
nobody_on None trust = refl
nobody_on (Some running) trust = refl

nobody_found : (found : Option ControllerState) (trust : ℕ) → ((c : ControllerState) → found ≡ Some c → c.trusting ≡ no_trusting) → trust_asker found trust ≡ None
nobody_found None trust asks = refl
nobody_found (Some c) trust asks = ap (λ (t : Trusting). trust_asker_on c.running trust t) (asks c refl) ∙ nobody_on c.running trust

pub none_asks : (s : State) → AsksNobody s → NoneAsks s
none_asks s asks controller trust = nobody_found (slice_get s.ends.controllers controller) trust (λ c is. asks.each controller c is)

-- after each run of a plan that hands nothing on
pub none_asked : (plan : Plan) (moves : List Move) → IsPlainAlone plan → NoneAsks (past plan moves).world.state
none_asked plan moves nobody = none_asks (past plan moves).world.state (asks_nobody plan moves nobody)
