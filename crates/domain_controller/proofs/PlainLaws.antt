-- A controller that can't seal. It serves `plain_controllers_stay_so`.
use Rattle.std.proofs.Common.{◌≡◌, ℕ, List, Some, None, Option, Ok, Err, refl, ap, ◌∙◌}
use Rattle.outside.specs.declared.event.Event.{Event}
use Rattle.outside.specs.Machine.{Stepped, step_by}
use Rattle.domain_controller.specs.SealLaws.{PlainControllersStay}
use Rattle.domain_controller.specs.SealStep.{seal_step_of}
use Rattle.domain_controller.specs.State.{State}
use Rattle.domain_controller.specs.TrustStep.{TrustParts, TrustPart, trust_halted, trust_state_after, trust_step_of, trust_step_on, trust_step_part}
use Rattle.domain_controller.specs.declared.state.Running.{Running}

as_plain : (s : State) (what : Event) (now : ℕ) (left : List (List ℕ)) → s.trusting.sealing ≡ None → seal_step_of s what now left ≡ trust_step_of s what now left
as_plain s what now left none = rw none refl

after_part : (s : State) (left : List (List ℕ)) (part : TrustPart) →
    (step_by (λ (after : TrustParts). after.parts.work.work.actions) (λ (after : TrustParts). trust_state_after s after) (trust_halted s) left part).state.trusting.sealing ≡ None
after_part s left (Err why) = refl
after_part s left (Ok part) = refl

pub after_step : (running : Option Running) (s : State) (what : Event) (now : ℕ) (left : List (List ℕ)) → s.trusting.sealing ≡ None →
    (trust_step_on running s what now left).state.trusting.sealing ≡ None
after_step None s what now left none = none
after_step (Some running) s what now left none = after_part s left (trust_step_part running s what now left)

stays_plain : (s : State) (what : Event) (now : ℕ) (left : List (List ℕ)) → s.trusting.sealing ≡ None → (seal_step_of s what now left).state.trusting.sealing ≡ None
stays_plain s what now left none =
    ap (λ (step : Stepped State). step.state.trusting.sealing) (as_plain s what now left none) ∙ after_step s.running s what now left none

pub plain_controllers_stay : PlainControllersStay
plain_controllers_stay = record { step = as_plain; stays = stays_plain; first = λ table name. refl }
