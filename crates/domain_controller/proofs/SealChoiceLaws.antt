-- Which step a controller takes: that of one that can seal, or that of one that can't. It serves `Controller::step`.
use Rattle.std.proofs.Common.{◌≡◌, ◌+◌, ◌≤◌, ◌↔◌, ℕ, true, List, IsTrue, is_none, IfOk, OnErr, Option, Some, None, Result, Ok, Err, refl, sym, ap, subst, ◌∙◌, arith}
use Rattle.outside.specs.declared.action.Action.{Action}
use Rattle.outside.specs.declared.action.StepRefused.{StepRefused}
use Rattle.outside.specs.declared.action.StepRefused.TheVariants.{Spent, Memory, Stopped}
use Rattle.outside.specs.Drawing.{Drawing}
use Rattle.outside.specs.declared.event.Event.{Event}
use Rattle.outside.specs.Machine.{Stepped, StepsBy}
use Rattle.end_loop.specs.Acts.{is_made, most_made_by}
use Rattle.domain_controller.specs.SealStep.{asked_in, seal_pending_in, seal_step_of, seal_step_on, step_with, without_sealing}
use Rattle.domain_controller.specs.State.{State}
use Rattle.domain_controller.specs.Step.{is_stopped}
use Rattle.domain_controller.specs.TrustStep.{trust_halted, trust_pending_in, trust_step_of}
use Rattle.domain_controller.specs.declared.sealed.Sealing.{Sealing}
use Rattle.domain_controller.specs.declared.state.Running.{Running}
use Rattle.domain_controller.proofs.PlainLaws.{after_step}

-- one that can't seal
pub steps_plain : (result : Result (List Action) StepRefused) (s new : State) (what : Event) (now : ℕ) (before after : Drawing) → s.trusting.sealing ≡ None →
    StepsBy result (trust_step_of s what now before.left) (trust_halted s) new before after → StepsBy result (seal_step_of s what now before.left) (trust_halted s) new before after
steps_plain result s new what now before after none steps =
    subst (λ (o : Option Sealing). StepsBy result (step_with o s what now before.left) (trust_halted s) new before after) (sym none) steps

-- a controller that can't seal stays one
pub plain_stays : (result : Result (List Action) StepRefused) (s new : State) (what : Event) (now : ℕ) (before after : Drawing) → s.trusting.sealing ≡ None →
    StepsBy result (trust_step_of s what now before.left) (trust_halted s) new before after → new.trusting.sealing ≡ None
plain_stays (Ok actions) s new what now before after none steps =
    sym (ap (λ (stepped : Stepped State). stepped.state.trusting.sealing) steps.is) ∙ after_step s.running s what now before.left none
plain_stays (Err Spent) s new what now before after none steps =
    sym (ap (λ (stepped : Stepped State). stepped.state.trusting.sealing) steps.is) ∙ after_step s.running s what now before.left none
plain_stays (Err Memory) s new what now before after none steps = ap (λ (n : State). n.trusting.sealing) steps.0
plain_stays (Err Stopped) s new what now before after none steps =
    sym (ap (λ (stepped : Stepped State). stepped.state.trusting.sealing) steps.0) ∙ after_step s.running s what now before.left none

pub plain_settles : (result : Result (List Action) StepRefused) (s new : State) (what : Event) → s.trusting.sealing ≡ None → new.trusting.sealing ≡ None →
    IfOk result (λ actions. IsTrue (is_made what) → most_made_by actions + trust_pending_in new ≤ trust_pending_in s) →
    IfOk result (λ actions. IsTrue (is_made what) → most_made_by actions + seal_pending_in new ≤ seal_pending_in s)
plain_settles (Ok actions) s new what none stays settles = λ made. omega (arith, settles made, ap asked_in none, ap asked_in stays)
plain_settles (Err why) s new what none stays settles = tt

-- one that can, of which what it keeps to seal was taken out
sealing_on : (running : Option Running) (sealing : Sealing) (s : State) (what : Event) (now : ℕ) (left : List (List ℕ)) → (running ≡ None → ⊥) →
    seal_step_on running sealing (without_sealing s) what now left ≡ seal_step_on running sealing s what now left
sealing_on None sealing s what now left runs = absurd (runs refl)
sealing_on (Some running) sealing s what now left runs = refl

-- a controller that can seal runs, since one that has stopped keeps nothing to seal
it_runs : (found : Option Sealing) (sealing : Sealing) (s : State) → found ≡ Some sealing → (is_stopped s ≡ true → found ≡ None) → s.running ≡ None → ⊥
it_runs found sealing s some stopped none =
    let never : None ≡ Some sealing = sym (stopped (ap is_none none)) ∙ some in
    absurd (let x = never in cc)

pub steps_sealing : (result : Result (List Action) StepRefused) (found : Option Sealing) (sealing : Sealing) (s inner new : State) (what : Event) (now : ℕ) (before after : Drawing) →
    found ≡ Some sealing → found ≡ s.trusting.sealing → inner ≡ without_sealing s → (is_stopped s ≡ true → found ≡ None) →
    StepsBy result (seal_step_on inner.running sealing inner what now before.left) (trust_halted inner) new before after → StepsBy result (seal_step_of s what now before.left) (trust_halted s) new before after
steps_sealing result found sealing s inner new what now before after some taken is stopped steps =
    subst (λ (o : Option Sealing). StepsBy result (step_with o s what now before.left) (trust_halted s) new before after) (sym some ∙ taken)
    (subst (λ (stepped : Stepped State). StepsBy result stepped (trust_halted s) new before after)
    (sealing_on s.running sealing s what now before.left (it_runs found sealing s some stopped))
    (subst (λ (one : State). StepsBy result (seal_step_on one.running sealing one what now before.left) (trust_halted one) new before after) is steps))

pub sealing_settles : (result : Result (List Action) StepRefused) (sealing : Sealing) (s inner new : State) (what : Event) → s.trusting.sealing ≡ Some sealing → inner ≡ without_sealing s →
    IfOk result (λ actions. IsTrue (is_made what) → most_made_by actions + seal_pending_in new ≤ trust_pending_in inner + asked_in (Some sealing)) →
    IfOk result (λ actions. IsTrue (is_made what) → most_made_by actions + seal_pending_in new ≤ seal_pending_in s)
sealing_settles (Ok actions) sealing s inner new what some is settles = λ made.
    let same : trust_pending_in inner ≡ trust_pending_in s = ap trust_pending_in is in
    omega (arith, settles made, same, ap asked_in some)
sealing_settles (Err why) sealing s inner new what some is settles = tt

-- a controller that can seal is stopped exactly where it is without what it keeps to seal
pub sealing_stopped : (result : Result (List Action) StepRefused) (s inner : State) → inner ≡ without_sealing s →
    ((result ≡ Err Stopped) ↔ IsTrue (is_stopped inner)) → ((result ≡ Err Stopped) ↔ IsTrue (is_stopped s))
sealing_stopped result s inner is stops = subst (λ (one : State). (result ≡ Err Stopped) ↔ IsTrue (is_stopped one)) is stops

pub sealing_stops : (result : Result (List Action) StepRefused) (s inner new : State) → inner ≡ without_sealing s →
    OnErr result (new ≡ trust_halted inner) → OnErr result (new ≡ trust_halted s)
sealing_stops result s inner new is stops = subst (λ (one : State). OnErr result (new ≡ trust_halted one)) is stops

pub ruleset choosing = (steps_plain, plain_stays, plain_settles, steps_sealing, sealing_settles, sealing_stopped, sealing_stops)
