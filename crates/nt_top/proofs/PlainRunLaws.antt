-- A run of a controller that can seal, of which nobody asks that, is one of a controller that can't. It serves
-- `runs_that_nobody_seals_stay_plain`.
use Rattle.std.proofs.Common.{ℕ, ◌≡◌, ◌⊎◌, inl, inr, Bool, true, false, List, [], ◌∷◌, ◌++◌, refl, sym, ap, subst, ◌∙◌}
use Rattle.outside.specs.Machine.{Stepped}
use Rattle.outside.specs.declared.event.Event.{Event}
use Rattle.end_loop.specs.Runs.{AreSteps, Chooses, IsStep, RunState, Step}
use Rattle.domain_controller.specs.SealStep.{seal_machine, seal_step_of, without_sealing}
use Rattle.domain_controller.specs.State.{State}
use Rattle.domain_controller.specs.TrustStep.{trust_machine}
use Rattle.nt_top.specs.Unsealed.{ComesToAsk, RunsStayPlain, SealsNothing, asks_in, plain_run, plain_step}
use Rattle.nt_top.proofs.UnsealedLaws.{step_plain}

-- where nothing seals, the same event is chosen as by the machine that can't seal
pub chooses_plain : (state : State) (queue : List Event) (step : Step) (waiting : List Event) → Chooses seal_machine state queue step waiting → Chooses trust_machine (without_sealing state) queue step waiting
chooses_plain state [] step waiting chooses = chooses
chooses_plain state (first ∷ later) step waiting chooses = chooses

abbrev pub Walked : RunState State → List Step → RunState State → Type 0
Walked start steps last =
    (AreSteps trust_machine (plain_run start) steps (plain_run last) × SealsNothing last.state.trusting.sealing) ⊎ ComesToAsk (plain_run start) steps

-- behind a step that is made as by one that can't seal
walk_behind : (start middle last : RunState State) (step : Step) (steps : List Step) → IsStep trust_machine (plain_run start) step (plain_run middle) → Walked middle steps last →
    Walked start (step ∷ steps) last
walk_behind start middle last step steps is (inl rest) = inl ((plain_run middle, is, rest.0), rest.1)
walk_behind start middle last step steps is (inr comes) = inr (record {
  front = step ∷ comes.front;
  at = comes.at;
  step = comes.step;
  later = comes.later;
  parts = ap (λ (all : List Step). step ∷ all) comes.parts;
  are = (plain_run middle, is, comes.are);
  waiting = comes.waiting;
  chooses = comes.chooses;
  asks = comes.asks;
})

walk_by : (asks : Bool) (start middle last : RunState State) (step : Step) (steps : List Step) → asks_in start.state step.event ≡ asks → SealsNothing start.state.trusting.sealing →
    IsStep seal_machine start step middle → (SealsNothing middle.state.trusting.sealing → Walked middle steps last) → Walked start (step ∷ steps) last
walk_by true start middle last step steps asks none is rest = inr (record {
  front = [];
  at = plain_run start;
  step = step;
  later = steps;
  parts = refl;
  are = refl;
  waiting = is.waiting;
  chooses = chooses_plain start.state start.queue step is.waiting is.chooses;
  asks = asks;
})
walk_by false start middle last step steps asks none is rest =
    let plain = step_plain start.state step.event step.moment start.left none asks in
    walk_behind start middle last step steps (record {
      waiting = is.waiting;
      chooses = chooses_plain start.state start.queue step is.waiting is.chooses;
      is = sym plain.0 ∙ ap plain_step is.is;
      left = is.left;
      performs = is.performs;
      queue = is.queue;
    }) (rest (subst (λ (stepped : Stepped State). SealsNothing stepped.state.trusting.sealing) is.is plain.1))

pub walk : (start last : RunState State) (steps : List Step) → SealsNothing start.state.trusting.sealing → AreSteps seal_machine start steps last → Walked start steps last
walk start last [] none are = inl (ap plain_run are, subst (λ (run : RunState State). SealsNothing run.state.trusting.sealing) (sym are) none)
walk start last (step ∷ steps) none are =
    walk_by (asks_in start.state step.event) start are.0 last step steps refl none are.1 (λ then. walk are.0 last steps then are.2)

pub runs_stay_plain : RunsStayPlain
runs_stay_plain = record { run = walk }
