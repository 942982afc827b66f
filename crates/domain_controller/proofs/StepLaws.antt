-- A step by what its event comes to.
use Rattle.std.proofs.Common.{◌≡◌, ℕ, List, Option, Some, Ok, Err, sym, ap, subst, ◌∙◌}
use Rattle.outside.specs.declared.event.Event.{Event}
use Rattle.outside.specs.declared.action.StepRefused.{StepRefused}
use Rattle.outside.specs.Drawing.{Drawing, DrawsSome, draws_between}
use Rattle.outside.specs.Machine.{AnswersBy, StepsBy, Takes, step_by, then_part}
use Rattle.outside.proofs.DrawLaws.{IsRest-refl, DrawsSome-between}
use Rattle.outside.proofs.MachineLaws.{AnswersBy-refused, StepsBy-refused}
use Rattle.end_links.specs.Serving.{ServedPart}
use Rattle.controller_calls.specs.Desk.{Desk}
use Rattle.domain_controller.specs.State.{State}
use Rattle.domain_controller.specs.Step.{LinkMap, StepPart, whole_part, keep_link, after_units, by_event, start_turn, halted, state_after, first_desk, step_part, step_on, step_of}
use Rattle.domain_controller.specs.declared.state.Running.{Running}
use Rattle.domain_controller.specs.declared.state.Talk.{Talk}

pub units_refused : (why : StepRefused) (part : ServedPart Desk Talk) (rest : List ℕ) (number : ℕ) (links : LinkMap) (left : List (List ℕ)) →
    AnswersBy (Err why) part left → AnswersBy (Err why) (after_units part rest number links) left
units_refused why part rest number links left answer =
    AnswersBy-refused why part (λ done more. whole_part done.0 (keep_link done.1 rest number links) more) left (λ done more. IsRest-refl more) answer

pub step_refused : (why : StepRefused) (running : Running) (s new : State) (what : Event) (now : ℕ) (before after : Drawing) → s.running ≡ Some running → new ≡ halted s →
    DrawsSome before after → AnswersBy (Err why) (by_event what s.name now (first_desk s.table running) running.links before.left) after.left →
    StepsBy (Err why) (step_of s what now before.left) (halted s) new before after
step_refused why running s new what now before after is stops some answer =
    subst (λ n. StepsBy (Err why) (step_of s what now before.left) (halted s) n before after) (sym stops)
    (subst (λ (r : Option Running). StepsBy (Err why) (step_on r s what now before.left) (halted s) (halted s) before after) (sym is)
    (StepsBy-refused why (λ after. after.0.work.actions) (λ after. state_after s after) (halted s) (step_part running s what now before.left) before after some
    (AnswersBy-refused why (by_event what s.name now (first_desk s.table running) running.links before.left) (λ done rest. start_turn done rest) after.left (λ done more. IsRest-refl more) answer)))

pub step_taken : (running : Running) (s new : State) (what : Event) (now : ℕ) (before after : Drawing) (done : Desk × LinkMap) → s.running ≡ Some running → new ≡ state_after s done →
    DrawsSome before after → by_event what s.name now (first_desk s.table running) running.links before.left ≡ Ok (record { value = done; left = after.left }) →
    Takes (step_of s what now before.left) new before after done.0.work.actions
step_taken running s new what now before after done runs stays some is =
    subst (λ n. Takes (step_of s what now before.left) n before after done.0.work.actions) (sym stays) (record {
      drawn = draws_between before.left after.left;
      is = ap (λ (r : Option Running). step_on r s what now before.left) runs
          ∙ ap (λ (part : StepPart). step_by (λ after. after.0.work.actions) (λ after. state_after s after) (halted s) before.left (then_part part (λ after rest. start_turn after rest))) is;
      draws = DrawsSome-between before after some;
    })

pub ruleset stepping = (step_refused, step_taken)
