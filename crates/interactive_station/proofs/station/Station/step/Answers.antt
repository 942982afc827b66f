use Rattle.std.proofs.Common.{◌≡◌, Some, None, Err, sym, ap, subst, ◌∙◌}
use Rattle.outside.specs.Machine.{StepsBy, Takes}
use Rattle.interactive_station.specs.State.{StationState}
use Rattle.interactive_station.specs.Machine.{halted, state_after, step_of}
use Rattle.interactive_station.proofs.StepLaws.{none_of, step_taken, step_refused}
use Rattle.interactive_station.proofs.station.Station.step.Goals as goal

pub returns-in-Err-clause-answer : goal.returns-in-Err-clause-answer
returns-in-Err-clause-answer g c =
    let drawing = g.Q.Chances.drawing in
    let s = c.args.self.now in
    let runs : s.running ≡ Some c.in-Some.running = sym (ap StationState.running c.self.view_is) ∙ sym c.take.ensures.value ∙ c.in-Some.is in
    let none : s.outcome ≡ None = sym (ap StationState.outcome c.self.view_is) ∙ none_of c.self.inside.outcome (sym c.is_some.ensures ∙ c.if-is_some.false) in
    let new : halted s ≡ record { running = c.take.new.self; outcome = c.self.inside.outcome } = λ i. record { running = sym c.take.ensures.after i; outcome = sym (ap StationState.outcome c.self.view_is) i } in
    subst (λ n. StepsBy (Err c.in-Err.refused) (step_of s c.args.event.now c.args.now (drawing c.args.chances.now).left) (halted s) n (drawing c.args.chances.now) (drawing c.on_event.new.chances)) new
    (step_refused c.in-Err.refused s c.in-Some.running c.args.event.now c.args.now (drawing c.args.chances.now) (drawing c.on_event.new.chances) c.new-2.result runs none c.on_event.ensures.draws c.new-2.ensures c.in-Err.ensures.answer)

pub returns-clause-answer : goal.returns-clause-answer
returns-clause-answer g c =
    let drawing = g.Q.Chances.drawing in
    let s = c.args.self.now in
    let runs : s.running ≡ Some c.in-Some.running = sym (ap StationState.running c.self.view_is) ∙ sym c.take.ensures.value ∙ c.in-Some.is in
    let none : s.outcome ≡ None = sym (ap StationState.outcome c.self.view_is) ∙ none_of c.self.inside.outcome (sym c.is_some.ensures ∙ c.if-is_some.false) in
    subst (λ actions. Takes (step_of s c.args.event.now c.args.now (drawing c.args.chances.now).left) (state_after c.in-Ok.after) (drawing c.args.chances.now) (drawing c.on_event.new.chances) actions)
    (sym c.into_actions.ensures.actions)
    (step_taken s c.in-Some.running c.args.event.now c.args.now (drawing c.args.chances.now) (drawing c.on_event.new.chances) c.new-2.result c.in-Ok.after runs none c.on_event.ensures.draws c.new-2.ensures c.in-Ok.ensures.answer)
