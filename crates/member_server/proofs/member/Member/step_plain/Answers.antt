use Rattle.std.proofs.Common.{◌≡◌, Some, refl, sym, ap, ◌∙◌}
use Rattle.member_server.specs.Machine.{halted_state, state_in}
use Rattle.member_server.specs.State.{State}
use Rattle.member_server.proofs.StepLaws.{step_refused, step_settles, step_taken}
use Rattle.member_server.proofs.member.Member.step_plain.Goals as goal

pub returns-in-Err-clause-answer : goal.returns-in-Err-clause-answer
returns-in-Err-clause-answer g c =
    let drawing = g.Q.Chances.drawing in
    let runs : c.args.self.now.running ≡ Some c.in-Some.running = sym (ap State.running c.self.view_is) ∙ sym c.take.ensures.value ∙ c.in-Some.is in
    let stops : halted_state ≡ record { running = c.take.new.self } = λ i. record { running = sym c.take.ensures.after i } in
    step_refused c.in-Err.why c.in-Some.running c.args.self.now _ c.args.event.now c.args.now (drawing c.args.chances.now) (drawing c.run_event.new.chances)
    runs (sym stops) c.in-Err.ensures.draws c.in-Err.ensures.answer

pub returns-clause-settles : goal.returns-clause-settles
returns-clause-settles g c =
    let drawing = g.Q.Chances.drawing in
    let runs : c.args.self.now.running ≡ Some c.in-Some.running = sym (ap State.running c.self.view_is) ∙ sym c.take.ensures.value ∙ c.in-Some.is in
    λ made. step_settles c.in-Some.running c.args.self.now (state_in c.in-Ok.dial_work) c.args.event.now c.args.now (drawing c.args.chances.now).left (drawing c.run_event.new.chances).left
    c.in-Ok.dial_work c.into_actions.result c.into_actions.ensures.actions runs refl c.in-Ok.ensures.answer made

pub returns-clause-answer : goal.returns-clause-answer
returns-clause-answer g c =
    let drawing = g.Q.Chances.drawing in
    let runs : c.args.self.now.running ≡ Some c.in-Some.running = sym (ap State.running c.self.view_is) ∙ sym c.take.ensures.value ∙ c.in-Some.is in
    step_taken c.in-Some.running c.args.self.now (state_in c.in-Ok.dial_work) c.args.event.now c.args.now (drawing c.args.chances.now) (drawing c.run_event.new.chances)
    c.in-Ok.dial_work c.into_actions.result c.into_actions.ensures.actions runs refl c.in-Ok.ensures.draws c.in-Ok.ensures.answer
