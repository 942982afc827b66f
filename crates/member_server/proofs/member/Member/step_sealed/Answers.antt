use Rattle.std.proofs.Common.{◌≡◌, Bool, Some, refl, sym, ap, ◌∙◌}
use Rattle.member_server.specs.declared.state.Running.{Running}
use Rattle.member_server.specs.declared.state.TurnSealing.{TurnSealing}
use Rattle.member_server.specs.Machine.{halted_state}
use Rattle.member_server.specs.SealStep.{SealWork, sealing_by, state_of_sealed}
use Rattle.member_server.specs.State.{State}
use Rattle.member_server.proofs.SealLaws.{step_refused, step_settles, step_taken}
use Rattle.member_server.proofs.member.Member.step_sealed.Goals as goal

-- what it keeps to seal is what the caller says
seals : (running : Running) (s : State) (sealing : TurnSealing) → s.running ≡ Some running → sealing_by s.running ≡ Some sealing → running.sealing ≡ Some sealing
seals running s sealing runs is = sym (ap sealing_by runs) ∙ is

-- what is kept, where the link is sealed so
abbrev sealed_so : SealWork → Bool → State
sealed_so work sealed = record {
  running = Some (record { logons = work.0.0.logons; links = work.0.0.links; dialling = work.0.1; sealing = Some (record { is_link_sealed = sealed }) });
}

pub returns-in-Err-clause-answer : goal.returns-in-Err-clause-answer
returns-in-Err-clause-answer g c =
    let drawing = g.Q.Chances.drawing in
    let runs : c.args.self.now.running ≡ Some c.in-Some.running = sym (ap State.running c.self.view_is) ∙ sym c.take.ensures.value ∙ c.in-Some.is in
    let stops : halted_state ≡ record { running = c.take.new.self } = λ i. record { running = sym c.take.ensures.after i } in
    step_refused c.in-Err.why c.in-Some.running c.args.sealing c.args.self.now _ c.args.event.now c.args.now (drawing c.args.chances.now) (drawing c.run_sealed.new.chances)
    runs (seals c.in-Some.running c.args.self.now c.args.sealing runs c.requires) (sym stops) c.in-Err.ensures.draws c.in-Err.ensures.answer

pub returns-clause-settles : goal.returns-clause-settles
returns-clause-settles g c =
    let drawing = g.Q.Chances.drawing in
    let runs : c.args.self.now.running ≡ Some c.in-Some.running = sym (ap State.running c.self.view_is) ∙ sym c.take.ensures.value ∙ c.in-Some.is in
    λ made. step_settles c.in-Some.running c.args.sealing c.args.self.now (state_of_sealed c.in-Ok.work) c.args.event.now c.args.now (drawing c.args.chances.now).left (drawing c.run_sealed.new.chances).left
    c.in-Ok.work c.into_actions.result c.into_actions.ensures.actions runs refl c.in-Ok.ensures.answer made

pub returns-clause-answer : goal.returns-clause-answer
returns-clause-answer g c =
    let drawing = g.Q.Chances.drawing in
    let runs : c.args.self.now.running ≡ Some c.in-Some.running = sym (ap State.running c.self.view_is) ∙ sym c.take.ensures.value ∙ c.in-Some.is in
    let work : SealWork = c.in-Ok.work in
    step_taken c.in-Some.running c.args.sealing c.args.self.now (sealed_so work c.is_sealed_on-is_link_sealed.result) c.args.event.now c.args.now (drawing c.args.chances.now) (drawing c.run_sealed.new.chances)
    work c.into_actions.result c.into_actions.ensures.actions runs (seals c.in-Some.running c.args.self.now c.args.sealing runs c.requires)
    (ap (sealed_so work) c.is_sealed_on-is_link_sealed.ensures) c.in-Ok.ensures.draws c.in-Ok.ensures.answer
