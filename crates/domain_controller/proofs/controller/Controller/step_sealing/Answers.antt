use Rattle.std.proofs.Common.{◌≡◌, Some, sym, ◌∙◌, rules}
use Rattle.domain_controller.proofs.TrustStepLaws.{halted_before}
use Rattle.domain_controller.proofs.SealStepLaws.{settled_by, taken_by}
use Rattle.domain_controller.proofs.controller.Controller.step_sealing.Goals as goal

pub returns-in_default-clause-stops : goal.returns-in_default-clause-stops
returns-in_default-clause-stops g c =
    let held = sym c.take.ensures.value ∙ c.in_default.is in
    halted_before c.self.inside.table c.self.inside.name c.self.inside.running c.take.new.self c.self.inside.trusting c.args.self.now
    c.self.view_is c.take.ensures.after (c.self.invariant held)

pub returns-in-Ok-clause-answer : goal.returns-in-Ok-clause-answer
returns-in-Ok-clause-answer g c =
    let drawing = g.Q.Chances.drawing in
    let inside = c.self.inside in
    let kept = c.keep_apart-actions.result in
    let held : inside.running ≡ Some c.in-Some.running = sym c.take.ensures.value ∙ c.in-Some.is in
    taken_by inside.table c.seal_and_commit.new.table inside.name inside.running (Some kept.1) c.in-Some.running c.replace-trusting.result inside.trusting c.put_sealing.result c.args.sealing c.in-Ok.sealing c.in-Ok.parts c.into_actions.result
    c.args.self.now c.args.event.now c.args.now (drawing c.args.chances.now) (drawing c.seal_and_commit.new.chances)
    c.self.view_is held (search rules) (search rules) c.in-Ok.ensures.draws (search rules)

pub returns-in-Ok-clause-settles : goal.returns-in-Ok-clause-settles
returns-in-Ok-clause-settles g c = λ made.
    let drawing = g.Q.Chances.drawing in
    let inside = c.self.inside in
    let kept = c.keep_apart-actions.result in
    settled_by inside.table c.seal_and_commit.new.table inside.name inside.running (Some kept.1) c.in-Some.running c.replace-trusting.result inside.trusting c.put_sealing.result c.args.sealing c.in-Ok.sealing c.in-Ok.parts c.into_actions.result
    c.args.self.now c.args.event.now c.args.now (drawing c.args.chances.now).left (drawing c.seal_and_commit.new.chances).left
    c.self.view_is (search rules) (search rules) (search rules) made
