use Rattle.account_table.specs.Changes.{with_changes}
use Rattle.domain_controller.specs.Forwarding.{trust_desk}
use Rattle.domain_controller.specs.SealServing.{at_seal_desk}
use Rattle.domain_controller.proofs.SealAnswerLaws.{sealed_for}
use Rattle.domain_controller.proofs.seal_answering.answer_judged.Goals as goal

pub returns-in-Some-clause-answer : goal.returns-in-Some-clause-answer
returns-in-Some-clause-answer g c =
    sealed_for (at_seal_desk (with_changes c.judge_drawn.new.changes c.args.table.now) c.judge_drawn.result) c.args.seal c.in-Some.link c.args.call c.args.line c.args.talk c.args.name.now c.args.now
    (trust_desk (with_changes c.args.changes.now c.args.table.now) c.args.work) c.args.sealing (g.Q.Chances.drawing c.args.chances.now).left (g.Q.Chances.drawing c.judge_drawn.new.chances).left
    c.in-Some.is c.judge_drawn.ensures.answer
