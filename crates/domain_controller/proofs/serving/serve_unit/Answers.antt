use Rattle.account_table.specs.Changes.{with_changes}
use Rattle.domain_controller.specs.Hearing.{hear}
use Rattle.domain_controller.specs.Forwarding.{trust_desk}
use Rattle.domain_controller.proofs.TrustRestLaws.{trust_heard_rest}
use Rattle.domain_controller.proofs.serving.serve_unit.Goals as goal

pub returns-in-Err-clause-answer : goal.returns-in-Err-clause-answer
returns-in-Err-clause-answer g c =
    trust_heard_rest (hear c.args.link c.args.bytes.now c.args.talk) c.args.link c.args.name.now c.args.now (trust_desk (with_changes c.args.changes.now c.args.table.now) c.args.work) (g.Q.Chances.drawing c.args.chances.now).left
