use Rattle.std.proofs.Common.{Some}
use Rattle.account_table.specs.Changes.{with_changes}
use Rattle.domain_controller.specs.Forwarding.{trust_desk}
use Rattle.domain_controller.specs.SealServing.{at_seal_desk}
use Rattle.domain_controller.proofs.SealRestLaws.{serve_rest, unit_heard}
use Rattle.domain_controller.proofs.seal_serving.serve_unit.Goals as goal

pub returns-in-Err-clause-answer : goal.returns-in-Err-clause-answer
returns-in-Err-clause-answer g c =
    serve_rest (Some c.args.sealing) c.args.number c.args.bytes.now c.args.talk c.args.name.now c.args.now (trust_desk (with_changes c.args.changes.now c.args.table.now) c.args.work) (g.Q.Chances.drawing c.args.chances.now).left

pub returns-in-Ok-clause-answer : goal.returns-in-Ok-clause-answer
returns-in-Ok-clause-answer g c =
    unit_heard (at_seal_desk (with_changes c.answer_seal_heard.new.changes c.args.table.now) c.answer_seal_heard.result) c.in-Ok.heard c.in-Ok.seal c.args.sealing c.in-Ok.sealing c.args.number c.args.bytes.now c.args.talk c.args.name.now c.args.now
    (trust_desk (with_changes c.args.changes.now c.args.table.now) c.args.work) (g.Q.Chances.drawing c.args.chances.now).left (g.Q.Chances.drawing c.answer_seal_heard.new.chances).left
    c.in-Ok.ensures.heard c.in-Ok.ensures.seal c.in-Ok.ensures.sealing c.answer_seal_heard.ensures.answer
