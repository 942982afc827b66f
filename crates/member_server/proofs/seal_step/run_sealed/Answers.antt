use Rattle.member_server.proofs.SealLaws.{event_refused}
use Rattle.member_server.proofs.seal_step.run_sealed.Goals as goal

pub returns-in-Err-clause-answer : goal.returns-in-Err-clause-answer
returns-in-Err-clause-answer g c =
    let drawing = g.Q.Chances.drawing in
    event_refused c.in-Err.why c.args.running c.args.is_link_sealed c.args.event.now c.args.now (drawing c.args.chances.now).left
    (drawing c.on_sealed_event.new.chances).left c.new.result c.new.ensures c.in-Err.ensures.answer
