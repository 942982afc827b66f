use Rattle.member_server.proofs.StepLaws.{event_refused}
use Rattle.member_server.proofs.member.run_event.Goals as goal

pub returns-in-Err-clause-answer : goal.returns-in-Err-clause-answer
returns-in-Err-clause-answer g c =
    let drawing = g.Q.Chances.drawing in
    event_refused c.in-Err.why c.args.running c.args.event.now c.args.now (drawing c.args.chances.now).left (drawing c.on_event.new.chances).left c.new.result
    c.new.ensures c.in-Err.ensures.answer
