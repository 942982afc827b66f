use Rattle.std.proofs.Common.{rules}
use Rattle.member_server.proofs.SharingLaws.{next_done}
use Rattle.member_server.proofs.turns.next_turn.Goals as goal

pub returns-in-Ok-clause-answer : goal.returns-in-Ok-clause-answer
returns-in-Ok-clause-answer g c =
    let drawing = g.Q.Chances.drawing in
    next_done c.args.now c.args.work c.args.how c.in-Ok.turning c.together.result (drawing c.args.chances.now).left (drawing c.next_dial.new.chances).left
    (search rules) (search rules)
