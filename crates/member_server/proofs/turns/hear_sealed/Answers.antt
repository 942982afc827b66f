use Rattle.std.proofs.Common.{rules}
use Rattle.channel_turns.specs.SealedTurns.{sealed_link_hears}
use Rattle.member_server.specs.Turns.{turning_of}
use Rattle.member_server.proofs.SealLaws.{heard_memory}
use Rattle.member_server.proofs.turns.hear_sealed.Goals as goal

pub returns-in-Err-after_ended-clause-answer : goal.returns-in-Err-after_ended-clause-answer
returns-in-Err-after_ended-clause-answer g c =
    let drawing = g.Q.Chances.drawing in
    heard_memory
    (sealed_link_hears c.args.link c.args.piece.now c.args.is_link_sealed (turning_of c.args.work c.args.how) (drawing c.args.chances.now).left)
    c.args.work c.in-Ok.turned (drawing c.sealed_link_hears.new.chances).left (search rules)
