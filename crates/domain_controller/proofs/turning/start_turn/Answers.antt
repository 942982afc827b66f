use Rattle.domain_controller.proofs.TrustStepLaws.{start_done, start_memory}
use Rattle.domain_controller.proofs.turning.start_turn.Goals as goal

pub returns-in-Ok-put_back-clause-answer : goal.returns-in-Ok-put_back-clause-answer
returns-in-Ok-put_back-clause-answer g c =
    let drawing = g.Q.Chances.drawing in
    let apart = c.apart-turning in
    start_done c.args.entry.now c.args.trust c.args.now c.args.parts c.in-Ok-put_back.parts apart.result.0 c.in-Ok.turning apart.result.1
    (drawing c.args.chances.now).left (drawing c.next_dial.new.chances).left c.requires apart.ensures.whose apart.ensures.turning apart.ensures.beside
    c.in-Ok.ensures.answer c.in-Ok-put_back.ensures

pub returns-in-Err-put_back-clause-answer : goal.returns-in-Err-put_back-clause-answer
returns-in-Err-put_back-clause-answer g c =
    let drawing = g.Q.Chances.drawing in
    let apart = c.apart-turning in
    start_memory c.args.entry.now c.args.trust c.args.now c.args.parts apart.result.0 c.in-Ok.turning
    (drawing c.args.chances.now).left (drawing c.next_dial.new.chances).left apart.ensures.whose apart.ensures.turning c.in-Ok.ensures.answer
