use Rattle.std.proofs.Common.{rules}
use Rattle.channel_turns.specs.Turning.{link_hears}
use Rattle.domain_controller.proofs.SealTurnLaws.{turned_if}
use Rattle.domain_controller.proofs.seal_turning.hear_seal_turn.Goals as goal

pub returns-in-Ok-clause-value : goal.returns-in-Ok-clause-value
returns-in-Ok-clause-value g c =
    let apart = c.apart-turning in
    turned_if c.put_back_sealing.result (λ turning. link_hears c.args.link c.args.piece.now turning) c.args.parts c.args.sealing apart.result.0 (c.in-Ok.turning, c.in-Ok.ended) apart.result.1
    apart.ensures.whose apart.ensures.turning apart.ensures.beside (search rules) c.put_back_sealing.ensures
