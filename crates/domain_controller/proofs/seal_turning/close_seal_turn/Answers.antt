use Rattle.channel_turns.specs.Turning.{link_closes}
use Rattle.domain_controller.proofs.SealTurnLaws.{turned_if}
use Rattle.domain_controller.proofs.seal_turning.close_seal_turn.Goals as goal

pub returns : goal.returns
returns c =
    let apart = c.apart-turning in
    turned_if c.put_back_sealing.result (λ turning. link_closes c.args.link turning) c.args.parts c.args.sealing apart.result.0 c.link_closes-turning.result apart.result.1
    apart.ensures.whose apart.ensures.turning apart.ensures.beside c.link_closes-turning.ensures c.put_back_sealing.ensures
