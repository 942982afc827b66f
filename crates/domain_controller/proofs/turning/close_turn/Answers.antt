use Rattle.channel_turns.specs.Turning.{link_closes}
use Rattle.domain_controller.proofs.ForwardLaws.{turned_if}
use Rattle.domain_controller.proofs.turning.close_turn.Goals as goal

pub returns : goal.returns
returns c =
    let apart = c.apart-turning in
    turned_if c.put_back.result (λ turning. link_closes c.args.link turning) c.args.parts apart.result.0 c.link_closes-turning.result apart.result.1
    apart.ensures.whose apart.ensures.turning apart.ensures.beside c.link_closes-turning.ensures c.put_back.ensures
