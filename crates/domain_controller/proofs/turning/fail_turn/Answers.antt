use Rattle.channel_turns.specs.Turning.{no_dial}
use Rattle.domain_controller.proofs.ForwardLaws.{turned_if}
use Rattle.domain_controller.proofs.turning.fail_turn.Goals as goal

pub returns : goal.returns
returns c =
    let apart = c.apart-turning in
    turned_if c.put_back.result (λ turning. no_dial turning) c.args.parts apart.result.0 c.no_dial-turning.result apart.result.1
    apart.ensures.whose apart.ensures.turning apart.ensures.beside c.no_dial-turning.ensures c.put_back.ensures
