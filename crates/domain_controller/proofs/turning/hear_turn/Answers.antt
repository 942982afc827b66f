use Rattle.std.proofs.Common.{rules}
use Rattle.channel_turns.specs.Turning.{link_hears}
use Rattle.domain_controller.proofs.ForwardLaws.{turned_if}
use Rattle.domain_controller.proofs.turning.hear_turn.Goals as goal

pub returns-in-Ok-clause-value : goal.returns-in-Ok-clause-value
returns-in-Ok-clause-value g c =
    let apart = c.apart-turning in
    turned_if c.put_back.result (λ turning. link_hears c.args.link c.args.piece.now turning) c.args.parts apart.result.0 (c.in-Ok.turning, c.in-Ok.ended) apart.result.1
    apart.ensures.whose apart.ensures.turning apart.ensures.beside (search rules) c.put_back.ensures
