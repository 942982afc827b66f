use Rattle.std.proofs.Common.{None, ap}
use Rattle.channel_turns.specs.Turning.{link_answers}
use Rattle.channel_turns.specs.declared.state.Turning.{Turning}
use Rattle.domain_controller.proofs.ForwardLaws.{turned_if}
use Rattle.domain_controller.proofs.turning.bind_turn.Goals as goal

pub returns : goal.returns
returns c =
    let apart = c.apart-turning in
    turned_if c.put_back.result (λ turning. (link_answers c.args.link turning, None)) c.args.parts apart.result.0 (c.in_ok-turning.turning, None) apart.result.1
    apart.ensures.whose apart.ensures.turning apart.ensures.beside (ap (λ (turning : Turning). (turning, None)) c.in_ok-turning.ensures) c.put_back.ensures
