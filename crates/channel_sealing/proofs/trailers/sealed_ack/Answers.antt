use Rattle.std.proofs.Common.{◌≤◌, length}
use Rattle.std.proofs.lemmas.Result.{IfOk-weaker}
use Rattle.rpc_units.specs.Writing.{written}
use Rattle.channel_sealing.proofs.BindLaws.{sealed_ack_short}
use Rattle.channel_sealing.proofs.trailers.sealed_ack.Goals as goal

pub returns-clause-short : goal.returns-clause-short
returns-clause-short c =
    IfOk-weaker c.ack_unit.result _ (λ u. length (written u) ≤ 5840)
    (λ u e. rw e (sealed_ack_short c.args.served.now c.args.call c.args.receive c.args.contexts.now c.args.context c.requires)) c.ack_unit.ensures
