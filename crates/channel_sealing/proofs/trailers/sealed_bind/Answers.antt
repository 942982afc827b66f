use Rattle.std.proofs.Common.{◌≤◌, length}
use Rattle.std.proofs.lemmas.Result.{IfOk-weaker}
use Rattle.rpc_units.specs.Writing.{written}
use Rattle.channel_sealing.proofs.BindLaws.{sealed_bind_short}
use Rattle.channel_sealing.proofs.trailers.sealed_bind.Goals as goal

pub returns-clause-short : goal.returns-clause-short
returns-clause-short c =
    IfOk-weaker c.bind_unit.result _ (λ u. length (written u) ≤ 5840)
    (λ u e. rw e (sealed_bind_short c.args.interface.now c.args.call c.args.value.now c.read_uuid.ensures c.requires.few)) c.bind_unit.ensures
