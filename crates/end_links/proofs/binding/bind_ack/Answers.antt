use Rattle.std.proofs.lemmas.Result.{IfOk-weaker}
use Rattle.rpc_units.specs.Writing.{IsShortBody, IsWritable}
use Rattle.end_links.proofs.BindingLaws.{ack_short, ack_writable}
use Rattle.end_links.proofs.binding.bind_ack.Goals as goal

pub returns-clause-short : goal.returns-clause-short
returns-clause-short c =
    IfOk-weaker c.ack.result _ (λ u. IsShortBody u.body) (λ u e. rw e (ack_short c.args.served.now c.args.call c.args.receive c.args.contexts.now c.requires)) c.ack.ensures

pub returns-clause-writable : goal.returns-clause-writable
returns-clause-writable c =
    IfOk-weaker c.ack.result _ (λ u. IsWritable u) (λ u e. rw e (ack_writable c.args.served.now c.args.call c.args.receive c.args.contexts.now)) c.ack.ensures
