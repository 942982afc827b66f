use Rattle.std.proofs.Common.{◌≤◌, length}
use Rattle.std.proofs.lemmas.Result.{IfOk-weaker}
use Rattle.rpc_units.specs.Writing.{written, IsWritable}
use Rattle.end_links.proofs.BindingLaws.{bind_short, bind_writable}
use Rattle.end_links.proofs.binding.bind.Goals as goal

pub returns-clause-writable : goal.returns-clause-writable
returns-clause-writable c =
    IfOk-weaker c.bind_unit.result _ (λ u. IsWritable u) (λ u e. rw e (bind_writable c.args.interface.now c.args.call)) c.bind_unit.ensures

pub returns-clause-short : goal.returns-clause-short
returns-clause-short c =
    IfOk-weaker c.bind_unit.result _ (λ u. length (written u) ≤ 5840) (λ u e. rw e (bind_short c.args.interface.now c.args.call c.read_uuid.ensures)) c.bind_unit.ensures
