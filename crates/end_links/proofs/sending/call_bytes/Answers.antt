use Rattle.std.proofs.Common.{◌≤◌, ◌+◌, ◌*◌, length}
use Rattle.std.proofs.lemmas.Result.{IfOk-weaker}
use Rattle.rpc_units.specs.Joining.{stub_of}
use Rattle.end_links.proofs.BoundLaws.{plain_short}
use Rattle.end_links.proofs.sending.call_bytes.Goals as goal

pub returns-clause-short : goal.returns-clause-short
returns-clause-short c =
    IfOk-weaker c.cut_bytes.result _ (λ bytes. 8 * length bytes ≤ 9 * length (stub_of c.args.unit.now.body) + 408)
    (λ bytes is. rw is (plain_short c.args.unit.now c.args.limit c.requires.whole c.requires.plain c.requires.least)) c.cut_bytes.ensures
