use Rattle.std.proofs.Common.{◌≤◌, ◌+◌, ◌*◌, length}
use Rattle.std.proofs.lemmas.Result.{IfOk-weaker}
use Rattle.rpc_units.specs.Joining.{stub_of}
use Rattle.end_links.specs.Sending.{joined_frames}
use Rattle.end_links.proofs.BoundLaws.{frames_short}
use Rattle.end_links.proofs.sending.call_frames.Goals as goal

pub returns-clause-short : goal.returns-clause-short
returns-clause-short c =
    IfOk-weaker c.cut_frames.result _ (λ frames. 8 * length (joined_frames frames) ≤ 9 * length (stub_of c.args.unit.now.body) + 408)
    (λ frames is. rw is (frames_short c.args.unit.now c.args.limit c.requires.whole c.requires.plain c.requires.least)) c.cut_frames.ensures
