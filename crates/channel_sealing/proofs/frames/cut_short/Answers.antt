use Rattle.std.proofs.Common.{◌≤◌, ◌+◌, ◌*◌, length}
use Rattle.std.proofs.lemmas.Result.{IfOk-weaker}
use Rattle.rpc_units.specs.Joining.{stub_of}
use Rattle.end_links.specs.Sending.{joined_frames}
use Rattle.channel_sealing.proofs.FrameLaws.{room_short}
use Rattle.channel_sealing.proofs.frames.cut_short.Goals as goal

pub returns-clause-short : goal.returns-clause-short
returns-clause-short c =
    IfOk-weaker c.cut_frames.result _ (λ frames. 20 * length (joined_frames frames) ≤ 21 * length (stub_of c.args.call.now.body) + 20 * 67)
    (λ frames is. rw is (room_short c.args.call.now c.args.limit c.requires.whole.stub c.requires.least c.requires.value)) c.cut_frames.ensures
