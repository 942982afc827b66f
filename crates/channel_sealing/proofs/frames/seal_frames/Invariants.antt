-- What comes of the frames so far and of the rest is what comes of all, and so is the end behind them; there are as
-- many frames, and bytes, as at first.
use Rattle.std.proofs.Common.{◌≡◌, length, take, drop}
use Rattle.end_links.specs.Sending.{joined_frames}
use Rattle.channel_sealing.specs.Frames.{end_after, seal_all}
use Rattle.channel_sealing.proofs.FrameLaws.{behind_all}
use Rattle.channel_sealing.proofs.frames.seal_frames.Given as goal

abbrev pub invariant-loop-at : goal.invariant-loop-at
invariant-loop-at l = record {
  so_far : behind_all (take l.at l.list.items) (seal_all l.seal l.confounder (drop l.at l.list.items)) ≡ seal_all l.initial.seal l.confounder l.initial.list.items;
  end : end_after l.seal l.confounder (drop l.at l.list.items) ≡ end_after l.initial.seal l.confounder l.initial.list.items;
  count : length l.list.items ≡ length l.initial.list.items;
  size : length (joined_frames l.list.items) ≡ length (joined_frames l.initial.list.items);
}
