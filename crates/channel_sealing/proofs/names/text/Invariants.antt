-- The bytes so far aren't zero, and stand in front of what the rest is.
use Rattle.std.proofs.Common.{◌≡◌, ◌-◌, length, take, drop}
use Rattle.channel_sealing.specs.Names.{text_of}
use Rattle.channel_sealing.proofs.NameLaws.{behind_front}
use Rattle.channel_sealing.proofs.names.text.Given as goal

abbrev pub invariant-loop-at : goal.invariant-loop-at
invariant-loop-at l = behind_front (take l.at l.bytes) (text_of (drop l.at l.bytes)) ≡ text_of l.bytes

abbrev pub decreases-loop-at : goal.decreases-loop-at
decreases-loop-at l = length l.bytes - l.at
