use Rattle.std.proofs.Common.{◌-◌, ◌≤◌, length}
use Rattle.wire_base.proofs.PlaceLaws.{NoneBefore}
use Rattle.world_moves.specs.Bag.{is_waiting}
use Rattle.world_moves.proofs.bag.Bag.seek_waiting.Given as goal

-- no unit before the place waits
abbrev pub invariant-loop-place : goal.invariant-loop-place
invariant-loop-place l = (l.place ≤ length l.self-inside.units.items) × NoneBefore is_waiting l.self-inside.units.items l.place

abbrev pub decreases-loop-place : goal.decreases-loop-place
decreases-loop-place l = length l.self-inside.units.items - l.place
