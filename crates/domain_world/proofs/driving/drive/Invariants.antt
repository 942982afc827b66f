use Rattle.std.proofs.Common.{◌≡◌, ◌+◌, ◌≤◌, false, drop, length, take}
use Rattle.world_moves.specs.World.{move_limit, run}
use Rattle.domain_world.proofs.driving.drive.Given as goal

-- the run of the rest from here is that of all moves, those before were made, so many moves are left, and the world
-- goes on
abbrev pub invariant-loop-what : goal.invariant-loop-what
invariant-loop-what l =
    (run (drop l.what-index l.what-items) l.world ≡ run l.fn.moves l.fn.world)
    × (l.world ≡ run (take l.what-index l.what-items) l.fn.world)
    × (l.world.moves + length (drop l.what-index l.what-items) ≤ move_limit)
    × (l.world.stopped ≡ false)
