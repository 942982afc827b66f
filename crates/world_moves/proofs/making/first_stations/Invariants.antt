use Rattle.std.proofs.Common.{◌≡◌, map, take}
use Rattle.interactive_station.specs.Machine.{fresh_station}
use Rattle.world_moves.proofs.making.first_stations.Given as goal

-- the stations so far
abbrev pub invariant-loop-task : goal.invariant-loop-task
invariant-loop-task l = l.stations.items ≡ map fresh_station (take l.task-index l.task-items)
