use Rattle.std.proofs.Common.{◌≡◌, ◌++◌, All}
use Rattle.std.specs.Vec.Iter.{into_iter_items}
use Rattle.interactive_station.specs.Plans.{CanStation}
use Rattle.world_moves.proofs.making.station_tasks_of.Given as goal

-- the tasks so far, and the plans that are left
abbrev pub invariant-loop-plan : goal.invariant-loop-plan
invariant-loop-plan l = (l.tasks ++ into_iter_items l.plan-iterator ≡ l.fn.plans) × All CanStation (into_iter_items l.plan-iterator)
