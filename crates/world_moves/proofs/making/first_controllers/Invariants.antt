use Rattle.std.proofs.Common.{◌≡◌, ◌++◌}
use Rattle.std.specs.Vec.Iter.{into_iter_items}
use Rattle.world_moves.specs.World.{first_controllers}
use Rattle.world_moves.proofs.making.first_controllers.Given as goal

-- the controllers so far, and those of the tables and names that are left
abbrev pub invariant-loop-table : goal.invariant-loop-table
invariant-loop-table l = l.controllers.items ++ first_controllers l.fn.hands_on l.fn.seals (into_iter_items l.table-iterator) (into_iter_items l.names) ≡ first_controllers l.fn.hands_on l.fn.seals l.fn.tables l.fn.names
