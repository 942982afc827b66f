use Rattle.std.proofs.Common.{◌≡◌, map, take}
use Rattle.world_moves.specs.Outcomes.{has_its_outcome}
use Rattle.world_moves.proofs.ends.Ends.have_outcomes.Given as goal

-- whether the clients so far have outcomes
abbrev pub invariant-loop-client : goal.invariant-loop-client
invariant-loop-client l = l.had.items ≡ map has_its_outcome (take l.client-index l.client-items)
