use Rattle.world_moves.proofs.OutcomeLaws.{FallTo}
use Rattle.world_moves.proofs.ends.without_new.Given as goal

-- the clients up to here are those that had an outcome
abbrev pub invariant-loop-at : goal.invariant-loop-at
invariant-loop-at l = FallTo l.at l.had l.fn.clients.items l.clients.items
