use Rattle.std.proofs.Common.{◌≡◌, ◌++◌, ◌-◌}
use Rattle.world_moves.specs.Generator.{moves_of}
use Rattle.world_moves.proofs.moves.moves_from.Given as goal

-- the moves so far, and those that the number makes from here
abbrev pub invariant-loop : goal.invariant-loop
invariant-loop l = l.moves ++ moves_of (l.fn.count - l.counter) l.seed ≡ moves_of l.fn.count l.fn.number
