use Rattle.std.proofs.Common.{◌≡◌, ◌++◌, drop}
use Rattle.world_moves.specs.Links.{forget_end}
use Rattle.world_moves.proofs.links.forget_end.Given as goal

-- the links so far, and those of the rest
abbrev pub invariant-loop-number : goal.invariant-loop-number
invariant-loop-number l = l.rest ++ forget_end l.end (drop l.number-index l.number-items) ≡ forget_end l.fn.end l.fn.links
