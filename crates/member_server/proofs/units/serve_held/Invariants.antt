-- What was served and what is left to serve are all.
use Rattle.std.proofs.Common.{◌≡◌}
use Rattle.std.specs.Vec.Iter.{into_iter_items}
use Rattle.member_server.specs.Units.{serve_held}
use Rattle.member_server.proofs.units.serve_held.Given as goal

abbrev pub invariant-loop-unit : goal.invariant-loop-unit
invariant-loop-unit l = serve_held (into_iter_items l.unit-iterator) l.at l.talk ≡ serve_held l.fn.held l.fn.at l.fn.talk
