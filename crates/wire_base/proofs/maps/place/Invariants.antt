-- No entry so far has the key.
use Rattle.wire_base.specs.Maps.{has_key}
use Rattle.wire_base.proofs.PlaceLaws.{NoneBefore}
use Rattle.wire_base.proofs.maps.place.Given as goal

abbrev pub invariant-loop-index : goal.invariant-loop-index
invariant-loop-index g l = NoneBefore (has_key g.S.Sought.same l.sought) l.entries l.index
