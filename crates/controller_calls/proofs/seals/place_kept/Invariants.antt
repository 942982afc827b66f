-- No computer so far has the name.
use Rattle.wire_base.specs.Maps.{has_key}
use Rattle.wire_base.specs.Names.{same_name}
use Rattle.wire_base.proofs.PlaceLaws.{NoneBefore}
use Rattle.controller_calls.proofs.seals.place_kept.Given as goal

abbrev pub invariant-loop-index : goal.invariant-loop-index
invariant-loop-index l = NoneBefore (has_key same_name l.computer) l.kept l.index
