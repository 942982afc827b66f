-- No logon so far has the place.
use Rattle.wire_base.specs.Maps.{has_key}
use Rattle.wire_base.proofs.PlaceLaws.{NoneBefore}
use Rattle.domain_controller.specs.Trusting.{same_place}
use Rattle.domain_controller.proofs.seal_forwarding.find_asked.Given as goal

abbrev pub invariant-loop-index : goal.invariant-loop-index
invariant-loop-index l = NoneBefore (has_key same_place (l.trust, l.place)) l.asked l.index
