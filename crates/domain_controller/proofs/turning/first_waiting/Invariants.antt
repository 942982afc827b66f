-- At none so far a logon waits.
use Rattle.wire_base.proofs.PlaceLaws.{NoneBefore}
use Rattle.domain_controller.specs.TrustStep.{starts}
use Rattle.domain_controller.proofs.turning.first_waiting.Given as goal

abbrev pub invariant-loop-place : goal.invariant-loop-place
invariant-loop-place l = NoneBefore starts l.requesters l.place
