-- The calls so far are without their lines on the link, and the others as they were.
use Rattle.std.proofs.Common.{◌≡◌, ◌++◌, take, drop}
use Rattle.domain_controller.specs.Forwarding.{calls_without}
use Rattle.domain_controller.proofs.forwarding.calls_without.Given as goal

abbrev pub invariant-loop-entry : goal.invariant-loop-entry
invariant-loop-entry l = l.entry-items ≡ calls_without l.number (take l.entry-index l.fn.calls) ++ drop l.entry-index l.fn.calls
