-- The entries so far are copied.
use Rattle.std.proofs.Common.{◌≡◌, take}
use Rattle.domain_controller.proofs.verdicts.copy_extra.Given as goal

abbrev pub invariant-loop-entry : goal.invariant-loop-entry
invariant-loop-entry l = l.copy ≡ take l.entry-index l.entry-items
