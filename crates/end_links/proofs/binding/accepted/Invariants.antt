use Rattle.std.proofs.Common.{◌≡◌, ◌++◌, drop}
use Rattle.end_links.specs.Binding.{accepted_ids}
use Rattle.end_links.proofs.binding.accepted.Given as goal

abbrev pub invariant-loop-context : goal.invariant-loop-context
invariant-loop-context l = l.ids ++ accepted_ids l.served (drop l.context-index l.contexts) ≡ accepted_ids l.served l.contexts
