use Rattle.std.proofs.Common.{◌≡◌, ◌++◌, drop, map}
use Rattle.end_links.specs.Binding.{answer_to}
use Rattle.end_links.proofs.binding.answers.Given as goal

abbrev pub invariant-loop-context : goal.invariant-loop-context
invariant-loop-context l = l.results ++ map (answer_to l.served) (drop l.context-index l.contexts) ≡ map (answer_to l.served) l.contexts
