use Rattle.std.proofs.Common.{◌≡◌, length}
use Rattle.ntlm_messages.specs.Pairs.{pair_value_of}
use Rattle.ntlm_messages.proofs.pairs.pair_value.Given as goal

abbrev pub invariant-loop-rest : goal.invariant-loop-rest
invariant-loop-rest l = pair_value_of l.id l.rest ≡ pair_value_of l.id l.pairs

abbrev pub decreases-loop-rest : goal.decreases-loop-rest
decreases-loop-rest l = length l.rest
