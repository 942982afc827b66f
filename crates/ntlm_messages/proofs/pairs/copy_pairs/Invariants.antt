use Rattle.std.proofs.Common.{◌≡◌, ℕ, ◌-◌, ◌<◌, ◌≤◌, length}
use Rattle.ntlm_messages.specs.Pairs.{pairs_of, pairs_within}
use Rattle.ntlm_messages.proofs.PairsLaws.{with_front}
use Rattle.ntlm_messages.proofs.pairs.copy_pairs.Given as goal

abbrev pub invariant-loop-pairs : goal.invariant-loop-pairs
invariant-loop-pairs l = record {
  within : length l.rest ≤ length l.bytes;
  so_far : (limit : ℕ) × (length l.rest < limit) × (with_front l.pairs (pairs_within limit (length l.bytes - length l.rest) l.rest) ≡ pairs_of l.bytes);
}

abbrev pub decreases-loop-pairs : goal.decreases-loop-pairs
decreases-loop-pairs l = length l.rest
