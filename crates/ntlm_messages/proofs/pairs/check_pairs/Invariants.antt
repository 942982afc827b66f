use Rattle.std.proofs.Common.{◌≡◌, ℕ, ◌-◌, ◌<◌, ◌≤◌, List, length}
use Rattle.ntlm_messages.specs.Pairs.{pairs_of, pairs_within}
use Rattle.ntlm_messages.proofs.PairsLaws.{with_front}
use Rattle.ntlm_messages.proofs.pairs.check_pairs.Given as goal

abbrev pub invariant-loop-id : goal.invariant-loop-id
invariant-loop-id l = record {
  within : length l.rest ≤ length l.bytes;
  so_far : (front : List (ℕ × List ℕ)) × (limit : ℕ) × (length l.rest < limit)
      × (with_front front (pairs_within limit (length l.bytes - length l.rest) l.rest) ≡ pairs_of l.bytes);
}

abbrev pub decreases-loop-id : goal.decreases-loop-id
decreases-loop-id l = length l.rest
