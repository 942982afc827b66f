-- The trusted domains so far and those of the rest are those of all entries.
use Rattle.std.proofs.Common.{◌≡◌, ◌+◌, ◌≤◌, [], length}
use Rattle.account_table.specs.Document.{each_entry, trust_of}
use Rattle.account_table.specs.Listing.{entries_of}
use Rattle.account_table.proofs.reading.read_trusts.Given as goal

abbrev pub invariant-loop-rest : goal.invariant-loop-rest
invariant-loop-rest l = record {
  so_far : each_entry (trust_of l.own) l.number l.trusts (entries_of l.rest) ≡ each_entry (trust_of l.own) 0 [] (entries_of l.entries);
  count : length l.trusts + length l.rest ≤ length l.entries;
  numbers : l.number + length l.rest ≤ length l.entries;
}

abbrev pub decreases-loop-rest : goal.decreases-loop-rest
decreases-loop-rest l = length l.rest
