-- The accounts so far and those of the rest are the machines of all entries.
use Rattle.std.proofs.Common.{◌≡◌, ◌+◌, ◌≤◌, true, length}
use Rattle.account_table.specs.AccountTable.{has_distinct_names}
use Rattle.account_table.specs.Document.{each_entry, machine_of}
use Rattle.account_table.specs.Listing.{entries_of}
use Rattle.account_table.proofs.reading.read_machines.Given as goal

abbrev pub invariant-loop-rest : goal.invariant-loop-rest
invariant-loop-rest l = record {
  so_far : each_entry machine_of l.number l.accounts (entries_of l.rest) ≡ each_entry machine_of 0 l.fn.before (entries_of l.entries);
  count : length l.accounts + length l.rest ≤ length l.fn.before + length l.entries;
  different : has_distinct_names l.accounts ≡ true;
  numbers : l.number + length l.rest ≤ length l.entries;
}

abbrev pub decreases-loop-rest : goal.decreases-loop-rest
decreases-loop-rest l = length l.rest
