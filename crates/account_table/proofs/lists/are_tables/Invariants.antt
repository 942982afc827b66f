-- All values are tables where those of the rest are.
use Rattle.std.proofs.Common.{◌≡◌, length, is_some}
use Rattle.toml.specs.Data.{as_table}
use Rattle.toml.specs.View.{items_view}
use Rattle.account_table.specs.Forms.{each}
use Rattle.account_table.proofs.lists.are_tables.Given as goal

abbrev pub invariant-loop-rest : goal.invariant-loop-rest
invariant-loop-rest l = is_some (each as_table (items_view l.rest)) ≡ is_some (each as_table (items_view l.values))

abbrev pub decreases-loop-rest : goal.decreases-loop-rest
decreases-loop-rest l = length l.rest
