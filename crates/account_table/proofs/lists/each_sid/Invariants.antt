-- The identifiers so far and those of the rest are those of all values.
use Rattle.std.proofs.Common.{◌≡◌, length}
use Rattle.toml.specs.View.{items_view}
use Rattle.account_table.specs.Forms.{each, a_sid}
use Rattle.account_table.proofs.ListLaws.{prefixed}
use Rattle.account_table.proofs.lists.each_sid.Given as goal

abbrev pub invariant-loop-rest : goal.invariant-loop-rest
invariant-loop-rest l = prefixed l.sids (each a_sid (items_view l.rest)) ≡ each a_sid (items_view l.values)

abbrev pub decreases-loop-rest : goal.decreases-loop-rest
decreases-loop-rest l = length l.rest
