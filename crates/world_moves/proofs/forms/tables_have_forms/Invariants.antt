-- The tables before the one that is looked at have their forms.
use Rattle.std.proofs.Common.{All, take}
use Rattle.world_moves.specs.Forms.{IsTable}
use Rattle.world_moves.proofs.forms.tables_have_forms.Given as goal

abbrev pub invariant-loop-table : goal.invariant-loop-table
invariant-loop-table l = All IsTable (take l.table-index l.tables)
