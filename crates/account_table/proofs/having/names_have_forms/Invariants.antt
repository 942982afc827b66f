-- The names in front of the index have the form of a name.
use Rattle.std.proofs.Common.{All, take}
use Rattle.wire_base.specs.Names.{IsName}
use Rattle.account_table.proofs.having.names_have_forms.Given as goal

abbrev pub invariant-loop-name : goal.invariant-loop-name
invariant-loop-name l = All IsName (take l.name-index l.names)
