use Rattle.rpc_units.proofs.ViewLaws.{view_found, view_only, view_memory}
use Rattle.rpc_units.proofs.viewing.view_unit.Goals as goal

pub returns-clause-found : goal.returns-clause-found
returns-clause-found c = view_found c.args.bytes.now c.view_by_table.result c.view_by_table.ensures.exact

pub returns-clause-only : goal.returns-clause-only
returns-clause-only c unit is = view_only c.args.bytes.now c.view_by_table.result unit c.view_by_table.ensures.exact is

pub returns-clause-memory : goal.returns-clause-memory
returns-clause-memory c = view_memory c.args.bytes.now c.view_by_table.result c.view_by_table.ensures.exact
