use Rattle.nt_top.proofs.DrillLaws.{read_is, refused_is}
use Rattle.nt_top.proofs.drill.drill_table.Goals as goal

pub returns-in-Ok : goal.returns-in-Ok
returns-in-Ok c = read_is _ _ c.as_bytes.ensures.value c.in-Ok.ensures.exact

pub no_memory_for_table-requires : goal.no_memory_for_table-requires
no_memory_for_table-requires c = refused_is _ _ c.as_bytes.ensures.value c.in-Err.ensures.exact
