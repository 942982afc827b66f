use Rattle.rpc_units.proofs.FitLaws.{contexts_fit}
use Rattle.rpc_units.proofs.GrammarLaws.{IsUnit-unit_of}
use Rattle.rpc_units.proofs.RangeLaws.{read_fits}
use Rattle.rpc_units.proofs.RefusalLaws.{unit_memory}
use Rattle.rpc_units.proofs.ShortLaws.{written_short}
use Rattle.rpc_units.proofs.WritingLaws.{unit_of-written}
use Rattle.rpc_units.proofs.laws.what_is_read_is_written.Goals as goal

pub returns-clause-writable : goal.returns-clause-writable
returns-clause-writable c bytes unit are read = (read_fits bytes unit are read).0

pub returns-clause-range : goal.returns-clause-range
returns-clause-range c bytes unit are read = (read_fits bytes unit are read).1

pub returns-clause-contexts : goal.returns-clause-contexts
returns-clause-contexts c bytes unit read = contexts_fit bytes unit (IsUnit-unit_of bytes unit read)

pub returns-clause-written : goal.returns-clause-written
returns-clause-written c unit sendable = unit_of-written unit sendable.writable sendable.range sendable.short

pub returns-clause-short : goal.returns-clause-short
returns-clause-short c = written_short

pub returns-clause-memory : goal.returns-clause-memory
returns-clause-memory c = unit_memory
