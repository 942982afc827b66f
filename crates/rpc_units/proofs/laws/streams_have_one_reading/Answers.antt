use Rattle.rpc_units.proofs.ComingLaws.{front_done}
use Rattle.rpc_units.proofs.CutStreamLaws.{cut_is_stream, cut_only, cut_written, cut_joined, cut_stays_refused, units_counted}
use Rattle.rpc_units.proofs.RefusalLaws.{stream_memory}
use Rattle.rpc_units.proofs.laws.streams_have_one_reading.Goals as goal

pub returns-clause-grammar : goal.returns-clause-grammar
returns-clause-grammar c = cut_is_stream

pub returns-clause-only : goal.returns-clause-only
returns-clause-only c = cut_only

pub returns-clause-written : goal.returns-clause-written
returns-clause-written c = cut_written

pub returns-clause-pieces : goal.returns-clause-pieces
returns-clause-pieces c = cut_joined

pub returns-clause-refused : goal.returns-clause-refused
returns-clause-refused c = cut_stays_refused

pub returns-clause-taken : goal.returns-clause-taken
returns-clause-taken c = front_done

pub returns-clause-memory : goal.returns-clause-memory
returns-clause-memory c = stream_memory

pub returns-clause-count : goal.returns-clause-count
returns-clause-count c = units_counted
