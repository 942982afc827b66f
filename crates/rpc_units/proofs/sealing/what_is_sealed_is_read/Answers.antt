use Rattle.rpc_units.proofs.SealedLaws.{sealed_of-unit, sealed_of-written, sealed_of-Some, unit_of-range_replaced, take-range_replaced, unit_of-value_replaced, sealed_of-value_replaced, value_replaced-written}
use Rattle.rpc_units.proofs.sealing.what_is_sealed_is_read.Goals as goal

pub returns-clause-range : goal.returns-clause-range
returns-clause-range c = sealed_of-unit

pub returns-clause-written : goal.returns-clause-written
returns-clause-written c = sealed_of-written

pub returns-clause-only : goal.returns-clause-only
returns-clause-only c = sealed_of-Some

pub returns-clause-replaced : goal.returns-clause-replaced
returns-clause-replaced c = unit_of-range_replaced

pub returns-clause-front : goal.returns-clause-front
returns-clause-front c = take-range_replaced

pub returns-clause-value : goal.returns-clause-value
returns-clause-value c = unit_of-value_replaced

pub returns-clause-value_range : goal.returns-clause-value_range
returns-clause-value_range c = sealed_of-value_replaced

pub returns-clause-written_value : goal.returns-clause-written_value
returns-clause-written_value c = value_replaced-written
