use Rattle.wire_base.proofs.UnitLaws.{units_of-utf16_of, utf16_of-units_of}
use Rattle.wire_base.proofs.units.what_is_written_is_read.Goals as goal

pub returns-clause-units : goal.returns-clause-units
returns-clause-units c = units_of-utf16_of

pub returns-clause-bytes : goal.returns-clause-bytes
returns-clause-bytes c = utf16_of-units_of
