use Rattle.wire_base.proofs.NameLaws.{IsSameness-same_name, IsSameness-same_number}
use Rattle.wire_base.proofs.names.sameness_is_an_equivalence.Goals as goal

pub returns-clause-names : goal.returns-clause-names
returns-clause-names c = IsSameness-same_name

pub returns-clause-numbers : goal.returns-clause-numbers
returns-clause-numbers c = IsSameness-same_number
