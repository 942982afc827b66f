use Rattle.outside.proofs.TellingLaws.{fronts_are_parts as law}
use Rattle.outside.proofs.laws.fronts_are_parts.Goals as goal

pub returns : goal.returns
returns c = law
