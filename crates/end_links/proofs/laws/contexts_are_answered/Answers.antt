use Rattle.end_links.proofs.BindingLaws.{contexts_answered}
use Rattle.end_links.proofs.laws.contexts_are_answered.Goals as goal

pub returns : goal.returns
returns c = contexts_answered
