use Rattle.outside.proofs.StoryLaws.{stories_add_up as law}
use Rattle.outside.proofs.laws.stories_add_up.Goals as goal

pub returns : goal.returns
returns c = law
