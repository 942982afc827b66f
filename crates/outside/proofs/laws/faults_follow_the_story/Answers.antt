use Rattle.outside.proofs.StoryLaws.{faults_follow as law}
use Rattle.outside.proofs.laws.faults_follow_the_story.Goals as goal

pub returns : goal.returns
returns c = law
