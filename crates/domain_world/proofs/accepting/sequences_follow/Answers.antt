use Rattle.domain_world.proofs.Sequences.SharedLaws.{sequences_follow}
use Rattle.domain_world.proofs.accepting.sequences_follow.Goals as goal

pub returns : goal.returns
returns c = sequences_follow
