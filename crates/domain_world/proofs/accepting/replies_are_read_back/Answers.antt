use Rattle.domain_world.proofs.Acceptance.Heard.JudgedRunLaws.{replies_back}
use Rattle.domain_world.proofs.accepting.replies_are_read_back.Goals as goal

pub returns : goal.returns
returns c = replies_back
