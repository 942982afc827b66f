use Rattle.domain_world.proofs.Acceptance.AnsweredRunLaws.{answers_judged}
use Rattle.domain_world.proofs.accepting.runs_are_proved.Goals as goal

pub returns : goal.returns
returns c = answers_judged
