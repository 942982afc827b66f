use Rattle.end_loop.proofs.RunLaws.{answered, answer_cut, answer_drain_cut}
use Rattle.end_loop.proofs.serving.answer.Goals as goal

pub returns-in-Err-clause-part : goal.returns-in-Err-clause-part
returns-in-Err-clause-part g c = λ s given. answer_cut _ _ _ _ _ _ _ c.requires.goes_on c.requires.other c.in-Err.ensures.part s given

pub returns-in-Ok-drain-clause-ran : goal.returns-in-Ok-drain-clause-ran
returns-in-Ok-drain-clause-ran g c = λ s given. answered _ _ _ _ _ _ _ _ _ _ _ c.requires.idle c.requires.goes_on c.requires.other c.in-Ok.ensures.made c.in-Ok-drain.ensures.ran s given

pub returns-in-Err-drain-clause-part : goal.returns-in-Err-drain-clause-part
returns-in-Err-drain-clause-part g c = λ s given. answer_drain_cut _ _ _ _ _ _ _ _ _ _ _ c.requires.idle c.requires.goes_on c.requires.other c.in-Ok.ensures.made c.in-Err-drain.ensures.part s given
