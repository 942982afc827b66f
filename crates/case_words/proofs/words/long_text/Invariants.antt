-- Each turn leaves fewer bytes.
use Rattle.std.proofs.Common.{length}
use Rattle.case_words.proofs.words.long_text.Given as goal

abbrev pub decreases-loop-rest : goal.decreases-loop-rest
decreases-loop-rest l = length l.rest
