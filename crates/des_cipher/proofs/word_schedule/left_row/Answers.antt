use Rattle.des_cipher.proofs.RowFacts.{left_fact}
use Rattle.des_cipher.proofs.word_schedule.left_row.Goals as goal

pub returns : goal.returns
returns c = λ k j hk hj. left_fact c.args.i c.args.byte k j c.requires c.ranges.byte.fits hk hj
