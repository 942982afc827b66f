use Rattle.des_cipher.proofs.RowFacts.{right_fact}
use Rattle.des_cipher.proofs.word_schedule.right_row.Goals as goal

pub returns : goal.returns
returns c = λ k j hk hj. right_fact c.args.i c.args.byte k j c.requires hk hj
