use Rattle.des_cipher.proofs.SoFar.{odd_bits, even_bits}
use Rattle.des_cipher.proofs.word_schedule.merged.Goals as goal

pub returns-clause-odd : goal.returns-clause-odd
returns-clause-odd c = λ j h. odd_bits c.args.left c.args.right j h

pub returns-clause-even : goal.returns-clause-even
returns-clause-even c = λ j h. even_bits c.args.left c.args.right j h c.ranges.right.fits
