use Rattle.std.proofs.Common.{◌/◌, ◌^◌, bit_and}
use Rattle.des_cipher.proofs.Joined.{joined_entry}
use Rattle.des_cipher.proofs.RoundLemmas.{six_below}
use Rattle.des_cipher.proofs.word_round.entry.Goals as goal

pub returns : goal.returns
returns c =
    joined_entry c.args.table (bit_and (c.args.word / 2 ^ c.args.place) 63) c.requires.known (six_below (c.args.word / 2 ^ c.args.place))
