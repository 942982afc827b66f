use Rattle.std.proofs.Common.{◌*◌, ◌+◌, slice_range, rules}
use Rattle.std.proofs.lemmas.List.FromFn.{fill_by_all}
use Rattle.des_cipher.specs.Bits.{number_of, bytes_of}
use Rattle.des_cipher.proofs.bits.bytes_from.Goals as goal

pub returns : goal.returns
unfolding bytes_of
returns c =
    fill_by_all (λ i. number_of (slice_range c.args.bits.now (8 * i) (8 * i + 8))) c.loop-i.bytes 8 0 c.loop-i.invariant.room (search rules)
