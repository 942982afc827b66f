use Rattle.std.proofs.Common.{◌∙◌, ap}
use Rattle.des_cipher.specs.Bits.{bits_of, bytes_of}
use Rattle.des_cipher.specs.Cipher.{cipher}
use Rattle.des_cipher.specs.Des.{des_of, spread_of}
use Rattle.des_cipher.proofs.des.Schedule.block.Goals as goal

pub returns : goal.returns
unfolding des_of
returns c =
    c.encipher_bytes.ensures.value
    ∙ ap (λ ks. bytes_of (cipher ks (bits_of c.args.block))) c.self.invariant
    ∙ ap (λ k. des_of (spread_of k) c.args.block) c.self.view_is
