use Rattle.std.proofs.Common.{◌∙◌, ap}
use Rattle.des_cipher.specs.Bits.{bits_of, bytes_of}
use Rattle.des_cipher.specs.Cipher.{cipher}
use Rattle.des_cipher.specs.Des.{des_of}
use Rattle.des_cipher.proofs.DesLaws.{des_of-same_but_low_bits}
use Rattle.des_cipher.proofs.des.des_block8.Goals as goal

pub returns-clause-value : goal.returns-clause-value
unfolding des_of
returns-clause-value c = c.encipher_bytes.ensures.value ∙ ap (λ ks. bytes_of (cipher ks (bits_of c.args.block))) c.round_keys.ensures

pub returns-clause-parity_is_free : goal.returns-clause-parity_is_free
returns-clause-parity_is_free c other same =
    returns-clause-value c ∙ des_of-same_but_low_bits c.args.key other c.args.block same
