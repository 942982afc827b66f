use Rattle.std.proofs.Common.{◌∙◌, ap}
use Rattle.des_cipher.specs.Bits.{bits_of, bytes_of}
use Rattle.des_cipher.specs.Cipher.{cipher}
use Rattle.des_cipher.specs.Schedule.{round_keys}
use Rattle.des_cipher.specs.Des.{des_of}
use Rattle.des_cipher.proofs.DesLaws.{des_of-same_but_low_bits}
use Rattle.des_cipher.proofs.plain.des_block8.Goals as goal

pub returns-clause-value : goal.returns-clause-value
unfolding des_of
returns-clause-value c =
    let block = c.block_bits.result in
    c.bytes_from.ensures
    ∙ ap bytes_of (c.encipher.ensures ∙ ap (λ ks. cipher ks block) (c.key_schedule.ensures ∙ ap round_keys c.write_bits.ensures))
    ∙ ap (λ b. bytes_of (cipher (round_keys (bits_of c.args.key)) b)) c.block_bits.ensures.value

pub returns-clause-parity_is_free : goal.returns-clause-parity_is_free
returns-clause-parity_is_free c other same =
    returns-clause-value c ∙ des_of-same_but_low_bits c.args.key other c.args.block same
