use Rattle.des_cipher.proofs.CipherLemmas.{substituted_read}
use Rattle.std.proofs.Common.{◌∙◌, refl}
use Rattle.des_cipher.proofs.cipher.substitute.Goals as goal

pub returns : goal.returns
returns c =
    c.nibble_bits.ensures
    ∙ substituted_read c.args.table.now c.args.six.now c.number-row.result c.number-column.result _ c.requires c.number-row.ensures.value c.number-column.ensures.value refl
