use Rattle.std.proofs.Common.{◌∙◌, rules}
use Rattle.ntlm_seal.proofs.SignatureParts.{written}
use Rattle.ntlm_seal.proofs.direction.signature.Goals as goal

pub returns : goal.returns
returns c =
    written _ _ _ c.args.checksum _ (c.copy_from_slice.ensures.after ∙ c.to_le_bytes.ensures) c.copy_from_slice-2.ensures.after (c.copy_from_slice-3.ensures.after ∙ c.to_le_bytes-2.ensures) (search rules) (search rules)
