use Rattle.std.proofs.Common.{◌∙◌, arith, drop}
use Rattle.std.proofs.lemmas.List.{take_all, length-drop}
use Rattle.des_cipher.proofs.cipher.halves.Goals as goal

pub returns-clause-right : goal.returns-clause-right
returns-clause-right c =
    let block = c.args.block.now in
    c.copy_from_slice-2.ensures.after ∙ take_all 32 (drop 32 block) (omega (arith, length-drop 32 block))
