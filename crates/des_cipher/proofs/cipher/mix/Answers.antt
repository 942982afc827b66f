use Rattle.std.proofs.Common.{◌≡◌, ◌∙◌, ap}
use Rattle.des_cipher.specs.Bits.{permuted, combined}
use Rattle.des_cipher.specs.Cipher.{mixed, substitutions}
use Rattle.des_cipher.specs.Tables.{expansion, round_permutation, s_boxes}
use Rattle.des_cipher.proofs.cipher.mix.Goals as goal

pub returns : goal.returns
unfolding mixed
returns c =
    let half = c.args.half.now in
    let key = c.args.key.now in
    let e : c.permute-expanded.result ≡ permuted expansion half = c.permute-expanded.ensures.value in
    let x : c.combine.new.bits ≡ combined (permuted expansion half) key = c.combine.ensures ∙ ap (λ z. combined z key) e in
    let s : c.substitute_all.result ≡ substitutions s_boxes (combined (permuted expansion half) key) = c.substitute_all.ensures ∙ ap (substitutions s_boxes) x in
    let p : c.permute.result ≡ permuted round_permutation c.substitute_all.result = c.permute.ensures.value in
    p ∙ ap (permuted round_permutation) s
