use Rattle.std.proofs.Common.{◌≡◌, ◌++◌, ◌+◌, ◌*◌, length, take, get_or, arith, ◌∙◌, sym, ap}
use Rattle.des_cipher.specs.Bits.{bits_of, number_bits}
use Rattle.des_cipher.proofs.BitLemmas.{bits_of_more, take_put, length-number_bits}
use Rattle.des_cipher.proofs.bits.write_bits.Goals as goal

pub loop-i-preserved : goal.loop-i-preserved
loop-i-preserved c =
    let bits = c.loop-i.bits in
    let i = c.loop-i.i in
    let byte = number_bits 8 (get_or c.args.bytes.now i 0) in
    let eight : length c.byte_bits.result ≡ 8 = ap length c.byte_bits.ensures ∙ length-number_bits 8 _ in
    ap (take (8 * (i + 1))) c.put.ensures
    ∙ take_put bits c.byte_bits.result _ (8 * i) (8 * (i + 1)) (omega arith) (omega arith)
    ∙ ap (λ z. z ++ c.byte_bits.result) c.loop-i.invariant
    ∙ ap (λ z. bits_of (take i c.args.bytes.now) ++ z) c.byte_bits.ensures
    ∙ sym (bits_of_more c.args.bytes.now i (omega arith))
