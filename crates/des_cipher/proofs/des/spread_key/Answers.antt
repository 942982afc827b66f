use Rattle.std.proofs.Common.{◌∷◌, [], get_or, rules}
use Rattle.des_cipher.proofs.Bytes.{bits_of_read}
use Rattle.des_cipher.proofs.Spread.{spread_from, small_eight}
use Rattle.des_cipher.proofs.des.spread_key.Goals as goal

pub returns : goal.returns
returns c =
    let key = c.args.key in
    spread_from key c.from_be_bytes-n.result (search rules)
    (bits_of_read (get_or key 0 0 ∷ get_or key 1 0 ∷ get_or key 2 0 ∷ get_or key 3 0 ∷ get_or key 4 0 ∷ get_or key 5 0 ∷ get_or key 6 0 ∷ 0 ∷ []) c.from_be_bytes-n.result (search rules) (small_eight key (λ i. search rules)) c.from_be_bytes-n.ensures)
