use Rattle.std.proofs.Common.{◌∙◌, ◌+◌, ◌-◌, List, ℕ, length, take, drop, Some, ap, sym, arith, length-drop}
use Rattle.std.proofs.lemmas.List.{take_all}
use Rattle.channel_sealing.proofs.NameLaws.{text_ends}
use Rattle.channel_sealing.proofs.names.text.Goals as goal

pub returns-then-bytes-at-eq0 : goal.returns-then-bytes-at-eq0
returns-then-bytes-at-eq0 c =
    let bytes : List ℕ = c.args.bytes.now in
    let at : ℕ = c.loop-at.at in
    let behind : List ℕ = drop (at + 1) bytes in
    sym c.loop-at.invariant
    ∙ text_ends bytes at c.loop-at-test.true c.if-bytes-at-eq0.true
    ∙ ap (λ (rest : List ℕ). Some (take at bytes, rest)) (sym (take_all (length bytes - (at + 1)) behind (omega (arith, length-drop (at + 1) bytes))))
