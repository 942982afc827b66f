use Rattle.std.proofs.Common.{◌≡◌, ℕ, List, [], ◌++◌, length, drop, replicate, refl, sym, ap, ◌∙◌, arith}
use Rattle.std.proofs.lemmas.List.{take_at, drop_at, drop_all, append-nil}
use borrow.Rule.Slice.PartMut.{put_mid}
use Rattle.channel_keys.proofs.session_keys.join.Goals as goal

-- a block written over the zeros behind a front
put_at_end : (front zeros block : List ℕ) → length front ≡ 4 → length zeros ≡ 4 → put_mid 4 4 (front ++ zeros) block ≡ front ++ block
put_at_end front zeros block before after =
    let rest : drop 4 (drop 4 (front ++ zeros)) ≡ [] = rw (drop_at front zeros 4 before) (drop_all 4 zeros (omega arith)) in
    rw (take_at front zeros 4 before, rest, append-nil block) refl

pub returns : goal.returns
returns c =
    let front = c.copy_from_slice.ensures in
    let before : length c.args.first ≡ 4 = ap (λ (t : List ℕ). length t) (sym front.after) ∙ front.len in
    rw (front.after, c.copy_from_slice-2.ensures.after) (put_at_end c.args.first (replicate 4 0) c.args.second before refl)
