use Rattle.std.proofs.Common.{◌≡◌, ℕ, List, ◌++◌, length, replicate, refl, sym, ap, ◌∙◌}
use Rattle.ntlm_responses.proofs.HashLaws.{put_at_end}
use Rattle.ntlm_responses.proofs.hashes.join_three.Goals as goal

pub returns : goal.returns
returns c =
    let pair = c.args.first ++ c.args.second in
    let front : c.copy_from_slice.new.self ≡ pair = c.copy_from_slice.ensures.after ∙ c.join_two.ensures in
    let before : length pair ≡ 16 = ap (λ (t : List ℕ). length t) (sym front) ∙ c.copy_from_slice.ensures.len in
    rw (front, c.copy_from_slice-2.ensures.after) (put_at_end 16 8 pair (replicate 8 0) c.args.third before refl)
