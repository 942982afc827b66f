use Rattle.std.proofs.Common.{◌≡◌, ℕ, List, length, replicate, refl, sym, ap, ◌∙◌}
use Rattle.ntlm_responses.proofs.HashLaws.{put_at_end}
use Rattle.logon_client.proofs.answering.join.Goals as goal

pub returns : goal.returns
returns c =
    let front = c.copy_from_slice.ensures in
    let before : length c.args.first ≡ 8 = ap (λ (t : List ℕ). length t) (sym front.after) ∙ front.len in
    rw (front.after, c.copy_from_slice-2.ensures.after) (put_at_end 8 8 c.args.first (replicate 8 0) c.args.second before refl)
