use Rattle.std.proofs.Common.{[], ◌∷◌, option_map}
use Rattle.nt_words.specs.Files.{file_due, kept_in, member_rest}
use Rattle.nt_words.specs.Options.{file_of}
use Rattle.nt_words.proofs.FileLaws.{followed, stops}
use Rattle.nt_words.proofs.files.read_member_files.Goals as goal

pub returns-in-Ok : goal.returns-in-Ok
returns-in-Ok g c =
    let named = option_map (λ s. s.now) c.args.change in
    followed ((4, c.args.secret.now) ∷ []) ((6, c.args.seed.now) ∷ file_of 9 named []) (file_due 4 c.args.secret.now (kept_in 4)) (member_rest c.args.seed.now named) c.in-Ok.secrets _ _ _ _ c.in-Ok.ensures
    c.read_member_rest.ensures

pub returns-in-Err : goal.returns-in-Err
returns-in-Err g c =
    let named = option_map (λ s. s.now) c.args.change in
    stops ((4, c.args.secret.now) ∷ []) ((6, c.args.seed.now) ∷ file_of 9 named []) (file_due 4 c.args.secret.now (kept_in 4)) (member_rest c.args.seed.now named) c.in-Err.refused _ _ c.in-Err.ensures
