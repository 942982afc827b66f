use Rattle.std.proofs.Common.{[], ◌∷◌, option_map}
use Rattle.nt_words.specs.Files.{file_due, seed_in, change_due}
use Rattle.nt_words.specs.Options.{file_of}
use Rattle.nt_words.proofs.FileLaws.{followed, stops}
use Rattle.nt_words.proofs.files.read_member_rest.Goals as goal

pub returns-in-Ok : goal.returns-in-Ok
returns-in-Ok g c =
    let named = option_map (λ s. s.now) c.args.change in
    followed ((6, c.args.seed.now) ∷ []) (file_of 9 named []) (file_due 6 c.args.seed.now (seed_in 6)) (change_due named c.args.secrets) c.in-Ok.seed _ _ _ _ c.in-Ok.ensures
    c.read_change.ensures

pub returns-in-Err : goal.returns-in-Err
returns-in-Err g c =
    let named = option_map (λ s. s.now) c.args.change in
    stops ((6, c.args.seed.now) ∷ []) (file_of 9 named []) (file_due 6 c.args.seed.now (seed_in 6)) (change_due named c.args.secrets) c.in-Err.refused _ _ c.in-Err.ensures
