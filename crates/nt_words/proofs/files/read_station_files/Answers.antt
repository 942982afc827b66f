use Rattle.std.proofs.Common.{[], ◌∷◌}
use Rattle.nt_words.specs.Files.{file_due, secret_in, station_rest}
use Rattle.nt_words.proofs.FileLaws.{followed, stops}
use Rattle.nt_words.proofs.files.read_station_files.Goals as goal

pub returns-in-Ok : goal.returns-in-Ok
returns-in-Ok g c =
    followed ((3, c.args.secret.now) ∷ []) ((6, c.args.hash.now) ∷ (7, c.args.seed.now) ∷ []) (file_due 3 c.args.secret.now (secret_in 3)) (station_rest c.args.hash.now c.args.seed.now) c.in-Ok.secret _ _ _ _ c.in-Ok.ensures
    c.read_station_rest.ensures

pub returns-in-Err : goal.returns-in-Err
returns-in-Err g c =
    stops ((3, c.args.secret.now) ∷ []) ((6, c.args.hash.now) ∷ (7, c.args.seed.now) ∷ []) (file_due 3 c.args.secret.now (secret_in 3)) (station_rest c.args.hash.now c.args.seed.now) c.in-Err.refused _ _ c.in-Err.ensures
