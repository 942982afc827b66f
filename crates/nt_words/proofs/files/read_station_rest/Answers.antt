use Rattle.std.proofs.Common.{[], ◌∷◌, Ok}
use Rattle.nt_words.specs.Files.{SecretFiles, secret_files}
use Rattle.nt_words.proofs.FileLaws.{stops}
use Rattle.nt_words.proofs.files.read_station_rest.Goals as goal

pub returns-in-Err : goal.returns-in-Err
returns-in-Err g c =
    stops ((6, c.args.hash.now) ∷ (7, c.args.seed.now) ∷ []) [] (secret_files 6 c.args.hash.now 7 c.args.seed.now)
    (λ (found : SecretFiles) files. Ok (record { secret = c.args.secret; hash = found.secret; seed = found.seed })) c.in-Err.refused _ _ c.in-Err.ensures
