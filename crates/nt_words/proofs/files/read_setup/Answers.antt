use Rattle.std.proofs.Common.{[], ◌∷◌, Ok}
use Rattle.nt_words.specs.Files.{file_due, secrets_in}
use Rattle.nt_words.proofs.FileLaws.{stops}
use Rattle.nt_words.proofs.files.read_setup.Goals as goal

pub returns-in-Err : goal.returns-in-Err
returns-in-Err g c =
    stops ((7, c.args.name.now) ∷ []) [] (file_due 7 c.args.name.now (secrets_in 7 c.args.table)) (λ changed files. Ok (record { table = changed; seed = c.args.seed })) c.in-Err.refused _ _ c.in-Err.ensures
