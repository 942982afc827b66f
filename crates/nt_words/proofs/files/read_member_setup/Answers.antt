use Rattle.std.proofs.Common.{[], ◌∷◌, Ok, Some}
use Rattle.nt_words.specs.Files.{file_due, secret_in}
use Rattle.nt_words.proofs.FileLaws.{stops}
use Rattle.nt_words.proofs.files.read_member_setup.Goals as goal

pub returns-in-Err : goal.returns-in-Err
returns-in-Err g c =
    stops ((9, c.args.name.now) ∷ []) [] (file_due 9 c.args.name.now (secret_in 9)) (λ secret files. Ok (record { secrets = c.args.secrets; seed = c.args.seed; change = Some secret })) c.in-Err.refused _ _ c.in-Err.ensures
