use Rattle.nt_words.specs.Files.{content_due, secret_in}
use Rattle.nt_words.proofs.FileLaws.{judges, secret_judged}
use Rattle.nt_words.proofs.files.read_secret.Goals as goal

pub returns-in-Ok : goal.returns-in-Ok
returns-in-Ok g c =
    judges c.args.number c.args.name.now (content_due c.args.number c.args.name.now) (secret_in c.args.number) c.in-Ok.content _ _ _ c.in-Ok.ensures (secret_judged _ _ _ (rw c.bytes.ensures at c.secret_from.ensures))
