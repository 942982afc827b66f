use Rattle.nt_words.specs.Files.{content_due, secrets_in}
use Rattle.nt_words.proofs.FileLaws.{judges}
use Rattle.nt_words.proofs.files.read_secrets.Goals as goal

pub returns-in-Ok : goal.returns-in-Ok
returns-in-Ok g c =
    judges 7 c.args.name.now (content_due 7 c.args.name.now) (secrets_in 7 c.args.table) c.in-Ok.content _ _ _ c.in-Ok.ensures (rw c.bytes.ensures at c.table_with.ensures)
