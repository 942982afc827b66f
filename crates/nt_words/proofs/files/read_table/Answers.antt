use Rattle.nt_words.specs.Files.{content_due, table_in}
use Rattle.nt_words.proofs.FileLaws.{judges}
use Rattle.nt_words.proofs.files.read_table.Goals as goal

pub returns-in-Ok : goal.returns-in-Ok
returns-in-Ok g c =
    judges 3 c.args.name.now (content_due 3 c.args.name.now) table_in c.in-Ok.content _ _ _ c.in-Ok.ensures (rw c.bytes.ensures at c.table_from.ensures)
