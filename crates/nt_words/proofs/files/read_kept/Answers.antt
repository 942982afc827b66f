use Rattle.nt_words.specs.Files.{content_due, kept_in}
use Rattle.nt_words.proofs.FileLaws.{judges, kept_judged}
use Rattle.nt_words.proofs.files.read_kept.Goals as goal

pub returns-in-Ok : goal.returns-in-Ok
returns-in-Ok g c =
    judges 4 c.args.name.now (content_due 4 c.args.name.now) (kept_in 4) c.in-Ok.content _ _ _ c.in-Ok.ensures (kept_judged _ _ _ (rw c.bytes.ensures at c.kept_from.ensures))
