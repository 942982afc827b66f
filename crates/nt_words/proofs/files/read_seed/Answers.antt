use Rattle.nt_words.specs.Files.{content_due, seed_in}
use Rattle.nt_words.proofs.FileLaws.{judges, seed_judged}
use Rattle.nt_words.proofs.files.read_seed.Goals as goal

pub returns-in-Ok : goal.returns-in-Ok
returns-in-Ok g c =
    judges c.args.number c.args.name.now (content_due c.args.number c.args.name.now) (seed_in c.args.number) c.in-Ok.content _ _ _ c.in-Ok.ensures (seed_judged _ _ _ (rw c.bytes.ensures at c.seed_from.ensures))
