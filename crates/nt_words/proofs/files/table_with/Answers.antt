use Rattle.nt_words.proofs.FileLaws.{secrets-refused}
use Rattle.nt_words.proofs.files.table_with.Goals as goal

pub returns-in-Err : goal.returns-in-Err
returns-in-Err c = secrets-refused _ _ _ c.apply_refused.ensures c.in-Err.ensures.refused
