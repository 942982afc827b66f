use Rattle.nt_words.proofs.FileLaws.{read-Err}
use Rattle.nt_words.proofs.files.read_file.Goals as goal

pub returns-in-Err : goal.returns-in-Err
returns-in-Err g c =
    read-Err c.args.number c.args.name.now c.as_bytes.result.now c.in-Err.refused _ _ _ c.as_bytes.ensures.value c.file_refused.ensures c.in-Err.ensures.content c.in-Err.ensures.faults
    c.in-Err.ensures.contents c.in-Err.ensures.told c.in-Err.ensures.writes c.in-Err.ensures.cause
