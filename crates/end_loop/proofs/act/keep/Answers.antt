use Rattle.end_loop.proofs.WritingLaws.{named_ok, named_err, unnamed_ok}
use Rattle.end_loop.proofs.act.keep.Goals as goal

pub returns-in-Some-clause-ok : goal.returns-in-Some-clause-ok
returns-in-Some-clause-ok g c = named_ok _ _ _ _ _ c.write.result (cc) c.write.ensures.writes

pub returns-in-Some-clause-err : goal.returns-in-Some-clause-err
returns-in-Some-clause-err g c = named_err _ _ _ _ _ c.write.result (cc) c.write.ensures.writes

pub returns-in-None-clause-ok : goal.returns-in-None-clause-ok
returns-in-None-clause-ok g c = unnamed_ok _ _ _ (cc)
