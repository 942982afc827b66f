use Rattle.std.proofs.Common.{arith}
use Rattle.nt_words.specs.Files.{shelf_of}
use Rattle.nt_top.proofs.ServeLaws.{follows_err, follows_ok}
use Rattle.nt_top.proofs.WritesLaws.{read_into}
use Rattle.nt_top.proofs.service.read_and_serve.Goals as goal

pub returns-in-Ok-clause-reads : goal.returns-in-Ok-clause-reads
returns-in-Ok-clause-reads g c = record {
  setup = c.set_up.result;
  shelf_read = shelf_of g.F.Files.faults g.F.Files.contents g.F.Files.reads g.F.Files.writes c.set_up.new.files;
  reads = c.set_up.ensures.files;
  faults = c.serve_by.ensures.files;
  is_of_service = c.set_up.ensures.words;
  follows = follows_ok c.set_up.result _ _ _ _ c.in-Ok.is c.serve_by.ensures.serves;
}

pub returns-in-Err-clause-reads : goal.returns-in-Err-clause-reads
returns-in-Err-clause-reads g c = record {
  setup = c.set_up.result;
  shelf_read = shelf_of g.F.Files.faults g.F.Files.contents g.F.Files.reads g.F.Files.writes c.set_up.new.files;
  reads = c.set_up.ensures.files;
  faults = omega arith;
  is_of_service = c.set_up.ensures.words;
  follows = follows_err c.set_up.result _ _ _ c.in-Err.is c.exit_of_files.ensures.exit;
}

pub returns-in-Ok-clause-writes : goal.returns-in-Ok-clause-writes
returns-in-Ok-clause-writes g c = read_into c.args.service _ _ _ _ _ (returns-in-Ok-clause-reads g c)

pub returns-in-Err-clause-writes : goal.returns-in-Err-clause-writes
returns-in-Err-clause-writes g c = read_into c.args.service _ _ _ _ _ (returns-in-Err-clause-reads g c)
