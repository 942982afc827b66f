use Rattle.std.proofs.Common.{◌≡◌, ◌≤◌, [], take, option_copied}
use Rattle.end_loop.specs.Acts.{puts, loop_of, Performed}
use Rattle.end_loop.specs.Writing.{files_told}
use Rattle.end_loop.proofs.act.perform.Given as goal

abbrev pub invariant-loop-action : goal.invariant-loop-action
invariant-loop-action g l = record {
  performed : Performed (puts g.E.End.machine) (option_copied l.file) (take l.action-index l.actions)
      (loop_of g.P.Port.story g.P.Port.link_faults g.S.Sink.taken (files_told g.F.Files.contents g.F.Files.reads g.F.Files.writes) l.fn.port l.fn.out l.fn.files [] l.fn.queue.items)
      (loop_of g.P.Port.story g.P.Port.link_faults g.S.Sink.taken (files_told g.F.Files.contents g.F.Files.reads g.F.Files.writes) l.port l.out l.files l.failed.items l.queue.items);
  sink : g.S.Sink.faults l.fn.out ≤ g.S.Sink.faults l.out;
  files : g.F.Files.faults l.fn.files ≤ g.F.Files.faults l.files;
  port : g.P.Port.faults l.port ≡ g.P.Port.faults l.fn.port;
  links : g.P.Port.link_faults l.fn.port ≤ g.P.Port.link_faults l.port;
}
