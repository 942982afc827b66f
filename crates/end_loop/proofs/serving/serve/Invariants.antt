use Rattle.std.proofs.Common.{◌≡◌, ◌≤◌, ◌-◌, [], false, option_copied}
use Rattle.end_loop.specs.Seen.{sight_of}
use Rattle.end_loop.specs.Writing.{files_told}
use Rattle.end_loop.specs.Runs.{Ran, run_state_at, idle_at}
use Rattle.end_loop.proofs.serving.serve.Given as goal

abbrev pub invariant-loop-asked : goal.invariant-loop-asked
invariant-loop-asked g l =
    let told = files_told g.F.Files.contents g.F.Files.reads g.F.Files.writes in
    let before = sight_of g.P.Port.story g.P.Port.link_faults g.C.Clock.moments g.Q.Chances.drawing g.S.Sink.taken told l.fn.port l.fn.clock l.fn.chances l.fn.out l.fn.files in
    let now = sight_of g.P.Port.story g.P.Port.link_faults g.C.Clock.moments g.Q.Chances.drawing g.S.Sink.taken told l.port l.clock l.chances l.out l.files in
    record {
      ran : Ran g.E.End.machine (option_copied l.file) (run_state_at l.fn.end l.fn.queue.items before) (idle_at l.end now) l.asked before now;
      running : g.E.End.is_stopped l.end ≡ false;
      idle : l.queue.items ≡ [];
      within : l.asked ≤ l.most;
      sink : g.S.Sink.faults l.fn.out ≤ g.S.Sink.faults l.out;
      files : g.F.Files.faults l.fn.files ≤ g.F.Files.faults l.files;
      port : g.P.Port.faults l.fn.port ≤ g.P.Port.faults l.port;
      links : g.P.Port.link_faults l.fn.port ≤ g.P.Port.link_faults l.port;
    }

abbrev pub decreases-loop-asked : goal.decreases-loop-asked
decreases-loop-asked g l = l.most - l.asked
