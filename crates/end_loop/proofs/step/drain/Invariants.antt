use Rattle.std.proofs.Common.{◌≡◌, ◌≤◌, ◌+◌, true, false, length, option_copied}
use Rattle.end_loop.specs.Acts.{are_made}
use Rattle.end_loop.specs.Seen.{sight_of}
use Rattle.end_loop.specs.Writing.{files_told}
use Rattle.end_loop.specs.Runs.{Ran, run_state_at}
use Rattle.end_loop.proofs.step.drain.Given as goal

abbrev pub invariant-loop-event : goal.invariant-loop-event
invariant-loop-event g l =
    let told = files_told g.F.Files.contents g.F.Files.reads g.F.Files.writes in
    let before = sight_of g.P.Port.story g.P.Port.link_faults g.C.Clock.moments g.Q.Chances.drawing g.S.Sink.taken told l.fn.port l.fn.clock l.fn.chances l.fn.out l.fn.files in
    let now = sight_of g.P.Port.story g.P.Port.link_faults g.C.Clock.moments g.Q.Chances.drawing g.S.Sink.taken told l.port l.clock l.chances l.out l.files in
    record {
      ran : Ran g.E.End.machine (option_copied l.file) (run_state_at l.fn.end l.fn.queue.items before) (run_state_at l.end l.queue.items now) 0 before now;
      running : g.E.End.is_stopped l.end ≡ false;
      made : are_made l.queue.items ≡ true;
      sink : g.S.Sink.faults l.fn.out ≤ g.S.Sink.faults l.out;
      files : g.F.Files.faults l.fn.files ≤ g.F.Files.faults l.files;
      port : g.P.Port.faults l.port ≡ g.P.Port.faults l.fn.port;
      links : g.P.Port.link_faults l.fn.port ≤ g.P.Port.link_faults l.port;
    }

abbrev pub decreases-loop-event : goal.decreases-loop-event
decreases-loop-event g l = length l.queue.items + g.E.End.pending l.end
