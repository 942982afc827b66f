use Rattle.std.proofs.Common.{◌≤◌, length}
use Rattle.end_loop.proofs.Putting.{IsPut}
use Rattle.end_loop.proofs.put.put_all.Given as goal

abbrev pub invariant-loop-rest : goal.invariant-loop-rest
invariant-loop-rest g l = record {
  put : IsPut (g.S.Sink.taken l.initial.out) (g.S.Sink.taken l.out) l.bytes l.rest;
  faults : g.S.Sink.faults l.initial.out ≤ g.S.Sink.faults l.out;
}

abbrev pub decreases-loop-rest : goal.decreases-loop-rest
decreases-loop-rest g l = length l.rest
