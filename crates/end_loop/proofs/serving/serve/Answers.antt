use Rattle.std.proofs.Common.{arith, inl, inr, ◌≡◌, true, sym, ◌∙◌}
use Rattle.end_loop.proofs.RunLaws.{begin_cut, ended, turned_cut, turned_more}
use Rattle.end_loop.proofs.serving.serve.Goals as goal

pub returns-in-Err-clause-halts : goal.returns-in-Err-clause-halts
returns-in-Err-clause-halts g c = begin_cut _ _ _ _ _ _ _ c.in-Err.ensures.part

pub returns-then-is_over-clause-ends : goal.returns-then-is_over-clause-ends
returns-then-is_over-clause-ends g c =
    let over : g.E.End.machine.is_over c.loop-asked.end ≡ true = sym c.is_over.ensures ∙ c.if-is_over.true in
    ended _ _ _ _ _ _ _ _ c.loop-asked.invariant.ran (omega arith) (inl over)

pub returns-in-Err-turn-clause-halts : goal.returns-in-Err-turn-clause-halts
returns-in-Err-turn-clause-halts g c = turned_cut _ _ _ _ _ _ _ _ _ _ c.loop-asked.invariant.ran (omega arith) c.in-Err-turn.ensures.halts

pub loop-asked-preserved : goal.loop-asked-preserved
loop-asked-preserved g c = record {
  ran = turned_more _ _ _ _ _ _ _ _ _ _ c.loop-asked.invariant.ran c.if-stop.false c.in-Ok-turn.ensures.turns;
  running = c.in-Ok-turn.ensures.stopped;
  idle = c.in-Ok-turn.ensures.idle;
  within = omega arith;
  sink = omega arith;
  files = omega arith;
  port = omega arith;
  links = omega arith;
}

pub returns-clause-ends : goal.returns-clause-ends
returns-clause-ends g c =
    let all : c.loop-asked.asked ≡ c.args.most = omega arith in
    ended _ _ _ _ _ _ _ _ c.loop-asked.invariant.ran (omega arith) (inr all)
