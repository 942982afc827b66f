use Rattle.std.proofs.Common.{rules, arith}
use Rattle.end_loop.proofs.Putting.{IsPut-step, IsPut-front}
use Rattle.end_loop.proofs.put.put_all.Goals as goal

pub returns-in_err-count-clause-front : goal.returns-in_err-count-clause-front
returns-in_err-count-clause-front g c =
    let put = IsPut-step _ _ _ _ _ 0 c.loop-rest.invariant.put c.in_err-count.ensures.told in
    let front = IsPut-front _ _ _ _ put in search rules

pub loop-rest-preserved : goal.loop-rest-preserved
loop-rest-preserved g c = record {
  put = rw c.split_at.ensures.back (IsPut-step _ _ _ _ _ c.in_ok-count.count c.loop-rest.invariant.put c.in_ok-count.ensures.told);
  faults = omega arith;
}
