use Rattle.std.proofs.Common.{arith, ap, length, refl}
use Rattle.end_loop.proofs.RunLaws.{popped, first_made, drain_step, drain_cut, Ran-none, err_exit}
use Rattle.end_loop.proofs.step.drain.Goals as goal

pub loop-event-preserved : goal.loop-event-preserved
loop-event-preserved g c =
    let first = popped _ _ _ _ c.pop_front.ensures.items c.in-Some.is in
    let made = first_made _ _ _ first c.loop-event.invariant.made in
    record {
      ran = drain_step _ _ _ _ _ _ _ _ _ _ _ _ c.loop-event.invariant.ran first c.in_ok-step_event.ensures.made;
      running = c.in_ok-step_event.ensures.goes_on;
      made = c.in_ok-step_event.ensures.waiting made.1;
      sink = omega arith;
      files = omega arith;
      port = cc;
      links = omega arith;
    }

pub loop-event-smaller : goal.loop-event-smaller
loop-event-smaller g c =
    let first = popped _ _ _ _ c.pop_front.ensures.items c.in-Some.is in
    let made = first_made _ _ _ first c.loop-event.invariant.made in
    let settles = c.in_ok-step_event.ensures.settles made.0 in
    let longer = ap length first in
    omega (arith, settles, longer)

pub loop-event-init : goal.loop-event-init
loop-event-init g c = record { ran = Ran-none _ _ _ _; running = c.requires.running; made = c.requires.made; sink = omega arith; files = omega arith; port = refl; links = omega arith }

pub returns-in_err-step_event-clause-part : goal.returns-in_err-step_event-clause-part
returns-in_err-step_event-clause-part g c =
    let first = popped _ _ _ _ c.pop_front.ensures.items c.in-Some.is in
    err_exit _ _ _ c.from_residual.ensures.1 (drain_cut _ _ _ _ _ _ _ _ _ _ _ c.loop-event.invariant.ran first c.in_err-step_event.ensures.part)
