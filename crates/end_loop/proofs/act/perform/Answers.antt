use Rattle.std.proofs.Common.{arith, ◌<◌, length}
use Rattle.end_loop.proofs.ActLaws.{more_performed, cut_performed}
use Rattle.end_loop.proofs.RunLaws.{err_exit}
use Rattle.end_loop.proofs.act.perform.Goals as goal

pub returns-in_err-act-clause-err : goal.returns-in_err-act-clause-err
returns-in_err-act-clause-err g c =
    let below : c.loop-action.action-index < length c.args.actions.now = omega arith in
    err_exit _ _ _ c.from_residual.ensures.1 (_, cut_performed _ _ _ _ _ c.action-item.result _ _ _ below c.action-item.is c.loop-action.invariant.performed c.in_err-act.ensures.err)

pub loop-action-preserved : goal.loop-action-preserved
loop-action-preserved g c =
    let below : c.loop-action.action-index < length c.args.actions.now = omega arith in
    record {
      performed = more_performed _ _ _ _ c.action-item.result _ _ _ below c.action-item.is c.loop-action.invariant.performed c.in_ok-act.ensures.ok;
      sink = omega arith;
      files = omega arith;
      port = cc;
      links = omega arith;
    }
