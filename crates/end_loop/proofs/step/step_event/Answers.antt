use Rattle.std.proofs.Common.{rules, Err, ap, ◌∙◌}
use Rattle.end_loop.proofs.RunLaws.{err_part, MadePart-memory, MadePart-spent, ok_settles, ok_waits, acts_steps}
use Rattle.end_loop.proofs.step.step_event.Goals as goal

pub returns-in-Err-Spent-clause-part : goal.returns-in-Err-Spent-clause-part
returns-in-Err-Spent-clause-part g c =
    MadePart-spent _ _ _ _ _ c.now-now.result _ _ _ _ _ _ _ _ c.now-now.ensures.told (c.step.ensures.spent (c.in-Err-Spent.is ∙ ap Err c.in-Err-Spent.field-0-is))

pub returns-in-Err-Memory-clause-part : goal.returns-in-Err-Memory-clause-part
returns-in-Err-Memory-clause-part g c =
    MadePart-memory _ _ _ _ c.now-now.result _ _ _ _ _ _ _ _ c.now-now.ensures.told (c.step.ensures.memory (c.in-Err-Memory.is ∙ ap Err c.in-Err-Memory.field-0-is))

pub returns-clause-part : goal.returns-clause-part
returns-clause-part g c =
    err_part _ _ _ c.step.new.self _ c.now-now.result _ c.items.result.now _ _ _ _ _ _ _ _ _ _ _ _ _ _ c.perform.result (search rules) c.now-now.ensures.told c.in-Ok.ensures.step c.perform.ensures.kinds c.perform.ensures.err

pub returns-clause-settles : goal.returns-clause-settles
returns-clause-settles g c =
    ok_settles g.E.End.machine _ _ c.items.result.now _ _ _ _ _ _ _ _ _ _ _ _ _ c.perform.result (search rules) c.in-Ok.ensures.settles c.perform.ensures.ok

pub returns-clause-waiting : goal.returns-clause-waiting
returns-clause-waiting g c =
    ok_waits g.E.End.machine _ c.items.result.now _ _ _ _ _ _ _ _ _ _ c.perform.result c.perform.ensures.ok

pub returns-clause-kinds : goal.returns-clause-kinds
returns-clause-kinds g c = acts_steps c.perform.result c.perform.ensures.kinds
