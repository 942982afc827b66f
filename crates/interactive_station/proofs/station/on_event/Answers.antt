use Rattle.std.proofs.Common.{ap, ◌∙◌}
use Rattle.outside.specs.declared.event.Event.TheVariants as event
use Rattle.interactive_station.specs.Machine.{by_event}
use Rattle.interactive_station.proofs.station.on_event.Goals as goal

pub returns-in-Closed-On-clause-answer : goal.returns-in-Closed-On-clause-answer
returns-in-Closed-On-clause-answer g c =
    let left = (g.Q.Chances.drawing c.args.chances.now).left in
    let arm = c.in-Closed-On in
    ap (λ e. by_event e c.args.standing c.args.work left) arm.is-0
    ∙ ap (λ s. by_event (event.Closed arm.number) s c.args.work left) arm.is-1
    ∙ c.on_close.ensures left

pub returns-in-Opened-On-clause-answer : goal.returns-in-Opened-On-clause-answer
returns-in-Opened-On-clause-answer g c =
    let left = (g.Q.Chances.drawing c.args.chances.now).left in
    let arm = c.in-Opened-On in
    ap (λ e. by_event e c.args.standing c.args.work left) arm.is-0
    ∙ ap (λ s. by_event (event.Opened arm.number) s c.args.work left) arm.is-1
    ∙ c.on_close-in-Opened-On.ensures left
