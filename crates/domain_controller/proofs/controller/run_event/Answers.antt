use Rattle.std.proofs.Common.{ap, sym, ◌∙◌}
use Rattle.account_table.specs.Changes.{with_changes}
use Rattle.domain_controller.specs.TrustStep.{by_trust_event}
use Rattle.domain_controller.specs.declared.trusting.Parts.{Parts}
use Rattle.domain_controller.proofs.TrustStepLaws.{few_then, none_asked}
use Rattle.domain_controller.proofs.controller.run_event.Goals as goal
use Rattle.end_links.specs.Bounds.{units_at}

pub returns-clause-few_alone : goal.returns-clause-few_alone
returns-clause-few_alone g c = λ nobody.
    let drawing = g.Q.Chances.drawing in
    let old = with_changes c.args.changes.now c.args.table.now in
    let table = with_changes c.answer_event.new.changes c.args.table.now in
    let first = (drawing c.args.chances.now).left in
    let between = (drawing c.answer_event.new.chances).left in
    let is = ap (λ (parts : Parts). by_trust_event c.args.event.now c.args.name.now c.args.now old parts first) (sym c.all_parts-parts.ensures) ∙ c.in-Ok.ensures.answer in
    few_then (units_at c.args.event.now) first between (drawing c.next_turn.new.chances).left c.in-Ok.ensures.few
    (c.next_turn.ensures.undrawn (none_asked c.args.running c.args.trusting c.args.event.now c.args.name.now c.args.now old table c.in-Ok.parts first between nobody is))
