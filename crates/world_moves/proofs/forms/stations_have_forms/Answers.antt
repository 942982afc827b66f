use Rattle.std.proofs.Common.{All, arith, subst}
use Rattle.std.proofs.lemmas.List.{take_all}
use Rattle.std.proofs.lemmas.List.Elements.{All-more}
use Rattle.world_moves.specs.Forms.{IsStationPlan}
use Rattle.world_moves.proofs.forms.stations_have_forms.Goals as goal

pub loop-plan-preserved : goal.loop-plan-preserved
loop-plan-preserved c =
    All-more IsStationPlan c.args.plans.now c.loop-plan.plan-index c.plan-item.result c.loop-plan-test.true c.loop-plan.invariant (rw (← c.plan-item.is) c.station_has_form.ensures)

pub returns : goal.returns
returns c =
    subst (All IsStationPlan) (take_all c.loop-plan.plan-index c.args.plans.now (omega (arith, c.loop-plan-test.false))) c.loop-plan.invariant
