use Rattle.std.proofs.Common.{◌≡◌, ◌∷◌, ◌++◌, [], ◌∙◌, ap}
use Rattle.std.specs.Vec.Iter.{into_iter_items}
use Rattle.interactive_station.specs.Plans.{CanStation}
use Rattle.world_moves.proofs.MakingLaws.{all_rest, one_more}
use Rattle.world_moves.proofs.making.station_tasks_of.Goals as goal

pub loop-plan-preserved : goal.loop-plan-preserved
loop-plan-preserved c =
    let pushed : c.push.new.self ≡ c.loop-plan.tasks ++ c.in-Some.plan ∷ [] =
    c.in_ok-push.ensures.appended ∙ ap (λ plan. c.loop-plan.tasks ++ plan ∷ []) c.new.ensures in (
      ap (λ tasks. tasks ++ into_iter_items c.next.new.self) pushed
          ∙ one_more c.loop-plan.tasks (into_iter_items c.next.new.self) (into_iter_items c.loop-plan.plan-iterator) c.args.plans c.in-Some.plan
          c.loop-plan.invariant.0 c.in-Some.ensures.steps.0,
      all_rest CanStation (into_iter_items c.next.new.self) (into_iter_items c.loop-plan.plan-iterator) c.in-Some.plan c.in-Some.ensures.steps.0 c.loop-plan.invariant.1,
    )
