-- The plans before have their forms.
use Rattle.std.proofs.Common.{All, take}
use Rattle.world_moves.specs.Forms.{IsStationPlan}
use Rattle.world_moves.proofs.forms.stations_have_forms.Given as goal

abbrev pub invariant-loop-plan : goal.invariant-loop-plan
invariant-loop-plan l = All IsStationPlan (take l.plan-index l.plans)
