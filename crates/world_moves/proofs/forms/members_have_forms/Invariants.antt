-- The members before the one that is looked at have their forms.
use Rattle.std.proofs.Common.{All, take}
use Rattle.world_moves.specs.Forms.{IsMemberPlan}
use Rattle.world_moves.proofs.forms.members_have_forms.Given as goal

abbrev pub invariant-loop-plan : goal.invariant-loop-plan
invariant-loop-plan l = All IsMemberPlan (take l.plan-index l.plans)
