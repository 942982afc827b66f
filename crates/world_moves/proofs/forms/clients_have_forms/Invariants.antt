-- The clients before the one that is looked at have their forms.
use Rattle.std.proofs.Common.{All, take}
use Rattle.world_moves.specs.Forms.{IsClientPlan}
use Rattle.world_moves.proofs.forms.clients_have_forms.Given as goal

abbrev pub invariant-loop-plan : goal.invariant-loop-plan
invariant-loop-plan l = All IsClientPlan (take l.plan-index l.plans)
