use Rattle.std.proofs.Common.{◌≡◌, map, take}
use Rattle.member_server.specs.SealStep.{sealing_member}
use Rattle.world_moves.proofs.making.first_members.Given as goal

-- the members so far
abbrev pub invariant-loop-plan : goal.invariant-loop-plan
invariant-loop-plan l = l.members.items ≡ map sealing_member (take l.plan-index l.plan-items)
