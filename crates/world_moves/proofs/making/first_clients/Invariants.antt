use Rattle.std.proofs.Common.{◌≡◌, map, take}
use Rattle.logon_client.specs.Machine.{fresh_client}
use Rattle.world_moves.proofs.making.first_clients.Given as goal

-- the clients so far
abbrev pub invariant-loop-task : goal.invariant-loop-task
invariant-loop-task l = l.clients.items ≡ map fresh_client (take l.task-index l.task-items)
