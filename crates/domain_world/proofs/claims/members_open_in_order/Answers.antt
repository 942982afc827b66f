use Rattle.domain_world.proofs.claims.members_open_in_order.Goals as goal
use Rattle.domain_world.proofs.Apart.OrderMoveLaws.{members_in_order}

-- src/claims.rt:79:1
pub returns : goal.returns
returns c = members_in_order
