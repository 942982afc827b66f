use Rattle.end_links.proofs.ServingLaws.{units_served}
use Rattle.end_links.proofs.laws.units_are_served_in_order.Goals as goal

pub returns : goal.returns
returns g c = units_served
