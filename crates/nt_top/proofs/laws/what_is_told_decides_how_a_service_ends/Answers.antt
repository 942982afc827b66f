use Rattle.nt_top.proofs.ServingLaws.{service_laws}
use Rattle.nt_top.proofs.laws.what_is_told_decides_how_a_service_ends.Goals as goal

pub returns : goal.returns
returns g c = service_laws g.E.End.machine
