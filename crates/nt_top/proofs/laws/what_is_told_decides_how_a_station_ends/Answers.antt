use Rattle.nt_top.proofs.StationLaws.{station_laws}
use Rattle.nt_top.proofs.laws.what_is_told_decides_how_a_station_ends.Goals as goal

pub returns : goal.returns
returns c = station_laws
