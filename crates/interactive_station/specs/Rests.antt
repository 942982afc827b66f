-- That no challenge is drawn for a unit on a station's link.
use Rattle.std.specs.Prelude.{ℕ, ◌+◌, ◌≤◌, List, [], length, Option, Some, None, refl}
use Rattle.rpc_units.specs.Reading.{unit_of}
use Rattle.end_links.specs.Bounds.{ServerDrawsFew, extra_on}
use Rattle.end_links.specs.Serving.{ServerLeavesRest}
use Rattle.end_links.proofs.BoundLaws.{nothing_drawn, none_fewer}
use Rattle.interactive_station.specs.declared.state.StationTalk.{StationTalk}
use Rattle.interactive_station.specs.Machine.{hear_unit, station_server}

-- all that were left are left
pub station_leaves : ServerLeavesRest station_server
station_leaves = record {
  unit = λ bytes work talk left. record { front = []; is = refl };
  refusal = λ why work talk left. record { front = []; is = refl };
}

none_drawn : (said : Option StationTalk) (left : List (List ℕ)) → length left + extra_on (λ (talk : StationTalk). 0) said ≤ length left + 1 + 0
none_drawn None left = nothing_drawn (length left) 0
none_drawn (Some talk) left = nothing_drawn (length left) 0

pub station_few : ServerDrawsFew station_server (λ talk. 0)
station_few = record {
  unit = λ bytes work talk left. none_drawn (hear_unit (unit_of bytes) talk work).1 left;
  refusal = λ why work talk left. none_fewer (length left);
}
