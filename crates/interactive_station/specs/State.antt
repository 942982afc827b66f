-- The state of a station.
use Rattle.std.specs.Prelude.{Option}
use Rattle.interactive_station.specs.declared.outcome.StationOutcome.{StationOutcome}
use Rattle.interactive_station.specs.declared.state.StationRunning.{StationRunning}

pub record StationState : Type 0 where
  -- none once it is stopped
  pub running : Option StationRunning
  pub outcome : Option StationOutcome
