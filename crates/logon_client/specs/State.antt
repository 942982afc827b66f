-- The state of a client.
use Rattle.std.specs.Prelude.{Option}
use Rattle.logon_client.specs.declared.outcome.ClientOutcome.{ClientOutcome}
use Rattle.logon_client.specs.declared.state.Running.{Running}

pub record State : Type 0 where
  -- none once it is stopped
  pub running : Option Running
  pub outcome : Option ClientOutcome
