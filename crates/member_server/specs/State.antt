-- What a member keeps (this project's own choice).
use Rattle.std.specs.Prelude.{Option}
use Rattle.member_server.specs.declared.state.Running.{Running}

pub record State : Type 0 where
  -- None once a step was given up
  pub running : Option Running
