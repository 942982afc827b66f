-- What a controller keeps (this project's own choice).
use Rattle.std.specs.Prelude.{ℕ, List, Option}
use Rattle.account_table.specs.AccountTable.{AccountTable}
use Rattle.domain_controller.specs.declared.state.Running.{Running}
use Rattle.domain_controller.specs.declared.trusting.Trusting.{Trusting}

pub record State : Type 0 where
  -- the accounts of the domain
  pub table : AccountTable
  -- the controller's own name
  pub name : List ℕ
  -- what is kept of computers and links; None once the controller has stopped
  pub running : Option Running
  -- what is kept of logons that are asked of the controllers of trusted domains; nothing once it has stopped
  pub trusting : Trusting
