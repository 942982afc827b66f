-- What a member at work on an accepted link does: its actions, and what becomes of the link (this project's own
-- choice).
use Rattle.std.specs.Prelude.{ℕ, List, [], ◌∷◌, ◌++◌, Option, Some, None, Result, Ok}
use Rattle.outside.specs.declared.action.Action.{Action}
use Rattle.outside.specs.declared.action.Action.TheVariants as action
use Rattle.outside.specs.declared.action.CloseCause.{CloseCause}
use Rattle.outside.specs.declared.action.StepRefused.{StepRefused}
use Rattle.outside.specs.Machine.{Part}
use Rattle.rpc_units.specs.declared.unit.Unit.{Unit as RpcUnit}
use Rattle.rpc_units.specs.Writing.{written}
use Rattle.member_server.specs.declared.state.AtLink.{AtLink}
use Rattle.member_server.specs.declared.state.Logons.{Logons}
use Rattle.member_server.specs.declared.state.Talk.{Talk}

-- ---- actions

abbrev pub tell : AtLink → Action → AtLink
tell at what = record at { actions = at.actions ++ what ∷ [] }

abbrev pub send : AtLink → List ℕ → AtLink
send at bytes = tell at (action.Send at.link bytes)

abbrev pub send_unit : AtLink → RpcUnit → AtLink
send_unit at unit = send at (written unit)

abbrev pub with_logons : AtLink → Logons → AtLink
with_logons at logons = record at { logons = logons }

-- ---- what a unit comes to: the member afterwards, and what is said on the link, or None where it is closed

abbrev pub Served : Type 0
Served = AtLink × Option Talk

abbrev pub stay : AtLink → Talk → Served
stay at talk = (at, Some talk)

abbrev pub shut : CloseCause → AtLink → Served
shut cause at = (tell at (action.Close at.link cause), None)

-- what is served where no challenge is drawn
abbrev pub ServedPart : Type 0
ServedPart = Result (Part Served) StepRefused

abbrev pub drawless : Served → List (List ℕ) → ServedPart
drawless served left = Ok (record { value = served; left = left })
