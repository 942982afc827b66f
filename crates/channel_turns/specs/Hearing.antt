-- A unit on a link that an end dialled, before anybody judges it: it is read, and its fragments are joined (C706
-- 12.6.2). For which cause a refusal closes the link is this project's own choice.
use Rattle.std.specs.Prelude.{Option, Some, None, Result, Ok, Err}
use Rattle.outside.specs.declared.action.CloseCause.TheVariants as close
use Rattle.rpc_units.specs.declared.refused.JoinRefused.{JoinRefused}
use Rattle.rpc_units.specs.declared.refused.JoinRefused.TheVariants as join
use Rattle.rpc_units.specs.declared.refused.UnitRefused.{UnitRefused}
use Rattle.rpc_units.specs.declared.unit.Unit.{Unit as RpcUnit}
use Rattle.rpc_units.specs.Joining.{answer_of, open_after}
use Rattle.channel_turns.specs.declared.hearing.Heard.{Heard}
use Rattle.channel_turns.specs.declared.hearing.Heard.TheVariants as heard

-- a fragment that was joined: what joining answers, and what is open then. `Memory` is no answer of `answer_of`, and
-- its line says nothing
abbrev pub heard_by : Result (Option RpcUnit) JoinRefused → Option RpcUnit → Heard
heard_by (Err join.OutOfPlace) after = heard.Broken close.OutOfPlace
heard_by (Err join.CallTooLong) after = heard.Broken close.TooMuchHeld
heard_by (Err join.Memory) after = heard.Broken close.OutOfPlace
heard_by (Ok None) after = heard.Waits after
heard_by (Ok (Some unit)) after = heard.Whole unit after

-- what a unit comes to, by how it is read and by the fragments before it
abbrev pub heard_of : (unit : Result RpcUnit UnitRefused) (joiner : Option RpcUnit) → Heard
heard_of (Err why) joiner = heard.Broken close.BadUnit
heard_of (Ok unit) joiner = heard_by (answer_of joiner unit) (open_after joiner unit)
