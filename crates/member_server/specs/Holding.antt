-- The bytes that a member holds, between its steps (this project's own choice): the rests of the streams of its links,
-- the stub bytes of open calls, and the requests that wait.
use Rattle.std.specs.Prelude.{ℕ, ◌+◌, ◌*◌, Option, Some, None}
use Rattle.rpc_units.specs.Joining.{open_len}
use Rattle.rpc_units.specs.Stream.{rest_limit}
use Rattle.end_links.specs.Links.{held_by, open_limit}
use Rattle.channel_turns.specs.Turning.{bytes_of}
use Rattle.member_server.specs.declared.state.Phase.{Phase}
use Rattle.member_server.specs.declared.state.Phase.TheVariants as phase
use Rattle.member_server.specs.declared.state.Running.{Running}
use Rattle.member_server.specs.declared.state.Talk.{Talk}
use Rattle.member_server.specs.Held.{held_limit, held_size}
use Rattle.member_server.specs.State.{State}

abbrev pub bytes_in : Phase → ℕ
bytes_in phase.Fresh = 0
bytes_in (phase.Challenged bound challenge flags) = 0
bytes_in (phase.Asked bound place held) = held_size held
bytes_in (phase.In on) = 0
bytes_in (phase.Out bound status) = 0

abbrev pub talk_bytes : Talk → ℕ
talk_bytes talk = open_len talk.joiner + bytes_in talk.phase

abbrev pub held_by_running : Option Running → ℕ
held_by_running None = 0
held_by_running (Some running) = held_by talk_bytes running.links + bytes_of running.dialling

abbrev pub held_of : State → ℕ
held_of s = held_by_running s.running

-- ---- the most of it

-- what is said on an accepted link holds the open call, and the requests that wait
abbrev pub talk_limit : ℕ
talk_limit = open_limit + held_limit

-- A member holds what 256 accepted links hold, and on the link of its turn the rest of the stream and an open reply.
abbrev pub holding_limit : ℕ
holding_limit = 256 * (rest_limit + talk_limit) + (rest_limit + open_limit)
