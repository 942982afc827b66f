-- What bounds the counts of a world: what its ends can still tell by what they keep (this project's own choice).
use Rattle.std.specs.Prelude.{ℕ, ◌+◌, ◌*◌, ◌≤◌, List, [], ◌∷◌, length, Option, Some, None}
use Rattle.outside.specs.declared.action.Action.{Action}
use Rattle.outside.specs.declared.action.Action.TheVariants.{Keep, Send, Dial, Close, Told, Judged}
use Rattle.outside.specs.declared.action.Judged.{Judged as AnyJudged}
use Rattle.outside.specs.declared.action.Judged.TheVariants as judged
use Rattle.outside.specs.declared.event.Event.{Event}
use Rattle.outside.specs.declared.event.Event.TheVariants.{Opened, Bytes}
use Rattle.end_links.specs.Bounds.{send_limit}
use Rattle.end_links.specs.Links.{LinkState}
use Rattle.domain_controller.specs.State.{State as ControllerState}
use Rattle.domain_controller.specs.Step.{LinkMap}
use Rattle.domain_controller.specs.declared.state.Running.{Running as ControllerRunning}
use Rattle.member_server.specs.State.{State as MemberState}
use Rattle.member_server.specs.declared.state.Phase.{Phase}
use Rattle.member_server.specs.declared.state.Phase.TheVariants as phase
use Rattle.member_server.specs.declared.state.Running.{Running as MemberRunning}
use Rattle.member_server.specs.declared.state.Talk.{Talk}
use Rattle.world_moves.specs.declared.counting.Counts.{Counts}
use Rattle.world_moves.specs.declared.state.State.{State}
use Rattle.world_moves.specs.Ends.{EndStates}

-- ---- what is told

-- a judgement is one; that a logon was answered which was asked of another controller is none, since it comes behind
-- the judgement of the call that asked for it
abbrev pub tells_judged : AnyJudged → ℕ
tells_judged (judged.Passed status) = 1
tells_judged judged.Forwarded = 1
tells_judged (judged.Answered status) = 0
tells_judged judged.Barred = 1
tells_judged judged.NoChannel = 1

-- an action that tells an outcome or a judgement is one
abbrev pub tells_one : Action → ℕ
tells_one (Keep bytes) = 0
tells_one (Send link bytes) = 0
tells_one (Dial peer) = 0
tells_one (Close link cause) = 0
tells_one (Told link outcome) = 1
tells_one (Judged how) = tells_judged how

-- how many of the actions tell
abbrev pub told_by : List Action → ℕ
told_by [] = 0
told_by (what ∷ actions) = tells_one what + told_by actions

-- all that was counted
abbrev pub counted_in : Counts → ℕ
counted_in counts = counts.accepted + counts.refused + counts.no_controller + counts.passed + counts.barred

-- ---- what a member can still tell: an outcome of each logon that it keeps, and one on each link whose challenge
-- hasn't served

abbrev pub can_ask : Phase → ℕ
can_ask phase.Fresh = 1
can_ask (phase.Challenged bound challenge flags) = 1
can_ask (phase.Asked bound place held) = 0
can_ask (phase.In on) = 0
can_ask (phase.Out bound status) = 0

abbrev pub asks_on : List (ℕ × LinkState Talk) → ℕ
asks_on [] = 0
asks_on (entry ∷ links) = can_ask entry.1.talk.phase + asks_on links

abbrev pub outcomes_left : Option MemberRunning → ℕ
outcomes_left None = 0
outcomes_left (Some running) = length running.logons.asked + asks_on running.links

abbrev pub outcomes_of : List MemberState → ℕ
outcomes_of [] = 0
outcomes_of (member ∷ members) = outcomes_left member.running + outcomes_of members

-- ---- the bytes of which a controller can still make units: the rests of its links. A unit tells one judgement at
-- most, and has 16 bytes or more

abbrev pub rests_on : LinkMap → ℕ
rests_on [] = 0
rests_on (entry ∷ links) = length entry.1.rest + rests_on links

abbrev pub bytes_left : Option ControllerRunning → ℕ
bytes_left None = 0
bytes_left (Some running) = rests_on running.links

abbrev pub bytes_of : List ControllerState → ℕ
bytes_of [] = 0
bytes_of (controller ∷ controllers) = bytes_left controller.running + bytes_of controllers

-- ---- the bound

-- all that was told, and what can still be told, for 16 bytes each
unfoldable pub level_of : Counts → EndStates → ℕ
level_of counts ends = 16 * counted_in counts + (16 * outcomes_of ends.members + bytes_of ends.controllers)

-- a link that opens may come to one outcome
abbrev pub opens_at : Event → ℕ
opens_at (Opened link) = 1
opens_at _ = 0

-- what an event adds to it
abbrev pub adds_at : Event → ℕ
adds_at (Opened link) = 16
adds_at (Bytes link piece) = length piece
adds_at _ = 0

-- what a move adds to it at most: a unit comes, which has as many bytes as one send may have, or a link opens
abbrev pub level_limit : ℕ
level_limit = send_limit

-- what was told by `moves` moves is no more than they may tell
unfoldable pub IsWithin : State → ℕ → Type 0
IsWithin s moves = level_of s.counts s.ends ≤ level_limit * moves
