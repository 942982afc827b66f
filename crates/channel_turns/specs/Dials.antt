-- How a turn begins, and how it is lost (MS-NRPC 3.1.4, 3.5.4; how turns follow one another is this project's own
-- choice). A moment is in units of 100 ns since 1601-01-01, and a challenge is a list of 8 bytes.
use Rattle.std.specs.Prelude.{ℕ, Bool, true, false, List, [], ◌∷◌, ◌++◌, replicate, Option, None, Result, Ok, Err}
use Rattle.outside.specs.declared.action.Action.{Action}
use Rattle.outside.specs.declared.action.Action.TheVariants as action
use Rattle.outside.specs.declared.action.DropCause.{DropCause}
use Rattle.outside.specs.declared.action.StepRefused.{StepRefused}
use Rattle.outside.specs.declared.action.StepRefused.TheVariants as refused
use Rattle.outside.specs.Machine.{Part}
use Rattle.end_links.specs.Links.{LinkState}
use Rattle.end_links.specs.Sending.{joined_frames}
use Rattle.authenticators.specs.Timestamps.{timestamp_of}
use Rattle.channel_client.specs.Machine.{Losing, Starting, can_start, lose_of, needs_challenge, start_of}
use Rattle.channel_client.specs.State.{Requester}
use Rattle.channel_turns.specs.declared.state.TurnEnd.TheVariants as turn_end
use Rattle.channel_turns.specs.declared.state.TurnEnded.{TurnEnded}
use Rattle.channel_turns.specs.declared.state.TurnTalk.{TurnTalk}
use Rattle.channel_turns.specs.Turns.{turn_talk}

-- ---- a turn that is lost for a cause outside of the channel: the channel afterwards, and how the turn ended

abbrev pub lose_by : Losing → DropCause → Requester × TurnEnded
lose_by losing cause = (losing.state, record { closes = None; how = turn_end.Dropped losing.place cause })

abbrev pub lose_turn : DropCause → Requester → Requester × TurnEnded
lose_turn cause channel = lose_by (lose_of channel) cause

-- ---- the dial of a turn is answered by a link: its bind goes out there

abbrev pub bind_turn : List (List ℕ) → ℕ → List Action → List Action × LinkState TurnTalk
bind_turn frames link actions =
    (actions ++ action.Send link (joined_frames frames) ∷ [], record { rest = []; talk = turn_talk None })

-- ---- the next turn: the channel afterwards, and the right to the turn with the frames of its bind, where one starts

abbrev pub NextTurn : Type 0
NextTurn = Requester × Option (Unit {0} × List (List ℕ))

abbrev pub begun : Starting → NextTurn
begun starting = (starting.state, starting.answer)

abbrev pub next_part : NextTurn → List (List ℕ) → Result (Part NextTurn) StepRefused
next_part next left = Ok (record { value = next; left = left })

-- the next turn, where one can start; one that opens a channel draws a challenge
abbrev pub next_by : (starts draws : Bool) (now : ℕ) (channel : Requester) (left : List (List ℕ)) → Result (Part NextTurn) StepRefused
next_by false needs now channel left = next_part (channel, None) left
next_by true false now channel left = next_part (begun (start_of channel (timestamp_of now) (replicate 8 0))) left
next_by true true now channel [] = Err refused.Spent
next_by true true now channel (challenge ∷ left) = next_part (begun (start_of channel (timestamp_of now) challenge)) left

abbrev pub next_turn : ℕ → Requester → List (List ℕ) → Result (Part NextTurn) StepRefused
next_turn now channel left =
    next_by (can_start channel.turn channel.waiting) (needs_challenge channel.standing) now channel left
