-- What events are for the link of a turn, whatever end it is of (that one turn is out at a time is this project's own
-- choice). A turn that ends is given with what the end does of it: its link is closed, where it is still open, and then
-- comes what follows for the logon that it was for.
use Rattle.std.specs.Prelude.{ℕ, ◌==◌, ◌+◌, Bool, true, false, List, [], ◌∷◌, ◌++◌, length, Option, Some, None, Result, Ok}
use Rattle.outside.specs.declared.action.Action.{Action}
use Rattle.outside.specs.declared.action.Action.TheVariants as action
use Rattle.outside.specs.declared.action.DropCause.{DropCause}
use Rattle.outside.specs.declared.action.DropCause.TheVariants as drop_cause
use Rattle.outside.specs.declared.action.StepRefused.{StepRefused}
use Rattle.outside.specs.Machine.{Part, then_part}
use Rattle.rpc_units.specs.Joining.{open_len}
use Rattle.end_links.specs.Links.{LinkState}
use Rattle.channel_client.specs.State.{Requester}
use Rattle.channel_turns.specs.declared.state.Dialling.{Dialling}
use Rattle.channel_turns.specs.declared.state.Dialling.TheVariants as dialling
use Rattle.channel_turns.specs.declared.state.TurnEnded.{TurnEnded}
use Rattle.channel_turns.specs.declared.state.TurnTalk.{TurnTalk}
use Rattle.channel_turns.specs.declared.state.TurnWork.{TurnWork}
use Rattle.channel_turns.specs.declared.state.Turning.{Turning}
use Rattle.channel_turns.specs.Dials.{NextTurn, bind_turn, lose_turn, next_turn}
use Rattle.channel_turns.specs.Turns.{serve_turn}

-- ---- how far it is

-- the link that is waited for
abbrev pub want_of : Dialling → Option ℕ
want_of dialling.Nothing = None
want_of (dialling.Waits turn frames) = None
want_of (dialling.On number said) = Some number

abbrev pub is_on : ℕ → Dialling → Bool
is_on link dialling.Nothing = false
is_on link (dialling.Waits turn frames) = false
is_on link (dialling.On number said) = number == link

abbrev pub is_waiting : Dialling → Bool
is_waiting dialling.Nothing = false
is_waiting (dialling.Waits turn frames) = true
is_waiting (dialling.On number said) = false

-- the bytes that the link holds
abbrev pub bytes_of : Dialling → ℕ
bytes_of dialling.Nothing = 0
bytes_of (dialling.Waits turn frames) = 0
bytes_of (dialling.On number said) = length said.rest + open_len said.talk.joiner

-- ---- events: the channel with the link of its turn afterwards, and how the turn ended, where it did

abbrev pub Turned : Type 0
Turned = Turning × Option TurnEnded

-- a dial was answered by that link: the bind goes out
abbrev pub answer_by : Dialling → ℕ → Turning → Turning
answer_by dialling.Nothing link turning = turning
answer_by (dialling.Waits turn frames) link turning = record {
  channel = turning.channel;
  dialling = dialling.On link (bind_turn frames link turning.actions).1;
  actions = (bind_turn frames link turning.actions).0;
}
answer_by (dialling.On number said) link turning = turning

abbrev pub link_answers : ℕ → Turning → Turning
link_answers link turning = answer_by turning.dialling link turning

-- the turn is lost, and none is out
abbrev pub drop_turn : DropCause → Requester → List Action → Turned
drop_turn cause channel actions = (
  record { channel = (lose_turn cause channel).0; dialling = dialling.Nothing; actions = actions },
  Some (lose_turn cause channel).1,
)

-- a dial failed
abbrev pub fail_by : Dialling → Turning → Turned
fail_by dialling.Nothing turning = (turning, None)
fail_by (dialling.Waits turn frames) turning = drop_turn drop_cause.DialFailed turning.channel turning.actions
fail_by (dialling.On number said) turning = (turning, None)

abbrev pub no_dial : Turning → Turned
no_dial turning = fail_by turning.dialling turning

-- a link was closed
abbrev pub close_if : (is_turn_link : Bool) (turning : Turning) → Turned
close_if false turning = (turning, None)
close_if true turning = drop_turn drop_cause.LinkClosed turning.channel turning.actions

abbrev pub link_closes : ℕ → Turning → Turned
link_closes link turning = close_if (is_on link turning.dialling) turning

-- bytes came on the link of the turn
abbrev pub keep_link : ℕ → Option (LinkState TurnTalk) → Dialling
keep_link number None = dialling.Nothing
keep_link number (Some said) = dialling.On number said

abbrev pub after_piece : ℕ → TurnWork × Option (LinkState TurnTalk) → Turned
after_piece number served =
    (record { channel = served.0.channel; dialling = keep_link number served.1; actions = served.0.actions }, served.0.ended)

abbrev pub hear_on : ℕ → LinkState TurnTalk → List ℕ → Requester → List Action → Turned
hear_on number said piece channel actions =
    after_piece number (serve_turn (record { link = number; channel = channel; actions = actions; ended = None }) said piece)

-- a piece came on a link
abbrev pub hear_if : (is_turn_link : Bool) (number : ℕ) (said : LinkState TurnTalk) (piece : List ℕ) (turning : Turning) → Turned
hear_if false number said piece turning = (turning, None)
hear_if true number said piece turning = hear_on number said piece turning.channel turning.actions

abbrev pub hear_by : Dialling → ℕ → List ℕ → Turning → Turned
hear_by dialling.Nothing link piece turning = (turning, None)
hear_by (dialling.Waits turn frames) link piece turning = (turning, None)
hear_by (dialling.On number said) link piece turning = hear_if (number == link) number said piece turning

abbrev pub link_hears : ℕ → List ℕ → Turning → Turned
link_hears link piece turning = hear_by turning.dialling link piece turning

-- ---- the next turn, for which that peer is dialled

abbrev pub send_dial : Unit {0} → List (List ℕ) → List ℕ → Turning → Turning
send_dial turn frames peer turning = record {
  channel = turning.channel;
  dialling = dialling.Waits turn frames;
  actions = turning.actions ++ action.Dial peer ∷ [];
}

abbrev pub dial_for : Option (Unit {0} × List (List ℕ)) → List ℕ → Turning → Turning
dial_for None peer turning = turning
dial_for (Some start) peer turning = send_dial start.0 start.1 peer turning

abbrev pub dial_part : List ℕ → Turning → NextTurn → List (List ℕ) → Result (Part Turning) StepRefused
dial_part peer turning next left = Ok (record { value = dial_for next.1 peer (record turning { channel = next.0 }); left = left })

abbrev pub next_dial : ℕ → List ℕ → Turning → List (List ℕ) → Result (Part Turning) StepRefused
next_dial now peer turning left = then_part (next_turn now turning.channel left) (dial_part peer turning)
