-- What is written down of the units that a controller serves which may hand logons on (this project's own choice). It
-- is read off its own machine, as `ControllerNotes` is of one that asks nobody: of a step that hands nothing on the two
-- say the same.
use Rattle.std.specs.Prelude.{ℕ, ◌≡◌, ◌==◌, Bool, true, false, List, [], ◌∷◌, ◌++◌, drop, flat_map, length, map, Option, Some, None, slice_get}
use Rattle.wire_base.specs.Maps.{lookup, same_number}
use Rattle.authenticators.specs.Channels.{ChannelIdentity}
use Rattle.outside.specs.declared.action.Judged.{Judged}
use Rattle.outside.specs.declared.action.Judged.TheVariants as judged
use Rattle.outside.specs.declared.event.Event.TheVariants as event
use Rattle.rpc_units.specs.Reading.{unit_of}
use Rattle.rpc_units.specs.Stream.{cut_stream}
use Rattle.end_links.specs.Links.{LinkState}
use Rattle.end_links.specs.Serving.{ServedUnit, served_units}
use Rattle.channel_client.specs.State.{Requester}
use Rattle.channel_turns.specs.Turning.{is_on}
use Rattle.channel_turns.specs.Turns.{turn_server}
use Rattle.channel_turns.specs.declared.state.Dialling.{Dialling}
use Rattle.channel_turns.specs.declared.state.Dialling.TheVariants as dialling
use Rattle.channel_turns.specs.declared.state.TurnTalk.{TurnTalk}
use Rattle.channel_turns.specs.declared.state.TurnWork.{TurnWork}
use Rattle.controller_calls.specs.Forwarded.{ForwardedState}
use Rattle.controller_calls.specs.Passing.{is_passed}
use Rattle.controller_calls.specs.declared.calls.ControllerCall.{ControllerCall}
use Rattle.controller_calls.specs.declared.calls.ControllerCall.TheVariants as call
use Rattle.controller_calls.specs.declared.line.Line.{Line}
use Rattle.domain_controller.specs.Forwarding.{TrustDesk, base_desk, trust_desk, trust_server}
use Rattle.domain_controller.specs.Hearing.{hear}
use Rattle.domain_controller.specs.Machine.{Desk}
use Rattle.domain_controller.specs.State.{State as ControllerState}
use Rattle.domain_controller.specs.Step.{step_of}
use Rattle.domain_controller.specs.TrustHere.{NoneIsAsked}
use Rattle.domain_controller.specs.TrustStep.{parts_of, trust_step_of}
use Rattle.domain_controller.specs.Trusting.{ForwardedCalls}
use Rattle.domain_controller.specs.declared.hearing.Heard.{Heard}
use Rattle.domain_controller.specs.declared.hearing.Heard.TheVariants as heard
use Rattle.domain_controller.specs.declared.state.Running.{Running}
use Rattle.domain_controller.specs.declared.state.Talk.{Talk}
use Rattle.domain_controller.specs.declared.trusting.Trusting.{Trusting}
use Rattle.channel_events.specs.Marks.{Plain}
use Rattle.step_notes.specs.ControllerNotes.{Answered, Where, answer_on, channel_in, judging_by, judging_of, opened_by, opening, plain, silent, units_of_controller}
use Rattle.step_notes.specs.MemberNotes.{TurnNote, taking_note, taking_read}
use Rattle.step_notes.specs.Records.{Forward, Judging, computer_named}
use Rattle.step_notes.specs.Served.{units_if_taken, work_after}

-- ---- the units

-- the accounts of a controller, and the rest of one at work, before it served any
abbrev pub first_trust_desk : ControllerState → Running → TrustDesk
first_trust_desk c running = trust_desk c.table (parts_of running c.trusting).work

abbrev pub trust_units_at : Option (LinkState Talk) → ℕ → List ℕ → ControllerState → Running → ℕ → List (List ℕ) → List (ServedUnit TrustDesk Talk)
trust_units_at None number piece c running now left = []
trust_units_at (Some link) number piece c running now left =
    served_units (trust_server c.name now number) (cut_stream (link.rest ++ piece)).units (first_trust_desk c running) link.talk left

-- none on the link of the turn, which isn't an accepted one
abbrev pub units_beside_turn : (is_turn_link : Bool) → ℕ → List ℕ → ControllerState → Running → ℕ → List (List ℕ) → List (ServedUnit TrustDesk Talk)
units_beside_turn true number piece c running now left = []
units_beside_turn false number piece c running now left =
    trust_units_at (lookup same_number number running.links) number piece c running now left

abbrev pub trust_units_by : Option Running → ℕ → List ℕ → ControllerState → ℕ → List (List ℕ) → List (ServedUnit TrustDesk Talk)
trust_units_by None number piece c now left = []
trust_units_by (Some running) number piece c now left =
    units_beside_turn (is_on number c.trusting.dialling) number piece c running now left

-- the units that the controller serves when these bytes come on the link
abbrev pub trust_units_of : ControllerState → ℕ → List ℕ → ℕ → List (List ℕ) → List (ServedUnit TrustDesk Talk)
trust_units_of c number piece now left =
    units_if_taken (trust_step_of c (event.Bytes number piece) now left).answer (trust_units_by c.running number piece c now left)

-- ---- a unit that is answered

-- A call that is handed on is answered later: nothing is sent, and nothing is marked. Its credential passed on that
-- channel.
abbrev pub handed_on : Option ChannelIdentity → Judging → Answered
handed_on channel j = record { sends = false; mark = Plain; checked = channel; judging = Some j; accepted = None }

abbrev pub trust_judging_by : Option Judged → Judging → Answered
trust_judging_by None j = judging_by false j
trust_judging_by (Some judged.Forwarded) j = handed_on (channel_in j.controller (computer_named j.asked) j.checks) j
trust_judging_by (Some how) j = judging_by (is_passed how) j

abbrev pub trust_judged_answer : Judging → Answered
trust_judged_answer j = trust_judging_by j.how j

abbrev pub trust_call_answer : ControllerCall → Line → Where → Desk → Option Desk → Answered
trust_call_answer (call.Challenge c) line w before after = plain
trust_call_answer (call.Authenticate c) line w before after = opening (opened_by w.controller c before) w line.call c.channel
trust_call_answer (call.Judged c) line w before after = trust_judged_answer (judging_of w line c before after)

abbrev pub trust_heard_answer : Heard → Where → Desk → Option Desk → Answered
trust_heard_answer (heard.Close cause) w before after = silent
trust_heard_answer (heard.Answer bytes talk) w before after = plain
trust_heard_answer (heard.Waits talk) w before after = silent
trust_heard_answer (heard.Asked line call talk) w before after = trust_call_answer call line w before after

-- the controller at work without its queues
abbrev pub base_after : Option TrustDesk → Option Desk
base_after None = None
base_after (Some d) = Some (base_desk d)

abbrev pub trust_answer_on : ℕ → Where → ServedUnit TrustDesk Talk → Answered
trust_answer_on link w unit =
    trust_heard_answer (hear link unit.bytes unit.talk) w (base_desk unit.work) (base_after (work_after unit.part))

-- what is written down of the units that come to these
abbrev pub trust_answers_of : ℕ → Where → ControllerState → List ℕ → ℕ → List (List ℕ) → List Answered
trust_answers_of link w c piece now left = map (trust_answer_on link w) (trust_units_of c link piece now left)

-- ---- calls that are handed on

-- the call, where it was handed on
abbrev pub if_handed : Option Judged → Judging → List Judging
if_handed (Some judged.Forwarded) j = j ∷ []
if_handed how j = []

abbrev pub if_judged : Option Judging → List Judging
if_judged None = []
if_judged (Some j) = if_handed j.how j

abbrev pub calls_handed : List Answered → List Judging
calls_handed answers = flat_map (λ (one : Answered). if_judged one.judging) answers

-- the trusts and the places there at which calls wait behind so many that waited before
abbrev pub places_behind : ℕ → ForwardedCalls → List (ℕ × ℕ)
places_behind before calls = map (λ (one : (ℕ × ℕ) × ForwardedState). one.0) (drop before calls)

-- of those that are handed on where these bytes come on the link, in order
abbrev pub places_handed : ControllerState → ℕ → List ℕ → ℕ → List (List ℕ) → List (ℕ × ℕ)
places_handed c number piece now left =
    places_behind (length c.trusting.queues.forwarded)
    (trust_step_of c (event.Bytes number piece) now left).state.trusting.queues.forwarded

-- each such call with its place, as it came on that link
abbrev pub forwards_at : ℕ → List (ℕ × ℕ) → List Judging → List Forward
forwards_at link [] calls = []
forwards_at link (place ∷ places) [] = []
forwards_at link (place ∷ places) (j ∷ calls) =
    record { judging = j; link = link; trust = place.0; place = place.1 } ∷ forwards_at link places calls

-- ---- the link of its turn at a trust

-- the units that the turn of a requester takes
abbrev pub asking_units_at : Option Requester → LinkState TurnTalk → ℕ → List ℕ → List (List ℕ) → List (ServedUnit TurnWork TurnTalk)
asking_units_at None said number piece left = []
asking_units_at (Some channel) said number piece left =
    served_units turn_server (cut_stream (said.rest ++ piece)).units
    (record { link = number; channel = channel; actions = []; ended = None }) said.talk left

abbrev pub asking_units_by : (is_turn_link : Bool) → LinkState TurnTalk → ℕ → List ℕ → Trusting → List (List ℕ) → List (ServedUnit TurnWork TurnTalk)
asking_units_by false said number piece t left = []
asking_units_by true said number piece t left =
    asking_units_at (slice_get t.queues.requesters t.turn_of) said number piece left

abbrev pub asking_units_on : Dialling → ℕ → List ℕ → Trusting → List (List ℕ) → List (ServedUnit TurnWork TurnTalk)
asking_units_on dialling.Nothing number piece t left = []
asking_units_on (dialling.Waits turn frames) number piece t left = []
asking_units_on (dialling.On other said) number piece t left = asking_units_by (other == number) said number piece t left

abbrev pub asking_units_in : Option Running → ℕ → List ℕ → Trusting → List (List ℕ) → List (ServedUnit TurnWork TurnTalk)
asking_units_in None number piece t left = []
asking_units_in (Some running) number piece t left = asking_units_on t.dialling number piece t left

-- the units that the controller serves on the link of its turn when these bytes come on that link
abbrev pub asking_units : ControllerState → ℕ → List ℕ → ℕ → List (List ℕ) → List (ServedUnit TurnWork TurnTalk)
asking_units c number piece now left =
    units_if_taken (trust_step_of c (event.Bytes number piece) now left).answer (asking_units_in c.running number piece c.trusting left)

-- What is written down of a unit that a controller's turn takes is what is written down of one of a member's turn: it
-- is of the requester alone, where the channel is with that controller.
abbrev pub asking_note : ℕ → ServedUnit TurnWork TurnTalk → TurnNote
asking_note controller unit =
    taking_note (taking_read (unit_of unit.bytes) unit.talk.joiner unit.work.channel) controller unit.work.channel

-- Of a controller that waits for no other one's answer it is what `ControllerNotes` says, where it steps as one that
-- asks nobody.
abbrev pub NotesAreAlike : Type 0
NotesAreAlike =
    (c : ControllerState) (link : ℕ) (w : Where) (piece : List ℕ) (now : ℕ) (left : List (List ℕ)) → NoneIsAsked c.trusting →
    trust_step_of c (event.Bytes link piece) now left ≡ step_of c (event.Bytes link piece) now left →
    trust_answers_of link w c piece now left ≡ map (answer_on link w) (units_of_controller c link piece now left)
