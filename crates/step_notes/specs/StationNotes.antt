-- What is written down of the bytes that come on a station's link (this project's own choice). It is read off what they
-- bring to its own machine (`Replies` of interactive_station), by the words that are used of a member's turn.
use Rattle.std.specs.Prelude.{ℕ, ◌+◌, ◌==◌, ◌&&◌, ◌++◌, Bool, true, false, not, List, [], ◌∷◌, Option, Some, None}
use Rattle.authenticators.specs.Channels.{ChannelIdentity}
use Rattle.authenticators.specs.SecureChannels.{channel_of}
use Rattle.outside.specs.declared.action.Action.{Action}
use Rattle.outside.specs.declared.action.Action.TheVariants as action
use Rattle.outside.specs.declared.action.Outcome.{Outcome}
use Rattle.outside.specs.declared.action.Outcome.TheVariants as outcome
use Rattle.rpc_units.specs.Stream.{cut_stream}
use Rattle.logon_stubs.specs.Status.{access_denied}
use Rattle.logon_stubs.specs.declared.calls.Reply.{Reply}
use Rattle.logon_stubs.specs.declared.calls.Reply.TheVariants as reply
use Rattle.end_links.specs.Links.{LinkState}
use Rattle.channel_client.specs.Effects.{View}
use Rattle.channel_client.specs.Machine.{fresh_requester, judge}
use Rattle.channel_client.specs.declared.judging.Judgement.{Judgement}
use Rattle.channel_client.specs.declared.judging.Judgement.TheVariants as judgement
use Rattle.channel_client.specs.declared.state.Question.TheVariants as question
use Rattle.channel_client.specs.declared.state.Standing.TheVariants as standing
use Rattle.channel_events.specs.Marks.{Calling, Mark, Opening, Plain}
use Rattle.channel_events.specs.Requests.{fresh_view}
use Rattle.interactive_station.specs.Calls.{bind_number, request_number}
use Rattle.interactive_station.specs.Plans.{caller_of}
use Rattle.interactive_station.specs.Moves.{call_in}
use Rattle.interactive_station.specs.Replies.{Answer, Awaited, Broken, Bringing, Fails, Replied, brings_in, returns_awaited}
use Rattle.interactive_station.specs.State.{StationState}
use Rattle.interactive_station.specs.declared.outcome.StationOutcome.{StationOutcome}
use Rattle.interactive_station.specs.declared.plan.StationPlan.{StationPlan}
use Rattle.interactive_station.specs.declared.state.StationCall.{StationCall}
use Rattle.interactive_station.specs.declared.state.StationCall.TheVariants.{Authenticate, Challenge, Logoff, Logon}
use Rattle.interactive_station.specs.declared.state.StationLink.{StationLink}
use Rattle.interactive_station.specs.declared.state.StationLink.TheVariants.{Dialling, Idle, On}
use Rattle.interactive_station.specs.declared.state.StationRunning.{StationRunning}
use Rattle.interactive_station.specs.declared.state.StationStep.{StationStep}
use Rattle.interactive_station.specs.declared.state.StationStep.TheVariants.{Asked, Bound}
use Rattle.interactive_station.specs.declared.state.StationTalk.{StationTalk}
use Rattle.step_notes.specs.MemberNotes.{TurnNote, half_channel, request_note}
use Rattle.step_notes.specs.Records.{StationLogon, StationTold}

-- ---- the channel of a call

-- The channel that a station opens with that controller, by both challenges: it is named as a member's is.
abbrev pub station_channel : ℕ → StationPlan → (client server : List ℕ) → ChannelIdentity
station_channel controller plan client server = half_channel controller (fresh_requester (caller_of plan)) client server

-- The channel that a station's call opens, or on which it is made; none of the first call, whose reply has the server's
-- challenge.
abbrev pub channel_of_call : ℕ → StationPlan → StationCall → Option ChannelIdentity
channel_of_call controller plan (Challenge client) = None
channel_of_call controller plan (Authenticate client server) = Some (station_channel controller plan client server)
channel_of_call controller plan (Logon o authenticator) = Some (channel_of controller plan.computer o)
channel_of_call controller plan (Logoff o authenticator domain user) = Some (channel_of controller plan.computer o)

-- what the request of a station's call is made for
abbrev pub mark_of_call : ℕ → StationPlan → StationCall → Mark
mark_of_call controller plan (Challenge client) = Plain
mark_of_call controller plan (Authenticate client server) =
    Opening (station_channel controller plan client server) (request_number (Authenticate client server))
mark_of_call controller plan (Logon o authenticator) =
    Calling (channel_of controller plan.computer o) (request_number (Logon o authenticator)) authenticator.timestamp
mark_of_call controller plan (Logoff o authenticator domain user) =
    Calling (channel_of controller plan.computer o) (request_number (Logoff o authenticator domain user)) authenticator.timestamp

-- The place of the logon for which a station's call is: a station has one logon, at place 0.
abbrev pub place_of_call : StationCall → Option ℕ
place_of_call (Challenge client) = None
place_of_call (Authenticate client server) = None
place_of_call (Logon o authenticator) = Some 0
place_of_call (Logoff o authenticator domain user) = None

-- the number of a station's call on a channel that stands
abbrev pub number_of_call : StationCall → Option ℕ
number_of_call (Challenge client) = None
number_of_call (Authenticate client server) = None
number_of_call (Logon o authenticator) = Some (request_number (Logon o authenticator))
number_of_call (Logoff o authenticator domain user) = Some (request_number (Logoff o authenticator domain user))

-- ---- whether the credential in a reply passes

abbrev pub is_passing : Judgement → Bool
is_passing (judgement.Half client server) = false
is_passing (judgement.Opened o) = true
is_passing (judgement.Answer o verdict) = true
is_passing (judgement.Drop cause) = false

-- Whether a reply to a station's call is taken for the credential in it. As at a member, a reply whose credential
-- passes, and which is refused for another cause, is none.
abbrev pub reply_passes : StationCall → Reply → (secret : List ℕ) → Bool
reply_passes (Challenge client) r secret = false
reply_passes (Authenticate client server) r secret =
    is_passing (judge question.Authenticate r (standing.Half client server) secret)
reply_passes (Logon o authenticator) r secret = is_passing (judge question.Logon r (standing.Open o) secret)
reply_passes (Logoff o authenticator domain user) (reply.Logoff r) secret =
    not (r.status == access_denied) && returns_awaited o r.returned
reply_passes (Logoff o authenticator domain user) _ secret = false

-- ---- the notes

-- a station's request that goes out, where the answer to its bind allows it
abbrev pub request_notes : (limit : Option ℕ) → ℕ → StationPlan → StationCall → List TurnNote
request_notes None controller plan c = []
request_notes (Some limit) controller plan c = request_note (mark_of_call controller plan c) (place_of_call c) ∷ []

-- A reply that a station takes: the channel on which its credential passed, and the call that it answers.
abbrev pub reply_note : ℕ → StationPlan → StationCall → TurnNote
reply_note controller plan c = record {
  sends = false;
  mark = Plain;
  checked = channel_of_call controller plan c;
  called = None;
  answered = place_of_call c;
  replied = number_of_call c;
}

abbrev pub reply_notes : (is_passed : Bool) → ℕ → StationPlan → StationCall → List TurnNote
reply_notes false controller plan c = []
reply_notes true controller plan c = reply_note controller plan c ∷ []

abbrev pub answer_notes : Answer → ℕ → StationPlan → StationCall → List TurnNote
answer_notes Awaited controller plan c = []
answer_notes (Broken cause) controller plan c = []
answer_notes (Fails cause) controller plan c = []
answer_notes (Replied r) controller plan c = reply_notes (reply_passes c r plan.secret) controller plan c

abbrev pub bringing_notes : Bringing → ℕ → StationPlan → StationCall → List TurnNote
bringing_notes b controller plan c = request_notes b.limit controller plan c ++ answer_notes b.answer controller plan c

abbrev pub notes_if : (is_own_link : Bool) → ℕ → LinkState StationTalk → List ℕ → StationPlan → List TurnNote
notes_if false controller own piece plan = []
notes_if true controller own piece plan =
    bringing_notes (brings_in (cut_stream (own.rest ++ piece)) own.talk) controller plan (call_in own.talk.step)

abbrev pub notes_standing : ℕ → StationLink → ℕ → List ℕ → StationPlan → List TurnNote
notes_standing controller Idle link piece plan = []
notes_standing controller (Dialling c) link piece plan = []
notes_standing controller (On own) link piece plan = notes_if (link == own.talk.link) controller own piece plan

-- a station with its outcome takes nothing
abbrev pub notes_by : ℕ → Option StationOutcome → Option StationRunning → ℕ → List ℕ → List TurnNote
notes_by controller (Some how) running link piece = []
notes_by controller None None link piece = []
notes_by controller None (Some running) link piece = notes_standing controller running.standing link piece running.task

-- What a station's bytes on a link come to, where its channel is with that controller: at most one request that goes
-- out, and behind it at most one reply that is taken.
abbrev pub station_notes : ℕ → StationState → (link : ℕ) (piece : List ℕ) → List TurnNote
station_notes controller s link piece = notes_by controller s.outcome s.running link piece

-- ---- the Logon, and what is told

-- at which station, on which link, after how many moves
pub record StationAt : Type 0 where
  pub at : ℕ
  pub station : ℕ
  pub link : ℕ

abbrev pub logon_marked : Mark → StationAt → (unit : ℕ) → List StationLogon
logon_marked (Calling channel number timestamp) w unit = record {
  at = w.at;
  station = w.station;
  link = w.link;
  unit = unit;
  channel = channel;
  number = number;
  reply = None;
} ∷ []
logon_marked _ w unit = []

abbrev pub logon_called : (place : Option ℕ) → Mark → StationAt → (unit : Option ℕ) → List StationLogon
logon_called None mark w unit = []
logon_called (Some place) mark w None = []
logon_called (Some place) mark w (Some unit) = logon_marked mark w unit

-- the Logon that a station makes by its request that goes out, in that unit of the bag
abbrev pub logon_note : StationAt → (unit : Option ℕ) → TurnNote → List StationLogon
logon_note w unit note = logon_called note.called note.mark w unit

-- a Logon of that station on that link
abbrev pub is_logon_at : StationAt → StationLogon → Bool
is_logon_at w one = (one.station == w.station) && (one.link == w.link)

abbrev pub answered_if : (is_its_own : Bool) → (unit : Option ℕ) → StationLogon → StationLogon
answered_if false unit one = one
answered_if true unit one = record one { reply = unit }

-- the answer to a station's Logon is taken in that unit of the bag, where one is
abbrev pub answered_by : (place : Option ℕ) → StationAt → (unit : Option ℕ) → StationLogon → StationLogon
answered_by None w unit one = one
answered_by (Some place) w unit one = answered_if (is_logon_at w one) unit one

abbrev pub logon_answered : StationAt → (unit : Option ℕ) → TurnNote → StationLogon → StationLogon
logon_answered w unit note one = answered_by note.answered w unit one

abbrev pub told_note : Outcome → StationAt → List StationTold
told_note (outcome.In domain user key) w =
    record { at = w.at; station = w.station; link = w.link; domain = domain; user = user; key = key } ∷ []
told_note (outcome.Out status) w = []
told_note (outcome.NoController cause) w = []

-- what a station tells by an action, after so many moves
abbrev pub station_told : ℕ → ℕ → Action → List StationTold
station_told at station (action.Told link how) = told_note how (record { at = at; station = station; link = link })
station_told at station (action.Judged how) = []
station_told at station (action.Keep bytes) = []
station_told at station (action.Send link bytes) = []
station_told at station (action.Dial peer) = []
station_told at station (action.Close link cause) = []

-- ---- what is seen of its channel

-- the client's challenge of a channel that a station's call opens
abbrev pub opening_of_call : StationCall → Option (List ℕ)
opening_of_call (Challenge client) = Some client
opening_of_call (Authenticate client server) = Some client
opening_of_call (Logon o authenticator) = None
opening_of_call (Logoff o authenticator domain user) = None

-- the channel that stands at a station's call, and its seed
abbrev pub stands_at_call : ℕ → StationPlan → StationCall → Option ChannelIdentity
stands_at_call controller plan (Challenge client) = None
stands_at_call controller plan (Authenticate client server) = None
stands_at_call controller plan (Logon o authenticator) = Some (channel_of controller plan.computer o)
stands_at_call controller plan (Logoff o authenticator domain user) = Some (channel_of controller plan.computer o)

abbrev pub seed_at_call : StationCall → Option (List ℕ)
seed_at_call (Challenge client) = None
seed_at_call (Authenticate client server) = None
seed_at_call (Logon o authenticator) = Some o.seed
seed_at_call (Logoff o authenticator domain user) = Some o.seed

abbrev pub view_at_call : ℕ → StationPlan → StationCall → (asking : Option ℕ) (next : ℕ) → View
view_at_call controller plan c asking next = record {
  stands = stands_at_call controller plan c;
  seed = seed_at_call c;
  opening = opening_of_call c;
  asking = asking;
  call = next;
}

-- a call's bind has its number from the dial on
abbrev pub view_at_step : ℕ → StationPlan → StationStep → View
view_at_step controller plan (Bound c) = view_at_call controller plan c None (bind_number c + 1)
view_at_step controller plan (Asked c) = view_at_call controller plan c (number_of_call c) (request_number c + 1)

-- What is seen of a station that asks on a channel with that controller, as of a member: a station without a call has
-- used no number and holds nothing.
abbrev pub view_of_station : ℕ → StationPlan → StationLink → View
view_of_station controller plan Idle = fresh_view
view_of_station controller plan (Dialling None) = fresh_view
view_of_station controller plan (Dialling (Some c)) = view_at_call controller plan c None (bind_number c + 1)
view_of_station controller plan (On own) = view_at_step controller plan own.talk.step
