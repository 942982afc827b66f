-- What is written down of the units that a member serves (this project's own choice): all of it is read off its own
-- machine.
use Rattle.std.specs.Prelude.{ℕ, ◌+◌, ◌-◌, ◌==◌, Bool, true, false, List, [], ◌∷◌, ◌++◌, length, Option, Some, None, Result, Ok, Err}
use Rattle.wire_base.specs.Maps.{lookup, same_number}
use Rattle.authenticators.specs.Channels.{ChannelIdentity}
use Rattle.rpc_units.specs.declared.refused.JoinRefused.{JoinRefused}
use Rattle.rpc_units.specs.declared.refused.UnitRefused.{UnitRefused}
use Rattle.rpc_units.specs.declared.unit.Trailer.{Trailer}
use Rattle.rpc_units.specs.declared.unit.Unit.{Unit as RpcUnit}
use Rattle.rpc_units.specs.Joining.{answer_of}
use Rattle.rpc_units.specs.Reading.{unit_of}
use Rattle.rpc_units.specs.Stream.{cut_stream}
use Rattle.ntlm_messages.specs.Challenge.{written_challenge}
use Rattle.outside.specs.declared.event.Event.TheVariants as event
use Rattle.logon_stubs.specs.declared.calls.Call.TheVariants as call
use Rattle.wire_base.specs.declared.authenticator.Authenticator.{Authenticator}
use Rattle.authenticators.specs.SecureChannels.{channel_of}
use Rattle.end_links.specs.Links.{LinkState}
use Rattle.end_links.specs.Serving.{ServedUnit, served_units}
use Rattle.channel_client.specs.Effects.{number_in, stands_in, step_in}
use Rattle.channel_client.specs.Machine.{Taking, offered_flags, place_of, take_of}
use Rattle.channel_client.specs.State.{Requester}
use Rattle.channel_client.specs.declared.answers.Taken.{Taken}
use Rattle.channel_client.specs.declared.answers.Taken.TheVariants as taken
use Rattle.channel_client.specs.declared.state.Question.TheVariants as question
use Rattle.channel_client.specs.declared.state.Standing.{Standing}
use Rattle.channel_client.specs.declared.state.Standing.TheVariants as standing
use Rattle.channel_client.specs.declared.state.Step.{Step}
use Rattle.channel_client.specs.declared.state.Step.TheVariants as step
use Rattle.channel_client.specs.declared.state.SetStep.TheVariants as set_step
use Rattle.member_server.specs.Binds.{challenge_message}
use Rattle.member_server.specs.Laws.{is_past}
use Rattle.member_server.specs.Machine.{at_turn, step_of, work_of}
use Rattle.member_server.specs.Outcomes.{at_link}
use Rattle.member_server.specs.State.{State as MemberState}
use Rattle.member_server.specs.Turns.{AtTurn, turn_server}
use Rattle.member_server.specs.Units.{is_fresh, link_server}
use Rattle.member_server.specs.declared.state.AtLink.{AtLink}
use Rattle.channel_turns.specs.declared.state.Dialling.{Dialling}
use Rattle.channel_turns.specs.declared.state.Dialling.TheVariants as dialling
use Rattle.member_server.specs.declared.state.Logon.{Logon}
use Rattle.member_server.specs.declared.state.Logons.{Logons}
use Rattle.member_server.specs.declared.state.Phase.{Phase}
use Rattle.member_server.specs.declared.state.Phase.TheVariants as phase
use Rattle.member_server.specs.declared.state.Running.{Running}
use Rattle.member_server.specs.declared.state.Talk.{Talk}
use Rattle.channel_turns.specs.declared.state.TurnTalk.{TurnTalk}
use Rattle.channel_events.specs.Marks.{Mark, Plain, Opening, Calling}
use Rattle.step_notes.specs.Records.{ChallengeSent, ChannelTurn, MessageTaken, OfMember, RequesterId, timestamp_in}
use Rattle.step_notes.specs.Served.{talk_after, units_if_taken, work_after}

-- ---- the units of the link of the turn

abbrev pub turn_units_by : (is_turn_link : Bool) → LinkState TurnTalk → ℕ → List ℕ → Running → List (List ℕ) → List (ServedUnit AtTurn TurnTalk)
turn_units_by false said number piece running left = []
turn_units_by true said number piece running left =
    served_units turn_server (cut_stream (said.rest ++ piece)).units (at_turn number (work_of running)) said.talk left

abbrev pub turn_units_on : Dialling → ℕ → List ℕ → Running → List (List ℕ) → List (ServedUnit AtTurn TurnTalk)
turn_units_on dialling.Nothing number piece running left = []
turn_units_on (dialling.Waits turn frames) number piece running left = []
turn_units_on (dialling.On other said) number piece running left = turn_units_by (other == number) said number piece running left

abbrev pub turn_units_in : Option Running → ℕ → List ℕ → List (List ℕ) → List (ServedUnit AtTurn TurnTalk)
turn_units_in None number piece left = []
turn_units_in (Some running) number piece left = turn_units_on running.dialling number piece running left

-- the units that the member serves on the link of its turn when these bytes come on that link
abbrev pub turn_units : MemberState → ℕ → List ℕ → ℕ → List (List ℕ) → List (ServedUnit AtTurn TurnTalk)
turn_units m number piece now left =
    units_if_taken (step_of m (event.Bytes number piece) now left).answer (turn_units_in m.running number piece left)

-- ---- the units of an accepted link

abbrev pub link_units_on : Option (LinkState Talk) → ℕ → List ℕ → Running → List (List ℕ) → List (ServedUnit AtLink Talk)
link_units_on None number piece running left = []
link_units_on (Some link) number piece running left =
    served_units link_server (cut_stream (link.rest ++ piece)).units (at_link number (work_of running)) link.talk left

abbrev pub link_units_by : (is_turn_link : Bool) → ℕ → List ℕ → Running → List (List ℕ) → List (ServedUnit AtLink Talk)
link_units_by true number piece running left = []
link_units_by false number piece running left = link_units_on (lookup same_number number running.links) number piece running left

abbrev pub is_turn_link : Dialling → ℕ → Bool
is_turn_link dialling.Nothing number = false
is_turn_link (dialling.Waits turn frames) number = false
is_turn_link (dialling.On other said) number = other == number

abbrev pub link_units_in : Option Running → ℕ → List ℕ → List (List ℕ) → List (ServedUnit AtLink Talk)
link_units_in None number piece left = []
link_units_in (Some running) number piece left =
    link_units_by (is_turn_link running.dialling number) number piece running left

-- the units that the member serves on an accepted link when these bytes come on that link
abbrev pub link_units : MemberState → ℕ → List ℕ → ℕ → List (List ℕ) → List (ServedUnit AtLink Talk)
link_units m number piece now left =
    units_if_taken (step_of m (event.Bytes number piece) now left).answer (link_units_in m.running number piece left)

-- ---- what the turn takes: a whole unit, and what its channel makes of it

abbrev pub taking_joined : Result (Option RpcUnit) JoinRefused → Requester → Option Taking
taking_joined (Err why) channel = None
taking_joined (Ok None) channel = None
taking_joined (Ok (Some unit)) channel = Some (take_of channel unit)

abbrev pub taking_read : Result RpcUnit UnitRefused → Option RpcUnit → Requester → Option Taking
taking_read (Err why) joiner channel = None
taking_read (Ok unit) joiner channel = taking_joined (answer_of joiner unit) channel

abbrev pub taking_at : ServedUnit AtTurn TurnTalk → Option Taking
taking_at unit = taking_read (unit_of unit.bytes) unit.talk.joiner unit.work.work.logons.channel

-- What taking a unit comes to: whether a request is sent on its link, and what that was made for; the channel on which
-- a credential passed; the place whose Logon call that request is; the place whose answer was taken; and the number of
-- the call that was answered so, whatever it asked.
pub record TurnNote : Type 0 where
  pub sends : Bool
  pub mark : Mark
  pub checked : Option ChannelIdentity
  pub called : Option ℕ
  pub answered : Option ℕ
  pub replied : Option ℕ

abbrev pub no_note : TurnNote
no_note = record { sends = false; mark = Plain; checked = None; called = None; answered = None; replied = None }

-- a request, by what it asks and how far the channel is
abbrev pub request_note : Mark → Option ℕ → TurnNote
request_note mark called = record { sends = true; mark = mark; checked = None; called = called; answered = None; replied = None }

-- the channel that is opened, with that controller
abbrev pub half_channel : ℕ → Requester → List ℕ → List ℕ → ChannelIdentity
half_channel controller s client server = record {
  controller = controller;
  computer = s.caller.computer;
  secret = s.caller.secret;
  client = client;
  server = server;
  flags = offered_flags;
}

-- the timestamp of the Logon, Logoff or NetrServerPasswordSet call that waits for its bind; 0 where none does
abbrev pub timestamp_bound : Option Step → ℕ
timestamp_bound (Some (step.Bind (call.Logon c))) = timestamp_in c.authenticator
timestamp_bound (Some (step.Bind (call.Logoff c))) = timestamp_in c.authenticator
timestamp_bound (Some (step.Set (set_step.Bind c))) = c.authenticator.timestamp
timestamp_bound _ = 0

-- by what is asked, by the channel, and by the requester before and after it
abbrev pub asked_note : Option Step → Standing → ℕ → Requester → Requester → TurnNote
asked_note (Some (step.Reply question.Authenticate)) (standing.Half client server) controller before after =
    request_note (Opening (half_channel controller after client server) before.next_call) None
asked_note (Some (step.Reply question.Logon)) (standing.Open o) controller before after =
    request_note
    (Calling (channel_of controller after.caller.computer o) before.next_call (timestamp_bound (step_in before.turn)))
    (Some (place_of after.turn))
asked_note (Some (step.Set set_step.Reply)) (standing.Open o) controller before after =
    request_note
    (Calling (channel_of controller after.caller.computer o) before.next_call (timestamp_bound (step_in before.turn))) None
asked_note _ _ controller before after = request_note Plain None

-- a credential passed on the channel that stands then; and the answer of that place, to the call of that number, was
-- taken, if one was
abbrev pub checked_note : ℕ → Option ℕ → Option ℕ → Requester → TurnNote
checked_note controller answered replied s = record {
  sends = false;
  mark = Plain;
  checked = stands_in controller s.caller.computer s.standing;
  called = None;
  answered = answered;
  replied = replied;
}

-- by what was taken, and by the requester before and after it: a request that is sent has the next number that it had
-- before. A reply whose credential passes, and which is refused for another cause, is no credential that passed
abbrev pub taken_note : Taken → ℕ → Requester → Requester → TurnNote
taken_note (taken.Skip right) controller before after = no_note
taken_note (taken.Next right frames) controller before after = asked_note (step_in after.turn) after.standing controller before after
taken_note taken.Half controller before after = no_note
taken_note taken.Opened controller before after = checked_note controller None None after
taken_note (taken.Answer place verdict) controller before after = checked_note controller (Some place) (Some (number_in before.turn)) after
taken_note (taken.Dropped place cause) controller before after = no_note
taken_note taken.Set controller before after = checked_note controller None (Some (number_in before.turn)) after

abbrev pub taking_note : Option Taking → ℕ → Requester → TurnNote
taking_note None controller before = no_note
taking_note (Some taking) controller before = taken_note taking.taken controller before taking.state

-- of a unit on the link of the turn, where the channel is with that controller
abbrev pub turn_note : ℕ → ServedUnit AtTurn TurnTalk → TurnNote
turn_note controller unit = taking_note (taking_at unit) controller unit.work.work.logons.channel

-- ---- a turn that starts

abbrev pub stamped : Option ChannelIdentity → Option Authenticator → RequesterId → List ChannelTurn
stamped None given who = []
stamped (Some channel) None who = []
stamped (Some channel) (Some given) who = record { requester = who; channel = channel; timestamp = given.timestamp } ∷ []

abbrev pub turn_by : Option Step → Option ChannelIdentity → RequesterId → List ChannelTurn
turn_by (Some (step.Bind (call.Logon c))) channel who = stamped channel c.authenticator who
turn_by (Some (step.Set (set_step.Bind c))) channel who = stamped channel (Some c.authenticator) who
turn_by _ channel who = []

-- the turn on the channel whose bind waits, if one does, where the channel is with that controller
abbrev pub turn_of : ℕ → RequesterId → Requester → List ChannelTurn
turn_of controller who s = turn_by (step_in s.turn) (stands_in controller s.caller.computer s.standing) who

-- the turn of a requester whose bind waits; none where there is no such requester
abbrev pub turn_if : ℕ → RequesterId → Option Requester → List ChannelTurn
turn_if controller who None = []
turn_if controller who (Some s) = turn_of controller who s

-- of a member
abbrev pub turn_in : ℕ → ℕ → Option Running → List ChannelTurn
turn_in controller member None = []
turn_in controller member (Some running) = turn_of controller (OfMember member) running.logons.channel

-- ---- messages on an accepted link

-- the message in the trailer of a unit
abbrev pub trailer_value : Option Trailer → List ℕ
trailer_value None = []
trailer_value (Some trailer) = trailer.value

abbrev pub message_read : Result RpcUnit UnitRefused → List ℕ
message_read (Err why) = []
message_read (Ok unit) = trailer_value unit.trailer

abbrev pub message_in : List ℕ → List ℕ
message_in bytes = message_read (unit_of bytes)

-- at which member, on which link, after how many moves, and how many draws were made before the event with how many
-- challenges left
pub record LinkAt : Type 0 where
  pub at : ℕ
  pub member : ℕ
  pub link : ℕ
  pub drawn : ℕ
  pub left : ℕ

-- which draw the next one is, where these challenges are left
abbrev pub next_draw : LinkAt → List (List ℕ) → ℕ
next_draw w left = w.drawn + (w.left - length left)

-- a CHALLENGE that was sent, where nothing was bound before: the link has its challenge then
abbrev pub challenge_in : Phase → LinkAt → AtLink → List (List ℕ) → List ChallengeSent
challenge_in (phase.Challenged bound challenge flags) w at left = record {
  at = w.at;
  member = w.member;
  link = w.link;
  draw = next_draw w left;
  challenge = challenge;
  bytes = written_challenge (challenge_message flags at.logons.plan challenge);
} ∷ []
challenge_in _ w at left = []

abbrev pub challenge_after : Option Talk → LinkAt → AtLink → List (List ℕ) → List ChallengeSent
challenge_after None w at left = []
challenge_after (Some talk) w at left = challenge_in talk.phase w at left

abbrev pub challenge_by : (was_fresh : Bool) → ServedUnit AtLink Talk → LinkAt → List ChallengeSent
challenge_by false unit w = []
challenge_by true unit w = challenge_after (talk_after unit.part) w unit.work unit.left

abbrev pub challenge_note : LinkAt → ServedUnit AtLink Talk → List ChallengeSent
challenge_note w unit = challenge_by (is_fresh unit.talk.phase) unit w

-- an AUTHENTICATE that was taken, where a CHALLENGE had been sent: the link is past its challenge then
abbrev pub is_challenged : Phase → Bool
is_challenged phase.Fresh = false
is_challenged (phase.Challenged bound challenge flags) = true
is_challenged (phase.Asked bound place held) = false
is_challenged (phase.In on) = false
is_challenged (phase.Out bound status) = false

abbrev pub link_if : Bool → ℕ → List ℕ
link_if false link = []
link_if true link = link ∷ []

abbrev pub taken_after : Option Talk → ℕ → List ℕ
taken_after None link = []
taken_after (Some talk) link = link_if (is_past talk.phase) link

abbrev pub taken_by : (was_challenged : Bool) → Option Talk → ℕ → List ℕ
taken_by false after link = []
taken_by true after link = taken_after after link

-- the link, where the unit was an AUTHENTICATE that was taken
abbrev pub taken_link : LinkAt → ServedUnit AtLink Talk → List ℕ
taken_link w unit = taken_by (is_challenged unit.talk.phase) (talk_after unit.part) w.link

-- an AUTHENTICATE that was taken and whose logon waits: the member keeps it by its place
abbrev pub message_kept : Option Logon → ℕ → LinkAt → List ℕ → List MessageTaken
message_kept None place w bytes = []
message_kept (Some logon) place w bytes = record {
  at = w.at;
  member = w.member;
  link = w.link;
  bytes = message_in bytes;
  logon = logon;
  place = place;
  call = None;
  reply = None;
} ∷ []

abbrev pub message_at : Phase → Option AtLink → LinkAt → List ℕ → List MessageTaken
message_at (phase.Asked bound place held) (Some after) w bytes =
    message_kept (lookup same_number place after.logons.asked) place w bytes
message_at _ after w bytes = []

abbrev pub message_after : Option Talk → Option AtLink → LinkAt → List ℕ → List MessageTaken
message_after None after w bytes = []
message_after (Some talk) after w bytes = message_at talk.phase after w bytes

abbrev pub message_by : (was_challenged : Bool) → ServedUnit AtLink Talk → LinkAt → List MessageTaken
message_by false unit w = []
message_by true unit w = message_after (talk_after unit.part) (work_after unit.part) w unit.bytes

abbrev pub message_note : LinkAt → ServedUnit AtLink Talk → List MessageTaken
message_note w unit = message_by (is_challenged unit.talk.phase) unit w

-- ---- the link of a logon, by its place

abbrev pub link_of_logon : Option Logon → Option ℕ
link_of_logon None = None
link_of_logon (Some logon) = Some logon.link

abbrev pub link_of_place : Option ℕ → Logons → Option ℕ
link_of_place None logons = None
link_of_place (Some place) logons = link_of_logon (lookup same_number place logons.asked)
