-- Both ends of a secure channel name it alike in what is written down of a run (MS-NRPC 3.1.4.1; the names are this
-- project's own choice): the member that opens it, asks on it and takes its answers, and the controller at which its
-- credentials pass. So no credential that passes in a unit that was made for the channel is a clash. What a client
-- sends for a CHALLENGE is written down too, with the key that it keeps.
use Rattle.std.specs.Prelude.{ℕ, ◌≡◌, Bool, true, false, List, [], ◌∷◌, ◌++◌, flat_map, map, Option, Some, None, Ok, slice_get}
use Rattle.std.specs.List.{AllByRecursion}
use Rattle.wire_base.specs.Maps.{lookup}
use Rattle.wire_base.specs.Names.{same_name}
use Rattle.authenticators.specs.Channels.{ChannelIdentity, SameChannel}
use Rattle.authenticators.specs.SecureChannels.{SecureChannelState, channel_of}
use Rattle.outside.specs.declared.action.Action.{Action}
use Rattle.outside.specs.declared.action.Action.TheVariants as action
use Rattle.outside.specs.declared.event.Event.TheVariants as event
use Rattle.rpc_units.specs.declared.unit.Unit.{Unit as RpcUnit}
use Rattle.rpc_units.specs.Writing.{written}
use Rattle.logon_stubs.specs.Calls.{opnum_of_call}
use Rattle.logon_stubs.specs.Writing.{written_call}
use Rattle.logon_stubs.specs.declared.calls.Call.{Call}
use Rattle.logon_stubs.specs.declared.calls.Call.TheVariants as call
use Rattle.logon_stubs.specs.declared.calls.ChallengeReply.{ChallengeReply}
use Rattle.logon_stubs.specs.declared.calls.LogonCall.{LogonCall}
use Rattle.logon_stubs.specs.declared.calls.Reply.TheVariants as reply
use Rattle.logon_stubs.specs.declared.info.NetworkInfo.{NetworkInfo}
use Rattle.account_table.specs.AccountTable.{AccountTable}
use Rattle.account_table.specs.LookUps.{knows_in}
use Rattle.account_table.specs.declared.account.Account.{Account}
use Rattle.end_links.specs.Links.{LinkState}
use Rattle.end_links.specs.Sending.{frames_of, request_of}
use Rattle.end_links.specs.Serving.{ServedUnit}
use Rattle.channel_client.specs.Effects.{number_in, stands_in, step_in}
use Rattle.channel_client.specs.Machine.{ask_of, auth_call, can_start, challenge_call, hear as hear_reply, lose_of, start_of, take_of}
use Rattle.channel_client.specs.State.{Requester}
use Rattle.channel_client.specs.declared.answers.Taken.{Taken}
use Rattle.channel_client.specs.declared.answers.Taken.TheVariants as taken
use Rattle.channel_client.specs.declared.hearing.Hearing.TheVariants as hearing
use Rattle.channel_client.specs.declared.state.Question.TheVariants as question
use Rattle.channel_client.specs.declared.state.Standing.TheVariants as standing
use Rattle.channel_client.specs.declared.state.Step.TheVariants as step
use Rattle.channel_client.specs.declared.state.SetStep.TheVariants as set_step
use Rattle.domain_controller.specs.Hearing.{hear, served_call}
use Rattle.domain_controller.specs.Machine.{Desk, account_for, by_call, controller_server, send_reply}
use Rattle.domain_controller.specs.State.{State as ControllerState}
use Rattle.domain_controller.specs.Step.{step_of as controller_step}
use Rattle.domain_controller.specs.declared.hearing.Heard.{Heard}
use Rattle.domain_controller.specs.declared.hearing.Heard.TheVariants as heard
use Rattle.controller_calls.specs.declared.calls.ControllerCall.{ControllerCall}
use Rattle.controller_calls.specs.declared.calls.ControllerCall.TheVariants as served
use Rattle.controller_calls.specs.declared.line.Line.{Line}
use Rattle.controller_calls.specs.declared.state.Computers.{Computers}
use Rattle.domain_controller.specs.declared.state.Talk.{Talk as ControllerTalk}
use Rattle.logon_client.specs.Answering.{auth3_unit}
use Rattle.logon_client.specs.Machine.{step_of}
use Rattle.logon_client.specs.Securing.{send_call}
use Rattle.logon_client.specs.State.{State as ClientState}
use Rattle.logon_client.specs.declared.outcome.ClientOutcome.{ClientOutcome}
use Rattle.logon_client.specs.declared.outcome.ClientOutcome.TheVariants.{In}
use Rattle.logon_client.specs.declared.securing.Sending.{Sending}
use Rattle.logon_client.specs.declared.state.Phase.{Phase}
use Rattle.logon_client.specs.declared.state.Phase.TheVariants.{Bound, Asked}
use Rattle.logon_client.specs.declared.state.Question.{Question}
use Rattle.logon_client.specs.declared.state.Running.{Running as ClientRunning}
use Rattle.logon_client.specs.declared.state.ClientLink.{ClientLink as ClientStanding}
use Rattle.logon_client.specs.declared.state.ClientLink.TheVariants.{Idle, Dialling, On}
use Rattle.logon_client.specs.declared.state.Talk.{Talk as ClientTalk}
use Rattle.logon_client.specs.declared.state.Terms.{Terms}
use Rattle.member_server.specs.Turns.{AtTurn, turn_server}
use Rattle.channel_turns.specs.declared.state.TurnTalk.{TurnTalk}
use Rattle.secret_change.specs.Calls.{set_opnum, written_set_call}
use Rattle.secret_change.specs.declared.calls.SetCall.{SetCall}
use Rattle.channel_events.specs.Marks.{Calling, Mark, Opening, Plain}
use Rattle.step_notes.specs.ClientNotes.{ClientAt, made_note, units_of_client}
use Rattle.step_notes.specs.ControllerNotes.{Where, answer_on, call_answer, checked_on, has_passed, judged_answer, opened_by, opening, passing, units_of_controller}
use Rattle.step_notes.specs.Marking.{answered_marks, clashes, sent_channel}
use Rattle.step_notes.specs.MemberNotes.{TurnNote, half_channel, request_note, taking_note, turn_note}
use Rattle.step_notes.specs.Records.{Judging, MessageMade, Sent, computer_named, timestamp_in, unit_in}
use Rattle.step_notes.specs.Served.{talk_after, work_after}

-- ---- at a member

-- the channel that stands at a requester, as the member names it, with that controller
abbrev pub standing_channel : ℕ → Requester → Option ChannelIdentity
standing_channel controller s = stands_in controller s.caller.computer s.standing

-- the turn's bind is out, and that call waits for the answer to it
pub record WillAsk (s : Requester) (c : Call) : Type 0 where
  pub number : ℕ
  pub place : ℕ
  pub turn : s.turn ≡ Some (record { number = number; place = place; step = step.Bind c })

-- a requester knows both challenges, and the call that opens their channel waits
pub record WillOpen (s : Requester) (client server : List ℕ) : Type 0 where
  pub half : s.standing ≡ standing.Half client server
  pub asks : WillAsk s (auth_call s.caller client server)

-- a Logon call that names that computer waits
pub record WillCall (s : Requester) (computer : List ℕ) : Type 0 where
  pub logon : LogonCall
  pub asks : WillAsk s (call.Logon logon)
  pub names : logon.computer ≡ Some computer

-- a call waits that sets a secret, which names that computer
pub record WillSet (s : Requester) (computer : List ℕ) : Type 0 where
  pub call : SetCall
  pub number : ℕ
  pub place : ℕ
  pub turn : s.turn ≡ Some (record { number = number; place = place; step = step.Set (set_step.Bind call) })
  pub names : call.computer ≡ computer

-- by whether a secret is next: it is set before any logon is asked for
abbrev pub WillCallBy : Option (List ℕ) → Requester → List ℕ → Type 0
WillCallBy None s computer = WillCall s computer
WillCallBy (Some next) s computer = WillSet s computer

-- the frames of the request that a unit lets go out, if it does
abbrev pub frames_sent : Taken → Option (List (List ℕ))
frames_sent (taken.Skip right) = None
frames_sent (taken.Next right frames) = Some frames
frames_sent taken.Half = None
frames_sent taken.Opened = None
frames_sent (taken.Answer place verdict) = None
frames_sent (taken.Dropped place cause) = None
frames_sent taken.Set = None

-- the place of the logon whose answer a unit is, if it is one
abbrev pub place_answered : Taken → Option ℕ
place_answered (taken.Skip right) = None
place_answered (taken.Next right frames) = None
place_answered taken.Half = None
place_answered taken.Opened = None
place_answered (taken.Answer place verdict) = Some place
place_answered (taken.Dropped place cause) = None
place_answered taken.Set = None

-- frames are those of a call, with that number, in fragments of some size
abbrev pub AreFramesOf : ℕ → Call → List (List ℕ) → Type 0
AreFramesOf number c frames = (limit : ℕ) × (frames ≡ frames_of (request_of number 0 (opnum_of_call c) (written_call c)) limit)

-- the frames are those of that call to set a secret, with that number, in fragments of some size
abbrev pub AreFramesOfSet : ℕ → SetCall → List (List ℕ) → Type 0
AreFramesOfSet number c frames = (limit : ℕ) × (frames ≡ frames_of (request_of number 0 set_opnum (written_set_call c)) limit)

-- a credential passed on that channel; and the answer of that place, to the call of that number, was taken, if one was
abbrev pub passed_note : ChannelIdentity → Option ℕ → Option ℕ → TurnNote
passed_note channel answered replied =
    record { sends = false; mark = Plain; checked = Some channel; called = None; answered = answered; replied = replied }

-- the channel that stood stands on, or none does
abbrev pub StandsOrGoes : ChannelIdentity → Option ChannelIdentity → Type 0
StandsOrGoes channel None = Unit {0}
StandsOrGoes channel (Some other) = other ≡ channel

-- ---- at a controller

-- the account that lets a call open a channel
abbrev pub account_asked : ControllerCall → AccountTable → Option Account
account_asked (served.Authenticate c) table = account_for table c
account_asked _ table = None

-- What a controller has of a computer whose member knows both challenges: an account for its call, with the hash that
-- is the member's secret, and the challenges.
pub record Expects (d : Desk) (s : Requester) (client server : List ℕ) : Type 0 where
  pub account : Account
  pub found : account_asked (served_call (auth_call s.caller client server)) d.table ≡ Some account
  pub secret : account.hash ≡ s.caller.secret
  pub pair : lookup same_name s.caller.computer d.work.computers.pending ≡ Some (record { client = client; server = server })

-- a controller keeps that channel, with whatever seed
pub record HasChannel (computers : Computers) (channel : ChannelIdentity) : Type 0 where
  pub state : SecureChannelState
  pub kept : lookup same_name channel.computer computers.channels ≡ Some state
  pub is : channel_of channel.controller channel.computer state ≡ channel

-- the channel that a unit opens, if it does
abbrev pub opened_call : ℕ → ControllerCall → Desk → Option ChannelIdentity
opened_call controller (served.Authenticate c) d = opened_by controller c d
opened_call controller _ d = None

abbrev pub opened_unit : ℕ → Heard → Desk → Option ChannelIdentity
opened_unit controller (heard.Asked line c talk) d = opened_call controller c d
opened_unit controller (heard.Close cause) d = None
opened_unit controller (heard.Answer bytes talk) d = None
opened_unit controller (heard.Waits talk) d = None

-- the channel is none of that computer
abbrev pub IsOfOther : List ℕ → Option ChannelIdentity → Type 0
IsOfOther computer None = Unit {0}
IsOfOther computer (Some opened) = same_name opened.computer computer ≡ false

-- ---- laws of names

-- Challenges: the member that waits for the reply to its challenge knows both where it comes, and a controller that
-- knows the computer has both in waiting and tells its own (MS-NRPC 3.1.4.1).
pub record ChallengesAreShared : Type 0 where
  pub starts : (s : Requester) (timestamp : ℕ) (challenge : List ℕ) → s.standing ≡ standing.Nothing → can_start s.turn s.waiting ≡ true →
      WillAsk (start_of s timestamp challenge).state (challenge_call s.caller challenge) × ((start_of s timestamp challenge).state.caller ≡ s.caller)
  pub asks : (s : Requester) (unit : RpcUnit) (client : List ℕ) (frames : List (List ℕ)) → WillAsk s (challenge_call s.caller client) →
      frames_sent (take_of s unit).taken ≡ Some frames →
      AreFramesOf s.next_call (challenge_call s.caller client) frames
      × (step_in (take_of s unit).state.turn ≡ Some (step.Reply (question.Challenge client)))
  pub waits : (s : Requester) (client server : List ℕ) (line : Line) (talk : ControllerTalk) (name : List ℕ) (now : ℕ) (before after : Desk)
      (left : List (List ℕ)) → knows_in before.table.accounts s.caller.computer ≡ true →
      work_after (by_call (served_call (challenge_call s.caller client)) line talk name now before (server ∷ left)) ≡ Some after →
      (lookup same_name s.caller.computer after.work.computers.pending ≡ Some (record { client = client; server = server }))
      × (after.work.actions ≡ (send_reply before.work line (reply.Challenge (record { challenge = server; status = 0 }))).actions)
      × (after.table ≡ before.table)
  pub learns : (s : Requester) (unit : RpcUnit) (client : List ℕ) (r : ChallengeReply) →
      hear_reply s.turn unit s.next_call ≡ hearing.Reply (question.Challenge client) (reply.Challenge r) → r.status ≡ 0 →
      ((take_of s unit).taken ≡ taken.Half) × ((take_of s unit).state.standing ≡ standing.Half client r.challenge)
      × ((take_of s unit).state.caller ≡ s.caller)

-- Opening: the call that a member sends where it knows both challenges is written down as made for the channel of these
-- challenges, and a controller that expects it accepts it, and names and keeps the same channel.
pub record OpeningsAreNamedAlike : Type 0 where
  pub starts : (s : Requester) (timestamp : ℕ) (challenge client server : List ℕ) → s.standing ≡ standing.Half client server →
      can_start s.turn s.waiting ≡ true →
      WillOpen (start_of s timestamp challenge).state client server × ((start_of s timestamp challenge).state.caller ≡ s.caller)
  pub asks : (controller : ℕ) (s : Requester) (unit : RpcUnit) (client server : List ℕ) (frames : List (List ℕ)) → WillOpen s client server →
      frames_sent (take_of s unit).taken ≡ Some frames →
      AreFramesOf s.next_call (auth_call s.caller client server) frames
      × (taking_note (Some (take_of s unit)) controller s ≡ request_note (Opening (half_channel controller s client server) s.next_call) None)
  pub opens : (s : Requester) (client server : List ℕ) (w : Where) (line : Line) (before : Desk) (after : Option Desk) →
      Expects before s client server →
      call_answer (served_call (auth_call s.caller client server)) line w before after
      ≡ opening (Some (half_channel w.controller s client server)) w line.call s.caller.kind
  pub keeps : (controller : ℕ) (s : Requester) (client server : List ℕ) (line : Line) (talk : ControllerTalk) (name : List ℕ) (now : ℕ)
      (before after : Desk) (left : List (List ℕ)) → Expects before s client server →
      work_after (by_call (served_call (auth_call s.caller client server)) line talk name now before left) ≡ Some after →
      HasChannel after.work.computers (half_channel controller s client server)

-- Standing: the reply that opens a channel at a member opens the one that the call was made for, and it has that name
-- until it is given up.
pub record ChannelsStandAsAsked : Type 0 where
  pub opens : (controller : ℕ) (s : Requester) (unit : RpcUnit) → (take_of s unit).taken ≡ taken.Opened →
      (client : List ℕ) × (server : List ℕ) × (s.standing ≡ standing.Half client server)
      × (standing_channel controller (take_of s unit).state ≡ Some (half_channel controller s client server))
      × (taking_note (Some (take_of s unit)) controller s ≡ passed_note (half_channel controller s client server) None None)
  pub asks : (controller : ℕ) (s : Requester) (info : NetworkInfo) →
      standing_channel controller (ask_of s info).state ≡ standing_channel controller s
  pub starts : (controller : ℕ) (s : Requester) (timestamp : ℕ) (challenge : List ℕ) →
      standing_channel controller (start_of s timestamp challenge).state ≡ standing_channel controller s
  pub takes : (controller : ℕ) (s : Requester) (unit : RpcUnit) (channel : ChannelIdentity) → standing_channel controller s ≡ Some channel →
      StandsOrGoes channel (standing_channel controller (take_of s unit).state)
  pub loses : (controller : ℕ) (s : Requester) → standing_channel controller (lose_of s).state ≡ None

-- Calling: a Logon call, and one that sets a secret, is written down as made for the channel that stands, and names its
-- computer. A controller that has the channel keeps it until it opens another one for that computer, and a call that
-- passes there passes on it. The member takes the answer on the channel that stands.
pub record CallsAreNamedAlike : Type 0 where
  pub starts : (controller : ℕ) (s : Requester) (timestamp : ℕ) (challenge : List ℕ) (channel : ChannelIdentity) →
      standing_channel controller s ≡ Some channel → can_start s.turn s.waiting ≡ true →
      WillCallBy s.next (start_of s timestamp challenge).state channel.computer
  pub asks : (controller : ℕ) (s : Requester) (unit : RpcUnit) (channel : ChannelIdentity) (logon : LogonCall) (frames : List (List ℕ)) →
      standing_channel controller s ≡ Some channel → (ask : WillAsk s (call.Logon logon)) →
      frames_sent (take_of s unit).taken ≡ Some frames →
      AreFramesOf s.next_call (call.Logon logon) frames
      × (taking_note (Some (take_of s unit)) controller s
      ≡ request_note (Calling channel s.next_call (timestamp_in logon.authenticator)) (Some ask.place))
  pub asks_set : (controller : ℕ) (s : Requester) (unit : RpcUnit) (channel : ChannelIdentity) (computer : List ℕ) (frames : List (List ℕ)) →
      standing_channel controller s ≡ Some channel → (will : WillSet s computer) → frames_sent (take_of s unit).taken ≡ Some frames →
      AreFramesOfSet s.next_call will.call frames
      × (taking_note (Some (take_of s unit)) controller s
      ≡ request_note (Calling channel s.next_call will.call.authenticator.timestamp) None)
  pub keeps : (controller : ℕ) (name : List ℕ) (now link : ℕ) (bytes : List ℕ) (before after : Desk) (talk : ControllerTalk) (left : List (List ℕ))
      (channel : ChannelIdentity) → HasChannel before.work.computers channel →
      IsOfOther channel.computer (opened_unit controller (hear link bytes talk) before) →
      work_after ((controller_server name now link).unit bytes before talk left) ≡ Some after → HasChannel after.work.computers channel
  pub passes : (j : Judging) (computers : Computers) (channel : ChannelIdentity) → j.checks ≡ checked_on (computer_named j.asked) computers →
      j.controller ≡ channel.controller → computer_named j.asked ≡ Some channel.computer → HasChannel computers channel →
      has_passed j.how ≡ true → judged_answer j ≡ passing (Some channel) j
  pub takes : (controller : ℕ) (s : Requester) (unit : RpcUnit) (place : ℕ) → place_answered (take_of s unit).taken ≡ Some place →
      (channel : ChannelIdentity) × (standing_channel controller s ≡ Some channel)
      × (standing_channel controller (take_of s unit).state ≡ Some channel)
      × (taking_note (Some (take_of s unit)) controller s ≡ passed_note channel (Some place) (Some (number_in s.turn)))
  pub sets : (controller : ℕ) (s : Requester) (unit : RpcUnit) → (take_of s unit).taken ≡ taken.Set →
      (channel : ChannelIdentity) × (standing_channel controller s ≡ Some channel)
      × (standing_channel controller (take_of s unit).state ≡ Some channel)
      × (taking_note (Some (take_of s unit)) controller s ≡ passed_note channel None (Some (number_in s.turn)))

-- A credential that passes on a channel in a unit that was made for it is no clash.
abbrev pub OwnUnitsAreNoClash : Type 0
OwnUnitsAreNoClash =
    (channel other : ChannelIdentity) (unit : ℕ) (sent : List Sent) → sent_channel (slice_get sent unit) ≡ Some other → SameChannel other channel →
    clashes (Some channel) (Some unit) sent ≡ false

-- the channel that a unit was made for, where what came was a unit of the bag
abbrev pub channel_marked : Option ℕ → List Sent → Option ChannelIdentity
channel_marked None sent = None
channel_marked (Some unit) sent = sent_channel (slice_get sent unit)

-- There is no clash where the units of an exchange come to whom they were made for: at a controller that expects an
-- opening, at the member whose channel its reply opens, at a controller that has the channel of a call that passes, and
-- at the member that takes the answer on it, or learns that the secret is set.
pub record ExchangesHaveNoClash : Type 0 where
  pub opening : (s : Requester) (client server : List ℕ) (w : Where) (line : Line) (before : Desk) (after : Option Desk) (sent : List Sent) →
      Expects before s client server → channel_marked (unit_in w.source) sent ≡ Some (half_channel w.controller s client server) →
      clashes (call_answer (served_call (auth_call s.caller client server)) line w before after).checked (unit_in w.source) sent ≡ false
  pub opened : (controller : ℕ) (s : Requester) (unit : RpcUnit) (client server : List ℕ) (number : Option ℕ) (sent : List Sent) →
      s.standing ≡ standing.Half client server → (take_of s unit).taken ≡ taken.Opened →
      channel_marked number sent ≡ Some (half_channel controller s client server) →
      clashes (taking_note (Some (take_of s unit)) controller s).checked number sent ≡ false
  pub calling : (j : Judging) (computers : Computers) (channel : ChannelIdentity) (sent : List Sent) →
      j.checks ≡ checked_on (computer_named j.asked) computers → j.controller ≡ channel.controller →
      computer_named j.asked ≡ Some channel.computer → HasChannel computers channel → has_passed j.how ≡ true →
      channel_marked (unit_in j.source) sent ≡ Some channel → clashes (judged_answer j).checked (unit_in j.source) sent ≡ false
  pub answered : (controller : ℕ) (s : Requester) (unit : RpcUnit) (place : ℕ) (channel : ChannelIdentity) (number : Option ℕ) (sent : List Sent) →
      standing_channel controller s ≡ Some channel → place_answered (take_of s unit).taken ≡ Some place →
      channel_marked number sent ≡ Some channel → clashes (taking_note (Some (take_of s unit)) controller s).checked number sent ≡ false
  pub set : (controller : ℕ) (s : Requester) (unit : RpcUnit) (channel : ChannelIdentity) (number : Option ℕ) (sent : List Sent) →
      standing_channel controller s ≡ Some channel → (take_of s unit).taken ≡ taken.Set →
      channel_marked number sent ≡ Some channel → clashes (taking_note (Some (take_of s unit)) controller s).checked number sent ≡ false

pub record ChannelsAreNamedAlike : Type 0 where
  pub challenges : ChallengesAreShared
  pub openings : OpeningsAreNamedAlike
  pub standings : ChannelsStandAsAsked
  pub calls : CallsAreNamedAlike
  pub own : OwnUnitsAreNoClash
  pub exchanges : ExchangesHaveNoClash

-- ---- each unit has its mark

-- the links of the sends among actions, in order
abbrev pub link_sent : Action → List ℕ
link_sent (action.Keep bytes) = []
link_sent (action.Send link bytes) = link ∷ []
link_sent (action.Dial peer) = []
link_sent (action.Close link cause) = []
link_sent (action.Told link outcome) = []
link_sent (action.Judged how) = []

abbrev pub links_sent : List Action → List ℕ
links_sent actions = flat_map link_sent actions

-- a unit on the link of a member's turn
abbrev pub turn_served : List ℕ → AtTurn → TurnTalk → List (List ℕ) → ServedUnit AtTurn TurnTalk
turn_served bytes at talk left =
    record { bytes = bytes; work = at; talk = talk; left = left; part = turn_server.unit bytes at talk left }

-- by whether the unit lets a request out: one unit is sent, on the link of the turn; else nothing is, or the link is
-- closed
abbrev pub IsMarkedBy : Bool → Option TurnTalk → AtTurn → AtTurn → Type 0
IsMarkedBy true talk before after = links_sent after.work.actions ≡ links_sent before.work.actions ++ before.link ∷ []
IsMarkedBy false None before after = Unit {0}
IsMarkedBy false (Some talk) before after = links_sent after.work.actions ≡ links_sent before.work.actions

-- Whatever bytes come at a controller that asks nobody, it sends on their link alone, one unit for each mark; a unit on
-- the link of a member's turn lets one unit out on that link where it has a mark. In which order marks are given is
-- said by `answered_marks` and `turn_marks`; that what goes out comes in that order, by `RepliesAreSentAsJudged`
-- (`Replies`) and `RequestsComeFirst` (`CallLogons`).
pub record UnitsHaveTheirMarks : Type 0 where
  pub controller : (c : ControllerState) (number : ℕ) (piece : List ℕ) (now : ℕ) (left : List (List ℕ)) (w : Where) (actions : List Action) →
      (controller_step c (event.Bytes number piece) now left).answer ≡ Ok actions →
      links_sent actions ≡ map (λ (mark : Mark). number) (answered_marks (map (answer_on number w) (units_of_controller c number piece now left)))
  pub member : (controller : ℕ) (bytes : List ℕ) (before after : AtTurn) (talk : TurnTalk) (left : List (List ℕ)) →
      work_after (turn_server.unit bytes before talk left) ≡ Some after →
      IsMarkedBy (turn_note controller (turn_served bytes before talk left)).sends (talk_after (turn_server.unit bytes before talk left)) before after

-- ---- what a client sends

-- the bytes that are sent among actions, in order
abbrev pub sent_by : Action → List (List ℕ)
sent_by (action.Keep bytes) = []
sent_by (action.Send link bytes) = bytes ∷ []
sent_by (action.Dial peer) = []
sent_by (action.Close link cause) = []
sent_by (action.Told link outcome) = []
sent_by (action.Judged how) = []

abbrev pub sends_in : List Action → List (List ℕ)
sends_in actions = flat_map sent_by actions

-- the bytes are those of a request, as it is sent at that level by the session of some terms
pub record IsRequestSent (level : ℕ) (bytes : List ℕ) : Type 0 where
  pub number : ℕ
  pub opnum : ℕ
  pub stub : List ℕ
  pub limit : ℕ
  pub terms : Terms
  pub sending : Sending
  pub sends : send_call terms.session level (request_of number 0 opnum stub) limit ≡ Some sending
  pub is : bytes ≡ sending.bytes

-- Nothing is sent; or first the auth3 of the one message that was written down, and then requests.
abbrev pub IsWrittenDown : ℕ → List (List ℕ) → List MessageMade → Type 0
IsWrittenDown level [] made = Unit {0}
IsWrittenDown level (first ∷ later) [] = ⊥
IsWrittenDown level (first ∷ later) (one ∷ []) = (first ≡ written (auth3_unit level one.bytes)) × AllByRecursion (IsRequestSent level) later
IsWrittenDown level (first ∷ later) (one ∷ other ∷ made) = ⊥

-- the key is that of the one message that was written down
abbrev pub IsKeyOf : List ℕ → List MessageMade → Type 0
IsKeyOf key [] = ⊥
IsKeyOf key (one ∷ []) = one.key ≡ key
IsKeyOf key (one ∷ other ∷ made) = ⊥

-- the exported session key that a client keeps, of an open link that is past the CHALLENGE, or of its outcome
abbrev pub key_in_phase : Phase → Option (List ℕ)
key_in_phase Bound = None
key_in_phase (Asked terms question) = Some terms.key

abbrev pub key_on : ClientStanding → Option (List ℕ)
key_on Idle = None
key_on Dialling = None
key_on (On link) = key_in_phase link.talk.phase

abbrev pub key_in_running : Option ClientRunning → Option (List ℕ)
key_in_running None = None
key_in_running (Some running) = key_on running.standing

abbrev pub key_in_outcome : Option ClientOutcome → Option (List ℕ)
key_in_outcome None = None
key_in_outcome (Some (In name key echoed)) = Some key
key_in_outcome (Some _) = None

abbrev pub IsKeptOf : Option (List ℕ) → List MessageMade → Type 0
IsKeptOf None made = Unit {0}
IsKeptOf (Some key) made = IsKeyOf key made

-- What is written down of a step of a client that waits for the CHALLENGE: what it sends first is the message, and a
-- key that it keeps then, or is let in with, is the exported one of that message.
pub record IsStepWrittenDown (level : ℕ) (actions : List Action) (after : ClientState) (made : List MessageMade) : Type 0 where
  pub sends : IsWrittenDown level (sends_in actions) made
  pub keeps : IsKeptOf (key_in_running after.running) made
  pub ends : IsKeptOf (key_in_outcome after.outcome) made

-- a key that is kept, if one is, is that
abbrev pub IsSameKey : List ℕ → Option (List ℕ) → Type 0
IsSameKey key None = Unit {0}
IsSameKey key (Some other) = other ≡ key

-- a client that has no outcome, with its link open
pub record IsOn (s : ClientState) (running : ClientRunning) (link : LinkState ClientTalk) : Type 0 where
  pub none : s.outcome ≡ None
  pub runs : s.running ≡ Some running
  pub stands : running.standing ≡ On link

-- A client's message is written down wherever it sends one: its link waits for the answer to its bind until it does,
-- and afterwards it sends requests alone, makes no other message, and keeps its key.
pub record ClientsWriteDownWhatTheySend : Type 0 where
  pub answers : (s : ClientState) (running : ClientRunning) (link : LinkState ClientTalk) (number : ℕ) (piece : List ℕ) (now : ℕ) (left : List (List ℕ))
      (actions : List Action) (w : ClientAt) → IsOn s running link → link.talk.phase ≡ Bound →
      (step_of s (event.Bytes number piece) now left).answer ≡ Ok actions →
      IsStepWrittenDown running.task.level actions (step_of s (event.Bytes number piece) now left).state
      (flat_map (made_note w) (units_of_client s number piece now left))
  pub later : (s : ClientState) (running : ClientRunning) (link : LinkState ClientTalk) (number : ℕ) (piece : List ℕ) (now : ℕ) (left : List (List ℕ))
      (actions : List Action) (w : ClientAt) (terms : Terms) (question : Question) → IsOn s running link → link.talk.phase ≡ Asked terms question →
      (step_of s (event.Bytes number piece) now left).answer ≡ Ok actions →
      (flat_map (made_note w) (units_of_client s number piece now left) ≡ [])
      × AllByRecursion (IsRequestSent running.task.level) (sends_in actions)
      × IsSameKey terms.key (key_in_running (step_of s (event.Bytes number piece) now left).state.running)
      × IsSameKey terms.key (key_in_outcome (step_of s (event.Bytes number piece) now left).state.outcome)
