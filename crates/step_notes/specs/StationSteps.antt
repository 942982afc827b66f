-- What is written down of a station's bytes (`StationNotes`) is what its machine does at them: it sends what is noted,
-- takes a reply for its credential where that is noted, and what is seen of its channel changes as at a member
-- (`Effects` of channel_client). So whatever is reasoned of the channels of members can be had of those of stations.
use Rattle.std.specs.Prelude.{ℕ, ◌≡◌, ◌⊎◌, ◌++◌, Bool, true, false, List, [], ◌∷◌, map, Option, Some, None, Ok}
use Rattle.authenticators.specs.SecureChannels.{SecureChannelState, channel_of}
use Rattle.authenticators.specs.Channels.{ChannelIdentity}
use Rattle.wire_base.specs.declared.authenticator.Authenticator.{Authenticator}
use Rattle.outside.specs.declared.action.Action.{Action}
use Rattle.outside.specs.declared.action.DropCause.{DropCause}
use Rattle.outside.specs.declared.event.Event.TheVariants as event
use Rattle.rpc_units.specs.Stream.{cut_stream}
use Rattle.logon_stubs.specs.declared.calls.LogonReply.{LogonReply}
use Rattle.logon_stubs.specs.declared.calls.Reply.{Reply}
use Rattle.logon_stubs.specs.declared.calls.Reply.TheVariants as reply
use Rattle.logon_stubs.specs.declared.info.SamInfo.{SamInfo}
use Rattle.end_links.specs.Links.{LinkState}
use Rattle.channel_client.specs.Effects.{Answers, Begins, Calls, Changes, Counts, Effect, Moves, Opens, View}
use Rattle.channel_events.specs.Marks.{Calling, Mark, Opening, Plain}
use Rattle.channel_events.specs.Requests.{fresh_view}
use Rattle.interactive_station.specs.Calls.{request_number}
use Rattle.interactive_station.specs.Machine.{fresh_link, request_bytes, step_of}
use Rattle.interactive_station.specs.Moves.{call_in}
use Rattle.interactive_station.specs.Replies.{Course, Grants, brings_in, piece_course, reply_course}
use Rattle.interactive_station.specs.Sends.{sent_at}
use Rattle.interactive_station.specs.State.{StationState}
use Rattle.interactive_station.specs.declared.outcome.StationOutcome.{StationOutcome}
use Rattle.interactive_station.specs.declared.outcome.StationOutcome.TheVariants.{BadPeer, Off, Refused}
use Rattle.interactive_station.specs.declared.plan.StationPlan.{StationPlan}
use Rattle.interactive_station.specs.declared.state.StationCall.{StationCall}
use Rattle.interactive_station.specs.declared.state.StationCall.TheVariants.{Authenticate, Challenge, Logoff, Logon}
use Rattle.interactive_station.specs.declared.state.StationLink.{StationLink}
use Rattle.interactive_station.specs.declared.state.StationLink.TheVariants.{Dialling, On}
use Rattle.interactive_station.specs.declared.state.StationRunning.{StationRunning}
use Rattle.interactive_station.specs.declared.state.StationStep.TheVariants.{Bound}
use Rattle.interactive_station.specs.declared.state.StationTalk.{StationTalk}
use Rattle.step_notes.specs.ChannelNames.{links_sent}
use Rattle.step_notes.specs.Marking.{turn_marks}
use Rattle.step_notes.specs.StationNotes.{channel_of_call, mark_of_call, reply_passes, station_channel, station_notes, view_at_step, view_of_station}

-- ---- what goes out

-- the marks of what goes out at a step, by whether the answer to the bind allows the request
abbrev pub marks_by : (limit : Option ℕ) → Mark → List Mark
marks_by None mark = []
marks_by (Some limit) mark = mark ∷ []

-- the units that go out at a step, each with its link
abbrev pub units_by : (limit : Option ℕ) → ℕ → StationPlan → StationCall → List (ℕ × List ℕ)
units_by None link plan c = []
units_by (Some limit) link plan c = (link, request_bytes c plan limit) ∷ []

-- Where bytes come, a station sends on their link alone, one unit for each mark. On the station's own link that is all
-- of its call's request, where the answer to the bind is among the bytes, and it is made for what the call says; at
-- other bytes nothing is sent or noted.
pub record StationsSendAsNoted : Type 0 where
  pub links : (controller : ℕ) (s : StationState) (link : ℕ) (piece : List ℕ) (now : ℕ) (left : List (List ℕ)) (actions : List Action) →
      (step_of s (event.Bytes link piece) now left).answer ≡ Ok actions →
      links_sent actions ≡ map (λ (mark : Mark). link) (turn_marks (station_notes controller s link piece))
  pub requests : (controller : ℕ) (s : StationState) (running : StationRunning) (own : LinkState StationTalk) (piece : List ℕ) (now : ℕ) (left : List (List ℕ)) →
      s.running ≡ Some running → s.outcome ≡ None → running.standing ≡ On own →
      (sent_at s (event.Bytes own.talk.link piece) now left
      ≡ units_by (brings_in (cut_stream (own.rest ++ piece)) own.talk).limit own.talk.link running.task (call_in own.talk.step))
      × (turn_marks (station_notes controller s own.talk.link piece)
      ≡ marks_by (brings_in (cut_stream (own.rest ++ piece)) own.talk).limit (mark_of_call controller running.task (call_in own.talk.step)))

-- ---- what is taken

-- The station goes on by a reply with a call on that channel.
pub record GoesOnWith (controller : ℕ) (plan : StationPlan) (channel : Option ChannelIdentity) (course : Course) : Type 0 where
  pub next : StationCall
  pub dials : course.standing ≡ Dialling (Some next)
  pub alike : channel_of_call controller plan next ≡ channel
  pub runs : course.outcome ≡ None

-- the station ends with a status that the reply has
pub record IsRefusedBy (course : Course) : Type 0 where
  pub status : ℕ
  pub ends : course.outcome ≡ Some (Refused status)

-- What a station does at a reply that it takes for its credential: it goes on with the channel of the call, or ends
-- with a status, or as its user is off.
abbrev pub IsTaken : ℕ → StationPlan → StationCall → Course → Type 0
IsTaken controller plan (Challenge client) course = ⊥
IsTaken controller plan (Authenticate client server) course =
    GoesOnWith controller plan (channel_of_call controller plan (Authenticate client server)) course
IsTaken controller plan (Logon o authenticator) course =
    GoesOnWith controller plan (channel_of_call controller plan (Logon o authenticator)) course ⊎ IsRefusedBy course
IsTaken controller plan (Logoff o authenticator domain user) course =
    (course.outcome ≡ Some (Off domain user)) ⊎ IsRefusedBy course

-- the station ends, and blames the controller
pub record IsBlamed (course : Course) : Type 0 where
  pub cause : DropCause
  pub ends : course.outcome ≡ Some (BadPeer cause)

-- What a station does at a reply that it doesn't take for its credential. The first call's reply has none.
abbrev pub IsNotTaken : StationCall → Course → Type 0
IsNotTaken (Challenge client) course = Unit {0}
IsNotTaken (Authenticate client server) course = IsBlamed course
IsNotTaken (Logon o authenticator) course = IsBlamed course
IsNotTaken (Logoff o authenticator domain user) course = IsBlamed course

abbrev pub ComesTo : (is_passed : Bool) → ℕ → StationPlan → StationCall → Course → Type 0
ComesTo false controller plan c course = IsNotTaken c course
ComesTo true controller plan c course = IsTaken controller plan c course

-- A reply is noted as taken exactly where the station's own machine takes it for its credential. A reply grants the
-- Logon exactly where it is taken and has status 0.
pub record StationsTakeAsNoted : Type 0 where
  pub comes : (controller : ℕ) (plan : StationPlan) (c : StationCall) (r : Reply) (link now : ℕ) →
      ComesTo (reply_passes c r plan.secret) controller plan c (reply_course c r link plan now)
  pub granted : (o : SecureChannelState) (authenticator : Authenticator) (r : LogonReply) (info : SamInfo) (secret : List ℕ) → Grants o r info →
      reply_passes (Logon o authenticator) (reply.Logon r) secret ≡ true
  pub grants : (o : SecureChannelState) (authenticator : Authenticator) (r : LogonReply) (secret : List ℕ) →
      reply_passes (Logon o authenticator) (reply.Logon r) secret ≡ true → r.status ≡ 0 → (info : SamInfo) × Grants o r info

-- ---- what is seen

-- what is seen changes by these effects, one after the other
abbrev pub ChangesBy : List Effect → View → View → Type 0
ChangesBy [] u v = v ≡ u
ChangesBy (effect ∷ effects) u v = (w : View) × Changes effect u w × ChangesBy effects w v

-- what a request that goes out does to the channel
abbrev pub effect_of_request : ℕ → StationPlan → StationCall → Effect
effect_of_request controller plan (Challenge client) = Counts
effect_of_request controller plan (Authenticate client server) = Counts
effect_of_request controller plan (Logon o authenticator) =
    Calls (channel_of controller plan.computer o) (request_number (Logon o authenticator))
effect_of_request controller plan (Logoff o authenticator domain user) =
    Calls (channel_of controller plan.computer o) (request_number (Logoff o authenticator domain user))

-- its mark, by its effect and by what is seen before it: an opening is under way with the channel's challenge, and a
-- call is made on the channel that stands, each with the number that is next
abbrev pub IsMarkOf : Mark → Effect → View → Type 0
IsMarkOf Plain Counts u = Unit {0}
IsMarkOf (Opening channel number) Counts u = (u.stands ≡ None) × (u.opening ≡ Some channel.client) × (number ≡ u.call)
IsMarkOf (Calling channel number timestamp) (Calls c called) u = (channel ≡ c) × (number ≡ called)
IsMarkOf _ _ u = ⊥

-- What a reply by which the station goes on does to the channel: the answer to the call is taken, or the channel
-- stands, and the turn of the next call starts.
abbrev pub effects_to : ℕ → StationPlan → (now next : StationCall) → List Effect
effects_to controller plan (Challenge client) (Authenticate one server) = Counts ∷ []
effects_to controller plan (Authenticate client server) (Logon o authenticator) =
    Opens (station_channel controller plan client server)
    ∷ Moves (channel_of controller plan.computer o) authenticator.timestamp ∷ []
effects_to controller plan (Logon o authenticator) (Logoff later next domain user) =
    Answers (channel_of controller plan.computer o) (request_number (Logon o authenticator))
    ∷ Moves (channel_of controller plan.computer later) next.timestamp ∷ []
effects_to controller plan _ _ = []

abbrev pub effects_then : ℕ → StationPlan → StationCall → (after : StationLink) → List Effect
effects_then controller plan c (Dialling (Some next)) = effects_to controller plan c next
effects_then controller plan c _ = []

abbrev pub effects_by : (limit : Option ℕ) → ℕ → StationPlan → StationCall → (after : StationLink) → List Effect
effects_by None controller plan c after = effects_then controller plan c after
effects_by (Some limit) controller plan c after = effect_of_request controller plan c ∷ effects_then controller plan c after

-- with its outcome a station holds nothing any more
abbrev pub IsSeenThen : Option StationOutcome → List Effect → View → View → Type 0
IsSeenThen None effects u v = ChangesBy effects u v
IsSeenThen (Some how) effects u v = v ≡ fresh_view

abbrev pub view_in_running : ℕ → Option StationRunning → View
view_in_running controller None = fresh_view
view_in_running controller (Some running) = view_of_station controller running.task running.standing

-- What is seen of a station at each event that moves it: its first link opens, which begins an opening with the
-- challenge that is drawn; a later link opens, for which the bind's number was taken before; and bytes come.
pub record StationsHaveEffects : Type 0 where
  pub begins : (controller : ℕ) (plan : StationPlan) (client : List ℕ) (link : ℕ) →
      Changes (Begins client) (view_of_station controller plan (Dialling None))
      (view_of_station controller plan (On (fresh_link (Challenge client) link)))
  pub dialled : (controller : ℕ) (plan : StationPlan) (c : StationCall) (link : ℕ) →
      view_of_station controller plan (On (fresh_link c link)) ≡ view_of_station controller plan (Dialling (Some c))
  pub marks : (controller : ℕ) (plan : StationPlan) (c : StationCall) →
      IsMarkOf (mark_of_call controller plan c) (effect_of_request controller plan c) (view_at_step controller plan (Bound c))
  pub bytes : (controller : ℕ) (s : StationState) (running : StationRunning) (own : LinkState StationTalk) (piece : List ℕ) (now : ℕ) (left : List (List ℕ)) →
      s.running ≡ Some running → s.outcome ≡ None → running.standing ≡ On own →
      IsSeenThen (step_of s (event.Bytes own.talk.link piece) now left).state.outcome
      (effects_by (brings_in (cut_stream (own.rest ++ piece)) own.talk).limit controller running.task (call_in own.talk.step)
      (piece_course own piece running.task now).standing)
      (view_of_station controller running.task (On own))
      (view_in_running controller (step_of s (event.Bytes own.talk.link piece) now left).state.running)

pub record StationsAreNoted : Type 0 where
  pub sends : StationsSendAsNoted
  pub takes : StationsTakeAsNoted
  pub sees : StationsHaveEffects
