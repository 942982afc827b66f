-- What holds of a member's links, whatever comes (MS-NLMP 3.2.5.1.2; how outcomes are told is this project's own
-- choice).
use Rattle.std.specs.Prelude.{ℕ, ◌≡◌, ◌==◌, Bool, true, false, IsTrue, List, [], ◌∷◌, ◌++◌, map, Option, Some, None, Result, Ok, Err}
use Rattle.std.specs.List.{AllByRecursion}
use Rattle.outside.specs.declared.action.Action.{Action}
use Rattle.outside.specs.declared.action.Action.TheVariants as action
use Rattle.outside.specs.declared.action.Outcome.{Outcome}
use Rattle.outside.specs.declared.action.Outcome.TheVariants as outcome
use Rattle.outside.specs.declared.event.Event.{Event}
use Rattle.outside.specs.declared.event.Event.TheVariants as event
use Rattle.wire_base.specs.Maps.{lookup, same_number}
use Rattle.rpc_units.specs.declared.refused.JoinRefused.{JoinRefused}
use Rattle.rpc_units.specs.declared.refused.UnitRefused.{UnitRefused}
use Rattle.rpc_units.specs.declared.unit.Body.{Body}
use Rattle.rpc_units.specs.declared.unit.Body.TheVariants.{Request}
use Rattle.rpc_units.specs.declared.unit.Unit.{Unit as RpcUnit}
use Rattle.rpc_units.specs.Joining.{answer_of, open_after}
use Rattle.rpc_units.specs.Reading.{unit_of}
use Rattle.rpc_units.specs.Stream.{cut_stream}
use Rattle.logon_stubs.specs.declared.info.NetworkInfo.{NetworkInfo}
use Rattle.logon_stubs.specs.declared.info.SamInfo.{SamInfo}
use Rattle.logon_stubs.specs.declared.info.Verdict.TheVariants as verdict
use Rattle.channel_client.specs.declared.answers.Taken.TheVariants as taken
use Rattle.channel_client.specs.declared.state.Waiting.{Waiting}
use Rattle.channel_client.specs.Effects.{IsCoherent}
use Rattle.channel_client.specs.State.{Requester}
use Rattle.channel_client.specs.Machine.{ask_of, lose_of, start_of, take_of}
use Rattle.channel_client.specs.Turns.{is_out}
use Rattle.end_links.specs.Links.{LinkState}
use Rattle.end_loop.specs.Acts.{is_made}
use Rattle.end_loop.specs.Runs.{actions_of}
use Rattle.member_server.specs.declared.outcomes.Ending.{Ending}
use Rattle.member_server.specs.declared.outcomes.Ending.TheVariants as ending
use Rattle.member_server.specs.declared.plan.MemberPlan.{MemberPlan}
use Rattle.member_server.specs.declared.state.AtLink.{AtLink}
use Rattle.member_server.specs.declared.state.Bound.{Bound}
use Rattle.channel_turns.specs.declared.state.Dialling.{Dialling}
use Rattle.channel_turns.specs.declared.state.Dialling.TheVariants as dialling
use Rattle.member_server.specs.declared.state.Logon.{Logon}
use Rattle.member_server.specs.declared.state.Logons.{Logons}
use Rattle.member_server.specs.declared.state.Phase.{Phase}
use Rattle.member_server.specs.declared.state.Phase.TheVariants as phase
use Rattle.member_server.specs.declared.state.Running.{Running}
use Rattle.member_server.specs.declared.state.Talk.{Talk}
use Rattle.channel_turns.specs.declared.state.TurnTalk.{TurnTalk}
use Rattle.member_server.specs.declared.state.Work.{Work}
use Rattle.member_server.specs.Machine.{fresh_member, step_of}
use Rattle.member_server.specs.Outcomes.{end_logon, outcome_of, tell_outcome, reach_waiting, waiting_at, waiting_on, without_link, without_logon}
use Rattle.member_server.specs.State.{State}
use Rattle.member_server.specs.Units.{bound_unit}

-- ---- a challenge serves one AUTHENTICATE

-- the logon of the link is asked, or no controller will answer it. An AUTHENTICATE comes to one of these two, and `In`
-- comes of a controller's answer alone
abbrev pub is_past : Phase → Bool
is_past phase.Fresh = false
is_past (phase.Challenged bound challenge flags) = false
is_past (phase.Asked bound place held) = true
is_past (phase.In on) = false
is_past (phase.Out bound status) = true

abbrev pub IsPast : Option Talk → Type 0
IsPast None = Unit {0}
IsPast (Some talk) = IsTrue (is_past talk.phase)

-- Whatever unit comes on a link that was sent a CHALLENGE, the link is closed then, or its challenge is past.
pub record ServesOneMessage : Type 0 where
  pub past : (bound : Bound) (challenge : List ℕ) (flags : ℕ) (bytes : List ℕ) (joiner : Option RpcUnit) (at : AtLink) →
      IsPast (bound_unit (phase.Challenged bound challenge flags) bytes joiner at).1

-- ---- an outcome reaches the link that waits for it, and no other

pub record ReachesItsLink : Type 0 where
  -- where no logon of that place is kept, nothing is told
  pub unknown : (place : ℕ) (how : Ending) (work : Work) → lookup same_number place work.logons.asked ≡ None →
      end_logon place how work ≡ without_logon place work
  -- one that is kept is told, to the number that it came on. Where no link of that number waits for this place, that is
  -- all: a link that was opened later stays as it is
  pub stays : (place : ℕ) (how : Ending) (logon : Logon) (work : Work) → lookup same_number place work.logons.asked ≡ Some logon →
      waiting_on place (lookup same_number logon.link work.links) ≡ None →
      end_logon place how work ≡ tell_outcome how logon (without_logon place work)
  -- where one waits, it is in or out then, and what is held on it is served
  pub turns : (place : ℕ) (how : Ending) (logon : Logon) (link : LinkState Talk) (waits : Bound × List (List ℕ)) (work : Work) →
      lookup same_number place work.logons.asked ≡ Some logon → lookup same_number logon.link work.links ≡ Some link →
      waiting_at place link.talk.phase ≡ Some waits →
      end_logon place how work ≡ reach_waiting waits link how logon (without_link logon.link (tell_outcome how logon (without_logon place work)))

-- ---- what follows a link that was closed, or a dial's answer

abbrev pub IsRequestBody : Body → Type 0
IsRequestBody (Request hint context opnum stub) = Unit {0}
IsRequestBody _ = ⊥

abbrev pub IsRequestUnit : Result RpcUnit UnitRefused → Type 0
IsRequestUnit (Err why) = ⊥
IsRequestUnit (Ok unit) = IsRequestBody unit.body

-- each of the units is a request
abbrev pub AreRequests : List (List ℕ) → Type 0
AreRequests units = AllByRecursion (λ (bytes : List ℕ). IsRequestUnit (unit_of bytes)) units

-- what is held on a link in a phase are requests
abbrev pub HoldsRequests : Phase → Type 0
HoldsRequests phase.Fresh = Unit {0}
HoldsRequests (phase.Challenged bound challenge flags) = Unit {0}
HoldsRequests (phase.Asked bound place held) = AreRequests held
HoldsRequests (phase.In on) = Unit {0}
HoldsRequests (phase.Out bound status) = Unit {0}

-- what is held on each link is requests
abbrev pub HoldRequests : List (ℕ × LinkState Talk) → Type 0
HoldRequests links = AllByRecursion (λ (entry : ℕ × LinkState Talk). HoldsRequests entry.1.talk.phase) links

-- the action closes no link
abbrev pub ClosesNoLink : Action → Type 0
ClosesNoLink (action.Close link cause) = ⊥
ClosesNoLink _ = Unit {0}

abbrev pub CloseNoLinks : List Action → Type 0
CloseNoLinks actions = AllByRecursion ClosesNoLink actions

-- A step for a link that was closed, or for a dial's answer, closes no link, where what is held are requests.
pub record ClosesNothing : Type 0 where
  pub made : (s : State) (running : Running) (what : Event) (now : ℕ) (left : List (List ℕ)) → s.running ≡ Some running →
      HoldRequests running.links → is_made what ≡ true → CloseNoLinks (actions_of (step_of s what now left))

-- ---- what is held are requests, whatever comes

abbrev pub HoldsAfter : Option Talk → Type 0
HoldsAfter None = Unit {0}
HoldsAfter (Some talk) = HoldsRequests talk.phase

abbrev pub HoldUnlessStopped : Option Running → Type 0
HoldUnlessStopped None = Unit {0}
HoldUnlessStopped (Some running) = HoldRequests running.links

pub record KeepsRequests : Type 0 where
  pub fresh : (plan : MemberPlan) → HoldUnlessStopped (fresh_member plan).running
  pub keeps : (s : State) (running : Running) (what : Event) (now : ℕ) (left : List (List ℕ)) → s.running ≡ Some running →
      HoldRequests running.links → HoldUnlessStopped (step_of s what now left).state.running

-- ---- what becomes of the shared channel

-- what a member does with it
pub data Doing : Type 0 where
  -- a logon is asked
  Asks : (info : NetworkInfo) → Doing
  -- a turn starts, with this timestamp and this challenge
  Starts : (timestamp : ℕ) (challenge : List ℕ) → Doing
  -- a unit is taken
  Takes : (unit : RpcUnit) → Doing
  -- the turn is lost
  Loses : Doing

abbrev pub state_done : Doing → Requester → Requester
state_done (Asks info) c = (ask_of c info).state
state_done (Starts timestamp challenge) c = (start_of c timestamp challenge).state
state_done (Takes unit) c = (take_of c unit).state
state_done Loses c = (lose_of c).state

-- a requester behind all that is done, in order
abbrev pub state_after : List Doing → Requester → Requester
state_after [] c = c
state_after (doing ∷ doings) c = state_after doings (state_done doing c)

-- ---- what bytes on an accepted link change

-- whether a turn is on the link of that number
abbrev pub is_on : ℕ → Dialling → Bool
is_on number dialling.Nothing = false
is_on number (dialling.Waits turn frames) = false
is_on number (dialling.On other said) = other == number

abbrev pub StaysUnlessStopped : ℕ → List (ℕ × LinkState Talk) → Option Running → Type 0
StaysUnlessStopped other links None = Unit {0}
StaysUnlessStopped other links (Some running) = lookup same_number other running.links ≡ lookup same_number other links

-- Bytes on a link that isn't the turn's leave every other link as it is.
pub record LeavesOtherLinks : Type 0 where
  pub stays : (s : State) (running : Running) (number other : ℕ) (piece : List ℕ) (now : ℕ) (left : List (List ℕ)) → s.running ≡ Some running →
      is_on number running.dialling ≡ false → same_number number other ≡ false →
      StaysUnlessStopped other running.links (step_of s (event.Bytes number piece) now left).state.running

-- ---- who is told that he is in

-- a unit that is whole, before those that are later; behind one that can't be joined nothing is heard
abbrev pub then_whole : Result (Option RpcUnit) JoinRefused → List RpcUnit → List RpcUnit
then_whole (Err why) later = []
then_whole (Ok None) later = later
then_whole (Ok (Some unit)) later = unit ∷ later

abbrev pub whole_by : Result RpcUnit UnitRefused → Option RpcUnit → (Option RpcUnit → List RpcUnit) → List RpcUnit
whole_by (Err why) joiner later = []
whole_by (Ok unit) joiner later = then_whole (answer_of joiner unit) (later (open_after joiner unit))

-- the whole units that the units on a link make, behind what is open
abbrev pub whole_units : List (List ℕ) → Option RpcUnit → List RpcUnit
whole_units [] joiner = []
whole_units (bytes ∷ units) joiner = whole_by (unit_of bytes) joiner (λ after. whole_units units after)

-- the whole units that a piece brings on the link of the turn
abbrev pub heard_if : (is_turn_link : Bool) (said : LinkState TurnTalk) (piece : List ℕ) → List RpcUnit
heard_if false said piece = []
heard_if true said piece = whole_units (cut_stream (said.rest ++ piece)).units said.talk.joiner

abbrev pub heard_from : ℕ → List ℕ → Dialling → List RpcUnit
heard_from link piece dialling.Nothing = []
heard_from link piece (dialling.Waits turn frames) = []
heard_from link piece (dialling.On number said) = heard_if (number == link) said piece

-- the whole units that come on the link of the turn
abbrev pub heard_in : Event → Dialling → List RpcUnit
heard_in (event.Bytes link piece) how = heard_from link piece how
heard_in _ how = []

-- A controller granted the logon of a place, in a unit that came on the link of the turn and that the channel took
-- behind those before it, and the logon of that place was kept when the step began.
pub record IsGranted (running : Running) (what : Event) (link : ℕ) (told : Outcome) : Type 0 where
  pub earlier : List RpcUnit
  pub unit : RpcUnit
  pub later : List RpcUnit
  pub place : ℕ
  pub info : SamInfo
  pub logon : Logon
  pub hears : heard_in what running.dialling ≡ earlier ++ unit ∷ later
  pub takes : (take_of (state_after (map (λ (u : RpcUnit). Takes u) earlier) running.logons.channel) unit).taken
      ≡ taken.Answer place (verdict.Granted info)
  pub kept : lookup same_number place running.logons.asked ≡ Some logon
  pub number : link ≡ logon.link
  pub is : told ≡ outcome_of (ending.Granted info) logon

abbrev pub IsTold : Running → Event → Action → Type 0
IsTold running what (action.Told link (outcome.In domain user key)) = IsGranted running what link (outcome.In domain user key)
IsTold running what _ = Unit {0}

-- `In` is told only where the channel took a granted answer for the place of that logon.
pub record LetsInTheGranted : Type 0 where
  pub told : (s : State) (running : Running) (what : Event) (now : ℕ) (left : List (List ℕ)) → s.running ≡ Some running →
      AllByRecursion (IsTold running what) (actions_of (step_of s what now left))

-- ---- the logons that are kept are those that wait, in their order; the first of them is that of the turn

abbrev pub AreAsked : Logons → Type 0
AreAsked logons =
    map (λ (entry : ℕ × Logon). entry.0) logons.asked ≡ map (λ (w : Waiting). w.place) logons.channel.waiting

-- whether the dial of a turn waits, or its link is open
abbrev pub is_dialled : Dialling → Bool
is_dialled dialling.Nothing = false
is_dialled (dialling.Waits turn frames) = true
is_dialled (dialling.On number said) = true

-- What logons need is in order. `dialled` is whether the dial of a turn waits or its link is open.
pub record IsInOrder (dialled : Bool) (logons : Logons) : Type 0 where
  pub coherent : IsCoherent logons.channel
  pub asked : AreAsked logons
  -- a turn is out exactly where it is dialled
  pub out : is_out logons.channel ≡ dialled

abbrev pub InOrderUnlessStopped : Option Running → Type 0
InOrderUnlessStopped None = Unit {0}
InOrderUnlessStopped (Some running) = IsInOrder (is_dialled running.dialling) running.logons

pub record AsksWhatWaits : Type 0 where
  pub fresh : (plan : MemberPlan) → InOrderUnlessStopped (fresh_member plan).running
  pub keeps : (s : State) (running : Running) (what : Event) (now : ℕ) (left : List (List ℕ)) → s.running ≡ Some running →
      IsInOrder (is_dialled running.dialling) running.logons → InOrderUnlessStopped (step_of s what now left).state.running
