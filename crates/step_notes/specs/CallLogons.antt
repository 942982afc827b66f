-- What a member asks for in a Logon call (MS-NRPC 3.5.4.5.3): the logon that it keeps under the place of the turn.
-- What it sets by a NetrServerPasswordSet (3.5.4.4.6): the next secret that it keeps. How it keeps logons and secrets
-- is this project's own choice.
use Rattle.std.specs.Prelude.{ℕ, ◌≡◌, Bool, true, false, List, [], ◌∷◌, ◌++◌, map, replicate, Option, Some, None, Ok, IsSome}
use Rattle.std.specs.List.{AllByRecursion}
use Rattle.wire_base.specs.Maps.{lookup, same_number}
use Rattle.wire_base.specs.declared.authenticator.Authenticator.{Authenticator}
use Rattle.authenticators.specs.Channels.{ChannelIdentity, channel_key}
use Rattle.authenticators.specs.Sequences.{authenticator_of, next_seed}
use Rattle.authenticators.specs.SecureChannels.{SecureChannelState, after_call}
use Rattle.outside.specs.declared.action.Action.{Action}
use Rattle.outside.specs.declared.action.Action.TheVariants as action
use Rattle.outside.specs.declared.event.Event.{Event}
use Rattle.outside.specs.declared.event.Event.TheVariants as event
use Rattle.logon_stubs.specs.declared.calls.Call.{Call}
use Rattle.logon_stubs.specs.declared.calls.Call.TheVariants as call
use Rattle.logon_stubs.specs.declared.calls.LogonCall.{LogonCall}
use Rattle.logon_stubs.specs.declared.info.NetworkInfo.{NetworkInfo}
use Rattle.secret_change.specs.Hiding.{hide_of}
use Rattle.secret_change.specs.declared.calls.SetCall.{SetCall}
use Rattle.end_links.specs.Sending.{joined_frames}
use Rattle.end_links.specs.Serving.{ServedUnit}
use Rattle.channel_client.specs.Effects.{IsCoherent, seed_in, step_in}
use Rattle.channel_client.specs.Machine.{change_call, logon_call}
use Rattle.channel_client.specs.NoNext.{HasNoNext, sets_in_turn}
use Rattle.channel_client.specs.State.{Requester}
use Rattle.channel_client.specs.Turns.{is_out}
use Rattle.channel_client.specs.declared.caller.Caller.{Caller}
use Rattle.channel_client.specs.declared.state.Standing.{Standing}
use Rattle.channel_client.specs.declared.state.Standing.TheVariants as standing
use Rattle.channel_client.specs.declared.state.Step.{Step}
use Rattle.channel_client.specs.declared.state.Step.TheVariants as step
use Rattle.channel_client.specs.declared.state.SetStep.TheVariants as set_step
use Rattle.channel_client.specs.declared.state.Waiting.{Waiting}
use Rattle.member_server.specs.Laws.{is_dialled}
use Rattle.member_server.specs.Machine.{account_of, caller_of, fresh_member, step_of, running_with}
use Rattle.member_server.specs.Messages.{info_of}
use Rattle.member_server.specs.Secrets.{SecretsState, next_of, tried_of}
use Rattle.member_server.specs.State.{State as MemberState}
use Rattle.member_server.specs.declared.plan.MemberPlan.{MemberPlan}
use Rattle.member_server.specs.Turns.{AtTurn}
use Rattle.member_server.specs.declared.state.Logon.{Logon}
use Rattle.member_server.specs.declared.state.Logons.{Logons}
use Rattle.member_server.specs.declared.state.Running.{Running}
use Rattle.channel_turns.specs.declared.state.TurnTalk.{TurnTalk}
use Rattle.channel_events.specs.Marks.{Calling, Mark}
use Rattle.step_notes.specs.ChannelNames.{AreFramesOf, AreFramesOfSet}
use Rattle.step_notes.specs.MemberNotes.{TurnNote, turn_note, turn_units}
use Rattle.step_notes.specs.Served.{work_after}
use Rattle.secret_change.specs.Secrets.{begin_by}

-- ---- what a member keeps

-- what is asked for a logon that is kept under a place: the names, the challenge and the responses of its message
-- (MS-NLMP 3.2.5.1.2), and the place as the identity of the logon (MS-NRPC 2.2.1.4.15)
abbrev pub info_at : ℕ → Logon → NetworkInfo
info_at place logon = record (info_of logon.message logon.agreed logon.challenge) { logon_id = place }

-- a logon that is kept under a place, as it waits for its turn
abbrev pub waiting_for : ℕ × Logon → Waiting
waiting_for entry = record { place = entry.0; info = info_at entry.0 entry.1 }

-- a channel that stands has that secret
abbrev pub HasSecret : List ℕ → Standing → Type 0
HasSecret secret standing.Nothing = Unit {0}
HasSecret secret (standing.Half client server) = Unit {0}
HasSecret secret (standing.Open o) = o.secret ≡ secret

-- the call has the authenticator by which the channel that stands came to its seed
pub record IsStamped (caller : Caller) (how : Standing) (c : LogonCall) : Type 0 where
  pub earlier : SecureChannelState
  pub timestamp : ℕ
  pub stands : how ≡ standing.Open (after_call earlier timestamp)
  pub is : call.Logon c ≡ logon_call caller earlier timestamp c.info

-- a Logon call that waits for its bind has the authenticator by which the channel that stands came to its seed
abbrev pub IsStampedStep : Caller → Standing → Option Step → Type 0
IsStampedStep caller how (Some (step.Bind (call.Logon c))) = IsStamped caller how c
IsStampedStep caller how _ = Unit {0}

-- a call that sets the next secret has the authenticator by which the channel that stands came to its seed
pub record IsStampedSet (caller : Caller) (how : Standing) (next : Option (List ℕ)) (c : SetCall) : Type 0 where
  pub earlier : SecureChannelState
  pub timestamp : ℕ
  pub secret : List ℕ
  pub is_next : next ≡ Some secret
  pub stands : how ≡ standing.Open (after_call earlier timestamp)
  pub is : c ≡ change_call caller earlier timestamp secret

abbrev pub IsStampedSetStep : Caller → Standing → Option (List ℕ) → Option Step → Type 0
IsStampedSetStep caller how next (Some (step.Set (set_step.Bind c))) = IsStampedSet caller how next c
IsStampedSetStep caller how next _ = Unit {0}

-- the channel and the call that waits are the caller's
pub record IsOfCaller (s : Requester) : Type 0 where
  pub secret : HasSecret s.caller.secret s.standing
  pub stamped : IsStampedStep s.caller s.standing (step_in s.turn)
  pub set : IsStampedSetStep s.caller s.standing s.next (step_in s.turn)

-- who asks is the caller of a plan but for the secret: by the names and the type of the channel
abbrev pub IsNamedBy : Caller → MemberPlan → Type 0
IsNamedBy caller plan = caller ≡ record (caller_of plan) { secret = caller.secret }

-- While a channel is opened, who asks has the secret that is tried: from the turn's start on, and between the two
-- turns. Before the first of them it is given it, and a channel that is open keeps the secret that opened it.
abbrev pub TriesIf : (is_out : Bool) (secret tried : List ℕ) → Type 0
TriesIf false secret tried = Unit {0}
TriesIf true secret tried = secret ≡ tried

abbrev pub OpensByTried : (standing : Standing) (is_out : Bool) (secret tried : List ℕ) → Type 0
OpensByTried standing.Nothing out secret tried = TriesIf out secret tried
OpensByTried (standing.Half client server) out secret tried = secret ≡ tried
OpensByTried (standing.Open o) out secret tried = Unit {0}

-- what a turn sets is the next secret that is kept, where a turn sets one
abbrev pub SetsKept : Requester → SecretsState → Type 0
SetsKept s secrets = sets_in_turn s.turn ≡ true → (s.next ≡ next_of secrets) × IsSome (next_of secrets)

-- What waits for its turn is what is asked for the logons that are kept, in their order; the turn is for the first of
-- them. Who asks has the names of the plan, and of its secrets the one that is tried while it opens a channel.
-- `dialled` is whether the dial of a turn waits or its link is open.
pub record AsksForKept (dialled : Bool) (logons : Logons) : Type 0 where
  pub caller : IsNamedBy logons.channel.caller logons.plan
  pub tried : OpensByTried logons.channel.standing dialled logons.channel.caller.secret (tried_of logons.plan.secrets)
  pub sets : SetsKept logons.channel logons.plan.secrets
  pub coherent : IsCoherent logons.channel
  pub waits : logons.channel.waiting ≡ map waiting_for logons.asked
  pub out : is_out logons.channel ≡ dialled
  pub own : IsOfCaller logons.channel

abbrev pub AsksUnlessStopped : Option Running → Type 0
AsksUnlessStopped None = Unit {0}
AsksUnlessStopped (Some running) = AsksForKept (is_dialled running.dialling) running.logons

-- A member that keeps one secret, which sets none: who asks has that secret.
pub record AsksByOne (logons : Logons) : Type 0 where
  pub one : logons.plan.secrets.next ≡ None
  pub none : HasNoNext logons.channel
  pub secret : logons.channel.caller.secret ≡ logons.plan.secrets.current

abbrev pub AsksByOneUnlessStopped : Option Running → Type 0
AsksByOneUnlessStopped None = Unit {0}
AsksByOneUnlessStopped (Some running) = AsksByOne running.logons

-- ---- a Logon call

-- the NetrLogonSamLogon for a logon that is kept under a place, at level 3, with a returned authenticator of zeros
abbrev pub call_for : MemberPlan → Authenticator → ℕ → Logon → Call
call_for plan given place logon = call.Logon (record {
  server = None;
  computer = Some plan.computer;
  authenticator = Some given;
  returned = Some (record { credential = replicate 8 0; timestamp = 0 });
  info = info_at place logon;
  validation = 3;
})

-- Frames are the request of that number for a logon that is kept, with the computer's name of the member's plan, and an
-- authenticator of that timestamp on the channel, at the seed from which that timestamp moved the channel that stands;
-- and the channel is that of the plan's computer, by the secret of who asks, with that controller.
pub record AreForLogon
    (controller : ℕ) (logons : Logons) (channel : ChannelIdentity) (number timestamp : ℕ) (frames : List (List ℕ)) : Type 0 where
  pub place : ℕ
  pub logon : Logon
  pub kept : lookup same_number place logons.asked ≡ Some logon
  pub with_controller : channel.controller ≡ controller
  pub computer : channel.computer ≡ logons.plan.computer
  pub secret : channel.secret ≡ logons.channel.caller.secret
  pub seed : List ℕ
  pub moved : seed_in logons.channel.standing ≡ Some (next_seed seed timestamp)
  pub asks : AreFramesOf number (call_for logons.plan (authenticator_of (channel_key channel) seed timestamp) place logon) frames

-- What goes out on the link of the turn is the request for a logon: for the one that is kept under the place that is
-- written down.
pub record IsForItsLogon
    (controller : ℕ) (before : AtTurn) (later : Option AtTurn) (called : Option ℕ) (channel : ChannelIdentity) (number timestamp : ℕ) : Type 0 where
  pub frames : List (List ℕ)
  pub asks : AreForLogon controller before.work.logons channel number timestamp frames
  pub called_is : called ≡ Some asks.place
  pub done : AtTurn
  pub comes : later ≡ Some done
  pub sends : done.work.actions ≡ before.work.actions ++ action.Send before.link (joined_frames frames) ∷ []

-- ---- a call that sets a secret

-- the NetrServerPasswordSet that hides this secret under the session key of the channel
abbrev pub change_for : MemberPlan → Authenticator → (key next : List ℕ) → SetCall
change_for plan given key next = record {
  primary = None;
  account = account_of plan.computer;
  channel = 2;
  computer = plan.computer;
  authenticator = given;
  hidden = hide_of key next;
}

-- Frames are the request of that number that sets the next secret that is kept, with the names of the member's plan,
-- and an authenticator as a Logon call has. The channel is that of the plan's computer, by the secret of who asks, with
-- that controller.
pub record AreForChange
    (controller : ℕ) (logons : Logons) (channel : ChannelIdentity) (number timestamp : ℕ) (frames : List (List ℕ)) : Type 0 where
  pub next : List ℕ
  pub kept : next_of logons.plan.secrets ≡ Some next
  pub with_controller : channel.controller ≡ controller
  pub computer : channel.computer ≡ logons.plan.computer
  pub secret : channel.secret ≡ logons.channel.caller.secret
  pub seed : List ℕ
  pub moved : seed_in logons.channel.standing ≡ Some (next_seed seed timestamp)
  pub asks : AreFramesOfSet number
      (change_for logons.plan (authenticator_of (channel_key channel) seed timestamp) (channel_key channel) next) frames

-- What goes out on the link of the turn is the request that sets the next secret.
pub record IsForItsChange
    (controller : ℕ) (before : AtTurn) (later : Option AtTurn) (channel : ChannelIdentity) (number timestamp : ℕ) : Type 0 where
  pub frames : List (List ℕ)
  pub asks : AreForChange controller before.work.logons channel number timestamp frames
  pub done : AtTurn
  pub comes : later ≡ Some done
  pub sends : done.work.actions ≡ before.work.actions ++ action.Send before.link (joined_frames frames) ∷ []

-- ---- what goes out

-- of the channel, the number and the timestamp of a mark, if it is that of a call on the channel
abbrev pub IfCalling : (ChannelIdentity → ℕ → ℕ → Type 0) → Mark → Type 0
IfCalling Holds (Calling channel number timestamp) = Holds channel number timestamp
IfCalling Holds _ = Unit {0}

-- by the place whose Logon call it is: it is for the logon of that place; or it sets a secret, where it is of none
abbrev pub CarriesBy : Option ℕ → Mark → ℕ → AtTurn → Option AtTurn → Type 0
CarriesBy (Some place) mark controller before later = IfCalling (IsForItsLogon controller before later (Some place)) mark
CarriesBy None mark controller before later = IfCalling (IsForItsChange controller before later) mark

abbrev pub CarriesNoted : TurnNote → ℕ → AtTurn → Option AtTurn → Type 0
CarriesNoted note controller before later = CarriesBy note.called note.mark controller before later

-- of a unit that the member serves, where the channel is with that controller
abbrev pub CarriesItsLogon : ℕ → ServedUnit AtTurn TurnTalk → Type 0
CarriesItsLogon controller unit = CarriesNoted (turn_note controller unit) controller unit.work (work_after unit.part)

-- ---- laws

-- A member that was just made asks for what it keeps, each step of a member keeps that, and each Logon call that goes
-- out when bytes come carries its logon, and each other call on a channel the next secret. A member with one secret
-- asks by that, and each step keeps that too.
pub record CallsCarryTheirLogon : Type 0 where
  pub fresh : (plan : MemberPlan) → AsksUnlessStopped (fresh_member plan).running
  pub alone : (plan : MemberPlan) → plan.secrets.next ≡ None → AsksByOneUnlessStopped (fresh_member plan).running
  pub stays_alone : (m : MemberState) (what : Event) (now : ℕ) (left : List (List ℕ)) → AsksByOneUnlessStopped m.running →
      AsksByOneUnlessStopped (step_of m what now left).state.running
  pub keeps : (m : MemberState) (what : Event) (now : ℕ) (left : List (List ℕ)) → AsksUnlessStopped m.running →
      AsksUnlessStopped (step_of m what now left).state.running
  -- a member that begins to change its secret keeps that too
  pub changes : (secret : List ℕ) (running : Running) → running.logons.plan.secrets.next ≡ None →
      AsksUnlessStopped (Some running) →
      AsksUnlessStopped (Some (running_with (begin_by None running.logons.plan.secrets secret).secrets running))
  pub carries : (controller : ℕ) (m : MemberState) (number : ℕ) (piece : List ℕ) (now : ℕ) (left : List (List ℕ)) →
      AsksUnlessStopped m.running → AllByRecursion (CarriesItsLogon controller) (turn_units m number piece now left)

-- ---- the order of what goes out

-- by whether a unit lets a request out: that request is sent first, on the link of the turn, and then comes the rest
abbrev pub IsFirstBy : Bool → AtTurn → Option AtTurn → List Action → (List Action → Type 0) → Type 0
IsFirstBy false before later actions rest = rest actions
IsFirstBy true before later actions rest =
    (bytes : List ℕ) × (more : List Action) × (done : AtTurn) × (actions ≡ action.Send before.link bytes ∷ more) × (later ≡ Some done)
    × (done.work.actions ≡ before.work.actions ++ action.Send before.link bytes ∷ []) × rest more

-- the requests of the units that have one, in their order, and then whatever else
abbrev pub AreFirst : ℕ → List (ServedUnit AtTurn TurnTalk) → List Action → Type 0
AreFirst controller [] actions = Unit {0}
AreFirst controller (unit ∷ units) actions =
    IsFirstBy (turn_note controller unit).sends unit.work (work_after unit.part) actions (λ more. AreFirst controller units more)

-- Whatever bytes come at a member, its step gives the requests of the units on the link of its turn first, in their
-- order.
pub record RequestsComeFirst : Type 0 where
  pub first : (controller : ℕ) (m : MemberState) (number : ℕ) (piece : List ℕ) (now : ℕ) (left : List (List ℕ)) (actions : List Action) →
      (step_of m (event.Bytes number piece) now left).answer ≡ Ok actions → AreFirst controller (turn_units m number piece now left) actions
