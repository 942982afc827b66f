-- How the two ends of a secure channel stand to each other in a run (MS-NRPC 3.1.4.5; that one turn is out at a time is
-- this project's own choice).
use Rattle.std.specs.Prelude.{ℕ, ◌≡◌, ◌≤◌, ◌⊎◌, ◌&&◌, Bool, false, List, [], ◌∷◌, ◌++◌, filter, length, map, Option, Some, slice_get}
use Rattle.std.specs.List.{list_any}
use Rattle.wire_base.specs.Maps.{lookup}
use Rattle.wire_base.specs.Names.{same_name}
use Rattle.authenticators.specs.Channels.{ChannelIdentity, SameChannel, same_channel}
use Rattle.authenticators.specs.SecureChannels.{channel_of, SecureChannelState}
use Rattle.channel_client.specs.Turns.{is_out}
use Rattle.channel_client.specs.declared.state.Pending.{Pending}
use Rattle.channel_events.specs.Seeds.{channel_seed}
use Rattle.domain_controller.specs.State.{State as ControllerState}
use Rattle.domain_controller.specs.TrustLaws.{OneIsOut}
use Rattle.domain_controller.specs.declared.state.Running.{Running as ControllerRunning}
use Rattle.member_server.specs.Dials.{IsWaiting}
use Rattle.member_server.specs.Laws.{is_dialled}
use Rattle.member_server.specs.State.{State as MemberState}
use Rattle.member_server.specs.declared.state.Running.{Running as MemberRunning}
use Rattle.step_notes.specs.Records.{ChannelTurn, InUnit, Judging, Outside, RequesterId, Source, same_requester}
use Rattle.world_moves.specs.declared.links.EndId.{EndId}
use Rattle.world_moves.specs.declared.links.EndId.TheVariants.{Controller, Member}
use Rattle.world_moves.specs.declared.state.State.{State}
use Rattle.world_moves.specs.declared.state.WaitingDial.{WaitingDial}
use Rattle.world_moves.specs.Links.{same_end}
use Rattle.domain_world.specs.Claims.{passed_on}
use Rattle.domain_world.specs.Past.{Past, controller_asked, requester_at}
use Rattle.channel_client.specs.State.{Requester}
use Rattle.channel_client.specs.declared.state.Standing.TheVariants as standing

-- ---- one turn at a time

-- the dials of that end that wait
abbrev pub dials_of : EndId → List WaitingDial → List WaitingDial
dials_of end dials = filter (λ (dial : WaitingDial). same_end dial.end end) dials

-- A turn is out exactly where its dial waits or its link is open. One dial of the member waits at most, which is that
-- of its turn: no link of a turn is open then.
pub record HasOneTurnOut (s : State) (member : ℕ) (running : MemberRunning) : Type 0 where
  pub out : is_out running.logons.channel ≡ is_dialled running.dialling
  pub few : length (dials_of (Member member) s.dials) ≤ 1
  pub waits : 1 ≤ length (dials_of (Member member) s.dials) → IsWaiting running.dialling

-- At a controller, over all its trusts, a turn is out exactly where the dial of a turn waits or its link is open, and
-- then at one trust alone. One dial of the controller waits at most, which is that of its turn: no link of a turn is
-- open then.
pub record HasOneTrustTurnOut (s : State) (controller : ℕ) (c : ControllerState) : Type 0 where
  pub one : OneIsOut c.trusting
  pub few : length (dials_of (Controller controller) s.dials) ≤ 1
  pub waits : 1 ≤ length (dials_of (Controller controller) s.dials) → IsWaiting c.trusting.dialling

abbrev pub OneMemberTurnIsOut : Past → Type 0
OneMemberTurnIsOut past =
    (member : ℕ) (m : MemberState) (running : MemberRunning) → slice_get past.world.state.ends.members member ≡ Some m → m.running ≡ Some running →
    HasOneTurnOut past.world.state member running

abbrev pub OneTrustTurnIsOut : Past → Type 0
OneTrustTurnIsOut past =
    (controller : ℕ) (c : ControllerState) (running : ControllerRunning) → slice_get past.world.state.ends.controllers controller ≡ Some c → c.running ≡ Some running →
    HasOneTrustTurnOut past.world.state controller c

-- at most one turn is out at each member, and at each controller
pub record OneTurnIsOut (past : Past) : Type 0 where
  pub members : OneMemberTurnIsOut past
  pub controllers : OneTrustTurnIsOut past

-- ---- the side of who asks

-- the turn is one of that requester on that channel
abbrev pub is_turn_on : RequesterId → ChannelIdentity → ChannelTurn → Bool
is_turn_on who channel turn = same_requester turn.requester who && same_channel turn.channel channel

-- the timestamps of its turns on the channel, in order
abbrev pub timestamps_on : RequesterId → ChannelIdentity → List ChannelTurn → List ℕ
timestamps_on who channel turns = map (λ (turn : ChannelTurn). turn.timestamp) (filter (is_turn_on who channel) turns)

-- a turn is out, and this is the seed before its timestamp, the last one
pub record IsBeforeTurn (turn : Option Pending) (seed : List ℕ) (channel : ChannelIdentity) (timestamps : List ℕ) : Type 0 where
  pub pending : Pending
  pub is_out : turn ≡ Some pending
  pub earlier : List ℕ
  pub last : ℕ
  pub all : timestamps ≡ earlier ++ last ∷ []
  pub seed_before : seed ≡ channel_seed channel earlier

-- the channel that stands at a requester, and its state there
pub record ChannelStands (s : State) (who : RequesterId) (channel : ChannelIdentity) (o : SecureChannelState) : Type 0 where
  pub requester : Requester
  pub at : requester_at s who ≡ Some requester
  pub open_so : requester.standing ≡ standing.Open o
  pub is : channel ≡ channel_of (controller_asked who s) requester.caller.computer o
  pub turn : Option Pending
  pub is_turn : requester.turn ≡ turn

-- ---- the controller's side

-- the controller has a channel for that computer, in this state
pub record ChannelIsKept (s : State) (controller : ℕ) (computer : List ℕ) (c : SecureChannelState) : Type 0 where
  pub state : ControllerState
  pub running : ControllerRunning
  pub at : slice_get s.ends.controllers controller ≡ Some state
  pub runs : state.running ≡ Some running
  pub kept : lookup same_name computer running.computers.channels ≡ Some c

-- an authenticator of bytes from outside passed on the channel
abbrev pub is_foreign : ChannelIdentity → Source → Judging → Bool
is_foreign channel Outside j = passed_on channel j
is_foreign channel (InUnit unit) j = false

abbrev pub any_foreign : ChannelIdentity → List Judging → Bool
any_foreign channel judgings = list_any (λ (j : Judging). is_foreign channel j.source j) judgings

-- ---- the claim

-- The seed of a requester's open channel is the client's credential moved by the timestamps of its turns on that
-- channel, each plus one: the first part of the claim, which speaks of the requester alone.
abbrev pub SequenceIsOwn : Past → RequesterId → Type 0
SequenceIsOwn past who =
    (channel : ChannelIdentity) (o : SecureChannelState) → ChannelStands past.world.state who channel o →
    o.seed ≡ channel_seed channel (timestamps_on who channel past.book.turns)

-- each requester's is
abbrev pub SequencesAreOwn : Past → Type 0
SequencesAreOwn past = (who : RequesterId) → SequenceIsOwn past who

-- A requester's sequence is its own. Where the controller that it asks has the same channel, and no authenticator from
-- outside passed on it, the controller's seed is the requester's, or with a turn out the one before that turn.
pub record SequenceIsShared (past : Past) (who : RequesterId) : Type 0 where
  pub own : SequenceIsOwn past who
  pub other : (channel : ChannelIdentity) (o c : SecureChannelState) → (stands : ChannelStands past.world.state who channel o) →
      ChannelIsKept past.world.state channel.controller channel.computer c →
      SameChannel (channel_of channel.controller channel.computer c) channel →
      any_foreign channel past.book.judged ≡ false →
      (c.seed ≡ o.seed) ⊎ IsBeforeTurn stands.turn c.seed channel (timestamps_on who channel past.book.turns)

-- each requester's is
abbrev pub SequencesAreShared : Past → Type 0
SequencesAreShared past = (who : RequesterId) → SequenceIsShared past who
