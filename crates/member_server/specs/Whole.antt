-- That what a member sends on the links of its turns is whole: each send is the bytes of one whole unit, in one
-- fragment or more (C706 12.6.2), and has room in one piece of a link (this project's own choice). It holds where what
-- the member has is in its ranges, and a step leaves it so.
use Rattle.std.specs.Prelude.{ℕ, ◌≡◌, ◌≤◌, ◌<◌, ◌⊎◌, List, Option, Some, None}
use Rattle.std.specs.List.{AllByRecursion}
use Rattle.wire_base.specs.Maps.{lookup, same_number}
use Rattle.wire_base.specs.Names.{IsName}
use Rattle.wire_base.specs.Numbers.{AreBytes}
use Rattle.outside.specs.declared.action.Action.{Action}
use Rattle.outside.specs.declared.action.Action.TheVariants as action
use Rattle.outside.specs.declared.event.Event.{Event}
use Rattle.outside.specs.declared.event.Event.TheVariants as event
use Rattle.rpc_units.specs.declared.unit.Unit.{Unit as RpcUnit}
use Rattle.rpc_units.specs.Joining.{stub_of}
use Rattle.logon_stubs.specs.Ranges.{IsBlock}
use Rattle.end_links.specs.Links.{LinkState}
use Rattle.end_links.specs.Sending.{joined_frames}
use Rattle.end_links.specs.Whole.{IsByteSend, IsWholeSend}
use Rattle.end_loop.specs.Runs.{actions_of}
use Rattle.channel_client.specs.Whole.{InRangeRequester}
use Rattle.member_server.specs.Machine.{fresh_member, step_of}
use Rattle.member_server.specs.State.{State}
use Rattle.member_server.specs.declared.plan.MemberPlan.{MemberPlan}
use Rattle.channel_turns.specs.declared.state.Dialling.{Dialling}
use Rattle.channel_turns.specs.declared.state.Dialling.TheVariants as dialling
use Rattle.member_server.specs.declared.state.Bound.{Bound}
use Rattle.member_server.specs.declared.state.Phase.{Phase}
use Rattle.member_server.specs.declared.state.Phase.TheVariants as phase
use Rattle.member_server.specs.declared.state.Running.{Running}
use Rattle.member_server.specs.declared.state.Talk.{Talk}

-- ---- the ranges of what a member has

-- what is bound has a level of one byte, and frames that have room for their headers
pub record InRangeBound (bound : Bound) : Type 0 where
  pub level : bound.level < 256
  pub limit : 1432 ≤ bound.binding.limit

-- the challenge of a link has 8 bytes, and what is held are bytes
abbrev pub InRangePhase : Phase → Type 0
InRangePhase phase.Fresh = Unit {0}
InRangePhase (phase.Challenged bound challenge flags) = InRangeBound bound × IsBlock 8 challenge
InRangePhase (phase.Asked bound place held) = InRangeBound bound × AllByRecursion AreBytes held
InRangePhase (phase.In on) = InRangeBound on.bound
InRangePhase (phase.Out bound status) = Unit {0}

-- what is open of a call has bytes
abbrev pub InRangeJoiner : Option RpcUnit → Type 0
InRangeJoiner None = Unit {0}
InRangeJoiner (Some unit) = AreBytes (stub_of unit.body)

pub record InRangeLink (link : LinkState Talk) : Type 0 where
  pub rest : AreBytes link.rest
  pub phase : InRangePhase link.talk.phase
  pub joiner : InRangeJoiner link.talk.joiner

abbrev pub InRangeLinks : List (ℕ × LinkState Talk) → Type 0
InRangeLinks links = AllByRecursion (λ (entry : ℕ × LinkState Talk). InRangeLink entry.1) links

-- the bind that waits for its dial is whole
abbrev pub InRangeDialling : Dialling → Type 0
InRangeDialling dialling.Nothing = Unit {0}
InRangeDialling (dialling.Waits turn frames) = IsWholeSend (joined_frames frames)
InRangeDialling (dialling.On number said) = Unit {0}

pub record InRangeRunning (running : Running) : Type 0 where
  pub channel : InRangeRequester running.logons.channel
  pub links : InRangeLinks running.links
  pub dialling : InRangeDialling running.dialling

abbrev pub InRangeUnlessStopped : Option Running → Type 0
InRangeUnlessStopped None = Unit {0}
InRangeUnlessStopped (Some running) = InRangeRunning running

-- ---- the ranges of what comes

-- what comes on a link is bytes
abbrev pub BringsBytes : Event → Type 0
BringsBytes (event.Bytes link piece) = AreBytes piece
BringsBytes (event.Opened link) = Unit {0}
BringsBytes (event.Closed link) = Unit {0}
BringsBytes (event.Dialled link) = Unit {0}
BringsBytes event.DialFailed = Unit {0}
BringsBytes event.Stop = Unit {0}

-- challenges have 8 bytes
abbrev pub AreChallenges : List (List ℕ) → Type 0
AreChallenges left = AllByRecursion (λ (challenge : List ℕ). IsBlock 8 challenge) left

-- an event, and the challenges that are left
pub record InRangeEvent (what : Event) (left : List (List ℕ)) : Type 0 where
  pub bytes : BringsBytes what
  pub challenges : AreChallenges left

-- ---- what is sent

abbrev pub dialled_link : Event → Option ℕ
dialled_link (event.Dialled link) = Some link
dialled_link (event.Bytes link piece) = None
dialled_link (event.Opened link) = None
dialled_link (event.Closed link) = None
dialled_link event.DialFailed = None
dialled_link event.Stop = None

-- the link of the turn in the step for an event: the one that is open, or the one that its dial opened
abbrev pub link_of_turn : Dialling → Event → Option ℕ
link_of_turn dialling.Nothing what = None
link_of_turn (dialling.Waits turn frames) what = dialled_link what
link_of_turn (dialling.On number said) what = Some number

abbrev pub IsTurnLink : Running → Event → ℕ → Type 0
IsTurnLink running what number = link_of_turn running.dialling what ≡ Some number

-- a link that the member accepted, and that is open as the step begins
abbrev pub IsAccepted : Running → ℕ → Type 0
IsAccepted running number = (link : LinkState Talk) × (lookup same_number number running.links ≡ Some link)

-- What is sent goes out on a link of the first kind, as bytes and no more than an end sends at once, or is whole and
-- goes out on one of the second.
abbrev pub IsSentOn : (ℕ → Type 0) → (ℕ → Type 0) → Action → Type 0
IsSentOn First Second (action.Send link bytes) = (First link × IsByteSend bytes) ⊎ (Second link × IsWholeSend bytes)
IsSentOn First Second (action.Keep bytes) = Unit {0}
IsSentOn First Second (action.Dial peer) = Unit {0}
IsSentOn First Second (action.Close link cause) = Unit {0}
IsSentOn First Second (action.Told link outcome) = Unit {0}
IsSentOn First Second (action.Judged how) = Unit {0}

-- the link that an event opens
abbrev pub opened_link : Event → Option ℕ
opened_link (event.Opened link) = Some link
opened_link (event.Bytes link piece) = None
opened_link (event.Closed link) = None
opened_link (event.Dialled link) = None
opened_link event.DialFailed = None
opened_link event.Stop = None

-- an accepted link is one that was open as the step began, or the one that its event opened
abbrev pub IsAcceptedAfter : Running → Event → ℕ → Type 0
IsAcceptedAfter running what number = IsAccepted running number ⊎ (opened_link what ≡ Some number)

abbrev pub AcceptedUnlessStopped : Running → Event → Option Running → Type 0
AcceptedUnlessStopped running what None = Unit {0}
AcceptedUnlessStopped running what (Some after) = AllByRecursion (λ (entry : ℕ × LinkState Talk). IsAcceptedAfter running what entry.0) after.links

-- ---- the law

pub record MembersSendWhole : Type 0 where
  -- what is sent goes out on an accepted link, in bytes, or is whole and goes out on the link of the turn
  pub sends : (s : State) (running : Running) (what : Event) (now : ℕ) (left : List (List ℕ)) → s.running ≡ Some running →
      InRangeRunning running → InRangeEvent what left →
      AllByRecursion (IsSentOn (IsAccepted running) (IsTurnLink running what)) (actions_of (step_of s what now left))
  -- no other link is accepted after the step
  pub accepts : (s : State) (running : Running) (what : Event) (now : ℕ) (left : List (List ℕ)) → s.running ≡ Some running →
      InRangeRunning running → InRangeEvent what left → AcceptedUnlessStopped running what (step_of s what now left).state.running
  -- a step leaves what the member has in its ranges, and it is in them at first
  pub keeps : (s : State) (running : Running) (what : Event) (now : ℕ) (left : List (List ℕ)) → s.running ≡ Some running →
      InRangeRunning running → InRangeEvent what left → InRangeUnlessStopped (step_of s what now left).state.running
  pub first : (plan : MemberPlan) → IsName plan.computer → InRangeUnlessStopped (fresh_member plan).running
