-- Of which types the channels are on which controllers judge calls, and which calls controllers hand on (MS-NRPC
-- 2.2.1.3.13, 3.5.4.4.3; what is claimed is this project's own choice).
use Rattle.std.specs.Prelude.{ℕ, ◌≡◌, true, false, List, Option, Some, None, slice_get}
use Rattle.std.specs.List.{AllByRecursion}
use Rattle.wire_base.specs.Lists.{OneOf}
use Rattle.wire_base.specs.Maps.{lookup}
use Rattle.wire_base.specs.Names.{same_name}
use Rattle.channel_keys.specs.ChannelTypes.{trusted_domain_channel, workstation_channel}
use Rattle.authenticators.specs.Channels.{ChannelIdentity, SameChannel}
use Rattle.authenticators.specs.SecureChannels.{SecureChannelState, channel_of}
use Rattle.outside.specs.declared.action.Judged.TheVariants as judged
use Rattle.controller_calls.specs.Handing.{hands_on}
use Rattle.channel_client.specs.State.{Requester}
use Rattle.domain_controller.specs.State.{State as ControllerState}
use Rattle.domain_controller.specs.declared.state.Running.{Running}
use Rattle.member_server.specs.State.{State as MemberState}
use Rattle.member_server.specs.declared.state.Running.{Running as MemberRunning}
use Rattle.channel_events.specs.Marks.{Calling}
use Rattle.step_notes.specs.Judged.{passed_channel}
use Rattle.step_notes.specs.Records.{ChannelAccepted, InUnit, Judging, Sent, computer_named}
use Rattle.world_moves.specs.declared.bag.BagUnit.{BagUnit}
use Rattle.world_moves.specs.declared.links.LinkKind.{LinkKind}
use Rattle.world_moves.specs.declared.links.LinkKind.TheVariants as kind
use Rattle.domain_world.specs.Accepting.Answered.{PassesAreUnclashed}
use Rattle.domain_world.specs.Accepting.Carried.{JudgedAsCarried, MarkedUnitsAreWhole}
use Rattle.domain_world.specs.Claims.Openings.{OpeningsAreInOrder, last_accepted}
use Rattle.domain_world.specs.Past.{Past}

-- ---- a channel has the type that its opening named

-- what a controller has of a channel for that computer is of that opening: the channel is the one that it opened, and
-- the type is the one that it named
pub record IsAsOpened (controller : ℕ) (computer : List ℕ) (has : SecureChannelState) (one : ChannelAccepted) : Type 0 where
  pub same : SameChannel one.channel (channel_of controller computer has)
  pub kind_is : has.kind ≡ Some one.kind

-- the controller keeps that channel for that computer
pub record KeepsChannel (controllers : List ControllerState) (controller : ℕ) (computer : List ℕ) (has : SecureChannelState) : Type 0 where
  pub state : ControllerState
  pub running : Running
  pub at : slice_get controllers controller ≡ Some state
  pub runs : state.running ≡ Some running
  pub keeps : lookup same_name computer running.computers.channels ≡ Some has

-- the channel is of the opening that the controller accepted last for the computer
pub record IsLastOpened (controller : ℕ) (computer : List ℕ) (has : SecureChannelState) (accepted : List ChannelAccepted) : Type 0 where
  pub one : ChannelAccepted
  pub last : last_accepted controller computer accepted ≡ Some one
  pub is : IsAsOpened controller computer has one

abbrev pub KeptAreAsOpened : Past → Type 0
KeptAreAsOpened past =
    (controller : ℕ) (computer : List ℕ) (has : SecureChannelState) → KeepsChannel past.world.state.ends.controllers controller computer has →
    IsLastOpened controller computer has past.book.accepted

-- the channel that the call is checked on is of an opening that was accepted
abbrev pub IsCheckedAsOpened : List ChannelAccepted → Judging → Type 0
IsCheckedAsOpened accepted j =
    (computer : List ℕ) (has : SecureChannelState) → computer_named j.asked ≡ Some computer → j.checks ≡ Some has →
    OneOf (IsAsOpened j.controller computer has) accepted

-- the call passed on the channel of that opening, which named a type of which calls are handed on
pub record IsHandedOnBy (j : Judging) (one : ChannelAccepted) : Type 0 where
  pub channel : ChannelIdentity
  pub passed : passed_channel j ≡ Some channel
  pub same : SameChannel one.channel channel
  pub hands : hands_on (Some one.kind) ≡ true

abbrev pub HandsOnByKind : Past → Type 0
HandsOnByKind past =
    AllByRecursion (λ (j : Judging). j.how ≡ Some judged.Forwarded → OneOf (IsHandedOnBy j) past.book.accepted) past.book.judged

-- The channel that a controller keeps for a computer is that of the opening which it accepted last for it, and has the
-- type that this opening named. Each channel on which a call was checked has the type that an opening of it named. A
-- call that was handed on passed on a channel whose opening named a workstation's or a backup controller's type.
pub record KindsFollowOpenings (past : Past) : Type 0 where
  pub kept : KeptAreAsOpened past
  pub checked : AllByRecursion (IsCheckedAsOpened past.book.accepted) past.book.judged
  pub handed : HandsOnByKind past

-- ---- an opening names the type of who asks

-- The type that is named by who opens a channel in a unit on a link of that kind: a member's computer is a workstation,
-- as a station's is, and a controller asks for its domain, which the other one trusts.
abbrev pub kind_asked : LinkKind → Option ℕ
kind_asked kind.ToController = Some workstation_channel
kind_asked kind.Between = Some trusted_domain_channel
kind_asked kind.FromStation = Some workstation_channel
kind_asked kind.ToMember = None
kind_asked kind.Stranger = None

-- Who asks names its own type: each member at work a workstation's, and a controller that of a trusted domain, of each
-- trust that it asks.
pub record AskersNameTheirKind (past : Past) : Type 0 where
  pub members : (at : ℕ) (member : MemberState) (running : MemberRunning) → slice_get past.world.state.ends.members at ≡ Some member →
      member.running ≡ Some running → running.logons.channel.caller.kind ≡ workstation_channel
  pub controllers : (at : ℕ) (controller : ControllerState) → slice_get past.world.state.ends.controllers at ≡ Some controller →
      AllByRecursion (λ (asks : Requester). asks.caller.kind ≡ trusted_domain_channel) controller.trusting.queues.requesters

-- if the opening came in a unit of the bag, it names the type of who sent the unit (`kind_asked`)
abbrev pub IsOfItsKind : List BagUnit → ChannelAccepted → Type 0
IsOfItsKind bag one =
    (n : ℕ) (unit : BagUnit) → one.source ≡ InUnit n → slice_get bag n ≡ Some unit → kind_asked unit.kind ≡ Some one.kind

-- Without a clash each opening that was accepted, and came in a unit of the bag, named the type of who sent the unit.
abbrev pub OpeningsNameTheirKind : Past → Type 0
OpeningsNameTheirKind past =
    past.book.clash ≡ false → AllByRecursion (IsOfItsKind past.world.state.bag) past.book.accepted

-- Without a clash each channel that is kept, and was opened in a unit of the bag, has the type of who sent the unit.
abbrev pub KeptHaveKindsAsked : Past → Type 0
KeptHaveKindsAsked past =
    past.book.clash ≡ false → (controller : ℕ) (computer : List ℕ) (has : SecureChannelState) (one : ChannelAccepted) (n : ℕ) (unit : BagUnit) →
    KeepsChannel past.world.state.ends.controllers controller computer has → last_accepted controller computer past.book.accepted ≡ Some one →
    one.source ≡ InUnit n → slice_get past.world.state.bag n ≡ Some unit → has.kind ≡ kind_asked unit.kind

-- ---- a controller's call is handed on no further

-- the unit of that number was made as a call
pub record IsMadeAsCall (past : Past) (n : ℕ) : Type 0 where
  pub sent : Sent
  pub there : slice_get past.book.sent n ≡ Some sent
  pub channel : ChannelIdentity
  pub number : ℕ
  pub timestamp : ℕ
  pub mark : sent.mark ≡ Calling channel number timestamp

-- what passed on a channel in a unit of the bag was made as a call
abbrev pub IsPassedAsCall : Past → Judging → Type 0
IsPassedAsCall past j =
    (n : ℕ) (channel : ChannelIdentity) → j.source ≡ InUnit n → passed_channel j ≡ Some channel → IsMadeAsCall past n

-- Without a clash what passed on a channel in a unit of the bag was made as a call.
abbrev pub PassesAreCalls : Past → Type 0
PassesAreCalls past = past.book.clash ≡ false → AllByRecursion (IsPassedAsCall past) past.book.judged

-- the opening is of that channel, and came in a unit on a link of the same kind as that unit
pub record IsOpenedLikewise (past : Past) (unit : BagUnit) (channel : ChannelIdentity) (one : ChannelAccepted) : Type 0 where
  pub same : SameChannel one.channel channel
  pub n : ℕ
  pub came : one.source ≡ InUnit n
  pub opened : BagUnit
  pub there : slice_get past.world.state.bag n ≡ Some opened
  pub kind_is : opened.kind ≡ unit.kind

-- Without a clash each call was made on a channel that the same end had opened: by an opening that was accepted, and
-- came in a unit on a link of the same kind.
abbrev pub CallsFollowOpenings : Past → Type 0
CallsFollowOpenings past =
    past.book.clash ≡ false → (n : ℕ) (unit : BagUnit) (sent : Sent) (channel : ChannelIdentity) (number timestamp : ℕ) → slice_get past.world.state.bag n ≡ Some unit →
    slice_get past.book.sent n ≡ Some sent → sent.mark ≡ Calling channel number timestamp →
    OneOf (IsOpenedLikewise past unit channel) past.book.accepted

-- it isn't both so that a controller sent the call, and that it was handed on
abbrev pub IsNoSecondHop : List BagUnit → Judging → Type 0
IsNoSecondHop bag j =
    (n : ℕ) (unit : BagUnit) → j.source ≡ InUnit n → slice_get bag n ≡ Some unit → unit.kind ≡ kind.Between → j.how ≡ Some judged.Forwarded → ⊥

-- Without a clash no call that came from another controller is handed on again: a logon takes one hop.
abbrev pub TakesOneHop : Past → Type 0
TakesOneHop past = past.book.clash ≡ false → AllByRecursion (IsNoSecondHop past.world.state.bag) past.book.judged

-- ---- the law

-- What a call of another controller rests on, beside the types of channels: no two openings have one challenge of a
-- server, and credentials pass in units that were made for their channel, as calls, which their ends make on channels
-- that they opened.
pub record CallsAreOpened (past : Past) : Type 0 where
  pub order : OpeningsAreInOrder past
  pub passes : PassesAreUnclashed past
  pub made : PassesAreCalls past
  pub called : CallsFollowOpenings past

-- Where channels have the types that their openings named, and openings name the type of who asks, kept channels have
-- the type of who asked; and no call that came from another controller is handed on again. That what passes was made as
-- a call follows where each unit is what its mark says, and calls are judged as their units carry them.
pub record KindsDecide : Type 0 where
  pub kept : (past : Past) → KindsFollowOpenings past → OpeningsNameTheirKind past → KeptHaveKindsAsked past
  pub made : (past : Past) → MarkedUnitsAreWhole past → JudgedAsCarried past → PassesAreUnclashed past → PassesAreCalls past
  pub hop : (past : Past) → KindsFollowOpenings past → OpeningsNameTheirKind past → CallsAreOpened past → TakesOneHop past
