-- What stands after every schedule, and from which the facts of `Units` are had: what is under way is whole, calls stay
-- apart, and a call that is out is that of its message.
use Rattle.std.specs.Prelude.{ℕ, ◌≡◌, ◌≤◌, ◌<◌, ◌+◌, ◌*◌, ◌^◌, List, [], length, Option, Some, None, slice_get}
use Rattle.std.specs.List.{AllByRecursion}
use Rattle.wire_base.specs.Maps.{lookup, same_number}
use Rattle.authenticators.specs.Channels.{ChannelIdentity}
use Rattle.end_links.specs.Links.{LinkState}
use Rattle.channel_client.specs.Effects.{View, view_of}
use Rattle.channel_client.specs.declared.state.Pending.{Pending}
use Rattle.channel_client.specs.declared.state.Question.TheVariants as question
use Rattle.channel_client.specs.declared.state.Step.TheVariants as step
use Rattle.channel_client.specs.State.{Requester}
use Rattle.domain_controller.specs.State.{State as ControllerState}
use Rattle.domain_controller.specs.declared.state.Running.{Running as ControllerRunning}
use Rattle.domain_controller.specs.declared.state.Talk.{Talk as ControllerTalk}
use Rattle.member_server.specs.State.{State as MemberState}
use Rattle.channel_turns.specs.declared.state.Dialling.{Dialling}
use Rattle.channel_turns.specs.declared.state.Dialling.TheVariants as dialling
use Rattle.member_server.specs.declared.state.Logon.{Logon}
use Rattle.member_server.specs.declared.state.Running.{Running as MemberRunning}
use Rattle.wire_base.specs.Lists.{OneOf}
use Rattle.channel_events.specs.Marks.{Calling}
use Rattle.channel_events.specs.Requests.{CallsAreApart, Requests}
use Rattle.step_notes.specs.ChannelNames.{standing_channel}
use Rattle.step_notes.specs.Records.{MessageTaken, RequesterId, Sent}
use Rattle.world_moves.specs.declared.bag.BagUnit.{BagUnit}
use Rattle.world_moves.specs.declared.links.LinkKind.TheVariants as kind
use Rattle.world_moves.specs.declared.links.Route.{Route}
use Rattle.world_moves.specs.declared.links.Route.TheVariants.{ToController}
use Rattle.world_moves.specs.declared.moves.Move.{Move}
use Rattle.world_moves.specs.declared.plan.Plan.{Plan}
use Rattle.world_moves.specs.declared.state.State.{State}
use Rattle.world_moves.specs.Forms.{IsSchedule}
use Rattle.domain_world.specs.Accepting.Carried.{IsWholeUnit}
use Rattle.domain_world.specs.Accepting.Units.{HasMarksOf}
use Rattle.domain_world.specs.Past.{Past, controller_asked, controller_of, past, requester_at}

-- ---- what is under way between members and controllers is whole

abbrev pub BagIsWhole : State → Type 0
BagIsWhole s =
    (n : ℕ) (unit : BagUnit) → slice_get s.bag n ≡ Some unit → unit.kind ≡ kind.ToController → IsWholeUnit unit.bytes × (length unit.bytes ≤ 65536)

abbrev pub IsOfMember : List Route → ℕ → Type 0
IsOfMember links number = (member : ℕ) × (controller : ℕ) × (slice_get links number ≡ Some (ToController member controller))

-- nothing is open on the links that members dialled
abbrev pub IsQuietLink : List Route → ℕ × LinkState ControllerTalk → Type 0
IsQuietLink links link = IsOfMember links link.0 → (link.1.rest ≡ []) × (link.1.talk.joiner ≡ None)

abbrev pub ControllersAreQuiet : State → Type 0
ControllersAreQuiet s =
    (i : ℕ) (c : ControllerState) (running : ControllerRunning) → slice_get s.ends.controllers i ≡ Some c → c.running ≡ Some running →
    AllByRecursion (IsQuietLink s.links) running.links

-- nothing of a unit is held on the link of a turn
abbrev pub IsQuietTurn : Dialling → Type 0
IsQuietTurn dialling.Nothing = Unit {0}
IsQuietTurn (dialling.Waits turn frames) = Unit {0}
IsQuietTurn (dialling.On number said) = (said.rest ≡ []) × (said.talk.joiner ≡ None)

abbrev pub MembersAreQuiet : State → Type 0
MembersAreQuiet s =
    (i : ℕ) (m : MemberState) (running : MemberRunning) → slice_get s.ends.members i ≡ Some m → m.running ≡ Some running → IsQuietTurn running.dialling

-- What members and controllers sent to each other lies whole in the bag, and of no unit between them a part is held:
-- no unit is open at a controller on a link that a member dialled, nor at a member on the link of its turn.
pub record NothingIsOpen (s : State) : Type 0 where
  pub bag : BagIsWhole s
  pub controllers : ControllersAreQuiet s
  pub members : MembersAreQuiet s

-- ---- calls

abbrev pub view_with : ℕ → Option Requester → Option View
view_with controller None = None
view_with controller (Some requester) = Some (view_of controller requester)

-- how who asks is seen in a state
abbrev pub seen_in : State → RequesterId → Option View
seen_in s who = view_with (controller_asked who s) (requester_at s who)

-- how requesters are seen in a world; and no number comes round: a move comes to 40 of them at most, where a link that
-- is open stands for those that its end can come to
pub record Shows (r : Requests RequesterId) (past : Past) (moves : ℕ) : Type 0 where
  pub views : (who : RequesterId) → r.views who ≡ seen_in past.world.state who
  pub marks : HasMarksOf past r
  pub drawn : r.drawn ≡ past.world.state.chances.drawn
  pub few : r.uses + 4 * length past.world.state.open_links ≤ 40 * moves

-- the message of that logon has its call out, with that number, on the channel that stands
pub record IsOut (past : Past) (member : ℕ) (pending : Pending) (logon : Logon) (standing : Option ChannelIdentity) (message : MessageTaken) : Type 0 where
  pub link : message.link ≡ logon.link
  pub by : message.member ≡ member
  pub request : ℕ
  pub call : message.call ≡ Some request
  pub sent : Sent
  pub there : slice_get past.book.sent request ≡ Some sent
  pub channel : ChannelIdentity
  pub timestamp : ℕ
  pub stands : standing ≡ Some channel
  pub mark : sent.mark ≡ Calling channel pending.number timestamp

abbrev pub AskedIsOut : Past → Type 0
AskedIsOut past =
    (k : ℕ) (m : MemberState) (running : MemberRunning) (pending : Pending) (logon : Logon) → slice_get past.world.state.ends.members k ≡ Some m → m.running ≡ Some running →
    running.logons.channel.turn ≡ Some pending → pending.step ≡ step.Reply question.Logon → lookup same_number pending.place running.logons.asked ≡ Some logon →
    OneOf (IsOut past k pending logon (standing_channel (controller_of k past.world.state) running.logons.channel)) past.book.messages

-- ---- of runs

pub record RunsStandSo (plan : Plan) (moves : List Move) : Type 0 where
  pub quiet : NothingIsOpen (past plan moves).world.state
  pub requests : Requests RequesterId
  pub shows : Shows requests (past plan moves) (length moves)
  pub apart : CallsAreApart requests
  pub out : AskedIsOut (past plan moves)

-- no number comes round within a schedule
abbrev pub NumbersSuffice : Type 0
NumbersSuffice = (plan : Plan) (moves : List Move) (r : Requests RequesterId) → IsSchedule plan moves → Shows r (past plan moves) (length moves) → r.uses + 2 < 2 ^ 32

-- the first world
abbrev pub FirstWorldsStandSo : Type 0
FirstWorldsStandSo = (plan : Plan) → RunsStandSo plan []

pub record RunsBegin : Type 0 where
  pub first : FirstWorldsStandSo
  pub numbers : NumbersSuffice
