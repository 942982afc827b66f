-- What members ask for in a run: in each Logon call what a message says that the member took in the run (MS-NRPC
-- 3.5.4.5.3, MS-NLMP 3.2.5.1.2), and in each other call on a channel that the next secret is set that the member keeps
-- (MS-NRPC 3.5.4.4.6). What is claimed is this project's own choice.
use Rattle.std.specs.Prelude.{ℕ, ◌≡◌, ◌⊎◌, List, map, Option, Some, None, Ok, slice_get}
use Rattle.std.specs.List.{AllByRecursion}
use Rattle.authenticators.specs.Channels.{ChannelIdentity}
use Rattle.outside.specs.declared.action.Action.{Action}
use Rattle.outside.specs.declared.event.Event.TheVariants as event
use Rattle.end_links.specs.Sending.{joined_frames}
use Rattle.end_links.specs.Serving.{ServedUnit}
use Rattle.member_server.specs.Machine.{step_of}
use Rattle.member_server.specs.State.{State as MemberState}
use Rattle.member_server.specs.Turns.{AtTurn}
use Rattle.member_server.specs.declared.state.Logon.{Logon}
use Rattle.member_server.specs.declared.state.Running.{Running}
use Rattle.channel_turns.specs.declared.state.TurnTalk.{TurnTalk}
use Rattle.wire_base.specs.Lists.{OneOf}
use Rattle.channel_events.specs.Marks.{Mark}
use Rattle.step_notes.specs.CallLogons.{AreForChange, AreForLogon, AsksUnlessStopped, IfCalling, IsForItsChange, IsForItsLogon, info_at}
use Rattle.step_notes.specs.ChannelNames.{sends_in}
use Rattle.step_notes.specs.Marking.{turn_marks}
use Rattle.step_notes.specs.MemberNotes.{turn_note, turn_units}
use Rattle.step_notes.specs.Records.{MessageTaken}
use Rattle.step_notes.specs.Served.{work_after}
use Rattle.domain_world.specs.Claims.{info_asked}
use Rattle.domain_world.specs.Past.{Past}

-- ---- laws

-- each member asks for what it keeps, at the end of a run
abbrev pub MembersAskForKept : Past → Type 0
MembersAskForKept past = AllByRecursion (λ (m : MemberState). AsksUnlessStopped m.running) past.world.state.ends.members

-- ---- in a run

-- what is asked for the logon that a member keeps under a place is what that message asks, which the member took for
-- that place
pub record IsOfMessage (member place : ℕ) (logon : Logon) (message : MessageTaken) : Type 0 where
  pub same_member : message.member ≡ member
  pub same_place : message.place ≡ place
  pub asks : info_at place logon ≡ record (info_asked message) { logon_id = message.place }

-- a request for a logon goes out, and what is asked is what a message asks
pub record IsForItsMessage
    (member : ℕ) (messages : List MessageTaken) (controller : ℕ) (before : AtTurn) (later : Option AtTurn) (called : Option ℕ) (channel : ChannelIdentity)
    (number timestamp : ℕ) : Type 0 where
  pub carries : IsForItsLogon controller before later called channel number timestamp
  pub message : OneOf (IsOfMessage member carries.asks.place carries.asks.logon) messages

-- by the place whose Logon call goes out: it is for the message of that place; or it sets a secret, where it is of none
abbrev pub AsksBy : Option ℕ → ℕ → List MessageTaken → ℕ → AtTurn → Option AtTurn → Mark → Type 0
AsksBy (Some place) member messages controller before later mark =
    IfCalling (IsForItsMessage member messages controller before later (Some place)) mark
AsksBy None member messages controller before later mark = IfCalling (IsForItsChange controller before later) mark

-- of a unit that the member serves, where the channel is with that controller
abbrev pub AsksForItsMessage : ℕ → List MessageTaken → ℕ → ServedUnit AtTurn TurnTalk → Type 0
AsksForItsMessage member messages controller unit =
    AsksBy (turn_note controller unit).called member messages controller unit.work (work_after unit.part) (turn_note controller unit).mark

-- At the end of a run, whatever bytes then come at a member on whatever link: each Logon call that goes out carries
-- what a message asks that the member took in the run, and each other call on a channel the next secret.
abbrev pub MembersAskForMessages : Past → Type 0
MembersAskForMessages past =
    (member : ℕ) (m : MemberState) → slice_get past.world.state.ends.members member ≡ Some m →
    (controller number : ℕ) (piece : List ℕ) (now : ℕ) (left : List (List ℕ)) →
    AllByRecursion (AsksForItsMessage member past.book.messages controller) (turn_units m number piece now left)

-- bytes that a member sends are the request for a logon, by its plan, the logons that it keeps and the channel that
-- stands as they were before the step, and what is asked is what a message asks
pub record AreSentForMessage
    (member : ℕ) (m : MemberState) (messages : List MessageTaken) (controller : ℕ) (bytes : List ℕ) (channel : ChannelIdentity) (number timestamp : ℕ) : Type 0 where
  pub running : Running
  pub runs : m.running ≡ Some running
  pub frames : List (List ℕ)
  pub asks : AreForLogon controller running.logons channel number timestamp frames
  pub message : OneOf (IsOfMessage member asks.place asks.logon) messages
  pub is : bytes ≡ joined_frames frames

-- the bytes are those of a request that sets the next secret
pub record AreSentForChange (m : MemberState) (controller : ℕ) (bytes : List ℕ) (channel : ChannelIdentity) (number timestamp : ℕ) : Type 0 where
  pub running : Running
  pub runs : m.running ≡ Some running
  pub frames : List (List ℕ)
  pub asks : AreForChange controller running.logons channel number timestamp frames
  pub is : bytes ≡ joined_frames frames

abbrev pub AreSentFor : ℕ → MemberState → List MessageTaken → ℕ → List ℕ → ChannelIdentity → ℕ → ℕ → Type 0
AreSentFor member m messages controller bytes channel number timestamp =
    AreSentForMessage member m messages controller bytes channel number timestamp
    ⊎ AreSentForChange m controller bytes channel number timestamp

-- What a member sends in the place of a mark for a call is a request that asks what a message asks, or that sets the
-- next secret.
abbrev pub SendsAskForMessages : Past → Type 0
SendsAskForMessages past =
    (member : ℕ) (m : MemberState) → slice_get past.world.state.ends.members member ≡ Some m →
    (controller number : ℕ) (piece : List ℕ) (now : ℕ) (left : List (List ℕ)) (actions : List Action) →
    (step_of m (event.Bytes number piece) now left).answer ≡ Ok actions → (place : ℕ) (mark : Mark) (bytes : List ℕ) →
    slice_get (turn_marks (map (turn_note controller) (turn_units m number piece now left))) place ≡ Some mark →
    slice_get (sends_in actions) place ≡ Some bytes →
    IfCalling (AreSentFor member m past.book.messages controller bytes) mark
