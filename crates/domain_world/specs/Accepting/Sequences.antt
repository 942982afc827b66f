-- What the second part of the claim on sequences rests on, of one channel, its requester and the units that were made
-- for it: the calls of a requester's turns, and that each has the timestamp of its turn.
use Rattle.std.specs.Prelude.{ℕ, ◌≡◌, ◌≢◌, ◌⊎◌, true, false, List, [], ◌∷◌, ◌++◌, map, Option, Some, slice_get}
use Rattle.std.specs.List.{AllByRecursion}
use Rattle.authenticators.specs.Channels.{ChannelIdentity, SameChannel}
use Rattle.authenticators.specs.SecureChannels.{SecureChannelState}
use Rattle.channel_client.specs.declared.state.Pending.{Pending}
use Rattle.wire_base.specs.Lists.{OneOf}
use Rattle.channel_events.specs.Marks.{Calling, ReplyTo}
use Rattle.step_notes.specs.ControllerNotes.{has_passed}
use Rattle.step_notes.specs.Records.{CallTaken, InUnit, Judging, RequesterId, Sent, given_in, timestamp_in}
use Rattle.controller_calls.specs.declared.calls.JudgedCall.{JudgedCall}
use Rattle.world_moves.specs.declared.bag.BagUnit.{BagUnit}
use Rattle.world_moves.specs.declared.moves.Move.{Move}
use Rattle.world_moves.specs.declared.plan.Plan.{Plan}
use Rattle.world_moves.specs.Alone.{IsPlainAlone}
use Rattle.domain_world.specs.Accepting.Carried.{IsTakenInTurn, IsWholeUnit, call_carried, call_judged}
use Rattle.domain_world.specs.Accepting.Units.{UnitsAreHeard}
use Rattle.domain_world.specs.Claims.{IsClear}
use Rattle.domain_world.specs.Claims.SharedSequences.{SequencesAreShared, ChannelStands, timestamps_on}
use Rattle.domain_world.specs.Past.{Past, past, plain_form}

-- ---- timestamps

-- a unit that was made as a call carries one with that timestamp
abbrev pub CallsAreStamped : Past → Type 0
CallsAreStamped past =
    (n : ℕ) (unit : BagUnit) (one : Sent) (channel : ChannelIdentity) (number timestamp : ℕ) (asked : JudgedCall) → slice_get past.world.state.bag n ≡ Some unit →
    slice_get past.book.sent n ≡ Some one → one.mark ≡ Calling channel number timestamp → (whole : IsWholeUnit (plain_form past.book.sent n unit)) →
    call_carried whole.unit.body ≡ Some (call_judged asked) → timestamp_in (given_in asked) ≡ timestamp

-- ---- the calls of turns

-- the unit was made as a call on the channel, with that timestamp
pub record IsMadeOn (past : Past) (channel : ChannelIdentity) (n timestamp : ℕ) : Type 0 where
  pub sent : Sent
  pub there : slice_get past.book.sent n ≡ Some sent
  pub number : ℕ
  pub mark : sent.mark ≡ Calling channel number timestamp

-- the answer to it was taken
pub record IsTakenFor (past : Past) (n : ℕ) : Type 0 where
  pub taken : CallTaken
  pub call : taken.call ≡ n
  pub turn : IsTakenInTurn past taken

-- the call passed
abbrev pub IsPassedIn : ℕ → Judging → Type 0
IsPassedIn n j = (has_passed j.how ≡ true) × (j.source ≡ InUnit n)

abbrev pub HasPassed : Past → ℕ → Type 0
HasPassed past n = OneOf (IsPassedIn n) past.book.judged

-- each is a unit and a timestamp
abbrev pub HavePassed : Past → List (ℕ × ℕ) → Type 0
HavePassed past made = AllByRecursion (λ (one : ℕ × ℕ). HasPassed past one.0) made

abbrev pub stamps_of : List (ℕ × ℕ) → List ℕ
stamps_of made = map (λ (one : ℕ × ℕ). one.1) made

-- no two of them are one unit
abbrev pub AreUnitsApart : List (ℕ × ℕ) → Type 0
AreUnitsApart [] = Unit {0}
AreUnitsApart (one ∷ made) = AllByRecursion (λ (other : ℕ × ℕ). one.0 ≢ other.0) made × AreUnitsApart made

-- a turn is out whose call wasn't made yet
pub record HasBindOut (past : Past) (turn : Option Pending) (made : List (ℕ × ℕ)) (timestamps : List ℕ) : Type 0 where
  pub pending : Pending
  pub is_out : turn ≡ Some pending
  pub last : ℕ
  pub all : timestamps ≡ stamps_of made ++ last ∷ []
  pub passed : HavePassed past made

-- a turn is out whose call is the last one
pub record HasCallOut (past : Past) (turn : Option Pending) (made : List (ℕ × ℕ)) (timestamps : List ℕ) : Type 0 where
  pub pending : Pending
  pub is_out : turn ≡ Some pending
  pub earlier : List (ℕ × ℕ)
  pub last : ℕ × ℕ
  pub split : made ≡ earlier ++ last ∷ []
  pub all : timestamps ≡ stamps_of made
  pub passed : HavePassed past earlier

abbrev pub AreSoFar : Past → Option Pending → List (ℕ × ℕ) → List ℕ → Type 0
AreSoFar past turn made timestamps =
    ((timestamps ≡ stamps_of made) × HavePassed past made) ⊎ (HasBindOut past turn made timestamps ⊎ HasCallOut past turn made timestamps)

-- The calls that were made on a channel, in order, are those of its requester's turns; each passed but for one that is
-- out.
pub record CallsOfTurns (past : Past) (channel : ChannelIdentity) (turn : Option Pending) (timestamps : List ℕ) : Type 0 where
  pub made : List (ℕ × ℕ)
  pub each : AllByRecursion (λ (one : ℕ × ℕ). IsMadeOn past channel one.0 one.1) made
  pub apart : AreUnitsApart made
  -- no other call was made on a channel with its client's challenge
  pub every : (n number timestamp : ℕ) (sent : Sent) (other : ChannelIdentity) → slice_get past.book.sent n ≡ Some sent → sent.mark ≡ Calling other number timestamp →
      other.client ≡ channel.client → OneOf (λ (one : ℕ × ℕ). one.0 ≡ n) made
  pub far : AreSoFar past turn made timestamps

-- where a channel stands at a requester, its calls are those of the turns on it
abbrev pub TurnsAreCalled : Past → Type 0
TurnsAreCalled past =
    (who : RequesterId) (channel : ChannelIdentity) (o : SecureChannelState) → (stands : ChannelStands past.world.state who channel o) →
    CallsOfTurns past channel stands.turn (timestamps_on who channel past.book.turns)

-- ---- replies

-- The unit `request` was made as a call on the channel, with that number; and it passed at the step that sent unit n as
-- its reply.
pub record AnswersCall (past : Past) (channel : ChannelIdentity) (number request n : ℕ) : Type 0 where
  pub sent : Sent
  pub there : slice_get past.book.sent request ≡ Some sent
  pub named : ChannelIdentity
  pub timestamp : ℕ
  pub mark : sent.mark ≡ Calling named number timestamp
  pub same : SameChannel named channel
  pub passed : OneOf (λ (j : Judging). IsPassedIn request j × (j.reply ≡ Some n)) past.book.judged

-- each unit that was made as the reply to a call answers that call
abbrev pub RepliesAnswerCalls : Past → Type 0
RepliesAnswerCalls past =
    (n : ℕ) (unit : BagUnit) (one : Sent) (channel : ChannelIdentity) (number request : ℕ) → slice_get past.world.state.bag n ≡ Some unit →
    slice_get past.book.sent n ≡ Some one → one.mark ≡ ReplyTo channel number request → AnswersCall past channel number request n

-- ---- the laws

-- the call whose answer was taken passed, where there was no clash
abbrev pub TakenCallsPass : Type 0
TakenCallsPass =
    (plan : Plan) (moves : List Move) → IsPlainAlone plan → UnitsAreHeard (past plan moves) → (past plan moves).book.clash ≡ false → (n : ℕ) → IsTakenFor (past plan moves) n →
    HasPassed (past plan moves) n

abbrev pub SequencesFollow : Type 0
SequencesFollow =
    (plan : Plan) (moves : List Move) → IsPlainAlone plan → UnitsAreHeard (past plan moves) → CallsAreStamped (past plan moves) → TurnsAreCalled (past plan moves) →
    IsClear (past plan moves).book → SequencesAreShared (past plan moves)
