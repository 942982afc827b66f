-- What is written down of what the units of the bag were made for (this project's own choice).
use Rattle.std.specs.Prelude.{ℕ, ◌≡◌, ◌≢◌, true, length, Some, slice_get}
use Rattle.std.specs.List.{AllByRecursion}
use Rattle.authenticators.specs.Channels.{ChannelIdentity}
use Rattle.outside.specs.declared.action.Judged.TheVariants as judged
use Rattle.channel_events.specs.Marks.{Calling, ReplyTo}
use Rattle.step_notes.specs.ControllerNotes.{has_passed}
use Rattle.step_notes.specs.Judged.{passed_channel}
use Rattle.step_notes.specs.Records.{InUnit, Judging, MessageTaken, Sent}
use Rattle.domain_world.specs.Past.{Past, controller_of}

-- ---- each unit has its mark

-- there are as many entries of what units were made for as units in the bag, so that the number of a unit is that of
-- its entry
abbrev pub EachUnitIsMarked : Past → Type 0
EachUnitIsMarked past = length past.book.sent ≡ length past.world.state.bag

-- ---- calls and their replies have theirs

-- the unit is marked as a call on a channel with the controller of that member's plan
pub record IsMarkedAsCall (past : Past) (member n : ℕ) : Type 0 where
  pub sent : Sent
  pub there : slice_get past.book.sent n ≡ Some sent
  pub channel : ChannelIdentity
  pub number : ℕ
  pub timestamp : ℕ
  pub mark : sent.mark ≡ Calling channel number timestamp
  pub controller : channel.controller ≡ controller_of member past.world.state

-- the unit of each message's call is marked as a call at the member's controller
abbrev pub CallsAreMarked : Past → Type 0
CallsAreMarked past =
    AllByRecursion (λ (message : MessageTaken). (n : ℕ) → message.call ≡ Some n → IsMarkedAsCall past message.member n) past.book.messages

-- a message whose answer was taken has a call
abbrev pub AnswersHaveCalls : Past → Type 0
AnswersHaveCalls past = AllByRecursion (λ (message : MessageTaken). (u : ℕ) → message.reply ≡ Some u → (n : ℕ) × (message.call ≡ Some n)) past.book.messages

-- The call has a reply in the bag, which is marked as the reply to it: on the channel on which it passed, by its
-- number, and by the unit in which it came. It was judged at the step that sent the reply.
pub record IsMarkedAsReply (past : Past) (j : Judging) (n : ℕ) : Type 0 where
  pub reply : ℕ
  pub is : j.reply ≡ Some reply
  pub sent : Sent
  pub there : slice_get past.book.sent reply ≡ Some sent
  pub channel : ChannelIdentity
  pub passed : passed_channel j ≡ Some channel
  pub mark : sent.mark ≡ ReplyTo channel j.number n
  pub step : sent.at ≡ j.at

-- Each call that passed and came in a unit of the bag has its reply in a unit that is marked as that, unless the call
-- was handed on: such a call is answered once its answer has come, at a later step and in a unit that isn't written
-- down with it.
abbrev pub RepliesAreMarked : Past → Type 0
RepliesAreMarked past =
    AllByRecursion (λ (j : Judging). (n : ℕ) → j.source ≡ InUnit n → has_passed j.how ≡ true → j.how ≢ Some judged.Forwarded → IsMarkedAsReply past j n) past.book.judged
