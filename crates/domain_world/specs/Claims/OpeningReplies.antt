-- The replies by which controllers accept openings of secure channels, and which opening each answers (MS-NRPC
-- 3.5.4.4.3; what is claimed is this project's own choice).
use Rattle.std.specs.Prelude.{ℕ, ◌≡◌, false, List, Some, slice_get}
use Rattle.std.specs.List.{AllByRecursion}
use Rattle.authenticators.specs.Channels.{ChannelIdentity, SameChannel}
use Rattle.wire_base.specs.Lists.{OneOf}
use Rattle.channel_events.specs.Marks.{Mark, Plain, Opening, Opened, Calling, ReplyTo}
use Rattle.step_notes.specs.Marking.{clashes}
use Rattle.step_notes.specs.Records.{ChannelAccepted, InUnit, Sent, unit_in}
use Rattle.domain_world.specs.Past.{Past}

-- The opening was accepted on that channel. Its call has that number and came in the unit `request`, and the unit
-- `reply` carries the answer.
pub record IsAcceptedIn (channel : ChannelIdentity) (number request reply : ℕ) (one : ChannelAccepted) : Type 0 where
  pub opened : one.channel ≡ channel
  pub call : one.number ≡ number
  pub came : one.source ≡ InUnit request
  pub answer : one.reply ≡ Some reply

-- where the unit of that number is marked as the reply to an opening, one of those that were accepted has its reply
-- there
abbrev pub IsReplyOfOpening : List ChannelAccepted → ℕ → Mark → Type 0
IsReplyOfOpening accepted reply Plain = Unit {0}
IsReplyOfOpening accepted reply (Opening channel number) = Unit {0}
IsReplyOfOpening accepted reply (Opened channel number request) = OneOf (IsAcceptedIn channel number request reply) accepted
IsReplyOfOpening accepted reply (Calling channel number timestamp) = Unit {0}
IsReplyOfOpening accepted reply (ReplyTo channel number request) = Unit {0}

-- Without a clash each opening that was accepted came in a unit that was made for its channel, or from outside.
abbrev pub OpeningsAreUnclashed : Past → Type 0
OpeningsAreUnclashed past =
    past.book.clash ≡ false → AllByRecursion (λ (one : ChannelAccepted). clashes (Some one.channel) (unit_in one.source) past.book.sent ≡ false) past.book.accepted

-- Replies to openings: each unit that is marked as one is that of an opening which was accepted, on the channel of the
-- mark, with its number, and whose call came in the unit that the mark names. Without a clash that unit was made for
-- the channel.
pub record RepliesAnswerOpenings (past : Past) : Type 0 where
  pub replies : (number : ℕ) (sent : Sent) → slice_get past.book.sent number ≡ Some sent → IsReplyOfOpening past.book.accepted number sent.mark
  pub unclashed : OpeningsAreUnclashed past

-- The opening has its reply in the bag, which is marked as that: on its channel, by its number, and by the unit in
-- which its call came. It was accepted at the step that sent the reply.
pub record IsMarkedAsOpened (past : Past) (one : ChannelAccepted) (n : ℕ) : Type 0 where
  pub reply : ℕ
  pub is : one.reply ≡ Some reply
  pub sent : Sent
  pub there : slice_get past.book.sent reply ≡ Some sent
  pub mark : sent.mark ≡ Opened one.channel one.number n
  pub step : sent.at ≡ one.at

-- each opening that was accepted and came in a unit of the bag has its reply in a unit that is marked as that
abbrev pub OpeningsAreMarked : Past → Type 0
OpeningsAreMarked past = AllByRecursion (λ (one : ChannelAccepted). (n : ℕ) → one.source ≡ InUnit n → IsMarkedAsOpened past one n) past.book.accepted

-- The unit `request` was made as the opening of the channel, with that number. It was accepted after `moves` moves, and
-- the unit `reply` carries the answer.
pub record AnswersOpening (past : Past) (channel : ChannelIdentity) (number request reply moves : ℕ) : Type 0 where
  pub sent : Sent
  pub there : slice_get past.book.sent request ≡ Some sent
  pub named : ChannelIdentity
  pub mark : sent.mark ≡ Opening named number
  pub same : SameChannel named channel
  pub accepted : OneOf (λ (one : ChannelAccepted). IsAcceptedIn channel number request reply one × (one.at ≡ moves)) past.book.accepted

-- Each unit that was made as the reply to an opening answers one that was accepted at the step that sent it.
abbrev pub RepliesAreToOpenings : Past → Type 0
RepliesAreToOpenings past =
    (n : ℕ) (one : Sent) (channel : ChannelIdentity) (number request : ℕ) → slice_get past.book.sent n ≡ Some one → one.mark ≡ Opened channel number request →
    AnswersOpening past channel number request n one.at
