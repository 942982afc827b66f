-- What has to hold of a run beside what is proved of it, so that a member accepts only what its controller granted, and
-- all of it, and client and member then hold one key (`Claims`): each fact is about the two ends of one unit that was
-- heard whole. Which are proved is said in docs/CLAIMS.md.
use Rattle.std.specs.Prelude.{ℕ, ◌≡◌, ◌≢◌, Bool, true, false, List, Some, slice_get, AllPairs}
use Rattle.std.specs.List.{AllByRecursion}
use Rattle.channel_keys.specs.Hidden.{crypt_key}
use Rattle.authenticators.specs.Channels.{ChannelIdentity, channel_key}
use Rattle.outside.specs.declared.action.Outcome.{Outcome}
use Rattle.logon_stubs.specs.declared.calls.LogonCall.{LogonCall}
use Rattle.logon_stubs.specs.declared.info.SamInfo.{SamInfo}
use Rattle.logon_stubs.specs.declared.info.Verdict.{Verdict}
use Rattle.logon_stubs.specs.declared.info.Verdict.TheVariants.{Granted, Status}
use Rattle.ntlm_responses.specs.Verification.{base_key_of}
use Rattle.member_server.specs.Outcomes.{key_in, outcome_of}
use Rattle.member_server.specs.Turns.{ending_of}
use Rattle.wire_base.specs.Lists.{OneOf}
use Rattle.channel_events.specs.Marks.{Mark, Plain, Opening, Opened, Calling, ReplyTo}
use Rattle.step_notes.specs.Judged.{passed_channel}
use Rattle.step_notes.specs.Marking.{clashes}
use Rattle.step_notes.specs.Records.{ChallengeSent, IfNetwork, InUnit, Judging, MessageMade, MessageTaken, OutcomeTold, Sent, unit_in}
use Rattle.controller_calls.specs.declared.calls.JudgedCall.TheVariants.{Network}
use Rattle.step_notes.specs.ReplySends.{IsReplyOfCall, verdict_passed}
use Rattle.world_moves.specs.declared.bag.BagUnit.{BagUnit}
use Rattle.world_moves.specs.Counting.{is_in}
use Rattle.domain_world.specs.Claims.{HasController, PassesTheNextCredential, ReplaysBySum, info_asked}
use Rattle.domain_world.specs.Claims.Grants.{GrantsWhoMayLogOn}
use Rattle.domain_world.specs.Claims.MarkedUnits.{EachUnitIsMarked}
use Rattle.domain_world.specs.Claims.OwnChallenges.{MessagesHaveOwnChallenges}
use Rattle.domain_world.specs.Claims.Replies.{RepliesCarryTheirJudgement}
use Rattle.domain_world.specs.Past.{Past, plain_form}

-- ---- which way units go

-- a request is sent by the end that dialled its link, a reply back to it
abbrev pub IsItsWay : Bool → Mark → Type 0
IsItsWay back Plain = Unit {0}
IsItsWay back (Opening channel number) = back ≡ false
IsItsWay back (Opened channel number request) = back ≡ true
IsItsWay back (Calling channel number timestamp) = back ≡ false
IsItsWay back (ReplyTo channel number request) = back ≡ true

abbrev pub MarksHaveTheirWay : Past → Type 0
MarksHaveTheirWay past =
    (number : ℕ) (unit : BagUnit) (one : Sent) → slice_get past.world.state.bag number ≡ Some unit → slice_get past.book.sent number ≡ Some one →
    IsItsWay unit.back one.mark

-- ---- at a controller

-- where there was no clash, each credential that passed for a call passed on the channel for which the unit was made
-- that carried the call
abbrev pub PassesAreUnclashed : Past → Type 0
PassesAreUnclashed past =
    past.book.clash ≡ false → AllByRecursion (λ (j : Judging). clashes (passed_channel j) (unit_in j.source) past.book.sent ≡ false) past.book.judged

-- two calls that came in one unit of the bag are one call
abbrev pub UnitsAreHeardAlike : Past → Type 0
UnitsAreHeardAlike past =
    AllByRecursion (λ (one : Judging). AllByRecursion (λ (other : Judging). (unit : ℕ) → one.source ≡ InUnit unit → other.source ≡ InUnit unit →
    one.asked ≡ other.asked) past.book.judged) past.book.judged

-- what was judged is a network logon that asks what the message asks, with its place as the identity of the logon
-- (MS-NRPC 2.2.1.4.15), at level 3
pub record AsksForIt (message : MessageTaken) (j : Judging) : Type 0 where
  pub call : LogonCall
  pub is : j.asked ≡ Network call
  pub info : call.info ≡ record (info_asked message) { logon_id = message.place }
  pub level : call.validation ≡ 3

-- what was judged in the unit of a message's Logon call is a network logon that asks what the message asks
abbrev pub CallsAskForMessages : Past → Type 0
CallsAskForMessages past =
    AllByRecursion (λ (message : MessageTaken). AllByRecursion (λ (j : Judging). (unit : ℕ) → message.call ≡ Some unit → j.source ≡ InUnit unit →
    AsksForIt message j) past.book.judged) past.book.messages

-- ---- at a member

-- the unit was made as the reply to the call of the message, on a channel with the controller of its member's plan
pub record IsAnsweredIn (past : Past) (message : MessageTaken) (unit : ℕ) : Type 0 where
  pub channel : ChannelIdentity
  pub number : ℕ
  pub request : ℕ
  pub sent : Sent
  pub there : slice_get past.book.sent unit ≡ Some sent
  pub mark : sent.mark ≡ ReplyTo channel number request
  pub call : message.call ≡ Some request
  pub controller : HasController (slice_get past.plan.members message.member) past.world.state.ends channel.controller

-- where there was no clash, `IsAnsweredIn` holds of each unit that was taken as the answer of a message
abbrev pub AnswersAreToCalls : Past → Type 0
AnswersAreToCalls past =
    past.book.clash ≡ false → AllByRecursion (λ (message : MessageTaken). (unit : ℕ) → message.reply ≡ Some unit → IsAnsweredIn past message unit)
    past.book.messages

-- what the member reads in the reply to a call that passed on a channel: what was granted has its key, taken out under
-- the key of the channel
abbrev pub verdict_read : List ℕ → Verdict → Verdict
verdict_read key (Granted info) = Granted (record info { key = crypt_key key (crypt_key key info.key) })
verdict_read key (Status status) = Status status

abbrev pub outcome_read : ChannelIdentity → Judging → MessageTaken → LogonCall → Outcome
outcome_read channel j message c = outcome_of (ending_of (verdict_read (channel_key channel) (verdict_passed j c))) message.logon

-- the outcome is that of the network logon that was judged
abbrev pub IsOutcomeRead : ChannelIdentity → Judging → MessageTaken → Outcome → Type 0
IsOutcomeRead channel j message how = IfNetwork (λ (c : LogonCall). how ≡ outcome_read channel j message c) j.asked

pub record IsToldAsRead (channel : ChannelIdentity) (message : MessageTaken) (j : Judging) (told : OutcomeTold) : Type 0 where
  pub link : told.link ≡ message.link
  pub member : told.member ≡ message.member
  pub outcome : IsOutcomeRead channel j message told.outcome

-- where there was no clash, the outcome of each message whose answer was taken is told, and is that of the reply
abbrev pub AnswersAreTold : Past → Type 0
AnswersAreTold past =
    past.book.clash ≡ false → AllByRecursion (λ (message : MessageTaken). (unit : ℕ) → message.reply ≡ Some unit → (carrier : BagUnit) (sent : Sent)
    (channel : ChannelIdentity) (number request place : ℕ) (j : Judging) → slice_get past.world.state.bag unit ≡ Some carrier → slice_get past.book.sent unit ≡ Some sent →
    slice_get past.book.judged place ≡ Some j → sent.mark ≡ ReplyTo channel number request → IsReplyOfCall channel number request j (plain_form past.book.sent unit carrier) →
    OneOf (IsToldAsRead channel message j) past.book.told) past.book.messages

-- where somebody is let in, the message came on that link, its answer was taken in a unit, and what is told is what is
-- read there
pub record IsLetInAsRead (past : Past) (told : OutcomeTold) (message : MessageTaken) : Type 0 where
  pub link : message.link ≡ told.link
  pub member : message.member ≡ told.member
  pub unit : ℕ
  pub reply : message.reply ≡ Some unit
  pub outcome : (carrier : BagUnit) (sent : Sent) (channel : ChannelIdentity) (number request place : ℕ) (j : Judging) →
      slice_get past.world.state.bag unit ≡ Some carrier → slice_get past.book.sent unit ≡ Some sent → slice_get past.book.judged place ≡ Some j →
      sent.mark ≡ ReplyTo channel number request → IsReplyOfCall channel number request j (plain_form past.book.sent unit carrier) → IsOutcomeRead channel j message told.outcome

abbrev pub LetsInAsRead : Past → Type 0
LetsInAsRead past =
    past.book.clash ≡ false → AllByRecursion (λ (told : OutcomeTold). is_in told.outcome ≡ true →
    OneOf (λ (message : MessageTaken). IsLetInAsRead past told message) past.book.messages) past.book.told

-- no two messages came on one link
abbrev pub MessagesAreApart : Past → Type 0
MessagesAreApart past = AllPairs (λ (one other : MessageTaken). one.link ≢ other.link) past.book.messages

-- ---- at a client

-- whoever has the session base key of the message that a client made for the CHALLENGE of a link finds the key that the
-- client kept, where the member took that message on that link
abbrev pub KeysAreFound : Past → Type 0
KeysAreFound past =
    AllByRecursion (λ (message : MessageTaken). AllByRecursion (λ (sent : ChallengeSent). AllByRecursion (λ (made : MessageMade).
    sent.link ≡ message.link → made.challenge ≡ sent.bytes → made.bytes ≡ message.bytes → (info : SamInfo) →
    info.key ≡ base_key_of made.plan.hash (info_asked message).user (info_asked message).domain (info_asked message).nt →
    key_in info message.logon ≡ made.key) past.book.made) past.book.challenges) past.book.messages

-- ---- all that is known of answers

pub record AnswersAreHeard (past : Past) : Type 0 where
  pub passes : PassesAreUnclashed past
  pub alike : UnitsAreHeardAlike past
  pub asks : CallsAskForMessages past
  pub answers : AnswersAreToCalls past
  pub told : AnswersAreTold past
  pub messages : MessagesAreApart past
  pub let_in : LetsInAsRead past
  pub keys : KeysAreFound past

-- What is claimed of how controllers judge calls and reply, of the challenges that messages are made for, and of the
-- marks of units. It holds of every run whose draws differ, of a plain plan that hands nothing on.
pub record AnswersAreJudged (past : Past) : Type 0 where
  pub credentials : PassesTheNextCredential past
  pub replays : ReplaysBySum past
  pub grants : GrantsWhoMayLogOn past
  pub replies : RepliesCarryTheirJudgement past
  pub own : MessagesHaveOwnChallenges past
  pub marked : EachUnitIsMarked past
