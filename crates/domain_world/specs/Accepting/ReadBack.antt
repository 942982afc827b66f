-- What a member reads in an answer (MS-NRPC 3.5.4.5.3), and what is told of it: below `AnswersAreTold` and
-- `LetsInAsRead` of `Answered`, which follow from it (`OutcomesAreReadBack`).
use Rattle.std.specs.Prelude.{ℕ, ◌≡◌, ◌==◌, true, false, Some, Ok, slice_get}
use Rattle.std.specs.List.{AllByRecursion}
use Rattle.authenticators.specs.Channels.{ChannelIdentity, SameChannel, channel_key}
use Rattle.authenticators.specs.SecureChannels.{SecureChannelState, key_of_channel}
use Rattle.outside.specs.declared.action.Outcome.{Outcome}
use Rattle.rpc_units.specs.Joining.{stub_of}
use Rattle.logon_stubs.specs.Calls.{reply_of}
use Rattle.logon_stubs.specs.Status.{access_denied}
use Rattle.logon_stubs.specs.declared.calls.LogonCall.{LogonCall}
use Rattle.logon_stubs.specs.declared.calls.LogonReply.{LogonReply}
use Rattle.logon_stubs.specs.declared.calls.Reply.TheVariants as reply
use Rattle.logon_stubs.specs.declared.info.Verdict.{Verdict}
use Rattle.channel_client.specs.Machine.{judge_logon}
use Rattle.channel_client.specs.declared.judging.Judgement.TheVariants as judgement
use Rattle.channel_client.specs.declared.state.Standing.TheVariants as standing
use Rattle.member_server.specs.Outcomes.{outcome_of}
use Rattle.member_server.specs.Turns.{ending_of}
use Rattle.wire_base.specs.Lists.{OneOf}
use Rattle.channel_events.specs.Marks.{ReplyTo}
use Rattle.step_notes.specs.Marking.{sent_channel}
use Rattle.step_notes.specs.Records.{IfNetwork, Judging, MessageTaken, OutcomeTold, Sent}
use Rattle.step_notes.specs.ReplySends.{IsReplyOfCall, reply_passed}
use Rattle.world_moves.specs.declared.bag.BagUnit.{BagUnit}
use Rattle.world_moves.specs.Counting.{is_in}
use Rattle.domain_world.specs.Accepting.Answered.{AnswersAreTold, LetsInAsRead}
use Rattle.domain_world.specs.Accepting.Carried.{AnswersAreInTurn, AnswersAreTaken, IsWholeUnit, MessagesAreAnswered}
use Rattle.domain_world.specs.Past.{Past, plain_form}

-- a unit that is the reply to a Logon call that was judged in the run, and that passed, is read as the reply that its
-- controller made; a call that wasn't judged there could have names out of their ranges, which are written alike
abbrev pub RepliesAreReadBack : Past → Type 0
RepliesAreReadBack past =
    (n : ℕ) (unit : BagUnit) (one : Sent) → slice_get past.world.state.bag n ≡ Some unit → slice_get past.book.sent n ≡ Some one →
    (channel : ChannelIdentity) (number request place : ℕ) (j : Judging) → slice_get past.book.judged place ≡ Some j → one.mark ≡ ReplyTo channel number request →
    (is : IsReplyOfCall channel number request j (plain_form past.book.sent n unit)) →
    (whole : IsWholeUnit (plain_form past.book.sent n unit)) →
    IfNetwork (λ (c : LogonCall). reply_of 2 (stub_of whole.unit.body) ≡ Ok (reply_passed j c is.carries.next.channel is.carries.next.given)) j.asked

-- The outcome is what the member read in that unit, on a channel that stood, by the logon of a message; and the unit
-- was made for that channel.
pub record IsReadIn (past : Past) (message : MessageTaken) (u : ℕ) (result : Outcome) : Type 0 where
  pub channel : ChannelIdentity
  pub stood : SecureChannelState
  pub key : key_of_channel stood ≡ channel_key channel
  pub carrier : BagUnit
  pub there : slice_get past.world.state.bag u ≡ Some carrier
  pub whole : IsWholeUnit (plain_form past.book.sent u carrier)
  pub read : LogonReply
  pub reads : reply_of 2 (stub_of whole.unit.body) ≡ Ok (reply.Logon read)
  pub later : SecureChannelState
  pub verdict : Verdict
  pub judged : judge_logon (read.status == access_denied) (standing.Open stood) read.returned read.status read.level read.info ≡ judgement.Answer later verdict
  pub is : result ≡ outcome_of (ending_of verdict) message.logon
  pub sent : Sent
  pub noted : slice_get past.book.sent u ≡ Some sent
  pub named : ChannelIdentity
  pub made : sent_channel (Some sent) ≡ Some named
  pub same : SameChannel named channel

pub record IsToldInTurn (past : Past) (message : MessageTaken) (u : ℕ) (told : OutcomeTold) : Type 0 where
  pub link : told.link ≡ message.link
  pub member : told.member ≡ message.member
  pub reading : IsReadIn past message u told.outcome

abbrev pub TurnsAreTold : Past → Type 0
TurnsAreTold past =
    past.book.clash ≡ false → AllByRecursion (λ (message : MessageTaken). (u : ℕ) → message.reply ≡ Some u →
    OneOf (λ (told : OutcomeTold). IsToldInTurn past message u told) past.book.told) past.book.messages

pub record IsLetInInTurn (past : Past) (told : OutcomeTold) (message : MessageTaken) : Type 0 where
  pub unit : ℕ
  pub reply : message.reply ≡ Some unit
  pub turn : IsToldInTurn past message unit told

abbrev pub TurnsLetIn : Past → Type 0
TurnsLetIn past =
    past.book.clash ≡ false → AllByRecursion (λ (told : OutcomeTold). is_in told.outcome ≡ true →
    OneOf (λ (message : MessageTaken). IsLetInInTurn past told message) past.book.messages) past.book.told

-- answers are taken in turn, those of messages among them; their outcomes are told, and who is let in is let in by one
pub record TurnsAreHeard (past : Past) : Type 0 where
  pub taken : AnswersAreTaken past
  pub answered : MessagesAreAnswered past
  pub turns : AnswersAreInTurn past
  pub told : TurnsAreTold past
  pub let_in : TurnsLetIn past

pub record OutcomesAreReadBack : Type 0 where
  pub told : (past : Past) → RepliesAreReadBack past → TurnsAreTold past → AnswersAreTold past
  pub let_in : (past : Past) → RepliesAreReadBack past → TurnsLetIn past → LetsInAsRead past
