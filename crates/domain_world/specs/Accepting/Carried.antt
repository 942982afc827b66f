-- What is below the premises of the claims on answers (`Answered`): of each unit of the bag that its bytes are those of
-- one whole unit, of each mark what a unit with that mark is, and of each message which calls were made for it and in
-- which turn its answer was taken. From these follow three of the eight premises (`CarriedCallsAreHeard`).
use Rattle.std.specs.Prelude.{ℕ, ◌≡◌, ◌%◌, ◌^◌, true, false, List, Option, Some, None, Ok, slice_get, ◌⊎◌, ◌<◌}
use Rattle.std.specs.List.{AllByRecursion}
use Rattle.wire_base.specs.declared.authenticator.Authenticator.{Authenticator}
use Rattle.authenticators.specs.Channels.{ChannelIdentity, SameChannel}
use Rattle.rpc_units.specs.Calls.{IsHeard}
use Rattle.rpc_units.specs.Joining.{stub_of}
use Rattle.rpc_units.specs.declared.unit.Unit.{Unit as RpcUnit}
use Rattle.logon_stubs.specs.Calls.{call_of, opnum_of_call, reply_of}
use Rattle.logon_stubs.specs.Writing.{written_call}
use Rattle.logon_stubs.specs.declared.calls.Call.TheVariants as netlogon
use Rattle.controller_calls.specs.declared.calls.ControllerCall.{ControllerCall}
use Rattle.controller_calls.specs.declared.calls.ControllerCall.TheVariants as call
pub use Rattle.step_notes.specs.HeardWhole.{call_carried, call_read}
use Rattle.logon_stubs.specs.declared.calls.LogonCall.{LogonCall}
use Rattle.logon_stubs.specs.declared.calls.LogonReply.{LogonReply}
use Rattle.logon_stubs.specs.declared.calls.Reply.TheVariants as reply
use Rattle.end_links.specs.Sending.{request_of}
use Rattle.wire_base.specs.Lists.{OneOf}
use Rattle.channel_events.specs.Marks.{Mark, Plain, Opening, Opened, Calling, ReplyTo}
use Rattle.step_notes.specs.Marking.{sent_channel}
use Rattle.step_notes.specs.Records.{CallTaken, InUnit, Judging, MessageTaken, OfMember, OfTrust, RequesterId, Sent}
use Rattle.controller_calls.specs.declared.calls.JudgedCall.{JudgedCall}
use Rattle.account_table.specs.AccountTable.{AccountTable}
use Rattle.account_table.specs.declared.account.Trust.{Trust}
use Rattle.world_moves.specs.declared.bag.BagUnit.{BagUnit}
use Rattle.world_moves.specs.declared.links.EndId.TheVariants.{Controller}
use Rattle.world_moves.specs.Ends.{EndStates}
use Rattle.world_moves.specs.Moving.{end_of_peer}
use Rattle.domain_world.specs.Claims.OpeningReplies.{RepliesAreToOpenings}
use Rattle.domain_world.specs.Claims.RequestNumbers.{RequestsHaveNumbers}
use Rattle.secret_change.specs.Calls.{set_reply_of}
use Rattle.secret_change.specs.declared.calls.SetReply.{SetReply}
use Rattle.domain_world.specs.Accepting.Answered.{AnswersAreToCalls, CallsAskForMessages, MarksHaveTheirWay, PassesAreUnclashed, UnitsAreHeardAlike}
use Rattle.domain_world.specs.Claims.{HasController, info_asked}
use Rattle.domain_world.specs.Claims.Replies.{RepliesCarryTheirJudgement}
use Rattle.domain_world.specs.Past.{Past, plain_form}

-- ---- what a whole unit carries

-- a call that is judged, as a controller serves it
abbrev pub call_judged : JudgedCall → ControllerCall
call_judged asked = call.Judged asked

-- the bytes are those of one whole unit
pub record IsWholeUnit (bytes : List ℕ) : Type 0 where
  pub frames : List RpcUnit
  pub unit : RpcUnit
  pub heard : IsHeard bytes frames unit

-- the unit isn't a call that is judged
abbrev pub IsNotJudged : RpcUnit → Type 0
IsNotJudged unit = (asked : JudgedCall) → call_carried unit.body ≡ Some (call_judged asked) → ⊥

-- a unit can be read as the reply to a Logon call, with an authenticator
pub record IsReadAsLogon (unit : RpcUnit) : Type 0 where
  pub read : LogonReply
  pub given : Authenticator
  pub reads : reply_of 2 (stub_of unit.body) ≡ Ok (reply.Logon read)
  pub returned : read.returned ≡ Some given

-- the unit can be read as the reply to a call that sets a secret
pub record IsReadAsSet (unit : RpcUnit) : Type 0 where
  pub read : SetReply
  pub reads : set_reply_of (stub_of unit.body) ≡ Ok read

-- which are the calls that a member asks on a channel
abbrev pub IsReadAsAnswer : RpcUnit → Type 0
IsReadAsAnswer unit = IsReadAsLogon unit ⊎ IsReadAsSet unit

-- no reply to a Logon call is read in it
abbrev pub IsNoAnswer : RpcUnit → Type 0
IsNoAnswer unit = IsReadAsLogon unit → ⊥

-- by what a unit was made for; its number is that of its mark
abbrev pub IsAsMarked : Mark → RpcUnit → Type 0
IsAsMarked Plain unit = Unit {0}
IsAsMarked (Opening channel number) unit = IsNotJudged unit × (unit.call ≡ number)
IsAsMarked (Opened channel number request) unit = IsNotJudged unit × IsNoAnswer unit × (unit.call ≡ number % 2 ^ 32)
IsAsMarked (Calling channel number timestamp) unit = unit.call ≡ number
IsAsMarked (ReplyTo channel number request) unit = IsNotJudged unit × (unit.call ≡ number)

abbrev pub IsPlain : Mark → Type 0
IsPlain Plain = Unit {0}
IsPlain _ = ⊥

pub record IsWholeAsMarked (mark : Mark) (bytes : List ℕ) : Type 0 where
  pub whole : IsWholeUnit bytes
  pub marked : IsAsMarked mark whole.unit

-- each unit that was made for a channel is one whole unit, and is what its mark says
abbrev pub MarkedUnitsAreWhole : Past → Type 0
MarkedUnitsAreWhole past =
    (n : ℕ) (unit : BagUnit) (one : Sent) → slice_get past.world.state.bag n ≡ Some unit → slice_get past.book.sent n ≡ Some one →
    (IsPlain one.mark → ⊥) → IsWholeAsMarked one.mark (plain_form past.book.sent n unit)

-- ---- at a controller

-- the call that was judged is that of a unit of the bag, with its number
pub record IsJudgedAsCarried (past : Past) (j : Judging) (n : ℕ) : Type 0 where
  pub carrier : BagUnit
  pub there : slice_get past.world.state.bag n ≡ Some carrier
  pub whole : IsWholeUnit (plain_form past.book.sent n carrier)
  pub number : j.number ≡ whole.unit.call
  pub carried : call_carried whole.unit.body ≡ Some (call_judged j.asked)

abbrev pub JudgedAsCarried : Past → Type 0
JudgedAsCarried past = AllByRecursion (λ (j : Judging). (n : ℕ) → j.source ≡ InUnit n → IsJudgedAsCarried past j n) past.book.judged

-- ---- at a member

-- the unit carries the Logon call of a message
pub record IsCalledFor (past : Past) (message : MessageTaken) (n : ℕ) : Type 0 where
  pub carrier : BagUnit
  pub there : slice_get past.world.state.bag n ≡ Some carrier
  pub number : ℕ
  pub logon : LogonCall
  pub frames : List RpcUnit
  pub heard : IsHeard (plain_form past.book.sent n carrier) frames (request_of number 0 (opnum_of_call (netlogon.Logon logon)) (written_call (netlogon.Logon logon)))
  pub again : call_of (opnum_of_call (netlogon.Logon logon)) (written_call (netlogon.Logon logon)) ≡ Ok (netlogon.Logon logon)
  pub info : logon.info ≡ record (info_asked message) { logon_id = message.place }
  pub level : logon.validation ≡ 3

abbrev pub MessagesAreCalled : Past → Type 0
MessagesAreCalled past =
    AllByRecursion (λ (message : MessageTaken). (n : ℕ) → message.call ≡ Some n → IsCalledFor past message n) past.book.messages

-- the trust of that number, in the order of a table
abbrev pub entry_in : ℕ → Option AccountTable → Option Trust
entry_in trust None = None
entry_in trust (Some table) = slice_get table.trusts trust

-- the controller is at the address of a trust
abbrev pub HasTrusted : Option Trust → EndStates → ℕ → Type 0
HasTrusted None ends controller = ⊥
HasTrusted (Some trust) ends controller = end_of_peer trust.address ends ≡ Some (Controller controller)

-- the controller is that of which that requester asks
abbrev pub AsksOf : RequesterId → Past → ℕ → Type 0
AsksOf (OfMember member) past controller = HasController (slice_get past.plan.members member) past.world.state.ends controller
AsksOf (OfTrust asking trust) past controller = HasTrusted (entry_in trust (slice_get past.plan.tables asking)) past.world.state.ends controller

-- The answer was taken in the turn of its call, whoever asked: on a channel that stood, with the controller of which
-- the requester asks, on which the call had gone out with that number; and it came back on the turn's link, has the
-- number, can be read as a reply that has an authenticator, and was made for that channel.
pub record IsTakenInTurn (past : Past) (taken : CallTaken) : Type 0 where
  pub channel : ChannelIdentity
  pub number : ℕ
  pub timestamp : ℕ
  pub out : Sent
  pub asked : slice_get past.book.sent taken.call ≡ Some out
  pub mark : out.mark ≡ Calling channel number timestamp
  pub controller : AsksOf taken.requester past channel.controller
  pub carrier : BagUnit
  pub there : slice_get past.world.state.bag taken.reply ≡ Some carrier
  pub back : carrier.back ≡ true
  pub whole : IsWholeUnit (plain_form past.book.sent taken.reply carrier)
  pub has : whole.unit.call ≡ number
  pub answer : IsReadAsAnswer whole.unit
  pub sent : Sent
  pub noted : slice_get past.book.sent taken.reply ≡ Some sent
  pub named : ChannelIdentity
  pub made : sent_channel (Some sent) ≡ Some named
  pub same : SameChannel named channel

-- where no credential clashed, each answer that was taken was taken in the turn of its call
abbrev pub AnswersAreTaken : Past → Type 0
AnswersAreTaken past = past.book.clash ≡ false → AllByRecursion (λ (taken : CallTaken). IsTakenInTurn past taken) past.book.answers

-- the member took that unit as the answer to the call of the message
pub record IsAnswerFor (message : MessageTaken) (unit : ℕ) (taken : CallTaken) : Type 0 where
  pub requester : taken.requester ≡ OfMember message.member
  pub call : message.call ≡ Some taken.call
  pub reply : taken.reply ≡ unit

-- where no credential clashed, each message whose answer was taken has that answer among those that are written down
abbrev pub MessagesAreAnswered : Past → Type 0
MessagesAreAnswered past =
    past.book.clash ≡ false → AllByRecursion (λ (message : MessageTaken). (unit : ℕ) → message.reply ≡ Some unit →
    OneOf (IsAnswerFor message unit) past.book.answers) past.book.messages

-- the answer of the message was taken in the turn of its call
pub record IsAnsweredInTurn (past : Past) (message : MessageTaken) (unit : ℕ) : Type 0 where
  pub taken : CallTaken
  pub is : IsAnswerFor message unit taken
  pub turn : IsTakenInTurn past taken

abbrev pub AnswersAreInTurn : Past → Type 0
AnswersAreInTurn past =
    past.book.clash ≡ false → AllByRecursion (λ (message : MessageTaken). (unit : ℕ) → message.reply ≡ Some unit → IsAnsweredInTurn past message unit)
    past.book.messages

-- the calls that were made with one client's challenge have different numbers (`Requests`)
abbrev pub CallsHaveNumbers : Past → Type 0
CallsHaveNumbers past =
    (n m number timestamp later : ℕ) (c d : ChannelIdentity) (one other : Sent) → slice_get past.book.sent n ≡ Some one → slice_get past.book.sent m ≡ Some other →
    one.mark ≡ Calling c number timestamp → other.mark ≡ Calling d number later → c.client ≡ d.client → n ≡ m

-- ---- openings and their replies beside the calls

-- the number of an opening has 32 bits
abbrev pub OpeningsAreSmall : Past → Type 0
OpeningsAreSmall past =
    (n number : ℕ) (channel : ChannelIdentity) (one : Sent) → slice_get past.book.sent n ≡ Some one → one.mark ≡ Opening channel number → number < 2 ^ 32

-- no opening has the number of a call that was made with its client's challenge, and each reply to an opening is to one
-- with its number
pub record OpeningsAreApart (past : Past) : Type 0 where
  pub numbers : RequestsHaveNumbers past
  pub answered : past.book.clash ≡ false → RepliesAreToOpenings past
  pub small : OpeningsAreSmall past

-- ---- the law

pub record CarriedCallsAreHeard : Type 0 where
  pub alike : (past : Past) → JudgedAsCarried past → UnitsAreHeardAlike past
  pub asks : (past : Past) → JudgedAsCarried past → MessagesAreCalled past → CallsAskForMessages past
  pub answers : (past : Past) → MarkedUnitsAreWhole past → MarksHaveTheirWay past → JudgedAsCarried past → PassesAreUnclashed past →
      RepliesCarryTheirJudgement past → CallsHaveNumbers past → OpeningsAreApart past → AnswersAreInTurn past → AnswersAreToCalls past
