-- What controllers that may hand logons on send for calls on secure channels whose authenticator passes (MS-NRPC
-- 3.5.4.4.6, 3.5.4.5.3, 3.5.4.5.4): the reply to what their own cases make of the call (`Replies`); where a logon could
-- be asked of nobody, the reply that says so; and once a call that was handed on has come out, the reply to that one.
-- It is said of calls that came in a unit of the bag. What is claimed is this project's own choice.
use Rattle.std.specs.Prelude.{ℕ, ◌≡◌, ◌⊎◌, ◌||◌, true, List, Some, slice_get}
use Rattle.wire_base.specs.Lists.{OneOf}
use Rattle.authenticators.specs.Channels.{ChannelIdentity}
use Rattle.outside.specs.declared.action.Judged.TheVariants as judged
use Rattle.channel_events.specs.Marks.{Mark, Plain, Opening, Opened, Calling, ReplyTo}
use Rattle.step_notes.specs.Judged.{passed_channel}
use Rattle.step_notes.specs.Records.{InUnit, Judging, Sent}
use Rattle.step_notes.specs.ReplySends.{IsReplyOfCall}
use Rattle.step_notes.specs.TrustReplies.{IsReplyOfUnasked}
use Rattle.world_moves.specs.declared.bag.BagUnit.{BagUnit}
use Rattle.world_moves.specs.declared.plan.Plan.{Plan}
use Rattle.domain_world.specs.Past.{Past, plain_form}

-- ---- over a run

-- controllers of the plan hand logons on
abbrev pub HandsOn : Plan → Type 0
HandsOn plan = (plan.seals || plan.hands_on) ≡ true

-- the call was handed on, and came in that unit of the bag, passed on that channel and had that number
pub record IsHandedOnAs (channel : ChannelIdentity) (number request : ℕ) (j : Judging) : Type 0 where
  pub how : j.how ≡ Some judged.Forwarded
  pub came : j.source ≡ InUnit request
  pub passed : passed_channel j ≡ Some channel
  pub call : j.number ≡ number

-- these bytes are the reply to the call, which has its reply in that unit
abbrev pub IsReplyIn : Plan → ChannelIdentity → (call request unit : ℕ) → List ℕ → Judging → Type 0
IsReplyIn plan channel call request unit bytes j =
    (j.reply ≡ Some unit) × (IsReplyOfCall channel call request j bytes ⊎ (HandsOn plan × IsReplyOfUnasked channel call request j bytes))

-- where the unit of that number is marked as a reply, one of the calls that were judged has its reply there, and these
-- bytes are that reply; or a call that was handed on is answered there
abbrev pub IsReplyOfAny : Plan → List Judging → ℕ → List ℕ → Mark → Type 0
IsReplyOfAny plan judgings number bytes Plain = Unit {0}
IsReplyOfAny plan judgings number bytes (Opening channel call) = Unit {0}
IsReplyOfAny plan judgings number bytes (Opened channel call request) = Unit {0}
IsReplyOfAny plan judgings number bytes (Calling channel call timestamp) = Unit {0}
IsReplyOfAny plan judgings number bytes (ReplyTo channel call request) =
    OneOf (IsReplyIn plan channel call request number bytes) judgings ⊎ OneOf (IsHandedOnAs channel call request) judgings

-- Replies: each unit of the bag that is marked as a reply carries what its controller judged. One of the calls that
-- were judged came in the unit that the mark names, passed on its channel, had its number and has its reply in this
-- unit; and its plain form is that reply. Or the call was handed on: what the reply to such a call carries isn't said.
abbrev pub RepliesAreOfTheirCalls : Past → Type 0
RepliesAreOfTheirCalls past =
    (number : ℕ) (unit : BagUnit) (sent : Sent) →
    slice_get past.world.state.bag number ≡ Some unit →
    slice_get past.book.sent number ≡ Some sent →
    IsReplyOfAny past.plan past.book.judged number (plain_form past.book.sent number unit) sent.mark
