-- What a controller sends for each call on a secure channel whose authenticator passes (MS-NRPC 3.5.4.4.6, 3.5.4.5.3,
-- 3.5.4.5.4): the reply to what its own cases make of the call, granted or not. In a run this is said of calls that
-- came in a unit of the bag. What is claimed is this project's own choice.
use Rattle.std.specs.Prelude.{ℕ, ◌≡◌, List, Some, slice_get}
use Rattle.wire_base.specs.Lists.{OneOf}
use Rattle.channel_events.specs.Marks.{Mark, Plain, Opening, Opened, Calling, ReplyTo}
use Rattle.step_notes.specs.Records.{Judging, Sent}
use Rattle.step_notes.specs.ReplySends.{IsReplyOfCall}
use Rattle.world_moves.specs.declared.bag.BagUnit.{BagUnit}
use Rattle.domain_world.specs.Past.{Past, plain_form}

-- ---- over a run

-- where the unit of that number is marked as a reply, one of the calls that were judged has its reply there, and these
-- bytes are that reply
abbrev pub IsReplyOfOne : List Judging → ℕ → List ℕ → Mark → Type 0
IsReplyOfOne judgings number bytes Plain = Unit {0}
IsReplyOfOne judgings number bytes (Opening channel call) = Unit {0}
IsReplyOfOne judgings number bytes (Opened channel call request) = Unit {0}
IsReplyOfOne judgings number bytes (Calling channel call timestamp) = Unit {0}
IsReplyOfOne judgings number bytes (ReplyTo channel call request) =
    OneOf (λ (j : Judging). (j.reply ≡ Some number) × IsReplyOfCall channel call request j bytes) judgings

-- Replies: each unit of the bag that is marked as a reply carries what its controller judged. One of the calls that
-- were judged came in the unit that the mark names, passed on its channel, had its number and has its reply in this
-- unit; and its plain form is that reply.
abbrev pub RepliesCarryTheirJudgement : Past → Type 0
RepliesCarryTheirJudgement past =
    (number : ℕ) (unit : BagUnit) (sent : Sent) →
    slice_get past.world.state.bag number ≡ Some unit →
    slice_get past.book.sent number ≡ Some sent →
    IsReplyOfOne past.book.judged number (plain_form past.book.sent number unit) sent.mark
