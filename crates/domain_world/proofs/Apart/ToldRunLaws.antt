-- What the book of a schedule without a clash tells of openings that were accepted, and of the requests of replies.
-- It serves `Proved.never_apart`.
use Rattle.std.proofs.Common.{◌≡◌, ◌≢◌, ℕ, zero, suc, false, List, [], ◌∷◌, length, Some, slice_get, sym, ◌∙◌, arith}
use Rattle.std.specs.Prelude.{AllPairs}
use Rattle.std.specs.List.{AllByRecursion}
use Rattle.std.proofs.lemmas.List.Elements.{recursion_from_All}
use Rattle.authenticators.specs.Channels.{ChannelIdentity}
use Rattle.wire_base.specs.Lists.{OneOf}
use Rattle.channel_events.specs.Marks.{Mark, ReplyTo}
use Rattle.wire_base.proofs.ListLaws.{all_weaker, one_weaker, some_is}
use Rattle.step_notes.specs.Records.{ChannelAccepted, InUnit, Judging, Sent}
use Rattle.world_moves.specs.declared.bag.BagUnit.{BagUnit}
use Rattle.world_moves.specs.declared.moves.Move.{Move}
use Rattle.world_moves.specs.declared.plan.Plan.{Plan}
use Rattle.world_moves.specs.Forms.{IsSchedule}
use Rattle.domain_world.specs.Accepting.Sequences.{AnswersCall, IsPassedIn, RepliesAnswerCalls}
use Rattle.domain_world.specs.Claims.OpeningReplies.{AnswersOpening, IsMarkedAsOpened, RepliesAreToOpenings}
use Rattle.domain_world.specs.Claims.Openings.{IsUnused}
use Rattle.domain_world.specs.Past.{Past, past}
use Rattle.domain_world.proofs.Acceptance.MarkRunLaws.{openings_marked}
use Rattle.domain_world.proofs.Apart.OrderToldLaws.{AreOnce, IsAnsweredIn, IsCallingOf, OpensIn, Told}
use Rattle.domain_world.proofs.Moves.MarkPlaceLaws.{got_beside, got_map}
use Rattle.domain_world.proofs.Judgements.Openings.OpeningAnswerLaws.{replies_to_openings}
use Rattle.domain_world.proofs.Judgements.Openings.OpeningRunLaws.{openings_in_order}
use Rattle.domain_world.proofs.Calls.CallHoldsLaws.{mark_there, marks_in}
use Rattle.domain_world.proofs.Sequences.ReplyCallLaws.{replies_answer}
use Rattle.domain_world.proofs.Moves.MarkedLaws.{each_marked}
use Rattle.world_moves.specs.Alone.{IsPlainAlone}

-- ---- none twice

abbrev Apart : ChannelAccepted → ChannelAccepted → Type 0
Apart one other = one.channel.server ≢ other.channel.server

unused_behind : (one : ChannelAccepted) (older : List ChannelAccepted) → AllByRecursion (λ (other : ChannelAccepted). one.channel.server ≢ other.channel.server) older → IsUnused one.channel.server older
unused_behind one older all =
    all_weaker (λ (other : ChannelAccepted). one.channel.server ≢ other.channel.server) (λ (other : ChannelAccepted). other.channel.server ≢ one.channel.server) older
    (λ other differs same. differs (sym same)) all

pub once_by_pairs : (accepted : List ChannelAccepted) → AllPairs Apart accepted → AreOnce accepted
once_by_pairs [] pairs = tt
once_by_pairs (one ∷ older) pairs = (
  unused_behind one older
      (recursion_from_All (λ (other : ChannelAccepted). one.channel.server ≢ other.channel.server) older (λ k d within. pairs zero (suc k) d (omega arith) (omega (arith, within)))),
  once_by_pairs older (λ i j d before within. pairs (suc i) (suc j) d (omega (arith, before)) (omega (arith, within))),
)

-- ---- the units in which they came

module _ (p : Past) (replies : RepliesAreToOpenings p) where
  opens_one : (one : ChannelAccepted) → ((n : ℕ) → one.source ≡ InUnit n → IsMarkedAsOpened p one n) → OpensIn (marks_in p.book.sent) one
  opens_one one all n mark came there =
      let marked : IsMarkedAsOpened p one n = all n came in
      let answers : AnswersOpening p one.channel one.number n marked.reply marked.sent.at = replies marked.reply marked.sent one.channel one.number n marked.there marked.mark in
      record {
        named = answers.named;
        number = one.number;
        is = some_is mark answers.sent.mark (sym there ∙ mark_there p.book.sent n answers.sent answers.there) ∙ answers.mark;
        same = answers.same;
      }

-- ---- the requests of replies

module _ (p : Past) (even : length p.book.sent ≡ length p.world.state.bag) (answers : RepliesAnswerCalls p) where
  request_is : (n number request : ℕ) (c : ChannelIdentity) (mark : Mark) → slice_get (marks_in p.book.sent) n ≡ Some (ReplyTo c number request) →
      slice_get (marks_in p.book.sent) request ≡ Some mark → IsCallingOf mark c
  request_is n number request c mark there also =
      let found = got_map (λ (one : Sent). one.mark) p.book.sent n (ReplyTo c number request) there in
      let unit : (u : BagUnit) × (slice_get p.world.state.bag n ≡ Some u) = got_beside p.book.sent p.world.state.bag n found.0 even found.1 in
      let its : AnswersCall p c number request n = answers n unit.0 found.0 c number request unit.1 found.1 found.2 in
      record {
        named = its.named;
        number = number;
        timestamp = its.timestamp;
        is = some_is mark its.sent.mark (sym also ∙ mark_there p.book.sent request its.sent its.there) ∙ its.mark;
        same = its.same;
      }

  answered_is : (n number request : ℕ) (c : ChannelIdentity) → slice_get (marks_in p.book.sent) n ≡ Some (ReplyTo c number request) → OneOf (IsAnsweredIn request n) p.book.judged
  answered_is n number request c there =
      let found = got_map (λ (one : Sent). one.mark) p.book.sent n (ReplyTo c number request) there in
      let unit : (u : BagUnit) × (slice_get p.world.state.bag n ≡ Some u) = got_beside p.book.sent p.world.state.bag n found.0 even found.1 in
      one_weaker (λ (j : Judging). IsPassedIn request j × (j.reply ≡ Some n)) (IsAnsweredIn request n) p.book.judged (λ j is. (is.0.1, is.1))
      (answers n unit.0 found.0 c number request unit.1 found.1 found.2).passed

-- each schedule without a clash tells so
pub schedules_tell : (plan : Plan) (moves : List Move) → IsPlainAlone plan → IsSchedule plan moves → (past plan moves).book.clash ≡ false → Told (past plan moves).book
schedules_tell plan moves nobody schedule clear = record {
  clash = clear;
  once = once_by_pairs (past plan moves).book.accepted (openings_in_order plan moves nobody.plain).once;
  openings = all_weaker (λ (one : ChannelAccepted). (n : ℕ) → one.source ≡ InUnit n → IsMarkedAsOpened (past plan moves) one n) (OpensIn (marks_in (past plan moves).book.sent))
      (past plan moves).book.accepted (opens_one (past plan moves) (replies_to_openings plan moves nobody schedule clear)) (openings_marked plan moves nobody.plain);
  replies = request_is (past plan moves) (each_marked plan moves) (replies_answer plan moves nobody schedule clear);
  judged = answered_is (past plan moves) (each_marked plan moves) (replies_answer plan moves nobody schedule clear);
}
