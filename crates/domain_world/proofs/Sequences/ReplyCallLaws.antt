-- Each reply to a call answers one that was made on its channel, of that number, which passed then.
-- It serves `Proved.answered`.
use Rattle.std.proofs.Common.{◌≡◌, false, Some, refl, subst}
use Rattle.channel_events.specs.Marks.{Mark}
use Rattle.wire_base.proofs.ListLaws.{one_weaker}
use Rattle.step_notes.specs.ControllerNotes.{has_passed}
use Rattle.step_notes.specs.Records.{Judging}
use Rattle.step_notes.specs.ReplySends.{IsReplyOfCall}
use Rattle.domain_world.specs.Accepting.Sequences.{IsPassedIn, RepliesAnswerCalls}
use Rattle.domain_world.specs.Accepting.Units.{UnitsAreHeard}
use Rattle.domain_world.specs.Claims.Replies.{IsReplyOfOne}
use Rattle.domain_world.specs.Past.{Past, past, plain_form}
use Rattle.domain_world.specs.Schedules.{OfSchedules}
use Rattle.domain_world.proofs.Acceptance.AnsweredLaws.{passed_of}
use Rattle.domain_world.proofs.Acceptance.CarriedLaws.{requested}
use Rattle.wire_base.proofs.ListPlaceLaws.{placed}
use Rattle.domain_world.proofs.Acceptance.ScheduleLaws.{units_heard}
use Rattle.domain_world.proofs.Judgements.ReplyLaws.{replies_carry}
use Rattle.domain_world.proofs.Judgements.UnclashedLaws.{passes_unclashed}
use Rattle.domain_world.proofs.Calls.MarkWayLaws.{marks_have_their_way}

pub replies_answer : OfSchedules (λ plan moves. (past plan moves).book.clash ≡ false → RepliesAnswerCalls (past plan moves))
replies_answer plan moves nobody schedule clear n unit one channel number request bag there mark =
    let p : Past = past plan moves in
    let all : UnitsAreHeard p = units_heard plan moves nobody schedule in
    let replied = subst (λ (m : Mark). IsReplyOfOne p.book.judged n (plain_form p.book.sent n unit) m) mark (replies_carry plan moves nobody n unit one bag there) in
    let found = placed (λ (j : Judging). (j.reply ≡ Some n) × IsReplyOfCall channel number request j (plain_form p.book.sent n unit)) p.book.judged replied in
    let asked = requested p all.whole (marks_have_their_way plan moves nobody.plain) all.judged (passes_unclashed plan moves) (replies_carry plan moves nobody) all.numbers clear found.place channel found.item request number
    (plain_form p.book.sent n unit) found.there found.is.1 in
    record {
      sent = asked.sent;
      there = asked.there;
      named = asked.named;
      timestamp = asked.timestamp;
      mark = asked.mark;
      same = asked.same;
      passed = one_weaker (λ (j : Judging). (j.reply ≡ Some n) × IsReplyOfCall channel number request j (plain_form p.book.sent n unit)) (λ (j : Judging). IsPassedIn request j × (j.reply ≡ Some n)) p.book.judged
          (λ j of. ((passed_of (has_passed j.how) j channel refl of.1.passed, of.1.came), of.0)) replied;
    }
