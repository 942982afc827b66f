-- Where each unit is heard whole a run's claims on answers hold.
-- It serves `runs_are_heard`.
use Rattle.std.proofs.Common.{◌≡◌, ℕ, List, Some, slice_get, refl, sym, ap, subst, ◌∙◌}
use Rattle.channel_events.specs.Marks.{Mark}
use Rattle.channel_events.specs.Requests.{CallsAreApart, IsRequest, Requests}
use Rattle.step_notes.specs.Records.{RequesterId, Sent}
use Rattle.world_moves.specs.declared.moves.Move.{Move}
use Rattle.world_moves.specs.declared.plan.Plan.{Plan}
use Rattle.world_moves.specs.Draws.{DrawsDiffer}
use Rattle.world_moves.specs.Alone.{IsPlainAlone}
use Rattle.domain_world.specs.Accepting.Answered.{AnswersAreHeard}
use Rattle.domain_world.specs.Accepting.Carried.{CallsHaveNumbers}
use Rattle.domain_world.specs.Accepting.Units.{HasMarksOf, RunsAreHeard, UnitsAreHeard}
use Rattle.domain_world.specs.Claims.RequestNumbers.{RequestsHaveNumbers}
use Rattle.domain_world.specs.Past.{Past, past}
use Rattle.domain_world.proofs.Acceptance.AnsweredLaws.{accepts_all, accepts_only, keys_agree, raises_once}
use Rattle.domain_world.proofs.Acceptance.AnsweredRunLaws.{answers_judged}
use Rattle.domain_world.proofs.Acceptance.CarriedLaws.{carried_heard}
use Rattle.domain_world.proofs.Messages.KeyLaws.{keys_made}
use Rattle.domain_world.proofs.Acceptance.NameLaws.{lets_in_by_name}
use Rattle.domain_world.proofs.Acceptance.Heard.ReadBackLaws.{read_back}
use Rattle.domain_world.proofs.Messages.MessageApartLaws.{messages_apart}
use Rattle.domain_world.proofs.Judgements.ReplyLaws.{replies_carry}
use Rattle.domain_world.proofs.Judgements.UnclashedLaws.{passes_unclashed}
use Rattle.domain_world.proofs.Calls.MarkWayLaws.{marks_have_their_way}
use Rattle.domain_controller.proofs.TurnOutLaws.{got_map}

-- no two requests on a channel have one number, where requesters keep them apart
pub requests_numbered : (past : Past) (r : Requests RequesterId) → HasMarksOf past r → CallsAreApart r → RequestsHaveNumbers past
requests_numbered past r marks apart n m number c d one other there also asks asks_too same =
    let marked : (k : ℕ) (sent : Sent) → slice_get past.book.sent k ≡ Some sent → slice_get r.marks k ≡ Some sent.mark =
    λ k sent at. ap (λ (all : List Mark). slice_get all k) marks ∙ got_map (λ (s : Sent). s.mark) past.book.sent k sent at in
    apart.distinct n m number c d (record { mark = one.mark; asks = asks; there = marked n one there }) (record { mark = other.mark; asks = asks_too; there = marked m other also }) same

calls_numbered : (past : Past) (r : Requests RequesterId) → HasMarksOf past r → CallsAreApart r → CallsHaveNumbers past
calls_numbered past r marks apart n m number timestamp later c d one other there also mark mark_too same =
    requests_numbered past r marks apart n m number c d one other there also (subst (IsRequest c number) (sym mark) (refl, refl)) (subst (IsRequest d number) (sym mark_too) (refl, refl)) same

pub heard_in : (plan : Plan) (moves : List Move) → IsPlainAlone plan → UnitsAreHeard (past plan moves) → DrawsDiffer (past plan moves).world → AnswersAreHeard (past plan moves)
heard_in plan moves nobody heard differ =
    let its : Past = past plan moves in
    record {
      passes = passes_unclashed plan moves;
      alike = carried_heard.alike its heard.judged;
      asks = carried_heard.asks its heard.judged heard.called;
      answers = carried_heard.answers its heard.whole (marks_have_their_way plan moves nobody.plain) heard.judged (passes_unclashed plan moves) (replies_carry plan moves nobody) heard.numbers heard.openings heard.turns;
      told = read_back.told its heard.back heard.told;
      messages = messages_apart plan moves nobody.plain;
      let_in = read_back.let_in its heard.back heard.let_in;
      keys = keys_made its heard.made heard.taken;
    }

pub runs_heard : RunsAreHeard
runs_heard = record {
  numbers = calls_numbered;
  heard = heard_in;
  only = λ plan moves nobody heard differ clear. accepts_only (past plan moves) (answers_judged plan moves nobody differ) (heard_in plan moves nobody heard differ) clear;
  all = λ plan moves nobody heard differ clear. accepts_all (past plan moves) (answers_judged plan moves nobody differ) (heard_in plan moves nobody heard differ) clear;
  keys = λ plan moves nobody heard differ clear. keys_agree (past plan moves) (answers_judged plan moves nobody differ) (heard_in plan moves nobody heard differ) clear;
  counts = λ plan moves nobody heard differ clear. raises_once (past plan moves) (answers_judged plan moves nobody differ) (heard_in plan moves nobody heard differ) clear;
  names = λ plan moves nobody heard differ calm. lets_in_by_name (past plan moves) (answers_judged plan moves nobody differ) (heard_in plan moves nobody heard differ) calm;
}
