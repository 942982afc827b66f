-- `AnswersAreJudged` and `ShortResponsesServeOnce` hold of runs. It serves `runs_are_proved`, `Proved.responses`.
use Rattle.std.proofs.Common.{List}
use Rattle.world_moves.specs.declared.moves.Move.{Move}
use Rattle.world_moves.specs.declared.plan.Plan.{Plan}
use Rattle.world_moves.specs.Draws.{DrawsAreBlocks, DrawsDiffer}
use Rattle.world_moves.specs.Alone.{IsPlainAlone}
use Rattle.world_moves.specs.Plain.{IsPlainPlan}
use Rattle.domain_world.specs.Accepting.Answered.{AnswersAreJudged}
use Rattle.domain_world.specs.Claims.{ShortResponsesServeOnce}
use Rattle.domain_world.specs.Past.{past}
use Rattle.domain_world.proofs.Acceptance.ShortResponseLaws.{short_once}
use Rattle.domain_world.proofs.Challenges.OwnChallengeLaws.{messages_own}
use Rattle.domain_world.proofs.Moves.MarkedLaws.{each_marked}
use Rattle.domain_world.proofs.Judgements.TrustGrantLaws.{grants_who_may}
use Rattle.domain_world.proofs.Judgements.UserHashLaws.{users_stay}
use Rattle.domain_world.proofs.Judgements.ReplayLaws.{replays_by_sum}
use Rattle.domain_world.proofs.Judgements.ReplyLaws.{replies_carry}
use Rattle.domain_world.proofs.Judgements.TrustToldLaws.{passes_the_next}

pub short_responses : (plan : Plan) (moves : List Move) → IsPlainPlan plan → DrawsDiffer (past plan moves).world → DrawsAreBlocks (past plan moves).world → ShortResponsesServeOnce (past plan moves)
short_responses plan moves nothing differ blocks = short_once (past plan moves) (messages_own plan moves nothing differ) blocks

pub answers_judged : (plan : Plan) (moves : List Move) → IsPlainAlone plan → DrawsDiffer (past plan moves).world → AnswersAreJudged (past plan moves)
answers_judged plan moves nobody differ = record {
  credentials = passes_the_next plan moves nobody.plain;
  replays = replays_by_sum plan moves nobody.plain;
  grants = grants_who_may plan moves nobody.plain (users_stay plan moves nobody.plain);
  replies = replies_carry plan moves nobody;
  own = messages_own plan moves nobody.plain differ;
  marked = each_marked plan moves;
}
