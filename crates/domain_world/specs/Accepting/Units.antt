-- What the claims on answers rest on in a run whose draws differ: each fact is of one unit of the bag, one message or
-- one step.
use Rattle.std.specs.Prelude.{◌≡◌, false, List, map}
use Rattle.channel_events.specs.Requests.{CallsAreApart, Requests}
use Rattle.step_notes.specs.Records.{RequesterId, Sent}
use Rattle.world_moves.specs.declared.moves.Move.{Move}
use Rattle.world_moves.specs.declared.plan.Plan.{Plan}
use Rattle.world_moves.specs.Draws.{DrawsDiffer}
use Rattle.world_moves.specs.Alone.{IsPlainAlone}
use Rattle.domain_world.specs.Accepting.Answered.{AnswersAreHeard}
use Rattle.domain_world.specs.Accepting.Carried.{AnswersAreInTurn, CallsHaveNumbers, JudgedAsCarried, MarkedUnitsAreWhole, MessagesAreCalled, OpeningsAreApart}
use Rattle.domain_world.specs.Accepting.KeysMade.{MessagesAreMade, MessagesAreTakenAsSent}
use Rattle.domain_world.specs.Accepting.ReadBack.{RepliesAreReadBack, TurnsAreTold, TurnsLetIn}
use Rattle.domain_world.specs.Claims.{AcceptsAllGranted, AcceptsOnlyGranted, IsClear, KeysAgree}
use Rattle.domain_world.specs.Claims.Counts.{EachCallRaisesOnce}
use Rattle.domain_world.specs.Claims.Names.{LetsInByName}
use Rattle.domain_world.specs.Past.{Past, past}

pub record UnitsAreHeard (past : Past) : Type 0 where
  pub whole : MarkedUnitsAreWhole past
  pub judged : JudgedAsCarried past
  pub called : MessagesAreCalled past
  pub numbers : CallsHaveNumbers past
  pub openings : OpeningsAreApart past
  pub turns : AnswersAreInTurn past
  pub back : RepliesAreReadBack past
  pub told : TurnsAreTold past
  pub let_in : TurnsLetIn past
  pub made : MessagesAreMade past
  pub taken : MessagesAreTakenAsSent past

-- requesters whose marks are those of what was sent, whatever is seen of them
abbrev pub HasMarksOf : Past → Requests RequesterId → Type 0
HasMarksOf past r = r.marks ≡ map (λ (one : Sent). one.mark) past.book.sent

pub record RunsAreHeard : Type 0 where
  pub numbers : (past : Past) (r : Requests RequesterId) → HasMarksOf past r → CallsAreApart r → CallsHaveNumbers past
  pub heard : (plan : Plan) (moves : List Move) → IsPlainAlone plan → UnitsAreHeard (past plan moves) → DrawsDiffer (past plan moves).world → AnswersAreHeard (past plan moves)
  pub only : (plan : Plan) (moves : List Move) → IsPlainAlone plan → UnitsAreHeard (past plan moves) → DrawsDiffer (past plan moves).world → IsClear (past plan moves).book →
      AcceptsOnlyGranted (past plan moves)
  pub all : (plan : Plan) (moves : List Move) → IsPlainAlone plan → UnitsAreHeard (past plan moves) → DrawsDiffer (past plan moves).world → IsClear (past plan moves).book →
      AcceptsAllGranted (past plan moves)
  pub keys : (plan : Plan) (moves : List Move) → IsPlainAlone plan → UnitsAreHeard (past plan moves) → DrawsDiffer (past plan moves).world → IsClear (past plan moves).book →
      KeysAgree (past plan moves)
  pub counts : (plan : Plan) (moves : List Move) → IsPlainAlone plan → UnitsAreHeard (past plan moves) → DrawsDiffer (past plan moves).world → IsClear (past plan moves).book →
      EachCallRaisesOnce (past plan moves)
  pub names : (plan : Plan) (moves : List Move) → IsPlainAlone plan → UnitsAreHeard (past plan moves) → DrawsDiffer (past plan moves).world → (past plan moves).book.clash ≡ false →
      LetsInByName (past plan moves)
