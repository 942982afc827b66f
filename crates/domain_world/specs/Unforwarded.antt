-- What is claimed of runs in which no call comes for a trusted domain and challenges are left at the end, whatever the
-- plan (this project's own choice).
use Rattle.std.specs.Prelude.{◌≡◌, false, List}
use Rattle.world_moves.specs.declared.moves.Move.{Move}
use Rattle.world_moves.specs.declared.plan.Plan.{Plan}
use Rattle.world_moves.specs.Forms.{IsSchedule}
use Rattle.world_moves.specs.Plain.{IsPlainPlan}
use Rattle.world_moves.specs.Unforwarded.{IsUnforwarded, alone_plan}
use Rattle.domain_world.specs.Accepting.Answered.{CallsAskForMessages}
use Rattle.domain_world.specs.Accepting.Carried.{MarkedUnitsAreWhole}
use Rattle.domain_world.specs.Accepting.Sequences.{RepliesAnswerCalls, TurnsAreCalled}
use Rattle.domain_world.specs.Claims.ChannelKinds.{OpeningsNameTheirKind}
use Rattle.domain_world.specs.Claims.Completeness.{EachSucceeds}
use Rattle.domain_world.specs.Claims.Counts.{EachCallRaisesOnce}
use Rattle.domain_world.specs.Claims.Names.{LetsInByName}
use Rattle.domain_world.specs.Claims.NeverApart.{MembersAreNeverApart}
use Rattle.domain_world.specs.Claims.OneByOne.{NoneClashes}
use Rattle.domain_world.specs.Claims.OpeningReplies.{RepliesAreToOpenings}
use Rattle.domain_world.specs.Claims.RequestNumbers.{RequestsHaveNumbers}
use Rattle.domain_world.specs.Claims.SharedSequences.{SequencesAreShared}
use Rattle.domain_world.specs.Claims.{AcceptsAllGranted, AcceptsOnlyGranted, IsClear, KeysAgree, ShortResponsesLetInOnce}
use Rattle.domain_world.specs.Past.{past}

-- What is written down of a run of a plain plan in which no call comes for a trusted domain is what is written down of
-- the run of the plan whose controllers ask nobody.
abbrev pub BooksAlone : Type 0
BooksAlone = (plan : Plan) (moves : List Move) → IsPlainPlan plan → IsUnforwarded plan moves →
    (past (alone_plan plan) moves).book ≡ (past plan moves).book

-- What is proved of runs of plain plans in which each call is judged by the controller that hears it. The rest of
-- what is proved of runs of plain plans is of each of them (`Proved`).
pub record IsProvedAlone (plan : Plan) (moves : List Move) : Type 0 where
  pub opened_kinds : IsSchedule plan moves → OpeningsNameTheirKind (past plan moves)
  pub opened_by : IsSchedule plan moves → (past plan moves).book.clash ≡ false → RepliesAreToOpenings (past plan moves)
  pub numbers : IsSchedule plan moves → RequestsHaveNumbers (past plan moves)
  pub answered : IsSchedule plan moves → (past plan moves).book.clash ≡ false → RepliesAnswerCalls (past plan moves)
  pub names : IsSchedule plan moves → (past plan moves).book.clash ≡ false → LetsInByName (past plan moves)
  pub only : IsSchedule plan moves → IsClear (past plan moves).book → AcceptsOnlyGranted (past plan moves)
  pub all : IsSchedule plan moves → IsClear (past plan moves).book → AcceptsAllGranted (past plan moves)
  pub keys : IsSchedule plan moves → IsClear (past plan moves).book → KeysAgree (past plan moves)
  pub counts : IsSchedule plan moves → IsClear (past plan moves).book → EachCallRaisesOnce (past plan moves)
  pub once : IsSchedule plan moves → IsClear (past plan moves).book → ShortResponsesLetInOnce (past plan moves)
  pub sequences : IsSchedule plan moves → IsClear (past plan moves).book → SequencesAreShared (past plan moves)
  pub called : IsSchedule plan moves → IsClear (past plan moves).book → TurnsAreCalled (past plan moves)
  pub whole : IsSchedule plan moves → MarkedUnitsAreWhole (past plan moves)
  pub asks_for : IsSchedule plan moves → CallsAskForMessages (past plan moves)
  pub complete : EachSucceeds (past plan moves) moves
  pub one_by_one : NoneClashes (past plan moves) moves
  pub never_apart : IsSchedule plan moves → IsClear (past plan moves).book → MembersAreNeverApart (past plan moves)

-- What `IsProvedAlone` says holds of a run of a plain plan in which no call comes for a trusted domain and challenges
-- are left at the end, where it holds of the run of the plan whose controllers ask nobody.
abbrev pub CarriesOver : Type 0
CarriesOver = (plan : Plan) (moves : List Move) → IsPlainPlan plan → IsUnforwarded plan moves → IsProvedAlone (alone_plan plan) moves → IsProvedAlone plan moves
