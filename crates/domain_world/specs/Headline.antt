-- The whole claim of a run, in one record: what is proved of every run (this project's own choice).
use Rattle.std.specs.Prelude.{◌≡◌, List, [], ◌++◌, false}
use Rattle.world_moves.specs.declared.moves.Move.{Move}
use Rattle.world_moves.specs.declared.plan.Plan.{Plan}
use Rattle.world_moves.specs.Forms.{IsSchedule}
use Rattle.world_moves.specs.Plain.{IsPlainPlan}
use Rattle.world_moves.specs.Unforwarded.{IsJudgedAlone}
use Rattle.world_moves.specs.World.{World, first_world, run}
use Rattle.domain_world.specs.Accepting.Carried.{MarkedUnitsAreWhole}
use Rattle.domain_world.specs.Accepting.Answered.{CallsAskForMessages, MarksHaveTheirWay, MessagesAreApart, PassesAreUnclashed}
use Rattle.domain_world.specs.Accepting.KeysMade.{MessagesAreMade, MessagesAreTakenAsSent}
use Rattle.domain_world.specs.Accepting.Sequences.{RepliesAnswerCalls, TurnsAreCalled}
use Rattle.domain_world.specs.Claims.{AcceptsAllGranted, AcceptsOnlyGranted, ChallengesServeOnce, IsClear, KeysAgree, PassesTheNextCredential, ReplaysBySum, ShortResponsesLetInOnce, ShortResponsesServeOnce, TellsOfForwards}
use Rattle.domain_world.specs.Claims.ChannelKinds.{AskersNameTheirKind, KindsFollowOpenings, OpeningsNameTheirKind}
use Rattle.domain_world.specs.Claims.AskedFor.{MembersAskForKept, MembersAskForMessages, SendsAskForMessages}
use Rattle.domain_world.specs.Claims.Completeness.{EachSucceeds}
use Rattle.domain_world.specs.Claims.Counts.{EachCallRaisesOnce}
use Rattle.domain_world.specs.Claims.Grants.{GrantsWhoMayLogOn, GrantsWhoseHashIsStored}
use Rattle.domain_world.specs.Claims.LetIn.{LetsInWhoAsked}
use Rattle.domain_world.specs.Claims.MarkedUnits.{AnswersHaveCalls, CallsAreMarked, EachUnitIsMarked, RepliesAreMarked}
use Rattle.domain_world.specs.Claims.Names.{LetsInByName}
use Rattle.domain_world.specs.Claims.NeverApart.{MembersAreNeverApart}
use Rattle.domain_world.specs.Claims.OneByOne.{NoneClashes}
use Rattle.domain_world.specs.Claims.OpeningReplies.{OpeningsAreMarked, RepliesAnswerOpenings, RepliesAreToOpenings}
use Rattle.domain_world.specs.Claims.Openings.{OpeningsAreInOrder}
use Rattle.domain_world.specs.Claims.OwnChallenges.{MessagesHaveOwnChallenges}
use Rattle.domain_world.specs.Claims.RequestNumbers.{RequestsHaveNumbers}
use Rattle.domain_world.specs.Claims.Sessions.{SessionsFollow, renewals}
use Rattle.domain_world.specs.Claims.SharedSequences.{OneTurnIsOut, SequencesAreOwn, SequencesAreShared}
use Rattle.domain_world.specs.Claims.Statuses.{StatusesAreTold}
use Rattle.domain_world.specs.Claims.Tables.{TablesFollowVerdicts}
use Rattle.domain_world.specs.Claims.TrustReplies.{RepliesAreOfTheirCalls}
use Rattle.domain_world.specs.Claims.WrittenDown.{ClientsAreWrittenDown, MembersAreWrittenDown, MessagesAreOfTheirClients}
use Rattle.domain_world.specs.Past.{past}

-- What holds of the run of every list of moves from any plan: `claims_hold_of_runs`, and the clause of `drive`. What
-- members accept, how often a count is raised, what the ends of a channel share, which calls turns made, and that a
-- member and its controller are never apart, is of schedules that are clear: in them no credential passed on a unit
-- made for another channel or for none, and no seed came round. Of the others `unclashed`, and a part of `opened`, ask
-- that no credential clashed. `names`, `answered` and `opened_by` ask for a schedule besides, and `as_made`, `numbers`,
-- `whole` and `asks_for` for a schedule alone. `complete` and `one_by_one` ask for logons one at a time.
--
-- `IsPlainPlan` is a premise of each field but `marked`: no controller of the plan can seal, no member's channel does,
-- and no station stands in it. Of other runs nothing is claimed yet, since what is written down of an end is read off
-- the machine of one that can't seal, and of a station nothing is written down.
--
-- A field with the premise `IsJudgedAlone` is of runs in which each call is judged by the controller that hears it: the
-- plan's controllers aren't to hand logons on, or its tables trust no domain, or no call of the run comes for a trusted
-- domain and challenges are left at its end. Of other runs it isn't claimed yet. What is written down of a controller
-- is read off its own step, whether it hands logons on or not (`TrustNotes`), so that what it passes, grants, keeps and
-- tells, and which openings it accepts and by which replies, is claimed of every run of a plain plan.
pub record Proved (plan : Plan) (moves : List Move) : Type 0 where
  -- challenges, and the messages that are made for them
  pub challenges : IsPlainPlan plan → ChallengesServeOnce (past plan moves)
  pub messages : IsPlainPlan plan → MessagesHaveOwnChallenges (past plan moves)
  pub responses : IsPlainPlan plan → ShortResponsesServeOnce (past plan moves)
  pub apart : IsPlainPlan plan → MessagesAreApart (past plan moves)
  -- which channels controllers accept and keep, and by which replies
  pub openings : IsPlainPlan plan → OpeningsAreInOrder (past plan moves)
  -- of which types channels are, and which calls are handed on by their channel's type; and which types members and
  -- controllers open
  pub kinds : IsPlainPlan plan → KindsFollowOpenings (past plan moves)
  pub askers : IsPlainPlan plan → AskersNameTheirKind (past plan moves)
  pub opened_kinds : IsPlainPlan plan → IsJudgedAlone plan moves → IsSchedule plan moves → OpeningsNameTheirKind (past plan moves)
  pub opened : IsPlainPlan plan → RepliesAnswerOpenings (past plan moves)
  -- each reply that accepts an opening answers one of its channel, with its number, accepted at the step that sent it
  pub opened_by : IsPlainPlan plan → IsJudgedAlone plan moves → IsSchedule plan moves → (past plan moves).book.clash ≡ false → RepliesAreToOpenings (past plan moves)
  -- openings and calls on a channel have different numbers
  pub numbers : IsPlainPlan plan → IsJudgedAlone plan moves → IsSchedule plan moves → RequestsHaveNumbers (past plan moves)
  -- what controllers judge, grant and answer
  pub credentials : IsPlainPlan plan → PassesTheNextCredential (past plan moves)
  pub alone : IsPlainPlan plan → TellsOfForwards (past plan moves)
  pub replays : IsPlainPlan plan → ReplaysBySum (past plan moves)
  pub unclashed : IsPlainPlan plan → PassesAreUnclashed (past plan moves)
  pub grants : IsPlainPlan plan → GrantsWhoMayLogOn (past plan moves)
  pub let_on : IsPlainPlan plan → GrantsWhoseHashIsStored (past plan moves)
  pub statuses : IsPlainPlan plan → StatusesAreTold (past plan moves)
  pub tables : IsPlainPlan plan → TablesFollowVerdicts (past plan moves)
  pub sessions : IsPlainPlan plan → SessionsFollow (past plan moves) (renewals moves (first_world plan) [])
  pub replies : IsPlainPlan plan → RepliesAreOfTheirCalls (past plan moves)
  pub answered : IsPlainPlan plan → IsJudgedAlone plan moves → IsSchedule plan moves → (past plan moves).book.clash ≡ false → RepliesAnswerCalls (past plan moves)
  -- what members ask, and whom they let in
  pub kept : IsPlainPlan plan → MembersAskForKept (past plan moves)
  pub asked : IsPlainPlan plan → MembersAskForMessages (past plan moves)
  pub sends : IsPlainPlan plan → SendsAskForMessages (past plan moves)
  pub let_in : IsPlainPlan plan → LetsInWhoAsked (past plan moves)
  pub written : IsPlainPlan plan → MembersAreWrittenDown (past plan moves)
  pub names : IsPlainPlan plan → IsJudgedAlone plan moves → IsSchedule plan moves → (past plan moves).book.clash ≡ false → LetsInByName (past plan moves)
  -- what a member keeps with a message is read of the bytes that are written down, of it and of its link's CHALLENGE
  pub as_sent : IsPlainPlan plan → MessagesAreTakenAsSent (past plan moves)
  -- what clients make, and keep
  pub made : IsPlainPlan plan → MessagesAreOfTheirClients (past plan moves)
  pub clients : IsPlainPlan plan → ClientsAreWrittenDown (past plan moves)
  -- each message that a client made is the answer of its plan to the CHALLENGE that is written down with it
  pub as_made : IsPlainPlan plan → IsSchedule plan moves → MessagesAreMade (past plan moves)
  -- a member accepts exactly what its controller granted, client and member hold one key, a call raises a count of bad
  -- passwords at most once, and a response of 24 bytes lets in once
  pub only : IsPlainPlan plan → IsJudgedAlone plan moves → IsSchedule plan moves → IsClear (past plan moves).book → AcceptsOnlyGranted (past plan moves)
  pub all : IsPlainPlan plan → IsJudgedAlone plan moves → IsSchedule plan moves → IsClear (past plan moves).book → AcceptsAllGranted (past plan moves)
  pub keys : IsPlainPlan plan → IsJudgedAlone plan moves → IsSchedule plan moves → IsClear (past plan moves).book → KeysAgree (past plan moves)
  pub counts : IsPlainPlan plan → IsJudgedAlone plan moves → IsSchedule plan moves → IsClear (past plan moves).book → EachCallRaisesOnce (past plan moves)
  pub once : IsPlainPlan plan → IsJudgedAlone plan moves → IsSchedule plan moves → IsClear (past plan moves).book → ShortResponsesLetInOnce (past plan moves)
  -- at most one turn is out at a member, and at a controller over all its trusts; the seed of the channel of whoever
  -- asks, a member or a controller for a trust, is moved by its turns. The ends of a channel share its sequence, and
  -- the calls on it are those of its turns, of which each that ended passed
  pub one_turn : IsPlainPlan plan → OneTurnIsOut (past plan moves)
  pub own : IsPlainPlan plan → SequencesAreOwn (past plan moves)
  pub sequences : IsPlainPlan plan → IsJudgedAlone plan moves → IsSchedule plan moves → IsClear (past plan moves).book → SequencesAreShared (past plan moves)
  pub called : IsPlainPlan plan → IsJudgedAlone plan moves → IsSchedule plan moves → IsClear (past plan moves).book → TurnsAreCalled (past plan moves)
  -- the units of the bag, and which way they go
  pub marked : EachUnitIsMarked (past plan moves)
  pub ways : IsPlainPlan plan → MarksHaveTheirWay (past plan moves)
  -- each that was made for a channel is one whole unit, and has the number of its mark
  pub whole : IsPlainPlan plan → IsJudgedAlone plan moves → IsSchedule plan moves → MarkedUnitsAreWhole (past plan moves)
  -- A message whose answer was taken has a call. What was judged in the unit of a message's call is a network logon
  -- that asks what the message asks.
  pub have_calls : IsPlainPlan plan → AnswersHaveCalls (past plan moves)
  pub asks_for : IsPlainPlan plan → IsJudgedAlone plan moves → IsSchedule plan moves → CallsAskForMessages (past plan moves)
  -- The call of each message is marked as one. The reply to a call that passed and wasn't handed on, or to an opening
  -- that was accepted, is marked as that.
  pub call_marks : IsPlainPlan plan → CallsAreMarked (past plan moves)
  pub reply_marks : IsPlainPlan plan → RepliesAreMarked (past plan moves)
  pub opened_marks : IsPlainPlan plan → OpeningsAreMarked (past plan moves)
  -- Logons that come one at a time succeed where they can, at members that have their own computers. Whatever they come
  -- to, no credential clashes at members that have their accounts' secrets, if they have accounts, and their own names.
  pub complete : IsPlainPlan plan → IsJudgedAlone plan moves → EachSucceeds (past plan moves) moves
  pub one_by_one : IsPlainPlan plan → IsJudgedAlone plan moves → NoneClashes (past plan moves) moves
  -- Where no call from outside set a secret, no loss and no restart leaves a member and its controller apart.
  pub never_apart : IsPlainPlan plan → IsJudgedAlone plan moves → IsSchedule plan moves → IsClear (past plan moves).book → MembersAreNeverApart (past plan moves)

-- What is claimed of each schedule: a plan of which a world can be made, with the forms of its types, and at most
-- 100,000 moves that it can make.
abbrev pub IsClaimed : Plan → List Move → Type 0
IsClaimed plan moves = IsSchedule plan moves → Proved plan moves

-- A claim holds of the run that made a world from a plan, whatever the moves before, with these moves behind them.
abbrev pub OfItsRun : World → List Move → (Plan → List Move → Type 0) → Type 0
OfItsRun old moves Holds = (plan : Plan) (earlier : List Move) → old ≡ run earlier (first_world plan) → Holds plan (earlier ++ moves)
