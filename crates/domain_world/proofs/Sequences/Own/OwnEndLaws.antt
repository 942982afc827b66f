-- In every schedule that is clear the calls on a requester's open channel are those of its turns.
-- It serves `claims_hold_of_runs`.
use Rattle.std.proofs.Common.{ℕ, List, [], Option, Some, None, refl, subst, arith}
use Rattle.member_server.specs.declared.state.Running.{Running}
use Rattle.channel_events.specs.Marks.{Mark}
use Rattle.step_notes.specs.Records.{Book, ChannelTurn, OfMember, RequesterId}
use Rattle.world_moves.specs.declared.state.State.{State}
use Rattle.domain_world.specs.Accepting.Sequences.{IsTakenFor, TurnsAreCalled}
use Rattle.domain_world.specs.Claims.{IsClear}
use Rattle.domain_world.specs.Past.{Past, past, controller_asked}
use Rattle.domain_world.specs.Schedules.{OfSchedules}
use Rattle.domain_world.proofs.Quiet.QuietRunLaws.{has_bytes}
use Rattle.domain_world.proofs.Acceptance.ScheduleLaws.{units_heard}
use Rattle.domain_world.proofs.Acceptance.Turns.TurnFactLaws.{apart_from, past_at, taken_stays, world_in}
use Rattle.domain_world.proofs.Acceptance.Turns.TurnMarkLaws.{marks_known}
use Rattle.domain_world.proofs.Acceptance.Turns.TurnQuietLaws.{same_ends}
use Rattle.domain_world.proofs.Acceptance.Turns.TurnRunLaws.{TurnAction, TurnSide, side_first, side_keeps}
use Rattle.domain_world.proofs.Messages.MessageApartLaws.{messages_apart}
use Rattle.domain_world.proofs.Moves.ComingLaws.{kept_same}
use Rattle.domain_world.proofs.Moves.DrawnRunLaws.{draws_differ}
use Rattle.domain_world.proofs.Frames.StepFrameLaws.{AnyAction, BothFacts, BothFine, HoldsAfterRun, KeepsWith, NoFact, join_with}
use Rattle.domain_world.proofs.Calls.CallHoldsLaws.{marks_in}
use Rattle.domain_world.proofs.Sequences.CallTurnLaws.{KnowsCalls}
use Rattle.domain_world.proofs.Sequences.CalledLaws.{AllKnow, KnowsIf, turns_called}
use Rattle.domain_world.proofs.Sequences.Own.OwnCarryLaws.{first_own}
use Rattle.domain_world.proofs.Sequences.Own.OwnKeepLaws.{OwnHolds, own_ends}
use Rattle.domain_world.proofs.Sequences.Own.OwnOverLaws.{own_run}
use Rattle.domain_world.proofs.Sequences.Own.OwnStayLaws.{OwnFacts, OwnBy}
use Rattle.domain_world.proofs.Sequences.Own.OwnTurnLaws.{mine}
use Rattle.domain_world.proofs.Sequences.Own.OwnWalkLaws.{own_keeps}
use Rattle.domain_world.proofs.Sequences.Own.OwnWholeLaws.{own_comes}
use Rattle.domain_world.proofs.Sequences.SharedLaws.{taken_pass}
use Rattle.domain_world.proofs.Moves.NoTrustLaws.{none_asked}
use Rattle.domain_world.proofs.Moves.RequesterLaws.{asker_in}

-- after a move
known_if : (Done : ℕ → Type 0) (marks : List Mark) (drawn : List (List ℕ)) (turns : List ChannelTurn) (controller : ℕ) (who : RequesterId) (r : Option Running) →
    OwnBy Done marks drawn turns [] controller who r → KnowsIf Done marks (mine who turns) controller r
known_if Done marks drawn turns controller who None own = tt
known_if Done marks drawn turns controller who (Some running) own =
    subst (λ (all : List ChannelTurn). KnowsCalls Done marks all controller running.logons.channel) (own.1.none refl) own.1.calls

pub turns_are_called : OfSchedules (λ plan moves. IsClear (past plan moves).book → TurnsAreCalled (past plan moves))
turns_are_called plan moves nobody schedule clear =
    let p : Past = past plan moves in
    let s : State = p.world.state in
    let b : Book = p.book in
    let none : Unit {0} = tt in
    let both : KeepsWith (Unit {0}) NoFact (BothFacts (TurnSide plan) (OwnHolds plan)) (BothFine TurnAction AnyAction) =
    join_with (TurnSide plan) (OwnHolds plan) TurnAction AnyAction (side_keeps plan) (own_keeps plan (TurnSide plan) (own_comes plan)) none in
    let after : HoldsAfterRun (BothFacts (TurnSide plan) (OwnHolds plan)) plan moves =
    own_run (BothFacts (TurnSide plan) (OwnHolds plan)) (BothFine TurnAction AnyAction) both
    (λ n at now given book known holds.
    ((side_keeps plan).over n at now given book tt holds.0, own_ends plan n at now given book known holds.1)) plan moves nobody (has_bytes plan moves nobody schedule)
    (side_first plan moves schedule, first_own plan) in
    let facts : OwnFacts plan s [] b =
    after.holds.1 (omega (arith, after.few, schedule.few)) clear.apart (apart_from b.messages (messages_apart plan moves nobody.plain)) (marks_known plan moves nobody) (draws_differ plan moves) in
    let all : AllKnow (IsTakenFor (past_at plan s b)) s b =
    λ k. known_if (IsTakenFor (past_at plan s b)) (marks_in b.sent) s.chances.drawn b.turns (controller_asked (OfMember k) s) (OfMember k) (asker_in k s.ends) (facts.asks k) in
    turns_called p (IsTakenFor (past_at plan s b))
    (λ n is. taken_pass plan moves nobody (units_heard plan moves nobody schedule) clear.apart n (record {
      taken = is.taken;
      call = is.call;
      turn = taken_stays plan (world_in s) p.world b b (record { bag = kept_same s.bag; sent = λ k one there. there; ends = same_ends s.ends }) is.taken is.turn;
    })) (none_asked plan moves nobody) all
