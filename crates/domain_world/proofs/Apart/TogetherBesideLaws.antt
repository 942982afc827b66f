-- What is known at each step of a run beside what a member and its controller have in common: the calls of the member's
-- turns, the accounts of the controller, and which channels it keeps. It serves `Proved.never_apart`.
use Rattle.std.proofs.Common.{ℕ, List, [], Option}
use Rattle.secret_change.specs.Secrets.{AreSecrets}
use Rattle.step_notes.specs.Records.{Book, blank}
use Rattle.world_moves.specs.declared.moves.Move.{Move}
use Rattle.world_moves.specs.declared.plan.Plan.{Plan}
use Rattle.world_moves.specs.declared.state.State.{State}
use Rattle.world_moves.specs.Acting.{Given}
use Rattle.world_moves.specs.Forms.{IsSchedule}
use Rattle.world_moves.specs.Plain.{plain_world}
use Rattle.domain_world.specs.Claims.NeverApart.{BeginsAlike}
use Rattle.domain_world.specs.Past.{Delivery}
use Rattle.domain_world.proofs.Acceptance.Turns.TurnRunLaws.{TurnAction, TurnSide, side_first, side_keeps as turns_keep_on}
use Rattle.domain_world.proofs.Apart.TogetherRunLaws.{Beneath, beneath_keep, first_beneath}
use Rattle.domain_world.proofs.Frames.ControllerFrameLaws.{AmongControllers, controllers_written}
use Rattle.domain_world.proofs.Frames.EndNoteLaws.{acceptings_of, judgings_of}
use Rattle.domain_world.proofs.Frames.FrameLaws.{OfSide, side_keeps}
use Rattle.domain_world.proofs.Frames.ByKindLaws.{alone_kinds}
use Rattle.domain_world.proofs.Frames.MoveKeepLaws.{Both, alone, KeepsMoves, MoveFact, NoSide, Progress, beside, join_moves, started}
use Rattle.domain_world.proofs.Frames.StepFrameLaws.{AnyAction, BothFacts, BothFine, KeepsWith, NoFact, OfSteps, join_with, steps_keep}
use Rattle.domain_world.proofs.Judgements.GrantLaws.{ByPlan, first_stands as first_by_plan, stand_on as by_plan_on}
use Rattle.domain_world.proofs.Judgements.Openings.OpeningRunLaws.{Follows, first_follows, follow_on}
use Rattle.domain_world.proofs.Judgements.TableLaws.{TablesStand, first_stands, stand_on}
use Rattle.domain_world.proofs.Sequences.DialWalkLaws.{OfDials, dials_keep}
use Rattle.domain_world.proofs.Sequences.Own.OwnCarryLaws.{first_own}
use Rattle.domain_world.proofs.Sequences.Own.OwnFrameLaws.{TurnsKnown}
use Rattle.domain_world.proofs.Sequences.Own.OwnKeepLaws.{OwnHolds, own_ends}
use Rattle.domain_world.proofs.Sequences.Own.OwnRunLaws.{first_known, turns_keep}
use Rattle.domain_world.proofs.Sequences.Own.OwnWalkLaws.{own_keeps}
use Rattle.domain_world.proofs.Sequences.Own.OwnWholeLaws.{own_comes}

abbrev pub Dials : MoveFact
Dials = OfDials TurnsKnown

-- the calls of turns
abbrev pub OwnSteps : Plan → MoveFact
OwnSteps plan = OfSteps (BothFacts (TurnSide plan) (OwnHolds plan)) (BothFine TurnAction AnyAction)

-- the accounts of controllers, by what was judged and by the plan
abbrev pub Tables : Plan → MoveFact
Tables plan = OfSide judgings_of (AmongControllers judgings_of (TablesStand plan) (stand_on plan)) (controllers_written judgings_of (TablesStand plan) (stand_on plan))

abbrev pub ByPlans : Plan → MoveFact
ByPlans plan = OfSide judgings_of (AmongControllers judgings_of (ByPlan plan) (by_plan_on plan)) (controllers_written judgings_of (ByPlan plan) (by_plan_on plan))

-- the channels that they keep
abbrev pub Openings : MoveFact
Openings = OfSide acceptings_of (AmongControllers acceptings_of Follows follow_on) (controllers_written acceptings_of Follows follow_on)

module _ (plan : Plan) (member : ℕ) (begins : BeginsAlike plan member) (place : ℕ) (asks : ℕ → Option (List ℕ)) where
  abbrev Base : MoveFact
  Base = Beneath plan member begins place asks

  abbrev pub Beside : MoveFact
  Beside = Both (Both (Both (Both (Both Base Dials) (OwnSteps plan)) (Tables plan)) (ByPlans plan)) Openings

  own_steps : KeepsMoves (Unit {0}) (Both Base Dials) (OwnSteps plan)
  own_steps =
      let none : Unit {0} = tt in
      let both : KeepsWith (Unit {0}) NoFact (BothFacts (TurnSide plan) (OwnHolds plan)) (BothFine TurnAction AnyAction) =
      join_with (TurnSide plan) (OwnHolds plan) TurnAction AnyAction (turns_keep_on plan) (own_keeps plan (TurnSide plan) (own_comes plan)) none in
      steps_keep (BothFacts (TurnSide plan) (OwnHolds plan)) (BothFine TurnAction AnyAction) both (Both Base Dials) (λ n w s given b side. side.0.0.0.0.0.1.all)
      (λ n at on s given b side holds. ((turns_keep_on plan).over n at s given b tt holds.0, own_ends plan n at s given b side.1 holds.1))

  with_dials : KeepsMoves (Unit {0}) NoSide (Both Base Dials)
  with_dials = join_moves (Unit {0}) Base Dials (beneath_keep plan member begins place asks) (beside (Unit {0}) Base Dials (dials_keep alone alone_kinds TurnsKnown (turns_keep alone alone_kinds) (Unit {0})))

  with_own : KeepsMoves (Unit {0}) NoSide (Both (Both Base Dials) (OwnSteps plan))
  with_own = join_moves (Unit {0}) (Both Base Dials) (OwnSteps plan) with_dials own_steps

  with_tables : KeepsMoves (Unit {0}) NoSide (Both (Both (Both Base Dials) (OwnSteps plan)) (Tables plan))
  with_tables =
      join_moves (Unit {0}) (Both (Both Base Dials) (OwnSteps plan)) (Tables plan) with_own
      (beside (Unit {0}) (Both (Both Base Dials) (OwnSteps plan)) (Tables plan)
      (side_keeps judgings_of (AmongControllers judgings_of (TablesStand plan) (stand_on plan)) (controllers_written judgings_of (TablesStand plan) (stand_on plan)) (Unit {0})))

  with_plans : KeepsMoves (Unit {0}) NoSide (Both (Both (Both (Both Base Dials) (OwnSteps plan)) (Tables plan)) (ByPlans plan))
  with_plans =
      join_moves (Unit {0}) (Both (Both (Both Base Dials) (OwnSteps plan)) (Tables plan)) (ByPlans plan) with_tables
      (beside (Unit {0}) (Both (Both (Both Base Dials) (OwnSteps plan)) (Tables plan)) (ByPlans plan)
      (side_keeps judgings_of (AmongControllers judgings_of (ByPlan plan) (by_plan_on plan)) (controllers_written judgings_of (ByPlan plan) (by_plan_on plan)) (Unit {0})))

  pub beside_keep : KeepsMoves (Unit {0}) NoSide Beside
  beside_keep =
      join_moves (Unit {0}) (Both (Both (Both (Both Base Dials) (OwnSteps plan)) (Tables plan)) (ByPlans plan)) Openings with_plans
      (beside (Unit {0}) (Both (Both (Both (Both Base Dials) (OwnSteps plan)) (Tables plan)) (ByPlans plan)) Openings
      (side_keeps acceptings_of (AmongControllers acceptings_of Follows follow_on) (controllers_written acceptings_of Follows follow_on) (Unit {0})))

  pub beside_has : (n : ℕ) (q : Progress) (s : State) (given : Given) (b : Book) → Beside n q s given b → Base n q s given b
  beside_has n q s given b all = all.0.0.0.0.0

  pub first_beside : (moves : List Move) → IsSchedule plan moves → AreSecrets begins.own.secrets → (on : Option Delivery) → Beside 0 (started 0 on) (plain_world plan).state [] blank
  first_beside moves schedule are on = (
    ((((first_beneath plan member begins place asks moves schedule are on, first_known plan), ((side_first plan moves schedule, first_own plan), tt)), first_stands plan), first_by_plan plan),
    first_follows plan,
  )
