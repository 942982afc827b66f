-- At most one turn is out at each member, and at each controller, after every run of a plain plan.
-- It serves `Proved.one_turn`.
use Rattle.std.proofs.Common.{ℕ, ◌∙◌, List, [], None, subst, arith, ap}
use Rattle.world_moves.specs.declared.links.EndId.TheVariants.{Member}
use Rattle.world_moves.specs.declared.moves.Move.{Move}
use Rattle.world_moves.specs.declared.plan.Plan.{Plan}
use Rattle.world_moves.specs.declared.state.State.{State}
use Rattle.world_moves.specs.Plain.{IsPlainPlan}
use Rattle.step_notes.specs.Records.{OfMember}
use Rattle.domain_world.specs.Claims.SharedSequences.{OneMemberTurnIsOut, OneTurnIsOut}
use Rattle.domain_world.specs.Past.{past, controller_asked, running_in}
use Rattle.domain_world.proofs.Moves.DrawnRunLaws.{draws_differ}
use Rattle.domain_world.proofs.Sequences.DialCountLaws.{dials_count}
use Rattle.domain_world.proofs.Sequences.Own.OwnFrameLaws.{TurnsHold}
use Rattle.domain_world.proofs.Sequences.Own.OwnRunLaws.{turns_after, turns_at}
use Rattle.domain_world.proofs.Sequences.Own.OwnTurnLaws.{TurnsIf, TurnsOf}
use Rattle.domain_world.proofs.Sequences.TrustTurnLaws.{one_trust_turn}

one_member_turn : (plan : Plan) (moves : List Move) → IsPlainPlan plan → OneMemberTurnIsOut (past plan moves)
one_member_turn plan moves nothing member m running there runs =
    let s : State = (past plan moves).world.state in
    let holds : TurnsHold None [] s.member_plans s.ends s.dials s.chances.drawn [] (past plan moves).book.turns = turns_after plan moves nothing (draws_differ plan moves) in
    let controller : ℕ = controller_asked (OfMember member) s in
    let its : TurnsOf (OfMember member) controller None [] s.dials s.chances.drawn [] (past plan moves).book.turns running =
    subst (TurnsIf (OfMember member) controller None [] s.dials s.chances.drawn [] (past plan moves).book.turns) (ap running_in there ∙ runs)
    (turns_at s [] (past plan moves).book.turns holds member) in
    record {
      out = its.order.out;
      few = omega (arith, its.out_once, dials_count (Member member) s.dials);
      waits = λ some. its.out_waits (omega (arith, some, dials_count (Member member) s.dials));
    }

-- ---- of every run

pub one_turn : (plan : Plan) (moves : List Move) → IsPlainPlan plan → OneTurnIsOut (past plan moves)
one_turn plan moves nothing = record { members = one_member_turn plan moves nothing; controllers = one_trust_turn plan moves nothing }
