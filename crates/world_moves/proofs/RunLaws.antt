-- Runs in a row, and what is counted in them.
-- It serves `World::report`, `World::step`, `a_run_ends_in_its_last_state`.
use Rattle.std.proofs.Common.{◌≡◌, List, [], ◌∷◌, ◌++◌, refl, ap, sym, ◌∙◌}
use Rattle.world_moves.specs.declared.counting.Report.{Report}
use Rattle.world_moves.specs.declared.moves.Move.{Move}
use Rattle.world_moves.specs.declared.plan.Plan.{Plan}
use Rattle.world_moves.specs.World.{World, first_world, happens, last_of, report_of, report_of_run, run, run_of}
use Rattle.world_moves.proofs.CountLaws.{counts_are_of_actions}

pub run_append : (moves later : List Move) (w : World) → run (moves ++ later) w ≡ run later (run moves w)
run_append [] later w = refl
run_append (what ∷ moves) later w = run_append moves later (happens w what)

-- a run goes on from a plan
pub run_on : (plan : Plan) (earlier moves : List Move) (old new : World) → new ≡ run moves old → old ≡ run earlier (first_world plan) → new ≡ run (earlier ++ moves) (first_world plan)
run_on plan earlier moves old new is was = is ∙ ap (run moves) was ∙ sym (run_append earlier moves (first_world plan))

pub counted_on : (plan : Plan) (earlier moves : List Move) (old : World) → old ≡ run earlier (first_world plan) → report_of (run moves old) ≡ report_of_run plan (earlier ++ moves)
counted_on plan earlier moves old was =
    ap (λ w. report_of (run moves w)) was ∙ ap report_of (sym (run_append earlier moves (first_world plan))) ∙ counts_are_of_actions plan (earlier ++ moves)

-- a move goes on from a plan
pub move_on : (plan : Plan) (earlier : List Move) (what : Move) (old new : World) → new ≡ happens old what → old ≡ run earlier (first_world plan) → new ≡ run (earlier ++ what ∷ []) (first_world plan)
move_on plan earlier what old new is was = run_on plan earlier (what ∷ []) old new is was

pub counted_so : (plan : Plan) (moves : List Move) (w : World) (report : Report) → report ≡ report_of w → w ≡ run moves (first_world plan) → report ≡ report_of_run plan moves
counted_so plan moves w report is was = is ∙ ap report_of was ∙ counts_are_of_actions plan moves

pub run_ends : (moves : List Move) (w : World) → last_of (run_of moves w) w ≡ run moves w
run_ends [] w = refl
run_ends (what ∷ moves) w = run_ends moves (happens w what)
