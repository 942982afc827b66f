-- A run over some of the moves, from the first on, and what is left where the rest isn't made.
-- It serves `drive`.
use Rattle.std.proofs.Common.{◌≡◌, ℕ, zero, suc, ◌≤◌, List, [], ◌∷◌, length, take, Some, slice_get, ap, sym, ◌∙◌, arith}
use Rattle.world_moves.specs.declared.moves.Move.{Move}
use Rattle.world_moves.specs.Outcomes.{HasNoOtherOutcomes, HasOutcomesOf}
use Rattle.world_moves.specs.World.{World, happens, outcome_of, report_of, run, station_outcome_of}
use Rattle.domain_world.specs.Driving.{IsCutShort}

-- the run over one more of the moves
pub run_next : (moves : List Move) (made : ℕ) (what : Move) (w : World) → slice_get moves made ≡ Some what → run (take (suc made) moves) w ≡ happens (run (take made moves) w) what
run_next [] zero what w there = absurd cc
run_next [] (suc made) what w there = absurd cc
run_next (first ∷ moves) zero what w there = let same : first ≡ what = cc in ap (happens w) same
run_next (first ∷ moves) (suc made) what w there = run_next moves made what (happens w first) there

-- moves that are cut short after so many
pub cut_short : (moves : List Move) (made : ℕ) (old at new : World) → at ≡ run (take made moves) old → report_of new ≡ report_of at → HasOutcomesOf at new → HasNoOtherOutcomes at new → made ≤ length moves →
    IsCutShort moves old new
cut_short moves made old at new is same had others most = record {
  made = made;
  most = most;
  counted = same ∙ ap report_of is;
  outcomes = λ client. had client ∙ ap (λ w. outcome_of w client) is;
  stations = λ station outcome has. sym (ap (λ w. station_outcome_of w station) is) ∙ others station outcome has;
}

-- a drive that made none of the moves
pub not_begun : (moves : List Move) (old new : World) → new ≡ old → IsCutShort moves old new
not_begun moves old new same = record {
  made = 0;
  most = omega arith;
  counted = ap report_of same;
  outcomes = λ client. ap (λ w. outcome_of w client) same;
  stations = λ station outcome has. sym (ap (λ w. station_outcome_of w station) same) ∙ has;
}
