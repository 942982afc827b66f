-- What a list of moves comes to that is cut short, since a move found no memory (this project's own choice).
use Rattle.std.specs.Prelude.{ℕ, ◌≡◌, ◌≤◌, List, length, take}
use Rattle.world_moves.specs.declared.moves.Move.{Move}
use Rattle.world_moves.specs.Outcomes.{HasNoOtherOutcomes, HasOutcomesOf}
use Rattle.world_moves.specs.World.{World, report_of, run}

-- what is counted are the moves that were made, and what their ends gave; each client's outcome is the one that it had
-- after them, and a station has that one or none
pub record IsCutShort (moves : List Move) (old new : World) : Type 0 where
  -- how many of them were made, from the first on
  pub made : ℕ
  pub most : made ≤ length moves
  pub counted : report_of new ≡ report_of (run (take made moves) old)
  pub outcomes : HasOutcomesOf (run (take made moves) old) new
  pub stations : HasNoOtherOutcomes (run (take made moves) old) new
