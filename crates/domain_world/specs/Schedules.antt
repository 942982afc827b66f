-- Of which runs a law of schedules speaks (this project's own choice).
use Rattle.std.specs.Prelude.{List}
use Rattle.world_moves.specs.declared.moves.Move.{Move}
use Rattle.world_moves.specs.declared.plan.Plan.{Plan}
use Rattle.world_moves.specs.Alone.{IsPlainAlone}
use Rattle.world_moves.specs.Forms.{IsSchedule}

-- a fact of every schedule of a plain plan that hands nothing on
abbrev pub OfSchedules : (Plan → List Move → Type 0) → Type 0
OfSchedules Holds = (plan : Plan) (moves : List Move) → IsPlainAlone plan → IsSchedule plan moves → Holds plan moves
