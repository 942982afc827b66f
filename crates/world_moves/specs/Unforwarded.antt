-- Runs in which no call comes for a trusted domain and challenges are left at the end, whatever the plan (this
-- project's own choice).
use Rattle.std.specs.Prelude.{ℕ, ◌≡◌, ◌≤◌, ◌⊎◌, false, List, length, map}
use Rattle.domain_controller.specs.State.{State as ControllerState}
use Rattle.domain_controller.specs.TrustHere.{told_trusts}
use Rattle.domain_controller.specs.Trusting.{no_trusting}
use Rattle.world_moves.specs.declared.moves.Move.{Move}
use Rattle.world_moves.specs.declared.plan.Plan.{Plan}
use Rattle.world_moves.specs.declared.state.State.{State}
use Rattle.world_moves.specs.Alone.{HandsNothingOn}
use Rattle.world_moves.specs.Ends.{EndStates}
use Rattle.world_moves.specs.Plain.{IsPlainPlan}
use Rattle.world_moves.specs.World.{World, actions_of_run, first_world, run, run_of}

-- In the run of these moves from the plan no controller tells of a call for a trusted domain: none tells that a logon
-- is handed on, nor that one passed with NO_LOGON_SERVERS. Challenges are left at its end, so that no end stopped for
-- want of them.
pub record IsUnforwarded (plan : Plan) (moves : List Move) : Type 0 where
  pub told : told_trusts (actions_of_run (run_of moves (first_world plan))) ≡ 0
  pub left : 1 ≤ length (run moves (first_world plan)).state.chances.left

-- Each call is judged by the controller that hears it: the plan hands nothing on, or no call of the run comes for a
-- trusted domain and challenges are left at its end.
abbrev pub IsJudgedAlone : Plan → List Move → Type 0
IsJudgedAlone plan moves = HandsNothingOn plan ⊎ IsUnforwarded plan moves

-- a plan with controllers that aren't to hand logons on
abbrev pub alone_plan : Plan → Plan
alone_plan plan = record plan { hands_on = false }

-- ---- states but for what controllers keep of those that could be asked

abbrev pub erased_controller : ControllerState → ControllerState
erased_controller c = record c { trusting = no_trusting }

abbrev pub erased_ends : EndStates → EndStates
erased_ends ends = record ends { controllers = map erased_controller ends.controllers }

abbrev pub erased : State → State
erased s = record s { ends = erased_ends s.ends; hands_on = false }

abbrev pub erased_world : World → World
erased_world w = record w { state = erased w.state }

-- The run of a plain plan in which no call comes for a trusted domain is that of the plan whose controllers ask nobody,
-- but for what controllers keep of those that could be asked.
abbrev pub RunsAlone : Type 0
RunsAlone = (plan : Plan) (moves : List Move) → IsPlainPlan plan → IsUnforwarded plan moves →
    run moves (first_world (alone_plan plan)) ≡ erased_world (run moves (first_world plan))
