-- A logon of any client from rest to rest, whatever its plan is, and whatever its member and its controller make of it
-- (this project's own choice).
use Rattle.std.specs.List.{AllByRecursion}
use Rattle.std.specs.Prelude.{ℕ, ◌≡◌, ◌≢◌, ◌*◌, ◌≤◌, ◌<◌, ◌^◌, ◌++◌, List, [], ◌∷◌, length, Some, slice_get}
use Rattle.account_table.specs.AccountTable.{AccountTable}
use Rattle.logon_client.specs.declared.outcome.ClientOutcome.{ClientOutcome}
use Rattle.logon_client.specs.declared.plan.ClientPlan.{ClientPlan}
use Rattle.member_server.specs.declared.plan.MemberPlan.{MemberPlan}
use Rattle.world_moves.specs.declared.moves.Move.{Move}
use Rattle.world_moves.specs.declared.plan.Plan.{Plan}
use Rattle.world_moves.specs.declared.state.State.{State}
use Rattle.world_moves.specs.Choosing.{chosen_place}
use Rattle.world_moves.specs.Ends.{starters_in}
use Rattle.world_moves.specs.Forms.{HasForms}
use Rattle.world_moves.specs.Moving.{act, start}
use Rattle.world_moves.specs.World.{IsPlan, first_world}
use Rattle.logon_steps.specs.ClientSteps.{client_ended}
use Rattle.logon_runs.specs.Scenes.Others.{IsStepOn}
use Rattle.logon_runs.specs.Rests.{AtRest, HasEnough, moved_by}
use Rattle.logon_runs.specs.Scenes.Staying.{HasSameEnds}
use Rattle.logon_runs.specs.Scenes.WaitingUnits.{waiting}

-- there is a controller and a member: where there is none, nobody is let in
pub record HasServers (plan : Plan) : Type 0 where
  pub controller : ℕ
  pub table : AccountTable
  pub is_table : slice_get plan.tables controller ≡ Some table
  pub member : ℕ
  pub member_plan : MemberPlan
  pub is_member_plan : slice_get plan.members member ≡ Some member_plan

-- at most `most` challenges were drawn, the first ones
pub record DrawsUpTo (most : ℕ) (before after : List (List ℕ)) : Type 0 where
  pub front : List (List ℕ)
  pub few : length front ≤ most
  pub are : before ≡ front ++ after

-- the moment is one of 64 bits at each move
abbrev pub AreBelow : List Move → State → Type 0
AreBelow [] s = Unit {0}
AreBelow (what ∷ moves) s = (s.moment < 2 ^ 64) × AreBelow moves (act s what).state

-- the client has its outcome, the world rests, all other clients are as they were, and at most three challenges were
-- drawn a move
pub record LogonRests (plan : Plan) (s : State) (client : ℕ) (task : ClientPlan) (moves : ℕ) (first after : State) : Type 0 where
  pub outcome : ClientOutcome
  pub has : slice_get after.ends.clients client ≡ Some (client_ended task outcome)
  pub rest : AtRest plan after
  pub clients : (at : ℕ) → at ≢ client → slice_get after.ends.clients at ≡ slice_get s.ends.clients at
  pub draws : DrawsUpTo (3 * moves) first.chances.left after.chances.left

pub record LogonsRest : Type 0 where
  -- whichever client starts at rest: once nothing waits again
  pub rests : (plan : Plan) (s : State) (rest : AtRest plan s) (client : ℕ) (task : ClientPlan) (number : ℕ) → IsPlan plan → HasForms plan → HasServers plan →
      slice_get plan.clients client ≡ Some task → HasSameEnds (first_world plan).state s → chosen_place number (starters_in s.ends) ≡ Some client →
      (moves : List Move) → AllByRecursion IsStepOn moves → AreBelow moves (start number s).state → HasEnough (length moves) (start number s).state.chances.left →
      let after : State = moved_by moves (start number s).state in
      after.dials ≡ [] → waiting after.bag ≡ [] → LogonRests plan s client task (length moves) (start number s).state after
