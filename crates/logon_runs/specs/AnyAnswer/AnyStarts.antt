-- A logon of any client at any member from its start at rest, and once it is over (this project's own choice).
use Rattle.std.specs.Prelude.{ℕ, ◌≡◌, ◌⊎◌, [], None, Some, slice_get}
use Rattle.account_table.specs.AccountTable.{AccountTable}
use Rattle.account_table.specs.declared.account.Account.{Account}
use Rattle.member_server.specs.Secrets.{tried_of}
use Rattle.logon_client.specs.declared.plan.ClientPlan.{ClientPlan}
use Rattle.member_server.specs.declared.plan.MemberPlan.{MemberPlan}
use Rattle.world_moves.specs.declared.links.EndId.TheVariants.{Controller, Member}
use Rattle.world_moves.specs.declared.plan.Plan.{Plan}
use Rattle.world_moves.specs.declared.state.State.{State}
use Rattle.world_moves.specs.Choosing.{chosen_place}
use Rattle.world_moves.specs.Ends.{starters_in}
use Rattle.world_moves.specs.Forms.{HasForms}
use Rattle.world_moves.specs.Moving.{end_of_peer, route_to, start}
use Rattle.world_moves.specs.World.{IsPlan, first_ends}
use Rattle.logon_steps.specs.BesideTrusts.{at_no_trusts}
use Rattle.logon_steps.specs.ControllerTurns.{controller_at}
use Rattle.logon_steps.specs.MemberTurns.{plan_with}
use Rattle.logon_runs.specs.Scenes.Others.{OthersStay}
use Rattle.logon_runs.specs.Phases.{Arrival}
use Rattle.logon_runs.specs.Rests.{AtRest, ControllerRests, MemberRests, caller_with, secret_at, three_of}
use Rattle.logon_runs.specs.AnyAnswer.AnyPhases.{IsAble, IsAnywhere, IsDone}

-- a client, a member and a controller of the plan
pub record AreThree (plan : Plan) (client member controller : ℕ) : Type 0 where
  pub task : ClientPlan
  pub is_task : slice_get plan.clients client ≡ Some task
  pub member_plan : MemberPlan
  pub is_member_plan : slice_get plan.members member ≡ Some member_plan
  pub table : AccountTable
  pub is_table : slice_get plan.tables controller ≡ Some table

-- what is there when the client starts at rest; nothing is asked of the two accounts
abbrev pub coming_from : (plan : Plan) (s : State) → AtRest plan s → (client member controller : ℕ) → AreThree plan client member controller → Account → Account → Arrival
coming_from plan s rest client member controller three account machine =
    let work : MemberRests plan s member three.member_plan = rest.members member three.member_plan three.is_member_plan in
    let desk : ControllerRests plan s controller three.table = rest.controllers controller three.table three.is_table in
    record {
      meeting = record {
        at_client = client;
        at_member = member;
        at_controller = controller;
        task = three.task;
        plan = plan_with work.secrets three.member_plan;
        caller = caller_with (secret_at work.how (tried_of work.secrets) work.given.secret) three.member_plan;
        given = work.given;
        how = work.how;
        place = work.place;
        number = work.number;
        controller = controller_at desk.table desk.name desk.computers [];
        trusts = at_no_trusts;
        links = s.links;
        link = 0;
      };
      table = desk.table;
      name = desk.name;
      computers = desk.computers;
      account = account;
      machine = machine;
    }

-- the member's dial reaches that controller, or nobody
abbrev pub IsReachedOrNot : Plan → ℕ → MemberPlan → ℕ → Type 0
IsReachedOrNot plan member work controller =
    (end_of_peer work.controller (first_ends plan) ≡ Some (Controller controller)) ⊎ (route_to (Member member) (end_of_peer work.controller (first_ends plan)) ≡ None)

-- a logon that has started can go on, and is in a phase
pub record HasStarted (plan : Plan) (p : Arrival) (s : State) : Type 0 where
  pub able : IsAble plan p
  pub at : IsAnywhere plan p s

pub record AnyLogonsStart : Type 0 where
  pub starts : (plan : Plan) (s : State) (rest : AtRest plan s) (client member controller : ℕ) (three : AreThree plan client member controller) (account machine : Account) (number : ℕ) → IsPlan plan →
      HasForms plan → chosen_place number (starters_in s.ends) ≡ Some client →
      HasStarted plan (coming_from plan s rest client member controller three account machine) (start number s).state
  -- once a logon is over the world rests again, where the others are as they were
  pub ends : (plan : Plan) (s : State) (rest : AtRest plan s) (client member controller : ℕ) (three : AreThree plan client member controller) (account machine : Account) (after : State) →
      IsReachedOrNot plan member three.member_plan controller → OthersStay (three_of client member controller) s after → after.client_plans ≡ s.client_plans →
      IsDone plan (coming_from plan s rest client member controller three account machine) after → AtRest plan after
