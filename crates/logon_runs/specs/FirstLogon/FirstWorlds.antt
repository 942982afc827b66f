-- The first logon in a world, from its plan to the client's outcome: the moves, the plan's values of which it is
-- granted, and what it comes to (this project's own choice).
use Rattle.std.specs.Prelude.{ℕ, ◌≡◌, ◌-◌, ◌==◌, Bool, true, false, List, [], ◌∷◌, ◌++◌, Some, None, slice_get}
use Rattle.authenticators.specs.SecureChannels.{SecureChannelState}
use Rattle.outside.specs.Counter.{challenge_of, challenges_from, most_draws}
use Rattle.account_table.specs.AccountTable.{AccountTable}
use Rattle.account_table.specs.LookUps.{account_in, machine_name}
use Rattle.account_table.specs.declared.account.Account.{Account}
use Rattle.account_table.specs.declared.account.Kind.TheVariants.{Workstation}
use Rattle.sam_logon.specs.MayLogOn.{MayLogOn}
use Rattle.channel_client.specs.declared.state.Standing.TheVariants as standing
use Rattle.domain_controller.specs.Step.{first_state}
use Rattle.controller_calls.specs.declared.state.Computers.{Computers}
use Rattle.logon_client.specs.declared.outcome.ClientOutcome.TheVariants.{In}
use Rattle.logon_client.specs.declared.plan.ClientPlan.{ClientPlan}
use Rattle.member_server.specs.declared.plan.MemberPlan.{MemberPlan}
use Rattle.member_server.specs.Machine.{caller_of}
use Rattle.member_server.specs.Secrets.{tried_of}
use Rattle.world_moves.specs.declared.links.EndId.TheVariants.{Controller, Member}
use Rattle.world_moves.specs.declared.moves.Move.{Move}
use Rattle.world_moves.specs.declared.moves.Move.TheVariants as move
use Rattle.world_moves.specs.declared.plan.Plan.{Plan}
use Rattle.world_moves.specs.Alone.{TrustsNobody}
use Rattle.world_moves.specs.Choosing.{chosen_place}
use Rattle.world_moves.specs.Forms.{HasForms}
use Rattle.world_moves.specs.Moving.{end_of_peer}
use Rattle.world_moves.specs.World.{IsPlan, first_ends, first_world, outcome_of, run, starters_of}
use Rattle.logon_steps.specs.Answers.{answer_for, drawn_of}
use Rattle.logon_steps.specs.BesideTrusts.{at_no_trusts}
use Rattle.logon_steps.specs.ClientSteps.{client_ended}
use Rattle.logon_steps.specs.Granting.{info_told}
use Rattle.logon_runs.specs.FirstLogon.FirstLogonRuns.{after_first}
use Rattle.logon_runs.specs.FirstLogon.FirstRuns.{opens_as}
use Rattle.logon_runs.specs.FirstLogon.FirstTraces.{FirstLogonSeen}
use Rattle.logon_runs.specs.Grants.{KeyArrives}
use Rattle.logon_runs.specs.Scenes.LinkScenes.{Meeting, joined, rest_scene}
use Rattle.logon_runs.specs.Runs.{ClientAnswer, asked_at}
use Rattle.logon_runs.specs.Scenes.Scene.{Shows}

-- ---- the moves

-- a turn: its dial, its bind and the answer, its call and the reply
abbrev pub turn_moves : List Move
turn_moves = move.Connect ∷ move.Onward ∷ move.Onward ∷ move.Onward ∷ move.Onward ∷ []

-- Echo and its answer
abbrev pub echo_moves : (echoes_nothing : Bool) → List Move
echo_moves true = []
echo_moves false = move.Onward ∷ move.Onward ∷ []

-- the start, the client's dial, its bind and the CHALLENGE, the AUTHENTICATE and WhoAmI, three turns, and the name
abbrev pub logon_moves : ℕ → Bool → List Move
logon_moves number silent =
    move.Start number ∷ move.Connect ∷ move.Onward ∷ move.Onward ∷ move.Onward ∷ move.Onward ∷ [] ++ turn_moves ++ turn_moves ++ turn_moves ++ move.Onward ∷ [] ++ echo_moves silent

-- ---- the plan

-- A client, the member that it reaches, and that member's controller: the computer's account is an enabled workstation
-- with the member's one secret, the user's hash is the one stored, and he may log on at the first moment. The
-- controller asks nobody and can't seal, nor does the member's channel.
pub record CanComeIn (plan : Plan) (client member controller : ℕ) : Type 0 where
  pub task : ClientPlan
  pub is_task : slice_get plan.clients client ≡ Some task
  pub is_member : end_of_peer task.server (first_ends plan) ≡ Some (Member member)
  pub member_plan : MemberPlan
  pub is_member_plan : slice_get plan.members member ≡ Some member_plan
  pub is_controller : end_of_peer member_plan.controller (first_ends plan) ≡ Some (Controller controller)
  pub table : AccountTable
  pub is_table : slice_get plan.tables controller ≡ Some table
  pub name : List ℕ
  pub is_name : slice_get plan.controllers controller ≡ Some name
  pub alone : TrustsNobody plan.hands_on table
  pub unsealed : plan.seals ≡ false
  pub plain : member_plan.sealed ≡ false
  pub machine : Account
  pub machine_found : account_in table.accounts (machine_name member_plan.computer) ≡ Some machine
  pub kind : machine.kind ≡ Workstation
  pub enabled : machine.disabled ≡ false
  pub one : member_plan.secrets.next ≡ None
  pub secret : machine.hash ≡ tried_of member_plan.secrets
  pub account : Account
  pub found : account_in table.accounts task.user ≡ Some account
  pub hash : account.hash ≡ task.hash
  pub may : MayLogOn table (info_told task) plan.now

-- ---- what is drawn

-- the challenge of that count, from 0
abbrev pub draw : Plan → ℕ → List ℕ
draw plan count = challenge_of plan.seed 0 count

-- the challenges that are left after six
abbrev pub left_then : Plan → List (List ℕ)
left_then plan = challenges_from plan.seed 0 6 (most_draws - 6)

-- the member's challenge, the client's, and both halves of the exported key
abbrev pub first_asked : Plan → ClientAnswer
first_asked plan = asked_at (draw plan 0) (draw plan 1) (draw plan 2) (draw plan 3) plan.now

-- ---- what it comes to

-- what a controller keeps of computers at first
abbrev pub no_computers : Computers
no_computers = record { pending = []; channels = []; sessions = [] }

-- before the first link
abbrev pub first_meeting : (plan : Plan) (client member controller : ℕ) → CanComeIn plan client member controller → Meeting
first_meeting plan client member controller can = record {
  at_client = client;
  at_member = member;
  at_controller = controller;
  task = can.task;
  plan = can.member_plan;
  caller = caller_of can.member_plan;
  given = record { secret = tried_of can.member_plan.secrets; next = None };
  how = standing.Nothing;
  place = 0;
  number = 1;
  controller = first_state can.table can.name;
  trusts = at_no_trusts;
  links = [];
  link = 0;
}

-- the channel as the member opens it, with the two challenges drawn last
abbrev pub first_channel : (plan : Plan) (client member controller : ℕ) → CanComeIn plan client member controller → SecureChannelState
first_channel plan client member controller can = opens_as (first_meeting plan client member controller can) (draw plan 4) (draw plan 5)

-- where units are signed, the session base key doesn't travel as zeros
abbrev pub FirstKeyArrives : (plan : Plan) (client member controller : ℕ) → CanComeIn plan client member controller → Type 0
FirstKeyArrives plan client member controller can =
    KeyArrives (joined (first_meeting plan client member controller can) []) (first_asked plan) (first_channel plan client member controller can)

-- the client's exported key
abbrev pub key_then : (plan : Plan) (client member controller : ℕ) → CanComeIn plan client member controller → List ℕ
key_then plan client member controller can =
    (answer_for can.member_plan can.task (draw plan 0) plan.now (drawn_of (draw plan 1) (draw plan 2) (draw plan 3))).key

-- what is seen at each of these moves, and what the run over them comes to
pub record IsLoggedOn (plan : Plan) (client member controller number : ℕ) (can : CanComeIn plan client member controller) : Type 0 where
  pub seen : FirstLogonSeen (first_world plan).state (first_meeting plan client member controller can) number [] (first_asked plan) (draw plan 4) (draw plan 5)
      can.table can.name can.account can.machine no_computers (left_then plan) plan.now
  -- the client is in, with its key, the domain and the account's name, and its whole echo
  pub outcome : outcome_of (run (logon_moves number (can.task.echo == 0)) (first_world plan)) client
      ≡ Some (In (can.table.domain ++ 0x5C ∷ can.account.name) (key_then plan client member controller can) can.task.echo)
  -- no link is open, and nothing waits; the channel stands at both ends, and the account's count of bad passwords is 0
  pub rests :
      let end : Meeting = after_first (first_meeting plan client member controller can) [] can.machine (draw plan 4) (draw plan 5) can.table can.name no_computers plan.now in
      Shows (run (logon_moves number (can.task.echo == 0)) (first_world plan)).state
      (rest_scene end (client_ended can.task (In (can.table.domain ++ 0x5C ∷ can.account.name) (key_then plan client member controller can) can.task.echo)) end.links
      (left_then plan) plan.now [])

pub record FirstWorldsRun : Type 0 where
  pub comes_in : (plan : Plan) (client member controller number : ℕ) → IsPlan plan → HasForms plan → chosen_place number (starters_of plan) ≡ Some client →
      (can : CanComeIn plan client member controller) → FirstKeyArrives plan client member controller can → IsLoggedOn plan client member controller number can
