-- A world between two logons that come one at a time, and that a logon which is granted leads from one such state to
-- another (this project's own choice).
use Rattle.std.specs.List.{AllByRecursion}
use Rattle.std.specs.Option.{option_and_then}
use Rattle.std.specs.Prelude.{ℕ, ◌≡◌, ◌≢◌, ◌*◌, ◌≤◌, ◌<◌, ◌^◌, ◌⊎◌, false, List, [], ◌∷◌, length, Option, Some, None, slice_get}
use Rattle.wire_base.specs.Maps.{lookup}
use Rattle.wire_base.specs.Names.{same_name}
use Rattle.channel_keys.specs.ChannelTypes.{workstation_channel}
use Rattle.authenticators.specs.SecureChannels.{SecureChannelState}
use Rattle.logon_stubs.specs.Ranges.{IsBlock}
use Rattle.secret_change.specs.Secrets.{IsNextSecret, SecretsState}
use Rattle.account_table.specs.AccountTable.{AccountTable}
use Rattle.account_table.specs.Changes.{DifferInStates}
use Rattle.account_table.specs.LookUps.{account_in, machine_in, machine_name}
use Rattle.account_table.specs.Ranges.{InRangeAccount}
use Rattle.account_table.specs.declared.account.Account.{Account}
use Rattle.account_table.specs.declared.account.Kind.TheVariants.{User, Workstation}
use Rattle.channel_client.specs.declared.caller.Caller.{Caller}
use Rattle.channel_client.specs.declared.state.Standing.{Standing}
use Rattle.channel_client.specs.declared.state.Standing.TheVariants as standing
use Rattle.domain_controller.specs.Whole.{InRangeTable}
use Rattle.controller_calls.specs.declared.state.Computers.{Computers}
use Rattle.logon_client.specs.State.{State as ClientState}
use Rattle.logon_client.specs.Machine.{fresh_client}
use Rattle.logon_client.specs.declared.outcome.ClientOutcome.{ClientOutcome}
use Rattle.logon_client.specs.declared.plan.ClientPlan.{ClientPlan}
use Rattle.member_server.specs.declared.plan.MemberPlan.{MemberPlan}
use Rattle.channel_turns.specs.declared.state.Dialling.TheVariants as dialling
use Rattle.member_server.specs.Machine.{caller_of}
use Rattle.world_moves.specs.declared.links.EndId.TheVariants.{Controller, Member}
use Rattle.world_moves.specs.declared.plan.Plan.{Plan}
use Rattle.world_moves.specs.declared.state.State.{State}
use Rattle.world_moves.specs.Alone.{IsPlainAlone}
use Rattle.world_moves.specs.Choosing.{chosen_place}
use Rattle.world_moves.specs.Ends.{starters_in}
use Rattle.world_moves.specs.Forms.{HasForms}
use Rattle.world_moves.specs.Moving.{act, end_of_peer, start}
use Rattle.world_moves.specs.declared.moves.Move.{Move}
use Rattle.world_moves.specs.World.{IsPlan, first_ends, first_world}
use Rattle.logon_steps.specs.Answering.{IsInStep}
use Rattle.logon_steps.specs.ClientSteps.{client_ended}
use Rattle.logon_steps.specs.BesideTrusts.{at_no_trusts}
use Rattle.logon_steps.specs.ControllerTurns.{controller_at}
use Rattle.logon_steps.specs.MemberLinks.{logons_resting}
use Rattle.member_server.specs.Secrets.{tried_of}
use Rattle.logon_steps.specs.Knowing.{StandsLater}
use Rattle.logon_steps.specs.MemberTurns.{member_at, plan_with}
use Rattle.logon_runs.specs.Scenes.LinkScenes.{Given}
use Rattle.logon_runs.specs.Scenes.Others.{IsStepOn, OthersStay, Three}
use Rattle.logon_runs.specs.Phases.{Arrival, HasUser, IsUnderWay, IsKnown, MayLogOnAt}
use Rattle.logon_runs.specs.Failing.TurnedAway.{HasEnded}
use Rattle.logon_runs.specs.Scenes.WaitingUnits.{waiting}

-- ---- the plan

-- The member of that number has its own computer at its controller: an enabled workstation's account with its secret,
-- whose name no other member of the controller has.
pub record HasOwnComputer (plan : Plan) (at : ℕ) (member : MemberPlan) (controller : ℕ) : Type 0 where
  pub reaches : end_of_peer member.controller (first_ends plan) ≡ Some (Controller controller)
  pub table : AccountTable
  pub is_table : slice_get plan.tables controller ≡ Some table
  pub machine : Account
  pub machine_found : account_in table.accounts (machine_name member.computer) ≡ Some machine
  pub kind : machine.kind ≡ Workstation
  pub enabled : machine.disabled ≡ false
  pub secret : machine.hash ≡ tried_of member.secrets
  pub apart : (other : ℕ) (peer : MemberPlan) → other ≢ at → slice_get plan.members other ≡ Some peer →
      end_of_peer peer.controller (first_ends plan) ≡ Some (Controller controller) → same_name peer.computer member.computer ≡ false

-- the account by which a controller opens a computer's channel, where it has one: an enabled workstation's of that name
abbrev pub channel_account : AccountTable → List ℕ → Option Account
channel_account table computer = option_and_then (slice_get table.accounts) (machine_in table.accounts (machine_name computer) workstation_channel computer)

-- the hash of the account by which a member's channel is opened, where there is one, is the secret that it tries
abbrev pub HasItsSecret : AccountTable → MemberPlan → Type 0
HasItsSecret table member = (account : Account) → channel_account table member.computer ≡ Some account → account.hash ≡ tried_of member.secrets

-- The hash of the member of that number, where its controller has its account, is the member's secret, and no other
-- member of the controller has its name.
pub record HasOwnName (plan : Plan) (at : ℕ) (member : MemberPlan) (controller : ℕ) : Type 0 where
  pub reaches : end_of_peer member.controller (first_ends plan) ≡ Some (Controller controller)
  pub secret : (table : AccountTable) → slice_get plan.tables controller ≡ Some table → HasItsSecret table member
  pub apart : (other : ℕ) (peer : MemberPlan) → other ≢ at → slice_get plan.members other ≡ Some peer →
      end_of_peer peer.controller (first_ends plan) ≡ Some (Controller controller) → same_name peer.computer member.computer ≡ false

-- ---- what rests

-- users' accounts are as they were, but for counts of bad passwords
abbrev pub KeepsUsers : (old new : AccountTable) → Type 0
KeepsUsers old new = (user : List ℕ) (account : Account) → account_in old.accounts user ≡ Some account → account.kind ≡ User → StandsLater new user account

-- the controller keeps its accounts, but for counts of bad passwords and hashes of machines, and this of computers
pub record ControllerRests (plan : Plan) (s : State) (at : ℕ) (planned : AccountTable) : Type 0 where
  pub name : List ℕ
  pub is_name : slice_get plan.controllers at ≡ Some name
  pub table : AccountTable
  pub states : DifferInStates planned table
  pub users : KeepsUsers planned table
  pub ranged : InRangeTable table
  pub computers : Computers
  pub rests : slice_get s.ends.controllers at ≡ Some (controller_at table name computers [])

-- a channel that a member with its own name keeps is the one that the controller keeps, step by step; no channel is
-- half open
pub record IsInStepAt (s : State) (controller : ℕ) (member : MemberPlan) (o : SecureChannelState) : Type 0 where
  pub table : AccountTable
  pub name : List ℕ
  pub computers : Computers
  pub channel : SecureChannelState
  pub rests : slice_get s.ends.controllers controller ≡ Some (controller_at table name computers [])
  pub keeps : lookup same_name member.computer computers.channels ≡ Some channel
  pub in_step : IsInStep o channel

abbrev pub StandsWell : Plan → State → ℕ → MemberPlan → Standing → Type 0
StandsWell plan s at member standing.Nothing = Unit {0}
StandsWell plan s at member (standing.Half client server) = ⊥
StandsWell plan s at member (standing.Open o) = (controller : ℕ) → HasOwnName plan at member controller → IsInStepAt s controller member o

-- the account by which the controller opens the member's channel, where it has one, has the secret that is tried
pub record FitsSecretAt (s : State) (controller : ℕ) (member : MemberPlan) (secrets : SecretsState) : Type 0 where
  pub table : AccountTable
  pub name : List ℕ
  pub computers : Computers
  pub rests : slice_get s.ends.controllers controller ≡ Some (controller_at table name computers [])
  pub fits : (account : Account) → channel_account table member.computer ≡ Some account → account.hash ≡ tried_of secrets

-- By which secret a member asks in its next turns: by the one that it tries while its channel is none, and by the one
-- that its channel was given once that is open.
abbrev pub secret_at : Standing → (tried kept : List ℕ) → List ℕ
secret_at standing.Nothing tried kept = tried
secret_at (standing.Half client server) tried kept = tried
secret_at (standing.Open o) tried kept = kept

-- who asks, by that secret
abbrev pub caller_with : List ℕ → MemberPlan → Caller
caller_with secret plan = record (caller_of plan) { secret = secret }

-- The member keeps its secrets or what logons made of them. While a channel stands no secret is next. Where it has its
-- own name, its controller's account has the secret that it tries.
pub record MemberRests (plan : Plan) (s : State) (at : ℕ) (member : MemberPlan) : Type 0 where
  pub secrets : SecretsState
  pub given : Given
  pub how : Standing
  pub place : ℕ
  pub number : ℕ
  pub rests : slice_get s.ends.members at
      ≡ Some (member_at (logons_resting (plan_with secrets member) (caller_with given.secret member) given.next how place number) [] dialling.Nothing)
  pub next : IsNextSecret secrets.next
  pub one : (o : SecureChannelState) → how ≡ standing.Open o → secrets.next ≡ None
  pub place_below : place < 2 ^ 32
  pub number_below : number < 2 ^ 32
  pub stands : StandsWell plan s at member how
  pub fits : (controller : ℕ) (planned : AccountTable) → slice_get plan.tables controller ≡ Some planned → HasOwnName plan at member controller →
      FitsSecretAt s controller member secrets

-- a client that wasn't started, or has its outcome
pub record ClientRests (s : State) (at : ℕ) (task : ClientPlan) : Type 0 where
  pub client : ClientState
  pub rests : slice_get s.ends.clients at ≡ Some client
  pub how : (client ≡ fresh_client task) ⊎ ((outcome : ClientOutcome) × (client ≡ client_ended task outcome))

-- no link is open, nothing waits, and each end rests
pub record AtRest (plan : Plan) (s : State) : Type 0 where
  pub opened : s.open_links ≡ []
  pub dials : s.dials ≡ []
  pub units : waiting s.bag ≡ []
  pub plans : s.client_plans ≡ plan.clients
  pub controllers : (at : ℕ) (planned : AccountTable) → slice_get plan.tables at ≡ Some planned → ControllerRests plan s at planned
  pub members : (at : ℕ) (member : MemberPlan) → slice_get plan.members at ≡ Some member → MemberRests plan s at member
  pub clients : (at : ℕ) (task : ClientPlan) → slice_get plan.clients at ≡ Some task → ClientRests s at task

-- ---- a logon at a member that has its own computer

-- the client, its member and that member's controller, whose computer is its own
pub record CanCome (plan : Plan) (client member controller : ℕ) : Type 0 where
  pub task : ClientPlan
  pub is_task : slice_get plan.clients client ≡ Some task
  pub is_member : end_of_peer task.server (first_ends plan) ≡ Some (Member member)
  pub member_plan : MemberPlan
  pub is_member_plan : slice_get plan.members member ≡ Some member_plan
  pub computer : HasOwnComputer plan member member_plan controller

-- the client can come, and the user has an account, with his hash
pub record CanBeGranted (plan : Plan) (client member controller : ℕ) : Type 0 where
  pub come : CanCome plan client member controller
  pub account : Account
  pub found : account_in come.computer.table.accounts come.task.user ≡ Some account
  pub hash : account.hash ≡ come.task.hash

-- what is there when it starts at rest: the ends as they stand, and the accounts of the user and of the computer as
-- they are found by then
abbrev pub coming_at : (plan : Plan) (s : State) → AtRest plan s → (client member controller : ℕ) → CanCome plan client member controller → Account → Account → Arrival
coming_at plan s rest client member controller can account machine =
    let work : MemberRests plan s member can.member_plan = rest.members member can.member_plan can.is_member_plan in
    let desk : ControllerRests plan s controller can.computer.table = rest.controllers controller can.computer.table can.computer.is_table in
    record {
      meeting = record {
        at_client = client;
        at_member = member;
        at_controller = controller;
        task = can.task;
        plan = plan_with work.secrets can.member_plan;
        caller = caller_with (secret_at work.how (tried_of work.secrets) work.given.secret) can.member_plan;
        given = work.given;
        how = work.how;
        place = work.place;
        number = work.number;
        controller = controller_at desk.table desk.name desk.computers [];
        trusts = at_no_trusts;
        links = s.links;
        link = 0;
      };
      table = desk.table;
      name = desk.name;
      computers = desk.computers;
      account = account;
      machine = machine;
    }

-- a logon starts from rest, whichever of the controller's accounts the user has, if he has one
pub record HasCome (plan : Plan) (s : State) (rest : AtRest plan s) (client member controller : ℕ) (can : CanCome plan client member controller) (account : Account) (number : ℕ) : Type 0 where
  pub machine : Account
  pub known : IsKnown (coming_at plan s rest client member controller can account machine)
  pub under_way : IsUnderWay (coming_at plan s rest client member controller can account machine) (start number s).state

-- A logon starts from rest. The domain's name and the account's are those of the plan, and so is a user's hash.
pub record HasBegun (plan : Plan) (s : State) (rest : AtRest plan s) (client member controller : ℕ) (can : CanBeGranted plan client member controller) (number : ℕ) : Type 0 where
  pub account : Account
  pub come : HasCome plan s rest client member controller can.come account number
  pub domain : (rest.controllers controller can.come.computer.table can.come.computer.is_table).table.domain ≡ can.come.computer.table.domain
  pub name : account.name ≡ can.account.name
  pub user : MayLogOnAt (coming_at plan s rest client member controller can.come account come.machine) (start number s).state →
      HasUser (coming_at plan s rest client member controller can.come account come.machine)

abbrev pub three_of : ℕ → ℕ → ℕ → Three
three_of client member controller = record { client = client; member = member; controller = controller }

pub record LogonsComeToRest : Type 0 where
  -- the first world rests, where controllers hand nothing on
  pub first : (plan : Plan) → IsPlan plan → HasForms plan → IsPlainAlone plan → AtRest plan (first_world plan).state
  -- a client that starts at rest is under way, by an account that is in its ranges, and by the user's where he has one
  pub comes : (plan : Plan) (s : State) (rest : AtRest plan s) (client member controller : ℕ) (can : CanCome plan client member controller) (account : Account) (number : ℕ) → IsPlan plan →
      HasForms plan → InRangeAccount account → chosen_place number (starters_in s.ends) ≡ Some client → HasCome plan s rest client member controller can account number
  pub begins : (plan : Plan) (s : State) (rest : AtRest plan s) (client member controller : ℕ) (can : CanBeGranted plan client member controller) (number : ℕ) → IsPlan plan → HasForms plan →
      chosen_place number (starters_in s.ends) ≡ Some client → HasBegun plan s rest client member controller can number
  -- once a logon has ended, granted or not, the world rests, where the others are as they were
  pub ends : (plan : Plan) (s : State) (rest : AtRest plan s) (client member controller : ℕ) (can : CanCome plan client member controller) (account machine : Account) (after : State) →
      OthersStay (three_of client member controller) s after → after.client_plans ≡ s.client_plans →
      HasEnded (coming_at plan s rest client member controller can account machine) after → AtRest plan after

-- ---- moves at rest

pub record RestsStay : Type 0 where
  -- a move between starts changes nothing of a world that rests, and draws no challenge
  pub stays : (plan : Plan) (s : State) (what : Move) → IsStepOn what → AtRest plan s → AtRest plan (act s what).state
  pub draws : (plan : Plan) (s : State) (what : Move) → IsStepOn what → AtRest plan s → (act s what).state.chances ≡ s.chances

-- ---- a whole logon, in whichever order its moves come

-- a client, its member and its controller
abbrev pub three_in : Arrival → Three
three_in p = three_of p.meeting.at_client p.meeting.at_member p.meeting.at_controller

abbrev pub moved_by : List Move → State → State
moved_by [] s = s
moved_by (what ∷ moves) s = moved_by moves (act s what).state

-- challenges of 8 bytes are left for `moves` moves
pub record HasEnough (moves : ℕ) (left : List (List ℕ)) : Type 0 where
  pub many : 3 * moves ≤ length left
  pub blocks : AllByRecursion (λ (challenge : List ℕ). IsBlock 8 challenge) left

abbrev pub coming_of : (plan : Plan) (s : State) (rest : AtRest plan s) (client member controller : ℕ) (can : CanBeGranted plan client member controller) (number : ℕ) →
    HasBegun plan s rest client member controller can number → Arrival
coming_of plan s rest client member controller can number begun = coming_at plan s rest client member controller can.come begun.account begun.come.machine
