-- Logons that come one at a time, and what they come to (this project's own choice).
use Rattle.std.specs.Prelude.{ℕ, ◌≡◌, ◌≢◌, ◌%◌, ◌++◌, false, List, [], ◌∷◌, length, filter, replicate, AllPairs, IsSomeAnd, Some, None, slice_get}
use Rattle.std.specs.List.{AllByRecursion}
use Rattle.wire_base.specs.Names.{SameName}
use Rattle.account_table.specs.AccountTable.{AccountTable}
use Rattle.account_table.specs.LookUps.{account_in, machine_name}
use Rattle.account_table.specs.declared.account.Account.{Account}
use Rattle.account_table.specs.declared.account.Kind.TheVariants.{Workstation}
use Rattle.logon_client.specs.declared.outcome.ClientOutcome.TheVariants as client_outcome
use Rattle.domain_controller.specs.State.{State as ControllerState}
use Rattle.logon_client.specs.declared.plan.AuthKind.{AuthKind}
use Rattle.logon_client.specs.declared.plan.AuthKind.TheVariants.{V1, V1Ess, V2}
use Rattle.logon_client.specs.declared.plan.ClientPlan.{ClientPlan}
use Rattle.logon_stubs.specs.declared.calls.LogonCall.{LogonCall}
use Rattle.logon_stubs.specs.declared.info.NetworkInfo.{NetworkInfo}
use Rattle.member_server.specs.declared.plan.MemberPlan.{MemberPlan}
use Rattle.outside.specs.declared.action.Judged.TheVariants as judged
use Rattle.outside.specs.declared.action.Outcome.TheVariants as outcome
use Rattle.sam_logon.specs.MayLogOn.{MayLogOn}
use Rattle.wire_base.specs.Lists.{OneOf}
use Rattle.step_notes.specs.Records.{IfNetwork, Judging, OutcomeTold}
use Rattle.world_moves.specs.declared.links.EndId.TheVariants.{Controller, Member}
use Rattle.world_moves.specs.declared.links.Route.TheVariants.{ToMember}
use Rattle.world_moves.specs.declared.moves.Move.{Move}
use Rattle.world_moves.specs.declared.moves.Move.TheVariants as move
use Rattle.world_moves.specs.declared.plan.Plan.{Plan}
use Rattle.world_moves.specs.declared.state.State.{State}
use Rattle.world_moves.specs.Bag.{first_waiting}
use Rattle.world_moves.specs.Ends.{EndStates}
use Rattle.world_moves.specs.Forms.{IsSchedule}
use Rattle.world_moves.specs.Links.{is_end}
use Rattle.member_server.specs.Secrets.{tried_of}
use Rattle.world_moves.specs.Moving.{end_of_peer}
use Rattle.world_moves.specs.World.{World, first_ends, first_world, happens, outcome_of}
use Rattle.domain_world.specs.Claims.{TravelsAsZeros}
use Rattle.domain_world.specs.Past.{Past}

-- ---- the moves: starts, each client's once at most, and what goes on between them

abbrev pub IsPlainMove : Move → Type 0
IsPlainMove (move.Start number) = Unit {0}
IsPlainMove move.Connect = Unit {0}
IsPlainMove move.Onward = Unit {0}
IsPlainMove (move.Tick more) = Unit {0}
IsPlainMove _ = ⊥

-- the clients that are started, in order, of so many
abbrev pub started_by : Move → ℕ → List ℕ
started_by (move.Start number) count = (number % count) ∷ []
started_by _ count = []

abbrev pub started_in : List Move → ℕ → List ℕ
started_in [] count = []
started_in (what ∷ moves) count = started_by what count ++ started_in moves count

-- ---- one at a time

-- no dial waits, and each unit was delivered
pub record IsQuiet (w : World) : Type 0 where
  pub dials : w.state.dials ≡ []
  pub units : first_waiting w.state.bag ≡ None

abbrev pub IsQuietAt : Move → World → Type 0
IsQuietAt (move.Start number) w = IsQuiet w
IsQuietAt _ w = Unit {0}

-- nothing is under way where a client starts, and at the end
abbrev pub OneAtATime : List Move → World → Type 0
OneAtATime [] w = IsQuiet w
OneAtATime (what ∷ moves) w = IsQuietAt what w × OneAtATime moves (happens w what)

-- ---- the plan

-- the computer's account is an enabled workstation, and its secret is the one that the member tries
pub record HasComputer (table : AccountTable) (plan : MemberPlan) : Type 0 where
  pub account : Account
  pub found : account_in table.accounts (machine_name plan.computer) ≡ Some account
  pub kind : account.kind ≡ Workstation
  pub enabled : account.disabled ≡ false
  pub secret : account.hash ≡ tried_of plan.secrets

-- the members of a controller: their plans name it
abbrev pub members_of : EndStates → ℕ → List MemberPlan → List MemberPlan
members_of ends controller plans = filter (λ (plan : MemberPlan). is_end (end_of_peer plan.controller ends) (Controller controller)) plans

-- A response of as many bytes as the NT response of its kind has at least (MS-NLMP 3.3.1, 3.3.2): whether it has 24
-- bytes is all that is asked of it here.
abbrev pub response_planned : AuthKind → List ℕ
response_planned V1 = replicate 24 0
response_planned V1Ess = replicate 24 0
response_planned V2 = replicate 44 0

-- what a client's logon is judged by, as far as its account and the policy go
abbrev pub info_planned : ClientPlan → NetworkInfo
info_planned plan = record {
  domain = plan.domain;
  control = 0;
  logon_id = 0;
  user = plan.user;
  workstation = plan.workstation;
  challenge = [];
  nt = response_planned plan.auth;
  lm = [];
}

-- the user may log on by the accounts of a controller as they stand in a state, and at its moment
abbrev pub MayLogOnIn : ℕ → NetworkInfo → State → Type 0
MayLogOnIn controller info s = IsSomeAnd (slice_get s.ends.controllers controller) (λ (c : ControllerState). MayLogOn c.table info s.moment)

-- the fact holds in each state of the run
abbrev pub InEachState : (State → Type 0) → List Move → World → Type 0
InEachState Fact [] w = Fact w.state
InEachState Fact (what ∷ moves) w = Fact w.state × InEachState Fact moves (happens w what)

-- what a client of that number logs on by: its member, that member's controller, their accounts, and the user's account
pub record CanSucceed (plan : Plan) (moves : List Move) (client : ℕ) : Type 0 where
  pub task : ClientPlan
  pub is_task : slice_get plan.clients client ≡ Some task
  pub member : ℕ
  pub is_member : end_of_peer task.server (first_ends plan) ≡ Some (Member member)
  pub member_plan : MemberPlan
  pub is_member_plan : slice_get plan.members member ≡ Some member_plan
  pub controller : ℕ
  pub is_controller : end_of_peer member_plan.controller (first_ends plan) ≡ Some (Controller controller)
  pub table : AccountTable
  pub is_table : slice_get plan.tables controller ≡ Some table
  -- no two members of the controller have one computer name
  pub apart : AllPairs (λ (one other : MemberPlan). SameName one.computer other.computer → ⊥)
      (members_of (first_ends plan) controller plan.members)
  pub computer : HasComputer table member_plan
  -- the user's hash is the one stored, and he may log on in each state: what others' logons make of his count of bad
  -- passwords is part of it
  pub account : Account
  pub found : account_in table.accounts task.user ≡ Some account
  pub hash : account.hash ≡ task.hash
  pub may : InEachState (MayLogOnIn controller (info_planned task)) moves (first_world plan)

-- ---- what it comes to

-- the domain, a backslash and the account's name
abbrev pub name_of : AccountTable → Account → List ℕ
name_of table account = table.domain ++ 0x5C ∷ account.name

-- the client is in, with the member's key, the domain and the account's name, and its whole echo; the member told so of
-- the client's own link
pub record Succeeds (run : Past) (moves : List Move) (client : ℕ) (can : CanSucceed run.plan moves client) : Type 0 where
  pub key : List ℕ
  pub is_in : outcome_of run.world client ≡ Some (client_outcome.In (name_of can.table can.account) key can.task.echo)
  pub told : OneOf (λ (told : OutcomeTold). (slice_get run.world.state.links told.link ≡ Some (ToMember client can.member))
      × (told.member ≡ can.member)
      × (told.outcome ≡ outcome.In can.table.domain can.account.name key)) run.book.told

-- the run is of a schedule, and the moves start clients one at a time, each once at most
pub record ComesOneAtATime (run : Past) (moves : List Move) : Type 0 where
  pub schedule : IsSchedule run.plan moves
  pub plain : AllByRecursion IsPlainMove moves
  pub once : AllPairs (λ (one other : ℕ). one ≢ other) (started_in moves (length run.plan.clients))
  pub quiet : OneAtATime moves (first_world run.plan)

-- a Logon call that is made for a client: its member's computer asks its controller for the user, the domain and
-- the workstation of the client's plan
pub record IsMadeForClient (task : ClientPlan) (computer : List ℕ) (controller : ℕ) (j : Judging) (c : LogonCall) : Type 0 where
  pub its_controller : j.controller ≡ controller
  pub its_computer : c.computer ≡ Some computer
  pub domain : c.info.domain ≡ task.domain
  pub user : c.info.user ≡ task.user
  pub workstation : c.info.workstation ≡ task.workstation

-- the session base key of a call for the client doesn't travel as zeros, where it passed with status 0: a refused one
-- has no key
abbrev pub KeyArrives : ClientPlan → List ℕ → ℕ → Judging → Type 0
KeyArrives task computer controller j =
    j.how ≡ Some (judged.Passed 0) →
    IfNetwork (λ (c : LogonCall). IsMadeForClient task computer controller j c → TravelsAsZeros j c.info → ⊥) j.asked

-- the session base key of none of the client's own granted calls travels as zeros
abbrev pub OwnKeysArrive : (run : Past) (moves : List Move) (client : ℕ) → CanSucceed run.plan moves client → Type 0
OwnKeysArrive run moves client can = AllByRecursion (KeyArrives can.task can.member_plan.computer can.controller) run.book.judged

-- Completeness, of the run over these moves: each client that is started and can succeed does, where its key arrives.
abbrev pub EachSucceeds : Past → List Move → Type 0
EachSucceeds run moves =
    ComesOneAtATime run moves →
    AllByRecursion (λ (client : ℕ). (can : CanSucceed run.plan moves client) → OwnKeysArrive run moves client can →
    Succeeds run moves client can) (started_in moves (length run.plan.clients))
