-- What is claimed of a run move by move, in which no call comes for a trusted domain, is alike where nobody can be
-- asked. It serves `claims_hold_of_runs`.
use Rattle.std.proofs.Common.{◌≡◌, ◌≤◌, ℕ, suc, Bool, false, List, [], ◌∷◌, length, option_map, Option, Some, None, slice_get, if◌then◌else◌, refl, sym, ap, ap₂, subst, ◌∙◌}
use Rattle.std.specs.Prelude.{AllPairs, IsSomeAnd}
use Rattle.wire_base.specs.Names.{SameName}
use Rattle.logon_stubs.specs.declared.info.NetworkInfo.{NetworkInfo}
use Rattle.account_table.specs.AccountTable.{AccountTable}
use Rattle.sam_logon.specs.MayLogOn.{MayLogOn}
use Rattle.wire_base.proofs.ListLaws.{all_weaker}
use Rattle.domain_controller.specs.State.{State as ControllerState}
use Rattle.domain_controller.specs.TrustHere.{told_trusts}
use Rattle.member_server.specs.declared.plan.MemberPlan.{MemberPlan}
use Rattle.world_moves.specs.declared.links.EndId.{EndId}
use Rattle.world_moves.specs.declared.links.EndId.TheVariants.{Controller}
use Rattle.world_moves.specs.declared.moves.Move.{Move}
use Rattle.world_moves.specs.declared.moves.Move.TheVariants as move
use Rattle.world_moves.specs.declared.plan.Plan.{Plan}
use Rattle.world_moves.specs.declared.state.State.{State}
use Rattle.world_moves.specs.Ends.{end_in}
use Rattle.world_moves.specs.Forms.{IsSchedule}
use Rattle.world_moves.specs.Links.{is_end}
use Rattle.world_moves.specs.Moving.{act, end_of_peer}
use Rattle.world_moves.specs.Unforwarded.{IsUnforwarded, alone_plan, erased, erased_controller, erased_world}
use Rattle.world_moves.specs.World.{World, actions_of_run, first_controllers, first_ends, first_world, happens, run, run_of}
use Rattle.world_moves.specs.Plain.{IsPlainPlan}
use Rattle.domain_world.specs.Claims.Completeness.{CanSucceed, ComesOneAtATime, EachSucceeds, InEachState, IsQuiet, IsQuietAt, MayLogOnIn, OneAtATime, OwnKeysArrive, Succeeds, info_planned, members_of, started_in}
use Rattle.domain_world.specs.Claims.OneByOne.{HasOwnMember, NoneClashes}
use Rattle.domain_world.specs.Past.{Past, past}
use Rattle.domain_world.proofs.Unforwarded.ErasedLaws.{IsFine, IsStill, fine_first, first_erased, first_still, get_mapped, happens_same, move_same, told_later}
use Rattle.domain_world.proofs.Unforwarded.SeenLaws.{seen}

-- ---- what holds of worlds through a run

-- the run of these moves from a world goes on so
record GoesOn (moves : List Move) (w : World) : Type 0 where
  still : IsStill w.state
  told : told_trusts (actions_of_run (run_of moves w)) ≡ 0
  left : 1 ≤ length (run moves w).state.chances.left

goes_fine : (what : Move) (moves : List Move) (w : World) → GoesOn (what ∷ moves) w → IsFine (act w.state what)
goes_fine what moves w goes = fine_first what moves w goes.told goes.left

goes_later : (what : Move) (moves : List Move) (w : World) → GoesOn (what ∷ moves) w → GoesOn moves (happens w what)
goes_later what moves w goes = record {
  still = (move_same what w.state goes.still (goes_fine what moves w goes)).still;
  told = told_later what moves w goes.told;
  left = goes.left;
}

goes_same : (what : Move) (moves : List Move) (w : World) → GoesOn (what ∷ moves) w → erased_world (happens w what) ≡ happens (erased_world w) what
goes_same what moves w goes = sym (happens_same what w goes.still (goes_fine what moves w goes))

goes_first : (plan : Plan) (moves : List Move) → IsPlainPlan plan → IsUnforwarded plan moves → GoesOn moves (first_world plan)
goes_first plan moves nothing is = record { still = first_still plan nothing; told = is.told; left = is.left }

-- nobody is asked anything after it
still_later : (moves : List Move) (w : World) → GoesOn moves w → IsStill (run moves w).state
still_later [] w goes = goes.still
still_later (what ∷ moves) w goes = still_later moves (happens w what) (goes_later what moves w goes)

pub still_after : (plan : Plan) (moves : List Move) → IsPlainPlan plan → IsUnforwarded plan moves → IsStill (past plan moves).world.state
still_after plan moves nothing is = still_later moves (first_world plan) (goes_first plan moves nothing is)

-- ---- one at a time

quiet_seen : (w : World) → IsQuiet w → IsQuiet (erased_world w)
quiet_seen w quiet = record { dials = quiet.dials; units = quiet.units }

quiet_at : (what : Move) (w : World) → IsQuietAt what w → IsQuietAt what (erased_world w)
quiet_at (move.Start number) w quiet = quiet_seen w quiet
quiet_at (move.Stranger number) w quiet = quiet
quiet_at move.Connect w quiet = quiet
quiet_at move.FailDial w quiet = quiet
quiet_at move.Onward w quiet = quiet
quiet_at move.Lose w quiet = quiet
quiet_at (move.Deliver unit link) w quiet = quiet
quiet_at (move.Hand link back bytes) w quiet = quiet
quiet_at (move.Shut number) w quiet = quiet
quiet_at (move.Restart number) w quiet = quiet
quiet_at (move.Change member secret) w quiet = quiet
quiet_at (move.Tick more) w quiet = quiet

one_at_a_time : (moves : List Move) (w : World) → GoesOn moves w → OneAtATime moves w → OneAtATime moves (erased_world w)
one_at_a_time [] w goes quiet = quiet_seen w quiet
one_at_a_time (what ∷ moves) w goes quiet = (
  quiet_at what w quiet.0,
  subst (λ (later : World). OneAtATime moves later) (goes_same what moves w goes) (one_at_a_time moves (happens w what) (goes_later what moves w goes) quiet.1),
)

pub schedule_seen : (plan : Plan) (moves : List Move) → IsSchedule plan moves → IsSchedule (alone_plan plan) moves
schedule_seen plan moves s = record {
  start = record { tables = s.start.tables; clients = s.start.clients; stations = s.start.stations };
  forms = record {
    tables = s.forms.tables;
    controllers = s.forms.controllers;
    members = s.forms.members;
    clients = s.forms.clients;
    stations = s.forms.stations;
    now = s.forms.now;
    seed = s.forms.seed;
  };
  few = s.few;
  each = s.each;
  move_forms = s.move_forms;
}

comes_seen : (plan : Plan) (moves : List Move) → IsPlainPlan plan → IsUnforwarded plan moves → ComesOneAtATime (past plan moves) moves → ComesOneAtATime (seen (past plan moves)) moves
comes_seen plan moves nothing is comes = record {
  schedule = schedule_seen plan moves comes.schedule;
  plain = comes.plain;
  once = comes.once;
  quiet = subst (λ (w : World). OneAtATime moves w) (sym (first_erased plan nothing)) (one_at_a_time moves (first_world plan) (goes_first plan moves nothing is) comes.quiet);
}

-- ---- who may log on

may_by : (found : Option ControllerState) (info : NetworkInfo) (moment : ℕ) → IsSomeAnd found (λ (c : ControllerState). MayLogOn c.table info moment) →
    IsSomeAnd (option_map erased_controller found) (λ (c : ControllerState). MayLogOn c.table info moment)
may_by None info moment may = may
may_by (Some c) info moment may = may

may_seen : (controller : ℕ) (info : NetworkInfo) (s : State) → MayLogOnIn controller info s → MayLogOnIn controller info (erased s)
may_seen controller info s may =
    subst (λ (found : Option ControllerState). IsSomeAnd found (λ (c : ControllerState). MayLogOn c.table info s.moment)) (sym (get_mapped erased_controller s.ends.controllers controller))
    (may_by (slice_get s.ends.controllers controller) info s.moment may)

may_each : (controller : ℕ) (info : NetworkInfo) (moves : List Move) (w : World) → GoesOn moves w → InEachState (MayLogOnIn controller info) moves w →
    InEachState (MayLogOnIn controller info) moves (erased_world w)
may_each controller info [] w goes may = may_seen controller info w.state may
may_each controller info (what ∷ moves) w goes may = (
  may_seen controller info w.state may.0,
  subst (λ (later : World). InEachState (MayLogOnIn controller info) moves later) (goes_same what moves w goes)
      (may_each controller info moves (happens w what) (goes_later what moves w goes) may.1),
)

-- ---- the ends of a plan

-- as many controllers are made, whether they hand logons on or not
as_many_first : (hands_on seals : Bool) (tables : List AccountTable) (names : List (List ℕ)) →
    length (first_controllers false seals tables names) ≡ length (first_controllers hands_on seals tables names)
as_many_first hands_on seals [] names = refl
as_many_first hands_on seals (table ∷ tables) [] = refl
as_many_first hands_on seals (table ∷ tables) (name ∷ names) = ap (λ (many : ℕ). suc many) (as_many_first hands_on seals tables names)

pub peer_seen : (peer : List ℕ) (plan : Plan) → end_of_peer peer (first_ends (alone_plan plan)) ≡ end_of_peer peer (first_ends plan)
peer_seen [] plan = refl
peer_seen (number ∷ []) plan =
    ap (λ (controllers : ℕ). end_in number controllers (length (first_ends plan).members) (length (first_ends plan).clients) (length (first_ends plan).stations)) (as_many_first plan.hands_on plan.seals plan.tables plan.controllers)
peer_seen (number ∷ other ∷ more) plan = refl

abbrev kept_if : Bool → MemberPlan → List MemberPlan → List MemberPlan
kept_if kept plan plans = if kept then plan ∷ plans else plans

members_same : (plan : Plan) (controller : ℕ) (plans : List MemberPlan) → members_of (first_ends (alone_plan plan)) controller plans ≡ members_of (first_ends plan) controller plans
members_same whole controller [] = refl
members_same whole controller (plan ∷ plans) =
    ap₂ (λ (end : Option EndId) (rest : List MemberPlan). kept_if (is_end end (Controller controller)) plan rest) (peer_seen plan.controller whole) (members_same whole controller plans)

members_seen : (plan : Plan) (controller : ℕ) → members_of (first_ends (alone_plan plan)) controller plan.members ≡ members_of (first_ends plan) controller plan.members
members_seen plan controller = members_same plan controller plan.members

abbrev NamesApart : MemberPlan → MemberPlan → Type 0
NamesApart one other = SameName one.computer other.computer → ⊥

can_seen : (plan : Plan) (moves : List Move) (client : ℕ) → IsPlainPlan plan → IsUnforwarded plan moves → CanSucceed plan moves client → CanSucceed (alone_plan plan) moves client
can_seen plan moves client nothing is can = record {
  task = can.task;
  is_task = can.is_task;
  member = can.member;
  is_member = peer_seen can.task.server plan ∙ can.is_member;
  member_plan = can.member_plan;
  is_member_plan = can.is_member_plan;
  controller = can.controller;
  is_controller = peer_seen can.member_plan.controller plan ∙ can.is_controller;
  table = can.table;
  is_table = can.is_table;
  apart = subst (λ (members : List MemberPlan). AllPairs NamesApart members) (sym (members_seen plan can.controller)) can.apart;
  computer = can.computer;
  account = can.account;
  found = can.found;
  hash = can.hash;
  may = subst (λ (w : World). InEachState (MayLogOnIn can.controller (info_planned can.task)) moves w) (sym (first_erased plan nothing))
      (may_each can.controller (info_planned can.task) moves (first_world plan) (goes_first plan moves nothing is) can.may);
}

succeeds_so : (plan : Plan) (moves : List Move) (client : ℕ) (nothing : IsPlainPlan plan) (is : IsUnforwarded plan moves) (can : CanSucceed plan moves client) →
    Succeeds (seen (past plan moves)) moves client (can_seen plan moves client nothing is can) → Succeeds (past plan moves) moves client can
unfolding can_seen
succeeds_so plan moves client nothing is can s = record { key = s.key; is_in = s.is_in; told = s.told }

abbrev SucceedsIf : Past → List Move → ℕ → Type 0
SucceedsIf p moves client = (can : CanSucceed p.plan moves client) → OwnKeysArrive p moves client can → Succeeds p moves client can

pub complete_so : (plan : Plan) (moves : List Move) → IsPlainPlan plan → IsUnforwarded plan moves → EachSucceeds (seen (past plan moves)) moves → EachSucceeds (past plan moves) moves
unfolding can_seen
complete_so plan moves nothing is x = λ comes.
    all_weaker (SucceedsIf (seen (past plan moves)) moves) (SucceedsIf (past plan moves) moves) (started_in moves (length plan.clients))
    (λ client has. λ can keys. succeeds_so plan moves client nothing is can (has (can_seen plan moves client nothing is can) keys)) (x (comes_seen plan moves nothing is comes))

-- ---- no credential clashes

own_seen : (plan : Plan) (client : ℕ) → HasOwnMember plan client → HasOwnMember (alone_plan plan) client
own_seen plan client has = λ task member work controller table is_task is_member is_work is_controller is_table.
    let own = has task member work controller table is_task (sym (peer_seen task.server plan) ∙ is_member) is_work (sym (peer_seen work.controller plan) ∙ is_controller) is_table in
    (own.0, subst (λ (members : List MemberPlan). AllPairs NamesApart members) (sym (members_seen plan controller)) own.1)

pub one_by_one_so : (plan : Plan) (moves : List Move) → IsPlainPlan plan → IsUnforwarded plan moves → NoneClashes (seen (past plan moves)) moves → NoneClashes (past plan moves) moves
one_by_one_so plan moves nothing is x = λ comes own.
    x (comes_seen plan moves nothing is comes) (all_weaker (HasOwnMember plan) (HasOwnMember (alone_plan plan)) (started_in moves (length plan.clients)) (own_seen plan) own)
