-- A logon of any client at any member, from its start at rest.
-- Of `any_logons_start`.
use Rattle.std.proofs.Common.{◌≡◌, ℕ, refl, sym, ap, subst, ◌∙◌, List, Option, None, Some, slice_get, []}
use Rattle.std.specs.Option.{option_and_then, option_map}
use Rattle.wire_base.specs.Maps.{lookup}
use Rattle.wire_base.specs.Names.{IsName, same_name}
use Rattle.wire_base.proofs.NumberLaws.{bytes_from_all}
use Rattle.wire_base.proofs.ListLaws.{some_is}
use Rattle.account_table.specs.AccountTable.{AccountTable}
use Rattle.secret_change.specs.Secrets.{IsNextSecret, tried_of}
use Rattle.secret_change.specs.declared.secrets.Next.{Next}
use Rattle.account_table.specs.Changes.{DifferInStates, without_state}
use Rattle.account_table.specs.LookUps.{account_in, machine_name, place_in}
use Rattle.account_table.specs.declared.account.Kind.TheVariants.{Workstation}
use Rattle.account_table.proofs.ChangeLaws.{accounts-left, places-left}
use Rattle.account_table.specs.declared.account.Account.{Account}
use Rattle.channel_client.specs.declared.state.Standing.{Standing}
use Rattle.channel_client.specs.declared.state.Standing.TheVariants as standing
use Rattle.controller_calls.specs.declared.state.Computers.{Computers}
use Rattle.logon_client.specs.Plans.{CanLogOn}
use Rattle.logon_client.specs.declared.plan.ClientPlan.{ClientPlan}
use Rattle.member_server.specs.Machine.{caller_of}
use Rattle.member_server.specs.declared.plan.MemberPlan.{MemberPlan}
use Rattle.world_moves.specs.declared.plan.Plan.{Plan}
use Rattle.world_moves.specs.declared.state.State.{State}
use Rattle.world_moves.specs.Choosing.{chosen_place}
use Rattle.world_moves.specs.Ends.{starters_in}
use Rattle.world_moves.specs.Forms.{HasForms, IsClientPlan, IsMemberPlan, IsNextHash}
use Rattle.world_moves.specs.Moving.{start}
use Rattle.world_moves.specs.World.{IsPlan}
use Rattle.logon_steps.specs.Calling.{HasShortCaller}
use Rattle.logon_steps.proofs.CallingLaws.{calls_can_go}
use Rattle.logon_steps.proofs.KnowingLaws.{computers_are_known, known_found}
use Rattle.logon_runs.specs.Scenes.LinkScenes.{rest_scene}
use Rattle.logon_runs.specs.Phases.{Arrival, Dials, scene_of, with_its_controller}
use Rattle.logon_runs.specs.Rests.{AtRest, ControllerRests, HasOwnComputer, HasOwnName, IsInStepAt, MemberRests, StandsWell, secret_at}
use Rattle.logon_runs.specs.Scenes.Scene.{Shows}
use Rattle.logon_runs.specs.AnyAnswer.AnyPhases.{IsAble, IsOwn, KnowsComputer, MayStand, On}
use Rattle.logon_runs.specs.AnyAnswer.AnyStarts.{AnyLogonsStart, AreThree, HasStarted, coming_from}
use Rattle.logon_runs.proofs.FirstLogon.FirstWorldLaws.{are_units, item_has}
use Rattle.logon_runs.proofs.Scenes.StartLaws.{starts_are_seen}
use Rattle.logon_runs.proofs.AnyAnswer.RestAgainLaws.{computers_same, fits_now, rests_again}

-- ---- an account later, as it was but for its count, and for the hash of a machine

pub record IsStated (there : Option Account) (account : Account) : Type 0 where
  pub now : Account
  pub found : there ≡ Some now
  pub same : without_state now ≡ without_state account

stated_from : (found : Option Account) (account : Account) → option_map without_state found ≡ Some (without_state account) → IsStated found account
stated_from None account same = absurd cc
stated_from (Some other) account same = record { now = other; found = refl; same = let alike : without_state other ≡ without_state account = cc in alike }

module _ (old new : AccountTable) (differ : DifferInStates old new) where
  stated_at : (account : Account) (place : Option ℕ) → option_and_then (slice_get old.accounts) place ≡ Some account → IsStated (option_and_then (slice_get new.accounts) place) account
  stated_at account None found = absurd cc
  stated_at account (Some k) found = stated_from (slice_get new.accounts k) account (accounts-left old new differ k ∙ ap (option_map without_state) found)

  pub stands_stated : (name : List ℕ) (account : Account) → account_in old.accounts name ≡ Some account → IsStated (account_in new.accounts name) account
  stands_stated name account found =
      subst (λ (place : Option ℕ). IsStated (option_and_then (slice_get new.accounts) place) account) (sym (places-left old new differ name)) (stated_at account (place_in old.accounts name) found)

-- the next secret of a plan has 16 bytes
pub next_form : (next : Option Next) → IsNextHash (option_map (λ (n : Next). n.secret) next) → IsNextSecret next
next_form None is = tt
next_form (Some n) is = (is.0, bytes_from_all n.secret is.1)

module _ (plan : Plan) (s : State) (rest : AtRest plan s) (client member controller : ℕ) (three : AreThree plan client member controller) (account machine : Account) where
  abbrev work : MemberPlan
  work = three.member_plan

  abbrev desk : ControllerRests plan s controller three.table
  desk = rest.controllers controller three.table three.is_table

  abbrev coming : Arrival
  coming = coming_from plan s rest client member controller three account machine

  -- the member's name is its own, by its plan
  named_so : IsOwn plan coming → HasOwnName plan member work controller
  named_so is = subst (λ (one : MemberPlan). HasOwnName plan member one controller) (some_is is.member work (sym is.planned ∙ three.is_member_plan)) is.named

  -- the channel of a member with its own name is in step
  may_stand : (how : Standing) → StandsWell plan s member work how → MayStand plan coming desk.computers how
  may_stand standing.Nothing well = tt
  may_stand (standing.Half one other) well = absurd well
  may_stand (standing.Open o) well = λ is_own.
      let there : IsInStepAt s controller work o = well controller (named_so is_own) in
      let same : there.computers ≡ desk.computers = computers_same _ there.table desk.table there.name desk.name there.computers desk.computers there.rests desk.rests in
      record {
        channel = there.channel;
        keeps = subst (λ (k : Computers). lookup same_name work.computer k.channels ≡ Some there.channel) same there.keeps;
        in_step = there.in_step;
      }

  -- the controller knows the member's computer
  pub knows_computer : HasOwnComputer plan member work controller → KnowsComputer coming
  knows_computer is_own =
      let same : is_own.table ≡ three.table = some_is _ _ (sym is_own.is_table ∙ three.is_table) in
      let states : DifferInStates is_own.table desk.table = subst (λ (table : AccountTable). DifferInStates table desk.table) (sym same) desk.states in
      let later : IsStated (account_in desk.table.accounts (machine_name work.computer)) is_own.machine =
      stands_stated is_own.table desk.table states (machine_name work.computer) is_own.machine is_own.machine_found in
      let kind : later.now.kind ≡ Workstation = ap (λ (a : Account). a.kind) later.same ∙ is_own.kind in
      record {
        machine = later.now;
        knows = computers_are_known.knows desk.table work.computer later.now later.found kind;
        found = λ one other. computers_are_known.machine desk.table work one other later.now later.found kind (ap (λ (a : Account). a.disabled) later.same ∙ is_own.enabled);
      }

  -- the secret that is tried is the one by which the member asks, where no channel stands
  tried_now : coming.meeting.how ≡ standing.Nothing → tried_of coming.meeting.plan.secrets ≡ coming.meeting.caller.secret
  tried_now none =
      let mr : MemberRests plan s member work = rest.members member work three.is_member_plan in
      sym (ap (λ (how : Standing). secret_at how (tried_of mr.secrets) mr.given.secret) none)

  pub able_so : IsPlan plan → HasForms plan → IsAble plan coming
  able_so is forms =
      let mr : MemberRests plan s member work = rest.members member work three.is_member_plan in
      let is_work : IsMemberPlan work = item_has IsMemberPlan plan.members member work forms.members three.is_member_plan in
      let is_task : IsClientPlan three.task = item_has IsClientPlan plan.clients client three.task forms.clients three.is_task in
      let caller : HasShortCaller (caller_of work) = calls_can_go.caller work is_work.computer in
      record {
        can = item_has CanLogOn plan.clients client three.task is.clients three.is_task;
        units = record { domain = are_units three.task.domain is_task.domain; user = are_units three.task.user is_task.user; workstation = are_units three.task.workstation is_task.workstation };
        names = record { domain = is_work.domain.0; computer = is_work.computer.0 };
        caller = record { computer = caller.computer; computer_units = caller.computer_units; account = caller.account; account_units = caller.account_units; kind = caller.kind };
        given = record {
          tried = tried_now;
          kept = λ o stands. sym (ap (λ (how : Standing). secret_at how (tried_of mr.secrets) mr.given.secret) stands);
          one = mr.one;
        };
        next = mr.next;
        place_below = mr.place_below;
        number_below = mr.number_below;
        ranged = desk.ranged;
        named = item_has IsName plan.controllers controller desk.name forms.controllers desk.is_name;
        stands = may_stand mr.how mr.stands;
        knows = λ one other now found. known_found desk.table work one other now found;
        own_secret = λ none is_own one other now found. fits_now plan s rest client member controller three account machine (named_so is_own) now found ∙ tried_now none;
        alone = refl;
      }

  -- nothing is open and nothing waits, and the three ends rest
  pub rests_seen : Shows s (rest_scene (with_its_controller coming coming.meeting) (rest.clients client three.task three.is_task).client s.links s.chances.left s.moment [])
  rests_seen = record {
    client = (rest.clients client three.task three.is_task).rests;
    member = (rest.members member work three.is_member_plan).rests;
    controller = desk.rests;
    unsealed = refl;
    plain = refl;
    links = refl;
    opened = rest.opened;
    units = rest.units;
    dials = rest.dials;
    left = refl;
    moment = refl;
  }

  -- the client dials
  pub begins_seen : (number : ℕ) → chosen_place number (starters_in s.ends) ≡ Some client → Shows (start number s).state (scene_of coming Dials s.chances.left s.moment)
  begins_seen number chosen =
      starts_are_seen.starts s (with_its_controller coming coming.meeting) number (rest.clients client three.task three.is_task).client s.links s.chances.left s.moment chosen
      (ap (λ (plans : List ClientPlan). slice_get plans client) rest.plans ∙ three.is_task) rests_seen

  starts_so : (number : ℕ) → IsPlan plan → HasForms plan → chosen_place number (starters_in s.ends) ≡ Some client → HasStarted plan coming (start number s).state
  starts_so number is forms chosen = record {
    able = able_so is forms;
    at = record { phase = On Dials; left = s.chances.left; moment = s.moment; fits = tt; shows = begins_seen number chosen };
  }

pub any_logons_start : AnyLogonsStart
any_logons_start = record {
  starts = λ plan s rest client member controller three account machine number is forms chosen. starts_so plan s rest client member controller three account machine number is forms chosen;
  ends = λ plan s rest client member controller three account machine after reaches others plans over.
      rests_again plan s rest client member controller three account machine after reaches others over plans;
}
