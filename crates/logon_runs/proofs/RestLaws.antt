-- A world between two logons, and that a granted one leads from one to another.
-- Of `logons_come_to_rest`.
use Rattle.std.proofs.Common.{◌≡◌, ℕ, false, refl, sym, ap, subst, ◌∙◌, List, [], Option, None, Some, arith, inl, inr, slice_get}
use Rattle.std.specs.List.{AllByRecursion}
use Rattle.std.specs.Prelude.{IsSomeAnd, ◌⊎◌}
use Rattle.std.proofs.lemmas.Option.{slice_get_within}
use Rattle.authenticators.specs.SecureChannels.{SecureChannelState}
use Rattle.secret_change.specs.Secrets.{tried_of}
use Rattle.account_table.specs.Changes.{with_count}
use Rattle.account_table.specs.AccountTable.{AccountTable}
use Rattle.account_table.specs.LookUps.{account_in, machine_name, place_in}
use Rattle.account_table.specs.Ranges.{InRangeAccount}
use Rattle.account_table.specs.declared.account.Account.{Account}
use Rattle.account_table.specs.declared.account.Kind.TheVariants.{User}
use Rattle.account_table.proofs.ChangeLaws.{states-none}
use Rattle.sam_logon.specs.MayLogOn.{MayLogOn}
use Rattle.channel_client.specs.declared.state.Standing.{Standing}
use Rattle.channel_client.specs.declared.state.Standing.TheVariants as standing
use Rattle.domain_controller.specs.State.{State as ControllerState}
use Rattle.domain_controller.proofs.TrustPlaceLaws.{got_all}
use Rattle.domain_controller.proofs.TurnOutLaws.{got_map}
use Rattle.logon_steps.specs.Answering.{IsInStep}
use Rattle.logon_steps.specs.Granting.{info_told}
use Rattle.logon_client.specs.Machine.{fresh_client}
use Rattle.logon_client.specs.declared.plan.ClientPlan.{ClientPlan}
use Rattle.member_server.specs.declared.plan.MemberPlan.{MemberPlan}
use Rattle.member_server.specs.Machine.{fresh_member}
use Rattle.world_moves.specs.declared.plan.Plan.{Plan}
use Rattle.world_moves.specs.declared.state.State.{State}
use Rattle.world_moves.specs.Alone.{IsPlainAlone, TrustsNobody}
use Rattle.world_moves.specs.Choosing.{chosen_place}
use Rattle.world_moves.specs.Ends.{starters_in}
use Rattle.world_moves.specs.Forms.{HasForms, IsMemberPlan, IsTable}
use Rattle.world_moves.specs.Moving.{start}
use Rattle.world_moves.specs.Plain.{plain_world}
use Rattle.world_moves.specs.World.{IsPlan, World, first_world}
use Rattle.world_moves.proofs.AloneLaws.{trusts_nobody}
use Rattle.world_moves.proofs.PlainLaws.{world_plain}
use Rattle.world_moves.proofs.RangeLaws.{table_in_range}
use Rattle.logon_steps.specs.Knowing.{StandsLater}
use Rattle.logon_steps.proofs.KnowingLaws.{computers_are_known}
use Rattle.logon_runs.specs.Scenes.Others.{OthersStay}
use Rattle.logon_runs.specs.Phases.{Arrival}
use Rattle.logon_runs.specs.Rests.{AtRest, CanBeGranted, CanCome, ClientRests, ControllerRests, HasBegun, HasCome, HasOwnComputer, HasOwnName, LogonsComeToRest, channel_account, coming_at, three_of}
use Rattle.logon_runs.specs.Runs.{StandsInStep}
use Rattle.logon_runs.specs.Failing.TurnedAway.{HasEnded, Settled, settled_in}
use Rattle.logon_runs.specs.AnyAnswer.AnyPhases.{IsAble, IsOwn, KeepsInStep, KnowsComputer, MayStand}
use Rattle.logon_runs.specs.AnyAnswer.AnyStarts.{AreThree, coming_from}
use Rattle.logon_runs.proofs.FirstLogon.FirstWorldLaws.{at_place, got_controller, item_has}
use Rattle.logon_runs.proofs.Phases.PhaseLaws.{kind_so, phases_go_on}
use Rattle.logon_runs.proofs.AnyAnswer.AnyBeginLaws.{IsStated, able_so, begins_seen, knows_computer, next_form, rests_seen, stands_stated}
use Rattle.logon_runs.proofs.Failing.TurnedAwayLaws.{nothing_not_open}
use Rattle.logon_runs.proofs.AnyAnswer.RestAgainLaws.{HasItem, item_at, rests_again}
use Rattle.wire_base.proofs.ListLaws.{some_is}

-- ---- how a channel stands

open_same : (one other : SecureChannelState) → standing.Open one ≡ standing.Open other → one ≡ other
open_same one other is = cc

open_not : (o : SecureChannelState) → standing.Open o ≡ standing.Nothing → ⊥
open_not o is = absurd cc

half_not : (one other : List ℕ) → standing.Half one other ≡ standing.Nothing → ⊥
half_not one other is = absurd cc

half_not_open : (one other : List ℕ) (o : SecureChannelState) → standing.Half one other ≡ standing.Open o → ⊥
half_not_open one other o is = absurd cc

-- ---- the first world

plain_so : (plan : Plan) → IsPlan plan → HasForms plan → AllByRecursion (TrustsNobody plan.hands_on) plan.tables → AtRest plan (plain_world plan).state
plain_so plan is forms none = record {
  opened = refl;
  dials = refl;
  units = refl;
  plans = refl;
  controllers = λ at planned is_table.
      let named : HasItem plan.controllers at = item_at plan.controllers at (omega (arith, is.tables, slice_get_within plan.tables at planned is_table)) in
      record {
        name = named.item;
        is_name = named.is;
        table = planned;
        states = states-none planned;
        users = λ user account found kind. record { count = account.bad_count; found = found };
        ranged = table_in_range planned (item_has IsTable plan.tables at planned forms.tables is_table);
        computers = record { pending = []; channels = []; sessions = [] };
        rests = got_controller plan.hands_on false plan.tables plan.controllers at planned named.item is_table named.is refl
            (got_all (TrustsNobody plan.hands_on) plan.tables at planned none is_table);
      };
  members = λ at member is_plan. record {
    secrets = member.secrets;
    given = record { secret = tried_of member.secrets; next = None };
    how = standing.Nothing;
    place = 0;
    number = 1;
    rests = got_map fresh_member plan.members at member is_plan;
    next = next_form member.secrets.next (item_has IsMemberPlan plan.members at member forms.members is_plan).next;
    one = λ o stands. absurd (nothing_not_open o stands);
    place_below = omega arith;
    number_below = omega arith;
    stands = tt;
    fits = λ controller planned is_table is_own.
        let named : HasItem plan.controllers controller = item_at plan.controllers controller (omega (arith, is.tables, slice_get_within plan.tables controller planned is_table)) in
        record {
          table = planned;
          name = named.item;
          computers = record { pending = []; channels = []; sessions = [] };
          rests = got_controller plan.hands_on false plan.tables plan.controllers controller planned named.item is_table named.is refl
              (got_all (TrustsNobody plan.hands_on) plan.tables controller planned none is_table);
          fits = is_own.secret planned is_table;
        };
  };
  clients = λ at task is_task. record {
    client = fresh_client task;
    rests = got_map fresh_client plan.clients at task is_task;
    how = inl refl;
  };
}

first_so : (plan : Plan) → IsPlan plan → HasForms plan → IsPlainAlone plan → AtRest plan (first_world plan).state
first_so plan is forms alone = subst (λ (w : World). AtRest plan w.state) (sym (world_plain plan alone.plain)) (plain_so plan is forms (trusts_nobody plan alone))

-- ---- a member with its own computer has its own name

pub own_name : (plan : Plan) (at : ℕ) (member : MemberPlan) (controller : ℕ) → HasOwnComputer plan at member controller → HasOwnName plan at member controller
own_name plan at member controller has = record {
  reaches = has.reaches;
  secret = λ table is_table account found.
      let same : has.table ≡ table = some_is has.table table (sym has.is_table ∙ is_table) in
      let there : channel_account table member.computer ≡ Some has.machine =
      computers_are_known.machine table member [] [] has.machine (subst (λ (one : AccountTable). account_in one.accounts (machine_name member.computer) ≡ Some has.machine) same has.machine_found) has.kind has.enabled in
      ap Account.hash (some_is account has.machine (sym found ∙ there)) ∙ has.secret;
  apart = has.apart;
}

-- ---- a logon starts

-- a member with its own computer is one of three
abbrev three_for : (plan : Plan) (client member controller : ℕ) → CanCome plan client member controller → AreThree plan client member controller
three_for plan client member controller can = record {
  task = can.task;
  is_task = can.is_task;
  member_plan = can.member_plan;
  is_member_plan = can.is_member_plan;
  table = can.computer.table;
  is_table = can.computer.is_table;
}

-- the channel stands in step, or there is none
stands_by : (plan : Plan) (p : Arrival) (how : Standing) → p.meeting.how ≡ how → IsOwn plan p → MayStand plan p p.computers how → (p.meeting.how ≡ standing.Nothing) ⊎ StandsInStep p.meeting p.computers
stands_by plan p standing.Nothing is is_own stands = inl is
stands_by plan p (standing.Half one other) is is_own stands = absurd stands
stands_by plan p (standing.Open o) is is_own stands =
    let step_so : KeepsInStep p p.computers o = stands is_own in
    inr (record { member = o; stands = is; controller = step_so.channel; channel = step_so.keeps; in_step = step_so.in_step })

comes_so : (plan : Plan) (s : State) (rest : AtRest plan s) (client member controller : ℕ) (can : CanCome plan client member controller) (account : Account) (number : ℕ) → IsPlan plan →
    HasForms plan → InRangeAccount account → chosen_place number (starters_in s.ends) ≡ Some client → HasCome plan s rest client member controller can account number
comes_so plan s rest client member controller can account number is forms account_so chosen =
    let three : AreThree plan client member controller = three_for plan client member controller can in
    let secret : KnowsComputer (coming_from plan s rest client member controller three account account) =
    knows_computer plan s rest client member controller three account account can.computer in
    let coming : Arrival = coming_at plan s rest client member controller can account secret.machine in
    let able : IsAble plan coming = able_so plan s rest client member controller three account secret.machine is forms in
    let lr : ClientRests s client can.task = rest.clients client can.task can.is_task in
    let is_own : IsOwn plan coming = record { member = can.member_plan; planned = can.is_member_plan; named = own_name plan member can.member_plan controller can.computer } in
    record {
      machine = secret.machine;
      known = record {
        can = able.can;
        units = able.units;
        names = able.names;
        caller = able.caller;
        given = able.given;
        next = able.next;
        place_below = able.place_below;
        number_below = able.number_below;
        stands = stands_by plan coming coming.meeting.how refl is_own able.stands;
        knows = secret.knows;
        machine_found = secret.found;
        secret = λ none. able.own_secret none is_own [] [] secret.machine (secret.found [] []);
        ranged = able.ranged;
        named = able.named;
        account_so = account_so;
        alone = refl;
      };
      under_way = phases_go_on.begins coming s number lr.client s.chances.left s.moment chosen (ap (λ (plans : List ClientPlan). slice_get plans client) rest.plans ∙ can.is_task)
          (rests_seen plan s rest client member controller three account secret.machine);
    }

begins_so : (plan : Plan) (s : State) (rest : AtRest plan s) (client member controller : ℕ) (can : CanBeGranted plan client member controller) (number : ℕ) → IsPlan plan → HasForms plan →
    chosen_place number (starters_in s.ends) ≡ Some client → HasBegun plan s rest client member controller can number
begins_so plan s rest client member controller can number is forms chosen =
    let cr : ControllerRests plan s controller can.come.computer.table = rest.controllers controller can.come.computer.table can.come.computer.is_table in
    let later : IsStated (account_in cr.table.accounts can.come.task.user) can.account = stands_stated can.come.computer.table cr.table cr.states can.come.task.user can.account can.found in
    let come : HasCome plan s rest client member controller can.come later.now number =
    comes_so plan s rest client member controller can.come later.now number is forms
    (at_place InRangeAccount cr.table.accounts (place_in cr.table.accounts can.come.task.user) later.now cr.ranged.accounts later.found) chosen in
    let seen = begins_seen plan s rest client member controller (three_for plan client member controller can.come) later.now come.machine number chosen in
    record {
      account = later.now;
      come = come;
      domain = cr.states.domain;
      name = ap (λ (account : Account). account.name) later.same;
      user = λ may.
          let may_then : MayLogOn cr.table (info_told can.come.task) (start number s).state.moment =
          subst (λ (found : Option ControllerState). IsSomeAnd found (λ (k : ControllerState). MayLogOn k.table (info_told can.come.task) (start number s).state.moment)) seen.controller may in
          let is_user : later.now.kind ≡ User =
          subst (λ (found : Option Account). IsSomeAnd found (λ (account : Account). account.kind ≡ User)) later.found
          (kind_so (account_in cr.table.accounts can.come.task.user) cr.table.policy can.come.task.workstation (start number s).state.moment may_then.there.account) in
          let kept : StandsLater cr.table can.come.task.user can.account =
          cr.users can.come.task.user can.account can.found (sym (ap (λ (account : Account). account.kind) later.same) ∙ is_user) in
          record { found = later.found; hash = ap Account.hash (some_is later.now (with_count kept.count can.account) (sym later.found ∙ kept.found)) ∙ can.hash };
    }

-- ---- a logon is over

may_stand : (plan : Plan) (p : Arrival) (e : Settled) (how : Standing) → e.how ≡ how → (e.how ≡ standing.Nothing) ⊎ StandsInStep (settled_in p e) e.computers → MayStand plan p e.computers how
may_stand plan p e standing.Nothing is stands = tt
may_stand plan p e (standing.Half one other) is (inl none) = absurd (half_not one other (sym is ∙ none))
may_stand plan p e (standing.Half one other) is (inr step_so) = absurd (half_not_open one other step_so.member (sym is ∙ step_so.stands))
may_stand plan p e (standing.Open o) is (inl none) = absurd (open_not o (sym is ∙ none))
may_stand plan p e (standing.Open o) is (inr step_so) = λ is_own.
    record {
      channel = step_so.controller;
      keeps = step_so.channel;
      in_step = subst (λ (state : SecureChannelState). IsInStep state step_so.controller) (open_same step_so.member o (sym step_so.stands ∙ is)) step_so.in_step;
    }

ends_so : (plan : Plan) (s : State) (rest : AtRest plan s) (client member controller : ℕ) (can : CanCome plan client member controller) (account machine : Account) (after : State) →
    OthersStay (three_of client member controller) s after → after.client_plans ≡ s.client_plans → HasEnded (coming_at plan s rest client member controller can account machine) after → AtRest plan after
ends_so plan s rest client member controller can account machine after others plans over =
    let p : Arrival = coming_at plan s rest client member controller can account machine in
    rests_again plan s rest client member controller (three_for plan client member controller can) account machine after (inl can.computer.reaches) others
    (record {
      outcome = over.outcome;
      settled = over.settled;
      left = over.left;
      moment = over.moment;
      fits = record {
        joined_so = over.fits.joined_so;
        number_below = over.fits.number_below;
        next = over.fits.next;
        one = over.fits.one;
        before = over.fits.before;
        set = elim over.fits.set [ inl same ↦ inl same | inr set ↦ inr (can.computer.reaches, set) ];
        differs = over.fits.differs;
        ranged = over.fits.ranged;
        fits = λ is_own. over.fits.fits;
        others = λ other apart. over.fits.others other (apart can.computer.reaches);
        stands = may_stand plan p over.settled over.settled.how refl over.fits.stands;
      };
      shows = over.shows;
    }) plans

pub logons_come_to_rest : LogonsComeToRest
logons_come_to_rest = record { first = first_so; comes = comes_so; begins = begins_so; ends = ends_so }
