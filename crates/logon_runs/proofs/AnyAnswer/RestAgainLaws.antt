-- A world rests again once a logon is over, at any member.
-- Of `any_logons_start` and `logons_come_to_rest`.
use Rattle.std.proofs.Common.{◌≡◌, ◌≢◌, ℕ, true, false, refl, sym, ap, subst, ◌∙◌, List, [], Option, Some, None, inl, inr, slice_get, ◌<◌, length, arith}
use Rattle.std.proofs.lemmas.Option.{slice_get_cases}
use Rattle.std.proofs.lemmas.Bool.{cases_Bool}
use Rattle.std.specs.Prelude.{◌⊎◌}
use Rattle.wire_base.specs.Maps.{lookup}
use Rattle.wire_base.specs.Names.{same_name}
use Rattle.wire_base.proofs.NameLaws.{same_name-Decides}
use Rattle.wire_base.proofs.ListLaws.{some_is}
use Rattle.authenticators.specs.SecureChannels.{SecureChannelState}
use Rattle.account_table.specs.AccountTable.{AccountTable}
use Rattle.account_table.specs.declared.account.Account.{Account}
use Rattle.account_table.specs.Changes.{DifferInCounts, DifferInStates, with_count}
use Rattle.account_table.proofs.ChangeLaws.{counts-states, states-again, states-none, with_hash-differs}
use Rattle.channel_client.specs.declared.state.Standing.{Standing}
use Rattle.channel_client.specs.declared.state.Standing.TheVariants as standing
use Rattle.channel_client.specs.Machine.{after as next_place}
use Rattle.domain_controller.specs.State.{State as ControllerState}
use Rattle.controller_calls.specs.declared.state.Computers.{Computers}
use Rattle.domain_controller.specs.declared.state.Running.{Running}
use Rattle.member_server.specs.Machine.{caller_of}
use Rattle.secret_change.specs.Secrets.{SecretsState, next_of}
use Rattle.logon_steps.specs.Knowing.{StandsLater}
use Rattle.logon_steps.proofs.KnowingLaws.{computers_are_known}
use Rattle.logon_client.specs.declared.plan.ClientPlan.{ClientPlan}
use Rattle.member_server.specs.declared.plan.MemberPlan.{MemberPlan}
use Rattle.world_moves.specs.declared.links.EndId.{EndId}
use Rattle.world_moves.specs.declared.links.EndId.TheVariants.{Controller, Member}
use Rattle.world_moves.specs.declared.plan.Plan.{Plan}
use Rattle.world_moves.specs.declared.state.State.{State}
use Rattle.world_moves.specs.Moving.{end_of_peer, route_to}
use Rattle.world_moves.specs.World.{first_ends}
use Rattle.logon_steps.specs.ClientSteps.{client_ended}
use Rattle.logon_steps.specs.ControllerTurns.{controller_at}
use Rattle.logon_runs.specs.Scenes.Others.{OthersStay}
use Rattle.logon_runs.specs.Rests.{AtRest, ClientRests, ControllerRests, FitsSecretAt, HasOwnName, IsInStepAt, KeepsUsers, MemberRests, StandsWell, channel_account, three_of}
use Rattle.logon_runs.specs.Phases.{Arrival, FitsCaller}
use Rattle.logon_runs.specs.AnyAnswer.AnyPhases.{IsDone, KeepsInStep, MaySet, MayStand}
use Rattle.logon_runs.specs.AnyAnswer.AnyStarts.{AreThree, IsReachedOrNot, coming_from}
use Rattle.logon_runs.proofs.FirstLogon.FirstTraceLaws.{after_below}
use Rattle.logon_runs.proofs.SecretRestLaws.{fits_counted, same_or_not, sets_leave_others, users_kept}

-- an item at a place of a list
pub record HasItem {T : Type 0} (items : List T) (at : ℕ) : Type 0 where
  pub item : T
  pub is : slice_get items at ≡ Some item

pub item_at : {T : Type 0} (items : List T) (at : ℕ) → at < length items → HasItem items at
item_at items at inside =
    elim (slice_get_cases items at).1 [
      | inl there ↦ record { item = there.0; is = there.2 }
      | inr past ↦ absurd (omega (arith, inside, past.0))
    ]

pub some_not : {T : Type 0} {one : T} → Some one ≡ None → ⊥
some_not is = absurd cc

controller_same : (one other : ℕ) → Some (Controller one) ≡ Some (Controller other) → one ≡ other
controller_same one other is = cc

-- what a controller keeps of computers
computers_by : Option Running → Computers
computers_by None = record { pending = []; channels = []; sessions = [] }
computers_by (Some running) = running.computers

computers_in : Option ControllerState → Computers
computers_in None = record { pending = []; channels = []; sessions = [] }
computers_in (Some c) = computers_by c.running

pub computers_same : (found : Option ControllerState) (table other_table : AccountTable) (name other_name : List ℕ) (computers other : Computers) →
    found ≡ Some (controller_at table name computers []) → found ≡ Some (controller_at other_table other_name other []) → computers ≡ other
unfolding computers_in computers_by
computers_same found table other_table name other_name computers other is so = ap computers_in (sym is ∙ so)

tables_in : Option ControllerState → AccountTable → AccountTable
tables_in None other = other
tables_in (Some c) other = c.table

pub tables_same : (found : Option ControllerState) (table other_table : AccountTable) (name other_name : List ℕ) (computers other : Computers) →
    found ≡ Some (controller_at table name computers []) → found ≡ Some (controller_at other_table other_name other []) → table ≡ other_table
unfolding tables_in
tables_same found table other_table name other_name computers other is so = ap (λ (c : Option ControllerState). tables_in c table) (sym is ∙ so)

names_differ : (one other : List ℕ) → same_name one other ≡ false → same_name other one ≡ false
names_differ one other apart =
    elim (cases_Bool (same_name other one)) [
      | inl same ↦
          let back : same_name one other ≡ true = (same_name-Decides one other).1 (sym ((same_name-Decides other one).0 same)) in
          absurd (let never : false ≡ true = sym apart ∙ back in cc)
      | inr differ ↦ differ
    ]

-- ---- accounts as a logon leaves them

keeps_both : (old mid new : AccountTable) → KeepsUsers old mid → KeepsUsers mid new → KeepsUsers old new
keeps_both old mid new first second user account found kind =
    let one : StandsLater mid user account = first user account found kind in
    let other : StandsLater new user (with_count one.count account) = second user (with_count one.count account) one.found kind in
    record { count = other.count; found = other.found }

keeps_counted : (old new : AccountTable) → DifferInCounts old new → KeepsUsers old new
keeps_counted old new differ user account found kind = computers_are_known.stands old new user account differ found

module _ (plan : Plan) (p : Arrival) where
  set_states : (table : AccountTable) → MaySet plan p table → DifferInStates p.table table
  set_states table (inl same) = subst (DifferInStates p.table) (sym same) (states-none p.table)
  set_states table (inr set) = subst (DifferInStates p.table) (sym set.1.is) (with_hash-differs set.1.place set.1.hash p.table)

  set_keeps : (table : AccountTable) → MaySet plan p table → KeepsUsers p.table table
  set_keeps table (inl same) = subst (KeepsUsers p.table) (sym same) (λ user account found kind. record { count = account.bad_count; found = found })
  set_keeps table (inr set) = subst (KeepsUsers p.table) (sym set.1.is)
      (λ user account found kind. record {
        count = account.bad_count;
        found = users_kept p.table set.1.place set.1.hash p.meeting.caller.account p.meeting.caller.kind p.meeting.caller.computer user account set.1.found found kind;
      })

-- ---- a logon starts

-- the account that its controller has for its channel has the secret that the member tries
module _ (plan : Plan) (s : State) (rest : AtRest plan s) (client member controller : ℕ) (three : AreThree plan client member controller) (account machine : Account) where
  abbrev starting : Arrival
  starting = coming_from plan s rest client member controller three account machine

  pub fits_now : HasOwnName plan member three.member_plan controller → FitsCaller starting.table starting.meeting.caller starting.meeting.plan.secrets
  fits_now is_own now found =
      let mr : MemberRests plan s member three.member_plan = rest.members member three.member_plan three.is_member_plan in
      let desk : ControllerRests plan s controller three.table = rest.controllers controller three.table three.is_table in
      let there : FitsSecretAt s controller three.member_plan mr.secrets = mr.fits controller three.table three.is_table is_own in
      let same : there.table ≡ desk.table = tables_same _ there.table desk.table there.name desk.name there.computers desk.computers there.rests desk.rests in
      there.fits now (ap (λ (table : AccountTable). channel_account table three.member_plan.computer) same ∙ found)

-- ---- a logon is over

module _ (plan : Plan) (s : State) (rest : AtRest plan s) (client member controller : ℕ) (three : AreThree plan client member controller) (account machine : Account) (after : State)
    (reaches : IsReachedOrNot plan member three.member_plan controller) (others : OthersStay (three_of client member controller) s after)
    (over : IsDone plan (coming_from plan s rest client member controller three account machine) after) where
  abbrev coming : Arrival
  coming = coming_from plan s rest client member controller three account machine

  -- the logon's own controller rests again
  controller_rests : ControllerRests plan after controller three.table
  controller_rests =
      let cr : ControllerRests plan s controller three.table = rest.controllers controller three.table three.is_table in
      record {
        name = cr.name;
        is_name = cr.is_name;
        table = over.settled.table;
        states = states-again three.table cr.table over.settled.table cr.states
            (states-again cr.table over.fits.before over.settled.table (set_states plan coming over.fits.before over.fits.set)
            (counts-states over.fits.before over.settled.table over.fits.differs));
        users = keeps_both three.table cr.table over.settled.table cr.users
            (keeps_both cr.table over.fits.before over.settled.table (set_keeps plan coming over.fits.before over.fits.set)
            (keeps_counted over.fits.before over.settled.table over.fits.differs));
        ranged = over.fits.ranged;
        computers = over.settled.computers;
        rests = over.shows.controller;
      }

  controllers_rest : (at : ℕ) (planned : AccountTable) → slice_get plan.tables at ≡ Some planned → (at ≡ controller) ⊎ (at ≢ controller) → ControllerRests plan after at planned
  controllers_rest at planned is_table (inl same) =
      let is : planned ≡ three.table = some_is _ _ (sym is_table ∙ ap (λ (n : ℕ). slice_get plan.tables n) same ∙ three.is_table) in
      subst (λ (n : ℕ). ControllerRests plan after n planned) (sym same) (subst (λ (table : AccountTable). ControllerRests plan after controller table) (sym is) controller_rests)
  controllers_rest at planned is_table (inr apart) =
      let cr : ControllerRests plan s at planned = rest.controllers at planned is_table in
      record {
        name = cr.name;
        is_name = cr.is_name;
        table = cr.table;
        states = cr.states;
        users = cr.users;
        ranged = cr.ranged;
        computers = cr.computers;
        rests = others.controllers at apart ∙ cr.rests;
      }

  -- the logon's own member is in step
  member_in_step : (at : ℕ) (o : SecureChannelState) → at ≡ controller → KeepsInStep coming over.settled.computers o →
      IsInStepAt after at three.member_plan o
  member_in_step at o same step_so = subst (λ (n : ℕ). IsInStepAt after n three.member_plan o) (sym same)
      (record {
        table = over.settled.table;
        name = (rest.controllers controller three.table three.is_table).name;
        computers = over.settled.computers;
        channel = step_so.channel;
        rests = over.shows.controller;
        keeps = step_so.keeps;
        in_step = step_so.in_step;
      })

  nobody_reached : (at : ℕ) → end_of_peer three.member_plan.controller (first_ends plan) ≡ Some (Controller at) → route_to (Member member) (end_of_peer three.member_plan.controller (first_ends plan)) ≡ None → ⊥
  nobody_reached at there nobody = some_not (sym (ap (λ (end : Option EndId). route_to (Member member) end) there) ∙ nobody)

  member_open : (at : ℕ) (o : SecureChannelState) → HasOwnName plan member three.member_plan at → IsReachedOrNot plan member three.member_plan controller →
      (HasOwnName plan member three.member_plan controller → KeepsInStep coming over.settled.computers o) →
      IsInStepAt after at three.member_plan o
  member_open at o is_own (inl there) keeps =
      let same : at ≡ controller = controller_same at controller (sym is_own.reaches ∙ there) in
      member_in_step at o same (keeps (subst (λ (n : ℕ). HasOwnName plan member three.member_plan n) same is_own))
  member_open at o is_own (inr nobody) keeps = absurd (nobody_reached at is_own.reaches nobody)

  member_well : (how : Standing) → MayStand plan coming over.settled.computers how → StandsWell plan after member three.member_plan how
  member_well standing.Nothing stands = tt
  member_well (standing.Half one other) stands = absurd stands
  member_well (standing.Open o) stands = λ at is_own.
      member_open at o is_own reaches (λ named. stands (record { member = three.member_plan; planned = three.is_member_plan; named = named }))

  -- the member's account has the secret that it tries
  member_fits : (k : ℕ) → HasOwnName plan member three.member_plan k → IsReachedOrNot plan member three.member_plan controller → FitsSecretAt after k three.member_plan over.settled.secrets
  member_fits k is_own (inl there) =
      let same : k ≡ controller = controller_same k controller (sym is_own.reaches ∙ there) in
      let named : HasOwnName plan member three.member_plan controller = subst (λ (n : ℕ). HasOwnName plan member three.member_plan n) same is_own in
      subst (λ (n : ℕ). FitsSecretAt after n three.member_plan over.settled.secrets) (sym same)
      (record {
        table = over.settled.table;
        name = (rest.controllers controller three.table three.is_table).name;
        computers = over.settled.computers;
        rests = over.shows.controller;
        fits = over.fits.fits (record { member = three.member_plan; planned = three.is_member_plan; named = named })
            (fits_now plan s rest client member controller three account machine named);
      })
  member_fits k is_own (inr nobody) = absurd (nobody_reached k is_own.reaches nobody)

  member_rests : MemberRests plan after member three.member_plan
  member_rests = record {
    secrets = over.settled.secrets;
    given = record { secret = coming.meeting.caller.secret; next = next_of over.settled.secrets };
    how = over.settled.how;
    place = next_place (rest.members member three.member_plan three.is_member_plan).place;
    number = over.settled.number;
    rests = over.shows.member;
    next = over.fits.next;
    one = over.fits.one;
    place_below = after_below (rest.members member three.member_plan three.is_member_plan).place;
    number_below = over.fits.number_below;
    stands = member_well over.settled.how over.fits.stands;
    fits = λ k planned is_table is_own. member_fits k is_own reaches;
  }

  -- another member's channel stays in step
  still_in_step : (at : ℕ) (peer : MemberPlan) (o : SecureChannelState) → at ≢ member → (k : ℕ) → HasOwnName plan at peer k → IsInStepAt s k peer o → (k ≡ controller) ⊎ (k ≢ controller) →
      IsInStepAt after k peer o
  still_in_step at peer o apart k is_own old (inl same) =
      let cr : ControllerRests plan s controller three.table = rest.controllers controller three.table three.is_table in
      let computers_so : old.computers ≡ cr.computers =
      computers_same _ old.table cr.table old.name cr.name old.computers cr.computers (ap (λ (n : ℕ). slice_get s.ends.controllers n) (sym same) ∙ old.rests) cr.rests in
      let other_name : end_of_peer three.member_plan.controller (first_ends plan) ≡ Some (Controller controller) → same_name three.member_plan.computer peer.computer ≡ false =
      λ there. is_own.apart member three.member_plan (λ is. apart (sym is)) three.is_member_plan (subst (λ (n : ℕ). end_of_peer three.member_plan.controller (first_ends plan) ≡ Some (Controller n)) (sym same) there) in
      subst (λ (n : ℕ). IsInStepAt after n peer o) (sym same)
      (record {
        table = over.settled.table;
        name = cr.name;
        computers = over.settled.computers;
        channel = old.channel;
        rests = over.shows.controller;
        keeps = over.fits.others peer.computer other_name ∙ ap (λ (c : Computers). lookup same_name peer.computer c.channels) (sym computers_so) ∙ old.keeps;
        in_step = old.in_step;
      })
  still_in_step at peer o apart k is_own old (inr elsewhere) = record {
    table = old.table;
    name = old.name;
    computers = old.computers;
    channel = old.channel;
    rests = others.controllers k elsewhere ∙ old.rests;
    keeps = old.keeps;
    in_step = old.in_step;
  }

  stands_still : (at : ℕ) (peer : MemberPlan) (how : Standing) → at ≢ member → StandsWell plan s at peer how → StandsWell plan after at peer how
  stands_still at peer standing.Nothing apart well = tt
  stands_still at peer (standing.Half one other) apart well = absurd well
  stands_still at peer (standing.Open o) apart well = λ k is_own. still_in_step at peer o apart k is_own (well k is_own) (same_or_not k controller)

  -- another member's account is as it was
  still_before : (peer : MemberPlan) (at k : ℕ) → at ≢ member → k ≡ controller → HasOwnName plan at peer k → MaySet plan coming over.fits.before →
      channel_account over.fits.before peer.computer ≡ channel_account coming.table peer.computer
  still_before peer at k apart same is_own (inl is) = ap (λ (t : AccountTable). channel_account t peer.computer) is
  still_before peer at k apart same is_own (inr set) =
      let differ : same_name three.member_plan.computer peer.computer ≡ false =
      is_own.apart member three.member_plan (λ is. apart (sym is)) three.is_member_plan
      (subst (λ (n : ℕ). end_of_peer three.member_plan.controller (first_ends plan) ≡ Some (Controller n)) (sym same) set.0) in
      ap (λ (t : AccountTable). channel_account t peer.computer) set.1.is
      ∙ sets_leave_others.others coming.table peer.computer three.member_plan.computer set.1.place set.1.hash (names_differ three.member_plan.computer peer.computer differ) set.1.found

  still_fits : (at : ℕ) (peer : MemberPlan) (secrets : SecretsState) → at ≢ member → (k : ℕ) → HasOwnName plan at peer k → FitsSecretAt s k peer secrets → (k ≡ controller) ⊎ (k ≢ controller) →
      FitsSecretAt after k peer secrets
  still_fits at peer secrets apart k is_own old (inl same) =
      let cr : ControllerRests plan s controller three.table = rest.controllers controller three.table three.is_table in
      let table_so : old.table ≡ cr.table =
      tables_same _ old.table cr.table old.name cr.name old.computers cr.computers (ap (λ (n : ℕ). slice_get s.ends.controllers n) (sym same) ∙ old.rests) cr.rests in
      let fits_before : FitsCaller over.fits.before (caller_of peer) secrets =
      λ machine found. old.fits machine (ap (λ (t : AccountTable). channel_account t peer.computer) table_so ∙ sym (still_before peer at k apart same is_own over.fits.set) ∙ found) in
      subst (λ (n : ℕ). FitsSecretAt after n peer secrets) (sym same)
      (record {
        table = over.settled.table;
        name = cr.name;
        computers = over.settled.computers;
        rests = over.shows.controller;
        fits = fits_counted over.fits.before over.settled.table (caller_of peer) secrets over.fits.differs fits_before;
      })
  still_fits at peer secrets apart k is_own old (inr elsewhere) = record {
    table = old.table;
    name = old.name;
    computers = old.computers;
    rests = others.controllers k elsewhere ∙ old.rests;
    fits = old.fits;
  }

  members_rest : (at : ℕ) (peer : MemberPlan) → slice_get plan.members at ≡ Some peer → (at ≡ member) ⊎ (at ≢ member) → MemberRests plan after at peer
  members_rest at peer is_plan (inl same) =
      let is : peer ≡ three.member_plan = some_is _ _ (sym is_plan ∙ ap (λ (n : ℕ). slice_get plan.members n) same ∙ three.is_member_plan) in
      subst (λ (n : ℕ). MemberRests plan after n peer) (sym same) (subst (λ (m : MemberPlan). MemberRests plan after member m) (sym is) member_rests)
  members_rest at peer is_plan (inr apart) =
      let mr : MemberRests plan s at peer = rest.members at peer is_plan in
      record {
        secrets = mr.secrets;
        given = mr.given;
        how = mr.how;
        place = mr.place;
        number = mr.number;
        rests = others.members at apart ∙ mr.rests;
        next = mr.next;
        one = mr.one;
        place_below = mr.place_below;
        number_below = mr.number_below;
        stands = stands_still at peer mr.how apart mr.stands;
        fits = λ k planned is_table is_own. still_fits at peer mr.secrets apart k is_own (mr.fits k planned is_table is_own) (same_or_not k controller);
      }

  clients_rest : (at : ℕ) (task : ClientPlan) → slice_get plan.clients at ≡ Some task → (at ≡ client) ⊎ (at ≢ client) → ClientRests after at task
  clients_rest at task is_task (inl same) =
      let is : task ≡ three.task = some_is _ _ (sym is_task ∙ ap (λ (n : ℕ). slice_get plan.clients n) same ∙ three.is_task) in
      subst (λ (n : ℕ). ClientRests after n task) (sym same) (subst (λ (t : ClientPlan). ClientRests after client t) (sym is)
      (record { client = client_ended three.task over.outcome; rests = over.shows.client; how = inr (over.outcome, refl) }))
  clients_rest at task is_task (inr apart) =
      let lr : ClientRests s at task = rest.clients at task is_task in
      record { client = lr.client; rests = others.clients at apart ∙ lr.rests; how = lr.how }

  pub rests_again : after.client_plans ≡ s.client_plans → AtRest plan after
  rests_again plans = record {
    opened = over.shows.opened;
    dials = over.shows.dials;
    units = over.shows.units;
    plans = plans ∙ rest.plans;
    controllers = λ at planned is_table. controllers_rest at planned is_table (same_or_not at controller);
    members = λ at peer is_plan. members_rest at peer is_plan (same_or_not at member);
    clients = λ at task is_task. clients_rest at task is_task (same_or_not at client);
  }
