-- That a world which rests does so still after a move between starts.
-- Of `rests_stay`.
use Rattle.std.proofs.Common.{◌≡◌, ℕ, refl, sym, ap, subst, ◌∙◌, List, [], drop, Option, Some, slice_get}
use Rattle.channel_client.specs.declared.state.Standing.{Standing}
use Rattle.channel_client.specs.declared.state.Standing.TheVariants as standing
use Rattle.logon_client.specs.declared.plan.ClientPlan.{ClientPlan}
use Rattle.member_server.specs.declared.plan.MemberPlan.{MemberPlan}
use Rattle.world_moves.specs.declared.moves.Move.{Move}
use Rattle.world_moves.specs.declared.moves.Move.TheVariants as move
use Rattle.world_moves.specs.declared.plan.Plan.{Plan}
use Rattle.world_moves.specs.declared.state.State.{State}
use Rattle.world_moves.specs.declared.state.WaitingDial.{WaitingDial}
use Rattle.world_moves.specs.Acting.{Acted}
use Rattle.world_moves.specs.Ends.{EndStates}
use Rattle.world_moves.specs.Moving.{act, connect_first, tick, without_first}
use Rattle.logon_runs.specs.Scenes.Others.{IsStepOn}
use Rattle.logon_runs.specs.Rests.{AtRest, ClientRests, ControllerRests, FitsSecretAt, IsInStepAt, MemberRests, RestsStay, StandsWell}
use Rattle.logon_runs.specs.Scenes.WaitingUnits.{waiting}
use Rattle.logon_runs.proofs.Scenes.WaitingLaws.{waiting_comes}
use Rattle.logon_runs.proofs.Scenes.StepOnLaws.{by_step}

well_still : (plan : Plan) (s after : State) (at : ℕ) (member : MemberPlan) (how : Standing) → ((k : ℕ) → slice_get after.ends.controllers k ≡ slice_get s.ends.controllers k) →
    StandsWell plan s at member how → StandsWell plan after at member how
well_still plan s after at member standing.Nothing same well = tt
well_still plan s after at member (standing.Half one other) same well = absurd well
well_still plan s after at member (standing.Open o) same well = λ controller own.
    let there : IsInStepAt s controller member o = well controller own in
    record {
      table = there.table;
      name = there.name;
      computers = there.computers;
      channel = there.channel;
      rests = same controller ∙ there.rests;
      keeps = there.keeps;
      in_step = there.in_step;
    }

-- controllers and members are as they were, and each client rests
pub rest_with : (plan : Plan) (s after : State) → ((at : ℕ) → slice_get after.ends.controllers at ≡ slice_get s.ends.controllers at) →
    ((at : ℕ) → slice_get after.ends.members at ≡ slice_get s.ends.members at) → ((at : ℕ) (task : ClientPlan) → slice_get plan.clients at ≡ Some task → ClientRests after at task) →
    after.open_links ≡ [] → after.dials ≡ [] → waiting after.bag ≡ [] → after.client_plans ≡ s.client_plans → AtRest plan s → AtRest plan after
rest_with plan s after controllers members clients opened dials units plans rest = record {
  opened = opened;
  dials = dials;
  units = units;
  plans = plans ∙ rest.plans;
  controllers = λ at planned is_table.
      let cr : ControllerRests plan s at planned = rest.controllers at planned is_table in
      record {
        name = cr.name;
        is_name = cr.is_name;
        table = cr.table;
        states = cr.states;
        users = cr.users;
        ranged = cr.ranged;
        computers = cr.computers;
        rests = controllers at ∙ cr.rests;
      };
  members = λ at member is_plan.
      let mr : MemberRests plan s at member = rest.members at member is_plan in
      record {
        secrets = mr.secrets;
        given = mr.given;
        how = mr.how;
        place = mr.place;
        number = mr.number;
        rests = members at ∙ mr.rests;
        next = mr.next;
        one = mr.one;
        place_below = mr.place_below;
        number_below = mr.number_below;
        stands = well_still plan s after at member mr.how controllers mr.stands;
        fits = λ k planned is_table is_own.
            let there : FitsSecretAt s k member mr.secrets = mr.fits k planned is_table is_own in
            record { table = there.table; name = there.name; computers = there.computers; rests = controllers k ∙ there.rests; fits = there.fits };
      };
  clients = clients;
}

-- the ends, the links, what waits and the plans are the same
rest_still : (plan : Plan) (s after : State) → after.ends ≡ s.ends → after.open_links ≡ s.open_links → after.dials ≡ [] → after.bag ≡ s.bag → after.client_plans ≡ s.client_plans → AtRest plan s →
    AtRest plan after
rest_still plan s after same opened dials bag plans rest =
    rest_with plan s after (λ at. ap (λ (e : EndStates). slice_get e.controllers at) same) (λ at. ap (λ (e : EndStates). slice_get e.members at) same)
    (λ at task is_task.
    let lr : ClientRests s at task = rest.clients at task is_task in
    record { client = lr.client; rests = ap (λ (e : EndStates). slice_get e.clients at) same ∙ lr.rests; how = lr.how })
    (opened ∙ rest.opened) dials (ap (λ b. waiting b) bag ∙ rest.units) plans rest

-- no dial is answered
connects_none : (plan : Plan) (s : State) → AtRest plan s → (act s move.Connect).state ≡ without_first s
connects_none plan s rest = ap (λ (first : Option WaitingDial). (connect_first first (without_first s)).state) (ap (λ (dials : List WaitingDial). slice_get dials 0) rest.dials)

-- no unit comes
onward_none : (plan : Plan) (s : State) → AtRest plan s → (act s move.Onward).state ≡ s
onward_none plan s rest = ap (λ (a : Acted). a.state) (waiting_comes.idle s rest.units)

stays_so : (plan : Plan) (s : State) (what : Move) → IsStepOn what → AtRest plan s → AtRest plan (act s what).state
stays_so plan s what steps rest =
    by_step (λ (one : Move). AtRest plan (act s one).state)
    (subst (AtRest plan) (sym (connects_none plan s rest)) (rest_still plan s (without_first s) refl refl (ap (λ (dials : List WaitingDial). drop 1 dials) rest.dials) refl refl rest))
    (subst (AtRest plan) (sym (onward_none plan s rest)) rest) (λ more. rest_still plan s (tick more s) refl refl rest.dials refl refl rest) what steps

draws_so : (plan : Plan) (s : State) (what : Move) → IsStepOn what → AtRest plan s → (act s what).state.chances ≡ s.chances
draws_so plan s what steps rest =
    by_step (λ (one : Move). (act s one).state.chances ≡ s.chances) (ap State.chances (connects_none plan s rest)) (ap State.chances (onward_none plan s rest)) (λ more. refl) what steps

pub rests_stay : RestsStay
rests_stay = record { stays = stays_so; draws = draws_so }
