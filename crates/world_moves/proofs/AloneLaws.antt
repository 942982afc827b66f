-- A world whose controllers ask nobody. It serves `who_asks_nobody_hears_alone`.
use Rattle.std.proofs.Common.{◌≡◌, ◌||◌, ℕ, zero, suc, Bool, true, false, List, [], ◌∷◌, Option, Some, None, slice_get, slice_set, refl, ap, ap₂, subst, sym, ◌∙◌}
use Rattle.std.specs.List.{AllByRecursion}
use Rattle.outside.specs.Drawing.{Drawing}
use Rattle.outside.specs.Machine.{Stepped}
use Rattle.outside.specs.declared.action.Action.{Action}
use Rattle.outside.specs.declared.event.Event.{Event}
use Rattle.account_table.specs.AccountTable.{AccountTable}
use Rattle.domain_controller.specs.State.{State as ControllerState}
use Rattle.domain_controller.specs.Step.{first_state}
use Rattle.domain_controller.specs.TrustStep.{trust_step_of}
use Rattle.domain_controller.specs.Trusting.{no_trusting}
use Rattle.domain_controller.proofs.CountLaws.{counts_by_verdict}
use Rattle.domain_controller.proofs.TrustAloneLaws.{steps_alone}
use Rattle.world_moves.specs.declared.links.EndId.{EndId}
use Rattle.world_moves.specs.declared.links.EndId.TheVariants.{Controller, Member, Client, Station}
use Rattle.world_moves.specs.declared.moves.Move.{Move}
use Rattle.world_moves.specs.declared.plan.Plan.{Plan}
use Rattle.world_moves.specs.declared.state.State.{State}
use Rattle.world_moves.specs.Acting.{AfterHearing, hear, hear_and_act, heard_by, perform_all}
use Rattle.world_moves.specs.Alone.{AsksNobody, HandsNothingOn, HearsAlone, IsPlainAlone, NobodyIsAsked, TrustsNobody, alone_controller_step, alone_end_step, hear_alone}
use Rattle.world_moves.specs.Ends.{EndStates, EndStep, controller_done, end_change, fresh_controller}
use Rattle.world_moves.specs.Moving.{act}
use Rattle.world_moves.specs.Plain.{IsPlain, IsPlainPlan, hear_plain, plain_controller_step, plain_end_step, plain_world, renewed_plain}
use Rattle.world_moves.specs.World.{World, first_controllers, first_world, run}
use Rattle.world_moves.proofs.ChangeLaws.{by_change}
use Rattle.world_moves.proofs.PlainKindLaws.{plain_by, renew_plain_by}
use Rattle.world_moves.proofs.PlainLaws.{acts_plain, hears_so_plainly, moves_plain, put_each, renews_plainly, world_plain}
use Rattle.world_moves.proofs.StateFrameLaws.{HoldsActing, HoldsMoving, StateFact, actions_so, hears_so, move_so}

-- ---- an end hears as it does alone

-- the controller of that place, where there is one, asks nobody
abbrev AsksNone : Option ControllerState → Type 0
AsksNone None = Unit {0}
AsksNone (Some c) = c.trusting ≡ no_trusting

asks_none : (controllers : List ControllerState) (at : ℕ) (found : Option ControllerState) → slice_get controllers at ≡ found →
    ((c : ControllerState) → slice_get controllers at ≡ Some c → c.trusting ≡ no_trusting) → AsksNone found
asks_none controllers at None is each = tt
asks_none controllers at (Some c) is each = each c is

controller_alone : (found : Option ControllerState) (at : ℕ) (what : Event) (now : ℕ) (ends : EndStates) (chances : Drawing) → AsksNone found →
    plain_controller_step found at what now ends chances ≡ alone_controller_step found at what now ends chances
controller_alone None at what now ends chances asks = refl
controller_alone (Some c) at what now ends chances asks =
    ap (λ (step : Stepped ControllerState). controller_done step at ends chances) (steps_alone.step c what now chances.left asks)

pub step_alone : (hands_on : Bool) (end : EndId) (what : Event) (now : ℕ) (ends : EndStates) (chances : Drawing) → NobodyIsAsked hands_on ends.controllers →
    plain_end_step end what now ends chances ≡ alone_end_step end what now ends chances
step_alone hands_on (Controller at) what now ends chances asks =
    controller_alone (slice_get ends.controllers at) at what now ends chances (asks_none ends.controllers at (slice_get ends.controllers at) refl (asks.each at))
step_alone hands_on (Member at) what now ends chances asks = refl
step_alone hands_on (Client at) what now ends chances asks = refl
step_alone hands_on (Station at) what now ends chances asks = refl

-- where ends hear as ones that can't seal
pub plainly_alone : (end : EndId) (what : Event) (s : State) → AsksNobody s → hear_plain end what s ≡ hear_alone end what s
plainly_alone end what s asks = ap (λ (step : EndStep). heard_by step s) (step_alone s.hands_on end what s.moment s.ends s.chances asks)

pub hears_so_alone : (end : EndId) (what : Event) (s : State) → IsPlain s → AsksNobody s → hear end what s ≡ hear_alone end what s
hears_so_alone end what s plain asks = hears_so_plainly end what s plain ∙ plainly_alone end what s asks

-- ---- a world in which nobody is asked stays one

asked_put : (hands_on : Bool) (controllers : List ControllerState) (at : ℕ) (new : ControllerState) → NobodyIsAsked hands_on controllers →
    new.trusting ≡ no_trusting → TrustsNobody hands_on new.table → NobodyIsAsked hands_on (slice_set controllers at new)
asked_put hands_on controllers at new asks none anew = record {
  each = put_each (λ (c : ControllerState). c.trusting ≡ no_trusting) controllers at new asks.each none;
  anew = put_each (λ (c : ControllerState). TrustsNobody hands_on c.table) controllers at new asks.anew anew;
}

-- a table that trusts the same domains
same_trusts : (hands_on : Bool) (one other : AccountTable) → other.trusts ≡ one.trusts → TrustsNobody hands_on one → TrustsNobody hands_on other
same_trusts false one other same none = tt
same_trusts true one other same none = same ∙ none

-- a controller that is made from a table which trusts nobody is made as one that trusts no domain
pub fresh_alone : (hands_on : Bool) (table : AccountTable) (name : List ℕ) → TrustsNobody hands_on table → fresh_controller hands_on false table name ≡ first_state table name
fresh_alone false table name none = refl
fresh_alone true table name none = steps_alone.without_trusts table name none

fresh_asks : (hands_on : Bool) (table : AccountTable) (name : List ℕ) → TrustsNobody hands_on table → (fresh_controller hands_on false table name).trusting ≡ no_trusting
fresh_asks hands_on table name none = ap (λ (c : ControllerState). c.trusting) (fresh_alone hands_on table name none)

fresh_table : (hands_on : Bool) (table : AccountTable) (name : List ℕ) → (fresh_controller hands_on false table name).table ≡ table
fresh_table false table name = refl
fresh_table true table name = refl

-- a step of one that can't seal leaves it so
step_asks : (hands_on : Bool) (what : Event) (now : ℕ) (ends : EndStates) (chances : Drawing) → NobodyIsAsked hands_on ends.controllers → (end : EndId) →
    NobodyIsAsked hands_on (plain_end_step end what now ends chances).ends.controllers
step_asks hands_on what now ends chances asks end =
    plain_by (λ (one : EndId) (step : EndStep). NobodyIsAsked hands_on step.ends.controllers) what now ends chances (λ one. asks)
    (λ at c is.
    let none : c.trusting ≡ no_trusting = asks.each at c is in
    let after : ControllerState = (trust_step_of c what now chances.left).state in
    let trusts : after.table.trusts ≡ c.table.trusts =
    ap (λ (step : Stepped ControllerState). step.state.table.trusts) (steps_alone.step c what now chances.left none) ∙ (counts_by_verdict.states c what now chances.left).trusts in
    asked_put hands_on ends.controllers at after asks (steps_alone.stays c what now chances.left none) (same_trusts hands_on c.table after.table trusts (asks.anew at c is)))
    (λ at m is. asks) (λ at c is. asks) end

pub hears_asks : (end : EndId) (what : Event) (s : State) → AsksNobody s → AsksNobody (hear_plain end what s).state
hears_asks end what s asks = step_asks s.hands_on what s.moment s.ends s.chances asks end

-- making an end anew that can't seal leaves a world in which nobody is asked
pub renew_asks : (end : EndId) (s : State) → AsksNobody s → AsksNobody (renewed_plain end s)
renew_asks end s asks =
    renew_plain_by (λ (one : EndId) (ends : EndStates). NobodyIsAsked s.hands_on ends.controllers) s (λ one. asks)
    (λ at c is.
    let new : ControllerState = fresh_controller s.hands_on false c.table c.name in
    asked_put s.hands_on s.ends.controllers at new asks (fresh_asks s.hands_on c.table c.name (asks.anew at c is))
    (subst (λ (table : AccountTable). TrustsNobody s.hands_on table) (sym (fresh_table s.hands_on c.table c.name)) (asks.anew at c is)))
    (λ at plan is. asks) (λ at plan is. asks) end

-- beginning to change a secret leaves a world in which nobody is asked
pub change_asks : (at : ℕ) (secret : List ℕ) (s : State) → AsksNobody s → AsksNobody (record s { ends = (end_change at secret s.ends).ends })
change_asks at secret s asks = by_change (λ (ends : EndStates) (actions : List Action). NobodyIsAsked s.hands_on ends.controllers) at secret s.ends asks (λ running is none. asks)

-- ---- through moves, and what is done in them

-- a plain world whose controllers ask nobody
abbrev pub StandsAlone : State → Type 0
StandsAlone s = IsPlain s × AsksNobody s

-- nobody is asked later where nobody is before
abbrev pub StaysAlone : StateFact
StaysAlone s after = StandsAlone s → StandsAlone after

pub acts_alone : HoldsActing StaysAlone
acts_alone = record {
  none = λ s stands. stands;
  both = λ s between after first later stands. later (first stands);
  hears = λ end what s stands. (acts_plain.hears end what s stands.0, subst (λ (heard : AfterHearing). AsksNobody heard.state) (sym (hears_so_plainly end what s stands.0)) (hears_asks end what s stands.1));
  acts = λ end what s stands. (acts_plain.acts end what s stands.0, stands.1);
  shuts = λ link s stands. stands;
}

pub moves_alone : HoldsMoving StaysAlone
moves_alone = record {
  acting = acts_alone;
  begins = λ client plan s stands. stands;
  starts = λ station plan s stands. (moves_plain.starts station plan s stands.0, stands.1);
  opens = λ route s stands. stands;
  answers = λ link there s is stands. stands;
  forgets = λ end s stands. stands;
  settles = λ number s stands. stands;
  dials = λ s stands. stands;
  renews = λ end s stands. (moves_plain.renews end s stands.0, subst (λ (ends : EndStates). NobodyIsAsked s.hands_on ends.controllers) (sym (renews_plainly end s stands.0)) (renew_asks end s stands.1));
  changes = λ at secret s stands. (moves_plain.changes at secret s stands.0, change_asks at secret s stands.1);
  ticks = λ more s stands. stands;
}

-- an end hears something, does what it then does, and does actions
pub heard_alone : (end : EndId) (what : Event) (s : State) → StandsAlone s → StandsAlone (hear end what s).state
heard_alone = acts_alone.hears

pub acted_alone : (end : EndId) (what : Event) (s : State) → StandsAlone s → StandsAlone (hear_and_act end what s).state
acted_alone = hears_so StaysAlone acts_alone

pub done_alone : (end : EndId) (actions : List Action) (s : State) → StandsAlone s → StandsAlone (perform_all end actions s).state
done_alone = actions_so StaysAlone acts_alone

pub moved_alone : (what : Move) (s : State) → StandsAlone s → StandsAlone (act s what).state
moved_alone = move_so StaysAlone moves_alone

pub run_alone : (moves : List Move) (w : World) → StandsAlone w.state → StandsAlone (run moves w).state
run_alone [] w stands = stands
run_alone (what ∷ moves) w stands = run_alone moves _ (moved_alone what w.state stands)

-- ---- at first

all_plain : (tables : List AccountTable) → AllByRecursion (TrustsNobody false) tables
all_plain [] = tt
all_plain (table ∷ tables) = (tt, all_plain tables)

pub plain_plan : (plan : Plan) → plan.seals ≡ false → plan.hands_on ≡ false → HandsNothingOn plan
plain_plan plan unsealed is =
    subst (λ (hands_on : Bool). AllByRecursion (TrustsNobody hands_on) plan.tables) (sym (ap₂ (λ (seals hands_on : Bool). seals || hands_on) unsealed is)) (all_plain plan.tables)

-- a plain plan whose controllers aren't to hand on asks nobody
pub alone_if : (plan : Plan) → IsPlainPlan plan → plan.hands_on ≡ false → IsPlainAlone plan
alone_if plan plain is = record { plain = plain; alone = plain_plan plan plain.controllers is }

-- the tables of a plan trust nobody, or its controllers aren't to ask
pub trusts_nobody : (plan : Plan) → IsPlainAlone plan → AllByRecursion (TrustsNobody plan.hands_on) plan.tables
trusts_nobody plan is = subst (λ (seals : Bool). AllByRecursion (TrustsNobody (seals || plan.hands_on)) plan.tables) is.plain.controllers is.alone

-- what holds of the first and of each of the rest holds of each
each_first : {T : Type 0} (P : T → Type 0) (first : T) (items : List T) → P first → ((k : ℕ) (one : T) → slice_get items k ≡ Some one → P one) →
    (k : ℕ) (one : T) → slice_get (first ∷ items) k ≡ Some one → P one
each_first P first items here rest zero one is = subst P (let same : first ≡ one = cc in same) here
each_first P first items here rest (suc k) one is = rest k one is

none_here : (hands_on : Bool) → NobodyIsAsked hands_on []
none_here hands_on = record { each = λ at c is. absurd cc; anew = λ at c is. absurd cc }

asked_first : (hands_on : Bool) (tables : List AccountTable) (names : List (List ℕ)) → AllByRecursion (TrustsNobody hands_on) tables →
    NobodyIsAsked hands_on (first_controllers hands_on false tables names)
asked_first hands_on [] names none = none_here hands_on
asked_first hands_on (table ∷ tables) [] none = none_here hands_on
asked_first hands_on (table ∷ tables) (name ∷ names) none =
    let controllers : List ControllerState = first_controllers hands_on false tables names in
    let rest : NobodyIsAsked hands_on controllers = asked_first hands_on tables names none.1 in
    let first : ControllerState = fresh_controller hands_on false table name in
    record {
      each = each_first (λ (c : ControllerState). c.trusting ≡ no_trusting) first controllers (fresh_asks hands_on table name none.0) rest.each;
      anew = each_first (λ (c : ControllerState). TrustsNobody hands_on c.table) first controllers
          (subst (λ (t : AccountTable). TrustsNobody hands_on t) (sym (fresh_table hands_on table name)) none.0) rest.anew;
    }

-- where the plan is plain
pub alone_first : (plan : Plan) → IsPlainAlone plan → AsksNobody (plain_world plan).state
alone_first plan is = asked_first plan.hands_on plan.tables plan.controllers (trusts_nobody plan is)

pub first_alone : (plan : Plan) → IsPlainAlone plan → AsksNobody (first_world plan).state
first_alone plan is = subst (λ (w : World). AsksNobody w.state) (sym (world_plain plan is.plain)) (alone_first plan is)

pub hears_alone : HearsAlone
hears_alone = record {
  plain = plain_plan;
  first = first_alone;
  stays = λ s what plain asks. (moved_alone what s (plain, asks)).1;
  hears = hears_so_alone;
}
