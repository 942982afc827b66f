-- The step of an end of a world.
-- It serves `Ends::put_member`, `Ends::renew_controller`, `Ends::step_client` and 3 more.
use Rattle.std.proofs.Common.{◌≡◌, ℕ, zero, suc, ◌<◌, Bool, true, false, List, [], ◌∷◌, ◌++◌, Err, length, get_or, All, inl, inr, Some, slice_get, slice_set, refl, ap, sym, subst, ◌∙◌, arith}
use Rattle.std.specs.List.{insert, remove}
use Rattle.std.proofs.lemmas.Option.{get_or_from_slice_get, slice_get_cases}
use Rattle.std.proofs.lemmas.List.{length-set}
use Rattle.std.proofs.lemmas.List.Elements.{All-nil, All-set}
use Rattle.outside.specs.Drawing.{Drawing, DrawsAll}
use Rattle.outside.specs.Machine.{Stepped, StepsBy, Takes}
use Rattle.outside.specs.declared.action.Action.{Action}
use Rattle.outside.specs.declared.action.StepRefused.{StepRefused}
use Rattle.outside.specs.declared.action.StepRefused.TheVariants as refused
use Rattle.outside.specs.declared.event.Event.{Event}
use Rattle.account_table.specs.AccountTable.{AccountTable}
use Rattle.domain_controller.specs.SealStep.{seal_step_of as controller_step_of}
use Rattle.domain_controller.specs.State.{State as ControllerState}
use Rattle.domain_controller.specs.Step.{is_stopped as controller_is_stopped}
use Rattle.interactive_station.specs.State.{StationState}
use Rattle.interactive_station.specs.Machine.{step_of as station_step_of}
use Rattle.logon_client.specs.State.{State as ClientState}
use Rattle.logon_client.specs.Machine.{step_of as client_step_of}
use Rattle.member_server.specs.State.{State as MemberState}
use Rattle.member_server.specs.Machine.{is_stopped as member_is_stopped}
use Rattle.member_server.specs.SealStep.{any_step_of as member_step_of}
use Rattle.world_moves.specs.Ends.{EndStates, client_done, client_step, controller_done, controller_step, drawn_on, end_done, fresh_controller, member_done, member_step, renew_controller, station_done, station_step}
use Rattle.world_moves.specs.Running.{CanStep}
use Rattle.world_moves.specs.declared.links.EndId.TheVariants.{Controller, Member, Client, Station}

same_drawing : (one other : Drawing) → one.seed ≡ other.seed → one.boot ≡ other.boot → one.drawn ≡ other.drawn → one.left ≡ other.left → one ≡ other
same_drawing one other seed boot drawn left =
    ap (λ s. record one { seed = s }) seed
    ∙ ap (λ b. record one { seed = other.seed; boot = b }) boot
    ∙ ap (λ d. record one { seed = other.seed; boot = other.boot; drawn = d }) drawn
    ∙ ap (λ l. record one { seed = other.seed; boot = other.boot; drawn = other.drawn; left = l }) left

-- what a step drew is known by what was drawn after it
drawn_is : (before after : Drawing) (drawn : List (List ℕ)) → DrawsAll before after drawn → drawn_on before drawn after.left ≡ after
drawn_is before after drawn all = same_drawing (drawn_on before drawn after.left) after (sym all.seed) (sym all.boot) (sym all.drawn) refl

-- where a list is a list and more, there is no more
no_more : (all more : List (List ℕ)) → all ≡ all ++ more → more ≡ []
no_more [] more is = sym is
no_more (item ∷ all) more is = no_more all more cc

-- a step that draws more challenges than were left leaves none
pub spent_all : {S : Type 0} (why : StepRefused) (stepped : Stepped S) (halted now : S) (before after : Drawing) →
    StepsBy (Err why) stepped halted now before after → why ≡ refused.Spent → after.left ≡ []
spent_all refused.Spent stepped halted now before after steps is = no_more before.left after.left steps.draws.left
spent_all refused.Memory stepped halted now before after steps is = absurd cc
spent_all refused.Stopped stepped halted now before after steps is = absurd cc

pub controller_took : (old new : ControllerState) (at : ℕ) (what : Event) (now : ℕ) (ends : EndStates) (before after : Drawing) (actions : List Action) →
    slice_get ends.controllers at ≡ Some old → Takes (controller_step_of old what now before.left) new before after actions →
    controller_step (slice_get ends.controllers at) at what now ends before
    ≡ end_done (Controller at) (record ends { controllers = slice_set ends.controllers at new }) after actions
controller_took old new at what now ends before after actions there takes =
    ap (λ c. controller_step c at what now ends before) there
    ∙ ap (λ step. controller_done step at ends before) takes.is
    ∙ ap (λ d. end_done (Controller at) (record ends { controllers = slice_set ends.controllers at new }) d actions) (drawn_is before after takes.drawn takes.draws)

pub member_took : (old new : MemberState) (at : ℕ) (what : Event) (now : ℕ) (ends : EndStates) (before after : Drawing) (actions : List Action) →
    slice_get ends.members at ≡ Some old → Takes (member_step_of old what now before.left) new before after actions →
    member_step (slice_get ends.members at) at what now ends before
    ≡ end_done (Member at) (record ends { members = slice_set ends.members at new }) after actions
member_took old new at what now ends before after actions there takes =
    ap (λ c. member_step c at what now ends before) there
    ∙ ap (λ step. member_done step at ends before) takes.is
    ∙ ap (λ d. end_done (Member at) (record ends { members = slice_set ends.members at new }) d actions) (drawn_is before after takes.drawn takes.draws)

pub client_took : (old new : ClientState) (at : ℕ) (what : Event) (now : ℕ) (ends : EndStates) (before after : Drawing) (actions : List Action) →
    slice_get ends.clients at ≡ Some old → Takes (client_step_of old what now before.left) new before after actions →
    client_step (slice_get ends.clients at) at what now ends before
    ≡ end_done (Client at) (record ends { clients = slice_set ends.clients at new }) after actions
client_took old new at what now ends before after actions there takes =
    ap (λ c. client_step c at what now ends before) there
    ∙ ap (λ step. client_done step at ends before) takes.is
    ∙ ap (λ d. end_done (Client at) (record ends { clients = slice_set ends.clients at new }) d actions) (drawn_is before after takes.drawn takes.draws)

pub station_took : (old new : StationState) (at : ℕ) (what : Event) (now : ℕ) (ends : EndStates) (before after : Drawing) (actions : List Action) →
    slice_get ends.stations at ≡ Some old → Takes (station_step_of old what now before.left) new before after actions →
    station_step (slice_get ends.stations at) at what now ends before
    ≡ end_done (Station at) (record ends { stations = slice_set ends.stations at new }) after actions
station_took old new at what now ends before after actions there takes =
    ap (λ c. station_step c at what now ends before) there
    ∙ ap (λ step. station_done step at ends before) takes.is
    ∙ ap (λ d. end_done (Station at) (record ends { stations = slice_set ends.stations at new }) d actions) (drawn_is before after takes.drawn takes.draws)

-- what is taken out at a place and put back changed is changed in its place
pub put_back : {T : Type 0} (items : List T) (at : ℕ) (item : T) → at < length items → insert (remove items at) at item ≡ slice_set items at item
put_back [] at item lt = absurd (omega arith)
put_back (first ∷ items) zero item lt = refl
put_back (first ∷ items) (suc at) item lt = ap (λ rest. first ∷ rest) (put_back items at item (omega arith))

-- ---- a controller that is made anew

abbrev pub Renews : (hands_on seals : Bool) → List ControllerState → ℕ → List ControllerState → Type 0
Renews hands_on seals controllers at after =
    (old : ControllerState) → slice_get controllers at ≡ Some old → after ≡ slice_set controllers at (fresh_controller hands_on seals old.table old.name)

pub fresh_runs : (hands_on seals : Bool) (table : AccountTable) (name : List ℕ) → controller_is_stopped (fresh_controller hands_on seals table name) ≡ false
fresh_runs hands_on true table name = refl
fresh_runs false false table name = refl
fresh_runs true false table name = refl

abbrev AllRun : List ControllerState → Type 0
AllRun controllers = All (λ (c : ControllerState). controller_is_stopped c ≡ false) controllers

-- what is taken out, made anew and put back
pub renews_at : (hands_on seals : Bool) (all rest after : List ControllerState) (at : ℕ) (taken new : ControllerState) (table : AccountTable) (name : List ℕ) → at < length all →
    taken ≡ get_or all at taken → rest ≡ remove all at → table ≡ taken.table → name ≡ taken.name → new ≡ fresh_controller hands_on seals table name → after ≡ insert rest at new → Renews hands_on seals all at after
renews_at hands_on seals all rest after at taken new table name lt read left its_table its_name is behind = λ old there.
    let same : taken ≡ old = read ∙ get_or_from_slice_get all at old taken there in
    let made : new ≡ fresh_controller hands_on seals old.table old.name =
    is ∙ ap (λ t. fresh_controller hands_on seals t name) its_table ∙ ap (λ n. fresh_controller hands_on seals taken.table n) its_name
    ∙ ap (λ (s : ControllerState). fresh_controller hands_on seals s.table s.name) same in
    behind ∙ ap (λ (left : List ControllerState). insert left at new) left ∙ put_back all at new lt ∙ ap (λ (s : ControllerState). slice_set all at s) made

pub renewed_run : (hands_on seals gave_up : Bool) (controllers after : List ControllerState) (members : List MemberState) (clients : List ClientState) (stations : List StationState) (at : ℕ) → at < length controllers →
    Renews hands_on seals controllers at after → CanStep gave_up controllers members clients stations → CanStep gave_up after members clients stations
renewed_run hands_on seals gave_up controllers after members clients stations at lt renews can = elim (slice_get_cases controllers at).1 [
  | inl found ↦ (let new : ControllerState = fresh_controller hands_on seals found.0.table found.0.name in
      let is : after ≡ slice_set controllers at new = renews found.0 found.2 in
      let size : length after ≡ length controllers = ap length is ∙ length-set controllers at new in
      record {
        few = omega (arith, can.few, size);
        running = λ goes_on. record {
          each_controller = subst AllRun (sym is)
              (All-set (λ (c : ControllerState). controller_is_stopped c ≡ false) controllers at new (fresh_runs hands_on seals found.0.table found.0.name) (can.running goes_on).each_controller);
          each_member = (can.running goes_on).each_member;
          each_client = (can.running goes_on).each_client;
          each_station = (can.running goes_on).each_station;
          few = omega (arith, can.few, size);
        };
      })
  | inr none ↦ absurd (omega arith)
]

-- the controllers are let go
pub none_run : (gave_up : Bool) (controllers none : List ControllerState) (members : List MemberState) (clients : List ClientState) (stations : List StationState) → none ≡ [] →
    CanStep gave_up controllers members clients stations → CanStep gave_up none members clients stations
none_run gave_up controllers none members clients stations is can = record {
  few = omega (arith, can.few, ap length is);
  running = λ goes_on. record {
    each_controller = subst AllRun (sym is) (All-nil (λ (c : ControllerState). controller_is_stopped c ≡ false));
    each_member = (can.running goes_on).each_member;
    each_client = (can.running goes_on).each_client;
    each_station = (can.running goes_on).each_station;
    few = omega (arith, can.few, ap length is);
  };
}

pub renewed_is : (hands_on seals : Bool) (ends : EndStates) (after : List ControllerState) (at : ℕ) → at < length ends.controllers → Renews hands_on seals ends.controllers at after →
    record ends { controllers = after } ≡ renew_controller hands_on seals (slice_get ends.controllers at) at ends
renewed_is hands_on seals ends after at lt renews = elim (slice_get_cases ends.controllers at).1 [
  | inl found ↦ ap (λ (all : List ControllerState). record ends { controllers = all }) (renews found.0 found.2) ∙ sym (ap (λ o. renew_controller hands_on seals o at ends) found.2)
  | inr none ↦ absurd (omega arith)
]

-- a member that runs is put in a place
pub member_put : (gave_up : Bool) (controllers : List ControllerState) (members : List MemberState) (clients : List ClientState) (stations : List StationState) (at : ℕ) (member put : MemberState) → put ≡ member →
    member_is_stopped member ≡ false → CanStep gave_up controllers members clients stations → CanStep gave_up controllers (slice_set members at put) clients stations
member_put gave_up controllers members clients stations at member put is runs can = record {
  few = omega (arith, can.few, length-set members at put);
  running = λ goes_on. record {
    each_controller = (can.running goes_on).each_controller;
    each_member = All-set (λ (m : MemberState). member_is_stopped m ≡ false) members at put (ap (λ (m : MemberState). member_is_stopped m) is ∙ runs) (can.running goes_on).each_member;
    each_client = (can.running goes_on).each_client;
    each_station = (can.running goes_on).each_station;
    few = omega (arith, can.few, length-set members at put);
  };
}
