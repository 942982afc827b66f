-- What becomes of what is under way in a world, and of its ends.
-- Of `traffic_goes_on`.
use Rattle.std.proofs.Common.{◌≡◌, ℕ, List, [], ◌∷◌, ◌++◌, drop, length, Option, Some, None, refl, sym, ap, ap₂, subst, ◌∙◌, slice_get}
use Rattle.std.specs.List.{AllByRecursion}
use Rattle.wire_base.specs.Maps.{lookup, put, same_number, take_out}
use Rattle.outside.specs.declared.action.Action.{Action}
use Rattle.outside.specs.declared.action.Action.TheVariants as action
use Rattle.outside.specs.declared.action.CloseCause.{CloseCause}
use Rattle.outside.specs.declared.event.Event.{Event}
use Rattle.outside.specs.declared.event.Event.TheVariants as event
use Rattle.outside.specs.Drawing.{Drawing}
use Rattle.outside.specs.Machine.{whole_step}
use Rattle.domain_controller.specs.State.{State as ControllerState}
use Rattle.domain_controller.specs.TrustStep.{trust_step_of}
use Rattle.world_moves.specs.declared.bag.BagUnit.{BagUnit}
use Rattle.world_moves.specs.declared.links.EndId.{EndId}
use Rattle.world_moves.specs.declared.links.EndId.TheVariants.{Controller}
use Rattle.world_moves.specs.declared.links.OpenLink.{OpenLink}
use Rattle.world_moves.specs.declared.links.Route.{Route}
use Rattle.world_moves.specs.declared.state.State.{State}
use Rattle.world_moves.specs.declared.state.WaitingDial.{WaitingDial}
use Rattle.world_moves.specs.Acting.{AfterHearing, close_open, closed_at, done, done_quietly, hear, perform_all, perform_all_quietly, shut_link}
use Rattle.world_moves.specs.Ends.{EndStates}
use Rattle.world_moves.specs.Links.{OpenMap, accepted, acceptor_of, answered}
use Rattle.world_moves.specs.Moving.{answer, answer_by, answered_link, connect, connect_by, connect_first, end_of_peer, moment_after, onward, route_to, settle, with_link, without_first}
use Rattle.logon_runs.specs.Scenes.Scene.{IsNoClose, dials_made, units_sent}
use Rattle.logon_runs.specs.Scenes.Traffic.{HasTraffic, Hears, IsFirst, IsShutBy, Traffic, TrafficGoesOn, acted_on, with_route, with_units, without_link}
use Rattle.logon_runs.specs.Scenes.WaitingUnits.{Comes, after_hearing, with_controller_at}
use Rattle.logon_runs.proofs.Scenes.SceneLaws.{Leaves, performed_quietly, quietly_leave}
use Rattle.logon_runs.proofs.Scenes.WaitingLaws.{waiting_comes}

-- ---- a controller hears

controller_hears : (ends : EndStates) (at : ℕ) (controller after : ControllerState) (what : Event) (moment : ℕ) (left rest : List (List ℕ)) (actions : List Action) →
    slice_get ends.controllers at ≡ Some controller → controller.trusting.sealing ≡ None →
    trust_step_of controller what moment left ≡ whole_step left rest actions after →
    Hears (Controller at) what moment ends (with_controller_at at after ends) left rest actions
controller_hears ends at controller after what moment left rest actions found plain step s same now here =
    waiting_comes.controller s at controller after what rest actions (ap (λ (e : EndStates). slice_get e.controllers at) same ∙ found) plain
    (ap₂ (λ (m : ℕ) (l : List (List ℕ)). trust_step_of controller what m l) now here ∙ step ∙ ap (λ (l : List (List ℕ)). whole_step l rest actions after) (sym here))
    ∙ ap (λ (e : EndStates). after_hearing (with_controller_at at after e) rest actions s) same

-- ---- a unit comes

first_comes : (s : State) (ends : EndStates) (v : Traffic) (unit : BagUnit) (later : List BagUnit) (end : EndId) → HasTraffic s ends v → IsFirst v unit later end → Comes s unit later end
first_comes s ends v unit later end has first =
    waiting_comes.comes s unit later first.there end (has.units ∙ first.units) first.some first.short
    (ap (λ (o : OpenMap). lookup same_number unit.link o) has.opened ∙ first.found) first.hearer

comes_on : (s : State) (ends after : EndStates) (v : Traffic) (unit : BagUnit) (later : List BagUnit) (end : EndId) (rest : List (List ℕ)) (actions : List Action) →
    HasTraffic s ends v → IsFirst v unit later end → AllByRecursion IsNoClose actions →
    Hears end (event.Bytes unit.link unit.bytes) v.moment ends after v.left rest actions →
    HasTraffic (onward s).state after (acted_on end actions rest (with_units later v))
comes_on s ends after v unit later end rest actions has first none_close hears =
    let comes : Comes s unit later end = first_comes s ends v unit later end has first in
    let s1 : State = settle comes.number s in
    let s2 : State = (after_hearing after rest actions s1).state in
    let s3 : State = perform_all_quietly end actions s2 in
    let leaves : Leaves end actions s2 s3 = quietly_leave end actions s2 in
    let is : (onward s).state ≡ s3 =
    comes.state ∙ ap (λ (h : AfterHearing). (done end h).state) (hears s1 has.stand has.moment has.left) ∙ performed_quietly end actions s2 none_close in
    subst (λ (t : State). HasTraffic t after (acted_on end actions rest (with_units later v))) (sym is) (record {
      stand = leaves.ends;
      links = leaves.links ∙ has.links;
      opened = leaves.opened ∙ has.opened;
      units = leaves.units ∙ ap₂ (λ (u : List BagUnit) (l : List Route). u ++ units_sent l end actions) comes.behind has.links;
      dials = leaves.dials ∙ ap (λ (d : List WaitingDial). d ++ dials_made end actions) has.dials;
      left = ap (λ (c : Drawing). c.left) leaves.left;
      moment = leaves.moment ∙ has.moment;
    })

closes_on : (s : State) (ends between after : EndStates) (v : Traffic) (unit : BagUnit) (later : List BagUnit) (end other : EndId) (link : ℕ) (cause : CloseCause)
    (rest : List (List ℕ)) (actions : List Action) → HasTraffic s ends v → IsFirst v unit later end → IsShutBy v end other link → AllByRecursion IsNoClose actions →
    Hears end (event.Bytes unit.link unit.bytes) v.moment ends between v.left rest (action.Close link cause ∷ actions) →
    Hears other (event.Closed link) v.moment between after rest rest [] →
    HasTraffic (onward s).state after (acted_on end actions rest (without_link link (with_units later v)))
closes_on s ends between after v unit later end other link cause rest actions has first shut none_close hears closed =
    let comes : Comes s unit later end = first_comes s ends v unit later end has first in
    let s1 : State = settle comes.number s in
    let s2 : State = (after_hearing between rest (action.Close link cause ∷ actions) s1).state in
    let s3 : State = (after_hearing after rest [] (shut_link link s2)).state in
    let s4 : State = perform_all_quietly end actions s3 in
    let leaves : Leaves end actions s3 s4 = quietly_leave end actions s3 in
    let is : (onward s).state ≡ s4 =
    comes.state
    ∙ ap (λ (h : AfterHearing). (done end h).state) (hears s1 has.stand has.moment has.left)
    ∙ ap (λ (o : Option OpenLink). (perform_all end actions (close_open o end link s2).state).state) (ap (λ (o : OpenMap). lookup same_number link o) has.opened ∙ shut.found)
    ∙ ap (λ (h : Option EndId). (perform_all end actions (closed_at h link (shut_link link s2)).state).state) shut.side
    ∙ ap (λ (h : AfterHearing). (perform_all end actions (done_quietly other h).state).state) (closed (shut_link link s2) refl has.moment refl)
    ∙ performed_quietly end actions s3 none_close in
    subst (λ (t : State). HasTraffic t after (acted_on end actions rest (without_link link (with_units later v)))) (sym is) (record {
      stand = leaves.ends;
      links = leaves.links ∙ has.links;
      opened = leaves.opened ∙ ap (λ (o : OpenMap). take_out same_number link o) has.opened;
      units = leaves.units ∙ ap₂ (λ (u : List BagUnit) (l : List Route). u ++ units_sent l end actions) comes.behind has.links;
      dials = leaves.dials ∙ ap (λ (d : List WaitingDial). d ++ dials_made end actions) has.dials;
      left = ap (λ (c : Drawing). c.left) leaves.left;
      moment = leaves.moment ∙ has.moment;
    })

-- ---- a dial is answered, or fails

dials_on : (s : State) (ends between after : EndStates) (v : Traffic) (end : EndId) (peer : List ℕ) (dials : List WaitingDial) (route : Route) (actions : List Action) →
    HasTraffic s ends v → v.dials ≡ record { end = end; peer = peer } ∷ dials → route_to end (end_of_peer peer ends) ≡ Some route →
    lookup same_number (length v.links) (v.opened ++ (length v.links, accepted route) ∷ []) ≡ Some (accepted route) → AllByRecursion IsNoClose actions →
    Hears (acceptor_of route) (event.Opened (length v.links)) v.moment ends between v.left v.left [] →
    Hears end (event.Dialled (length v.links)) v.moment between after v.left v.left actions →
    HasTraffic (connect s).state after (acted_on end actions v.left (with_route route dials v))
dials_on s ends between after v end peer dials route actions has waits reaches found none_close opens dialled =
    let n : ℕ = length v.links in
    let s1 : State = with_link route (without_first s) in
    let s2 : State = (after_hearing between v.left [] s1).state in
    let s3 : State = answered_link n (accepted route) s2 in
    let s4 : State = (after_hearing after v.left actions s3).state in
    let s5 : State = perform_all_quietly end actions s4 in
    let leaves : Leaves end actions s4 s5 = quietly_leave end actions s4 in
    let open_is : s2.open_links ≡ v.opened ++ (length v.links, accepted route) ∷ [] =
    ap₂ (λ (o : OpenMap) (l : List Route). o ++ (length l, accepted route) ∷ []) has.opened has.links in
    let is : (connect s).state ≡ s5 =
    ap (λ (d : List WaitingDial). (connect_first (slice_get d 0) (without_first s)).state) (has.dials ∙ waits)
    ∙ ap (λ (r : Option Route). (connect_by r end (without_first s)).state) (ap (λ (e : EndStates). route_to end (end_of_peer peer e)) has.stand ∙ reaches)
    ∙ ap (λ (l : List Route). (answer end (length l) (done (acceptor_of route) (hear (acceptor_of route) (event.Opened (length l)) s1)).state).state) has.links
    ∙ ap (λ (h : AfterHearing). (answer end n (done (acceptor_of route) h).state).state) (opens s1 has.stand has.moment has.left)
    ∙ ap (λ (o : Option OpenLink). (answer_by o end n s2).state) (ap (λ (o : OpenMap). lookup same_number n o) open_is ∙ found)
    ∙ ap (λ (h : AfterHearing). (done end h).state) (dialled s3 refl has.moment refl)
    ∙ performed_quietly end actions s4 none_close in
    subst (λ (t : State). HasTraffic t after (acted_on end actions v.left (with_route route dials v))) (sym is) (record {
      stand = leaves.ends;
      links = leaves.links ∙ ap (λ (l : List Route). l ++ route ∷ []) has.links;
      opened = leaves.opened ∙ ap (λ (o : OpenMap). put same_number n (answered (accepted route)) o) open_is;
      units = leaves.units ∙ ap₂ (λ (u : List BagUnit) (l : List Route). u ++ units_sent (l ++ route ∷ []) end actions) has.units has.links;
      dials = leaves.dials ∙ ap (λ (d : List WaitingDial). drop 1 d ++ dials_made end actions) (has.dials ∙ waits);
      left = ap (λ (c : Drawing). c.left) leaves.left;
      moment = leaves.moment ∙ has.moment;
    })

fails_on : (s : State) (ends after : EndStates) (v : Traffic) (end : EndId) (peer : List ℕ) (dials : List WaitingDial) (rest : List (List ℕ)) (actions : List Action) →
    HasTraffic s ends v → v.dials ≡ record { end = end; peer = peer } ∷ dials → route_to end (end_of_peer peer ends) ≡ None → AllByRecursion IsNoClose actions →
    Hears end event.DialFailed v.moment ends after v.left rest actions →
    HasTraffic (connect s).state after (acted_on end actions rest (record v { dials = dials }))
fails_on s ends after v end peer dials rest actions has waits reaches none_close hears =
    let s1 : State = without_first s in
    let s2 : State = (after_hearing after rest actions s1).state in
    let s3 : State = perform_all_quietly end actions s2 in
    let leaves : Leaves end actions s2 s3 = quietly_leave end actions s2 in
    let is : (connect s).state ≡ s3 =
    ap (λ (d : List WaitingDial). (connect_first (slice_get d 0) s1).state) (has.dials ∙ waits)
    ∙ ap (λ (r : Option Route). (connect_by r end s1).state) (ap (λ (e : EndStates). route_to end (end_of_peer peer e)) has.stand ∙ reaches)
    ∙ ap (λ (h : AfterHearing). (done end h).state) (hears s1 has.stand has.moment has.left)
    ∙ performed_quietly end actions s2 none_close in
    subst (λ (t : State). HasTraffic t after (acted_on end actions rest (record v { dials = dials }))) (sym is) (record {
      stand = leaves.ends;
      links = leaves.links ∙ has.links;
      opened = leaves.opened ∙ has.opened;
      units = leaves.units ∙ ap₂ (λ (u : List BagUnit) (l : List Route). u ++ units_sent l end actions) has.units has.links;
      dials = leaves.dials ∙ ap (λ (d : List WaitingDial). drop 1 d ++ dials_made end actions) (has.dials ∙ waits);
      left = ap (λ (c : Drawing). c.left) leaves.left;
      moment = leaves.moment ∙ has.moment;
    })

pub traffic_goes_on : TrafficGoesOn
traffic_goes_on = record {
  controller = controller_hears;
  comes = comes_on;
  closes = closes_on;
  dials = dials_on;
  fails = fails_on;
  ticks = λ s ends v more has. record {
    stand = has.stand;
    links = has.links;
    opened = has.opened;
    units = has.units;
    dials = has.dials;
    left = has.left;
    moment = ap (moment_after more) has.moment;
  };
}
