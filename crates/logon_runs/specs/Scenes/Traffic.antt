-- What waits in a world, and what is open, whatever its ends are; and what becomes of it and of the ends at the moves
-- between which nothing is lost (this project's own choice). An end's step is given, and every other end stays.
use Rattle.std.specs.Prelude.{ℕ, ◌≡◌, ◌≤◌, ◌<◌, List, [], ◌∷◌, ◌++◌, length, None, Some, slice_get}
use Rattle.std.specs.List.{AllByRecursion}
use Rattle.wire_base.specs.Maps.{lookup, put, same_number, take_out}
use Rattle.outside.specs.declared.action.Action.{Action}
use Rattle.outside.specs.declared.action.Action.TheVariants as action
use Rattle.outside.specs.declared.action.CloseCause.{CloseCause}
use Rattle.outside.specs.declared.event.Event.{Event}
use Rattle.outside.specs.declared.event.Event.TheVariants as event
use Rattle.outside.specs.Machine.{whole_step}
use Rattle.domain_controller.specs.State.{State as ControllerState}
use Rattle.domain_controller.specs.TrustStep.{trust_step_of}
use Rattle.world_moves.specs.declared.bag.BagUnit.{BagUnit}
use Rattle.world_moves.specs.declared.links.EndId.{EndId}
use Rattle.world_moves.specs.declared.links.EndId.TheVariants.{Controller}
use Rattle.world_moves.specs.declared.links.OpenLink.{OpenLink}
use Rattle.world_moves.specs.declared.links.Route.{Route}
use Rattle.world_moves.specs.declared.state.State.{State}
use Rattle.world_moves.specs.declared.state.WaitingDial.{WaitingDial}
use Rattle.world_moves.specs.Acting.{hear}
use Rattle.world_moves.specs.Ends.{EndStates}
use Rattle.world_moves.specs.Links.{OpenMap, accepted, acceptor_of, answered, hearer_on, other_hearer}
use Rattle.world_moves.specs.Moving.{connect, end_of_peer, onward, route_to, tick, moment_after}
use Rattle.logon_runs.specs.Scenes.Scene.{IsNoClose, dials_made, units_sent}
use Rattle.logon_runs.specs.Scenes.WaitingUnits.{after_hearing, waiting, with_controller_at}

-- ---- what is under way

-- all links, those that are open, the units and the dials that wait, the challenges that are left, and the moment
pub record Traffic : Type 0 where
  pub links : List Route
  pub opened : OpenMap
  pub units : List BagUnit
  pub dials : List WaitingDial
  pub left : List (List ℕ)
  pub moment : ℕ

-- the world has these ends, and that is under way in it
pub record HasTraffic (s : State) (ends : EndStates) (v : Traffic) : Type 0 where
  pub stand : s.ends ≡ ends
  pub links : s.links ≡ v.links
  pub opened : s.open_links ≡ v.opened
  pub units : waiting s.bag ≡ v.units
  pub dials : s.dials ≡ v.dials
  pub left : s.chances.left ≡ v.left
  pub moment : s.moment ≡ v.moment

-- what is under way once an end has acted, with the challenges that are left
abbrev pub acted_on : (end : EndId) (actions : List Action) (left : List (List ℕ)) → Traffic → Traffic
acted_on end actions left v = record v {
  units = v.units ++ units_sent v.links end actions;
  dials = v.dials ++ dials_made end actions;
  left = left;
}

abbrev pub with_units : List BagUnit → Traffic → Traffic
with_units units v = record v { units = units }

-- what is under way once the link is open no more
abbrev pub without_link : ℕ → Traffic → Traffic
without_link link v = record v { opened = take_out same_number link v.opened }

-- what is under way once the first dial waits no more, and there is a new link of that route, open at both sides
abbrev pub with_route : Route → List WaitingDial → Traffic → Traffic
with_route route dials v = record v {
  links = v.links ++ route ∷ [];
  opened = put same_number (length v.links) (answered (accepted route)) (v.opened ++ (length v.links, accepted route) ∷ []);
  dials = dials;
}

-- ---- who hears

-- the oldest unit comes at that end, and these are behind it
pub record IsFirst (v : Traffic) (unit : BagUnit) (later : List BagUnit) (end : EndId) : Type 0 where
  pub units : v.units ≡ unit ∷ later
  pub some : 0 < length unit.bytes
  pub short : length unit.bytes ≤ 65536
  pub there : OpenLink
  pub found : lookup same_number unit.link v.opened ≡ Some there
  pub hearer : hearer_on unit.back there ≡ Some end

-- the link is open, and that other end is at its other side
pub record IsShutBy (v : Traffic) (end other : EndId) (link : ℕ) : Type 0 where
  pub there : OpenLink
  pub found : lookup same_number link v.opened ≡ Some there
  pub side : other_hearer end there ≡ Some other

-- what an end makes of what it hears among these ends, at a moment and with the challenges that are left: it leaves the
-- ends `later` and the challenges `rest`, and does these actions
abbrev pub Hears : (end : EndId) (what : Event) (moment : ℕ) (ends later : EndStates) (left rest : List (List ℕ)) (actions : List Action) → Type 0
Hears end what moment ends later left rest actions =
    (s : State) → s.ends ≡ ends → s.moment ≡ moment → s.chances.left ≡ left → hear end what s ≡ after_hearing later rest actions s

-- ---- what becomes of it

pub record TrafficGoesOn : Type 0 where
  -- a controller that can't seal steps by its trusts
  pub controller : (ends : EndStates) (at : ℕ) (controller after : ControllerState) (what : Event) (moment : ℕ) (left rest : List (List ℕ)) (actions : List Action) →
      slice_get ends.controllers at ≡ Some controller → controller.trusting.sealing ≡ None →
      trust_step_of controller what moment left ≡ whole_step left rest actions after →
      Hears (Controller at) what moment ends (with_controller_at at after ends) left rest actions
  -- a unit comes
  pub comes : (s : State) (ends after : EndStates) (v : Traffic) (unit : BagUnit) (later : List BagUnit) (end : EndId) (rest : List (List ℕ)) (actions : List Action) →
      HasTraffic s ends v → IsFirst v unit later end → AllByRecursion IsNoClose actions →
      Hears end (event.Bytes unit.link unit.bytes) v.moment ends after v.left rest actions →
      HasTraffic (onward s).state after (acted_on end actions rest (with_units later v))
  -- a unit comes after which a link is closed: the end at its other side hears of it, and does nothing
  pub closes : (s : State) (ends between after : EndStates) (v : Traffic) (unit : BagUnit) (later : List BagUnit) (end other : EndId) (link : ℕ) (cause : CloseCause)
      (rest : List (List ℕ)) (actions : List Action) → HasTraffic s ends v → IsFirst v unit later end → IsShutBy v end other link → AllByRecursion IsNoClose actions →
      Hears end (event.Bytes unit.link unit.bytes) v.moment ends between v.left rest (action.Close link cause ∷ actions) →
      Hears other (event.Closed link) v.moment between after rest rest [] →
      HasTraffic (onward s).state after (acted_on end actions rest (without_link link (with_units later v)))
  -- the first dial is answered: the end that is reached hears that a link opens, and does nothing
  pub dials : (s : State) (ends between after : EndStates) (v : Traffic) (end : EndId) (peer : List ℕ) (dials : List WaitingDial) (route : Route) (actions : List Action) →
      HasTraffic s ends v → v.dials ≡ record { end = end; peer = peer } ∷ dials → route_to end (end_of_peer peer ends) ≡ Some route →
      lookup same_number (length v.links) (v.opened ++ (length v.links, accepted route) ∷ []) ≡ Some (accepted route) → AllByRecursion IsNoClose actions →
      Hears (acceptor_of route) (event.Opened (length v.links)) v.moment ends between v.left v.left [] →
      Hears end (event.Dialled (length v.links)) v.moment between after v.left v.left actions →
      HasTraffic (connect s).state after (acted_on end actions v.left (with_route route dials v))
  -- the first dial fails where nobody is reached
  pub fails : (s : State) (ends after : EndStates) (v : Traffic) (end : EndId) (peer : List ℕ) (dials : List WaitingDial) (rest : List (List ℕ)) (actions : List Action) →
      HasTraffic s ends v → v.dials ≡ record { end = end; peer = peer } ∷ dials → route_to end (end_of_peer peer ends) ≡ None → AllByRecursion IsNoClose actions →
      Hears end event.DialFailed v.moment ends after v.left rest actions →
      HasTraffic (connect s).state after (acted_on end actions rest (record v { dials = dials }))
  -- time passes
  pub ticks : (s : State) (ends : EndStates) (v : Traffic) (more : ℕ) → HasTraffic s ends v → HasTraffic (tick more s) ends (record v { moment = moment_after more v.moment })
