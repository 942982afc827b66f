-- What is seen of a world while one logon goes on: a client, a member and a controller, what waits,
-- and what is open (this project's own choice). Nothing else of the world has to be known to say
-- what comes of a move.
use Rattle.std.specs.Prelude.{ℕ, ◌≡◌, ◌≤◌, ◌<◌, List, [], ◌∷◌, ◌++◌, length, None, Some, slice_get}
use Rattle.std.specs.List.{AllByRecursion}
use Rattle.wire_base.specs.Maps.{lookup, same_number}
use Rattle.outside.specs.declared.action.Action.{Action}
use Rattle.outside.specs.declared.action.Action.TheVariants as action
use Rattle.outside.specs.declared.event.Event.TheVariants as event
use Rattle.outside.specs.Machine.{whole_step}
use Rattle.domain_controller.specs.State.{State as ControllerState}
use Rattle.domain_controller.specs.TrustStep.{trust_step_of as controller_step_of}
use Rattle.logon_client.specs.State.{State as ClientState}
use Rattle.logon_client.specs.Machine.{step_of as client_step_of}
use Rattle.member_server.specs.SealStep.{SealsNothing}
use Rattle.member_server.specs.State.{State as MemberState}
use Rattle.member_server.specs.Machine.{step_of as member_step_of}
use Rattle.world_moves.specs.declared.bag.BagUnit.{BagUnit}
use Rattle.world_moves.specs.declared.links.EndId.{EndId}
use Rattle.world_moves.specs.declared.links.EndId.TheVariants.{Controller, Member, Client}
use Rattle.world_moves.specs.declared.links.OpenLink.{OpenLink}
use Rattle.world_moves.specs.declared.links.Route.{Route}
use Rattle.world_moves.specs.declared.state.State.{State}
use Rattle.world_moves.specs.declared.state.WaitingDial.{WaitingDial}
use Rattle.world_moves.specs.Links.{OpenMap, hearer_on}
use Rattle.world_moves.specs.Moving.{onward}
use Rattle.world_moves.specs.Acting.{dials_of_action, units_of_action}
use Rattle.logon_runs.specs.Scenes.WaitingUnits.{waiting}

-- a scene: one client, one member and one controller, and what is under way between them
pub record Scene : Type 0 where
  -- which ends, and how far they are
  pub at_client : ℕ
  pub at_member : ℕ
  pub at_controller : ℕ
  pub client : ClientState
  pub member : MemberState
  pub controller : ControllerState
  -- all links, those that are open, the units and the dials that wait
  pub links : List Route
  pub opened : OpenMap
  pub units : List BagUnit
  pub dials : List WaitingDial
  -- the challenges that are left, and the moment
  pub left : List (List ℕ)
  pub moment : ℕ

-- the state looks so
pub record Shows (s : State) (v : Scene) : Type 0 where
  pub client : slice_get s.ends.clients v.at_client ≡ Some v.client
  pub member : slice_get s.ends.members v.at_member ≡ Some v.member
  pub controller : slice_get s.ends.controllers v.at_controller ≡ Some v.controller
  -- neither it nor the member's channel seals anything
  pub unsealed : v.controller.trusting.sealing ≡ None
  pub plain : SealsNothing v.member
  pub links : s.links ≡ v.links
  pub opened : s.open_links ≡ v.opened
  pub units : waiting s.bag ≡ v.units
  pub dials : s.dials ≡ v.dials
  pub left : s.chances.left ≡ v.left
  pub moment : s.moment ≡ v.moment

-- ---- what actions leave that close nothing

-- the units that actions send, in order
abbrev pub units_sent : List Route → EndId → List Action → List BagUnit
units_sent links end [] = []
units_sent links end (what ∷ actions) = units_of_action links end what ++ units_sent links end actions

-- the dials that actions make, in order
abbrev pub dials_made : EndId → List Action → List WaitingDial
dials_made end [] = []
dials_made end (what ∷ actions) = dials_of_action end what ++ dials_made end actions

-- an action that isn't `Close`
abbrev pub IsNoClose : Action → Type 0
IsNoClose (action.Close link cause) = ⊥
IsNoClose _ = Unit {0}

-- the scene after the actions of an end, with the challenges that are left
abbrev pub with_actions : EndId → List Action → List (List ℕ) → Scene → Scene
with_actions end actions left v = record v {
  units = v.units ++ units_sent v.links end actions;
  dials = v.dials ++ dials_made end actions;
  left = left;
}

-- ---- what an end hears, where it closes nothing then

abbrev pub client_now : ClientState → Scene → Scene
client_now client v = record v { client = client }

abbrev pub member_now : MemberState → Scene → Scene
member_now member v = record v { member = member }

abbrev pub controller_now : ControllerState → Scene → Scene
controller_now controller v = record v { controller = controller }

-- the oldest unit, and the scene once it counts as delivered
pub record HasFirst (v : Scene) (unit : BagUnit) (later : List BagUnit) (end : EndId) : Type 0 where
  pub units : v.units ≡ unit ∷ later
  pub some : 0 < length unit.bytes
  pub short : length unit.bytes ≤ 65536
  pub there : OpenLink
  pub found : lookup same_number unit.link v.opened ≡ Some there
  pub hearer : hearer_on unit.back there ≡ Some end

-- a scene in which these units wait
abbrev pub without_unit : List BagUnit → Scene → Scene
without_unit later v = record v { units = later }

pub record ScenesGoOn : Type 0 where
  pub to_client : (s : State) (v : Scene) (unit : BagUnit) (later : List BagUnit) (after : ClientState) (left : List (List ℕ)) (actions : List Action) → Shows s v →
      HasFirst v unit later (Client v.at_client) → AllByRecursion IsNoClose actions →
      client_step_of v.client (event.Bytes unit.link unit.bytes) v.moment v.left ≡ whole_step v.left left actions after →
      Shows (onward s).state (with_actions (Client v.at_client) actions left (client_now after (without_unit later v)))
  pub to_member : (s : State) (v : Scene) (unit : BagUnit) (later : List BagUnit) (after : MemberState) (left : List (List ℕ)) (actions : List Action) → Shows s v →
      HasFirst v unit later (Member v.at_member) → AllByRecursion IsNoClose actions →
      member_step_of v.member (event.Bytes unit.link unit.bytes) v.moment v.left ≡ whole_step v.left left actions after →
      Shows (onward s).state (with_actions (Member v.at_member) actions left (member_now after (without_unit later v)))
  pub to_controller : (s : State) (v : Scene) (unit : BagUnit) (later : List BagUnit) (after : ControllerState) (left : List (List ℕ)) (actions : List Action) → Shows s v →
      HasFirst v unit later (Controller v.at_controller) → AllByRecursion IsNoClose actions →
      controller_step_of v.controller (event.Bytes unit.link unit.bytes) v.moment v.left ≡ whole_step v.left left actions after →
      Shows (onward s).state (with_actions (Controller v.at_controller) actions left (controller_now after (without_unit later v)))
