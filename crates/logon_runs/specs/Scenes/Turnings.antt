-- What comes of a unit after which a link is closed, and of a dial that is answered, as it is seen
-- of a scene (this project's own choice).
use Rattle.std.specs.Prelude.{ℕ, ◌≡◌, List, [], ◌∷◌, ◌++◌, length, Some}
use Rattle.std.specs.List.{AllByRecursion}
use Rattle.wire_base.specs.Maps.{lookup, put, same_number, take_out}
use Rattle.outside.specs.declared.action.Action.{Action}
use Rattle.outside.specs.declared.action.Action.TheVariants as action
use Rattle.outside.specs.declared.action.CloseCause.{CloseCause}
use Rattle.outside.specs.declared.event.Event.TheVariants as event
use Rattle.outside.specs.Machine.{whole_step}
use Rattle.domain_controller.specs.State.{State as ControllerState}
use Rattle.domain_controller.specs.TrustStep.{trust_step_of as controller_step_of}
use Rattle.logon_client.specs.State.{State as ClientState}
use Rattle.logon_client.specs.Machine.{step_of as client_step_of}
use Rattle.member_server.specs.State.{State as MemberState}
use Rattle.member_server.specs.Machine.{step_of as member_step_of}
use Rattle.world_moves.specs.declared.bag.BagUnit.{BagUnit}
use Rattle.world_moves.specs.declared.links.EndId.{EndId}
use Rattle.world_moves.specs.declared.links.EndId.TheVariants.{Controller, Member, Client}
use Rattle.world_moves.specs.declared.links.OpenLink.{OpenLink}
use Rattle.world_moves.specs.declared.links.Route.{Route}
use Rattle.world_moves.specs.declared.links.Route.TheVariants.{ToMember, ToController}
use Rattle.world_moves.specs.declared.state.State.{State}
use Rattle.world_moves.specs.declared.state.WaitingDial.{WaitingDial}
use Rattle.world_moves.specs.Links.{accepted, answered, other_hearer}
use Rattle.world_moves.specs.Moving.{connect, end_of_peer, onward, tick, moment_after}
use Rattle.logon_runs.specs.Scenes.Scene.{HasFirst, IsNoClose, Scene, Shows, with_actions}

-- the link is open, and that end is at its other side
pub record ClosesTo (v : Scene) (end other : EndId) (link : ℕ) : Type 0 where
  pub there : OpenLink
  pub found : lookup same_number link v.opened ≡ Some there
  pub side : other_hearer end there ≡ Some other

-- the link is open no more
abbrev pub shut_in : ℕ → Scene → Scene
shut_in link v = record v { opened = take_out same_number link v.opened }

-- the scene without its first dial, and with a new link on which that route was taken
abbrev pub connect_route : Route → List WaitingDial → Scene → Scene
connect_route route dials v = record v {
  links = v.links ++ route ∷ [];
  opened = put same_number (length v.links) (answered (accepted route)) (v.opened ++ (length v.links, accepted route) ∷ []);
  dials = dials;
}

-- the new link is found among those that are open
abbrev pub IsFound : Route → Scene → Type 0
IsFound route v = lookup same_number (length v.links) (v.opened ++ (length v.links, accepted route) ∷ []) ≡ Some (accepted route)

pub record ScenesTurn : Type 0 where
  -- a member closes the link of its turn, or a client its own, and then does other things
  pub member_closes : (s : State) (v : Scene) (unit : BagUnit) (later : List BagUnit) (after : MemberState) (controller : ControllerState) (left : List (List ℕ)) (link : ℕ)
      (cause : CloseCause) (actions : List Action) → Shows s v → HasFirst v unit later (Member v.at_member) →
      ClosesTo v (Member v.at_member) (Controller v.at_controller) link → AllByRecursion IsNoClose actions →
      member_step_of v.member (event.Bytes unit.link unit.bytes) v.moment v.left ≡ whole_step v.left left (action.Close link cause ∷ actions) after →
      controller_step_of v.controller (event.Closed link) v.moment left ≡ whole_step left left [] controller →
      Shows (onward s).state (with_actions (Member v.at_member) actions left (shut_in link (record v { member = after; controller = controller; units = later })))
  pub client_closes : (s : State) (v : Scene) (unit : BagUnit) (later : List BagUnit) (after : ClientState) (member : MemberState) (left : List (List ℕ)) (link : ℕ)
      (cause : CloseCause) (actions : List Action) → Shows s v → HasFirst v unit later (Client v.at_client) →
      ClosesTo v (Client v.at_client) (Member v.at_member) link → AllByRecursion IsNoClose actions →
      client_step_of v.client (event.Bytes unit.link unit.bytes) v.moment v.left ≡ whole_step v.left left (action.Close link cause ∷ actions) after →
      member_step_of v.member (event.Closed link) v.moment left ≡ whole_step left left [] member →
      Shows (onward s).state (with_actions (Client v.at_client) actions left (shut_in link (record v { client = after; member = member; units = later })))
  -- a dial is answered: of a client by its member, and of a member by its controller
  pub client_dials : (s : State) (v : Scene) (peer : List ℕ) (dials : List WaitingDial) (after : ClientState) (member : MemberState) (actions : List Action) → Shows s v →
      v.dials ≡ record { end = Client v.at_client; peer = peer } ∷ dials → end_of_peer peer s.ends ≡ Some (Member v.at_member) →
      IsFound (ToMember v.at_client v.at_member) v → AllByRecursion IsNoClose actions →
      member_step_of v.member (event.Opened (length v.links)) v.moment v.left ≡ whole_step v.left v.left [] member →
      client_step_of v.client (event.Dialled (length v.links)) v.moment v.left ≡ whole_step v.left v.left actions after →
      Shows (connect s).state (with_actions (Client v.at_client) actions v.left (connect_route (ToMember v.at_client v.at_member) dials (record v { client = after; member = member })))
  pub member_dials : (s : State) (v : Scene) (peer : List ℕ) (dials : List WaitingDial) (after : MemberState) (controller : ControllerState) (actions : List Action) → Shows s v →
      v.dials ≡ record { end = Member v.at_member; peer = peer } ∷ dials → end_of_peer peer s.ends ≡ Some (Controller v.at_controller) →
      IsFound (ToController v.at_member v.at_controller) v → AllByRecursion IsNoClose actions →
      controller_step_of v.controller (event.Opened (length v.links)) v.moment v.left ≡ whole_step v.left v.left [] controller →
      member_step_of v.member (event.Dialled (length v.links)) v.moment v.left ≡ whole_step v.left v.left actions after →
      Shows (connect s).state (with_actions (Member v.at_member) actions v.left (connect_route (ToController v.at_member v.at_controller) dials (record v { member = after; controller = controller })))
  -- time passes
  pub ticks : (s : State) (v : Scene) (more : ℕ) → Shows s v → Shows (tick more s) (record v { moment = moment_after more v.moment })
