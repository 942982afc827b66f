-- What waits in a world, and what comes of it at the moves between which nothing is lost (this
-- project's own choice).
use Rattle.std.specs.Prelude.{ℕ, ◌≡◌, ◌≤◌, ◌<◌, false, List, [], ◌∷◌, ◌++◌, filter, length, Some, None, slice_get, slice_set, true}
use Rattle.wire_base.specs.Maps.{lookup, same_number}
use Rattle.outside.specs.declared.action.Action.{Action}
use Rattle.outside.specs.declared.action.Action.TheVariants as action
use Rattle.outside.specs.declared.event.Event.{Event}
use Rattle.outside.specs.declared.event.Event.TheVariants as event
use Rattle.outside.specs.Drawing.{draws_between}
use Rattle.outside.specs.Machine.{whole_step}
use Rattle.domain_controller.specs.State.{State as ControllerState}
use Rattle.domain_controller.specs.TrustStep.{trust_step_of as controller_step_of}
use Rattle.logon_client.specs.State.{State as ClientState}
use Rattle.logon_client.specs.Machine.{step_of as client_step_of}
use Rattle.member_server.specs.SealStep.{SealsNothing}
use Rattle.member_server.specs.State.{State as MemberState}
use Rattle.member_server.specs.Machine.{step_of as member_step_of}
use Rattle.world_moves.specs.declared.bag.BagUnit.{BagUnit}
use Rattle.world_moves.specs.declared.links.EndId.{EndId}
use Rattle.world_moves.specs.declared.links.EndId.TheVariants.{Controller, Member, Client}
use Rattle.world_moves.specs.declared.links.OpenLink.{OpenLink}
use Rattle.world_moves.specs.declared.links.Route.{Route}
use Rattle.world_moves.specs.declared.state.State.{State}
use Rattle.world_moves.specs.Acting.{AfterHearing, hear, hear_and_act, nothing_done, perform, unit_on}
use Rattle.world_moves.specs.Bag.{first_waiting, is_waiting, settle_at}
use Rattle.world_moves.specs.Counting.{add_counts, counts_of}
use Rattle.world_moves.specs.Ends.{EndStates, drawn_on}
use Rattle.world_moves.specs.Links.{hearer_on, is_own, kind_of}
use Rattle.world_moves.specs.Moving.{onward, settle}

-- the units that are neither delivered nor lost, in order
abbrev pub waiting : List BagUnit → List BagUnit
waiting bag = filter is_waiting bag

-- the oldest of them, and those behind it once it counts as delivered
pub record IsOldest (bag : List BagUnit) (unit : BagUnit) (later : List BagUnit) : Type 0 where
  pub number : ℕ
  pub first : first_waiting bag ≡ Some number
  pub there : slice_get bag number ≡ Some unit
  pub behind : waiting (settle_at number bag) ≡ later

-- a unit that waits comes at that end
pub record Comes (s : State) (unit : BagUnit) (later : List BagUnit) (end : EndId) : Type 0 where
  pub number : ℕ
  pub state : (onward s).state ≡ (hear_and_act end (event.Bytes unit.link unit.bytes) (settle number s)).state
  pub given : (onward s).given ≡ (hear_and_act end (event.Bytes unit.link unit.bytes) (settle number s)).given
  pub behind : waiting (settle number s).bag ≡ later

-- the ends with one of them changed
abbrev pub with_controller_at : ℕ → ControllerState → EndStates → EndStates
with_controller_at at controller ends = record ends { controllers = slice_set ends.controllers at controller }

abbrev pub with_member_at : ℕ → MemberState → EndStates → EndStates
with_member_at at member ends = record ends { members = slice_set ends.members at member }

abbrev pub with_client_at : ℕ → ClientState → EndStates → EndStates
with_client_at at client ends = record ends { clients = slice_set ends.clients at client }

-- the world once an end has heard something, before its actions are done
abbrev pub after_hearing : EndStates → List (List ℕ) → List Action → State → AfterHearing
after_hearing ends left actions s = record {
  state = record s {
    ends = ends;
    chances = drawn_on s.chances (draws_between s.chances.left left) left;
    counts = add_counts s.counts (counts_of actions);
  };
  actions = actions;
}

-- the unit is in the bag, behind the others
abbrev pub with_unit : BagUnit → State → State
with_unit unit s = record s { bag = s.bag ++ unit ∷ [] }

pub record WaitingComes : Type 0 where
  -- nothing waits, or the oldest unit does
  pub none : (bag : List BagUnit) → waiting bag ≡ [] → first_waiting bag ≡ None
  pub nothing : (bag : List BagUnit) → first_waiting bag ≡ None → waiting bag ≡ []
  pub oldest : (bag : List BagUnit) (unit : BagUnit) (later : List BagUnit) → waiting bag ≡ unit ∷ later → IsOldest bag unit later
  -- a unit that is sent waits behind the others
  pub added : (bag : List BagUnit) (unit : BagUnit) → unit.is_settled ≡ false → waiting (bag ++ unit ∷ []) ≡ waiting bag ++ unit ∷ []
  -- where one waits it comes, and else the move finds nothing to do
  pub comes : (s : State) (unit : BagUnit) (later : List BagUnit) (there : OpenLink) (end : EndId) → waiting s.bag ≡ unit ∷ later → 0 < length unit.bytes →
      length unit.bytes ≤ 65536 → lookup same_number unit.link s.open_links ≡ Some there → hearer_on unit.back there ≡ Some end → Comes s unit later end
  pub idle : (s : State) → waiting s.bag ≡ [] → onward s ≡ nothing_done s
  -- what an end makes of what it hears, where neither a controller nor a member's channel can seal
  pub controller : (s : State) (at : ℕ) (controller after : ControllerState) (what : Event) (left : List (List ℕ)) (actions : List Action) →
      slice_get s.ends.controllers at ≡ Some controller → controller.trusting.sealing ≡ None →
      controller_step_of controller what s.moment s.chances.left ≡ whole_step s.chances.left left actions after →
      hear (Controller at) what s ≡ after_hearing (with_controller_at at after s.ends) left actions s
  pub member : (s : State) (at : ℕ) (member after : MemberState) (what : Event) (left : List (List ℕ)) (actions : List Action) →
      slice_get s.ends.members at ≡ Some member → SealsNothing member →
      member_step_of member what s.moment s.chances.left ≡ whole_step s.chances.left left actions after →
      hear (Member at) what s ≡ after_hearing (with_member_at at after s.ends) left actions s
  pub client : (s : State) (at : ℕ) (client after : ClientState) (what : Event) (left : List (List ℕ)) (actions : List Action) →
      slice_get s.ends.clients at ≡ Some client → client_step_of client what s.moment s.chances.left ≡ whole_step s.chances.left left actions after →
      hear (Client at) what s ≡ after_hearing (with_client_at at after s.ends) left actions s
  -- a unit goes into the bag on a link between own ends
  pub sent : (s : State) (end : EndId) (link : ℕ) (route : Route) (bytes : List ℕ) → slice_get s.links link ≡ Some route → is_own (kind_of route) ≡ true →
      perform end (action.Send link bytes) s ≡ nothing_done (with_unit (unit_on route end link bytes) s)
