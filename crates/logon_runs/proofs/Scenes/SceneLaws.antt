-- What comes of a unit at a scene's ends.
-- Of `scenes_go_on`.
use Rattle.std.proofs.Common.{◌≡◌, ℕ, List, [], ◌∷◌, ◌++◌, Option, Some, None, refl, sym, ap, ap₂, subst, ◌∙◌, append-nil, append_assoc, slice_get}
use Rattle.std.specs.List.{AllByRecursion}
use Rattle.wire_base.specs.Maps.{lookup, same_number}
use Rattle.outside.specs.declared.action.Action.{Action}
use Rattle.outside.specs.declared.action.Action.TheVariants as action
use Rattle.outside.specs.declared.event.Event.TheVariants as event
use Rattle.outside.specs.Drawing.{Drawing}
use Rattle.outside.specs.Machine.{whole_step}
use Rattle.domain_controller.specs.State.{State as ControllerState}
use Rattle.domain_controller.specs.TrustStep.{trust_step_of as controller_step_of}
use Rattle.domain_controller.proofs.TurnOutLaws.{got_set}
use Rattle.logon_client.specs.State.{State as ClientState}
use Rattle.logon_client.specs.Machine.{step_of as client_step_of}
use Rattle.member_server.specs.SealStep.{SealsNothing}
use Rattle.member_server.specs.State.{State as MemberState}
use Rattle.member_server.specs.Machine.{step_of as member_step_of}
use Rattle.world_moves.specs.declared.bag.BagUnit.{BagUnit}
use Rattle.world_moves.specs.declared.links.EndId.{EndId}
use Rattle.world_moves.specs.declared.links.EndId.TheVariants.{Controller, Member, Client}
use Rattle.world_moves.specs.declared.links.Route.{Route}
use Rattle.world_moves.specs.declared.state.State.{State}
use Rattle.world_moves.specs.declared.state.WaitingDial.{WaitingDial}
use Rattle.world_moves.specs.Acting.{AfterHearing, dials_of_action, done, hear, link_closed, perform_all, perform_all_quietly, perform_by, perform_quietly, unit_on, units_of_action}
use Rattle.world_moves.specs.Ends.{EndStates}
use Rattle.world_moves.specs.Links.{OpenMap}
use Rattle.world_moves.specs.Moving.{onward, settle}
use Rattle.world_moves.proofs.QuietLaws.{units_by}
use Rattle.logon_runs.specs.Scenes.Scene.{HasFirst, IsNoClose, Scene, ScenesGoOn, Shows, dials_made, units_sent, with_actions}
use Rattle.logon_runs.specs.Scenes.WaitingUnits.{Comes, after_hearing, waiting, with_client_at, with_controller_at, with_member_at}
use Rattle.logon_runs.proofs.Scenes.WaitingLaws.{unsealed_after, plain_after, waiting_comes}

-- ---- lists of ends

-- ---- actions that close nothing

closes_none : (what : Action) → IsNoClose what → link_closed what ≡ None
closes_none (action.Keep bytes) none = refl
closes_none (action.Send link bytes) none = refl
closes_none (action.Dial peer) none = refl
closes_none (action.Close link cause) none = absurd none
closes_none (action.Told link what) none = refl
closes_none (action.Judged how) none = refl

pub performed_quietly : (end : EndId) (actions : List Action) (s : State) → AllByRecursion IsNoClose actions → (perform_all end actions s).state ≡ perform_all_quietly end actions s
performed_quietly end [] s none_close = refl
performed_quietly end (what ∷ actions) s none_close =
    ap (λ (closed : Option ℕ). (perform_all end actions (perform_by closed end what s).state).state) (closes_none what none_close.0)
    ∙ performed_quietly end actions (perform_quietly end what s) none_close.1

-- what they change
pub record Leaves (end : EndId) (actions : List Action) (s after : State) : Type 0 where
  pub ends : after.ends ≡ s.ends
  pub links : after.links ≡ s.links
  pub opened : after.open_links ≡ s.open_links
  pub units : waiting after.bag ≡ waiting s.bag ++ units_sent s.links end actions
  pub dials : after.dials ≡ s.dials ++ dials_made end actions
  pub left : after.chances ≡ s.chances
  pub moment : after.moment ≡ s.moment

-- the units that an action sends wait behind the others
pub sends_leave : (end : EndId) (what : Action) (s : State) → waiting (perform_quietly end what s).bag ≡ waiting s.bag ++ units_of_action s.links end what
sends_leave end what s =
    units_by (λ (units : List BagUnit). waiting (s.bag ++ units) ≡ waiting s.bag ++ units) s.links end what
    (ap (λ (bag : List BagUnit). waiting bag) (append-nil s.bag) ∙ sym (append-nil (waiting s.bag)))
    (λ link bytes route sends made own. waiting_comes.added s.bag (unit_on route end link bytes) refl)

-- one more before the others
more_leave : (end : EndId) (what : Action) (actions : List Action) (s after : State) → Leaves end actions (perform_quietly end what s) after → Leaves end (what ∷ actions) s after
more_leave end what actions s after leaves = record {
  ends = leaves.ends;
  links = leaves.links;
  opened = leaves.opened;
  units = leaves.units ∙ ap (λ (u : List BagUnit). u ++ units_sent s.links end actions) (sends_leave end what s)
      ∙ append_assoc (waiting s.bag) (units_of_action s.links end what) (units_sent s.links end actions);
  dials = leaves.dials ∙ append_assoc s.dials (dials_of_action end what) (dials_made end actions);
  left = leaves.left;
  moment = leaves.moment;
}

pub quietly_leave : (end : EndId) (actions : List Action) (s : State) → Leaves end actions s (perform_all_quietly end actions s)
quietly_leave end [] s = record {
  ends = refl;
  links = refl;
  opened = refl;
  units = sym (append-nil (waiting s.bag));
  dials = sym (append-nil s.dials);
  left = refl;
  moment = refl;
}
quietly_leave end (what ∷ actions) s =
    more_leave end what actions s (perform_all_quietly end actions (perform_quietly end what s)) (quietly_leave end actions (perform_quietly end what s))

-- ---- a unit comes, and what its end then does is done

abbrev seen : ClientState → MemberState → ControllerState → List BagUnit → Scene → Scene
seen client member controller units v = record v { client = client; member = member; controller = controller; units = units }

lands : (s : State) (v : Scene) (unit : BagUnit) (later : List BagUnit) (end : EndId) (ends : EndStates) (left : List (List ℕ)) (actions : List Action)
    (client : ClientState) (member : MemberState) (controller : ControllerState) → Shows s v → (comes : Comes s unit later end) → AllByRecursion IsNoClose actions →
    hear end (event.Bytes unit.link unit.bytes) (settle comes.number s) ≡ after_hearing ends left actions (settle comes.number s) →
    slice_get ends.clients v.at_client ≡ Some client → slice_get ends.members v.at_member ≡ Some member → slice_get ends.controllers v.at_controller ≡ Some controller → controller.trusting.sealing ≡ None → SealsNothing member →
    Shows (onward s).state (with_actions end actions left (seen client member controller later v))
lands s v unit later end ends left actions client member controller shows comes none_close heard is_client is_member is_controller unsealed plain =
    let s1 : State = settle comes.number s in
    let s2 : State = (after_hearing ends left actions s1).state in
    let s3 : State = perform_all_quietly end actions s2 in
    let leaves : Leaves end actions s2 s3 = quietly_leave end actions s2 in
    let is : (onward s).state ≡ s3 = comes.state ∙ ap (λ (h : AfterHearing). (done end h).state) heard ∙ performed_quietly end actions s2 none_close in
    subst (λ (t : State). Shows t (with_actions end actions left (seen client member controller later v))) (sym is) (record {
      client = ap (λ (e : EndStates). slice_get e.clients v.at_client) leaves.ends ∙ is_client;
      member = ap (λ (e : EndStates). slice_get e.members v.at_member) leaves.ends ∙ is_member;
      controller = ap (λ (e : EndStates). slice_get e.controllers v.at_controller) leaves.ends ∙ is_controller;
      unsealed = unsealed;
      plain = plain;
      links = leaves.links ∙ shows.links;
      opened = leaves.opened ∙ shows.opened;
      units = leaves.units ∙ ap₂ (λ (u : List BagUnit) (l : List Route). u ++ units_sent l end actions) comes.behind shows.links;
      dials = leaves.dials ∙ ap (λ (d : List WaitingDial). d ++ dials_made end actions) shows.dials;
      left = ap (λ (c : Drawing). c.left) leaves.left;
      moment = leaves.moment ∙ shows.moment;
    })

pub first_comes : (s : State) (v : Scene) (unit : BagUnit) (later : List BagUnit) (end : EndId) → Shows s v → HasFirst v unit later end → Comes s unit later end
first_comes s v unit later end shows first =
    waiting_comes.comes s unit later first.there end (shows.units ∙ first.units) first.some first.short
    (ap (λ (o : OpenMap). lookup same_number unit.link o) shows.opened ∙ first.found) first.hearer

pub scenes_go_on : ScenesGoOn
scenes_go_on = record {
  to_client = λ s v unit later after left actions shows first none_close step.
      let comes : Comes s unit later (Client v.at_client) = first_comes s v unit later (Client v.at_client) shows first in
      lands s v unit later (Client v.at_client) (with_client_at v.at_client after s.ends) left actions after v.member v.controller shows comes none_close
      (waiting_comes.client (settle comes.number s) v.at_client v.client after (event.Bytes unit.link unit.bytes) left actions shows.client
      (ap₂ (λ (now : ℕ) (l : List (List ℕ)). client_step_of v.client (event.Bytes unit.link unit.bytes) now l) shows.moment shows.left ∙ step
      ∙ ap (λ (l : List (List ℕ)). whole_step l left actions after) (sym shows.left)))
      (got_set s.ends.clients v.at_client v.client after shows.client) shows.member shows.controller shows.unsealed shows.plain;
  to_member = λ s v unit later after left actions shows first none_close step.
      let comes : Comes s unit later (Member v.at_member) = first_comes s v unit later (Member v.at_member) shows first in
      lands s v unit later (Member v.at_member) (with_member_at v.at_member after s.ends) left actions v.client after v.controller shows comes none_close
      (waiting_comes.member (settle comes.number s) v.at_member v.member after (event.Bytes unit.link unit.bytes) left actions shows.member shows.plain
      (ap₂ (λ (now : ℕ) (l : List (List ℕ)). member_step_of v.member (event.Bytes unit.link unit.bytes) now l) shows.moment shows.left ∙ step
      ∙ ap (λ (l : List (List ℕ)). whole_step l left actions after) (sym shows.left)))
      shows.client (got_set s.ends.members v.at_member v.member after shows.member) shows.controller shows.unsealed
      (plain_after v.member after (event.Bytes unit.link unit.bytes) v.moment v.left left actions shows.plain step);
  to_controller = λ s v unit later after left actions shows first none_close step.
      let comes : Comes s unit later (Controller v.at_controller) = first_comes s v unit later (Controller v.at_controller) shows first in
      lands s v unit later (Controller v.at_controller) (with_controller_at v.at_controller after s.ends) left actions v.client v.member after shows comes none_close
      (waiting_comes.controller (settle comes.number s) v.at_controller v.controller after (event.Bytes unit.link unit.bytes) left actions shows.controller shows.unsealed
      (ap₂ (λ (now : ℕ) (l : List (List ℕ)). controller_step_of v.controller (event.Bytes unit.link unit.bytes) now l) shows.moment shows.left ∙ step
      ∙ ap (λ (l : List (List ℕ)). whole_step l left actions after) (sym shows.left)))
      shows.client shows.member (got_set s.ends.controllers v.at_controller v.controller after shows.controller)
      (unsealed_after v.controller after (event.Bytes unit.link unit.bytes) v.moment v.left left actions shows.unsealed step) shows.plain;
}
