-- What comes of a unit after which a link is closed, and of a dial that is answered.
-- Of `scenes_turn`.
use Rattle.std.proofs.Common.{◌≡◌, ℕ, List, [], ◌∷◌, ◌++◌, length, Option, None, Some, sym, ap, ap₂, subst, ◌∙◌, slice_get, drop}
use Rattle.std.specs.List.{AllByRecursion}
use Rattle.wire_base.specs.Maps.{lookup, put, same_number, take_out}
use Rattle.outside.specs.declared.action.Action.{Action}
use Rattle.outside.specs.declared.action.Action.TheVariants as action
use Rattle.outside.specs.declared.action.CloseCause.{CloseCause}
use Rattle.outside.specs.declared.event.Event.TheVariants as event
use Rattle.outside.specs.Drawing.{Drawing}
use Rattle.outside.specs.Machine.{whole_step}
use Rattle.domain_controller.specs.State.{State as ControllerState}
use Rattle.domain_controller.specs.TrustStep.{trust_step_of as controller_step_of}
use Rattle.domain_controller.proofs.TurnOutLaws.{got_set}
use Rattle.logon_client.specs.State.{State as ClientState}
use Rattle.logon_client.specs.Machine.{step_of as client_step_of}
use Rattle.member_server.specs.SealStep.{SealsNothing}
use Rattle.member_server.specs.State.{State as MemberState}
use Rattle.member_server.specs.Machine.{step_of as member_step_of}
use Rattle.world_moves.specs.declared.bag.BagUnit.{BagUnit}
use Rattle.world_moves.specs.declared.links.EndId.{EndId}
use Rattle.world_moves.specs.declared.links.EndId.TheVariants.{Controller, Member, Client}
use Rattle.world_moves.specs.declared.links.OpenLink.{OpenLink}
use Rattle.world_moves.specs.declared.links.Route.{Route}
use Rattle.world_moves.specs.declared.links.Route.TheVariants.{ToMember, ToController}
use Rattle.world_moves.specs.declared.state.State.{State}
use Rattle.world_moves.specs.declared.state.WaitingDial.{WaitingDial}
use Rattle.world_moves.specs.Acting.{AfterHearing, close_open, closed_at, done, done_quietly, hear, perform_all, perform_all_quietly, shut_link}
use Rattle.world_moves.specs.Ends.{EndStates}
use Rattle.world_moves.specs.Links.{OpenMap, accepted, acceptor_of, answered}
use Rattle.world_moves.specs.Moving.{answer, answer_by, answered_link, connect, connect_by, connect_first, end_of_peer, moment_after, onward, route_to, settle, with_link, without_first}
use Rattle.logon_runs.specs.Scenes.Scene.{IsNoClose, Scene, Shows, dials_made, units_sent, with_actions}
use Rattle.logon_runs.specs.Scenes.Turnings.{ClosesTo, IsFound, ScenesTurn, connect_route, shut_in}
use Rattle.logon_runs.specs.Scenes.WaitingUnits.{Comes, after_hearing, with_client_at, with_controller_at, with_member_at}
use Rattle.logon_runs.proofs.Scenes.SceneLaws.{Leaves, first_comes, performed_quietly, quietly_leave}
use Rattle.logon_runs.proofs.Scenes.WaitingLaws.{unsealed_after, plain_after, waiting_comes}

-- ---- a link is closed

-- the world once the other end has heard of it
abbrev both_heard : EndStates → EndStates → List (List ℕ) → List Action → ℕ → State → State
both_heard ends others left actions link s = (after_hearing others left [] (shut_link link (after_hearing ends left actions s).state)).state

pub lands_closing : (s : State) (v : Scene) (unit : BagUnit) (later : List BagUnit) (end other : EndId) (ends others : EndStates) (left : List (List ℕ)) (link : ℕ) (cause : CloseCause)
    (actions : List Action) (client : ClientState) (member : MemberState) (controller : ControllerState) → Shows s v → (comes : Comes s unit later end) →
    ClosesTo v end other link → AllByRecursion IsNoClose actions →
    hear end (event.Bytes unit.link unit.bytes) (settle comes.number s) ≡ after_hearing ends left (action.Close link cause ∷ actions) (settle comes.number s) →
    hear other (event.Closed link) (shut_link link (after_hearing ends left (action.Close link cause ∷ actions) (settle comes.number s)).state)
    ≡ after_hearing others left [] (shut_link link (after_hearing ends left (action.Close link cause ∷ actions) (settle comes.number s)).state) →
    slice_get others.clients v.at_client ≡ Some client → slice_get others.members v.at_member ≡ Some member → slice_get others.controllers v.at_controller ≡ Some controller →
    controller.trusting.sealing ≡ None → SealsNothing member →
    Shows (onward s).state (with_actions end actions left (shut_in link (record v { client = client; member = member; controller = controller; units = later })))
lands_closing s v unit later end other ends others left link cause actions client member controller shows comes closes none_close heard heard_too is_client is_member is_controller unsealed plain =
    let s1 : State = settle comes.number s in
    let all : List Action = action.Close link cause ∷ actions in
    let s2 : State = (after_hearing ends left all s1).state in
    let s3 : State = both_heard ends others left all link s1 in
    let s4 : State = perform_all_quietly end actions s3 in
    let leaves : Leaves end actions s3 s4 = quietly_leave end actions s3 in
    let is : (onward s).state ≡ s4 =
    comes.state
    ∙ ap (λ (h : AfterHearing). (done end h).state) heard
    ∙ ap (λ (o : Option OpenLink). (perform_all end actions (close_open o end link s2).state).state) (ap (λ (o : OpenMap). lookup same_number link o) shows.opened ∙ closes.found)
    ∙ ap (λ (h : Option EndId). (perform_all end actions (closed_at h link (shut_link link s2)).state).state) closes.side
    ∙ ap (λ (h : AfterHearing). (perform_all end actions (done_quietly other h).state).state) heard_too
    ∙ performed_quietly end actions s3 none_close in
    subst (λ (t : State). Shows t (with_actions end actions left (shut_in link (record v { client = client; member = member; controller = controller; units = later })))) (sym is) (record {
      client = ap (λ (e : EndStates). slice_get e.clients v.at_client) leaves.ends ∙ is_client;
      member = ap (λ (e : EndStates). slice_get e.members v.at_member) leaves.ends ∙ is_member;
      controller = ap (λ (e : EndStates). slice_get e.controllers v.at_controller) leaves.ends ∙ is_controller;
      unsealed = unsealed;
      plain = plain;
      links = leaves.links ∙ shows.links;
      opened = leaves.opened ∙ ap (λ (o : OpenMap). take_out same_number link o) shows.opened;
      units = leaves.units ∙ ap₂ (λ (u : List BagUnit) (l : List Route). u ++ units_sent l end actions) comes.behind shows.links;
      dials = leaves.dials ∙ ap (λ (d : List WaitingDial). d ++ dials_made end actions) shows.dials;
      left = ap (λ (c : Drawing). c.left) leaves.left;
      moment = leaves.moment ∙ shows.moment;
    })

-- ---- a dial is answered

lands_dialled : (s : State) (v : Scene) (end : EndId) (peer : List ℕ) (dials : List WaitingDial) (route : Route) (acceptors ends : EndStates) (actions : List Action)
    (client : ClientState) (member : MemberState) (controller : ControllerState) → Shows s v → v.dials ≡ record { end = end; peer = peer } ∷ dials →
    route_to end (end_of_peer peer s.ends) ≡ Some route → IsFound route v → AllByRecursion IsNoClose actions →
    let s1 : State = with_link route (without_first s) in
    let s2 : State = (after_hearing acceptors v.left [] s1).state in
    let s3 : State = answered_link (length s.links) (accepted route) s2 in
    hear (acceptor_of route) (event.Opened (length s.links)) s1 ≡ after_hearing acceptors v.left [] s1 →
    hear end (event.Dialled (length s.links)) s3 ≡ after_hearing ends v.left actions s3 →
    slice_get ends.clients v.at_client ≡ Some client → slice_get ends.members v.at_member ≡ Some member → slice_get ends.controllers v.at_controller ≡ Some controller →
    controller.trusting.sealing ≡ None → SealsNothing member →
    Shows (connect s).state (with_actions end actions v.left (connect_route route dials (record v { client = client; member = member; controller = controller })))
lands_dialled s v end peer dials route acceptors ends actions client member controller shows waits reaches found none_close opens dialled is_client is_member is_controller unsealed plain =
    let n : ℕ = length s.links in
    let s1 : State = with_link route (without_first s) in
    let s2 : State = (after_hearing acceptors v.left [] s1).state in
    let s3 : State = answered_link n (accepted route) s2 in
    let s4 : State = (after_hearing ends v.left actions s3).state in
    let s5 : State = perform_all_quietly end actions s4 in
    let leaves : Leaves end actions s4 s5 = quietly_leave end actions s4 in
    let open_is : s2.open_links ≡ v.opened ++ (length v.links, accepted route) ∷ [] =
    ap₂ (λ (o : OpenMap) (l : List Route). o ++ (length l, accepted route) ∷ []) shows.opened shows.links in
    let is : (connect s).state ≡ s5 =
    ap (λ (d : List WaitingDial). (connect_first (slice_get d 0) (without_first s)).state) (shows.dials ∙ waits)
    ∙ ap (λ (r : Option Route). (connect_by r end (without_first s)).state) reaches
    ∙ ap (λ (h : AfterHearing). (answer end n (done (acceptor_of route) h).state).state) opens
    ∙ ap (λ (o : Option OpenLink). (answer_by o end n s2).state)
    (ap₂ (λ (o : OpenMap) (l : List Route). lookup same_number (length l) o) open_is shows.links ∙ found)
    ∙ ap (λ (h : AfterHearing). (done end h).state) dialled
    ∙ performed_quietly end actions s4 none_close in
    subst (λ (t : State). Shows t (with_actions end actions v.left (connect_route route dials (record v { client = client; member = member; controller = controller })))) (sym is) (record {
      client = ap (λ (e : EndStates). slice_get e.clients v.at_client) leaves.ends ∙ is_client;
      member = ap (λ (e : EndStates). slice_get e.members v.at_member) leaves.ends ∙ is_member;
      controller = ap (λ (e : EndStates). slice_get e.controllers v.at_controller) leaves.ends ∙ is_controller;
      unsealed = unsealed;
      plain = plain;
      links = leaves.links ∙ ap (λ (l : List Route). l ++ route ∷ []) shows.links;
      opened = leaves.opened ∙ ap₂ (λ (l : List Route) (o : OpenMap). put same_number (length l) (answered (accepted route)) o) shows.links open_is;
      units = leaves.units ∙ ap₂ (λ (u : List BagUnit) (l : List Route). u ++ units_sent (l ++ route ∷ []) end actions) shows.units shows.links;
      dials = leaves.dials ∙ ap (λ (d : List WaitingDial). drop 1 d ++ dials_made end actions) (shows.dials ∙ waits);
      left = ap (λ (c : Drawing). c.left) leaves.left;
      moment = leaves.moment ∙ shows.moment;
    })

pub scenes_turn : ScenesTurn
scenes_turn = record {
  member_closes = λ s v unit later after controller left link cause actions shows first closes none_close step closed.
      let comes : Comes s unit later (Member v.at_member) = first_comes s v unit later (Member v.at_member) shows first in
      let s1 : State = settle comes.number s in
      let all : List Action = action.Close link cause ∷ actions in
      let s2 : State = (after_hearing (with_member_at v.at_member after s.ends) left all s1).state in
      lands_closing s v unit later (Member v.at_member) (Controller v.at_controller) (with_member_at v.at_member after s.ends)
      (with_controller_at v.at_controller controller (with_member_at v.at_member after s.ends)) left link cause actions v.client after controller shows comes closes none_close
      (waiting_comes.member s1 v.at_member v.member after (event.Bytes unit.link unit.bytes) left all shows.member shows.plain
      (ap₂ (λ (now : ℕ) (l : List (List ℕ)). member_step_of v.member (event.Bytes unit.link unit.bytes) now l) shows.moment shows.left ∙ step
      ∙ ap (λ (l : List (List ℕ)). whole_step l left all after) (sym shows.left)))
      (waiting_comes.controller (shut_link link s2) v.at_controller v.controller controller (event.Closed link) left [] shows.controller shows.unsealed
      (ap (λ (now : ℕ). controller_step_of v.controller (event.Closed link) now left) shows.moment ∙ closed))
      shows.client (got_set s.ends.members v.at_member v.member after shows.member) (got_set s.ends.controllers v.at_controller v.controller controller shows.controller)
      (unsealed_after v.controller controller (event.Closed link) v.moment left left [] shows.unsealed closed)
      (plain_after v.member after (event.Bytes unit.link unit.bytes) v.moment v.left left all shows.plain step);
  client_closes = λ s v unit later after member left link cause actions shows first closes none_close step closed.
      let comes : Comes s unit later (Client v.at_client) = first_comes s v unit later (Client v.at_client) shows first in
      let s1 : State = settle comes.number s in
      let all : List Action = action.Close link cause ∷ actions in
      let s2 : State = (after_hearing (with_client_at v.at_client after s.ends) left all s1).state in
      lands_closing s v unit later (Client v.at_client) (Member v.at_member) (with_client_at v.at_client after s.ends)
      (with_member_at v.at_member member (with_client_at v.at_client after s.ends)) left link cause actions after member v.controller shows comes closes none_close
      (waiting_comes.client s1 v.at_client v.client after (event.Bytes unit.link unit.bytes) left all shows.client
      (ap₂ (λ (now : ℕ) (l : List (List ℕ)). client_step_of v.client (event.Bytes unit.link unit.bytes) now l) shows.moment shows.left ∙ step
      ∙ ap (λ (l : List (List ℕ)). whole_step l left all after) (sym shows.left)))
      (waiting_comes.member (shut_link link s2) v.at_member v.member member (event.Closed link) left [] shows.member shows.plain
      (ap (λ (now : ℕ). member_step_of v.member (event.Closed link) now left) shows.moment ∙ closed))
      (got_set s.ends.clients v.at_client v.client after shows.client) (got_set s.ends.members v.at_member v.member member shows.member) shows.controller shows.unsealed
      (plain_after v.member member (event.Closed link) v.moment left left [] shows.plain closed);
  client_dials = λ s v peer dials after member actions shows waits reach found none_close opens dialled.
      let route : Route = ToMember v.at_client v.at_member in
      let s1 : State = with_link route (without_first s) in
      let acceptors : EndStates = with_member_at v.at_member member s.ends in
      let s3 : State = answered_link (length s.links) (accepted route) (after_hearing acceptors v.left [] s1).state in
      lands_dialled s v (Client v.at_client) peer dials route acceptors (with_client_at v.at_client after acceptors) actions after member v.controller shows waits
      (ap (route_to (Client v.at_client)) reach) found none_close
      (waiting_comes.member s1 v.at_member v.member member (event.Opened (length s.links)) v.left [] shows.member shows.plain
      (ap (λ (l : List Route). member_step_of v.member (event.Opened (length l)) s.moment s.chances.left) shows.links
      ∙ ap₂ (λ (now : ℕ) (l : List (List ℕ)). member_step_of v.member (event.Opened (length v.links)) now l) shows.moment shows.left ∙ opens
      ∙ ap (λ (l : List (List ℕ)). whole_step l v.left [] member) (sym shows.left)))
      (waiting_comes.client s3 v.at_client v.client after (event.Dialled (length s.links)) v.left actions shows.client
      (ap (λ (l : List Route). client_step_of v.client (event.Dialled (length l)) s.moment v.left) shows.links
      ∙ ap (λ (now : ℕ). client_step_of v.client (event.Dialled (length v.links)) now v.left) shows.moment ∙ dialled))
      (got_set s.ends.clients v.at_client v.client after shows.client) (got_set s.ends.members v.at_member v.member member shows.member) shows.controller shows.unsealed
      (plain_after v.member member (event.Opened (length v.links)) v.moment v.left v.left [] shows.plain opens);
  member_dials = λ s v peer dials after controller actions shows waits reach found none_close opens dialled.
      let route : Route = ToController v.at_member v.at_controller in
      let s1 : State = with_link route (without_first s) in
      let acceptors : EndStates = with_controller_at v.at_controller controller s.ends in
      let s3 : State = answered_link (length s.links) (accepted route) (after_hearing acceptors v.left [] s1).state in
      lands_dialled s v (Member v.at_member) peer dials route acceptors (with_member_at v.at_member after acceptors) actions v.client after controller shows waits
      (ap (route_to (Member v.at_member)) reach) found none_close
      (waiting_comes.controller s1 v.at_controller v.controller controller (event.Opened (length s.links)) v.left [] shows.controller shows.unsealed
      (ap (λ (l : List Route). controller_step_of v.controller (event.Opened (length l)) s.moment s.chances.left) shows.links
      ∙ ap₂ (λ (now : ℕ) (l : List (List ℕ)). controller_step_of v.controller (event.Opened (length v.links)) now l) shows.moment shows.left ∙ opens
      ∙ ap (λ (l : List (List ℕ)). whole_step l v.left [] controller) (sym shows.left)))
      (waiting_comes.member s3 v.at_member v.member after (event.Dialled (length s.links)) v.left actions shows.member shows.plain
      (ap (λ (l : List Route). member_step_of v.member (event.Dialled (length l)) s.moment v.left) shows.links
      ∙ ap (λ (now : ℕ). member_step_of v.member (event.Dialled (length v.links)) now v.left) shows.moment ∙ dialled))
      shows.client (got_set s.ends.members v.at_member v.member after shows.member) (got_set s.ends.controllers v.at_controller v.controller controller shows.controller)
      (unsealed_after v.controller controller (event.Opened (length v.links)) v.moment v.left v.left [] shows.unsealed opens)
      (plain_after v.member after (event.Dialled (length v.links)) v.moment v.left v.left actions shows.plain dialled);
  ticks = λ s v more shows. record {
    client = shows.client;
    member = shows.member;
    controller = shows.controller;
    unsealed = shows.unsealed;
    plain = shows.plain;
    links = shows.links;
    opened = shows.opened;
    units = shows.units;
    dials = shows.dials;
    left = shows.left;
    moment = ap (moment_after more) shows.moment;
  };
}
