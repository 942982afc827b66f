-- A member closes its client's link, alone or behind the link of its turn, as it is seen of a scene.
-- Of `grants_go_on`.
use Rattle.std.proofs.Common.{◌≡◌, ℕ, List, [], ◌∷◌, Option, None, Some, refl, sym, ap, ap₂, subst, ◌∙◌, slice_get}
use Rattle.std.specs.List.{AllByRecursion}
use Rattle.wire_base.specs.Maps.{lookup, same_number, take_out}
use Rattle.outside.specs.declared.action.Action.{Action}
use Rattle.outside.specs.declared.action.Action.TheVariants as action
use Rattle.outside.specs.declared.action.CloseCause.{CloseCause}
use Rattle.outside.specs.declared.action.Outcome.{Outcome}
use Rattle.outside.specs.declared.event.Event.TheVariants as event
use Rattle.outside.specs.Machine.{whole_step}
use Rattle.domain_controller.specs.State.{State as ControllerState}
use Rattle.domain_controller.specs.TrustStep.{trust_step_of as controller_step_of}
use Rattle.domain_controller.proofs.TurnOutLaws.{got_set}
use Rattle.logon_client.specs.State.{State as ClientState}
use Rattle.logon_client.specs.Machine.{step_of as client_step_of}
use Rattle.member_server.specs.SealStep.{SealsNothing}
use Rattle.member_server.specs.State.{State as MemberState}
use Rattle.member_server.specs.Machine.{step_of as member_step_of}
use Rattle.world_moves.specs.declared.bag.BagUnit.{BagUnit}
use Rattle.world_moves.specs.declared.links.EndId.{EndId}
use Rattle.world_moves.specs.declared.links.EndId.TheVariants.{Client, Controller, Member}
use Rattle.world_moves.specs.declared.links.OpenLink.{OpenLink}
use Rattle.world_moves.specs.declared.state.State.{State}
use Rattle.world_moves.specs.Acting.{AfterHearing, close_open, closed_at, done, done_quietly, hear, perform_all, shut_link}
use Rattle.world_moves.specs.Ends.{EndStates}
use Rattle.world_moves.specs.Links.{OpenMap}
use Rattle.world_moves.specs.Moving.{onward, settle}
use Rattle.world_moves.proofs.QuietLaws.{idle_quiet}
use Rattle.logon_runs.specs.Scenes.Scene.{HasFirst, IsNoClose, Scene, Shows, with_actions}
use Rattle.logon_runs.specs.Scenes.Turnings.{ClosesTo, shut_in}
use Rattle.logon_runs.specs.Scenes.WaitingUnits.{Comes, after_hearing, with_client_at, with_controller_at, with_member_at}
use Rattle.logon_runs.proofs.Scenes.SceneLaws.{first_comes}
use Rattle.logon_runs.proofs.Scenes.TurningSceneLaws.{lands_closing}
use Rattle.logon_runs.proofs.Scenes.WaitingLaws.{unsealed_after, plain_after, waiting_comes}

-- the member closes its client's link, and then does other things
pub member_shuts : (s : State) (v : Scene) (unit : BagUnit) (later : List BagUnit) (after : MemberState) (client : ClientState) (left : List (List ℕ)) (link : ℕ) (cause : CloseCause)
    (actions : List Action) → Shows s v → HasFirst v unit later (Member v.at_member) → ClosesTo v (Member v.at_member) (Client v.at_client) link → AllByRecursion IsNoClose actions →
    member_step_of v.member (event.Bytes unit.link unit.bytes) v.moment v.left ≡ whole_step v.left left (action.Close link cause ∷ actions) after →
    client_step_of v.client (event.Closed link) v.moment left ≡ whole_step left left [] client →
    Shows (onward s).state (with_actions (Member v.at_member) actions left (shut_in link (record v { member = after; client = client; units = later })))
member_shuts s v unit later after client left link cause actions shows first closes none_close step closed =
    let comes : Comes s unit later (Member v.at_member) = first_comes s v unit later (Member v.at_member) shows first in
    let s1 : State = settle comes.number s in
    let all : List Action = action.Close link cause ∷ actions in
    let ends : EndStates = with_member_at v.at_member after s.ends in
    let s2 : State = (after_hearing ends left all s1).state in
    lands_closing s v unit later (Member v.at_member) (Client v.at_client) ends (with_client_at v.at_client client ends) left link cause actions client after v.controller shows comes closes none_close
    (waiting_comes.member s1 v.at_member v.member after (event.Bytes unit.link unit.bytes) left all shows.member shows.plain
    (ap₂ (λ (now : ℕ) (l : List (List ℕ)). member_step_of v.member (event.Bytes unit.link unit.bytes) now l) shows.moment shows.left ∙ step
    ∙ ap (λ (l : List (List ℕ)). whole_step l left all after) (sym shows.left)))
    (waiting_comes.client (shut_link link s2) v.at_client v.client client (event.Closed link) left [] shows.client
    (ap (λ (now : ℕ). client_step_of v.client (event.Closed link) now left) shows.moment ∙ closed))
    (got_set s.ends.clients v.at_client v.client client shows.client) (got_set s.ends.members v.at_member v.member after shows.member) shows.controller shows.unsealed
    (plain_after v.member after (event.Bytes unit.link unit.bytes) v.moment v.left left all shows.plain step)

-- two links are closed, and between them an outcome is told
lands_closing_two : (s : State) (v : Scene) (unit : BagUnit) (later : List BagUnit) (end one other : EndId) (ends ones others : EndStates) (left : List (List ℕ)) (link next : ℕ)
    (actions : List Action) (client : ClientState) (member : MemberState) (controller : ControllerState) (cause cause_too : CloseCause) (tells : ℕ) (what : Outcome) →
    actions ≡ action.Close link cause ∷ action.Told tells what ∷ action.Close next cause_too ∷ [] → Shows s v → (comes : Comes s unit later end) →
    ClosesTo v end one link → ClosesTo (shut_in link v) end other next →
    let s1 : State = settle comes.number s in
    let s2 : State = (after_hearing ends left actions s1).state in
    let s3 : State = (after_hearing ones left [] (shut_link link s2)).state in
    hear end (event.Bytes unit.link unit.bytes) s1 ≡ after_hearing ends left actions s1 →
    hear one (event.Closed link) (shut_link link s2) ≡ after_hearing ones left [] (shut_link link s2) →
    hear other (event.Closed next) (shut_link next s3) ≡ after_hearing others left [] (shut_link next s3) →
    slice_get others.clients v.at_client ≡ Some client → slice_get others.members v.at_member ≡ Some member → slice_get others.controllers v.at_controller ≡ Some controller →
    controller.trusting.sealing ≡ None → SealsNothing member →
    Shows (onward s).state (shut_in next (shut_in link (record v { client = client; member = member; controller = controller; units = later; left = left })))
lands_closing_two s v unit later end one other ends ones others left link next actions client member controller cause cause_too tells what are shows comes closes closes_too heard heard_one heard_other
    is_client is_member is_controller unsealed plain =
    let rest : List Action = action.Told tells what ∷ action.Close next cause_too ∷ [] in
    let s1 : State = settle comes.number s in
    let s2 : State = (after_hearing ends left actions s1).state in
    let s3 : State = (after_hearing ones left [] (shut_link link s2)).state in
    let s4 : State = (after_hearing others left [] (shut_link next s3)).state in
    let is : (onward s).state ≡ s4 =
    comes.state
    ∙ ap (λ (h : AfterHearing). (done end h).state) heard
    ∙ ap (λ (list : List Action). (perform_all end list s2).state) are
    ∙ ap (λ (o : Option OpenLink). (perform_all end rest (close_open o end link s2).state).state) (ap (λ (o : OpenMap). lookup same_number link o) shows.opened ∙ closes.found)
    ∙ ap (λ (h : Option EndId). (perform_all end rest (closed_at h link (shut_link link s2)).state).state) closes.side
    ∙ ap (λ (h : AfterHearing). (perform_all end rest (done_quietly one h).state).state) heard_one
    ∙ ap (λ (t : State). (perform_all end (action.Close next cause_too ∷ []) t).state) (idle_quiet end (action.Told tells what) s3 refl refl refl)
    ∙ ap (λ (o : Option OpenLink). (close_open o end next s3).state)
    (ap (λ (o : OpenMap). lookup same_number next (take_out same_number link o)) shows.opened ∙ closes_too.found)
    ∙ ap (λ (h : Option EndId). (closed_at h next (shut_link next s3)).state) closes_too.side
    ∙ ap (λ (h : AfterHearing). (done_quietly other h).state) heard_other in
    subst (λ (t : State). Shows t (shut_in next (shut_in link (record v { client = client; member = member; controller = controller; units = later; left = left })))) (sym is) (record {
      client = is_client;
      member = is_member;
      controller = is_controller;
      unsealed = unsealed;
      plain = plain;
      links = shows.links;
      opened = ap (λ (o : OpenMap). take_out same_number next (take_out same_number link o)) shows.opened;
      units = comes.behind;
      dials = shows.dials;
      left = refl;
      moment = shows.moment;
    })

-- the member closes the link of its turn, tells an outcome, and closes its client's link
pub member_shuts_both : (s : State) (v : Scene) (unit : BagUnit) (later : List BagUnit) (after : MemberState) (client : ClientState) (controller : ControllerState) (left : List (List ℕ)) (link next : ℕ)
    (cause cause_too : CloseCause) (tells : ℕ) (what : Outcome) → Shows s v → HasFirst v unit later (Member v.at_member) → ClosesTo v (Member v.at_member) (Controller v.at_controller) link →
    ClosesTo (shut_in link v) (Member v.at_member) (Client v.at_client) next →
    member_step_of v.member (event.Bytes unit.link unit.bytes) v.moment v.left
    ≡ whole_step v.left left (action.Close link cause ∷ action.Told tells what ∷ action.Close next cause_too ∷ []) after →
    controller_step_of v.controller (event.Closed link) v.moment left ≡ whole_step left left [] controller →
    client_step_of v.client (event.Closed next) v.moment left ≡ whole_step left left [] client →
    Shows (onward s).state (shut_in next (shut_in link (record v { client = client; member = after; controller = controller; units = later; left = left })))
member_shuts_both s v unit later after client controller left link next cause cause_too tells what shows first closes closes_too step closed closed_too =
    let comes : Comes s unit later (Member v.at_member) = first_comes s v unit later (Member v.at_member) shows first in
    let s1 : State = settle comes.number s in
    let all : List Action = action.Close link cause ∷ action.Told tells what ∷ action.Close next cause_too ∷ [] in
    let ends : EndStates = with_member_at v.at_member after s.ends in
    let ones : EndStates = with_controller_at v.at_controller controller ends in
    let others : EndStates = with_client_at v.at_client client ones in
    let s2 : State = (after_hearing ends left all s1).state in
    let s3 : State = (after_hearing ones left [] (shut_link link s2)).state in
    lands_closing_two s v unit later (Member v.at_member) (Controller v.at_controller) (Client v.at_client) ends ones others left link next all client after controller cause cause_too tells what refl shows
    comes closes closes_too
    (waiting_comes.member s1 v.at_member v.member after (event.Bytes unit.link unit.bytes) left all shows.member shows.plain
    (ap₂ (λ (now : ℕ) (l : List (List ℕ)). member_step_of v.member (event.Bytes unit.link unit.bytes) now l) shows.moment shows.left ∙ step
    ∙ ap (λ (l : List (List ℕ)). whole_step l left all after) (sym shows.left)))
    (waiting_comes.controller (shut_link link s2) v.at_controller v.controller controller (event.Closed link) left [] shows.controller shows.unsealed
    (ap (λ (now : ℕ). controller_step_of v.controller (event.Closed link) now left) shows.moment ∙ closed))
    (waiting_comes.client (shut_link next s3) v.at_client v.client client (event.Closed next) left [] shows.client
    (ap (λ (now : ℕ). client_step_of v.client (event.Closed next) now left) shows.moment ∙ closed_too))
    (got_set s.ends.clients v.at_client v.client client shows.client) (got_set s.ends.members v.at_member v.member after shows.member)
    (got_set s.ends.controllers v.at_controller v.controller controller shows.controller)
    (unsealed_after v.controller controller (event.Closed link) v.moment left left [] shows.unsealed closed)
    (plain_after v.member after (event.Bytes unit.link unit.bytes) v.moment v.left left all shows.plain step)
