-- In every schedule what is under way is bytes, between members and controllers it is whole, and nothing stays open
-- there: kept by each move, over the frame of whole steps. It serves `runs_stand_so`.
use Rattle.std.proofs.lemmas.List.Elements.{All-head, All-tail}
use Rattle.std.proofs.lemmas.List.{drop_all, take_all}
use Rattle.wire_base.specs.Lists.{OneOf}
use Rattle.domain_controller.specs.declared.state.Running.{Running as ControllerRunning}
use Rattle.logon_client.specs.declared.state.Running.{Running as ClientRunning}
use Rattle.logon_client.specs.declared.state.ClientLink.{ClientLink}
use Rattle.logon_client.specs.declared.state.ClientLink.TheVariants.{Idle, Dialling as Waiting, On}
use Rattle.channel_turns.specs.declared.state.Dialling.{Dialling}
use Rattle.channel_turns.specs.declared.state.Dialling.TheVariants as dialling
use Rattle.world_moves.specs.Forms.{HasMoveForm, IsBlock, IsByte}
use Rattle.secret_change.specs.Secrets.{IsSecret}
use Rattle.world_moves.specs.declared.moves.Move.{Move}
use Rattle.world_moves.specs.declared.moves.Move.TheVariants as move
use Rattle.domain_world.specs.Accepting.Runs.{NothingIsOpen, IsQuietLink, IsQuietTurn}
use Rattle.domain_world.specs.Past.{past}
use Rattle.domain_world.specs.Schedules.{OfSchedules}
use Rattle.domain_world.proofs.Frames.AloneStepLaws.{fresh_by, renew_alone_by as renew_by, renew_controller_alone as renew_controller, renewed_alone as renewed}
use Rattle.domain_world.proofs.Quiet.QuietStepLaws.{ClientIsQuiet, ControllerIsQuiet, IsClients, IsMade, Meets, MeetsClient, MeetsMember, MemberIsQuiet, QuietAction, QuietFact, QuietState, StandsQuiet, WholeBag, WholeIfCarried, end_steps, with_bag, RunningIsQuiet}
use Rattle.domain_world.proofs.Moves.LeftLaws.{first_left_blocks}
use Rattle.domain_world.proofs.Frames.StepFrameLaws.{HoldsAfterRun, run_carries}
use Rattle.std.proofs.Common.{◌≡◌, ℕ, zero, suc, ◌+◌, ◌<◌, ◌≤◌, ◌^◌, Bool, true, false, List, [], ◌∷◌, ◌++◌, drop, length, map, min, nat_le, inl, inr, Option, Some, None, slice_get, slice_set, if◌then◌else◌, refl, sym, ap, subst, ◌∙◌, arith, append-nil}
use Rattle.std.specs.Prelude.{All}
use Rattle.std.specs.List.{AllByRecursion}
use Rattle.wire_base.specs.Names.{IsName}
use Rattle.wire_base.specs.Numbers.{AreBytes}
use Rattle.wire_base.proofs.NumberLaws.{bytes_from_all}
use Rattle.outside.specs.declared.action.Action.{Action}
use Rattle.outside.specs.declared.action.Action.TheVariants.{Send}
use Rattle.outside.specs.declared.event.Event.{Event}
use Rattle.outside.specs.declared.event.Event.TheVariants as event
use Rattle.account_table.specs.AccountTable.{AccountTable}
use Rattle.end_links.specs.Links.{LinkState}
use Rattle.end_links.specs.Whole.{IsWholeSend}
use Rattle.domain_controller.specs.State.{State as ControllerState}
use Rattle.domain_controller.specs.Step as controller
use Rattle.domain_controller.proofs.WholeLaws.{sends_are_whole}
use Rattle.logon_client.specs.Machine as client
use Rattle.logon_client.specs.Plans.{CanLogOn}
use Rattle.logon_client.specs.State.{State as ClientState}
use Rattle.logon_client.specs.declared.plan.ClientPlan.{ClientPlan}
use Rattle.logon_client.proofs.SendLaws.{AtUnlessStopped}
use Rattle.member_server.specs.Machine as member
use Rattle.member_server.specs.State.{State as MemberState}
use Rattle.member_server.specs.declared.plan.MemberPlan.{MemberPlan}
use Rattle.member_server.specs.declared.state.Running.{Running}
use Rattle.member_server.specs.declared.state.Talk.{Talk}
use Rattle.member_server.proofs.WholeLaws.{members_send_whole}
use Rattle.step_notes.specs.Records.{Book, Source}
use Rattle.world_moves.specs.declared.bag.BagUnit.{BagUnit}
use Rattle.world_moves.specs.declared.links.EndId.{EndId}
use Rattle.world_moves.specs.declared.links.EndId.TheVariants.{Member, Client}
use Rattle.world_moves.specs.declared.links.LinkKind.{LinkKind}
use Rattle.world_moves.specs.declared.links.LinkKind.TheVariants as kind
use Rattle.world_moves.specs.declared.links.Route.{Route}
use Rattle.world_moves.specs.declared.links.Route.TheVariants.{ToMember, ToController, Between, Stranger, FromStation}
use Rattle.world_moves.specs.declared.plan.Plan.{Plan}
use Rattle.world_moves.specs.declared.state.State.{State}
use Rattle.world_moves.specs.Acting.{Given, perform_quietly, unit_on, units_of_action, plans_after}
use Rattle.world_moves.specs.Bag.{piece_limit, pieces_in, pieces_of, settle_at, AreShortUnits, HaveBytes}
use Rattle.world_moves.specs.Ends.{fresh_controller, EndStates, with_member}
use Rattle.world_moves.specs.Forms.{HasForms, IsMemberPlan, IsTable}
use Rattle.world_moves.specs.Links.{acceptor_of, dialler_of, kind_of}
use Rattle.world_moves.specs.Moving.{settle, with_link, changed}
use Rattle.world_moves.specs.World.{IsPlan, first_controllers, first_world, run}
use Rattle.world_moves.proofs.RangeLaws.{table_in_range}
use Rattle.world_moves.proofs.QuietLaws.{units_by}
use Rattle.domain_world.specs.Accepting.Runs.{IsOfMember}
use Rattle.domain_world.specs.Past.{Delivery}
use Rattle.wire_base.proofs.ListLaws.{at_end, got_append, got_last, got_nothing, some_is}
use Rattle.domain_world.proofs.Acceptance.LetInStepLaws.{IsAcceptedBy, IsDialledBy}
use Rattle.domain_world.proofs.Quiet.QuietListenLaws.{ListensWell, OpensWell, WellUnlessStopped, entries_so}
use Rattle.domain_world.proofs.Quiet.QuietTurnLaws.{IfOn, IsOneUnit}
use Rattle.domain_world.proofs.Messages.MessageOnceLaws.{each_put}
use Rattle.domain_world.proofs.Moves.ComingLaws.{CameFrom, CameInUnit, IsPieceOf, IsStill, came_in_unit, kept_settled}
use Rattle.domain_world.proofs.Moves.MarkPlaceLaws.{got_beside, settled_length}
use Rattle.domain_world.proofs.Moves.OpenMadeLaws.{IsAtSide}
use Rattle.domain_world.proofs.Frames.StepFrameLaws.{HasHeard, StepKeeps, NoFact}
use Rattle.domain_world.proofs.Frames.EndFrameLaws.{IsCalm, by_calm}
use Rattle.domain_world.proofs.Moves.PlacedLaws.{HandsBytes, HasBytes, IsBytesBag, short_units, units_have_bytes}
use Rattle.domain_world.proofs.Moves.MemberPlanLaws.{names_alike}
use Rattle.world_moves.proofs.ChangeLaws.{by_change, member_begun}
use Rattle.world_moves.proofs.KeptLaws.{plans_alike}
use Rattle.world_moves.specs.MemberPlans.{AreAlikeButSecrets}
use Rattle.world_moves.specs.Alone.{hear_alone as hear}
use Rattle.world_moves.specs.Plain.{plain_world, renew_plain_member as renew_member}

-- ---- links

-- a link is made: what was known of the others stays
made_of : (links : List Route) (route : Route) (number : ℕ) → IsMade links number → IsOfMember (links ++ route ∷ []) number → IsOfMember links number
made_of links route number made own =
    let later : slice_get (links ++ route ∷ []) number ≡ Some made.0 = got_append links (route ∷ []) number made.0 made.1 in
    let same : made.0 ≡ ToController own.0 own.1 = some_is made.0 (ToController own.0 own.1) (sym later ∙ own.2) in
    (own.0, own.1, made.1 ∙ ap (λ (r : Route). Some r) same)

made_more : (links : List Route) (route : Route) (number : ℕ) → IsMade links number → IsMade (links ++ route ∷ []) number
made_more links route number made = (made.0, got_append links (route ∷ []) number made.0 made.1)

dialled_more : (links : List Route) (route : Route) (k number : ℕ) → IsDialledBy links k number → IsDialledBy (links ++ route ∷ []) k number
dialled_more links route k number dialled = record { controller = dialled.controller; at = got_append links (route ∷ []) number (ToController k dialled.controller) dialled.at }

accepted_more : (links : List Route) (route : Route) (k number : ℕ) → IsAcceptedBy links k number → IsAcceptedBy (links ++ route ∷ []) k number
accepted_more links route k number accepted =
    record { route = accepted.route; at = got_append links (route ∷ []) number accepted.route accepted.at; acceptor = accepted.acceptor }

clients_more : (links : List Route) (route : Route) (k number : ℕ) → IsClients links k number → IsClients (links ++ route ∷ []) k number
clients_more links route k number of = (of.0, got_append links (route ∷ []) number (ToMember k of.0) of.1)

well_more : (links : List Route) (route : Route) (r : Option ControllerRunning) → WellUnlessStopped (IsOfMember links) (IsMade links) r →
    WellUnlessStopped (IsOfMember (links ++ route ∷ [])) (IsMade (links ++ route ∷ [])) r
well_more links route None well = tt
well_more links route (Some running) well =
    entries_so (ListensWell (IsOfMember links) (IsMade links)) (ListensWell (IsOfMember (links ++ route ∷ [])) (IsMade (links ++ route ∷ [])))
    (λ number link one. record {
      made = made_more links route number one.made;
      rest = λ own. one.rest (made_of links route number one.made own);
      joiner = λ own. one.joiner (made_of links route number one.made own);
    }) running.links well

on_more : (links : List Route) (route : Route) (k : ℕ) (how : Dialling) → IfOn (IsDialledBy links k) how → IfOn (IsDialledBy (links ++ route ∷ []) k) how
on_more links route k dialling.Nothing on = tt
on_more links route k (dialling.Waits turn frames) on = tt
on_more links route k (dialling.On number said) on = record { own = dialled_more links route k number on.own; rest = on.rest; joiner = on.joiner }

member_more : (links : List Route) (route : Route) (k : ℕ) (r : Option Running) → MemberIsQuiet links k r → MemberIsQuiet (links ++ route ∷ []) k r
member_more links route k None quiet = tt
member_more links route k (Some running) quiet = record {
  range = quiet.range;
  turn = on_more links route k running.dialling quiet.turn;
  accepted = entries_so (λ number (link : LinkState Talk). IsAcceptedBy links k number) (λ number link. IsAcceptedBy (links ++ route ∷ []) k number)
      (λ number link one. accepted_more links route k number one) running.links quiet.accepted;
}

stands_more : (links : List Route) (route : Route) (k : ℕ) (task : ClientPlan) (how : ClientLink) → AtUnlessStopped (IsClients links k) (Some (record { task = task; standing = how })) →
    AtUnlessStopped (IsClients (links ++ route ∷ []) k) (Some (record { task = task; standing = how }))
stands_more links route k task Idle stands = tt
stands_more links route k task Waiting stands = tt
stands_more links route k task (On state) stands = clients_more links route k state.talk.link stands

pub client_more : (links : List Route) (route : Route) (k : ℕ) (r : Option ClientRunning) → AtUnlessStopped (IsClients links k) r → AtUnlessStopped (IsClients (links ++ route ∷ []) k) r
client_more links route k None stands = tt
client_more links route k (Some running) stands = stands_more links route k running.task running.standing stands

link_made : (plans : List MemberPlan) (tasks : List ClientPlan) (links : List Route) (bag : List BagUnit) (ends : EndStates) (moment : ℕ) (left : List (List ℕ)) (route : Route) →
    StandsQuiet plans tasks links bag ends moment left → StandsQuiet plans tasks (links ++ route ∷ []) bag ends moment left
link_made plans tasks links bag ends moment left route quiet = record {
  bag = quiet.bag;
  controllers = λ i c there. record { range = (quiet.controllers i c there).range; well = well_more links route c.running (quiet.controllers i c there).well };
  members = λ k m there. member_more links route k m.running (quiet.members k m there);
  clients = λ k c there. record { stands = client_more links route k c.running (quiet.clients k c there).stands; range = (quiet.clients k c there).range };
  moment = quiet.moment;
  blocks = quiet.blocks;
  plans = quiet.plans;
  follow = quiet.follow;
}

-- the end accepted the link that was just made
last_meets : (end : EndId) (route : Route) (links : List Route) → acceptor_of route ≡ end → Meets end (links ++ route ∷ []) (event.Opened (length links))
last_meets end route links is = record {
  controllers = λ at same. (route, got_last links route);
  members = λ k same.
      (tt, tt, (λ number opened. subst (λ (n : ℕ). IsAcceptedBy (links ++ route ∷ []) k n) (some_is (length links) number opened) (record { route = route; at = got_last links route; acceptor = is ∙ same })));
  clients = λ k same. (tt, tt);
}

no_link : (number : ℕ) (P : Type 0) → None ≡ Some number → P
no_link number P is = absurd (let never = is in cc)

members_route : (route : Route) (k : ℕ) → dialler_of route ≡ Some (Member k) → (controller : ℕ) × (route ≡ ToController k controller)
members_route (ToController other controller) k is = (controller, ap (λ (n : ℕ). ToController n controller) (let same : other ≡ k = cc in same))
members_route (ToMember one server) k is = absurd cc
members_route (Between from to) k is = absurd cc
members_route (FromStation station controller) k is = absurd cc
members_route (Stranger to) k is = absurd cc

pub clients_route : (route : Route) (k : ℕ) → dialler_of route ≡ Some (Client k) → (server : ℕ) × (route ≡ ToMember k server)
clients_route (ToMember other server) k is = (server, ap (λ (n : ℕ). ToMember n server) (let same : other ≡ k = cc in same))
clients_route (ToController one controller) k is = absurd cc
clients_route (Between from to) k is = absurd cc
clients_route (FromStation station controller) k is = absurd cc
clients_route (Stranger to) k is = absurd cc

-- the end dialled the link that is answered
dialled_meets : (end : EndId) (links : List Route) (link : ℕ) → IsAtSide links link true end → Meets end links (event.Dialled link)
dialled_meets end links link side = record {
  controllers = λ at same. tt;
  members = λ k same.
      let route = members_route side.route k (side.side ∙ ap (λ (one : EndId). Some one) same) in
      (record { controller = route.0; at = side.made ∙ ap (λ (r : Route). Some r) route.1 }, tt, (λ number opened. no_link number (IsAcceptedBy links k number) opened));
  clients = λ k same. let route = clients_route side.route k (side.side ∙ ap (λ (one : EndId). Some one) same) in ((route.0, side.made ∙ ap (λ (r : Route). Some r) route.1), tt);
}

calm_member : (links : List Route) (k : ℕ) (what : Event) → IsCalm what → MeetsMember links what k
calm_member links k =
    by_calm (λ (one : Event). MeetsMember links one k) (λ link. (tt, tt, (λ number opened. no_link number (IsAcceptedBy links k number) opened)))
    (tt, tt, (λ number opened. no_link number (IsAcceptedBy links k number) opened)) (tt, tt, (λ number opened. no_link number (IsAcceptedBy links k number) opened))

calm_meets : (end : EndId) (links : List Route) (what : Event) → IsCalm what → Meets end links what
calm_meets end links what calm = record {
  controllers = λ at same. by_calm (λ (one : Event). OpensWell (IsOfMember links) (IsMade links) one) (λ link. tt) tt tt what calm;
  members = λ k same. calm_member links k what calm;
  clients = λ k same. by_calm (λ (one : Event). MeetsClient links one k) (λ link. (tt, tt)) (tt, tt) (tt, tt) what calm;
}

-- ---- bytes come

none_later : (most : ℕ) (rest piece : List ℕ) → rest ≡ [] → OneOf (λ (one : List ℕ). one ≡ piece) (pieces_in most rest) → ⊥
none_later most [] piece is one = one
none_later most (byte ∷ rest) piece is one = absurd (let never = is in cc)

-- what is short comes in one piece
pub one_piece : (bytes piece : List ℕ) → length bytes ≤ 65536 → OneOf (λ (one : List ℕ). one ≡ piece) (pieces_of bytes) → bytes ≡ piece
unfolding pieces_of
one_piece [] piece few one = absurd one
one_piece (byte ∷ bytes) piece few one =
    elim one [
      | inl here ↦ sym (take_all piece_limit (byte ∷ bytes) few) ∙ here
      | inr later ↦ absurd (none_later (length bytes) (drop piece_limit (byte ∷ bytes)) piece (drop_all piece_limit (byte ∷ bytes) few) later)
    ]

-- what comes on a link between a member and a controller is one whole unit
pub comes_whole : (source : Source) (s : State) (w : Delivery) (piece : List ℕ) → WholeBag s.bag → CameFrom source s w piece → IsOfMember s.links w.link → IsOneUnit piece
comes_whole source s w piece whole from own =
    let in_unit : CameInUnit source s w piece = came_in_unit source s w piece own.0 own.1 from own.2 in
    let came : IsPieceOf s in_unit.number w piece = in_unit.piece_of in
    let route : came.route ≡ ToController own.0 own.1 = some_is came.route (ToController own.0 own.1) (sym came.made ∙ own.2) in
    let is : came.unit.kind ≡ kind.ToController = sym came.same_kind ∙ ap kind_of route in
    let send : IsWholeSend came.unit.bytes = (whole in_unit.number came.unit came.there).0 is in
    let same : came.unit.bytes ≡ piece = one_piece came.unit.bytes piece send.few came.part in
    subst IsOneUnit same (record { frames = send.frames; unit = send.unit; heard = send.heard })

bytes_meet : (end : EndId) (s : State) (w : Delivery) (piece : List ℕ) → WholeBag s.bag → CameFrom w.source s w piece → AreBytes piece → Meets end s.links (event.Bytes w.link piece)
bytes_meet end s w piece whole came bytes = record {
  controllers = λ at same own. comes_whole w.source s w piece whole came own;
  members = λ k same.
      ((λ own. comes_whole w.source s w piece whole came (k, own.controller, own.at)), bytes, (λ number opened. no_link number (IsAcceptedBy s.links k number) opened));
  clients = λ k same. (tt, bytes);
}

-- ---- an action is done

bag_more : (bag : List BagUnit) (unit : BagUnit) → WholeBag bag → WholeIfCarried unit.kind unit.bytes → WholeBag (bag ++ unit ∷ [])
bag_more bag unit whole last n one there =
    elim (at_end bag unit one n there) [
      | inl old ↦ whole n one old
      | inr new ↦ subst (λ (u : BagUnit). WholeIfCarried u.kind u.bytes) new.1 last
    ]

-- a link of that kind is between a member and a controller
members_link : (route : Route) → kind_of route ≡ kind.ToController → (member : ℕ) × ((controller : ℕ) × (route ≡ ToController member controller))
members_link (ToController member controller) is = (member, (controller, refl))
members_link (ToMember one server) is = absurd (let never = is in cc)
members_link (Between from to) is = absurd (let never = is in cc)
members_link (FromStation station controller) is = absurd (let never = is in cc)
members_link (Stranger to) is = absurd (let never = is in cc)

-- the units that an action sends are bytes, and whole where it goes to a controller
sent_whole : (end : EndId) (links : List Route) (what : Action) (link : ℕ) (bytes : List ℕ) (route : Route) → what ≡ Send link bytes → QuietAction end links what → slice_get links link ≡ Some route →
    WholeIfCarried (kind_of route) bytes
sent_whole end links what link bytes route is fine made =
    let all : QuietAction end links (Send link bytes) = subst (QuietAction end links) is fine in
    ((λ on. let own = members_link route on in all.0 (own.0, own.1.0, made ∙ ap (λ (r : Route). Some r) own.1.1)), all.1)

-- a world stands quiet by plans that are alike but for secrets
with_plans : (plans later : List MemberPlan) (tasks : List ClientPlan) (links : List Route) (units : List BagUnit) (ends : EndStates) (now : ℕ) (left : List (List ℕ)) → AreAlikeButSecrets plans later →
    StandsQuiet plans tasks links units ends now left → StandsQuiet later tasks links units ends now left
with_plans plans later tasks links units ends now left alike quiet = record {
  bag = quiet.bag;
  controllers = quiet.controllers;
  members = quiet.members;
  clients = quiet.clients;
  moment = quiet.moment;
  blocks = quiet.blocks;
  plans = names_alike IsName plans later alike quiet.plans;
  follow = quiet.follow;
}

units_quiet : (end : EndId) (what : Action) (s : State) → QuietAction end s.links what → QuietState s →
    StandsQuiet s.member_plans s.client_plans s.links (s.bag ++ units_of_action s.links end what) s.ends s.moment s.chances.left
units_quiet end what s fine quiet =
    units_by (λ (units : List BagUnit). StandsQuiet s.member_plans s.client_plans s.links (s.bag ++ units) s.ends s.moment s.chances.left) s.links end what
    (with_bag s (s.bag ++ []) quiet (subst WholeBag (sym (append-nil s.bag)) quiet.bag))
    (λ link bytes route sends made own.
    with_bag s (s.bag ++ unit_on route end link bytes ∷ []) quiet (bag_more s.bag (unit_on route end link bytes) quiet.bag (sent_whole end s.links what link bytes route sends fine made)))

action_quiet : (end : EndId) (what : Action) (s : State) → QuietAction end s.links what → QuietState s → QuietState (perform_quietly end what s)
action_quiet end what s fine quiet =
    with_plans s.member_plans (plans_after end what s.member_plans) s.client_plans s.links (s.bag ++ units_of_action s.links end what) s.ends s.moment s.chances.left (plans_alike end what s.member_plans)
    (units_quiet end what s fine quiet)

-- ---- one thing changes

settled_quiet : (number : ℕ) (s : State) → QuietState s → QuietState (settle number s)
settled_quiet number s quiet =
    with_bag s (settle_at number s.bag) quiet
    (λ n unit there.
    let before : (old : BagUnit) × (slice_get s.bag n ≡ Some old) = got_beside (settle_at number s.bag) s.bag n unit (settled_length number s.bag) there in
    let now : IsStill before.0 (settle_at number s.bag) n = kept_settled number s.bag n before.0 before.1 in
    let same : now.now ≡ unit = some_is now.now unit (sym now.there ∙ there) in
    subst (λ (u : BagUnit). WholeIfCarried u.kind u.bytes) same
    (subst (λ (bytes : List ℕ). WholeIfCarried now.now.kind bytes) (sym now.bytes)
    (subst (λ (k : LinkKind). WholeIfCarried k before.0.bytes) (sym now.kind) (quiet.bag n before.0 before.1))))

with_ends : (s : State) (ends : EndStates) → QuietState s → ((i : ℕ) (c : ControllerState) → slice_get ends.controllers i ≡ Some c → ControllerIsQuiet s.links c) →
    ((k : ℕ) (m : MemberState) → slice_get ends.members k ≡ Some m → MemberIsQuiet s.links k m.running) →
    ((k : ℕ) (c : ClientState) → slice_get ends.clients k ≡ Some c → ClientIsQuiet s.links k c) → StandsQuiet s.member_plans s.client_plans s.links s.bag ends s.moment s.chances.left
with_ends s ends quiet controllers members clients = record {
  bag = quiet.bag;
  controllers = controllers;
  members = members;
  clients = clients;
  moment = quiet.moment;
  blocks = quiet.blocks;
  plans = quiet.plans;
  follow = quiet.follow;
}

controller_renewed : (c : ControllerState) (at : ℕ) (s : State) → slice_get s.ends.controllers at ≡ Some c → QuietState s →
    StandsQuiet s.member_plans s.client_plans s.links s.bag (renew_controller (Some c) at s.ends) s.moment s.chances.left
controller_renewed c at s is quiet =
    let was : ControllerIsQuiet s.links c = quiet.controllers at c is in
    with_ends s (renew_controller (Some c) at s.ends) quiet
    (each_put (λ i (one : ControllerState). ControllerIsQuiet s.links one) s.ends.controllers at (controller.first_state c.table c.name)
    (λ i one other there. quiet.controllers i one there)
    (record { range = sends_are_whole.first c.table c.name was.range.table was.range.name; well = tt })) quiet.members quiet.clients

fresh_quiet : (links : List Route) (k : ℕ) (plan : MemberPlan) → IsName plan.computer → MemberIsQuiet links k (member.fresh_member plan).running
fresh_quiet links k plan name = record { range = members_send_whole.first plan name; turn = tt; accepted = tt }

member_renewed : (plan : MemberPlan) (at : ℕ) (s : State) → slice_get s.member_plans at ≡ Some plan → QuietState s →
    StandsQuiet s.member_plans s.client_plans s.links s.bag (renew_member (Some plan) at s.ends) s.moment s.chances.left
member_renewed plan at s is quiet =
    with_ends s (renew_member (Some plan) at s.ends) quiet quiet.controllers
    (each_put (λ i (one : MemberState). MemberIsQuiet s.links i one.running) s.ends.members at (member.fresh_member plan) (λ i one other there. quiet.members i one there)
    (fresh_quiet s.links at plan (quiet.plans at plan is))) quiet.clients

client_put : (at : ℕ) (new : ClientState) (s : State) → ClientIsQuiet s.links at new → QuietState s →
    StandsQuiet s.member_plans s.client_plans s.links s.bag (record s.ends { clients = slice_set s.ends.clients at new }) s.moment s.chances.left
client_put at new s is quiet =
    with_ends s (record s.ends { clients = slice_set s.ends.clients at new }) quiet quiet.controllers quiet.members
    (each_put (λ i (one : ClientState). ClientIsQuiet s.links i one) s.ends.clients at new (λ i one other there. quiet.clients i one there) is)

-- a client that begins anew
fresh_client : (links : List Route) (k : ℕ) (task : ClientPlan) → CanLogOn task → ClientIsQuiet links k (client.fresh_client task)
fresh_client links k task follows = record { stands = tt; range = record { task = follows; standing = tt } }

renewed_quiet : (end : EndId) (s : State) → QuietState s → QuietState (renewed end s)
renewed_quiet end s quiet =
    renew_by (λ (one : EndId) (ends : EndStates). StandsQuiet s.member_plans s.client_plans s.links s.bag ends s.moment s.chances.left) s (λ one. quiet) (λ at c is. controller_renewed c at s is quiet)
    (λ at plan is. member_renewed plan at s is quiet) (λ at plan is. client_put at (client.fresh_client plan) s (fresh_client s.links at plan (quiet.follow at plan is)) quiet) end

-- a member begins to change its secret
change_quiet : (n at : ℕ) (secret : List ℕ) (s : State) (given : Given) (b : Book) → QuietState s → HasHeard QuietFact QuietAction (n + 1) (Member at) (changed at secret s) given b
change_quiet n at secret s given b quiet = record {
  holds = by_change (λ (ends : EndStates) (actions : List Action). StandsQuiet s.member_plans s.client_plans s.links s.bag ends s.moment s.chances.left) at secret s.ends quiet
      (λ running is none.
      (let was : RunningIsQuiet s.links at running = quiet.members at (record { running = Some running }) is in
      with_ends s (with_member at (member_begun secret running) s.ends) quiet quiet.controllers
      (each_put (λ i (one : MemberState). MemberIsQuiet s.links i one.running) s.ends.members at (member_begun secret running) (λ i one other there. quiet.members i one there)
      (record { range = record { channel = was.range.channel; links = was.range.links; dialling = was.range.dialling }; turn = was.turn; accepted = was.accepted })) quiet.clients));
  fine = by_change (λ (ends : EndStates) (actions : List Action). AllByRecursion (QuietAction (Member at) s.links) actions) at secret s.ends tt (λ running is none. (tt, tt));
}

moment_by : (early : Bool) (more now : ℕ) → now < 2 ^ 64 → (if early then min (now + more) (2 ^ 63) else now) < 2 ^ 64
moment_by true more now below = omega arith
moment_by false more now below = below

-- ---- all moves

heard_quiet : (n : ℕ) (end : EndId) (what : Event) (s : State) (given : Given) (b : Book) → Meets end s.links what → QuietState s →
    HasHeard QuietFact QuietAction n end (hear end what s) given b
heard_quiet n end what s given b meets quiet =
    let stepped = end_steps s.member_plans s.client_plans s.links s.bag s.moment s.ends s.chances quiet end what meets in record { holds = stepped.stands; fine = stepped.fine }

pub quiet_keeps : StepKeeps NoFact QuietFact QuietAction
quiet_keeps = record {
  calm = λ n end what s given b calm none quiet. heard_quiet (n + 1) end what s given b (calm_meets end s.links what calm) quiet;
  dialled = λ n end link s given b side none quiet. heard_quiet (n + 1) end (event.Dialled link) s given b (dialled_meets end s.links link side) quiet;
  opens = λ n route s given b none quiet.
      heard_quiet (n + 1) (acceptor_of route) (event.Opened (length s.links)) (with_link route s) given b (last_meets (acceptor_of route) route s.links refl)
      (link_made s.member_plans s.client_plans s.links s.bag s.ends s.moment s.chances.left route quiet);
  begins = λ n k plan s given b is none quiet. record {
    holds = client_put k (client.begin_of (client.fresh_client plan)).state s (record { stands = tt; range = record { task = quiet.follow k plan is; standing = tt } }) quiet;
    fine = (tt, tt);
  };
  comes = λ n end w piece s given b side came bytes marked none quiet.
      let heard = heard_quiet (n + 1) end (event.Bytes w.link piece) s given b (bytes_meet end s w piece quiet.bag came bytes) quiet in record { holds = heard.holds; fine = heard.fine };
  acts = λ n end what s given b fine none quiet. action_quiet end what s fine quiet;
  shuts = λ n link s given b none quiet. quiet;
  answers = λ n link there s given b is none quiet. quiet;
  forgets = λ n end s given b none quiet. quiet;
  settles = λ n number s given b none quiet. settled_quiet number s quiet;
  dials = λ n s given b none quiet. quiet;
  renews = λ n end s given b none quiet. renewed_quiet end s quiet;
  changes = λ n at secret s given b none quiet. change_quiet n at secret s given b quiet;
  ticks = λ n more s given b none quiet. record {
    bag = quiet.bag;
    controllers = quiet.controllers;
    members = quiet.members;
    clients = quiet.clients;
    moment = moment_by (nat_le s.moment (2 ^ 63)) more s.moment quiet.moment;
    blocks = quiet.blocks;
    plans = quiet.plans;
    follow = quiet.follow;
  };
  over = λ n at s given b none quiet. quiet;
}

-- ---- at first

controllers_first : (links : List Route) (hands_on : Bool) (tables : List AccountTable) (names : List (List ℕ)) → All IsTable tables → All IsName names → (i : ℕ) (c : ControllerState) →
    slice_get (first_controllers hands_on false tables names) i ≡ Some c → ControllerIsQuiet links c
controllers_first links hands_on [] names ranges are i c there = absurd (got_nothing i c there)
controllers_first links hands_on (table ∷ tables) [] ranges are i c there = absurd (got_nothing i c there)
controllers_first links hands_on (table ∷ tables) (name ∷ names) ranges are zero c there =
    let range = sends_are_whole.first table name (table_in_range table (All-head IsTable table tables ranges)) (All-head IsName name names are) in
    subst (λ (one : ControllerState). ControllerIsQuiet links one) (some_is (fresh_controller hands_on false table name) c there)
    (fresh_by (λ (one : ControllerState). ControllerIsQuiet links one) table name (record { range = range; well = tt })
    (record { range = record { name = range.name; table = range.table; running = range.running }; well = tt }) hands_on)
controllers_first links hands_on (table ∷ tables) (name ∷ names) ranges are (suc i) c there =
    controllers_first links hands_on tables names (All-tail IsTable table tables ranges) (All-tail IsName name names are) i c there

plans_first : (plans : List MemberPlan) → All IsMemberPlan plans → (k : ℕ) (plan : MemberPlan) → slice_get plans k ≡ Some plan → IsName plan.computer
plans_first [] are k plan there = absurd (got_nothing k plan there)
plans_first (first ∷ plans) are zero plan there =
    subst (λ (p : MemberPlan). IsName p.computer) (some_is first plan there) (All-head IsMemberPlan first plans are).computer
plans_first (first ∷ plans) are (suc k) plan there = plans_first plans (All-tail IsMemberPlan first plans are) k plan there

members_first : (links : List Route) (start : ℕ) (plans : List MemberPlan) → All IsMemberPlan plans → (k : ℕ) (m : MemberState) → slice_get (map member.fresh_member plans) k ≡ Some m →
    MemberIsQuiet links (start + k) m.running
members_first links start [] are k m there = absurd (got_nothing k m there)
members_first links start (plan ∷ plans) are zero m there =
    subst (λ (one : MemberState). MemberIsQuiet links (start + 0) one.running) (some_is (member.fresh_member plan) m there)
    (fresh_quiet links (start + 0) plan (All-head IsMemberPlan plan plans are).computer)
members_first links start (plan ∷ plans) are (suc k) m there =
    subst (λ (n : ℕ). MemberIsQuiet links n m.running) (let e : (start + 1) + k ≡ start + suc k = omega arith in e)
    (members_first links (start + 1) plans (All-tail IsMemberPlan plan plans are) k m there)

clients_first : (links : List Route) (plans : List ClientPlan) (number k : ℕ) (c : ClientState) → All CanLogOn plans → slice_get (map client.fresh_client plans) k ≡ Some c →
    ClientIsQuiet links number c
clients_first links [] number k c all there = absurd (got_nothing k c there)
clients_first links (plan ∷ plans) number zero c all there =
    subst (λ (one : ClientState). ClientIsQuiet links number one) (some_is (client.fresh_client plan) c there) (fresh_client links number plan (All-head CanLogOn plan plans all))
clients_first links (plan ∷ plans) number (suc k) c all there = clients_first links plans number k c (All-tail CanLogOn plan plans all) there

tasks_first : (plans : List ClientPlan) → All CanLogOn plans → (k : ℕ) (plan : ClientPlan) → slice_get plans k ≡ Some plan → CanLogOn plan
tasks_first [] all k plan there = absurd (got_nothing k plan there)
tasks_first (first ∷ plans) all zero plan there = subst CanLogOn (some_is first plan there) (All-head CanLogOn first plans all)
tasks_first (first ∷ plans) all (suc k) plan there = tasks_first plans (All-tail CanLogOn first plans all) k plan there

pub quiet_first : (plan : Plan) → IsPlan plan → HasForms plan → QuietState (plain_world plan).state
quiet_first plan start forms = record {
  bag = λ n unit there. absurd (got_nothing n unit there);
  controllers = controllers_first [] plan.hands_on plan.tables plan.controllers forms.tables forms.controllers;
  members = λ k m there.
      subst (λ (n : ℕ). MemberIsQuiet [] n m.running) (let e : 0 + k ≡ k = omega arith in e) (members_first [] 0 plan.members forms.members k m there);
  clients = λ k c there. clients_first [] plan.clients k k c start.clients there;
  moment = forms.now;
  blocks = first_left_blocks plan;
  plans = plans_first plan.members forms.members;
  follow = tasks_first plan.clients start.clients;
}

-- ---- a run

pub bytes_handed : (bytes : List ℕ) → All IsByte bytes → AreBytes bytes
bytes_handed bytes are = bytes_from_all bytes are

secret_handed : (secret : List ℕ) → IsBlock 16 secret → IsSecret secret
secret_handed secret is = (is.0, bytes_from_all secret is.1)

handed : (moves : List Move) → All HasMoveForm moves → AllByRecursion HandsBytes moves
handed [] forms = tt
handed (move.Hand link back bytes ∷ moves) forms =
    (bytes_handed bytes (All-head HasMoveForm (move.Hand link back bytes) moves forms).1, handed moves (All-tail HasMoveForm (move.Hand link back bytes) moves forms))
handed (move.Start number ∷ moves) forms = (tt, handed moves (All-tail HasMoveForm (move.Start number) moves forms))
handed (move.Stranger number ∷ moves) forms = (tt, handed moves (All-tail HasMoveForm (move.Stranger number) moves forms))
handed (move.Connect ∷ moves) forms = (tt, handed moves (All-tail HasMoveForm move.Connect moves forms))
handed (move.FailDial ∷ moves) forms = (tt, handed moves (All-tail HasMoveForm move.FailDial moves forms))
handed (move.Onward ∷ moves) forms = (tt, handed moves (All-tail HasMoveForm move.Onward moves forms))
handed (move.Lose ∷ moves) forms = (tt, handed moves (All-tail HasMoveForm move.Lose moves forms))
handed (move.Deliver unit link ∷ moves) forms = (tt, handed moves (All-tail HasMoveForm (move.Deliver unit link) moves forms))
handed (move.Shut number ∷ moves) forms = (tt, handed moves (All-tail HasMoveForm (move.Shut number) moves forms))
handed (move.Restart number ∷ moves) forms = (tt, handed moves (All-tail HasMoveForm (move.Restart number) moves forms))
handed (move.Change member secret ∷ moves) forms =
    (secret_handed secret (All-head HasMoveForm (move.Change member secret) moves forms).1, handed moves (All-tail HasMoveForm (move.Change member secret) moves forms))
handed (move.Tick more ∷ moves) forms = (tt, handed moves (All-tail HasMoveForm (move.Tick more) moves forms))

-- the units of a quiet bag are short, and have bytes
quiet_bag : (bag : List BagUnit) → WholeBag bag → IsBytesBag bag
quiet_bag bag whole = record {
  short = λ n unit there. (whole n unit there).1.short;
  bytes = λ n unit there. (whole n unit there).1.are;
}

quiet_after : OfSchedules (HoldsAfterRun QuietFact)
quiet_after plan moves nobody is =
    run_carries QuietFact QuietAction quiet_keeps (λ n s b quiet. quiet_bag s.bag quiet.bag) plan moves nobody (handed moves is.move_forms) (quiet_first plan is.start is.forms)

-- what is known of the units of a world, of a schedule
pub has_bytes : OfSchedules HasBytes
has_bytes plan moves nobody is =
    let bag : List BagUnit = (past plan moves).world.state.bag in
    let known : IsBytesBag bag = quiet_bag bag (quiet_after plan moves nobody is).holds.bag in
    record { short = short_units bag known.short; bytes = units_have_bytes bag known.bytes; handed = handed moves is.move_forms }

pub units_short : OfSchedules (λ plan moves. AreShortUnits (run moves (first_world plan)).state.bag)
units_short plan moves nobody is = (has_bytes plan moves nobody is).short

pub units_bytes : OfSchedules (λ plan moves. HaveBytes (run moves (first_world plan)).state.bag)
units_bytes plan moves nobody is = (has_bytes plan moves nobody is).bytes

quiet_turn : (links : List Route) (k : ℕ) (how : Dialling) → IfOn (IsDialledBy links k) how → IsQuietTurn how
quiet_turn links k dialling.Nothing on = tt
quiet_turn links k (dialling.Waits turn frames) on = tt
quiet_turn links k (dialling.On number said) on = (on.rest, on.joiner)

quiet_running : (links : List Route) (k : ℕ) (r : Option Running) (running : Running) → r ≡ Some running → MemberIsQuiet links k r → IsQuietTurn running.dialling
quiet_running links k None running is quiet = absurd (let never = is in cc)
quiet_running links k (Some one) running is quiet = subst (λ (x : Running). IsQuietTurn x.dialling) (some_is one running is) (quiet_turn links k one.dialling quiet.turn)

quiet_links : (links : List Route) (r : Option ControllerRunning) (running : ControllerRunning) → r ≡ Some running → WellUnlessStopped (IsOfMember links) (IsMade links) r →
    AllByRecursion (IsQuietLink links) running.links
quiet_links links None running is well = absurd (let never = is in cc)
quiet_links links (Some one) running is well =
    subst (λ (x : ControllerRunning). AllByRecursion (IsQuietLink links) x.links) (some_is one running is)
    (entries_so (ListensWell (IsOfMember links) (IsMade links)) (λ number link. IsQuietLink links (number, link)) (λ number link one own. (one.rest own, one.joiner own)) one.links well)

pub is_quiet : (s : State) → QuietState s → NothingIsOpen s
is_quiet s quiet = record {
  bag = λ n unit there is. let send : IsWholeSend unit.bytes = (quiet.bag n unit there).0 is in
      (record { frames = send.frames; unit = send.unit; heard = send.heard }, send.few);
  controllers = λ i c running there is. quiet_links s.links c.running running is (quiet.controllers i c there).well;
  members = λ k m running there is. quiet_running s.links k m.running running is (quiet.members k m there);
}

pub stands_quiet : OfSchedules (λ plan moves. NothingIsOpen (past plan moves).world.state)
stands_quiet plan moves nobody is = is_quiet (past plan moves).world.state (quiet_after plan moves nobody is).holds
