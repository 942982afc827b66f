-- That the moves of one logon change its three ends alone.
-- Of `others_are_left`.
use Rattle.std.proofs.Common.{◌≡◌, ◌≢◌, ◌-◌, ℕ, zero, suc, Bool, true, false, List, [], ◌∷◌, ◌++◌, length, Option, Some, None, refl, sym, ap, subst, ◌∙◌, slice_get, slice_set, if◌then◌else◌}
use Rattle.wire_base.specs.Maps.{lookup, put, same_number, take_out}
use Rattle.outside.specs.declared.action.Action.{Action}
use Rattle.outside.specs.declared.event.Event.{Event}
use Rattle.outside.specs.declared.event.Event.TheVariants as event
use Rattle.domain_controller.specs.State.{State as ControllerState}
use Rattle.domain_controller.specs.SealStep.{seal_step_of as controller_step_of}
use Rattle.interactive_station.specs.declared.plan.StationPlan.{StationPlan}
use Rattle.logon_client.specs.declared.plan.ClientPlan.{ClientPlan}
use Rattle.logon_client.specs.State.{State as ClientState}
use Rattle.logon_client.specs.Machine.{begin_of, fresh_client, step_of as client_step_of}
use Rattle.member_server.specs.State.{State as MemberState}
use Rattle.member_server.specs.SealStep.{any_step_of as member_step_of}
use Rattle.world_moves.specs.declared.bag.BagUnit.{BagUnit}
use Rattle.world_moves.specs.declared.links.EndId.{EndId}
use Rattle.world_moves.specs.declared.links.EndId.TheVariants.{Client, Station}
use Rattle.world_moves.specs.declared.links.OpenLink.{OpenLink}
use Rattle.world_moves.specs.declared.links.Route.{Route}
use Rattle.world_moves.specs.declared.links.Route.TheVariants.{Between, FromStation, Stranger, ToController, ToMember}
use Rattle.world_moves.specs.declared.moves.Move.{Move}
use Rattle.world_moves.specs.declared.state.State.{State}
use Rattle.world_moves.specs.declared.state.WaitingDial.{WaitingDial}
use Rattle.world_moves.specs.Acting.{AfterHearing, close_open, closed_at, forget, hear, hear_and_act, hear_and_act_if, heard_by, link_closed, perform, perform_all, perform_all_quietly, perform_by, perform_quietly, piece_comes, pieces_come, shut_link}
use Rattle.world_moves.specs.Bag.{first_waiting, pieces_of}
use Rattle.world_moves.specs.Ends.{EndStep, client_done, controller_done, member_done}
use Rattle.world_moves.specs.Links.{OpenMap, accepted, acceptor_of, answered, dialler_of, end_if, forget_end, hearer_of, hearer_on, is_accepted_by, other_hearer}
use Rattle.world_moves.specs.Moving.{act, answer_by, answered_link, begun, come_by, come_on_own, connect_by, connect_first, end_of_peer, onward_by, open_link, route_to, settle, start_at, start_by, start_station_by, station_begun, with_link, without_first}
use Rattle.world_moves.proofs.EndKindLaws.{step_by}
use Rattle.logon_runs.specs.Scenes.Others.{AreAmong, IsAmong, IsDialAmong, IsOneOf, IsRoutedAmong, IsStepOn, OthersAreLeft, OthersStay, Three}
use Rattle.logon_runs.proofs.Scenes.StepOnLaws.{by_step}

-- ---- lists

pub got_other : {A : Type 0} (items : List A) (at other : ℕ) (item : A) → other ≢ at → slice_get (slice_set items at item) other ≡ slice_get items other
got_other [] at other item apart = refl
got_other (first ∷ items) zero zero item apart = absurd (apart refl)
got_other (first ∷ items) zero (suc other) item apart = refl
got_other (first ∷ items) (suc at) zero item apart = refl
got_other (first ∷ items) (suc at) (suc other) item apart = got_other items at other item (λ is. apart (ap suc is))

-- ---- links that are open

IsAmongIf : Three → Option OpenLink → Type 0
IsAmongIf t None = Unit {0}
IsAmongIf t (Some there) = IsAmong t there.route

module _ (t : Three) (number : ℕ) where
  found_if : (b : Bool) (there : OpenLink) (more : Option OpenLink) → IsAmong t there.route → IsAmongIf t more → IsAmongIf t (if b then Some there else more)
  unfolding IsAmongIf
  found_if true there more is then_is = is
  found_if false there more is then_is = then_is

  found : (links : OpenMap) → AreAmong t links → IsAmongIf t (lookup same_number number links)
  unfolding IsAmongIf
  found [] are = tt
  found (entry ∷ links) are = found_if (same_number number entry.0) entry.1 (lookup same_number number links) are.0 (found links are.1)

  without_if : (b : Bool) (entry : ℕ × OpenLink) (links less : OpenMap) → IsAmong t entry.1.route → AreAmong t links → AreAmong t less → AreAmong t (if b then links else entry ∷ less)
  without_if true entry links less is are then_are = are
  without_if false entry links less is are then_are = (is, then_are)

  without : (links : OpenMap) → AreAmong t links → AreAmong t (take_out same_number number links)
  without [] are = tt
  without (entry ∷ links) are = without_if (same_number number entry.0) entry links (take_out same_number number links) are.0 are.1 (without links are.1)

  put_if : (b : Bool) (entry : ℕ × OpenLink) (there : OpenLink) (links more : OpenMap) → IsAmong t there.route → IsAmong t entry.1.route → AreAmong t links → AreAmong t more →
      AreAmong t (if b then (number, there) ∷ links else entry ∷ more)
  put_if true entry there links more is is_first are then_are = (is, are)
  put_if false entry there links more is is_first are then_are = (is_first, then_are)

  pub put_so : (there : OpenLink) (links : OpenMap) → IsAmong t there.route → AreAmong t links → AreAmong t (put same_number number there links)
  put_so there [] is are = (is, tt)
  put_so there (entry ∷ links) is are = put_if (same_number number entry.0) entry there links (put same_number number there links) is are.0 are.1 (put_so there links is are.1)

  pub more_so : (there : OpenLink) (links : OpenMap) → IsAmong t there.route → AreAmong t links → AreAmong t (links ++ (number, there) ∷ [])
  more_so there [] is are = (is, tt)
  more_so there (entry ∷ links) is are = (are.0, more_so there links is are.1)

-- ---- one state, and others

staying : (t : Three) (s : State) → AreAmong t s.open_links → OthersStay t s s
staying t s are = record { controllers = λ at apart. refl; members = λ at apart. refl; clients = λ at apart. refl; links = are }

-- the ends stay, whatever the links
of_same : (t : Three) (s after : State) → after.ends ≡ s.ends → AreAmong t after.open_links → OthersStay t s after
of_same t s after same are = record {
  controllers = λ at apart. ap (λ ends. slice_get ends.controllers at) same;
  members = λ at apart. ap (λ ends. slice_get ends.members at) same;
  clients = λ at apart. ap (λ ends. slice_get ends.clients at) same;
  links = are;
}

both_stay : (t : Three) (s between after : State) → OthersStay t s between → OthersStay t between after → OthersStay t s after
both_stay t s between after first then_so = record {
  controllers = λ at apart. then_so.controllers at apart ∙ first.controllers at apart;
  members = λ at apart. then_so.members at apart ∙ first.members at apart;
  clients = λ at apart. then_so.clients at apart ∙ first.clients at apart;
  links = then_so.links;
}

-- ---- an end hears something

module _ (t : Three) (what : Event) (s : State) (are : AreAmong t s.open_links) where
  controller_heard : (at : ℕ) (c : ControllerState) → at ≡ t.controller → OthersStay t s (heard_by (controller_done (controller_step_of c what s.moment s.chances.left) at s.ends s.chances) s).state
  controller_heard at c is = record {
    controllers = λ other apart. got_other s.ends.controllers at other (controller_step_of c what s.moment s.chances.left).state (λ same. apart (same ∙ is));
    members = λ other apart. refl;
    clients = λ other apart. refl;
    links = are;
  }

  member_heard : (at : ℕ) (m : MemberState) → at ≡ t.member → OthersStay t s (heard_by (member_done (member_step_of m what s.moment s.chances.left) at s.ends s.chances) s).state
  member_heard at m is = record {
    controllers = λ other apart. refl;
    members = λ other apart. got_other s.ends.members at other (member_step_of m what s.moment s.chances.left).state (λ same. apart (same ∙ is));
    clients = λ other apart. refl;
    links = are;
  }

  client_heard : (at : ℕ) (c : ClientState) → at ≡ t.client → OthersStay t s (heard_by (client_done (client_step_of c what s.moment s.chances.left) at s.ends s.chances) s).state
  client_heard at c is = record {
    controllers = λ other apart. refl;
    members = λ other apart. refl;
    clients = λ other apart. got_other s.ends.clients at other (client_step_of c what s.moment s.chances.left).state (λ same. apart (same ∙ is));
    links = are;
  }

  heard_stays : (end : EndId) → IsOneOf t end → OthersStay t s (hear end what s).state
  heard_stays =
      step_by (λ (end : EndId) (step : EndStep). IsOneOf t end → OthersStay t s (heard_by step s).state) what s.moment s.ends s.chances (λ end is. of_same t s _ refl are)
      (λ at c there is. controller_heard at c is) (λ at m there is. member_heard at m is) (λ at c there is. client_heard at c is)
      (λ at t there is. absurd is)

-- ---- what it then does

quiet_stays : (t : Three) (end : EndId) (what : Action) (s : State) → AreAmong t s.open_links → OthersStay t s (perform_quietly end what s)
quiet_stays t end what s are = of_same t s (perform_quietly end what s) refl are

all_quiet_stays : (t : Three) (end : EndId) (actions : List Action) (s : State) → AreAmong t s.open_links → OthersStay t s (perform_all_quietly end actions s)
all_quiet_stays t end [] s are = staying t s are
all_quiet_stays t end (what ∷ actions) s are =
    let first = quiet_stays t end what s are in
    both_stay t s (perform_quietly end what s) _ first (all_quiet_stays t end actions (perform_quietly end what s) first.links)

-- the end at a side of a link between the three is one of them
IsOneIf : Three → Option EndId → Type 0
IsOneIf t None = Unit {0}
IsOneIf t (Some end) = IsOneOf t end

end_if_so : (t : Three) (b : Bool) (end : Option EndId) → IsOneIf t end → IsOneIf t (end_if b end)
unfolding IsOneIf
end_if_so t true end is = is
end_if_so t false end is = tt

dialler_so : (t : Three) (route : Route) → IsAmong t route → IsOneIf t (dialler_of route)
unfolding IsOneIf
dialler_so t (ToMember client member) is = is.0
dialler_so t (ToController member controller) is = is.0
dialler_so t (Between from to) is = absurd is
dialler_so t (FromStation station controller) is = absurd is
dialler_so t (Stranger to) is = absurd is

acceptor_so : (t : Three) (route : Route) → IsAmong t route → IsOneOf t (acceptor_of route)
acceptor_so t (ToMember client member) is = is.1
acceptor_so t (ToController member controller) is = is.1
acceptor_so t (Between from to) is = absurd is
acceptor_so t (FromStation station controller) is = absurd is
acceptor_so t (Stranger to) is = absurd is

hearer_so : (t : Three) (back : Bool) (there : OpenLink) → IsAmong t there.route → IsOneIf t (hearer_on back there)
unfolding IsOneIf
hearer_so t false there is = end_if_so t there.acceptor (Some (acceptor_of there.route)) (acceptor_so t there.route is)
hearer_so t true there is = end_if_so t there.dialler (dialler_of there.route) (dialler_so t there.route is)

closed_stays : (t : Three) (end : Option EndId) (link : ℕ) (s : State) → IsOneIf t end → AreAmong t s.open_links → OthersStay t s (closed_at end link s).state
unfolding IsOneIf
closed_stays t None link s is are = staying t s are
closed_stays t (Some end) link s is are =
    let heard : AfterHearing = hear end (event.Closed link) s in
    let first : OthersStay t s heard.state = heard_stays t (event.Closed link) s are end is in
    both_stay t s heard.state _ first (all_quiet_stays t end heard.actions heard.state first.links)

close_stays : (t : Three) (there : Option OpenLink) (end : EndId) (link : ℕ) (s : State) → IsAmongIf t there → AreAmong t s.open_links → OthersStay t s (close_open there end link s).state
unfolding IsAmongIf
close_stays t None end link s is are = staying t s are
close_stays t (Some there) end link s is are =
    let less : AreAmong t (shut_link link s).open_links = without t link s.open_links are in
    both_stay t s (shut_link link s) _ (of_same t s _ refl less) (closed_stays t (other_hearer end there) link (shut_link link s) (hearer_so t (is_accepted_by end there.route) there is) less)

perform_by_stays : (t : Three) (closed : Option ℕ) (end : EndId) (what : Action) (s : State) → AreAmong t s.open_links → OthersStay t s (perform_by closed end what s).state
perform_by_stays t None end what s are = quiet_stays t end what s are
perform_by_stays t (Some link) end what s are = close_stays t (lookup same_number link s.open_links) end link s (found t link s.open_links are) are

perform_stays : (t : Three) (end : EndId) (what : Action) (s : State) → AreAmong t s.open_links → OthersStay t s (perform end what s).state
perform_stays t end what s are = perform_by_stays t (link_closed what) end what s are

actions_stay : (t : Three) (end : EndId) (actions : List Action) (s : State) → AreAmong t s.open_links → OthersStay t s (perform_all end actions s).state
actions_stay t end [] s are = staying t s are
actions_stay t end (what ∷ actions) s are =
    let first = perform_stays t end what s are in
    both_stay t s (perform end what s).state _ first (actions_stay t end actions (perform end what s).state first.links)

hears_stay : (t : Three) (end : EndId) (what : Event) (s : State) → IsOneOf t end → AreAmong t s.open_links → OthersStay t s (hear_and_act end what s).state
hears_stay t end what s is are =
    let heard : AfterHearing = hear end what s in
    let first : OthersStay t s heard.state = heard_stays t what s are end is in
    both_stay t s heard.state _ first (actions_stay t end heard.actions heard.state first.links)

hears_if_stay : (t : Three) (end : Option EndId) (what : Event) (s : State) → IsOneIf t end → AreAmong t s.open_links → OthersStay t s (hear_and_act_if end what s).state
unfolding IsOneIf
hears_if_stay t None what s is are = staying t s are
hears_if_stay t (Some end) what s is are = hears_stay t end what s is are

-- ---- a unit comes

hearer_found : (t : Three) (back : Bool) (there : Option OpenLink) → IsAmongIf t there → IsOneIf t (hearer_of back there)
unfolding IsAmongIf IsOneIf
hearer_found t back None is = tt
hearer_found t back (Some there) is = hearer_so t back there is

pieces_stay : (t : Three) (back : Bool) (link : ℕ) (pieces : List (List ℕ)) (s : State) → AreAmong t s.open_links → OthersStay t s (pieces_come back link pieces s).state
pieces_stay t back link [] s are = staying t s are
pieces_stay t back link (piece ∷ pieces) s are =
    let first = hears_if_stay t (hearer_of back (lookup same_number link s.open_links)) (event.Bytes link piece) s
    (hearer_found t back (lookup same_number link s.open_links) (found t link s.open_links are)) are in
    both_stay t s (piece_comes back link piece s).state _ first (pieces_stay t back link pieces (piece_comes back link piece s).state first.links)

come_stays : (t : Three) (unit : Option BagUnit) (link : ℕ) (s : State) → AreAmong t s.open_links → OthersStay t s (come_by unit link s).state
come_stays t None link s are = staying t s are
come_stays t (Some unit) link s are = pieces_stay t unit.back link (pieces_of unit.bytes) s are

own_stays : (t : Three) (unit : Option BagUnit) (number : ℕ) (s : State) → AreAmong t s.open_links → OthersStay t s (come_on_own unit number s).state
own_stays t None number s are = staying t s are
own_stays t (Some unit) number s are =
    both_stay t s (settle number s) _ (of_same t s _ refl are) (come_stays t (slice_get (settle number s).bag number) unit.link (settle number s) are)

onward_stays : (t : Three) (number : Option ℕ) (s : State) → AreAmong t s.open_links → OthersStay t s (onward_by number s).state
onward_stays t None s are = staying t s are
onward_stays t (Some number) s are = own_stays t (slice_get s.bag number) number s are

-- ---- a dial is answered

open_stays : (t : Three) (route : Route) (s : State) → IsAmong t route → AreAmong t s.open_links → OthersStay t s (open_link route s).state
open_stays t route s is are =
    let more : AreAmong t (with_link route s).open_links = more_so t (length s.links) (accepted route) s.open_links is are in
    both_stay t s (with_link route s) _ (of_same t s _ refl more) (hears_stay t (acceptor_of route) (event.Opened (length s.links)) (with_link route s) (acceptor_so t route is) more)

answer_stays : (t : Three) (there : Option OpenLink) (end : EndId) (link : ℕ) (s : State) → IsAmongIf t there → IsOneOf t end → AreAmong t s.open_links →
    OthersStay t s (answer_by there end link s).state
unfolding IsAmongIf IsOneIf
answer_stays t None end link s is one are =
    let first = hears_stay t end (event.Dialled link) s one are in
    both_stay t s (hear_and_act end (event.Dialled link) s).state _ first (closed_stays t (Some end) link (hear_and_act end (event.Dialled link) s).state one first.links)
answer_stays t (Some there) end link s is one are =
    let more : AreAmong t (answered_link link there s).open_links = put_so t link (answered there) s.open_links is are in
    both_stay t s (answered_link link there s) _ (of_same t s _ refl more) (hears_stay t end (event.Dialled link) (answered_link link there s) one more)

connect_stays : (t : Three) (route : Option Route) (end : EndId) (s : State) → IsOneOf t end → IsRoutedAmong t route → AreAmong t s.open_links → OthersStay t s (connect_by route end s).state
connect_stays t None end s one is are = hears_stay t end event.DialFailed s one are
connect_stays t (Some route) end s one is are =
    let later : State = (open_link route s).state in
    let first : OthersStay t s later = open_stays t route s is are in
    both_stay t s later _ first
    (answer_stays t (lookup same_number (length s.links) later.open_links) end (length s.links) later (found t (length s.links) later.open_links first.links) one first.links)

connect_first_stays : (t : Three) (first : Option WaitingDial) (s : State) → IsDialAmong t s first → AreAmong t s.open_links → OthersStay t s (connect_first first s).state
connect_first_stays t None s is are = staying t s are
connect_first_stays t (Some first) s is are = connect_stays t (route_to first.end (end_of_peer first.peer s.ends)) first.end s is.0 is.1 are

without_first_is : (t : Three) (s : State) (first : Option WaitingDial) → IsDialAmong t s first → IsDialAmong t (without_first s) first
without_first_is t s None is = tt
without_first_is t s (Some first) is = is

-- ---- a move

steps_stay : (t : Three) (s : State) (what : Move) → IsStepOn what → AreAmong t s.open_links → IsDialAmong t s (slice_get s.dials 0) → OthersStay t s (act s what).state
steps_stay t s what steps are is =
    by_step (λ (what : Move). OthersStay t s (act s what).state)
    (both_stay t s (without_first s) _ (of_same t s _ refl are) (connect_first_stays t (slice_get s.dials 0) (without_first s) (without_first_is t s (slice_get s.dials 0) is) are))
    (onward_stays t (first_waiting s.bag) s are) (λ more. of_same t s _ refl are) what steps

-- a station that starts changes none of them
station_by_stays : (t : Three) (plan : Option StationPlan) (at : ℕ) (s : State) → s.open_links ≡ [] → OthersStay t s (start_station_by plan at s).state
station_by_stays t None at s none = staying t s (subst (AreAmong t) (sym none) tt)
station_by_stays t (Some plan) at s none =
    let heard : AfterHearing = station_begun at plan (forget (Station at) s) in
    let first : OthersStay t s heard.state = record {
      controllers = λ other apart. refl;
      members = λ other apart. refl;
      clients = λ other apart. refl;
      links = subst (λ (links : OpenMap). AreAmong t (forget_end (Station at) links)) (sym none) tt;
    } in
    both_stay t s heard.state _ first (actions_stay t (Station at) heard.actions heard.state first.links)

start_by_stays : (t : Three) (plan : Option ClientPlan) (s : State) → s.open_links ≡ [] → OthersStay t s (start_by plan t.client s).state
start_by_stays t None s none =
    station_by_stays t (slice_get s.station_plans (t.client - length s.client_plans)) (t.client - length s.client_plans) s none
start_by_stays t (Some plan) s none =
    let heard : AfterHearing = begun t.client plan (forget (Client t.client) s) in
    let first : OthersStay t s heard.state = record {
      controllers = λ at apart. refl;
      members = λ at apart. refl;
      clients = λ at apart. got_other s.ends.clients t.client at (begin_of (fresh_client plan)).state apart;
      links = subst (λ (links : OpenMap). AreAmong t (forget_end (Client t.client) links)) (sym none) tt;
    } in
    both_stay t s heard.state _ first (actions_stay t (Client t.client) heard.actions heard.state first.links)

pub others_are_left : OthersAreLeft
others_are_left = record {
  steps = steps_stay;
  starts = λ t s number chosen none.
      subst (λ (at : Option ℕ). OthersStay t s (start_at at s).state) (sym chosen) (start_by_stays t (slice_get s.client_plans t.client) s none);
  none = staying;
  both = both_stay;
}
