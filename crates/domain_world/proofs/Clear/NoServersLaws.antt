-- Without controllers, or without members, no credential clashes: no link leads from a member to a controller.
-- It serves `Proved.one_by_one`.
use Rattle.std.proofs.Common.{◌≡◌, ℕ, zero, suc, ◌+◌, ◌-◌, Bool, true, false, List, [], ◌∷◌, ◌++◌, length, Option, Some, None, inl, inr, refl, sym, ap, ap₂, subst, ◌∙◌, slice_get, arith}
use Rattle.std.specs.Prelude.{◌⊎◌, drop, filter}
use Rattle.std.specs.List.{AllByRecursion}
use Rattle.std.proofs.lemmas.Bool.{cases_Bool}
use Rattle.wire_base.specs.Maps.{lookup, same_number}
use Rattle.outside.specs.declared.action.Action.{Action}
use Rattle.outside.specs.declared.action.Action.TheVariants as action
use Rattle.outside.specs.declared.event.Event.{Event}
use Rattle.outside.specs.declared.event.Event.TheVariants as event
use Rattle.end_links.specs.Serving.{ServedUnit}
use Rattle.logon_client.specs.declared.plan.ClientPlan.{ClientPlan}
use Rattle.member_server.specs.State.{State as MemberState}
use Rattle.member_server.specs.Turns.{AtTurn}
use Rattle.member_server.specs.declared.state.Running.{Running}
use Rattle.channel_turns.specs.declared.state.Dialling.{Dialling}
use Rattle.channel_turns.specs.declared.state.Dialling.TheVariants as dialling
use Rattle.channel_turns.specs.declared.state.TurnTalk.{TurnTalk}
use Rattle.step_notes.specs.MemberNotes.{turn_units, turn_units_in, turn_units_on}
use Rattle.step_notes.specs.Records.{Book, OfMember, blank, unit_in}
use Rattle.world_moves.specs.declared.bag.BagUnit.{BagUnit}
use Rattle.world_moves.specs.declared.links.EndId.{EndId}
use Rattle.world_moves.specs.declared.links.EndId.TheVariants.{Client, Controller, Member, Station}
use Rattle.world_moves.specs.declared.links.OpenLink.{OpenLink}
use Rattle.world_moves.specs.declared.links.Route.{Route}
use Rattle.world_moves.specs.declared.links.Route.TheVariants.{Between, FromStation, Stranger, ToController, ToMember}
use Rattle.world_moves.specs.declared.moves.Move.{Move}
use Rattle.world_moves.specs.declared.plan.Plan.{Plan}
use Rattle.world_moves.specs.declared.state.State.{State}
use Rattle.world_moves.specs.declared.state.WaitingDial.{WaitingDial}
use Rattle.world_moves.specs.Acting.{Given, AfterHearing, close_open, dials_of_action, forget, hear, hear_and_act, is_of_other, link_closed, perform, perform_all, perform_by, units_of_action, Acted}
use Rattle.world_moves.specs.Bag.{first_waiting, pieces_of}
use Rattle.world_moves.specs.Forms.{IsSchedule}
use Rattle.world_moves.specs.Links.{OpenMap, acceptor_of, forget_end}
use Rattle.world_moves.specs.Moving.{act, answer_by, answered_link, begun, come_by, come_on_own, connect_by, connect_first, end_of_peer, onward_by, route_to, settle, start_at, start_by, with_link, without_first, changed, start_station_by, station_begun}
use Rattle.world_moves.specs.World.{World, first_world, happens, run}
use Rattle.world_moves.proofs.PlainLaws.{none_start}
use Rattle.world_moves.proofs.StateFrameLaws.{HoldsActing, actions_so, closed_so, hears_so, pieces_so}
use Rattle.logon_runs.specs.Scenes.Others.{IsStepOn}
use Rattle.logon_runs.specs.Scenes.Staying.{HasSameEnds}
use Rattle.logon_runs.specs.Scenes.WaitingUnits.{waiting}
use Rattle.logon_runs.proofs.AnyAnswer.AnyLogonLaws.{controller_within, many_controllers, many_members, member_within}
use Rattle.logon_runs.proofs.Scenes.StepOnLaws.{by_step}
use Rattle.wire_base.proofs.ListLaws.{got_nothing, some_is}
use Rattle.world_moves.specs.Choosing.{chosen_place}
use Rattle.world_moves.specs.Alone.{IsPlainAlone, hear_alone}
use Rattle.world_moves.specs.Ends.{starters_in}
use Rattle.world_moves.specs.Plain.{IsPlain}
use Rattle.domain_world.specs.Past.{Delivery, book, controller_asked, note, note_member, past}
use Rattle.domain_world.proofs.Frames.AloneNoteLaws.{note_alone as note_at}
use Rattle.domain_world.proofs.Frames.AloneStepLaws.{act_alone}
use Rattle.domain_world.proofs.Acceptance.LetInStepLaws.{IsDialledBy}
use Rattle.domain_world.proofs.Quiet.QuietRunLaws.{has_bytes, quiet_first, quiet_keeps}
use Rattle.domain_world.proofs.Quiet.QuietStepLaws.{MemberIsQuiet, QuietAction, QuietFact, QuietState}
use Rattle.domain_world.proofs.Quiet.QuietTurnLaws.{IfOn}
use Rattle.domain_world.proofs.Completeness.HeardOnceLaws.{either_way}
use Rattle.domain_world.proofs.Completeness.PlainLaws.{by_plain}
use Rattle.domain_world.proofs.Completeness.RestingLaws.{Along, along_next}
use Rattle.domain_world.proofs.Clear.NotedLaws.{AreOwn, client_fine, member_fine}
use Rattle.domain_world.proofs.Clear.PhaseClearLaws.{IsClean, rest_clean, start_clean}
use Rattle.domain_world.proofs.Moves.OpenMadeLaws.{IsAtSide, side_of}
use Rattle.domain_world.proofs.Frames.StepFrameLaws.{AnyAction, BothFacts, BothFine, HasHeard, HoldsAfterRun, StepKeeps, RunFact, all_any, join, run_keeps}
use Rattle.interactive_station.specs.declared.plan.StationPlan.{StationPlan}

-- ---- while each link leads from a client to a member

abbrev pub IsToMember : Route → Type 0
IsToMember (ToMember client member) = Unit {0}
IsToMember (ToController member controller) = ⊥
IsToMember (FromStation station controller) = ⊥
IsToMember (Between from to) = ⊥
IsToMember (Stranger to) = ⊥

abbrev pub AreToMembers : List Route → Type 0
AreToMembers links = AllByRecursion IsToMember links

links_before : (links : List Route) (route : Route) → AreToMembers (links ++ route ∷ []) → AreToMembers links
links_before [] route all = tt
links_before (first ∷ links) route all = (all.0, links_before links route all.1)

links_behind : (links : List Route) (route : Route) → AreToMembers links → IsToMember route → AreToMembers (links ++ route ∷ [])
links_behind [] route all is = (is, tt)
links_behind (first ∷ links) route all is = (all.0, links_behind links route all.1 is)

one_of : (links : List Route) (number : ℕ) (route : Route) → AreToMembers links → slice_get links number ≡ Some route → IsToMember route
one_of [] number route all there = absurd (got_nothing number route there)
one_of (first ∷ links) zero route all there = subst IsToMember (some_is first route there) all.0
one_of (first ∷ links) (suc number) route all there = one_of links number route all.1 there

-- no credential clashed
abbrev ClearFact : RunFact
ClearFact n s given b = AreToMembers s.links → b.clash ≡ false

-- no controller hears bytes
no_controller : (back : Bool) (route : Route) (at : ℕ) → IsToMember route → side_of back route ≡ Some (Controller at) → ⊥
no_controller back (ToController member controller) at is side = is
no_controller back (Between from to) at is side = is
no_controller back (FromStation station controller) at is side = is
no_controller back (Stranger to) at is side = is
no_controller false (ToMember client member) at is side = absurd cc
no_controller true (ToMember client member) at is side = absurd cc

-- no turn of a member has a link
no_turn : (links : List Route) (k : ℕ) (how : Dialling) (number : ℕ) (piece : List ℕ) (running : Running) (left : List (List ℕ)) → AreToMembers links → IfOn (IsDialledBy links k) how →
    turn_units_on how number piece running left ≡ []
no_turn links k dialling.Nothing number piece running left all on = refl
no_turn links k (dialling.Waits turn frames) number piece running left all on = refl
no_turn links k (dialling.On other said) number piece running left all on = absurd (one_of links other (ToController k on.own.controller) all on.own.at)

no_units_in : (links : List Route) (k : ℕ) (r : Option Running) (number : ℕ) (piece : List ℕ) (left : List (List ℕ)) → AreToMembers links → MemberIsQuiet links k r → turn_units_in r number piece left ≡ []
no_units_in links k None number piece left all quiet = refl
no_units_in links k (Some running) number piece left all quiet = no_turn links k running.dialling number piece running left all quiet.turn

no_units : (links : List Route) (k : ℕ) (m : MemberState) (number now : ℕ) (piece : List ℕ) (left : List (List ℕ)) → AreToMembers links → MemberIsQuiet links k m.running →
    turn_units m number piece now left ≡ []
no_units links k m number now piece left all quiet =
    either_way (λ (units : List (ServedUnit AtTurn TurnTalk)). units ≡ []) _ (turn_units_in m.running number piece left) refl (no_units_in links k m.running number piece left all quiet)

member_clear : (found : Option MemberState) (at : ℕ) (w : Delivery) (piece : List ℕ) (s after : State) (b : Book) → slice_get s.ends.members at ≡ found → AreToMembers s.links → QuietState s →
    b.clash ≡ false → (note_member found at w piece s after b).clash ≡ false
member_clear None at w piece s after b is all quiet apart = apart
member_clear (Some m) at w piece s after b is all quiet apart =
    (member_fine m at (controller_asked (OfMember at) s) w piece s after (length b.judged) b refl apart (omega arith)
    (subst (AreOwn (controller_asked (OfMember at) s) (unit_in w.source) b.sent) (sym (no_units s.links at m w.link s.moment piece s.chances.left all (quiet.members at m is))) tt)).apart

comes_clear : (end : EndId) (w : Delivery) (piece : List ℕ) (s after : State) (b : Book) → IsAtSide s.links w.link w.back end → AreToMembers s.links → QuietState s → b.clash ≡ false →
    (note_at (Some end) w piece s after b).clash ≡ false
comes_clear (Controller at) w piece s after b side all quiet apart = absurd (no_controller w.back side.route at (one_of s.links w.link side.route all side.made) side.side)
comes_clear (Member at) w piece s after b side all quiet apart = member_clear (slice_get s.ends.members at) at w piece s after b refl all quiet apart
comes_clear (Client at) w piece s after b side all quiet apart = (client_fine (slice_get s.ends.clients at) at w piece s b).0 ∙ apart
comes_clear (Station at) w piece s after b side all quiet apart = apart

so_heard : (n : ℕ) (end : EndId) (heard : AfterHearing) (given : Given) (b : Book) → (AreToMembers heard.state.links → b.clash ≡ false) → HasHeard ClearFact AnyAction (n + 1) end heard given b
so_heard n end heard given b clear = record { holds = clear; fine = all_any heard.actions }

clear_keeps : StepKeeps QuietFact ClearFact AnyAction
clear_keeps = record {
  calm = λ n end what s given b calm quiet clear. so_heard n end (hear_alone end what s) given b clear;
  dialled = λ n end link s given b side quiet clear. so_heard n end (hear_alone end (event.Dialled link) s) given b clear;
  opens = λ n route s given b quiet clear.
      so_heard n (acceptor_of route) (hear_alone (acceptor_of route) (event.Opened (length s.links)) (with_link route s)) given b (λ all. clear (links_before s.links route all));
  begins = λ n client plan s given b is quiet clear. so_heard n (Client client) (begun client plan s) given b clear;
  comes = λ n end w piece s given b side came bytes marked quiet clear.
      so_heard n end (hear_alone end (event.Bytes w.link piece) s) given (note_at (Some end) w piece s (act_alone end (event.Bytes w.link piece) s).state b)
      (λ all. comes_clear end w piece s (act_alone end (event.Bytes w.link piece) s).state b side all quiet (clear all));
  acts = λ n end what s given b fine quiet clear. clear;
  shuts = λ n link s given b quiet clear. clear;
  answers = λ n link there s given b is quiet clear. clear;
  forgets = λ n end s given b quiet clear. clear;
  settles = λ n number s given b quiet clear. clear;
  dials = λ n s given b quiet clear. clear;
  renews = λ n end s given b quiet clear. clear;
  changes = λ n member secret s given b quiet clear. so_heard n (Member member) (changed member secret s) given b clear;
  ticks = λ n more s given b quiet clear. clear;
  over = λ n at s given b quiet clear. clear;
}

pub clear_while : (plan : Plan) (moves : List Move) → IsPlainAlone plan → IsSchedule plan moves → AreToMembers (past plan moves).world.state.links → (past plan moves).book.clash ≡ false
clear_while plan moves nobody is all =
    let after : HoldsAfterRun (BothFacts QuietFact ClearFact) plan moves =
    run_keeps (BothFacts QuietFact ClearFact) (BothFine QuietAction AnyAction) (join QuietFact ClearFact QuietAction AnyAction quiet_keeps clear_keeps) plan moves nobody (has_bytes plan moves nobody is)
    (quiet_first plan is.start is.forms, λ none. refl) in
    after.holds.1 all

-- ---- each link is to a member, where there are no controllers

-- an end hears, acts, or shuts a link: no link is made
abbrev StaysToMembers : State → State → Type 0
StaysToMembers s after = AreToMembers s.links → AreToMembers after.links

acting : HoldsActing StaysToMembers
acting = record {
  none = λ s all. all;
  both = λ s between after first later all. later (first all);
  hears = λ end what s all. all;
  acts = λ end what s all. all;
  shuts = λ link s all. all;
}

-- who dials, and whom it reaches
abbrev ReachesMembers : WaitingDial → State → Type 0
ReachesMembers dial s = (route : Route) → route_to dial.end (end_of_peer dial.peer s.ends) ≡ Some route → IsToMember route

answer_stays : (there : Option OpenLink) (end : EndId) (link : ℕ) (s : State) → AreToMembers s.links → AreToMembers (answer_by there end link s).state.links
answer_stays None end link s all =
    let heard : State = (hear_and_act end (event.Dialled link) s).state in
    closed_so StaysToMembers acting (Some end) link heard (hears_so StaysToMembers acting end (event.Dialled link) s all)
answer_stays (Some there) end link s all = hears_so StaysToMembers acting end (event.Dialled link) (answered_link link there s) all

connect_by_stays : (route : Option Route) (end : EndId) (s : State) → ((found : Route) → route ≡ Some found → IsToMember found) → AreToMembers s.links → AreToMembers (connect_by route end s).state.links
connect_by_stays None end s is all = hears_so StaysToMembers acting end event.DialFailed s all
connect_by_stays (Some route) end s is all =
    let opened : State = (hear_and_act (acceptor_of route) (event.Opened (length s.links)) (with_link route s)).state in
    answer_stays (lookup same_number (length s.links) opened.open_links) end (length s.links) opened
    (hears_so StaysToMembers acting (acceptor_of route) (event.Opened (length s.links)) (with_link route s) (links_behind s.links route all (is route refl)))

connect_stays : (first : Option WaitingDial) (s : State) → ((dial : WaitingDial) → first ≡ Some dial → ReachesMembers dial s) → AreToMembers s.links → AreToMembers (connect_first first s).state.links
connect_stays None s reaches all = all
connect_stays (Some dial) s reaches all = connect_by_stays (route_to dial.end (end_of_peer dial.peer s.ends)) dial.end s (λ found is. reaches dial refl found is) all

come_stays : (unit : Option BagUnit) (link : ℕ) (s : State) → AreToMembers s.links → AreToMembers (come_by unit link s).state.links
come_stays None link s all = all
come_stays (Some unit) link s all = pieces_so StaysToMembers acting unit.back link (pieces_of unit.bytes) s all

own_stays : (unit : Option BagUnit) (number : ℕ) (s : State) → AreToMembers s.links → AreToMembers (come_on_own unit number s).state.links
own_stays None number s all = all
own_stays (Some unit) number s all = come_stays (slice_get (settle number s).bag number) unit.link (settle number s) all

onward_stays : (number : Option ℕ) (s : State) → AreToMembers s.links → AreToMembers (onward_by number s).state.links
onward_stays None s all = all
onward_stays (Some number) s all = own_stays (slice_get s.bag number) number s all

station_by_stays : (plan : Option StationPlan) (at : ℕ) (s : State) → AreToMembers s.links → AreToMembers (start_station_by plan at s).state.links
station_by_stays None at s all = all
station_by_stays (Some plan) at s all =
    let heard : AfterHearing = station_begun at plan (forget (Station at) s) in
    actions_so StaysToMembers acting (Station at) heard.actions heard.state all

start_by_stays : (plan : Option ClientPlan) (at : ℕ) (s : State) → AreToMembers s.links → AreToMembers (start_by plan at s).state.links
start_by_stays None at s all = station_by_stays (slice_get s.station_plans (at - length s.client_plans)) (at - length s.client_plans) s all
start_by_stays (Some plan) at s all =
    let heard : AfterHearing = begun at plan (forget (Client at) s) in
    actions_so StaysToMembers acting (Client at) heard.actions heard.state all

start_stays : (at : Option ℕ) (s : State) → AreToMembers s.links → AreToMembers (start_at at s).state.links
start_stays None s all = all
start_stays (Some at) s all = start_by_stays (slice_get s.client_plans at) at s all

-- no dial reaches a controller
some_not : {T : Type 0} {one : T} → None ≡ Some one → ⊥
some_not is = absurd cc

no_route : (end : EndId) (found : Option EndId) (route : Route) → ((at : ℕ) → found ≡ Some (Controller at) → ⊥) → route_to end found ≡ Some route → IsToMember route
no_route (Client client) (Some (Member member)) route never is = subst IsToMember (some_is (ToMember client member) route is) tt
no_route (Client client) (Some (Controller at)) route never is = absurd (never at refl)
no_route (Client client) (Some (Client other)) route never is = absurd (some_not is)
no_route (Client client) (Some (Station other)) route never is = absurd (some_not is)
no_route (Client client) None route never is = absurd (some_not is)
no_route (Member member) (Some (Controller at)) route never is = absurd (never at refl)
no_route (Member member) (Some (Member other)) route never is = absurd (some_not is)
no_route (Member member) (Some (Client other)) route never is = absurd (some_not is)
no_route (Member member) (Some (Station other)) route never is = absurd (some_not is)
no_route (Member member) None route never is = absurd (some_not is)
no_route (Controller from) (Some (Controller at)) route never is = absurd (never at refl)
no_route (Controller from) (Some (Member other)) route never is = absurd (some_not is)
no_route (Controller from) (Some (Client other)) route never is = absurd (some_not is)
no_route (Controller from) (Some (Station other)) route never is = absurd (some_not is)
no_route (Controller from) None route never is = absurd (some_not is)
no_route (Station station) (Some (Controller at)) route never is = absurd (never at refl)
no_route (Station station) (Some (Member other)) route never is = absurd (some_not is)
no_route (Station station) (Some (Client other)) route never is = absurd (some_not is)
no_route (Station station) (Some (Station other)) route never is = absurd (some_not is)
no_route (Station station) None route never is = absurd (some_not is)

no_controllers : (plan : Plan) (s : State) → plan.tables ≡ [] → HasSameEnds (first_world plan).state s → (peer : List ℕ) (at : ℕ) → end_of_peer peer s.ends ≡ Some (Controller at) → ⊥
no_controllers plan s none same peer at is =
    omega (arith, controller_within peer s.ends at is, same.ends.controllers, many_controllers plan.hands_on plan.seals plan.tables plan.controllers, ap length none)

step_stays : (plan : Plan) (what : Move) (s : State) → plan.tables ≡ [] → HasSameEnds (first_world plan).state s → IsStepOn what → AreToMembers s.links → AreToMembers (act s what).state.links
step_stays plan what s none same steps all =
    by_step (λ (one : Move). AreToMembers (act s one).state.links)
    (connect_stays (slice_get s.dials 0) (without_first s)
    (λ dial is route reached. no_route dial.end (end_of_peer dial.peer s.ends) route (no_controllers plan s none same dial.peer) reached) all)
    (onward_stays (first_waiting s.bag) s all) (λ more. all) what steps

links_stay : (plan : Plan) (moves : List Move) (w : World) → plan.tables ≡ [] → Along plan moves w → AreToMembers w.state.links → AreToMembers (run moves w).state.links
links_stay plan [] w none along all = all
links_stay plan (what ∷ moves) w none along all =
    links_stay plan moves (happens w what) none (along_next plan what moves w along)
    (by_plain (λ (one : Move). AreToMembers (act w.state one).state.links) (λ number. start_stays (chosen_place number (starters_in w.state.ends)) w.state all)
    (λ one steps. step_stays plan one w.state none along.same steps all) what along.plain.0)

-- ---- without members nothing comes

abbrev IsOfClient : EndId → Type 0
IsOfClient (Member at) = ⊥
IsOfClient (Controller at) = ⊥
IsOfClient (Client at) = Unit {0}
IsOfClient (Station at) = ⊥

-- the dials that wait are all of clients
abbrev AreOfClients : List WaitingDial → Type 0
AreOfClients dials = AllByRecursion (λ (dial : WaitingDial). IsOfClient dial.end) dials

-- no link was made, nothing was sent, and clients alone dial
record IsBare (s : State) : Type 0 where
  links : s.links ≡ []
  opened : s.open_links ≡ []
  bag : s.bag ≡ []
  dials : AreOfClients s.dials

dials_behind : (dials more : List WaitingDial) → AreOfClients dials → AreOfClients more → AreOfClients (dials ++ more)
dials_behind [] more all others = others
dials_behind (dial ∷ dials) more all others = (all.0, dials_behind dials more all.1 others)

dials_left : (keep : WaitingDial → Bool) (dials : List WaitingDial) → AreOfClients dials → AreOfClients (filter keep dials)
dials_left keep [] all = tt
dials_left keep (dial ∷ dials) all = elim (cases_Bool (keep dial)) [ inl kept ↦ rw kept (all.0, dials_left keep dials all.1) | inr gone ↦ rw gone (dials_left keep dials all.1) ]

dials_later : (dials : List WaitingDial) → AreOfClients dials → AreOfClients (drop 1 dials)
dials_later [] all = tt
dials_later (dial ∷ dials) all = all.1

first_other : (dials : List WaitingDial) (dial : WaitingDial) → slice_get dials 0 ≡ Some dial → AreOfClients dials → IsOfClient dial.end
first_other [] dial is all = absurd (some_not is)
first_other (first ∷ dials) dial is all = subst (λ (one : WaitingDial). IsOfClient one.end) (some_is first dial is) all.0

-- a client acts
none_sent : (end : EndId) (what : Action) → [] ++ units_of_action [] end what ≡ []
none_sent end (action.Send link bytes) = refl
none_sent end (action.Keep bytes) = refl
none_sent end (action.Dial peer) = refl
none_sent end (action.Close link cause) = refl
none_sent end (action.Told link outcome) = refl
none_sent end (action.Judged how) = refl

own_dials : (end : EndId) (what : Action) → IsOfClient end → AreOfClients (dials_of_action end what)
own_dials end (action.Dial peer) is = (is, tt)
own_dials end (action.Send link bytes) is = tt
own_dials end (action.Keep bytes) is = tt
own_dials end (action.Close link cause) is = tt
own_dials end (action.Told link outcome) is = tt
own_dials end (action.Judged how) is = tt

acts_bare : (closed : Option ℕ) (end : EndId) (what : Action) (s : State) → IsOfClient end → IsBare s → IsBare (perform_by closed end what s).state
acts_bare None end what s is bare = record {
  links = bare.links;
  opened = bare.opened;
  bag = ap₂ (λ (bag : List BagUnit) (links : List Route). bag ++ units_of_action links end what) bare.bag bare.links ∙ none_sent end what;
  dials = dials_behind s.dials (dials_of_action end what) bare.dials (own_dials end what is);
}
acts_bare (Some link) end what s is bare =
    subst (λ (there : Option OpenLink). IsBare (close_open there end link s).state) (sym (ap (λ (map : OpenMap). lookup same_number link map) bare.opened)) bare

all_bare : (end : EndId) (actions : List Action) (s : State) → IsOfClient end → IsBare s → IsBare (perform_all end actions s).state
all_bare end [] s is bare = bare
all_bare end (what ∷ actions) s is bare = all_bare end actions (perform end what s).state is (acts_bare (link_closed what) end what s is bare)

hears_bare : (end : EndId) (what : Event) (s : State) → IsOfClient end → IsBare s → IsBare (hear_and_act end what s).state
hears_bare end what s is bare =
    all_bare end (hear end what s).actions (hear end what s).state is (record { links = bare.links; opened = bare.opened; bag = bare.bag; dials = bare.dials })

-- the moves
start_by_bare : (plan : Option ClientPlan) (at : ℕ) (s : State) → IsPlain s → IsBare s → IsBare (start_by plan at s).state
start_by_bare None at s plain bare = subst (λ (acted : Acted). IsBare acted.state) (sym (none_start (at - length s.client_plans) s plain)) bare
start_by_bare (Some plan) at s plain bare =
    let heard : AfterHearing = begun at plan (forget (Client at) s) in
    all_bare (Client at) heard.actions heard.state tt
    (record {
      links = bare.links;
      opened = ap (λ (map : OpenMap). forget_end (Client at) map) bare.opened;
      bag = bare.bag;
      dials = dials_left (is_of_other (Client at)) s.dials bare.dials;
    })

start_bare : (at : Option ℕ) (s : State) → IsPlain s → IsBare s → IsBare (start_at at s).state
start_bare None s plain bare = bare
start_bare (Some at) s plain bare = start_by_bare (slice_get s.client_plans at) at s plain bare

no_way : (end : EndId) (found : Option EndId) → IsOfClient end → ((at : ℕ) → found ≡ Some (Member at) → ⊥) → route_to end found ≡ None
no_way (Member at) found is never = absurd is
no_way (Controller at) found is never = absurd is
no_way (Client at) None is never = refl
no_way (Client at) (Some (Member member)) is never = absurd (never member refl)
no_way (Client at) (Some (Controller controller)) is never = refl
no_way (Client at) (Some (Client other)) is never = refl
no_way (Client at) (Some (Station other)) is never = refl
no_way (Station at) found is never = absurd is

no_members : (plan : Plan) (s : State) → plan.members ≡ [] → HasSameEnds (first_world plan).state s → (peer : List ℕ) (at : ℕ) → end_of_peer peer s.ends ≡ Some (Member at) → ⊥
no_members plan s none same peer at is = omega (arith, member_within peer s.ends at is, same.ends.members, many_members plan.members, ap length none)

connect_bare : (first : Option WaitingDial) (s : State) → ((dial : WaitingDial) → first ≡ Some dial → IsOfClient dial.end) →
    ((peer : List ℕ) (at : ℕ) → end_of_peer peer s.ends ≡ Some (Member at) → ⊥) → IsBare s → IsBare (connect_first first s).state
connect_bare None s others never bare = bare
connect_bare (Some dial) s others never bare =
    subst (λ (route : Option Route). IsBare (connect_by route dial.end s).state) (sym (no_way dial.end (end_of_peer dial.peer s.ends) (others dial refl) (never dial.peer)))
    (hears_bare dial.end event.DialFailed s (others dial refl) bare)

step_bare : (plan : Plan) (what : Move) (s : State) → plan.members ≡ [] → HasSameEnds (first_world plan).state s → IsStepOn what → IsBare s → IsBare (act s what).state
step_bare plan what s none same steps bare =
    by_step (λ (one : Move). IsBare (act s one).state)
    (connect_bare (slice_get s.dials 0) (without_first s) (λ dial is. first_other s.dials dial is bare.dials) (no_members plan s none same)
    (record { links = bare.links; opened = bare.opened; bag = bare.bag; dials = dials_later s.dials bare.dials }))
    (subst (λ (found : Option ℕ). IsBare (onward_by found s).state) (sym (ap first_waiting bare.bag)) bare)
    (λ more. record { links = bare.links; opened = bare.opened; bag = bare.bag; dials = bare.dials }) what steps

clear_bare : (plan : Plan) (moves : List Move) (w : World) (b : Book) → plan.members ≡ [] → Along plan moves w → IsBare w.state → IsClean w.state b → (book moves w b).clash ≡ false
clear_bare plan [] w b none along bare clean = clean.apart
clear_bare plan (what ∷ moves) w b none along bare clean =
    let after : IsBare (act w.state what).state × IsClean (act w.state what).state (note w what b) =
    by_plain (λ (one : Move). IsBare (act w.state one).state × IsClean (act w.state one).state (note w one b))
    (λ number. (start_bare (chosen_place number (starters_in w.state.ends)) w.state along.stands.plain bare, start_clean number w b clean))
    (λ one steps. (step_bare plan one w.state none along.same steps bare, rest_clean w b one steps (ap (λ (bag : List BagUnit). waiting bag) bare.bag) clean)) what along.plain.0 in
    clear_bare plan moves (happens w what) (note w what b) none (along_next plan what moves w along) after.0 after.1

-- ---- a run

pub no_servers : (plan : Plan) (moves : List Move) → IsPlainAlone plan → IsSchedule plan moves → Along plan moves (first_world plan) → (plan.tables ≡ []) ⊎ (plan.members ≡ []) → (past plan moves).book.clash ≡ false
no_servers plan moves nobody is along (inl tables) = clear_while plan moves nobody is (links_stay plan moves (first_world plan) tables along tt)
no_servers plan moves nobody is along (inr members) =
    clear_bare plan moves (first_world plan) blank members along (record { links = refl; opened = refl; bag = refl; dials = tt }) (record { apart = refl; marked = refl })
