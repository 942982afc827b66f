-- What holds between the state before a move and the one after it: whatever holds through each single change. It serves
-- the laws of states alone, as those of links and the bag, of how many ends there are, and of the moment.
use Rattle.std.proofs.Common.{◌≡◌, ◌-◌, ℕ, Bool, true, false, List, [], ◌∷◌, length, Option, Some, None, slice_get, refl}
use Rattle.wire_base.specs.Maps.{lookup, same_number}
use Rattle.outside.specs.declared.action.Action.{Action}
use Rattle.outside.specs.declared.event.Event.{Event}
use Rattle.outside.specs.declared.event.Event.TheVariants as event
use Rattle.interactive_station.specs.declared.plan.StationPlan.{StationPlan}
use Rattle.logon_client.specs.declared.plan.ClientPlan.{ClientPlan}
use Rattle.world_moves.specs.declared.bag.BagUnit.{BagUnit}
use Rattle.world_moves.specs.declared.links.EndId.{EndId}
use Rattle.world_moves.specs.declared.links.EndId.TheVariants.{Client, Member, Station}
use Rattle.world_moves.specs.declared.links.OpenLink.{OpenLink}
use Rattle.world_moves.specs.declared.links.Route.{Route}
use Rattle.world_moves.specs.declared.links.Route.TheVariants.{Stranger}
use Rattle.world_moves.specs.declared.moves.Move.{Move}
use Rattle.world_moves.specs.declared.moves.Move.TheVariants as move
use Rattle.world_moves.specs.declared.state.State.{State}
use Rattle.world_moves.specs.declared.state.WaitingDial.{WaitingDial}
use Rattle.world_moves.specs.Acting.{AfterHearing, close_open, closed_at, forget, hear, hear_and_act, hear_and_act_if, link_closed, perform, perform_all, perform_all_quietly, perform_by, perform_quietly, piece_comes, pieces_come, shut_link}
use Rattle.world_moves.specs.Bag.{first_waiting, pieces_of}
use Rattle.world_moves.specs.Choosing.{chosen_in, chosen_place}
use Rattle.world_moves.specs.Ends.{acceptors_in, count_of, end_at, starters_in}
use Rattle.world_moves.specs.Links.{acceptor_of, handed_links, hearer_of, hearer_on, links_of, other_hearer}
use Rattle.world_moves.specs.Moving.{act, answer_by, answered_link, begun, come_by, come_on_own, connect_by, connect_first, deliver_by, deliver_on, deliver_unit, end_of_peer, fail_first, hand_on, lose_by, onward_by, open_link, renewed, restart_at, restart_by, route_to, settle, shut_at, shut_by, start_at, start_by, start_station_by, station_begun, stranger_at, stranger_by, tick, with_link, without_first, change_at, changed}

-- ---- what is to hold

-- something of a state and of a later one
abbrev pub StateFact : Type 1
StateFact = State → State → Type 0

-- A relation of states holds on where an end hears something, where an action is done, and where a link is open no
-- more.
pub record HoldsActing (Rel : StateFact) : Type 0 where
  pub none : (s : State) → Rel s s
  pub both : (s between after : State) → Rel s between → Rel between after → Rel s after
  pub hears : (end : EndId) (what : Event) (s : State) → Rel s (hear end what s).state
  pub acts : (end : EndId) (what : Action) (s : State) → Rel s (perform_quietly end what s)
  pub shuts : (link : ℕ) (s : State) → Rel s (shut_link link s)

-- A relation of states holds on where a client or a station begins, and where one thing changes beside that.
pub record HoldsMoving (Rel : StateFact) : Type 0 where
  pub acting : HoldsActing Rel
  pub begins : (client : ℕ) (plan : ClientPlan) (s : State) → Rel s (begun client plan s).state
  pub starts : (station : ℕ) (plan : StationPlan) (s : State) → Rel s (station_begun station plan s).state
  pub opens : (route : Route) (s : State) → Rel s (with_link route s)
  pub answers : (link : ℕ) (there : OpenLink) (s : State) → lookup same_number link s.open_links ≡ Some there → Rel s (answered_link link there s)
  pub forgets : (end : EndId) (s : State) → Rel s (forget end s)
  pub settles : (number : ℕ) (s : State) → Rel s (settle number s)
  pub dials : (s : State) → Rel s (without_first s)
  pub renews : (end : EndId) (s : State) → Rel s (renewed end s)
  -- a member begins to change its secret; that its text is kept is an action
  pub changes : (at : ℕ) (secret : List ℕ) (s : State) → Rel s (changed at secret s).state
  pub ticks : (more : ℕ) (s : State) → Rel s (tick more s)

module _ (Rel : StateFact) (holds : HoldsActing Rel) where
  -- ---- an end hears something, and acts

  all_quiet : (end : EndId) (actions : List Action) (s : State) → Rel s (perform_all_quietly end actions s)
  all_quiet end [] s = holds.none s
  all_quiet end (what ∷ actions) s =
      let one : State = perform_quietly end what s in holds.both s one (perform_all_quietly end actions one) (holds.acts end what s) (all_quiet end actions one)

  pub closed_so : (end : Option EndId) (link : ℕ) (s : State) → Rel s (closed_at end link s).state
  closed_so None link s = holds.none s
  closed_so (Some end) link s =
      let heard : AfterHearing = hear end (event.Closed link) s in
      holds.both s heard.state (perform_all_quietly end heard.actions heard.state) (holds.hears end (event.Closed link) s) (all_quiet end heard.actions heard.state)

  close_so : (there : Option OpenLink) (end : EndId) (link : ℕ) (s : State) → Rel s (close_open there end link s).state
  close_so None end link s = holds.none s
  close_so (Some there) end link s =
      let shut : State = shut_link link s in
      holds.both s shut (closed_at (other_hearer end there) link shut).state (holds.shuts link s) (closed_so (other_hearer end there) link shut)

  perform_by_so : (closed : Option ℕ) (end : EndId) (what : Action) (s : State) → Rel s (perform_by closed end what s).state
  perform_by_so None end what s = holds.acts end what s
  perform_by_so (Some link) end what s = close_so (lookup same_number link s.open_links) end link s

  perform_so : (end : EndId) (what : Action) (s : State) → Rel s (perform end what s).state
  perform_so end what s = perform_by_so (link_closed what) end what s

  pub actions_so : (end : EndId) (actions : List Action) (s : State) → Rel s (perform_all end actions s).state
  actions_so end [] s = holds.none s
  actions_so end (what ∷ actions) s =
      let one : State = (perform end what s).state in
      holds.both s one (perform_all end actions one).state (perform_so end what s) (actions_so end actions one)

  pub hears_so : (end : EndId) (what : Event) (s : State) → Rel s (hear_and_act end what s).state
  hears_so end what s =
      let heard : AfterHearing = hear end what s in
      holds.both s heard.state (perform_all end heard.actions heard.state).state (holds.hears end what s) (actions_so end heard.actions heard.state)

  pub hears_if_so : (end : Option EndId) (what : Event) (s : State) → Rel s (hear_and_act_if end what s).state
  hears_if_so None what s = holds.none s
  hears_if_so (Some end) what s = hears_so end what s

  -- ---- bytes come

  pub pieces_so : (back : Bool) (link : ℕ) (pieces : List (List ℕ)) (s : State) → Rel s (pieces_come back link pieces s).state
  pieces_so back link [] s = holds.none s
  pieces_so back link (piece ∷ pieces) s =
      let one : State = (piece_comes back link piece s).state in
      holds.both s one (pieces_come back link pieces one).state
      (hears_if_so (hearer_of back (lookup same_number link s.open_links)) (event.Bytes link piece) s) (pieces_so back link pieces one)

  come_so : (unit : Option BagUnit) (link : ℕ) (s : State) → Rel s (come_by unit link s).state
  come_so None link s = holds.none s
  come_so (Some unit) link s = pieces_so unit.back link (pieces_of unit.bytes) s

module _ (Rel : StateFact) (holds : HoldsMoving Rel) where
  -- ---- units

  settled_so : (number link : ℕ) (s : State) → Rel s (come_by (slice_get (settle number s).bag number) link (settle number s)).state
  settled_so number link s =
      let done : State = settle number s in
      holds.acting.both s done (come_by (slice_get done.bag number) link done).state (holds.settles number s) (come_so Rel holds.acting (slice_get done.bag number) link done)

  own_so : (unit : Option BagUnit) (number : ℕ) (s : State) → Rel s (come_on_own unit number s).state
  own_so None number s = holds.acting.none s
  own_so (Some unit) number s = settled_so number unit.link s

  onward_so : (number : Option ℕ) (s : State) → Rel s (onward_by number s).state
  onward_so None s = holds.acting.none s
  onward_so (Some number) s = own_so (slice_get s.bag number) number s

  lose_so : (number : Option ℕ) (s : State) → Rel s (lose_by number s)
  lose_so None s = holds.acting.none s
  lose_so (Some number) s = holds.settles number s

  on_so : (link : Option ℕ) (number : ℕ) (s : State) → Rel s (deliver_on link number s).state
  on_so None number s = holds.acting.none s
  on_so (Some link) number s = settled_so number link s

  unit_so : (unit : Option BagUnit) (number link : ℕ) (s : State) → Rel s (deliver_unit unit number link s).state
  unit_so None number link s = holds.acting.none s
  unit_so (Some unit) number link s = on_so (chosen_in link (links_of unit.kind s.links)) number s

  deliver_so : (number : Option ℕ) (link : ℕ) (s : State) → Rel s (deliver_by number link s).state
  deliver_so None link s = holds.acting.none s
  deliver_so (Some number) link s = unit_so (slice_get s.bag number) number link s

  hand_so : (link : Option ℕ) (back : Bool) (bytes : List ℕ) (s : State) → Rel s (hand_on link back bytes s).state
  hand_so None back bytes s = holds.acting.none s
  hand_so (Some link) back bytes s = hears_if_so Rel holds.acting (hearer_of back (lookup same_number link s.open_links)) (event.Bytes link bytes) s

  -- ---- links

  station_by_so : (plan : Option StationPlan) (station : ℕ) (s : State) → Rel s (start_station_by plan station s).state
  station_by_so None station s = holds.acting.none s
  station_by_so (Some plan) station s =
      let gone : State = forget (Station station) s in
      let heard : AfterHearing = station_begun station plan gone in
      holds.acting.both s gone (perform_all (Station station) heard.actions heard.state).state (holds.forgets (Station station) s)
      (holds.acting.both gone heard.state (perform_all (Station station) heard.actions heard.state).state (holds.starts station plan gone)
      (actions_so Rel holds.acting (Station station) heard.actions heard.state))

  start_by_so : (plan : Option ClientPlan) (client : ℕ) (s : State) → Rel s (start_by plan client s).state
  start_by_so None client s = station_by_so (slice_get s.station_plans (client - length s.client_plans)) (client - length s.client_plans) s
  start_by_so (Some plan) client s =
      let gone : State = forget (Client client) s in
      let heard : AfterHearing = begun client plan gone in
      holds.acting.both s gone (perform_all (Client client) heard.actions heard.state).state (holds.forgets (Client client) s)
      (holds.acting.both gone heard.state (perform_all (Client client) heard.actions heard.state).state (holds.begins client plan gone)
      (actions_so Rel holds.acting (Client client) heard.actions heard.state))

  start_so : (at : Option ℕ) (s : State) → Rel s (start_at at s).state
  start_so None s = holds.acting.none s
  start_so (Some at) s = start_by_so (slice_get s.client_plans at) at s

  open_so : (route : Route) (s : State) → Rel s (open_link route s).state
  open_so route s =
      let more : State = with_link route s in
      holds.acting.both s more (open_link route s).state (holds.opens route s) (hears_so Rel holds.acting (acceptor_of route) (event.Opened (length s.links)) more)

  stranger_by_so : (end : Option EndId) (s : State) → Rel s (stranger_by end s).state
  stranger_by_so None s = holds.acting.none s
  stranger_by_so (Some end) s = open_so (Stranger end) s

  stranger_so : (number : Option ℕ) (s : State) → Rel s (stranger_at number s).state
  stranger_so None s = holds.acting.none s
  stranger_so (Some number) s = stranger_by_so (end_at number s.ends) s

  answer_so : (there : Option OpenLink) (end : EndId) (link : ℕ) (s : State) → lookup same_number link s.open_links ≡ there → Rel s (answer_by there end link s).state
  answer_so None end link s is =
      let heard : State = (hear_and_act end (event.Dialled link) s).state in
      holds.acting.both s heard (closed_at (Some end) link heard).state (hears_so Rel holds.acting end (event.Dialled link) s) (closed_so Rel holds.acting (Some end) link heard)
  answer_so (Some there) end link s is =
      let answered : State = answered_link link there s in
      holds.acting.both s answered (hear_and_act end (event.Dialled link) answered).state (holds.answers link there s is) (hears_so Rel holds.acting end (event.Dialled link) answered)

  connect_by_so : (route : Option Route) (end : EndId) (s : State) → Rel s (connect_by route end s).state
  connect_by_so None end s = hears_so Rel holds.acting end event.DialFailed s
  connect_by_so (Some route) end s =
      let later : State = (open_link route s).state in
      let there : Option OpenLink = lookup same_number (length s.links) later.open_links in
      holds.acting.both s later (answer_by there end (length s.links) later).state (open_so route s) (answer_so there end (length s.links) later refl)

  connect_so : (first : Option WaitingDial) (s : State) → Rel s (connect_first first s).state
  connect_so None s = holds.acting.none s
  connect_so (Some first) s = connect_by_so (route_to first.end (end_of_peer first.peer s.ends)) first.end s

  fail_so : (first : Option WaitingDial) (s : State) → Rel s (fail_first first s).state
  fail_so None s = holds.acting.none s
  fail_so (Some first) s = hears_so Rel holds.acting first.end event.DialFailed s

  shut_so : (entry : Option (ℕ × OpenLink)) (s : State) → Rel s (shut_by entry s).state
  shut_so None s = holds.acting.none s
  shut_so (Some entry) s =
      let shut : State = shut_link entry.0 s in
      let one : State = (closed_at (hearer_on false entry.1) entry.0 shut).state in
      let other : State = (closed_at (hearer_on true entry.1) entry.0 one).state in
      holds.acting.both s shut other (holds.acting.shuts entry.0 s)
      (holds.acting.both shut one other (closed_so Rel holds.acting (hearer_on false entry.1) entry.0 shut) (closed_so Rel holds.acting (hearer_on true entry.1) entry.0 one))

  shut_at_so : (number : Option ℕ) (s : State) → Rel s (shut_at number s).state
  shut_at_so None s = holds.acting.none s
  shut_at_so (Some number) s = shut_so (slice_get s.open_links number) s

  restart_by_so : (end : Option EndId) (s : State) → Rel s (restart_by end s)
  restart_by_so None s = holds.acting.none s
  restart_by_so (Some end) s =
      let gone : State = forget end s in holds.acting.both s gone (renewed end gone) (holds.forgets end s) (holds.renews end gone)

  restart_so : (number : Option ℕ) (s : State) → Rel s (restart_at number s)
  restart_so None s = holds.acting.none s
  restart_so (Some number) s = restart_by_so (end_at number s.ends) s

  change_so : (at : Option ℕ) (secret : List ℕ) (s : State) → Rel s (change_at at secret s).state
  change_so None secret s = holds.acting.none s
  change_so (Some at) secret s =
      let heard : AfterHearing = changed at secret s in
      holds.acting.both s heard.state (perform_all (Member at) heard.actions heard.state).state (holds.changes at secret s) (actions_so Rel holds.acting (Member at) heard.actions heard.state)

  -- a move that takes the first dial
  dials_so : (s after : State) → Rel (without_first s) after → Rel s after
  dials_so s after rest = holds.acting.both s (without_first s) after (holds.dials s) rest

  -- ---- a move

  pub move_so : (what : Move) (s : State) → Rel s (act s what).state
  move_so (move.Start number) s = start_so (chosen_place number (starters_in s.ends)) s
  move_so (move.Stranger number) s = stranger_so (chosen_place number (acceptors_in s.ends)) s
  move_so move.Connect s = dials_so s (act s move.Connect).state (connect_so (slice_get s.dials 0) (without_first s))
  move_so move.FailDial s = dials_so s (act s move.FailDial).state (fail_so (slice_get s.dials 0) (without_first s))
  move_so move.Onward s = onward_so (first_waiting s.bag) s
  move_so move.Lose s = lose_so (first_waiting s.bag) s
  move_so (move.Deliver unit link) s = deliver_so (chosen_place unit (length s.bag)) link s
  move_so (move.Hand link back bytes) s = hand_so (chosen_in link (handed_links s.links)) back bytes s
  move_so (move.Shut number) s = shut_at_so (chosen_place number (length s.open_links)) s
  move_so (move.Restart number) s = restart_so (chosen_place number (count_of s.ends)) s
  move_so (move.Change member secret) s = change_so (chosen_place member (length s.ends.members)) secret s
  move_so (move.Tick more) s = holds.ticks more s
