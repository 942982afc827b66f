-- What holds through the moves of a world: whatever holds through each step of an end, each action that is done, and
-- each single change beside that. This is the one induction over the kinds of moves; the other frames are instances of
-- it, each with less to be shown. It serves `drive`, `schedules_are_heard`, `Proved.own`, and all other laws of every
-- run.
use Rattle.std.proofs.Common.{◌≡◌, ℕ, suc, ◌+◌, ◌*◌, ◌≤◌, Bool, true, false, List, [], ◌∷◌, ◌++◌, drop, length, inl, inr, Option, Some, None, IsSome, slice_get, refl, sym, ap, subst, ◌∙◌, arith, length-append}
use Rattle.std.specs.Prelude.{◌%◌, ◌-◌}
use Rattle.std.specs.List.{AllByRecursion}
use Rattle.std.proofs.lemmas.List.{append_assoc, append-nil}
use Rattle.wire_base.specs.Maps.{lookup, same_number, take_out}
use Rattle.wire_base.specs.Numbers.{AreBytes}
use Rattle.outside.specs.declared.action.Action.{Action}
use Rattle.outside.specs.declared.event.Event.TheVariants as event
use Rattle.logon_client.specs.declared.plan.ClientPlan.{ClientPlan}
use Rattle.secret_change.specs.Secrets.{IsSecret}
use Rattle.wire_base.specs.Lists.{OneOf}
use Rattle.step_notes.specs.Records.{Book, InUnit, Outside, blank}
use Rattle.world_moves.specs.declared.bag.BagUnit.{BagUnit}
use Rattle.world_moves.specs.declared.links.EndId.{EndId}
use Rattle.world_moves.specs.declared.links.EndId.TheVariants.{Client, Member, Station}
use Rattle.world_moves.specs.declared.links.OpenLink.{OpenLink}
use Rattle.world_moves.specs.declared.links.Route.{Route}
use Rattle.world_moves.specs.declared.links.Route.TheVariants.{Stranger}
use Rattle.world_moves.specs.declared.moves.Move.{Move}
use Rattle.world_moves.specs.declared.moves.Move.TheVariants as move
use Rattle.world_moves.specs.declared.plan.Plan.{Plan}
use Rattle.world_moves.specs.declared.state.State.{State}
use Rattle.world_moves.specs.declared.state.WaitingDial.{WaitingDial}
use Rattle.world_moves.specs.Acting.{Acted, Given, AfterHearing, close_open, closed_at, done, forget, given_by, hear, hear_and_act, hear_and_act_if, link_closed, nothing_done, perform, perform_all, perform_all_quietly, perform_by, perform_quietly, piece_comes, pieces_come, shut_link, then_act}
use Rattle.world_moves.specs.Bag.{first_waiting, pieces_of}
use Rattle.world_moves.specs.Choosing.{chosen_in, chosen_place}
use Rattle.world_moves.specs.Ends.{acceptors_in, count_of, end_at, starters_in}
use Rattle.world_moves.specs.Links.{accepted, acceptor_of, answered, dialler_of, handed_links, hearer_of, hearer_on, links_of, other_hearer}
use Rattle.world_moves.specs.Moving.{act, answer_by, answered_link, begun, change_at, changed, come_by, come_on_own, connect_by, connect_first, deliver_by, deliver_on, deliver_unit, end_of_peer, fail_first, hand_on, lose_by, onward_by, open_link, renewed, restart_at, restart_by, route_to, settle, shut_at, shut_by, start_at, start_by, start_station_by, station_begun, stranger_at, stranger_by, tick, with_link, without_first}
use Rattle.world_moves.specs.World.{World, first_world, happens, run}
use Rattle.domain_world.specs.Claims.Sessions.{end_by, restart_of}
use Rattle.domain_world.specs.Past.{Delivery, book, note, note_at, note_chosen, note_coming, note_deliver, note_hand, note_on, note_onward, note_own, note_pieces, note_unit, past}
use Rattle.wire_base.proofs.ListLaws.{got_last, got_nothing}
use Rattle.world_moves.proofs.BagLaws.{pieces_few}
use Rattle.world_moves.proofs.BoundLaws.{hears_links}
use Rattle.world_moves.proofs.LevelLaws.{unit_short}
use Rattle.world_moves.proofs.LinkFrameLaws.{LinkFact, StaysOnLinks, closed_stays, heard_if_stays, move_stays}
use Rattle.world_moves.proofs.OpenLaws.{forgotten_fewer, put_more, taken_fewer, taken_one}
use Rattle.world_moves.proofs.QuietLaws.{closes_alone}
use Rattle.domain_world.proofs.Moves.ComingLaws.{CameFrom, IsFromOutside, IsLinkOf, chosen_of, handed_outside, kept_same, piece_bytes, route_dials, run_still}
use Rattle.domain_world.proofs.Frames.MoveKeepLaws.{AtWork, IsHeard, KeepsCalmMovesBy, KeepsMovesBy, MoveFact, NoSide, Progress, StationsStart, any, but_renewed, coming, started, waiting, with_rest}
use Rattle.domain_world.proofs.Moves.OpenMadeLaws.{IsOnSide, hears_side}
use Rattle.domain_world.proofs.Moves.PlacedLaws.{Placed, IsPlaced, placed_stay, Since, since_sent, HandsBytes, IsBytesBag, bag_before, settled_bag, settled_link, same_piece, HasBytes, bytes_in}
use Rattle.interactive_station.specs.declared.plan.StationPlan.{StationPlan}

-- ---- how many links are open

abbrev pub FewOpen : ℕ → LinkFact
FewOpen most links map bag = length map ≤ most

few_open : (most : ℕ) → StaysOnLinks (FewOpen most)
few_open most = record {
  sends = λ unit links map bag on few. few;
  shuts = λ link links map bag few. omega (arith, few, taken_fewer link map);
}

-- no dial waits: the first isn't taken
none_dialled : (dials : List WaitingDial) → slice_get dials 0 ≡ None → drop 1 dials ≡ dials
none_dialled [] none = refl
none_dialled (dial ∷ dials) none = absurd (let x = none in cc)

-- ---- a part of a move

module _ (Known : Type 0) (Holds : MoveFact) (keeps : KeepsCalmMovesBy any Known NoSide Holds) (starts : StationsStart Holds) where
  -- `Holds` is so after an action, and no more steps were taken than are allowed; a link that is open allows two
  record After (p : Progress) (most : ℕ) (acted : Acted) (given : Given) (b : Book) : Type 0 where
    steps : ℕ
    holds : Holds steps p acted.state (given ++ acted.given) b
    few : steps + 2 * length acted.state.open_links ≤ most

  widen : (p : Progress) (most more : ℕ) (acted : Acted) (given : Given) (b : Book) → most ≤ more → After p most acted given b → After p more acted given b
  widen p most more acted given b few part = record { steps = part.steps; holds = part.holds; few = omega (arith, part.few, few) }

  nothing : (p : Progress) (most n : ℕ) (s : State) (given : Given) (b : Book) → Holds n p s given b → n + 2 * length s.open_links ≤ most → After p most (nothing_done s) given b
  nothing p most n s given b holds few = record { steps = n; holds = subst (λ (g : Given). Holds n p s g b) (sym (append-nil given)) holds; few = few }

  followed : (p : Progress) (most : ℕ) (first : Acted) (next : State → Acted) (given : Given) (b : Book) → After p most (next first.state) (given ++ first.given) b →
      After p most (then_act first next) given b
  followed p most first next given b later = record {
    steps = later.steps;
    holds = subst (λ (g : Given). Holds later.steps p (next first.state).state g b) (append_assoc given first.given (next first.state).given) later.holds;
    few = later.few;
  }

  -- ---- actions

  all_quiet : (p : Progress) (work : AtWork p.on p.to) (end : EndId) (actions : List Action) (n : ℕ) (s : State) (given : Given) (b : Book) → Holds n (with_rest (given_by end actions) p) s given b →
      Holds n p (perform_all_quietly end actions s) given b
  all_quiet p work end [] n s given b holds = holds
  all_quiet p work end (what ∷ actions) n s given b holds =
      all_quiet p work end actions n (perform_quietly end what s) given b (keeps.acts n (with_rest (given_by end actions) p) end what s given b work tt holds)

  closed_part : (p : Progress) (work : AtWork p.on p.to) (end : Option EndId) (link n : ℕ) (s : State) (given : Given) (b : Book) → Holds n p s given b →
      After p (n + 1 + 2 * length s.open_links) (closed_at end link s) given b
  closed_part p work None link n s given b holds = nothing p (n + 1 + 2 * length s.open_links) n s given b holds (omega arith)
  closed_part p work (Some end) link n s given b holds =
      let heard : AfterHearing = hear end (event.Closed link) s in
      let few : length (closed_at (Some end) link s).state.open_links ≤ length s.open_links =
      closed_stays (FewOpen (length s.open_links)) (few_open (length s.open_links)) (Some end) link s (omega arith) in
      record {
        steps = n + 1;
        holds = all_quiet p work end heard.actions (n + 1) heard.state (given ++ given_by end heard.actions) b (keeps.closes n p end link s given b work tt holds);
        few = omega (arith, few);
      }

  close_part : (p : Progress) (work : AtWork p.on p.to) (there : Option OpenLink) (end : EndId) (link n : ℕ) (s : State) (given : Given) (b : Book) → lookup same_number link s.open_links ≡ there → Holds n p s given b →
      After p (n + 2 * length s.open_links) (close_open there end link s) given b
  close_part p work None end link n s given b is holds = nothing p (n + 2 * length s.open_links) n s given b holds (omega arith)
  close_part p work (Some there) end link n s given b is holds =
      let one : length (take_out same_number link s.open_links) + 1 ≤ length s.open_links = taken_one link s.open_links (subst IsSome (sym is) refl) in
      widen p (n + 1 + 2 * length (take_out same_number link s.open_links)) (n + 2 * length s.open_links) (closed_at (other_hearer end there) link (shut_link link s)) given b (omega (arith, one))
      (closed_part p work (other_hearer end there) link n (shut_link link s) given b (keeps.shuts n p link s given b work tt holds))

  perform_by_part : (closed : Option ℕ) (p : Progress) (work : AtWork p.on p.to) (end : EndId) (what : Action) (n : ℕ) (s : State) (given : Given) (b : Book) → link_closed what ≡ closed →
      Holds n (with_rest ((end, what) ∷ []) p) s given b → After p (n + 2 * length s.open_links) (perform_by closed end what s) given b
  perform_by_part None p work end what n s given b is holds =
      nothing p (n + 2 * length s.open_links) n (perform_quietly end what s) given b (keeps.acts n p end what s given b work tt holds) (omega arith)
  perform_by_part (Some link) p work end what n s given b is holds =
      close_part p work (lookup same_number link s.open_links) end link n s given b refl (closes_alone (λ (t : State). Holds n p t given b) end link what s is (keeps.acts n p end what s given b work tt holds))

  perform_part : (p : Progress) (work : AtWork p.on p.to) (end : EndId) (what : Action) (n : ℕ) (s : State) (given : Given) (b : Book) → Holds n (with_rest ((end, what) ∷ []) p) s given b →
      After p (n + 2 * length s.open_links) (perform end what s) given b
  perform_part p work end what n s given b holds = perform_by_part (link_closed what) p work end what n s given b refl holds

  all_part : (p : Progress) (work : AtWork p.on p.to) (end : EndId) (actions : List Action) (n : ℕ) (s : State) (given : Given) (b : Book) → Holds n (with_rest (given_by end actions) p) s given b →
      After p (n + 2 * length s.open_links) (perform_all end actions s) given b
  all_part p work end [] n s given b holds = nothing p (n + 2 * length s.open_links) n s given b holds (omega arith)
  all_part p work end (what ∷ actions) n s given b holds =
      let first : After (with_rest (given_by end actions) p) (n + 2 * length s.open_links) (perform end what s) given b =
      perform_part (with_rest (given_by end actions) p) work end what n s given b holds in
      let after : State = (perform end what s).state in
      followed p (n + 2 * length s.open_links) (perform end what s) (λ later. perform_all end actions later) given b
      (widen p (first.steps + 2 * length after.open_links) (n + 2 * length s.open_links) (perform_all end actions after) (given ++ (perform end what s).given) b first.few
      (all_part p work end actions first.steps after (given ++ (perform end what s).given) b first.holds))

  done_part : (p : Progress) (work : AtWork p.on p.to) (n : ℕ) (end : EndId) (heard : AfterHearing) (given : Given) (b : Book) → IsHeard Holds n p end heard given b →
      After p (n + 1 + 2 * length heard.state.open_links) (done end heard) given b
  done_part p work n end heard given b holds =
      let all : After p (n + 1 + 2 * length heard.state.open_links) (perform_all end heard.actions heard.state) (given ++ given_by end heard.actions) b =
      all_part p work end heard.actions (n + 1) heard.state (given ++ given_by end heard.actions) b holds in
      record {
        steps = all.steps;
        holds = subst (λ (g : Given). Holds all.steps p (perform_all end heard.actions heard.state).state g b)
            (append_assoc given (given_by end heard.actions) (perform_all end heard.actions heard.state).given) all.holds;
        few = all.few;
      }

  -- ---- moves at which no bytes come

  -- at the end of a move at which no bytes come, or of a part of it
  abbrev Quietly : ℕ → ℕ → Acted → Given → Book → Type 0
  Quietly at most acted given b = After (waiting at None) most acted given b

  station_by_part : (plan : Option StationPlan) (station n at : ℕ) (s : State) (b : Book) → slice_get s.station_plans station ≡ plan → Holds n (waiting at None) s [] b →
      Quietly at (n + 1 + 2 * length s.open_links) (start_station_by plan station s) [] b
  station_by_part None station n at s b is holds = nothing (waiting at None) (n + 1 + 2 * length s.open_links) n s [] b holds (omega arith)
  station_by_part (Some plan) station n at s b is holds =
      let before : State = forget (Station station) s in
      widen (waiting at None) (n + 1 + 2 * length before.open_links) (n + 1 + 2 * length s.open_links) (done (Station station) (station_begun station plan before)) [] b
      (omega (arith, forgotten_fewer (Station station) s.open_links))
      (done_part (waiting at None) tt n (Station station) (station_begun station plan before) [] b
      (starts n at station plan s b is (keeps.forgets n at (Station station) s b tt holds)))

  start_by_part : (plan : Option ClientPlan) (client n at : ℕ) (s : State) (b : Book) → slice_get s.client_plans client ≡ plan → Holds n (waiting at None) s [] b →
      Quietly at (n + 1 + 2 * length s.open_links) (start_by plan client s) [] b
  start_by_part None client n at s b is holds =
      station_by_part (slice_get s.station_plans (client - length s.client_plans)) (client - length s.client_plans) n at s b refl holds
  start_by_part (Some plan) client n at s b is holds =
      let before : State = forget (Client client) s in
      widen (waiting at None) (n + 1 + 2 * length before.open_links) (n + 1 + 2 * length s.open_links) (done (Client client) (begun client plan before)) [] b
      (omega (arith, forgotten_fewer (Client client) s.open_links))
      (done_part (waiting at None) tt n (Client client) (begun client plan before) [] b (keeps.begins n at client plan before b is tt (keeps.forgets n at (Client client) s b tt holds)))

  start_part : (client : Option ℕ) (n at : ℕ) (s : State) (b : Book) → Holds n (waiting at None) s [] b → Quietly at (n + 1 + 2 * length s.open_links) (start_at client s) [] b
  start_part None n at s b holds = nothing (waiting at None) (n + 1 + 2 * length s.open_links) n s [] b holds (omega arith)
  start_part (Some client) n at s b holds = start_by_part (slice_get s.client_plans client) client n at s b refl holds

  open_part : (dial : Option EndId) (route : Route) (n at : ℕ) (s : State) (b : Book) → dialler_of route ≡ dial → Holds n (waiting at dial) s [] b →
      After (waiting at dial) (n + 3 + 2 * length s.open_links) (open_link route s) [] b
  open_part dial route n at s b out holds =
      let before : State = with_link route s in
      widen (waiting at dial) (n + 1 + 2 * length before.open_links) (n + 3 + 2 * length s.open_links) (open_link route s) [] b
      (omega (arith, length-append s.open_links ((length s.links, accepted route) ∷ [])))
      (done_part (waiting at dial) tt n (acceptor_of route) (hear (acceptor_of route) (event.Opened (length s.links)) before) [] b (keeps.opens n at dial route s [] b out tt holds))

  stranger_by_part : (end : Option EndId) (n at : ℕ) (s : State) (b : Book) → Holds n (waiting at None) s [] b → Quietly at (n + 3 + 2 * length s.open_links) (stranger_by end s) [] b
  stranger_by_part None n at s b holds = nothing (waiting at None) (n + 3 + 2 * length s.open_links) n s [] b holds (omega arith)
  stranger_by_part (Some end) n at s b holds = open_part None (Stranger end) n at s b refl holds

  stranger_part : (number : Option ℕ) (n at : ℕ) (s : State) (b : Book) → Holds n (waiting at None) s [] b → Quietly at (n + 3 + 2 * length s.open_links) (stranger_at number s) [] b
  stranger_part None n at s b holds = nothing (waiting at None) (n + 3 + 2 * length s.open_links) n s [] b holds (omega arith)
  stranger_part (Some number) n at s b holds = stranger_by_part (end_at number s.ends) n at s b holds

  answer_part : (there : Option OpenLink) (end : EndId) (link n at : ℕ) (s : State) (given : Given) (b : Book) → lookup same_number link s.open_links ≡ there →
      IsOnSide s.links link true end → Holds n (waiting at (Some end)) s given b → Quietly at (n + 3 + 2 * length s.open_links) (answer_by there end link s) given b
  answer_part None end link n at s given b is side holds =
      let first : Quietly at (n + 1 + 2 * length s.open_links) (hear_and_act end (event.Dialled link) s) given b =
      done_part (waiting at None) tt n end (hear end (event.Dialled link) s) given b (keeps.dialled n at end link s given b side tt holds) in
      let after : State = (hear_and_act end (event.Dialled link) s).state in
      followed (waiting at None) (n + 3 + 2 * length s.open_links) (hear_and_act end (event.Dialled link) s) (λ later. closed_at (Some end) link later) given b
      (widen (waiting at None) (first.steps + 1 + 2 * length after.open_links) (n + 3 + 2 * length s.open_links) (closed_at (Some end) link after)
      (given ++ (hear_and_act end (event.Dialled link) s).given) b (omega (arith, first.few))
      (closed_part (waiting at None) tt (Some end) link first.steps after (given ++ (hear_and_act end (event.Dialled link) s).given) b first.holds))
  answer_part (Some there) end link n at s given b is side holds =
      let before : State = answered_link link there s in
      widen (waiting at None) (n + 1 + 2 * length before.open_links) (n + 3 + 2 * length s.open_links) (hear_and_act end (event.Dialled link) before) given b
      (omega (arith, put_more link (answered there) s.open_links))
      (done_part (waiting at None) tt n end (hear end (event.Dialled link) before) given b
      (keeps.dialled n at end link before given b side tt (keeps.answers n at (Some end) link there s given b is tt holds)))

  connect_by_part : (route : Option Route) (end : EndId) (n at : ℕ) (s : State) (b : Book) → ((found : Route) → route ≡ Some found → dialler_of found ≡ Some end) →
      Holds n (waiting at (Some end)) s [] b → Quietly at (n + 6 + 2 * length s.open_links) (connect_by route end s) [] b
  connect_by_part None end n at s b dials holds =
      widen (waiting at None) (n + 1 + 2 * length s.open_links) (n + 6 + 2 * length s.open_links) (hear_and_act end event.DialFailed s) [] b (omega arith)
      (done_part (waiting at None) tt n end (hear end event.DialFailed s) [] b (keeps.fails n at end s b tt holds))
  connect_by_part (Some route) end n at s b dials holds =
      let first : After (waiting at (Some end)) (n + 3 + 2 * length s.open_links) (open_link route s) [] b = open_part (Some end) route n at s b (dials route refl) holds in
      let after : State = (open_link route s).state in
      let made : slice_get after.links (length s.links) ≡ Some route =
      ap (λ (l : List Route). slice_get l (length s.links)) (hears_links (acceptor_of route) (event.Opened (length s.links)) (with_link route s)) ∙ got_last s.links route in
      let side : IsOnSide after.links (length s.links) true end = record { route = route; made = made; side = dials route refl } in
      followed (waiting at None) (n + 6 + 2 * length s.open_links) (open_link route s) (λ later. answer_by (lookup same_number (length s.links) later.open_links) end (length s.links) later) [] b
      (widen (waiting at None) (first.steps + 3 + 2 * length after.open_links) (n + 6 + 2 * length s.open_links)
      (answer_by (lookup same_number (length s.links) after.open_links) end (length s.links) after) (open_link route s).given b (omega (arith, first.few))
      (answer_part (lookup same_number (length s.links) after.open_links) end (length s.links) first.steps at after (open_link route s).given b refl side first.holds))

  -- no dial waited
  none_first : (n at : ℕ) (s : State) (b : Book) → slice_get s.dials 0 ≡ None → Holds n (waiting at None) s [] b → Holds n (waiting at None) (without_first s) [] b
  none_first n at s b none holds = subst (λ (dials : List WaitingDial). Holds n (waiting at None) (record s { dials = dials }) [] b) (sym (none_dialled s.dials none)) holds

  connect_part : (first : Option WaitingDial) (n at : ℕ) (s : State) (b : Book) → slice_get s.dials 0 ≡ first → Holds n (waiting at None) s [] b →
      Quietly at (n + 6 + 2 * length s.open_links) (connect_first first (without_first s)) [] b
  connect_part None n at s b is holds = nothing (waiting at None) (n + 6 + 2 * length s.open_links) n (without_first s) [] b (none_first n at s b is holds) (omega arith)
  connect_part (Some dial) n at s b is holds =
      connect_by_part (route_to dial.end (end_of_peer dial.peer s.ends)) dial.end n at (without_first s) b (λ found is. route_dials dial.end (end_of_peer dial.peer s.ends) found is)
      (keeps.dials n at dial s b is tt holds)

  fail_part : (first : Option WaitingDial) (n at : ℕ) (s : State) (b : Book) → slice_get s.dials 0 ≡ first → Holds n (waiting at None) s [] b →
      Quietly at (n + 1 + 2 * length s.open_links) (fail_first first (without_first s)) [] b
  fail_part None n at s b is holds = nothing (waiting at None) (n + 1 + 2 * length s.open_links) n (without_first s) [] b (none_first n at s b is holds) (omega arith)
  fail_part (Some dial) n at s b is holds =
      done_part (waiting at None) tt n dial.end (hear dial.end event.DialFailed (without_first s)) [] b (keeps.fails n at dial.end (without_first s) b tt (keeps.dials n at dial s b is tt holds))

  lose_part : (number : Option ℕ) (n at : ℕ) (s : State) (b : Book) → Holds n (waiting at None) s [] b → Quietly at (n + 2 * length s.open_links) (nothing_done (lose_by number s)) [] b
  lose_part None n at s b holds = nothing (waiting at None) (n + 2 * length s.open_links) n s [] b holds (omega arith)
  lose_part (Some number) n at s b holds = nothing (waiting at None) (n + 2 * length s.open_links) n (settle number s) [] b (keeps.settles n at None number s b tt holds) (omega arith)

  shut_by_part : (entry : Option (ℕ × OpenLink)) (n at : ℕ) (s : State) (b : Book) → Holds n (waiting at None) s [] b → Quietly at (n + 2 + 2 * length s.open_links) (shut_by entry s) [] b
  shut_by_part None n at s b holds = nothing (waiting at None) (n + 2 + 2 * length s.open_links) n s [] b holds (omega arith)
  shut_by_part (Some entry) n at s b holds =
      let before : State = shut_link entry.0 s in
      let one : Acted = closed_at (hearer_on false entry.1) entry.0 before in
      let first : Quietly at (n + 1 + 2 * length before.open_links) one [] b =
      closed_part (waiting at None) tt (hearer_on false entry.1) entry.0 n before [] b (keeps.shuts n (waiting at None) entry.0 s [] b tt tt holds) in
      followed (waiting at None) (n + 2 + 2 * length s.open_links) one (λ later. closed_at (hearer_on true entry.1) entry.0 later) [] b
      (widen (waiting at None) (first.steps + 1 + 2 * length one.state.open_links) (n + 2 + 2 * length s.open_links) (closed_at (hearer_on true entry.1) entry.0 one.state) one.given b
      (omega (arith, first.few, taken_fewer entry.0 s.open_links)) (closed_part (waiting at None) tt (hearer_on true entry.1) entry.0 first.steps one.state one.given b first.holds))

  shut_part : (number : Option ℕ) (n at : ℕ) (s : State) (b : Book) → Holds n (waiting at None) s [] b → Quietly at (n + 2 + 2 * length s.open_links) (shut_at number s) [] b
  shut_part None n at s b holds = nothing (waiting at None) (n + 2 + 2 * length s.open_links) n s [] b holds (omega arith)
  shut_part (Some number) n at s b holds = shut_by_part (slice_get s.open_links number) n at s b holds

  -- what an end comes to that is made anew is shown apart
  abbrev IsRenewed : ℕ → ℕ → State → Book → EndId → Type 0
  IsRenewed n at s b end = Holds n (waiting at None) (renewed end (forget end s)) [] b

  restart_by_part : (end : Option EndId) (n at : ℕ) (s : State) (b : Book) → ((one : EndId) → end ≡ Some one → IsRenewed n at s b one) → Holds n (waiting at None) s [] b →
      Quietly at (n + 2 * length s.open_links) (nothing_done (restart_by end s)) [] b
  restart_by_part None n at s b anew holds = nothing (waiting at None) (n + 2 * length s.open_links) n s [] b holds (omega arith)
  restart_by_part (Some end) n at s b anew holds =
      nothing (waiting at None) (n + 2 * length s.open_links) n (renewed end (forget end s)) [] b (anew end refl) (omega (arith, forgotten_fewer end s.open_links))

  restart_part : (number : Option ℕ) (n at : ℕ) (s : State) (b : Book) → ((one : EndId) → end_by number s ≡ Some one → IsRenewed n at s b one) → Holds n (waiting at None) s [] b →
      Quietly at (n + 2 * length s.open_links) (nothing_done (restart_at number s)) [] b
  restart_part None n at s b anew holds = nothing (waiting at None) (n + 2 * length s.open_links) n s [] b holds (omega arith)
  restart_part (Some number) n at s b anew holds = restart_by_part (end_at number s.ends) n at s b anew holds

  change_part : (member : Option ℕ) (secret : List ℕ) (n at : ℕ) (s : State) (b : Book) → (Known → IsSecret secret) → Holds n (waiting at None) s [] b → Quietly at (n + 1 + 2 * length s.open_links) (change_at member secret s) [] b
  change_part None secret n at s b formed holds = nothing (waiting at None) (n + 1 + 2 * length s.open_links) n s [] b holds (omega arith)
  change_part (Some member) secret n at s b formed holds =
      done_part (waiting at None) tt n (Member member) (changed member secret s) [] b (keeps.changes n at member secret s b formed tt holds)

  -- ---- bytes come

  piece_part : (end : Option EndId) (w : Delivery) (piece : List ℕ) (n : ℕ) (s : State) (given : Given) (b : Book) → hearer_of w.back (lookup same_number w.link s.open_links) ≡ end →
      CameFrom w.source s w piece → (Known → AreBytes piece) → IsPlaced s → Holds n (coming w) s given b →
      After (coming w) (n + 1 + 2 * length s.open_links) (hear_and_act_if end (event.Bytes w.link piece) s) given (note_at end w piece s (hear_and_act_if end (event.Bytes w.link piece) s).state b)
  piece_part None w piece n s given b is came bytes placed holds = nothing (coming w) (n + 1 + 2 * length s.open_links) n s given b holds (omega arith)
  piece_part (Some end) w piece n s given b is came bytes placed holds =
      let side : IsOnSide s.links w.link w.back end = hears_side w.back w.link s.links s.open_links end placed.made is in
      let after : State = (hear_and_act end (event.Bytes w.link piece) s).state in
      let now : Book = note_at (Some end) w piece s after b in
      let all : After (record (coming w) { to = Some after }) (n + 1 + 2 * length s.open_links) (hear_and_act end (event.Bytes w.link piece) s) given now =
      done_part (record (coming w) { to = Some after }) tt n end (hear end (event.Bytes w.link piece) s) given now (keeps.comes n end w piece s given b side came bytes tt holds) in
      record { steps = all.steps; holds = keeps.reaches all.steps w after (given ++ (hear_and_act end (event.Bytes w.link piece) s).given) now tt all.holds; few = all.few }

  pieces_part : (w : Delivery) (links : List Route) (old : List BagUnit) (pieces : List (List ℕ)) (n : ℕ) (s : State) (given : Given) (b : Book) →
      ((later : State) (piece : List ℕ) → Since links old later.links later.open_links later.bag → OneOf (λ (one : List ℕ). one ≡ piece) pieces → CameFrom w.source later w piece) →
      ((piece : List ℕ) → OneOf (λ (one : List ℕ). one ≡ piece) pieces → Known → AreBytes piece) → Since links old s.links s.open_links s.bag → Holds n (coming w) s given b →
      After (coming w) (n + length pieces + 2 * length s.open_links) (pieces_come w.back w.link pieces s) given (note_pieces w pieces s b)
  pieces_part w links old [] n s given b came bytes since holds = nothing (coming w) (n + 0 + 2 * length s.open_links) n s given b holds (omega arith)
  pieces_part w links old (piece ∷ pieces) n s given b came bytes since holds =
      let end : Option EndId = hearer_of w.back (lookup same_number w.link s.open_links) in
      let one : Acted = piece_comes w.back w.link piece s in
      let middle : Book = note_at end w piece s one.state b in
      let first : After (coming w) (n + 1 + 2 * length s.open_links) one given middle =
      piece_part end w piece n s given b refl (came s piece since (inl refl)) (bytes piece (inl refl)) since.placed holds in
      let more : ℕ = n + suc (length pieces) + 2 * length s.open_links in
      followed (coming w) more one (λ later. pieces_come w.back w.link pieces later) given (note_pieces w pieces one.state middle)
      (widen (coming w) (first.steps + length pieces + 2 * length one.state.open_links) more (pieces_come w.back w.link pieces one.state) (given ++ one.given)
      (note_pieces w pieces one.state middle) (omega (arith, first.few))
      (pieces_part w links old pieces first.steps one.state (given ++ one.given) middle (λ later other then_so there. came later other then_so (inr there)) (λ other there. bytes other (inr there))
      (heard_if_stays (Since links old) (since_sent links old) end (event.Bytes w.link piece) s since) first.holds))

  pieces_since : (w : Delivery) (links : List Route) (old : List BagUnit) (pieces : List (List ℕ)) (s : State) → Since links old s.links s.open_links s.bag →
      let after : State = (pieces_come w.back w.link pieces s).state in Since links old after.links after.open_links after.bag
  pieces_since w links old [] s since = since
  pieces_since w links old (piece ∷ pieces) s since =
      pieces_since w links old pieces (piece_comes w.back w.link piece s).state
      (heard_if_stays (Since links old) (since_sent links old) (hearer_of w.back (lookup same_number w.link s.open_links)) (event.Bytes w.link piece) s since)

  -- `Holds` is so after a move, of which what is given isn't written down; few steps were taken, where no unit is long
  record Moved (n at : ℕ) (s : State) (acted : Acted) (b : Book) : Type 0 where
    steps : ℕ
    on : Option Delivery
    holds : Holds steps (started at on) acted.state acted.given b
    placed : IsPlaced acted.state
    few : Known → steps + 2 * length acted.state.open_links ≤ n + 2 * length s.open_links + 10

  -- before a move it holds whatever comes in it
  abbrev HoldsFor : ℕ → ℕ → State → Book → Type 0
  HoldsFor n at s b = (on : Option Delivery) → Holds n (started at on) s [] b

  unmoved : (n at : ℕ) (s : State) (b : Book) → IsPlaced s → HoldsFor n at s b → Moved n at s (nothing_done s) b
  unmoved n at s b placed holds = record { steps = n; on = None; holds = holds None; placed = placed; few = λ known. omega arith }

  unit_part : (unit : Option BagUnit) (number link n at : ℕ) (s : State) (b : Book) → slice_get s.bag number ≡ unit → ((found : BagUnit) → unit ≡ Some found → IsLinkOf s.links link found.kind) →
      IsPlaced s → (Known → IsBytesBag s.bag) → HoldsFor n at s b → Moved n at s (come_by unit link s) (note_unit unit number link at s b)
  unit_part None number link n at s b is of placed have holds = unmoved n at s b placed holds
  unit_part (Some unit) number link n at s b is of placed have holds =
      let w : Delivery = record { at = at; source = InUnit number; link = link; back = unit.back } in
      let start : Since s.links s.bag s.links s.open_links s.bag = record { same = refl; still = kept_same s.bag; placed = placed } in
      let all : After (coming w) (n + length (pieces_of unit.bytes) + 2 * length s.open_links) (come_by (Some unit) link s) [] (note_unit (Some unit) number link at s b) =
      pieces_part w s.links s.bag (pieces_of unit.bytes) n s [] b (λ later piece since one. same_piece number unit link at s later piece is (of unit refl) since one)
      (λ piece one known. piece_bytes unit.bytes ((have known).bytes number unit is) piece one) start (holds (Some w)) in
      record {
        steps = all.steps;
        on = Some w;
        holds = all.holds;
        placed = (pieces_since w s.links s.bag (pieces_of unit.bytes) s start).placed;
        few = λ known. omega (arith, all.few, pieces_few unit.bytes ((have known).short number unit is));
      }

  -- a unit is delivered or lost first
  settled_part : (number n at : ℕ) (s : State) (acted : Acted) (b : Book) → Moved n at (settle number s) acted b → Moved n at s acted b
  settled_part number n at s acted b moved = record { steps = moved.steps; on = moved.on; holds = moved.holds; placed = moved.placed; few = moved.few }

  settled_unit : (number link n at : ℕ) (unit : BagUnit) (s : State) (b : Book) → slice_get s.bag number ≡ Some unit → IsLinkOf s.links link unit.kind → IsPlaced s →
      (Known → IsBytesBag s.bag) → HoldsFor n at s b →
      Moved n at s (come_by (slice_get (settle number s).bag number) link (settle number s)) (note_unit (slice_get (settle number s).bag number) number link at (settle number s) b)
  settled_unit number link n at unit s b is of placed have holds =
      settled_part number n at s (come_by (slice_get (settle number s).bag number) link (settle number s))
      (note_unit (slice_get (settle number s).bag number) number link at (settle number s) b)
      (unit_part (slice_get (settle number s).bag number) number link n at (settle number s) b refl (λ found there. settled_link number link unit found s is of there)
      (placed_stay.settles number s.links s.open_links s.bag placed) (λ known. settled_bag number s.bag (have known)) (λ on. keeps.settles n at on number s b tt (holds on)))

  own_part : (unit : Option BagUnit) (number n at : ℕ) (s : State) (b : Book) → slice_get s.bag number ≡ unit → IsPlaced s → (Known → IsBytesBag s.bag) → HoldsFor n at s b →
      Moved n at s (come_on_own unit number s) (note_own unit number at s b)
  own_part None number n at s b is placed have holds = unmoved n at s b placed holds
  own_part (Some unit) number n at s b is placed have holds = settled_unit number unit.link n at unit s b is (placed.kinds number unit is) placed have holds

  onward_part : (number : Option ℕ) (n at : ℕ) (s : State) (b : Book) → IsPlaced s → (Known → IsBytesBag s.bag) → HoldsFor n at s b →
      Moved n at s (onward_by number s) (note_onward number at s b)
  onward_part None n at s b placed have holds = unmoved n at s b placed holds
  onward_part (Some number) n at s b placed have holds = own_part (slice_get s.bag number) number n at s b refl placed have holds

  on_part : (link : Option ℕ) (number n at : ℕ) (unit : BagUnit) (s : State) (b : Book) → slice_get s.bag number ≡ Some unit →
      ((there : ℕ) → link ≡ Some there → IsLinkOf s.links there unit.kind) → IsPlaced s → (Known → IsBytesBag s.bag) → HoldsFor n at s b →
      Moved n at s (deliver_on link number s) (note_on link number at s b)
  on_part None number n at unit s b is of placed have holds = unmoved n at s b placed holds
  on_part (Some link) number n at unit s b is of placed have holds = settled_unit number link n at unit s b is (of link refl) placed have holds

  chosen_part : (unit : Option BagUnit) (number link n at : ℕ) (s : State) (b : Book) → slice_get s.bag number ≡ unit → IsPlaced s → (Known → IsBytesBag s.bag) → HoldsFor n at s b →
      Moved n at s (deliver_unit unit number link s) (note_chosen unit number link at s b)
  chosen_part None number link n at s b is placed have holds = unmoved n at s b placed holds
  chosen_part (Some unit) number link n at s b is placed have holds =
      on_part (chosen_in link (links_of unit.kind s.links)) number n at unit s b is
      (λ there chosen. chosen_of unit.kind s.links (link % length (links_of unit.kind s.links)) there chosen) placed have holds

  deliver_part : (number : Option ℕ) (link n at : ℕ) (s : State) (b : Book) → IsPlaced s → (Known → IsBytesBag s.bag) → HoldsFor n at s b →
      Moved n at s (deliver_by number link s) (note_deliver number link at s b)
  deliver_part None link n at s b placed have holds = unmoved n at s b placed holds
  deliver_part (Some number) link n at s b placed have holds = chosen_part (slice_get s.bag number) number link n at s b refl placed have holds

  hand_part : (link : Option ℕ) (back : Bool) (piece : List ℕ) (n at : ℕ) (s : State) (b : Book) → ((there : ℕ) → link ≡ Some there → IsFromOutside s.links there) →
      IsPlaced s → (Known → AreBytes piece) → HoldsFor n at s b → Moved n at s (hand_on link back piece s) (note_hand link back piece at s b)
  hand_part None back piece n at s b outside placed bytes holds = unmoved n at s b placed holds
  hand_part (Some link) back piece n at s b outside placed bytes holds =
      let w : Delivery = record { at = at; source = Outside; link = link; back = back } in
      let end : Option EndId = hearer_of back (lookup same_number link s.open_links) in
      let one : After (coming w) (n + 1 + 2 * length s.open_links) (hear_and_act_if end (event.Bytes link piece) s) [] (note_at end w piece s (hear_and_act_if end (event.Bytes link piece) s).state b) =
      piece_part end w piece n s [] b refl (outside link refl) bytes placed (holds (Some w)) in
      record {
        steps = one.steps;
        on = Some w;
        holds = one.holds;
        placed = heard_if_stays Placed placed_stay.steps end (event.Bytes link piece) s placed;
        few = λ known. omega (arith, one.few);
      }

  -- ---- a move

  quiet_part : (what : Move) (most n at : ℕ) (s : State) (b : Book) → IsPlaced s → most ≤ n + 2 * length s.open_links + 10 → Quietly at most (act s what) [] b →
      Moved n at s (act s what) b
  quiet_part what most n at s b placed few part = record {
    steps = part.steps;
    on = None;
    holds = part.holds;
    placed = move_stays Placed placed_stay what s placed;
    few = λ known. omega (arith, part.few, few);
  }

  act_part : (what : Move) (n at : ℕ) (s : State) (b : Book) → IsPlaced s → (Known → IsBytesBag s.bag) → (Known → HandsBytes what) →
      ((one : EndId) → restart_of what s ≡ Some one → IsRenewed n at s b one) → HoldsFor n at s b →
      Moved n at s (act s what) (note_coming what at s b)
  act_part move.Onward n at s b placed have handed anew holds = onward_part (first_waiting s.bag) n at s b placed have holds
  act_part (move.Deliver unit link) n at s b placed have handed anew holds = deliver_part (chosen_place unit (length s.bag)) link n at s b placed have holds
  act_part (move.Hand link back piece) n at s b placed have handed anew holds =
      hand_part (chosen_in link (handed_links s.links)) back piece n at s b (λ there is. handed_outside s.links (link % length (handed_links s.links)) there is) placed handed holds
  act_part (move.Start number) n at s b placed have handed anew holds =
      quiet_part (move.Start number) (n + 1 + 2 * length s.open_links) n at s b placed (omega arith) (start_part (chosen_place number (starters_in s.ends)) n at s b (holds None))
  act_part (move.Stranger number) n at s b placed have handed anew holds =
      quiet_part (move.Stranger number) (n + 3 + 2 * length s.open_links) n at s b placed (omega arith) (stranger_part (chosen_place number (acceptors_in s.ends)) n at s b (holds None))
  act_part move.Connect n at s b placed have handed anew holds =
      quiet_part move.Connect (n + 6 + 2 * length s.open_links) n at s b placed (omega arith) (connect_part (slice_get s.dials 0) n at s b refl (holds None))
  act_part move.FailDial n at s b placed have handed anew holds =
      quiet_part move.FailDial (n + 1 + 2 * length s.open_links) n at s b placed (omega arith) (fail_part (slice_get s.dials 0) n at s b refl (holds None))
  act_part move.Lose n at s b placed have handed anew holds =
      quiet_part move.Lose (n + 2 * length s.open_links) n at s b placed (omega arith) (lose_part (first_waiting s.bag) n at s b (holds None))
  act_part (move.Shut number) n at s b placed have handed anew holds =
      quiet_part (move.Shut number) (n + 2 + 2 * length s.open_links) n at s b placed (omega arith) (shut_part (chosen_place number (length s.open_links)) n at s b (holds None))
  act_part (move.Restart number) n at s b placed have handed anew holds =
      quiet_part (move.Restart number) (n + 2 * length s.open_links) n at s b placed (omega arith) (restart_part (chosen_place number (count_of s.ends)) n at s b anew (holds None))
  act_part (move.Change member secret) n at s b placed have handed anew holds =
      quiet_part (move.Change member secret) (n + 1 + 2 * length s.open_links) n at s b placed (omega arith) (change_part (chosen_place member (length s.ends.members)) secret n at s b handed (holds None))
  act_part (move.Tick more) n at s b placed have handed anew holds =
      quiet_part (move.Tick more) (n + 2 * length s.open_links) n at s b placed (omega arith)
      (nothing (waiting at None) (n + 2 * length s.open_links) n (tick more s) [] b (keeps.ticks n at more s b tt (holds None)) (omega arith))

-- ---- a run

module _ (Known : Type 0) (Holds : MoveFact) (keeps : KeepsMovesBy any Known NoSide Holds) (starts : StationsStart Holds) where
  abbrev Calm : KeepsCalmMovesBy any Known NoSide Holds
  Calm = but_renewed Known Holds keeps

  -- a move, at which an end may be made anew
  any_part : (what : Move) (n at : ℕ) (s : State) (b : Book) → IsPlaced s → (Known → IsBytesBag s.bag) → (Known → HandsBytes what) → HoldsFor Known Holds Calm starts n at s b →
      Moved Known Holds Calm starts n at s (act s what) (note_coming what at s b)
  any_part what n at s b placed have handed holds = act_part Known Holds Calm starts what n at s b placed have handed (λ end is. keeps.renews n at end s b tt (holds None)) holds

  record Ran (n : ℕ) (moves : List Move) (w : World) (b : Book) : Type 0 where
    steps : ℕ
    holds : HoldsFor Known Holds Calm starts steps (run moves w).moves (run moves w).state (book moves w b)
    few : Known → steps + 2 * length (run moves w).state.open_links ≤ n + 2 * length w.state.open_links + 10 * length moves

  run_part : (moves : List Move) (n : ℕ) (w : World) (b : Book) → (Known → IsBytesBag (run moves w).state.bag) → (Known → AllByRecursion HandsBytes moves) → IsPlaced w.state →
      HoldsFor Known Holds Calm starts n w.moves w.state b → Ran n moves w b
  run_part [] n w b have handed placed holds = record { steps = n; holds = holds; few = λ known. omega arith }
  run_part (what ∷ moves) n w b have handed placed holds =
      let moved : Moved Known Holds Calm starts n w.moves w.state (act w.state what) (note_coming what w.moves w.state b) =
      any_part what n w.moves w.state b placed
      (λ known. bag_before w.state.bag (run (what ∷ moves) w).state.bag (run_still (what ∷ moves) w) (have known)) (λ known. (handed known).0) holds in
      let later : Ran moved.steps moves (happens w what) (note w what b) =
      run_part moves moved.steps (happens w what) (note w what b) have (λ known. (handed known).1) moved.placed
      (λ next. keeps.over moved.steps w.moves moved.on next (act w.state what).state (act w.state what).given (note_coming what w.moves w.state b) tt moved.holds) in
      record { steps = later.steps; holds = later.holds; few = λ known. omega (arith, later.few known, moved.few known) }

-- moves are carried where what holds says of the bag that its units are short, and have bytes
module _ (Holds : MoveFact) (keeps : KeepsMovesBy any (Unit {0}) NoSide Holds) (starts : StationsStart Holds)
    (says : (n at : ℕ) (s : State) (b : Book) → Holds n (started at None) s [] b → IsBytesBag s.bag) where
  carry_part : (moves : List Move) (n : ℕ) (w : World) (b : Book) → AllByRecursion HandsBytes moves → IsPlaced w.state → HoldsFor (Unit {0}) Holds (Calm (Unit {0}) Holds keeps starts) starts n w.moves w.state b →
      Ran (Unit {0}) Holds keeps starts n moves w b
  carry_part [] n w b handed placed holds = record { steps = n; holds = holds; few = λ known. omega arith }
  carry_part (what ∷ moves) n w b handed placed holds =
      let moved : Moved (Unit {0}) Holds (Calm (Unit {0}) Holds keeps starts) starts n w.moves w.state (act w.state what) (note_coming what w.moves w.state b) =
      any_part (Unit {0}) Holds keeps starts what n w.moves w.state b placed (λ known. says n w.moves w.state b (holds None)) (λ known. handed.0) holds in
      let later : Ran (Unit {0}) Holds keeps starts moved.steps moves (happens w what) (note w what b) =
      carry_part moves moved.steps (happens w what) (note w what b) handed.1 moved.placed
      (λ next. keeps.over moved.steps w.moves moved.on next (act w.state what).state (act w.state what).given (note_coming what w.moves w.state b) tt moved.holds) in
      record { steps = later.steps; holds = later.holds; few = λ known. omega (arith, later.few known, moved.few known) }

-- A fact holds after a run from a plan, at which ten steps of ends a move were taken at most, where what comes is
-- known.
pub record HoldsAfterMoves (Known : Type 0) (Holds : MoveFact) (plan : Plan) (moves : List Move) : Type 0 where
  pub steps : ℕ
  pub holds : Holds steps (started (past plan moves).world.moves None) (past plan moves).world.state [] (past plan moves).book
  pub few : Known → steps + 2 * length (past plan moves).world.state.open_links ≤ 10 * length moves

pub moves_keep : (Known : Type 0) (Holds : MoveFact) → KeepsMovesBy any Known NoSide Holds → StationsStart Holds → (plan : Plan) (moves : List Move) → (Known → HasBytes plan moves) →
    ((on : Option Delivery) → Holds 0 (started 0 on) (first_world plan).state [] blank) → HoldsAfterMoves Known Holds plan moves
moves_keep Known Holds keeps starts plan moves has holds =
    let bag : List BagUnit = (past plan moves).world.state.bag in
    let ran : Ran Known Holds keeps starts 0 moves (first_world plan) blank =
    run_part Known Holds keeps starts moves 0 (first_world plan) blank
    (λ known. record { short = λ k unit there. unit_short bag k unit (has known).short there; bytes = bytes_in bag (has known).bytes }) (λ known. (has known).handed)
    (record { made = tt; kinds = λ k unit there. absurd (got_nothing k unit there) }) holds in
    record { steps = ran.steps; holds = ran.holds None; few = λ known. omega (arith, ran.few known) }

-- a fact that says of the bag that its units are bytes is kept where what is handed in are bytes
pub moves_carry : (Holds : MoveFact) → KeepsMovesBy any (Unit {0}) NoSide Holds → StationsStart Holds → ((n at : ℕ) (s : State) (b : Book) → Holds n (started at None) s [] b → IsBytesBag s.bag) →
    (plan : Plan) (moves : List Move) → AllByRecursion HandsBytes moves → ((on : Option Delivery) → Holds 0 (started 0 on) (first_world plan).state [] blank) →
    HoldsAfterMoves (Unit {0}) Holds plan moves
moves_carry Holds keeps starts says plan moves handed holds =
    let ran : Ran (Unit {0}) Holds keeps starts 0 moves (first_world plan) blank =
    carry_part Holds keeps starts says moves 0 (first_world plan) blank handed (record { made = tt; kinds = λ k unit there. absurd (got_nothing k unit there) }) holds in
    record { steps = ran.steps; holds = ran.holds None; few = λ known. omega (arith, ran.few known) }

-- ---- from any world on

-- A fact that asks nothing of bytes holds after a run from any world in which links and units have their places.
pub later_keeps : (Holds : MoveFact) → KeepsMovesBy any ⊥ NoSide Holds → StationsStart Holds → (moves : List Move) (w : World) (b : Book) → IsPlaced w.state → ((on : Option Delivery) → Holds 0 (started w.moves on) w.state [] b) →
    (n : ℕ) × Holds n (started (run moves w).moves None) (run moves w).state [] (book moves w b)
later_keeps Holds keeps starts moves w b placed holds =
    let ran : Ran ⊥ Holds keeps starts 0 moves w b = run_part ⊥ Holds keeps starts moves 0 w b (λ none. absurd none) (λ none. absurd none) placed holds in (ran.steps, ran.holds None)

-- a fact that says nothing
abbrev AnyMove : MoveFact
AnyMove n p s given b = Unit {0}

any_keeps : KeepsMovesBy any ⊥ NoSide AnyMove
any_keeps = record {
  closes = λ n p end link s given b work none holds. tt;
  opens = λ n at dial route s given b out none holds. tt;
  dialled = λ n at end link s given b side none holds. tt;
  fails = λ n at end s b none holds. tt;
  begins = λ n at client plan s b is none holds. tt;
  comes = λ n end w piece s given b side came bytes none holds. tt;
  reaches = λ n w s given b none holds. tt;
  acts = λ n p end what s given b work none holds. tt;
  shuts = λ n p link s given b work none holds. tt;
  answers = λ n at dial link there s given b is none holds. tt;
  forgets = λ n at end s b none holds. tt;
  settles = λ n at on number s b none holds. tt;
  dials = λ n at dial s b is none holds. tt;
  renews = λ n at end s b none holds. tt;
  changes = λ n at member secret s b formed none holds. tt;
  ticks = λ n at more s b none holds. tt;
  over = λ n at on next s given b none holds. tt;
}

any_starts : StationsStart AnyMove
any_starts n at station plan s b is holds = tt

-- units have their places after each move
pub placed_next : (what : Move) (w : World) (b : Book) → IsPlaced w.state → IsPlaced (act w.state what).state
placed_next what w b placed =
    let moved : Moved ⊥ AnyMove (Calm ⊥ AnyMove any_keeps any_starts) any_starts 0 w.moves w.state (act w.state what) (note_coming what w.moves w.state b) =
    any_part ⊥ AnyMove any_keeps any_starts what 0 w.moves w.state b placed (λ none. absurd none) (λ none. absurd none) (λ on. tt) in moved.placed

-- ---- a move at which no end is made anew

-- `Holds` is kept through a move at which no end is made anew, though it isn't known to be where one is
pub move_keeps : (Holds : MoveFact) → KeepsCalmMovesBy any ⊥ NoSide Holds → StationsStart Holds → (what : Move) (w : World) (b : Book) → restart_of what w.state ≡ None → IsPlaced w.state →
    ((on : Option Delivery) → Holds 0 (started w.moves on) w.state [] b) →
    (n : ℕ) × ((next : Option Delivery) → Holds n (started (happens w what).moves next) (happens w what).state [] (note w what b))
move_keeps Holds keeps starts what w b none placed holds =
    let moved : Moved ⊥ Holds keeps starts 0 w.moves w.state (act w.state what) (note_coming what w.moves w.state b) =
    act_part ⊥ Holds keeps starts what 0 w.moves w.state b placed (λ never. absurd never) (λ never. absurd never)
    (λ end is. absurd (let never : None ≡ Some end = sym none ∙ is in cc)) holds in
    (moved.steps, λ next. keeps.over moved.steps w.moves moved.on next (act w.state what).state (act w.state what).given (note_coming what w.moves w.state b) tt moved.holds)
