-- What the ends of a world tell is bounded by its moves.
-- It serves `World::report`, `World::step`.
use Rattle.std.proofs.Common.{◌≡◌, ℕ, zero, suc, ◌+◌, ◌-◌, ◌*◌, ◌≤◌, Bool, true, false, cond, List, [], ◌∷◌, length, map, drop, Option, Some, None, slice_get, slice_set, refl, sym, ap, subst, ◌∙◌, arith, length-drop}
use Rattle.std.specs.List.{count_by}
use Rattle.std.proofs.lemmas.List.{length-take}
use Rattle.std.proofs.lemmas.List.Elements.{All-head, All-tail}
use Rattle.std.proofs.lemmas.List.Sums.{sum_by-cons}
use Rattle.wire_base.specs.Maps.{lookup, same_number}
use Rattle.outside.specs.Drawing.{Drawing}
use Rattle.outside.specs.declared.action.Action.{Action}
use Rattle.outside.specs.declared.action.Action.TheVariants.{Keep, Send, Dial, Close, Told, Judged}
use Rattle.outside.specs.declared.action.Judged.TheVariants as judged
use Rattle.outside.specs.declared.action.Outcome.TheVariants as outcome
use Rattle.outside.specs.declared.event.Event.{Event}
use Rattle.outside.specs.declared.event.Event.TheVariants as event
use Rattle.end_links.specs.Bounds.{send_limit}
use Rattle.account_table.specs.AccountTable.{AccountTable}
use Rattle.domain_controller.specs.Laws.{is_passed}
use Rattle.domain_controller.specs.SealStep.{seal_step_of as controller_step_of}
use Rattle.domain_controller.specs.State.{State as ControllerState}
use Rattle.interactive_station.specs.Machine.{step_of as station_step_of}
use Rattle.interactive_station.specs.State.{StationState}
use Rattle.interactive_station.specs.declared.plan.StationPlan.{StationPlan}
use Rattle.logon_client.specs.State.{State as ClientState}
use Rattle.logon_client.specs.Machine.{begin_of, fresh_client, step_of as client_step_of}
use Rattle.logon_client.specs.declared.plan.ClientPlan.{ClientPlan}
use Rattle.member_server.specs.SealStep.{any_step_of as member_step_of, sealing_member}
use Rattle.member_server.specs.State.{State as MemberState}
use Rattle.member_server.specs.declared.plan.MemberPlan.{MemberPlan}
use Rattle.world_moves.specs.declared.bag.BagUnit.{BagUnit}
use Rattle.world_moves.specs.declared.counting.Counts.{Counts}
use Rattle.world_moves.specs.declared.counting.Report.{Report}
use Rattle.world_moves.specs.declared.links.EndId.{EndId}
use Rattle.world_moves.specs.declared.links.EndId.TheVariants.{Client, Member, Station}
use Rattle.world_moves.specs.declared.links.OpenLink.{OpenLink}
use Rattle.world_moves.specs.declared.links.Route.{Route}
use Rattle.world_moves.specs.declared.links.Route.TheVariants.{Stranger}
use Rattle.world_moves.specs.declared.moves.Move.{Move}
use Rattle.world_moves.specs.declared.moves.Move.TheVariants as move
use Rattle.world_moves.specs.declared.plan.Plan.{Plan}
use Rattle.world_moves.specs.declared.state.State.{State}
use Rattle.world_moves.specs.declared.state.WaitingDial.{WaitingDial}
use Rattle.world_moves.specs.Acting.{AfterHearing, close_open, closed_at, done, forget, hear, hear_and_act, hear_and_act_if, link_closed, perform, perform_all, perform_all_quietly, perform_by, perform_quietly, piece_comes, pieces_come, shut_link}
use Rattle.world_moves.specs.Bag.{AreShortUnits, first_waiting, piece_limit, pieces_in, pieces_of, settle_at, settle_by, settled}
use Rattle.world_moves.specs.Choosing.{chosen_in, chosen_place}
use Rattle.world_moves.specs.Counting.{AreCounted, add_counts, clipped, counts_of, is_barred, is_in, is_out, is_unanswered, judges, tells}
use Rattle.world_moves.specs.Ends.{EndStates, EndStep, acceptors_in, actions_by, client_done, controller_done, count_of, end_at, end_step, fresh_controller, member_done, no_step, starters_in, station_done}
use Rattle.world_moves.specs.Links.{acceptor_of, handed_links, hearer_of, hearer_on, links_of, other_hearer}
use Rattle.world_moves.specs.Moving.{act, answer_by, answered_link, begun, change_at, changed, come_by, come_on_own, connect_by, connect_first, deliver_by, deliver_on, deliver_unit, end_of_peer, fail_first, hand_on, lose_by, onward_by, open_link, renewed, restart_at, restart_by, route_to, settle, shut_at, shut_by, start_at, start_by, start_station_by, station_begun, stranger_at, stranger_by, with_link, without_first}
use Rattle.world_moves.specs.Telling.{IsWithin, adds_at, bytes_left, bytes_of, counted_in, level_limit, level_of, opens_at, outcomes_left, outcomes_of, tells_one, told_by}
use Rattle.world_moves.specs.World.{IsMove, World, counted_of_run, first_controllers, first_world, happens, move_limit, report_of, report_of_run, run, run_of}
use Rattle.world_moves.proofs.SealAskingLaws.{member_tells}
use Rattle.world_moves.proofs.BagLaws.{units_settle}
use Rattle.world_moves.proofs.ChangeLaws.{by_change, member_begun}
use Rattle.world_moves.proofs.CountLaws.{counts_are_of_actions}
use Rattle.world_moves.proofs.MuteLaws.{client_tells}
use Rattle.world_moves.proofs.SealTellingLaws.{controller_tells}
use Rattle.world_moves.proofs.EndKindLaws.{renew_by, step_by}

-- ---- counts

clip_few : (count more : ℕ) → clipped (count + clipped more) ≤ count + more
clip_few count more = omega arith

one_few : (what : Action) →
    cond (tells is_in what) 1 0 + cond (tells is_out what) 1 0 + cond (tells is_unanswered what) 1 0 + cond (judges is_passed what) 1 0 + cond (judges is_barred what) 1 0 ≤ tells_one what
one_few (Keep bytes) = omega arith
one_few (Send link bytes) = omega arith
one_few (Dial peer) = omega arith
one_few (Close link cause) = omega arith
one_few (Told link (outcome.In domain user key)) = omega arith
one_few (Told link (outcome.Out status)) = omega arith
one_few (Told link (outcome.NoController cause)) = omega arith
one_few (Judged (judged.Passed status)) = omega arith
one_few (Judged judged.Forwarded) = omega arith
one_few (Judged (judged.Answered status)) = omega arith
one_few (Judged judged.Barred) = omega arith
one_few (Judged judged.NoChannel) = omega arith

abbrev pub each_of : List Action → ℕ
each_of actions =
    count_by (tells is_in) actions + count_by (tells is_out) actions + count_by (tells is_unanswered) actions + count_by (judges is_passed) actions + count_by (judges is_barred) actions

one_more : (test : Action → Bool) (what : Action) (actions : List Action) → count_by test (what ∷ actions) ≡ cond (test what) 1 0 + count_by test actions
one_more test what actions = sum_by-cons (λ (a : Action). cond (test a) 1 0) what actions

each_few : (actions : List Action) → each_of actions ≤ told_by actions
each_few [] = omega arith
each_few (what ∷ actions) = omega (
  arith,
  each_few actions,
  one_few what,
  one_more (tells is_in) what actions,
  one_more (tells is_out) what actions,
  one_more (tells is_unanswered) what actions,
  one_more (judges is_passed) what actions,
  one_more (judges is_barred) what actions,
)

counted_few : (c : Counts) (actions : List Action) → counted_in (add_counts c (counts_of actions)) ≤ counted_in c + told_by actions
counted_few c actions = omega (
  arith,
  each_few actions,
  clip_few c.accepted (count_by (tells is_in) actions),
  clip_few c.refused (count_by (tells is_out) actions),
  clip_few c.no_controller (count_by (tells is_unanswered) actions),
  clip_few c.passed (count_by (judges is_passed) actions),
  clip_few c.barred (count_by (judges is_barred) actions),
)

-- ---- an end in place of another

bytes_put : (controllers : List ControllerState) (at : ℕ) (old new : ControllerState) → slice_get controllers at ≡ Some old →
    bytes_of (slice_set controllers at new) + bytes_left old.running ≤ bytes_of controllers + bytes_left new.running
bytes_put [] at old new there = absurd cc
bytes_put (c ∷ controllers) zero old new there = let here : c ≡ old = cc in omega (arith, ap (λ (x : ControllerState). bytes_left x.running) here)
bytes_put (c ∷ controllers) (suc at) old new there = omega (arith, bytes_put controllers at old new there)

bytes_anew : (controllers : List ControllerState) (at : ℕ) (new : ControllerState) → bytes_left new.running ≡ 0 → bytes_of (slice_set controllers at new) ≤ bytes_of controllers
bytes_anew [] at new none = omega arith
bytes_anew (c ∷ controllers) zero new none = omega (arith, none)
bytes_anew (c ∷ controllers) (suc at) new none = omega (arith, bytes_anew controllers at new none)

-- one that was just made has no links
fresh_bytes : (hands_on seals : Bool) (table : AccountTable) (name : List ℕ) → bytes_left (fresh_controller hands_on seals table name).running ≡ 0
fresh_bytes hands_on true table name = refl
fresh_bytes false false table name = refl
fresh_bytes true false table name = refl

outcomes_put : (members : List MemberState) (at : ℕ) (old new : MemberState) → slice_get members at ≡ Some old →
    outcomes_of (slice_set members at new) + outcomes_left old.running ≤ outcomes_of members + outcomes_left new.running
outcomes_put [] at old new there = absurd cc
outcomes_put (m ∷ members) zero old new there = let here : m ≡ old = cc in omega (arith, ap (λ (x : MemberState). outcomes_left x.running) here)
outcomes_put (m ∷ members) (suc at) old new there = omega (arith, outcomes_put members at old new there)

outcomes_anew : (members : List MemberState) (at : ℕ) (new : MemberState) → outcomes_left new.running ≡ 0 → outcomes_of (slice_set members at new) ≤ outcomes_of members
outcomes_anew [] at new none = omega arith
outcomes_anew (m ∷ members) zero new none = omega (arith, none)
outcomes_anew (m ∷ members) (suc at) new none = omega (arith, outcomes_anew members at new none)

-- ---- an end hears something

opens_add : (what : Event) → 16 * opens_at what ≤ adds_at what
opens_add (event.Opened link) = omega arith
opens_add (event.Bytes link piece) = omega arith
opens_add (event.Closed link) = omega arith
opens_add (event.Dialled link) = omega arith
opens_add event.DialFailed = omega arith
opens_add event.Stop = omega arith

abbrev pub level : State → ℕ
level s = level_of s.counts s.ends

-- what a step of an end comes to, by its ends and its actions
abbrev Adds : EndStates → Counts → Event → EndStep → Type 0
Adds ends c what step = level_of (add_counts c (counts_of step.counted)) step.ends ≤ level_of c ends + adds_at what

module _ (what : Event) (now : ℕ) (ends : EndStates) (chances : Drawing) (c : Counts) where
  none_level : (end : EndId) → Adds ends c what (no_step ends chances)
  unfolding level_of
  none_level end = omega (arith, counted_few c [])

  controller_level : (at : ℕ) (s : ControllerState) → slice_get ends.controllers at ≡ Some s → Adds ends c what (controller_done (controller_step_of s what now chances.left) at ends chances)
  unfolding level_of
  controller_level at s is =
      let step = controller_step_of s what now chances.left in
      omega (arith, counted_few c (actions_by step.answer), controller_tells s what now chances.left, bytes_put ends.controllers at s step.state is)

  member_level : (at : ℕ) (s : MemberState) → slice_get ends.members at ≡ Some s → Adds ends c what (member_done (member_step_of s what now chances.left) at ends chances)
  unfolding level_of
  member_level at s is =
      let step = member_step_of s what now chances.left in
      omega (arith, counted_few c (actions_by step.answer), member_tells s what now chances.left, outcomes_put ends.members at s step.state is, opens_add what)

  client_level : (at : ℕ) (s : ClientState) → slice_get ends.clients at ≡ Some s → Adds ends c what (client_done (client_step_of s what now chances.left) at ends chances)
  unfolding level_of
  client_level at s is = omega (arith, counted_few c (actions_by (client_step_of s what now chances.left).answer), client_tells s what now chances.left)

  -- what a station tells isn't counted
  station_level : (at : ℕ) (t : StationState) → slice_get ends.stations at ≡ Some t → Adds ends c what (station_done (station_step_of t what now chances.left) at ends chances)
  unfolding level_of
  station_level at t is = omega (arith, counted_few c [])

hear_level : (most : ℕ) (end : EndId) (what : Event) (s : State) → level s + adds_at what ≤ most → level (hear end what s).state ≤ most
hear_level most end what s few =
    let adds : Adds s.ends s.counts what (end_step end what s.moment s.ends s.chances) =
    step_by (λ (one : EndId) (step : EndStep). Adds s.ends s.counts what step) what s.moment s.ends s.chances (none_level what s.moment s.ends s.chances s.counts)
    (controller_level what s.moment s.ends s.chances s.counts) (member_level what s.moment s.ends s.chances s.counts) (client_level what s.moment s.ends s.chances s.counts)
    (station_level what s.moment s.ends s.chances s.counts) end in
    omega (arith, few, adds)

-- ---- actions

nothing_more : (count most : ℕ) → count ≤ most → count + 0 ≤ most
nothing_more count most few = omega (arith, few)

module _ (most : ℕ) where
  all_quiet_level : (end : EndId) (actions : List Action) (s : State) → level s ≤ most → level (perform_all_quietly end actions s) ≤ most
  all_quiet_level end [] s few = few
  all_quiet_level end (what ∷ actions) s few = all_quiet_level end actions (perform_quietly end what s) few

  closed_level : (end : Option EndId) (link : ℕ) (s : State) → level s ≤ most → level (closed_at end link s).state ≤ most
  closed_level None link s few = few
  closed_level (Some end) link s few =
      all_quiet_level end (hear end (event.Closed link) s).actions (hear end (event.Closed link) s).state (hear_level most end (event.Closed link) s (nothing_more (level s) most few))

  close_open_level : (there : Option OpenLink) (end : EndId) (link : ℕ) (s : State) → level s ≤ most → level (close_open there end link s).state ≤ most
  close_open_level None end link s few = few
  close_open_level (Some there) end link s few = closed_level (other_hearer end there) link (shut_link link s) few

  perform_by_level : (closed : Option ℕ) (end : EndId) (what : Action) (s : State) → level s ≤ most → level (perform_by closed end what s).state ≤ most
  perform_by_level None end what s few = few
  perform_by_level (Some link) end what s few = close_open_level (lookup same_number link s.open_links) end link s few

  perform_level : (end : EndId) (what : Action) (s : State) → level s ≤ most → level (perform end what s).state ≤ most
  perform_level end what s few = perform_by_level (link_closed what) end what s few

  all_level : (end : EndId) (actions : List Action) (s : State) → level s ≤ most → level (perform_all end actions s).state ≤ most
  all_level end [] s few = few
  all_level end (what ∷ actions) s few = all_level end actions (perform end what s).state (perform_level end what s few)

  done_level : (end : EndId) (heard : AfterHearing) → level heard.state ≤ most → level (done end heard).state ≤ most
  done_level end heard few = all_level end heard.actions heard.state few

  hears_level : (end : EndId) (what : Event) (s : State) → level s + adds_at what ≤ most → level (hear_and_act end what s).state ≤ most
  hears_level end what s few = done_level end (hear end what s) (hear_level most end what s few)

  hears_if_level : (end : Option EndId) (what : Event) (s : State) → level s + adds_at what ≤ most → level (hear_and_act_if end what s).state ≤ most
  hears_if_level None what s few = omega (arith, few)
  hears_if_level (Some end) what s few = hears_level end what s few

  piece_level : (back : Bool) (link : ℕ) (piece : List ℕ) (s : State) → level s + length piece ≤ most → level (piece_comes back link piece s).state ≤ most
  piece_level back link piece s few = hears_if_level (hearer_of back (lookup same_number link s.open_links)) (event.Bytes link piece) s few

-- ---- pieces

abbrev pub total : List (List ℕ) → ℕ
total [] = 0
total (piece ∷ pieces) = length piece + total pieces

pieces_level : (most : ℕ) (back : Bool) (link : ℕ) (pieces : List (List ℕ)) (s : State) → level s + total pieces ≤ most → level (pieces_come back link pieces s).state ≤ most
pieces_level most back link [] s few = omega (arith, few)
pieces_level most back link (piece ∷ pieces) s few =
    pieces_level most back link pieces (piece_comes back link piece s).state
    (omega (arith, few, piece_level (level s + length piece) back link piece s (omega arith)))

total_in : (most : ℕ) (bytes : List ℕ) → total (pieces_in most bytes) ≤ length bytes
total_in most [] = omega arith
total_in zero (byte ∷ bytes) = omega arith
total_in (suc most) (byte ∷ bytes) =
    omega (arith, total_in most (drop piece_limit (byte ∷ bytes)), length-take piece_limit (byte ∷ bytes), length-drop piece_limit (byte ∷ bytes))

total_of : (bytes : List ℕ) → total (pieces_of bytes) ≤ length bytes
unfolding pieces_of
total_of bytes = total_in (length bytes) bytes

-- ---- units of the bag

pub unit_short : (bag : List BagUnit) (number : ℕ) (unit : BagUnit) → AreShortUnits bag → slice_get bag number ≡ Some unit → length unit.bytes ≤ send_limit
unit_short [] number unit short there = absurd cc
unit_short (first ∷ bag) zero unit short there =
    let here : first ≡ unit = cc in subst (λ (u : BagUnit). length u.bytes ≤ send_limit) here (All-head (λ (u : BagUnit). length u.bytes ≤ send_limit) first bag short)
unit_short (first ∷ bag) (suc number) unit short there = unit_short bag number unit (All-tail (λ (u : BagUnit). length u.bytes ≤ send_limit) first bag short) there

settled_by : (found : Option BagUnit) (number : ℕ) (bag : List BagUnit) → slice_get bag number ≡ found → AreShortUnits bag → AreShortUnits (settle_by found number bag)
settled_by None number bag is short = short
settled_by (Some unit) number bag is short = units_settle bag number (settled unit) short (unit_short bag number unit short is)

settled_short : (number : ℕ) (bag : List BagUnit) → AreShortUnits bag → AreShortUnits (settle_at number bag)
settled_short number bag short = settled_by (slice_get bag number) number bag refl short

-- ---- moves

module _ (most : ℕ) where
  station_by_level : (plan : Option StationPlan) (station : ℕ) (s : State) → level s ≤ most → level (start_station_by plan station s).state ≤ most
  unfolding level_of
  station_by_level None station s few = few
  station_by_level (Some plan) station s few =
      done_level most (Station station) (station_begun station plan (forget (Station station) s)) (omega (arith, few, counted_few s.counts []))

  start_by_level : (plan : Option ClientPlan) (client : ℕ) (s : State) → level s ≤ most → level (start_by plan client s).state ≤ most
  unfolding level_of
  start_by_level None client s few =
      station_by_level (slice_get s.station_plans (client - length s.client_plans)) (client - length s.client_plans) s few
  start_by_level (Some plan) client s few =
      done_level most (Client client) (begun client plan (forget (Client client) s))
      (omega (arith, few, counted_few s.counts (begin_of (fresh_client plan)).actions))

  start_level : (at : Option ℕ) (s : State) → level s ≤ most → level (start_at at s).state ≤ most
  start_level None s few = few
  start_level (Some at) s few = start_by_level (slice_get s.client_plans at) at s few

  open_level : (route : Route) (s : State) → level s + 16 ≤ most → level (open_link route s).state ≤ most
  open_level route s few = hears_level most (acceptor_of route) (event.Opened (length s.links)) (with_link route s) few

  stranger_by_level : (end : Option EndId) (s : State) → level s + 16 ≤ most → level (stranger_by end s).state ≤ most
  stranger_by_level None s few = omega (arith, few)
  stranger_by_level (Some end) s few = open_level (Stranger end) s few

  stranger_level : (number : Option ℕ) (s : State) → level s + 16 ≤ most → level (stranger_at number s).state ≤ most
  stranger_level None s few = omega (arith, few)
  stranger_level (Some number) s few = stranger_by_level (end_at number s.ends) s few

  answer_level : (there : Option OpenLink) (end : EndId) (link : ℕ) (s : State) → level s ≤ most → level (answer_by there end link s).state ≤ most
  answer_level None end link s few =
      closed_level most (Some end) link (hear_and_act end (event.Dialled link) s).state (hears_level most end (event.Dialled link) s (nothing_more (level s) most few))
  answer_level (Some there) end link s few = hears_level most end (event.Dialled link) (answered_link link there s) (nothing_more (level s) most few)

  connect_by_level : (route : Option Route) (end : EndId) (s : State) → level s + 16 ≤ most → level (connect_by route end s).state ≤ most
  connect_by_level None end s few = hears_level most end event.DialFailed s (omega (arith, few))
  connect_by_level (Some route) end s few =
      let later : State = (open_link route s).state in
      answer_level (lookup same_number (length s.links) later.open_links) end (length s.links) later (open_level route s few)

  connect_level : (first : Option WaitingDial) (s : State) → level s + 16 ≤ most → level (connect_first first s).state ≤ most
  connect_level None s few = omega (arith, few)
  connect_level (Some first) s few = connect_by_level (route_to first.end (end_of_peer first.peer s.ends)) first.end s few

  fail_level : (first : Option WaitingDial) (s : State) → level s ≤ most → level (fail_first first s).state ≤ most
  fail_level None s few = few
  fail_level (Some first) s few = hears_level most first.end event.DialFailed s (nothing_more (level s) most few)

  lose_level : (number : Option ℕ) (s : State) → level s ≤ most → level (lose_by number s) ≤ most
  lose_level None s few = few
  lose_level (Some number) s few = few

  shut_level : (entry : Option (ℕ × OpenLink)) (s : State) → level s ≤ most → level (shut_by entry s).state ≤ most
  shut_level None s few = few
  shut_level (Some entry) s few =
      closed_level most (hearer_on true entry.1) entry.0 (closed_at (hearer_on false entry.1) entry.0 (shut_link entry.0 s)).state
      (closed_level most (hearer_on false entry.1) entry.0 (shut_link entry.0 s) few)

  shut_at_level : (number : Option ℕ) (s : State) → level s ≤ most → level (shut_at number s).state ≤ most
  shut_at_level None s few = few
  shut_at_level (Some number) s few = shut_level (slice_get s.open_links number) s few

  renewed_level : (end : EndId) (s : State) → level s ≤ most → level (renewed end s) ≤ most
  unfolding level_of
  renewed_level end s few =
      renew_by (λ (one : EndId) (ends : EndStates). level_of s.counts ends ≤ most) s (λ one. few)
      (λ at c is. omega (arith, few, bytes_anew s.ends.controllers at (fresh_controller s.hands_on s.seals c.table c.name) (fresh_bytes s.hands_on s.seals c.table c.name)))
      (λ at plan is. omega (arith, few, outcomes_anew s.ends.members at (sealing_member plan) refl)) (λ at plan is. few) (λ at plan is. few) end

  changed_level : (at : ℕ) (secret : List ℕ) (s : State) → level s ≤ most → level (changed at secret s).state ≤ most
  unfolding level_of
  changed_level at secret s few =
      by_change (λ (ends : EndStates) (actions : List Action). level_of s.counts ends ≤ most) at secret s.ends few
      (λ running is none. omega (arith, few, outcomes_put s.ends.members at (record { running = Some running }) (member_begun secret running) is))

  change_level : (at : Option ℕ) (secret : List ℕ) (s : State) → level s ≤ most → level (change_at at secret s).state ≤ most
  change_level None secret s few = few
  change_level (Some at) secret s few = done_level most (Member at) (changed at secret s) (changed_level at secret s few)

  restart_by_level : (end : Option EndId) (s : State) → level s ≤ most → level (restart_by end s) ≤ most
  restart_by_level None s few = few
  restart_by_level (Some end) s few = renewed_level end (forget end s) few

  restart_level : (number : Option ℕ) (s : State) → level s ≤ most → level (restart_at number s) ≤ most
  restart_level None s few = few
  restart_level (Some number) s few = restart_by_level (end_at number s.ends) s few

  -- ---- bytes come

  come_level : (unit : Option BagUnit) (number link : ℕ) (s : State) → slice_get s.bag number ≡ unit → AreShortUnits s.bag → level s + level_limit ≤ most → level (come_by unit link s).state ≤ most
  come_level None number link s is short few = omega (arith, few)
  come_level (Some unit) number link s is short few =
      pieces_level most unit.back link (pieces_of unit.bytes) s (omega (arith, few, total_of unit.bytes, unit_short s.bag number unit short is))

  own_level : (unit : Option BagUnit) (number : ℕ) (s : State) → AreShortUnits s.bag → level s + level_limit ≤ most → level (come_on_own unit number s).state ≤ most
  own_level None number s short few = omega (arith, few)
  own_level (Some unit) number s short few = come_level (slice_get (settle number s).bag number) number unit.link (settle number s) refl (settled_short number s.bag short) few

  onward_level : (number : Option ℕ) (s : State) → AreShortUnits s.bag → level s + level_limit ≤ most → level (onward_by number s).state ≤ most
  onward_level None s short few = omega (arith, few)
  onward_level (Some number) s short few = own_level (slice_get s.bag number) number s short few

  on_level : (link : Option ℕ) (number : ℕ) (s : State) → AreShortUnits s.bag → level s + level_limit ≤ most → level (deliver_on link number s).state ≤ most
  on_level None number s short few = omega (arith, few)
  on_level (Some link) number s short few = come_level (slice_get (settle number s).bag number) number link (settle number s) refl (settled_short number s.bag short) few

  chosen_level : (unit : Option BagUnit) (number link : ℕ) (s : State) → AreShortUnits s.bag → level s + level_limit ≤ most → level (deliver_unit unit number link s).state ≤ most
  chosen_level None number link s short few = omega (arith, few)
  chosen_level (Some unit) number link s short few = on_level (chosen_in link (links_of unit.kind s.links)) number s short few

  deliver_level : (number : Option ℕ) (link : ℕ) (s : State) → AreShortUnits s.bag → level s + level_limit ≤ most → level (deliver_by number link s).state ≤ most
  deliver_level None link s short few = omega (arith, few)
  deliver_level (Some number) link s short few = chosen_level (slice_get s.bag number) number link s short few

  hand_level : (link : Option ℕ) (back : Bool) (bytes : List ℕ) (s : State) → length bytes ≤ 65536 → level s + level_limit ≤ most → level (hand_on link back bytes s).state ≤ most
  hand_level None back bytes s short few = omega (arith, few)
  hand_level (Some link) back bytes s short few = piece_level most back link bytes s (omega (arith, few, short))

  act_level : (what : Move) (s : State) → IsMove what → AreShortUnits s.bag → level s + level_limit ≤ most → level (act s what).state ≤ most
  act_level (move.Start number) s is short few = start_level (chosen_place number (starters_in s.ends)) s (omega (arith, few))
  act_level (move.Stranger number) s is short few = stranger_level (chosen_place number (acceptors_in s.ends)) s (omega (arith, few))
  act_level move.Connect s is short few = connect_level (slice_get s.dials 0) (without_first s) (omega (arith, few))
  act_level move.FailDial s is short few = fail_level (slice_get s.dials 0) (without_first s) (omega (arith, few))
  act_level move.Onward s is short few = onward_level (first_waiting s.bag) s short few
  act_level move.Lose s is short few = lose_level (first_waiting s.bag) s (omega (arith, few))
  act_level (move.Deliver unit link) s is short few = deliver_level (chosen_place unit (length s.bag)) link s short few
  act_level (move.Hand link back bytes) s is short few = hand_level (chosen_in link (handed_links s.links)) back bytes s is few
  act_level (move.Shut number) s is short few = shut_at_level (chosen_place number (length s.open_links)) s (omega (arith, few))
  act_level (move.Restart number) s is short few = restart_level (chosen_place number (count_of s.ends)) s (omega (arith, few))
  act_level (move.Change member secret) s is short few = change_level (chosen_place member (length s.ends.members)) secret s (omega (arith, few))
  act_level (move.Tick more) s is short few = omega (arith, few)

-- ---- what a world keeps

-- a move keeps the bound
pub told_kept : (old new : State) (what : Move) (moves : ℕ) → IsWithin old moves → IsMove what → AreShortUnits old.bag → new ≡ (act old what).state → IsWithin new (moves + 1)
unfolding IsWithin
told_kept old new what moves within is short made =
    subst (λ (s : State). level s ≤ level_limit * (moves + 1)) (sym made) (act_level (level_limit * (moves + 1)) what old is short (omega (arith, within)))

-- ---- at first

first_bytes : (hands_on seals : Bool) (tables : List AccountTable) (names : List (List ℕ)) → bytes_of (first_controllers hands_on seals tables names) ≡ 0
first_bytes hands_on seals [] names = refl
first_bytes hands_on seals (table ∷ tables) [] = refl
first_bytes hands_on seals (table ∷ tables) (name ∷ names) = omega (arith, fresh_bytes hands_on seals table name, first_bytes hands_on seals tables names)

first_outcomes : (plans : List MemberPlan) → outcomes_of (map sealing_member plans) ≡ 0
first_outcomes [] = refl
first_outcomes (plan ∷ plans) = omega (arith, first_outcomes plans)

pub first_within : (plan : Plan) → IsWithin (first_world plan).state 0
unfolding IsWithin level_of
first_within plan = omega (arith, first_bytes plan.hands_on plan.seals plan.tables plan.controllers, first_outcomes plan.members)

-- ---- counts that fit

run_goes_on : (moves : List Move) (w : World) → (run moves w).stopped ≡ w.stopped
run_goes_on [] w = refl
run_goes_on (what ∷ moves) w = run_goes_on moves (happens w what)

-- a count that is bounded so hasn't come to its type's end
unclipped : (count all moves : ℕ) → count ≡ clipped all → 16 * count ≤ level_limit * moves → moves ≤ move_limit → count ≡ all
unclipped count all moves is within few = omega (arith, is, within, few)

-- the report of a run counts all of its actions that are counted
pub counts_fit : (plan : Plan) (moves : List Move) (w : World) (report : Report) → (w.stopped ≡ false → IsWithin w.state w.moves) → w.moves ≤ move_limit → report ≡ report_of w →
    w ≡ run moves (first_world plan) → AreCounted report (counted_of_run (run_of moves (first_world plan))) (length moves)
unfolding IsWithin level_of
counts_fit plan moves w report kept few is made =
    let runs : w.stopped ≡ false = ap (λ (x : World). x.stopped) made ∙ run_goes_on moves (first_world plan) in
    let within : level_of w.state.counts w.state.ends ≤ level_limit * w.moves = kept runs in
    let same : report ≡ report_of_run plan moves = is ∙ ap report_of made ∙ counts_are_of_actions plan moves in
    record {
      moves = ap (λ (r : Report). r.moves) same;
      accepted = unclipped report.accepted _ w.moves (ap (λ (r : Report). r.accepted) same) (omega (arith, within, ap (λ (r : Report). r.accepted) is)) few;
      refused = unclipped report.refused _ w.moves (ap (λ (r : Report). r.refused) same) (omega (arith, within, ap (λ (r : Report). r.refused) is)) few;
      no_controller = unclipped report.no_controller _ w.moves (ap (λ (r : Report). r.no_controller) same) (omega (arith, within, ap (λ (r : Report). r.no_controller) is)) few;
      passed = unclipped report.passed _ w.moves (ap (λ (r : Report). r.passed) same) (omega (arith, within, ap (λ (r : Report). r.passed) is)) few;
      barred = unclipped report.barred _ w.moves (ap (λ (r : Report). r.barred) same) (omega (arith, within, ap (λ (r : Report). r.barred) is)) few;
    }
