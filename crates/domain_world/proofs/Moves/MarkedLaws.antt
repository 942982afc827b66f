-- In every run each unit of the bag has its mark, whatever ends do: each new unit gets one where bytes come at a
-- server, and the others once a move is over. It is an instance of `MoveFrameLaws`. It serves `Proved.marked`.
use Rattle.std.proofs.Common.{◌≡◌, ℕ, suc, ◌≤◌, Bool, true, false, List, [], ◌∷◌, ◌++◌, drop, length, map, Option, Some, None, slice_get, refl, ap, ◌∙◌, arith, length-append}
use Rattle.std.specs.Prelude.{◌-◌}
use Rattle.std.proofs.lemmas.List.{length-drop, length-map}
use Rattle.outside.specs.declared.action.Action.{Action}
use Rattle.outside.specs.declared.event.Event.{Event}
use Rattle.outside.specs.declared.event.Event.TheVariants as event
use Rattle.domain_controller.specs.State.{State as ControllerState}
use Rattle.logon_client.specs.State.{State as ClientState}
use Rattle.member_server.specs.State.{State as MemberState}
use Rattle.channel_events.specs.Marks.{Mark}
use Rattle.channel_turns.specs.Turning.{is_on}
use Rattle.step_notes.specs.Marking.{answered_marks, turn_marks}
use Rattle.step_notes.specs.MemberNotes.{turn_units}
use Rattle.step_notes.specs.Records.{Book, Forward, OfMember, Sent, blank}
use Rattle.world_moves.specs.declared.bag.BagUnit.{BagUnit}
use Rattle.world_moves.specs.declared.links.EndId.{EndId}
use Rattle.world_moves.specs.declared.links.EndId.TheVariants.{Controller, Member, Client, Station}
use Rattle.world_moves.specs.declared.moves.Move.{Move}
use Rattle.world_moves.specs.declared.plan.Plan.{Plan}
use Rattle.world_moves.specs.declared.state.State.{State}
use Rattle.world_moves.specs.Acting.{hear_and_act, perform_quietly, units_of_action}
use Rattle.world_moves.specs.World.{World, first_world, happens, run}
use Rattle.domain_world.specs.Claims.MarkedUnits.{EachUnitIsMarked}
use Rattle.domain_world.specs.Past.{Delivery, answers_of, asking_by, asking_marks, asking_notes, beside_mark, book, heard_marks, is_sent_on, marks_of, note, note_at, note_client, note_coming, note_controller, note_member, note_messages, other_marks, past, sent_at}
use Rattle.world_moves.proofs.LinkFrameLaws.{heard_stays}
use Rattle.domain_world.proofs.Frames.BagFrameLaws.{bag_at, member_marks}
use Rattle.domain_world.proofs.Moves.MarkPlaceLaws.{marks_length, settled_length}
use Rattle.domain_world.proofs.Frames.MoveFrameLaws.{HoldsAfterMoves, moves_keep}
use Rattle.domain_world.proofs.Frames.MoveKeepLaws.{KeepsMovesBy, MoveFact, NoSide, any}
use Rattle.domain_world.proofs.Moves.OpenMadeLaws.{IsMore, MoreOf, goes_on, no_more}
use Rattle.domain_world.proofs.Frames.TurnFrameLaws.{asked_book, turns_sent}

-- ---- no more have marks than there are

-- no more units have marks than there are once the new ones get theirs
more_marks : (sent : List Sent) (before after : List BagUnit) (link : ℕ) (back : Bool) (marks : List Mark) (at : ℕ) → length before ≤ length after → length sent ≤ length before →
    length (sent ++ map (sent_at at) (marks_of link back (drop (length before) after) marks)) ≤ length after
more_marks sent before after link back marks at more few =
    let new : List BagUnit = drop (length before) after in
    omega (
      arith,
      more,
      few,
      length-append sent (map (sent_at at) (marks_of link back new marks)),
      length-map (marks_of link back new marks) (sent_at at),
      marks_length link back new marks,
      length-drop (length before) after,
    )

-- a controller that hears bytes gives each unit one mark
asking_by_length : (on : Bool) (marks : List Mark) (other : Mark) (later : List Mark → List Mark) (n : ℕ) → ((rest : List Mark) → length (later rest) ≡ n) → length (asking_by on marks other later) ≡ suc n
asking_by_length false marks other later n same = ap suc (same marks)
asking_by_length true [] other later n same = ap suc (same [])
asking_by_length true (mark ∷ marks) other later n same = ap suc (same marks)

asking_length : (link : ℕ) (beside : BagUnit → Mark) (units : List BagUnit) (marks : List Mark) → length (asking_marks link beside units marks) ≡ length units
asking_length link beside [] marks = refl
asking_length link beside (unit ∷ units) marks =
    asking_by_length (is_sent_on link false unit) marks (beside unit) (λ rest. asking_marks link beside units rest) (length units)
    (λ rest. asking_length link beside units rest)

pub heard_length : (on : Bool) (at : ℕ) (c : ControllerState) (w : Delivery) (piece : List ℕ) (s after : State) (forwards : List Forward) (units : List BagUnit) →
    length (heard_marks on at c w piece s after forwards units) ≡ length units
heard_length false at c w piece s after forwards units = marks_length w.link true units (answered_marks (answers_of at c w piece s))
heard_length true at c w piece s after forwards units =
    asking_length w.link (λ unit. beside_mark forwards after unit) units (turn_marks (asking_notes c w piece s))

-- there are as many marks of other units as units that have none yet
pub others_length : (forwards : List Forward) (after : State) (marked : ℕ) → length (other_marks forwards after marked) ≡ length after.bag - marked
others_length forwards after marked =
    length-map (drop marked after.bag) (λ (unit : BagUnit). beside_mark forwards after unit) ∙ length-drop marked after.bag

controller_few : (found : Option ControllerState) (at : ℕ) (w : Delivery) (piece : List ℕ) (s after : State) (b : Book) → length s.bag ≤ length after.bag → length b.sent ≤ length s.bag →
    length (note_controller found at w piece s after b).sent ≤ length after.bag
controller_few None at w piece s after b more few = omega (arith, more, few)
controller_few (Some c) at w piece s after b more few =
    let new : List BagUnit = drop (length s.bag) after.bag in
    let marks : List Mark = heard_marks (is_on w.link c.trusting.dialling) at c w piece s after b.forwards new in
    omega (
      arith,
      more,
      few,
      length-append b.sent (map (sent_at w.at) marks),
      length-map marks (sent_at w.at),
      heard_length (is_on w.link c.trusting.dialling) at c w piece s after b.forwards new,
      length-drop (length s.bag) after.bag,
    )

member_few : (found : Option MemberState) (at : ℕ) (w : Delivery) (piece : List ℕ) (s after : State) (b : Book) → length s.bag ≤ length after.bag → length b.sent ≤ length s.bag →
    length (note_member found at w piece s after b).sent ≤ length after.bag
member_few None at w piece s after b more few = omega (arith, more, few)
member_few (Some m) at w piece s after b more few =
    let old : List Sent = (asked_book (OfMember at) w (turn_units m w.link piece s.moment s.chances.left) s after (note_messages at m w piece s b)).sent in
    let same : old ≡ b.sent = turns_sent (OfMember at) w (turn_units m w.link piece s.moment s.chances.left) s after (note_messages at m w piece s b) in
    more_marks old s.bag after.bag w.link false (member_marks at m w piece s) w.at more (omega (arith, few, ap length same))

client_few : (found : Option ClientState) (at : ℕ) (w : Delivery) (piece : List ℕ) (s after : State) (b : Book) → length s.bag ≤ length after.bag → length b.sent ≤ length s.bag →
    length (note_client found at w piece s b).sent ≤ length after.bag
client_few None at w piece s after b more few = omega (arith, more, few)
client_few (Some c) at w piece s after b more few = omega (arith, more, few)

pub bytes_few : (end : EndId) (w : Delivery) (piece : List ℕ) (s after : State) (b : Book) → length s.bag ≤ length after.bag → length b.sent ≤ length s.bag →
    length (note_at (Some end) w piece s after b).sent ≤ length after.bag
bytes_few (Controller at) w piece s after b more few = controller_few (slice_get s.ends.controllers at) at w piece s after b more few
bytes_few (Member at) w piece s after b more few = member_few (slice_get s.ends.members at) at w piece s after b more few
bytes_few (Client at) w piece s after b more few = client_few (slice_get s.ends.clients at) at w piece s after b more few
bytes_few (Station at) w piece s after b more few = omega (arith, more, few)

-- what an end does adds units
no_fewer : (end : EndId) (what : Event) (s : State) → length s.bag ≤ length (hear_and_act end what s).state.bag
no_fewer end what s =
    let after : State = (hear_and_act end what s).state in
    let more : IsMore s.links s.bag after.links after.bag = heard_stays (MoreOf s.links s.bag) (goes_on s.links s.bag) end what s (no_more s.links s.bag) in
    omega (arith, ap length more.is, length-append s.bag more.units)

abbrev AreFew : MoveFact
AreFew n p s given b = length b.sent ≤ length (bag_at p.to s.bag)

pub act_few : (to : Option State) (end : EndId) (what : Action) (s : State) (sent : List Sent) → length sent ≤ length (bag_at to s.bag) → length sent ≤ length (bag_at to (perform_quietly end what s).bag)
act_few None end what s sent few = omega (arith, few, length-append s.bag (units_of_action s.links end what))
act_few (Some after) end what s sent few = few

few_keep : KeepsMovesBy any ⊥ NoSide AreFew
few_keep = record {
  closes = λ n p end link s given b work none few. few;
  opens = λ n at dial route s given b out none few. few;
  dialled = λ n at end link s given b side none few. few;
  fails = λ n at end s b none few. few;
  begins = λ n at client plan s b is none few. few;
  comes = λ n end w piece s given b side came bytes none few.
      bytes_few end w piece s (hear_and_act end (event.Bytes w.link piece) s).state b (no_fewer end (event.Bytes w.link piece) s) few;
  reaches = λ n w s given b none few. few;
  acts = λ n p end what s given b work none few. act_few p.to end what s b.sent few;
  shuts = λ n p link s given b work none few. few;
  answers = λ n at dial link there s given b is none few. few;
  forgets = λ n at end s b none few. few;
  settles = λ n at on number s b none few. omega (arith, few, settled_length number s.bag);
  dials = λ n at dial s b is none few. few;
  renews = λ n at end s b none few. few;
  changes = λ n at member secret s b formed none few. few;
  ticks = λ n at more s b none few. few;
  over = λ n at on next s given b none few.
      let others : List Mark = other_marks b.forwards s (length b.sent) in
      omega (arith, few, length-append b.sent (map (sent_at at) others), length-map others (sent_at at), others_length b.forwards s (length b.sent));
}

-- ---- no unit is left without a mark

-- no unit is left without a mark at the end of a move
none_left : (moves : List Move) (w : World) (b : Book) → length w.state.bag ≤ length b.sent → length (run moves w).state.bag ≤ length (book moves w b).sent
none_left [] w b all = all
none_left (what ∷ moves) w b all =
    let come : Book = note_coming what w.moves w.state b in
    let later : State = (happens w what).state in
    let others : List Mark = other_marks come.forwards later (length come.sent) in
    none_left moves (happens w what) (note w what b)
    (omega (arith, length-append come.sent (map (sent_at w.moves) others), length-map others (sent_at w.moves), others_length come.forwards later (length come.sent)))

-- in every run each unit of the bag has its mark
pub each_marked : (plan : Plan) (moves : List Move) → EachUnitIsMarked (past plan moves)
each_marked plan moves =
    let after : HoldsAfterMoves ⊥ AreFew plan moves = moves_keep ⊥ AreFew few_keep (λ n at station plan s b is few. few) plan moves (λ none. absurd none) (λ on. omega arith) in
    omega (arith, after.holds, none_left moves (first_world plan) blank (omega arith))
