-- What is written down of one move: a unit comes on its own link in one piece, at a client, at a member or at a
-- controller, and no credential passes in it on another channel.
-- It serves `Proved.one_by_one`, and `a_run_is_clear` of claim_examples.
use Rattle.std.proofs.Common.{◌≡◌, ℕ, ◌+◌, ◌-◌, ◌≤◌, Bool, true, false, List, [], ◌∷◌, ◌++◌, length, map, Option, Some, None, refl, ap, ◌∙◌, arith, slice_get, ap₂, subst, sym}
use Rattle.std.specs.Prelude.{◌||◌, drop}
use Rattle.std.specs.List.{AllByRecursion}
use Rattle.std.proofs.lemmas.List.{length-append, length-map}
use Rattle.end_links.specs.Serving.{ServedUnit}
use Rattle.domain_controller.specs.State.{State as ControllerState}
use Rattle.logon_client.specs.State.{State as ClientState}
use Rattle.member_server.specs.State.{State as MemberState}
use Rattle.member_server.specs.Turns.{AtTurn}
use Rattle.channel_turns.specs.declared.state.TurnTalk.{TurnTalk}
use Rattle.authenticators.specs.Channels.{ChannelIdentity}
use Rattle.channel_events.specs.Marks.{Mark}
use Rattle.step_notes.specs.Marking.{answered_marks, clashes, mark_channel, turn_marks}
use Rattle.step_notes.specs.MemberNotes.{turn_note, turn_units}
use Rattle.step_notes.specs.Records.{Book, Sent, unit_in, OfMember}
use Rattle.world_moves.specs.declared.moves.Move.{Move}
use Rattle.world_moves.specs.declared.state.State.{State}
use Rattle.world_moves.specs.Acting.{Given}
use Rattle.world_moves.specs.Bag.{first_waiting}
use Rattle.world_moves.specs.Moving.{act}
use Rattle.world_moves.specs.World.{World}
use Rattle.domain_world.specs.Past.{Delivery, any_clash, book, controller_asked, judged_of, marks_of, note, note_client, note_given, note_member, note_messages, note_turn, note_turns, numbers_on, onto, other_marks, sent_at}
use Rattle.domain_world.proofs.Frames.AloneNoteLaws.{alone_answers as answers_of, note_controller_alone as note_controller}
use Rattle.domain_world.proofs.Moves.ComingLaws.{act_still}
use Rattle.domain_world.proofs.Moves.MarkedLaws.{others_length}
use Rattle.domain_world.proofs.Moves.MarkPlaceLaws.{no_longer}

-- ---- moves one after the other

abbrev pub world_at : ℕ → State → World
world_at k s = record { state = s; moves = k; stopped = false }

-- from that state on, whatever was written down before
abbrev pub Trail : State → List Move → (Book → Type 0) → (Book → Type 0) → Type 0
Trail s moves Before After = (k : ℕ) (b : Book) → Before b → After (book moves (world_at k s) b)

abbrev pub Leads : State → Move → (Book → Type 0) → (Book → Type 0) → Type 0
Leads s what Before After = (k : ℕ) (b : Book) → Before b → After (note (world_at k s) what b)

pub then_on : (s : State) (what : Move) (moves : List Move) (First Before After : Book → Type 0) → Leads s what First Before → Trail (act s what).state moves Before After →
    Trail s (what ∷ moves) First After
then_on s what moves First Before After one more k b before = more (k + 1) (note (world_at k s) what b) (one k b before)

pub no_more_moves : (s : State) (Before : Book → Type 0) → Trail s [] Before Before
no_more_moves s Before k b before = before

-- ---- what holds of what is written down

-- no clash, at most `count` calls were judged, and each unit of the bag is marked
pub record Fine (s : State) (count : ℕ) (b : Book) : Type 0 where
  pub apart : b.clash ≡ false
  pub few : length b.judged ≤ count
  pub marked : length b.sent ≡ length s.bag

-- the oldest unit that waits was made for that channel, if for one
pub record Waits (s : State) (channel : Option ChannelIdentity) (b : Book) : Type 0 where
  pub number : ℕ
  pub first : first_waiting s.bag ≡ Some number
  pub one : Sent
  pub there : slice_get b.sent number ≡ Some one
  pub made : mark_channel one.mark ≡ channel

-- ---- the bag grows

pub grows : (s : State) (what : Move) → length s.bag ≤ length (act s what).state.bag
grows s what = no_longer s.bag (act s what).state.bag (λ number unit there. let still = act_still what s number unit there in (still.now, still.there))

filled : (count more : ℕ) → count ≤ more → count + (more - count) ≡ more
filled count more few = omega arith

-- what else is written down of a move leaves the book fine
pub given_fine : (k : ℕ) (given : Given) (after : State) (count : ℕ) (b : Book) → b.clash ≡ false → length b.judged ≤ count → length b.sent ≤ length after.bag →
    Fine after count (note_given k given after b)
given_fine k given after count b apart few marked = record {
  apart = apart;
  few = few;
  marked = length-append b.sent _
      ∙ ap (λ (more : ℕ). length b.sent + more)
      (length-map (other_marks b.forwards after (length b.sent)) (sent_at k) ∙ others_length b.forwards after (length b.sent))
      ∙ filled (length b.sent) (length after.bag) marked;
}

-- ---- at a client

pub client_fine : (found : Option ClientState) (at : ℕ) (w : Delivery) (piece : List ℕ) (s : State) (b : Book) →
    ((note_client found at w piece s b).clash ≡ b.clash) × ((note_client found at w piece s b).judged ≡ b.judged) × ((note_client found at w piece s b).sent ≡ b.sent)
client_fine None at w piece s b = (refl, refl, refl)
client_fine (Some c) at w piece s b = (refl, refl, refl)

-- ---- at a member

or_none : (one other : Bool) → one ≡ false → other ≡ false → (one || other) ≡ false
or_none false other is none = none
or_none true other is none = absurd (let x : true ≡ false = is in cc)

-- the units that a turn took, none of which clashes
abbrev pub AreOwn : ℕ → Option ℕ → List Sent → List (ServedUnit AtTurn TurnTalk) → Type 0
AreOwn controller unit sent units = AllByRecursion (λ (served : ServedUnit AtTurn TurnTalk). clashes (turn_note controller served).checked unit sent ≡ false) units

turns_fine : (controller : ℕ) (units : List (ServedUnit AtTurn TurnTalk)) (unit : Option ℕ) (numbers : List ℕ) (b : Book) → b.clash ≡ false → AreOwn controller unit b.sent units →
    ((note_turns controller units unit numbers b).clash ≡ false) × ((note_turns controller units unit numbers b).judged ≡ b.judged) × ((note_turns controller units unit numbers b).sent ≡ b.sent)
turns_fine controller [] unit numbers b apart own = (apart, refl, refl)
turns_fine controller (served ∷ units) unit numbers b apart own =
    turns_fine controller units unit _ (note_turn (turn_note controller served) served unit _ b) (or_none b.clash (clashes (turn_note controller served).checked unit b.sent) apart own.0) own.1

-- what is written down at a member or a controller: no clash, at most `count` calls, and marks of the new units
pub record Written (k link : ℕ) (back : Bool) (s after : State) (count : ℕ) (marks : List Mark) (b now : Book) : Type 0 where
  pub apart : now.clash ≡ false
  pub few : length now.judged ≤ count
  pub sent : now.sent ≡ b.sent ++ map (sent_at k) (marks_of link back (drop (length s.bag) after.bag) marks)

-- that controller is asked
pub member_fine : (m : MemberState) (at controller : ℕ) (w : Delivery) (piece : List ℕ) (s after : State) (count : ℕ) (b : Book) → controller_asked (OfMember at) s ≡ controller → b.clash ≡ false →
    length b.judged ≤ count → AreOwn controller (unit_in w.source) b.sent (turn_units m w.link piece s.moment s.chances.left) →
    Written w.at w.link false s after count (turn_marks (map (turn_note controller) (turn_units m w.link piece s.moment s.chances.left))) b (note_member (Some m) at w piece s after b)
member_fine m at controller w piece s after count b asked apart few own =
    let units : List (ServedUnit AtTurn TurnTalk) = turn_units m w.link piece s.moment s.chances.left in
    let fine = turns_fine (controller_asked (OfMember at) s) units (unit_in w.source) (numbers_on w.link false s.bag after.bag) (note_messages at m w piece s b) apart
    (subst (λ (its : ℕ). AreOwn its (unit_in w.source) b.sent units) (sym asked) own) in
    record {
      apart = fine.0;
      few = omega (arith, few, ap (λ (judged : _). length judged) fine.1);
      sent = ap₂ (λ (sent : List Sent) (its : ℕ). sent ++ map (sent_at w.at) (marks_of w.link false (drop (length s.bag) after.bag) (turn_marks (map (turn_note its) units)))) fine.2 asked;
    }

-- ---- at a controller

length_onto : {T : Type 0} (items older : List T) → length (onto items older) ≡ length items + length older
length_onto [] older = omega arith
length_onto (item ∷ items) older = omega (arith, length_onto items (item ∷ older))

pub controller_fine : (c : ControllerState) (at : ℕ) (w : Delivery) (piece : List ℕ) (s after : State) (count total : ℕ) (b : Book) → b.clash ≡ false → length b.judged ≤ count →
    any_clash (answers_of at c w piece s) (unit_in w.source) b.sent ≡ false → length (judged_of (answers_of at c w piece s) (numbers_on w.link true s.bag after.bag)) + count ≤ total →
    Written w.at w.link true s after total (answered_marks (answers_of at c w piece s)) b (note_controller (Some c) at w piece s after b)
controller_fine c at w piece s after count total b apart few own judged = record {
  apart = or_none b.clash (any_clash (answers_of at c w piece s) (unit_in w.source) b.sent) apart own;
  few = omega (arith, few, judged, length_onto (judged_of (answers_of at c w piece s) (numbers_on w.link true s.bag after.bag)) b.judged);
  sent = refl;
}
