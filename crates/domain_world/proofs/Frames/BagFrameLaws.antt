-- What holds of each unit of the bag and its mark, through all moves of a run: whatever holds where an end makes a unit
-- for a mark, and goes on holding as more is written down. It may rest on something of the ends, the maker of
-- challenges and the links that holds through all moves (`FrameLaws`). It is an instance of `MoveFrameLaws`.
-- It serves `Proved.replies`, `Proved.opened` and others.
use Rattle.std.proofs.Common.{◌≡◌, ℕ, ◌+◌, Bool, true, false, List, [], ◌∷◌, ◌++◌, drop, length, map, inl, inr, Option, Some, None, slice_get, refl, ap, sym, subst, ◌∙◌, arith, length-append}
use Rattle.std.specs.Prelude.{◌≤◌, filter, take}
use Rattle.std.specs.List.{AllByRecursion}
use Rattle.std.proofs.lemmas.List.{drop_at, length-drop, length-map, length-take-le, take-append-drop}
use Rattle.outside.specs.declared.event.Event.TheVariants as event
use Rattle.domain_controller.specs.State.{State as ControllerState}
use Rattle.domain_controller.specs.Step.{step_of as controller_step_of}
use Rattle.member_server.specs.State.{State as MemberState}
use Rattle.channel_events.specs.Marks.{Mark, Plain}
use Rattle.step_notes.specs.Marking.{answered_marks}
use Rattle.step_notes.specs.MemberNotes.{turn_units}
use Rattle.step_notes.specs.Records.{Book, Forward, Sent, blank, OfMember}
use Rattle.world_moves.specs.declared.bag.BagUnit.{BagUnit}
use Rattle.world_moves.specs.declared.links.EndId.{EndId}
use Rattle.world_moves.specs.declared.links.EndId.TheVariants.{Controller, Member, Client}
use Rattle.world_moves.specs.declared.links.Route.{Route}
use Rattle.world_moves.specs.declared.moves.Move.{Move}
use Rattle.world_moves.specs.declared.plan.Plan.{Plan}
use Rattle.world_moves.specs.declared.state.State.{State}
use Rattle.world_moves.specs.Acting.{AfterHearing, done, heard_by}
use Rattle.world_moves.specs.Bag.{settle_at, settled}
use Rattle.world_moves.specs.Ends.{EndStep, actions_by, client_step}
use Rattle.world_moves.specs.Alone.{IsPlainAlone, alone_controller_step as controller_step}
use Rattle.domain_world.specs.Past.{Delivery, at_controller, beside_mark, marks_of, note_client, note_given, note_member, note_messages, numbers_on, past, sent_at, still_waits}
use Rattle.wire_base.proofs.ListLaws.{got_append, got_nothing}
use Rattle.world_moves.proofs.LinkFrameLaws.{IsOnLink, StaysOnLinks, actions_stay, quiet_stays}
use Rattle.world_moves.proofs.EndKindLaws.{is_client}
use Rattle.world_moves.specs.Plain.{plain_member_step as member_step, plain_world}
use Rattle.domain_world.proofs.Frames.AloneNoteLaws.{alone_answers as answers_of, note_alone as note_at, note_controller_alone as note_controller}
use Rattle.domain_world.proofs.Frames.AloneStepLaws.{act_alone as hear_and_act}
use Rattle.domain_world.proofs.Frames.FrameLaws.{Fact, HoldsIn, StaysWritten, OfSide, side_keeps}
use Rattle.domain_world.proofs.Moves.FrontLaws.{controller_unit}
use Rattle.domain_world.proofs.Moves.MarkPlaceLaws.{got_beside, got_later, got_map, got_settled, later_or, marks_length, no_longer, settled_length}
use Rattle.domain_world.proofs.Moves.NewUnitLaws.{IsNewUnit}
use Rattle.domain_world.proofs.Moves.OpenMadeLaws.{IsAtSide, IsMore, MoreOf, goes_on, no_more, same_side}
use Rattle.domain_world.proofs.Frames.TurnFrameLaws.{turns_sent, asked_book, asked_marks}
use Rattle.domain_world.proofs.Frames.AloneFrameLaws.{moves_keep_alone}
use Rattle.domain_world.proofs.Frames.MoveFrameLaws.{HoldsAfterMoves}
use Rattle.domain_world.proofs.Frames.MoveKeepLaws.{AtWork, Both, KeepsMoves, MoveFact, NoSide, join_moves, started}
use Rattle.domain_world.proofs.Frames.EndNoteLaws.{acted_by, bytes_forwards}

-- ---- what is to hold of each unit

-- by a part of what is written down: something of a unit of the bag, its number and its mark
abbrev pub UnitFact : Type 0 → Type 1
UnitFact X = X → ℕ → BagUnit → Mark → Type 0

-- the unit of that number is in the bag, and it holds of it
pub record IsOfUnit {X : Type 0} (P : UnitFact X) (x : X) (bag : List BagUnit) (number : ℕ) (mark : Mark) : Type 0 where
  pub unit : BagUnit
  pub there : slice_get bag number ≡ Some unit
  pub holds : P x number unit mark

-- `P` holds of each unit that has a mark yet
abbrev pub OfEachUnit : {X : Type 0} → UnitFact X → X → List BagUnit → List Sent → Type 0
OfEachUnit P x bag sent = (number : ℕ) (one : Sent) → slice_get sent number ≡ Some one → IsOfUnit P x bag number one.mark

-- ---- the marks that bytes come to at an end

abbrev pub controller_marks : ℕ → ControllerState → Delivery → List ℕ → State → List Mark
controller_marks at c w piece s = answered_marks (answers_of at c w piece s)

abbrev pub member_marks : ℕ → MemberState → Delivery → List ℕ → State → List Mark
member_marks at m w piece s = asked_marks (OfMember at) s (turn_units m w.link piece s.moment s.chances.left)

-- ---- more is written down

-- The part of the book that counts was `x` and is `now`: units that had marks have them, and `P` holds of each new one.
pub goes_on_with : {X : Type 0} (P : UnitFact X) (x now : X) (bag units : List BagUnit) (sent : List Sent) (marks : List Mark) (at : ℕ) → length sent ≡ length bag →
    ((number : ℕ) (unit : BagUnit) (one : Sent) → slice_get bag number ≡ Some unit → slice_get sent number ≡ Some one → P x number unit one.mark → P now number unit one.mark) →
    length marks ≡ length units →
    ((place : ℕ) (unit : BagUnit) (mark : Mark) → slice_get units place ≡ Some unit → slice_get marks place ≡ Some mark → P now (length bag + place) unit mark) →
    OfEachUnit P x bag sent → OfEachUnit P now (bag ++ units) (sent ++ map (sent_at at) marks)
goes_on_with P x now bag units sent marks at same grows size fresh each number one is =
    elim (later_or sent (map (sent_at at) marks) number one is) [
      | inl old ↦ let had : IsOfUnit P x bag number one.mark = each number one old in
          record {
            unit = had.unit;
            there = got_append bag units number had.unit had.there;
            holds = grows number had.unit one had.there old had.holds;
          }
      | inr new ↦ let made : (mark : Mark) × (slice_get marks new.place ≡ Some mark) × (sent_at at mark ≡ one) = got_map (sent_at at) marks new.place one new.there in
          let beside : (unit : BagUnit) × (slice_get units new.place ≡ Some unit) = got_beside marks units new.place made.0 size made.1 in
          let here : length bag + new.place ≡ number = omega (arith, same, new.is) in
          subst (λ (o : Sent). IsOfUnit P now (bag ++ units) number o.mark) made.2
          (subst (λ (n : ℕ). IsOfUnit P now (bag ++ units) n made.0) here (record {
            unit = beside.0;
            there = got_later bag units new.place beside.0 beside.1;
            holds = fresh new.place beside.0 made.0 beside.1 made.1;
          }))
    ]

-- ---- what is to be shown

-- The fact holds of every unit that is made for no channel, and goes on holding where a unit is delivered or lost, and
-- where more is written down of bytes that an end hears. It holds of each unit that a controller sends for a mark on
-- the link on which bytes came to it, and of each that goes into the bag where a member hears bytes, by the mark that
-- the unit gets. All units had their marks before, and the new ones are behind them.
pub record MarksStay {X : Type 0} (part : Book → X) (Side : X → Fact) (P : UnitFact X) : Type 0 where
  pub plain : (x : X) (number : ℕ) (unit : BagUnit) → P x number unit Plain
  pub settles : (x : X) (number : ℕ) (unit : BagUnit) (mark : Mark) → P x number unit mark → P x number (settled unit) mark
  pub grows : (end : EndId) (w : Delivery) (piece : List ℕ) (s after : State) (b : Book) (number : ℕ) (unit : BagUnit) (one : Sent) → HoldsIn (Side (part b)) s →
      slice_get s.bag number ≡ Some unit → slice_get b.sent number ≡ Some one → P (part b) number unit one.mark →
      P (part (note_at (Some end) w piece s after b)) number unit one.mark
  pub controllers : (c : ControllerState) (at : ℕ) (w : Delivery) (piece : List ℕ) (s after : State) (b : Book) (number : ℕ) (unit : BagUnit) (mark : Mark) →
      slice_get s.ends.controllers at ≡ Some c → HoldsIn (Side (part b)) s → length b.sent ≡ length s.bag →
      IsNewUnit w.link true (actions_by (controller_step_of c (event.Bytes w.link piece) s.moment s.chances.left).answer) (controller_marks at c w piece s)
      (numbers_on w.link true s.bag after.bag) number unit mark →
      P (part (note_controller (Some c) at w piece s after b)) number unit mark
  pub members : (m : MemberState) (at : ℕ) (w : Delivery) (piece : List ℕ) (s : State) (b : Book) → slice_get s.ends.members at ≡ Some m → HoldsIn (Side (part b)) s →
      IsAtSide s.links w.link w.back (Member at) → length b.sent ≡ length s.bag →
      let after : State = (done (Member at) (heard_by (member_step (Some m) at (event.Bytes w.link piece) s.moment s.ends s.chances) s)).state in
      (units : List BagUnit) → after.bag ≡ s.bag ++ units → AllByRecursion (IsOnLink s.links) units → (place : ℕ) (unit : BagUnit) (mark : Mark) →
      slice_get units place ≡ Some unit → slice_get (marks_of w.link false units (member_marks at m w piece s)) place ≡ Some mark →
      P (part (note_member (Some m) at w piece s after b)) (length s.bag + place) unit mark

-- marks by the units that the step adds to the bag, whatever end sends them
pub record StepsMark {X : Type 0} (part : Book → X) (Side : X → Fact) (P : UnitFact X) : Type 0 where
  pub plain : (x : X) (number : ℕ) (unit : BagUnit) → P x number unit Plain
  pub settles : (x : X) (number : ℕ) (unit : BagUnit) (mark : Mark) → P x number unit mark → P x number (settled unit) mark
  pub grows : (end : EndId) (w : Delivery) (piece : List ℕ) (s after : State) (b : Book) (number : ℕ) (unit : BagUnit) (one : Sent) → HoldsIn (Side (part b)) s →
      slice_get s.bag number ≡ Some unit → slice_get b.sent number ≡ Some one → P (part b) number unit one.mark →
      P (part (note_at (Some end) w piece s after b)) number unit one.mark
  pub controllers : (c : ControllerState) (at : ℕ) (w : Delivery) (piece : List ℕ) (s : State) (b : Book) → slice_get s.ends.controllers at ≡ Some c → HoldsIn (Side (part b)) s →
      IsAtSide s.links w.link w.back (Controller at) → length b.sent ≡ length s.bag →
      let after : State = (done (Controller at) (heard_by (controller_step (Some c) at (event.Bytes w.link piece) s.moment s.ends s.chances) s)).state in
      (units : List BagUnit) → after.bag ≡ s.bag ++ units → AllByRecursion (IsOnLink s.links) units → (place : ℕ) (unit : BagUnit) (mark : Mark) →
      slice_get units place ≡ Some unit → slice_get (marks_of w.link true units (controller_marks at c w piece s)) place ≡ Some mark →
      P (part (note_controller (Some c) at w piece s after b)) (length s.bag + place) unit mark
  pub members : (m : MemberState) (at : ℕ) (w : Delivery) (piece : List ℕ) (s : State) (b : Book) → slice_get s.ends.members at ≡ Some m → HoldsIn (Side (part b)) s →
      IsAtSide s.links w.link w.back (Member at) → length b.sent ≡ length s.bag →
      let after : State = (done (Member at) (heard_by (member_step (Some m) at (event.Bytes w.link piece) s.moment s.ends s.chances) s)).state in
      (units : List BagUnit) → after.bag ≡ s.bag ++ units → AllByRecursion (IsOnLink s.links) units → (place : ℕ) (unit : BagUnit) (mark : Mark) →
      slice_get units place ≡ Some unit → slice_get (marks_of w.link false units (member_marks at m w piece s)) place ≡ Some mark →
      P (part (note_member (Some m) at w piece s after b)) (length s.bag + place) unit mark

-- `P` holds of each unit, and each unit has its mark
pub record IsMarked {X : Type 0} (P : UnitFact X) (x : X) (bag : List BagUnit) (sent : List Sent) : Type 0 where
  pub each : OfEachUnit P x bag sent
  pub all : length sent ≡ length bag

abbrev hear_bytes : EndId → Delivery → List ℕ → State → State
hear_bytes end w piece s = (hear_and_act end (event.Bytes w.link piece) s).state

-- what clients send is marked once a move is over
abbrev pub IsServer : EndId → Type 0
IsServer end = is_client end ≡ false

-- ---- as a fact of a move

-- the bag as it is once the step at bytes is done
abbrev pub bag_at : Option State → List BagUnit → List BagUnit
bag_at None bag = bag
bag_at (Some after) bag = after.bag

-- where bytes come, each unit has its mark, unless a client is at that side of the link
abbrev pub AllFor : Option Delivery → List Route → List BagUnit → List Sent → Type 0
AllFor None links bag sent = Unit {0}
AllFor (Some w) links bag sent = (end : EndId) → IsAtSide links w.link w.back end → IsServer end → length sent ≡ length bag

-- `P` holds of each unit that has a mark, and no call is handed on
pub record MarksAt {X : Type 0} (P : UnitFact X) (on : Option Delivery) (to : Option State) (links : List Route) (bag : List BagUnit) (x : X) (sent : List Sent) (forwards : List Forward) : Type 0 where
  pub each : OfEachUnit P x (bag_at to bag) sent
  pub all : AllFor on links (bag_at to bag) sent
  pub none : forwards ≡ []

abbrev pub MarkFact : {X : Type 0} → (Book → X) → UnitFact X → MoveFact
MarkFact part P n p s given b = MarksAt P p.on p.to s.links s.bag (part b) b.sent b.forwards

all_settled : (on : Option Delivery) (number : ℕ) (links : List Route) (bag : List BagUnit) (sent : List Sent) → AllFor on links bag sent → AllFor on links (settle_at number bag) sent
all_settled None number links bag sent all = tt
all_settled (Some w) number links bag sent all = λ end there server. all end there server ∙ sym (settled_length number bag)

all_for : (on : Option Delivery) (links : List Route) (bag : List BagUnit) (sent : List Sent) → length sent ≡ length bag → AllFor on links bag sent
all_for None links bag sent all = tt
all_for (Some w) links bag sent all = λ end there server. all

-- ---- units that an end adds, and those that have no mark yet

-- the new units get these marks
pub marked_by : {X : Type 0} (P : UnitFact X) (x now : X) (s : State) (after : List BagUnit) (sent : List Sent) (marks : List BagUnit → List Mark) (at : ℕ) (units : List BagUnit) → after ≡ s.bag ++ units →
    ((number : ℕ) (unit : BagUnit) (one : Sent) → slice_get s.bag number ≡ Some unit → slice_get sent number ≡ Some one → P x number unit one.mark → P now number unit one.mark) →
    length (marks units) ≡ length units →
    ((place : ℕ) (unit : BagUnit) (mark : Mark) → slice_get units place ≡ Some unit → slice_get (marks units) place ≡ Some mark → P now (length s.bag + place) unit mark) →
    IsMarked P x s.bag sent → IsMarked P now after (sent ++ map (sent_at at) (marks (drop (length s.bag) after)))
marked_by P x now s after sent marks at units is grows as_many fresh before =
    let new : drop (length s.bag) after ≡ units = ap (λ (bag : List BagUnit). drop (length s.bag) bag) is ∙ drop_at s.bag units (length s.bag) refl in
    let all : List Sent = sent ++ map (sent_at at) (marks units) in
    let each : OfEachUnit P now (s.bag ++ units) all = goes_on_with P x now s.bag units sent (marks units) at before.all grows as_many fresh before.each in
    let size : length all ≡ length (s.bag ++ units) =
    omega (
      arith,
      before.all,
      length-append sent (map (sent_at at) (marks units)),
      length-map (marks units) (sent_at at),
      as_many,
      length-append s.bag units,
    ) in
    let both : IsMarked P now (s.bag ++ units) all = record { each = each; all = size } in
    subst (λ (bag : List BagUnit). IsMarked P now bag (sent ++ map (sent_at at) (marks (drop (length s.bag) after)))) (sym is)
    (subst (λ (more : List BagUnit). IsMarked P now (s.bag ++ units) (sent ++ map (sent_at at) (marks more))) (sym new) both)

-- the units on a link in one direction are marked, in order
pub marked_more : {X : Type 0} (P : UnitFact X) (x now : X) (s : State) (after : List BagUnit) (sent : List Sent) (link : ℕ) (back : Bool) (marks : List Mark) (at : ℕ) (units : List BagUnit) → after ≡ s.bag ++ units →
    ((number : ℕ) (unit : BagUnit) (one : Sent) → slice_get s.bag number ≡ Some unit → slice_get sent number ≡ Some one → P x number unit one.mark → P now number unit one.mark) →
    ((place : ℕ) (unit : BagUnit) (mark : Mark) → slice_get units place ≡ Some unit → slice_get (marks_of link back units marks) place ≡ Some mark →
    P now (length s.bag + place) unit mark) → IsMarked P x s.bag sent →
    IsMarked P now after (sent ++ map (sent_at at) (marks_of link back (drop (length s.bag) after) marks))
marked_more P x now s after sent link back marks at units is grows fresh before =
    marked_by P x now s after sent (λ more. marks_of link back more marks) at units is grows (marks_length link back units marks) fresh before

pub each_more : {X : Type 0} (P : UnitFact X) (x now : X) (bag units after : List BagUnit) (sent : List Sent) → after ≡ bag ++ units →
    ((number : ℕ) (unit : BagUnit) (one : Sent) → slice_get bag number ≡ Some unit → slice_get sent number ≡ Some one → P x number unit one.mark → P now number unit one.mark) →
    OfEachUnit P x bag sent → OfEachUnit P now after sent
each_more P x now bag units after sent is grows each number one there =
    let had : IsOfUnit P x bag number one.mark = each number one there in
    record {
      unit = had.unit;
      there = ap (λ (all : List BagUnit). slice_get all number) is ∙ got_append bag units number had.unit had.there;
      holds = grows number had.unit one had.there there had.holds;
    }

pub settled_each : {X : Type 0} (P : UnitFact X) (x : X) → ((k : ℕ) (unit : BagUnit) (mark : Mark) → P x k unit mark → P x k (settled unit) mark) → (number : ℕ) (bag : List BagUnit) (sent : List Sent) → OfEachUnit P x bag sent → OfEachUnit P x (settle_at number bag) sent
settled_each P x settles number bag sent each k one there =
    let had : IsOfUnit P x bag k one.mark = each k one there in
    elim (got_settled bag number k had.unit had.there) [
      | inl same ↦ record { unit = had.unit; there = same; holds = had.holds }
      | inr now ↦ record { unit = settled had.unit; there = now; holds = settles k had.unit one.mark had.holds }
    ]

got_rest : {T : Type 0} (items : List T) (n k : ℕ) (item : T) → n ≤ length items → slice_get (drop n items) k ≡ Some item → slice_get items (n + k) ≡ Some item
got_rest {T} items n k item few is =
    subst (λ (all : List T). slice_get all (n + k) ≡ Some item) (take-append-drop n items)
    (subst (λ (m : ℕ). slice_get (take n items ++ drop n items) (m + k) ≡ Some item) (length-take-le n items few) (got_later (take n items) (drop n items) k item is))

-- each of the units that have no mark yet gets that of its own
pub others_marked : {X : Type 0} (P : UnitFact X) (x : X) (marks : BagUnit → Mark) → ((number : ℕ) (unit : BagUnit) → P x number unit (marks unit)) → (bag : List BagUnit) (sent : List Sent) (at : ℕ) →
    OfEachUnit P x bag sent → IsMarked P x bag (sent ++ map (sent_at at) (map marks (drop (length sent) bag)))
others_marked P x marks holds bag sent at each =
    let few : length sent ≤ length bag = no_longer sent bag (λ k one there. ((each k one there).unit, (each k one there).there)) in
    let units : List BagUnit = drop (length sent) bag in
    record {
      each = λ number one there. elim (later_or sent (map (sent_at at) (map marks units)) number one there) [
        | inl old ↦ each number one old
        | inr new ↦ let made : (mark : Mark) × (slice_get (map marks units) new.place ≡ Some mark) × (sent_at at mark ≡ one) = got_map (sent_at at) (map marks units) new.place one new.there in
            let its : (unit : BagUnit) × (slice_get units new.place ≡ Some unit) × (marks unit ≡ made.0) = got_map marks units new.place made.0 made.1 in
            subst (λ (o : Sent). IsOfUnit P x bag number o.mark) made.2
            (subst (λ (mark : Mark). IsOfUnit P x bag number mark) its.2
            (subst (λ (n : ℕ). IsOfUnit P x bag n (marks its.0)) (sym new.is) (record {
              unit = its.0;
              there = got_rest bag (length sent) new.place its.0 few its.1;
              holds = holds (length sent + new.place) its.0;
            })))
      ];
      all = omega (
        arith,
        few,
        length-append sent (map (sent_at at) (map marks units)),
        length-map (map marks units) (sent_at at),
        length-map units marks,
        length-drop (length sent) bag,
      );
    }

-- where no call was handed on each is made for no channel
pub plain_beside : (forwards : List Forward) (after : State) (unit : BagUnit) → forwards ≡ [] → beside_mark forwards after unit ≡ Plain
plain_beside forwards after unit none = ap (λ (all : List Forward). beside_mark all after unit) none

module _ {X : Type 0} (part : Book → X) (Side : X → Fact) (P : UnitFact X) (written : StaysWritten part Side) (stays : StepsMark part Side P) where
  -- `P` goes on holding as the book is written on
  abbrev GrowsTo : List BagUnit → Book → Book → Type 0
  GrowsTo bag b now = (number : ℕ) (unit : BagUnit) (one : Sent) → slice_get bag number ≡ Some unit → slice_get b.sent number ≡ Some one → P (part b) number unit one.mark → P (part now) number unit one.mark

  -- ---- an end hears bytes

  controller_hears : (c : ControllerState) (at : ℕ) (w : Delivery) (piece : List ℕ) (s : State) (b : Book) → slice_get s.ends.controllers at ≡ Some c → HoldsIn (Side (part b)) s →
      IsAtSide s.links w.link w.back (Controller at) → IsMarked P (part b) s.bag b.sent →
      let after : State = (done (Controller at) (heard_by (controller_step (Some c) at (event.Bytes w.link piece) s.moment s.ends s.chances) s)).state in
      let now : Book = note_controller (Some c) at w piece s after b in
      GrowsTo s.bag b now → IsMarked P (part now) after.bag now.sent
  controller_hears c at w piece s b is side hears before grows =
      let heard : AfterHearing = heard_by (controller_step (Some c) at (event.Bytes w.link piece) s.moment s.ends s.chances) s in
      let after : State = (done (Controller at) heard).state in
      let more : IsMore s.links s.bag after.links after.bag = actions_stay (MoreOf s.links s.bag) (goes_on s.links s.bag) (Controller at) heard.actions heard.state (no_more s.links s.bag) in
      marked_more P (part b) (part (note_controller (Some c) at w piece s after b)) s after.bag b.sent w.link true (controller_marks at c w piece s) w.at more.units more.is grows
      (λ place unit mark there marked. stays.controllers c at w piece s b is side hears before.all more.units more.is more.on place unit mark there marked) before

  member_hears : (m : MemberState) (at : ℕ) (w : Delivery) (piece : List ℕ) (s : State) (b : Book) → slice_get s.ends.members at ≡ Some m → HoldsIn (Side (part b)) s →
      IsAtSide s.links w.link w.back (Member at) → IsMarked P (part b) s.bag b.sent →
      let after : State = (done (Member at) (heard_by (member_step (Some m) at (event.Bytes w.link piece) s.moment s.ends s.chances) s)).state in
      let now : Book = note_member (Some m) at w piece s after b in
      GrowsTo s.bag b now → IsMarked P (part now) after.bag now.sent
  member_hears m at w piece s b is side hears before grows =
      let heard : AfterHearing = heard_by (member_step (Some m) at (event.Bytes w.link piece) s.moment s.ends s.chances) s in
      let after : State = (done (Member at) heard).state in
      let now : X = part (note_member (Some m) at w piece s after b) in
      let more : IsMore s.links s.bag after.links after.bag = actions_stay (MoreOf s.links s.bag) (goes_on s.links s.bag) (Member at) heard.actions heard.state (no_more s.links s.bag) in
      let old : List Sent = (asked_book (OfMember at) w (turn_units m w.link piece s.moment s.chances.left) s after (note_messages at m w piece s b)).sent in
      let same : old ≡ b.sent =
      turns_sent (OfMember at) w (turn_units m w.link piece s.moment s.chances.left) s after (note_messages at m w piece s b) in
      subst (λ (sent : List Sent). IsMarked P now after.bag (sent ++ map (sent_at w.at) (marks_of w.link false (drop (length s.bag) after.bag) (member_marks at m w piece s)))) (sym same)
      (marked_more P (part b) now s after.bag b.sent w.link false (member_marks at m w piece s) w.at more.units more.is grows
      (λ place unit mark there marked. stays.members m at w piece s b is side hears before.all more.units more.is more.on place unit mark there marked) before)

  abbrev EndHeard : EndId → State → Book → Type 0
  EndHeard end after now = OfEachUnit P (part now) after.bag now.sent × (IsServer end → length now.sent ≡ length after.bag)

  end_hears : (end : EndId) (w : Delivery) (piece : List ℕ) (s : State) (b : Book) → HoldsIn (Side (part b)) s → IsAtSide s.links w.link w.back end →
      OfEachUnit P (part b) s.bag b.sent → (IsServer end → length b.sent ≡ length s.bag) →
      let after : State = (hear_bytes end w piece s) in EndHeard end after (note_at (Some end) w piece s after b)
  end_hears end w piece s b side hears each all =
      acted_by (λ (one : EndId) (step : EndStep) (after : State) (now : Book).
      IsAtSide s.links w.link w.back one → (IsServer one → length b.sent ≡ length s.bag) → GrowsTo s.bag b now → EndHeard one after now) w piece s b
      (λ one here even grows. (each, even))
      (λ at c is here even grows.
      let marked = controller_hears c at w piece s b is side here (record { each = each; all = even refl }) grows in (marked.each, (λ server. marked.all)))
      (λ at m is here even grows.
      let marked = member_hears m at w piece s b is side here (record { each = each; all = even refl }) grows in (marked.each, (λ server. marked.all)))
      (λ at c is here even grows.
      let heard : AfterHearing = heard_by (client_step (Some c) at (event.Bytes w.link piece) s.moment s.ends s.chances) s in
      let after : State = (done (Client at) heard).state in
      let more : IsMore s.links s.bag after.links after.bag = actions_stay (MoreOf s.links s.bag) (goes_on s.links s.bag) (Client at) heard.actions heard.state (no_more s.links s.bag) in (
        each_more P (part b) (part (note_client (Some c) at w piece s b)) s.bag more.units after.bag b.sent more.is grows each,
        (λ server. absurd (let never : true ≡ false = server in cc)),
      )) end hears all (λ number unit one there sent holds. stays.grows end w piece s (hear_bytes end w piece s) b number unit one side there sent holds)

  -- a unit more
  sends_on : (x : X) (sent : List Sent) (forwards : List Forward) (on : Option Delivery) (to : Option State) → AtWork on to → StaysOnLinks (λ links map bag. MarksAt P on to links bag x sent forwards)
  sends_on x sent forwards None None work = record {
    sends = λ unit links map bag is marks. record {
      each = each_more P x x bag (unit ∷ []) (bag ++ unit ∷ []) sent refl (λ number here one there mark holds. holds) marks.each;
      all = tt;
      none = marks.none;
    };
    shuts = λ link links map bag marks. marks;
  }
  sends_on x sent forwards None (Some after) work =
      record { sends = λ unit links map bag is marks. record { each = marks.each; all = tt; none = marks.none }; shuts = λ link links map bag marks. marks }
  sends_on x sent forwards (Some w) None work = absurd work
  sends_on x sent forwards (Some w) (Some after) work =
      record { sends = λ unit links map bag is marks. record { each = marks.each; all = marks.all; none = marks.none }; shuts = λ link links map bag marks. marks }

  marks_keep : (Known : Type 0) → KeepsMoves Known (OfSide part Side written) (MarkFact part P)
  marks_keep Known = record {
    closes = λ n p end link s given b work side marks. marks;
    opens = λ n at dial route s given b out side marks. record { each = marks.each; all = tt; none = marks.none };
    dialled = λ n at end link s given b here side marks. marks;
    fails = λ n at end s b side marks. marks;
    begins = λ n at client plan s b is side marks. marks;
    comes = λ n end w piece s given b here came bytes side marks.
        let heard = end_hears end w piece s b side here marks.each (λ server. marks.all end here server) in
        record {
          each = heard.0;
          all = λ other there server. heard.1 (subst IsServer (same_side other end s.links w.link w.back there here) server);
          none = bytes_forwards end w piece s (hear_bytes end w piece s) b ∙ marks.none;
        };
    reaches = λ n w s given b side marks. record { each = marks.each; all = marks.all; none = marks.none };
    acts = λ n p end what s given b work side marks.
        quiet_stays (λ links map bag. MarksAt P p.on p.to links bag (part b) b.sent b.forwards) (sends_on (part b) b.sent b.forwards p.on p.to work) end what s marks;
    shuts = λ n p link s given b work side marks. marks;
    answers = λ n at dial link there s given b is side marks. marks;
    forgets = λ n at end s b side marks. marks;
    settles = λ n at on number s b side marks. record {
      each = settled_each P (part b) (stays.settles (part b)) number s.bag b.sent marks.each;
      all = all_settled on number s.links s.bag b.sent marks.all;
      none = marks.none;
    };
    dials = λ n at dial s b is side marks. marks;
    renews = λ n at end s b side marks. marks;
    changes = λ n at member secret s b formed side marks. marks;
    ticks = λ n at more s b side marks. marks;
    over = λ n at on next s given b side marks.
        let now : Book = note_given at given s b in
        let marked : IsMarked P (part now) s.bag now.sent =
        subst (λ (x : X). IsMarked P x s.bag now.sent) (sym (written.given at given s b))
        (others_marked P (part b) (λ unit. beside_mark b.forwards s unit)
        (λ number unit. subst (λ (mark : Mark). P (part b) number unit mark) (sym (plain_beside b.forwards s unit marks.none)) (stays.plain (part b) number unit)) s.bag b.sent at marks.each) in
        record { each = marked.each; all = all_for next s.links s.bag now.sent marked.all; none = ap (λ (all : List Forward). filter (still_waits s) all) marks.none };
  }

  pub marked_keep : (Known : Type 0) → KeepsMoves Known NoSide (Both (OfSide part Side written) (MarkFact part P))
  marked_keep Known = join_moves Known (OfSide part Side written) (MarkFact part P) (side_keeps part Side written Known) (marks_keep Known)

  pub first_marked : (plan : Plan) (on : Option Delivery) → HoldsIn (Side (part blank)) (plain_world plan).state →
      Both (OfSide part Side written) (MarkFact part P) 0 (started 0 on) (plain_world plan).state [] blank
  first_marked plan on holds = (holds, record { each = λ number one there. absurd (got_nothing number one there); all = all_for on [] [] [] refl; none = refl })

  run_marked : (plan : Plan) (moves : List Move) → IsPlainAlone plan → HoldsIn (Side (part blank)) (plain_world plan).state →
      OfEachUnit P (part (past plan moves).book) (past plan moves).world.state.bag (past plan moves).book.sent
  run_marked plan moves nobody holds =
      let after : HoldsAfterMoves ⊥ (Both (OfSide part Side written) (MarkFact part P)) plan moves =
      moves_keep_alone ⊥ (Both (OfSide part Side written) (MarkFact part P)) (marked_keep ⊥) plan moves nobody (λ none. absurd none) (λ on. first_marked plan on holds) in after.holds.1.each

-- ---- a run

pub new_marked : {X : Type 0} (part : Book → X) (Side : X → Fact) (P : UnitFact X) → MarksStay part Side P → StepsMark part Side P
new_marked part Side P stays = record {
  plain = stays.plain;
  settles = stays.settles;
  grows = stays.grows;
  controllers = λ c at w piece s b is side hears all units more on place unit mark there marked.
      let after : State = (done (Controller at) (heard_by (controller_step (Some c) at (event.Bytes w.link piece) s.moment s.ends s.chances) s)).state in
      let now : _ = part (note_controller (Some c) at w piece s after b) in
      elim (controller_unit c at w.link w.back piece s (at_controller at c w s) hears units more on place unit mark there marked) [
        | inl plain ↦ subst (λ (m : Mark). P now (length s.bag + place) unit m) (sym plain) (stays.plain now (length s.bag + place) unit)
        | inr new ↦ stays.controllers c at w piece s after b (length s.bag + place) unit mark is side all new
      ];
  members = stays.members;
}

-- in every run it holds of each unit
pub run_stays_marked : {X : Type 0} (part : Book → X) (Side : X → Fact) (P : UnitFact X) → StaysWritten part Side → MarksStay part Side P → (plan : Plan) (moves : List Move) → IsPlainAlone plan →
    HoldsIn (Side (part blank)) (plain_world plan).state →
    OfEachUnit P (part (past plan moves).book) (past plan moves).world.state.bag (past plan moves).book.sent
run_stays_marked part Side P written stays plan moves nobody holds = run_marked part Side P written (new_marked part Side P stays) plan moves nobody holds

-- ---- nothing but that each unit has its mark

abbrev pub no_part : Book → Unit {0}
no_part b = tt

abbrev pub no_side : Unit {0} → Fact
no_side x ends chances links = Unit {0}

abbrev pub no_more_of : UnitFact (Unit {0})
no_more_of x number unit mark = Unit {0}

pub nothing_written : StaysWritten no_part no_side
nothing_written = record {
  stays = λ x. record {
    hears = λ end what now ends chances links quiet holds. tt;
    opens = λ route now ends chances links holds. tt;
    controllers = λ c at ends chances links is holds. tt;
    members = λ plan at ends chances links holds. tt;
    changes = λ secret running at ends chances links is none holds. tt;
    clients = λ client at ends chances links holds. tt;
  };
  bytes = λ end w piece s after b holds. tt;
  given = λ at given after b. refl;
}

pub nothing_marked : StepsMark no_part no_side no_more_of
nothing_marked = record {
  plain = λ x number unit. tt;
  settles = λ x number unit mark holds. tt;
  grows = λ end w piece s after b number unit one side there sent holds. tt;
  controllers = λ c at w piece s b is side hears all units more on place unit mark there marked. tt;
  members = λ m at w piece s b is side hears all units more on place unit mark there marked. tt;
}
