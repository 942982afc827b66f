-- What holds of each unit of the bag and its mark, through all moves of every run of a plain plan, whether its
-- controllers ask others or not: whatever holds where an end makes a unit for a mark, and goes on holding as more is
-- written down. It is an instance of `MoveFrameLaws`, as `BagFrameLaws` is of runs whose controllers ask nobody.
-- It serves `Proved.ways` and `Proved.opened`.
use Rattle.std.proofs.Common.{◌≡◌, ℕ, ◌+◌, Bool, true, false, List, [], ◌∷◌, ◌++◌, append-nil, drop, length, map, Option, Some, None, slice_get, refl, sym, ap, subst, ◌∙◌}
use Rattle.std.specs.List.{AllByRecursion}
use Rattle.channel_events.specs.Marks.{Mark}
use Rattle.channel_turns.specs.Turning.{is_on}
use Rattle.channel_turns.specs.declared.state.TurnTalk.{TurnTalk}
use Rattle.domain_controller.specs.State.{State as ControllerState}
use Rattle.end_links.specs.Serving.{ServedUnit}
use Rattle.member_server.specs.State.{State as MemberState}
use Rattle.member_server.specs.Turns.{AtTurn}
use Rattle.outside.specs.declared.event.Event.TheVariants as event
use Rattle.step_notes.specs.MemberNotes.{turn_units}
use Rattle.step_notes.specs.Records.{Book, OfMember, Sent, blank}
use Rattle.world_moves.specs.declared.bag.BagUnit.{BagUnit}
use Rattle.world_moves.specs.declared.links.EndId.{EndId}
use Rattle.world_moves.specs.declared.links.EndId.TheVariants.{Controller, Member, Client}
use Rattle.world_moves.specs.declared.links.Route.{Route}
use Rattle.world_moves.specs.declared.moves.Move.{Move}
use Rattle.world_moves.specs.declared.plan.Plan.{Plan}
use Rattle.world_moves.specs.declared.state.State.{State}
use Rattle.world_moves.specs.Acting.{AfterHearing, Given, heard_by}
use Rattle.world_moves.specs.Bag.{settle_at, settled}
use Rattle.world_moves.specs.Ends.{EndStep, client_step}
use Rattle.world_moves.specs.Plain.{IsPlainPlan, plain_controller_step as controller_step, plain_member_step as member_step}
use Rattle.domain_world.specs.Past.{Delivery, beside_mark, heard_marks, marks_of, note_at, note_client, note_controller, note_given, note_member, note_messages, past, sent_at}
use Rattle.wire_base.proofs.ListLaws.{got_nothing}
use Rattle.world_moves.proofs.LinkFrameLaws.{IsOnLink, StaysOnLinks, actions_stay, quiet_stays}
use Rattle.domain_world.proofs.Frames.BagFrameLaws.{IsServer, OfEachUnit, UnitFact, bag_at, each_more, marked_by, marked_more, member_marks, others_marked, settled_each}
use Rattle.domain_world.proofs.Frames.EveryStepLaws.{act_plain as hear_and_act, every_acted, stepped}
use Rattle.domain_world.proofs.Frames.MoveFrameLaws.{HoldsAfterMoves}
use Rattle.domain_world.proofs.Frames.MoveKeepLaws.{AtWork, KeepsMovesBy, MoveFact, NoSide, coming, every, started}
use Rattle.domain_world.proofs.Frames.PlainFrameLaws.{moves_keep_plain}
use Rattle.domain_world.proofs.Frames.TurnFrameLaws.{asked_book, turns_sent}
use Rattle.domain_world.proofs.Moves.MarkPlaceLaws.{settled_length}
use Rattle.domain_world.proofs.Moves.MarkedLaws.{heard_length}
use Rattle.domain_world.proofs.Moves.OpenMadeLaws.{IsMore, IsOnSide, MoreOf, goes_on, no_more, side_of}

-- ---- what is to be shown

-- `P` goes on holding of a unit and its mark where the unit is delivered or lost, and where more is written down. `P`
-- holds of each new unit, by the mark that the unit gets, where a controller or a member hears bytes; all units had
-- their marks before, and the new ones are behind them. `P` holds too of each unit that gets its mark once the move is
-- over. `P` may rest on a fact that is carried through the moves besides (`Side`).
pub record EveryMarks {X : Type 0} (part : Book → X) (P : UnitFact X) (Side : MoveFact) : Type 0 where
  pub settles : (x : X) (number : ℕ) (unit : BagUnit) (mark : Mark) → P x number unit mark → P x number (settled unit) mark
  pub grows : (n : ℕ) (end : EndId) (w : Delivery) (piece : List ℕ) (s after : State) (given : Given) (b : Book) (number : ℕ) (unit : BagUnit) (mark : Mark) → Side n (coming w) s given b →
      P (part b) number unit mark → P (part (note_at (Some end) w piece s after b)) number unit mark
  pub given : (at : ℕ) (given : Given) (after : State) (b : Book) (number : ℕ) (unit : BagUnit) (mark : Mark) → P (part b) number unit mark →
      P (part (note_given at given after b)) number unit mark
  pub controllers : (n : ℕ) (c : ControllerState) (at : ℕ) (w : Delivery) (piece : List ℕ) (s : State) (given : Given) (b : Book) → slice_get s.ends.controllers at ≡ Some c → Side n (coming w) s given b →
      length b.sent ≡ length s.bag →
      let after : State = stepped (Controller at) (controller_step (Some c) at (event.Bytes w.link piece) s.moment s.ends s.chances) s in
      (units : List BagUnit) → after.bag ≡ s.bag ++ units → AllByRecursion (IsOnLink s.links) units → (place : ℕ) (unit : BagUnit) (mark : Mark) → slice_get units place ≡ Some unit →
      slice_get (heard_marks (is_on w.link c.trusting.dialling) at c w piece s after b.forwards units) place ≡ Some mark →
      P (part (note_controller (Some c) at w piece s after b)) (length s.bag + place) unit mark
  pub members : (n : ℕ) (m : MemberState) (at : ℕ) (w : Delivery) (piece : List ℕ) (s : State) (given : Given) (b : Book) → slice_get s.ends.members at ≡ Some m → Side n (coming w) s given b →
      length b.sent ≡ length s.bag →
      let after : State = stepped (Member at) (member_step (Some m) at (event.Bytes w.link piece) s.moment s.ends s.chances) s in
      (units : List BagUnit) → after.bag ≡ s.bag ++ units → (place : ℕ) (unit : BagUnit) (mark : Mark) → slice_get units place ≡ Some unit →
      slice_get (marks_of w.link false units (member_marks at m w piece s)) place ≡ Some mark →
      P (part (note_member (Some m) at w piece s after b)) (length s.bag + place) unit mark
  pub others : (n at : ℕ) (on : Option Delivery) (s : State) (given : Given) (b : Book) (number : ℕ) (unit : BagUnit) → Side n (started at on) s given b →
      P (part (note_given at given s b)) number unit (beside_mark b.forwards s unit)

-- ---- as a fact of a move

-- where bytes come, each unit has its mark, unless a client is at that side of the link
abbrev pub AllOn : Option Delivery → List Route → List BagUnit → List Sent → Type 0
AllOn None links bag sent = Unit {0}
AllOn (Some w) links bag sent = (end : EndId) → IsOnSide links w.link w.back end → IsServer end → length sent ≡ length bag

pub record EachHasMark {X : Type 0} (P : UnitFact X) (on : Option Delivery) (to : Option State) (links : List Route) (bag : List BagUnit) (x : X) (sent : List Sent) : Type 0 where
  pub each : OfEachUnit P x (bag_at to bag) sent
  pub all : AllOn on links (bag_at to bag) sent

abbrev pub OfMarks : {X : Type 0} → (Book → X) → UnitFact X → MoveFact
OfMarks part P n p s given b = EachHasMark P p.on p.to s.links s.bag (part b) b.sent

all_on : (on : Option Delivery) (links : List Route) (bag : List BagUnit) (sent : List Sent) → length sent ≡ length bag → AllOn on links bag sent
all_on None links bag sent all = tt
all_on (Some w) links bag sent all = λ end there server. all

all_settled : (on : Option Delivery) (number : ℕ) (links : List Route) (bag : List BagUnit) (sent : List Sent) → AllOn on links bag sent → AllOn on links (settle_at number bag) sent
all_settled None number links bag sent all = tt
all_settled (Some w) number links bag sent all = λ end there server. all end there server ∙ sym (settled_length number bag)

-- the units that an end at work adds
record Adds (end : EndId) (step : EndStep) (s : State) : Type 0 where
  units : List BagUnit
  is : (stepped end step s).bag ≡ s.bag ++ units
  on : AllByRecursion (IsOnLink s.links) units

end_adds : (end : EndId) (step : EndStep) (s : State) → Adds end step s
end_adds end step s =
    let heard : AfterHearing = heard_by step s in
    let more : IsMore s.links s.bag (stepped end step s).links (stepped end step s).bag =
    actions_stay (MoreOf s.links s.bag) (goes_on s.links s.bag) end heard.actions heard.state (no_more s.links s.bag) in
    record { units = more.units; is = more.is; on = more.on }

-- two ends at one side of a link are one
one_end : (one other : EndId) (links : List Route) (link : ℕ) (back : Bool) → IsOnSide links link back one → IsOnSide links link back other → one ≡ other
one_end one other links link back first second =
    let found : Some first.route ≡ Some second.route = sym first.made ∙ second.made in
    let route : first.route ≡ second.route = cc in
    let both : Some one ≡ Some other = sym first.side ∙ ap (λ (r : Route). side_of back r) route ∙ second.side in cc

module _ {X : Type 0} (part : Book → X) (P : UnitFact X) (Side : MoveFact) (stays : EveryMarks part P Side) where
  -- of each unit and mark of which `P` holds by the book `b`, it holds by the book `now`
  abbrev GrowsTo : (b now : Book) → Type 0
  GrowsTo b now = (number : ℕ) (unit : BagUnit) (mark : Mark) → P (part b) number unit mark → P (part now) number unit mark

  abbrev EndMarked : EndId → State → Book → Type 0
  EndMarked end after now = OfEachUnit P (part now) after.bag now.sent × (IsServer end → length now.sent ≡ length after.bag)

  end_marked : (n : ℕ) (end : EndId) (w : Delivery) (piece : List ℕ) (s : State) (given : Given) (b : Book) → Side n (coming w) s given b → OfEachUnit P (part b) s.bag b.sent →
      (IsServer end → length b.sent ≡ length s.bag) →
      let after : State = (hear_and_act end (event.Bytes w.link piece) s).state in EndMarked end after (note_at (Some end) w piece s after b)
  end_marked n end w piece s given b side each all =
      every_acted (λ (one : EndId) (step : EndStep) (after : State) (now : Book). (IsServer one → length b.sent ≡ length s.bag) → GrowsTo b now → EndMarked one after now) w piece s b
      (λ one even grows. (each, even))
      (λ at c is even grows.
      let step : EndStep = controller_step (Some c) at (event.Bytes w.link piece) s.moment s.ends s.chances in
      let on : Bool = is_on w.link c.trusting.dialling in
      let adds : Adds (Controller at) step s = end_adds (Controller at) step s in
      let after : State = stepped (Controller at) step s in
      let now : Book = note_controller (Some c) at w piece s after b in
      let marked = marked_by P (part b) (part now) s after.bag b.sent (λ units. heard_marks on at c w piece s after b.forwards units) w.at adds.units adds.is
      (λ number unit one there sent holds. grows number unit one.mark holds) (heard_length on at c w piece s after b.forwards adds.units)
      (stays.controllers n c at w piece s given b is side (even refl) adds.units adds.is adds.on) (record { each = each; all = even refl }) in (marked.each, (λ server. marked.all)))
      (λ at m is even grows.
      let step : EndStep = member_step (Some m) at (event.Bytes w.link piece) s.moment s.ends s.chances in
      let after : State = stepped (Member at) step s in
      let units : List (ServedUnit AtTurn TurnTalk) = turn_units m w.link piece s.moment s.chances.left in
      let old : List Sent = (asked_book (OfMember at) w units s after (note_messages at m w piece s b)).sent in
      let now : X = part (note_member (Some m) at w piece s after b) in
      let adds : Adds (Member at) step s = end_adds (Member at) step s in
      let marked = marked_more P (part b) now s after.bag b.sent w.link false (member_marks at m w piece s) w.at adds.units adds.is
      (λ number unit one there sent holds. grows number unit one.mark holds) (stays.members n m at w piece s given b is side (even refl) adds.units adds.is)
      (record { each = each; all = even refl }) in
      subst (λ (sent : List Sent).
      let later : List Sent = sent ++ map (sent_at w.at) (marks_of w.link false (drop (length s.bag) after.bag) (member_marks at m w piece s)) in
      OfEachUnit P now after.bag later × (IsServer (Member at) → length later ≡ length after.bag)) (sym (turns_sent (OfMember at) w units s after (note_messages at m w piece s b)))
      (marked.each, (λ server. marked.all)))
      (λ at c is even grows.
      let step : EndStep = client_step (Some c) at (event.Bytes w.link piece) s.moment s.ends s.chances in
      let adds : Adds (Client at) step s = end_adds (Client at) step s in (
        each_more P (part b) (part (note_client (Some c) at w piece s b)) s.bag adds.units (stepped (Client at) step s).bag b.sent adds.is
            (λ number unit one there sent holds. grows number unit one.mark holds) each,
        (λ server. absurd (let never : true ≡ false = server in cc)),
      )) end all (λ number unit mark holds. stays.grows n end w piece s (hear_and_act end (event.Bytes w.link piece) s).state given b number unit mark side holds)

  -- `EachHasMark` stays where a unit more is sent, and where a link is closed
  sends_on : (x : X) (sent : List Sent) (on : Option Delivery) (to : Option State) → AtWork on to → StaysOnLinks (λ links map bag. EachHasMark P on to links bag x sent)
  sends_on x sent None None work = record {
    sends = λ unit links map bag is marks. record {
      each = each_more P x x bag (unit ∷ []) (bag ++ unit ∷ []) sent refl (λ number here one there mark holds. holds) marks.each;
      all = tt;
    };
    shuts = λ link links map bag marks. marks;
  }
  sends_on x sent None (Some after) work =
      record { sends = λ unit links map bag is marks. record { each = marks.each; all = tt }; shuts = λ link links map bag marks. marks }
  sends_on x sent (Some w) None work = absurd work
  sends_on x sent (Some w) (Some after) work =
      record { sends = λ unit links map bag is marks. record { each = marks.each; all = marks.all }; shuts = λ link links map bag marks. marks }

  pub every_marks_keep : (Known : Type 0) → KeepsMovesBy every Known Side (OfMarks part P)
  every_marks_keep Known = record {
    closes = λ n p end link s given b work side marks. marks;
    opens = λ n at dial route s given b out side marks. record { each = marks.each; all = tt };
    dialled = λ n at end link s given b here side marks. marks;
    fails = λ n at end s b side marks. marks;
    begins = λ n at client plan s b is side marks. marks;
    comes = λ n end w piece s given b here came bytes side marks.
        let heard = end_marked n end w piece s given b side marks.each (λ server. marks.all end here server) in
        record {
          each = heard.0;
          all = λ other there server. heard.1 (subst IsServer (one_end other end s.links w.link w.back there here) server);
        };
    reaches = λ n w s given b side marks. record { each = marks.each; all = marks.all };
    acts = λ n p end what s given b work side marks.
        quiet_stays (λ links map bag. EachHasMark P p.on p.to links bag (part b) b.sent) (sends_on (part b) b.sent p.on p.to work) end what s marks;
    shuts = λ n p link s given b work side marks. marks;
    answers = λ n at dial link there s given b is side marks. marks;
    forgets = λ n at end s b side marks. marks;
    settles = λ n at on number s b side marks. record {
      each = settled_each P (part b) (stays.settles (part b)) number s.bag b.sent marks.each;
      all = all_settled on number s.links s.bag b.sent marks.all;
    };
    dials = λ n at dial s b is side marks. marks;
    renews = λ n at end s b side marks. marks;
    changes = λ n at member secret s b formed side marks. marks;
    ticks = λ n at more s b side marks. marks;
    over = λ n at on next s given b side marks.
        let now : Book = note_given at given s b in
        let grown : OfEachUnit P (part now) s.bag b.sent =
        each_more P (part b) (part now) s.bag [] s.bag b.sent (sym (append-nil s.bag)) (λ number unit one there sent holds. stays.given at given s b number unit one.mark holds) marks.each in
        let marked = others_marked P (part now) (λ unit. beside_mark b.forwards s unit) (λ number unit. stays.others n at on s given b number unit side) s.bag b.sent at grown in
        record { each = marked.each; all = all_on next s.links s.bag now.sent marked.all };
  }

pub first_marks : {X : Type 0} (P : UnitFact X) (x : X) (on : Option Delivery) → EachHasMark P on None [] [] x []
first_marks P x on = record { each = λ number one there. absurd (got_nothing number one there); all = all_on on [] [] [] refl }

-- `P` holds of each unit and its mark after every run of a plain plan, where it rests on nothing else
pub every_marked : {X : Type 0} (part : Book → X) (P : UnitFact X) → EveryMarks part P NoSide → (plan : Plan) (moves : List Move) → IsPlainPlan plan →
    OfEachUnit P (part (past plan moves).book) (past plan moves).world.state.bag (past plan moves).book.sent
every_marked part P stays plan moves nothing =
    let after : HoldsAfterMoves ⊥ (OfMarks part P) plan moves =
    moves_keep_plain ⊥ (OfMarks part P) (every_marks_keep part P NoSide stays ⊥) plan moves nothing (λ none. absurd none) (λ on. first_marks P (part blank) on) in after.holds.each
