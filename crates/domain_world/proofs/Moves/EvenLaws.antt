-- In every plain world no more units have marks than there are, and each has its own where bytes come
-- at a server. It is an instance of `MoveFrameLaws`. It serves `Proved.call_marks`.
use Rattle.std.proofs.Common.{◌≡◌, ℕ, ◌≤◌, true, false, List, [], ◌++◌, drop, length, map, Option, Some, None, refl, ap, sym, subst, ◌∙◌, arith, length-append}
use Rattle.std.proofs.lemmas.List.{length-drop, length-map}
use Rattle.outside.specs.declared.action.Action.{Action}
use Rattle.outside.specs.declared.event.Event.TheVariants as event
use Rattle.channel_turns.specs.Turning.{is_on}
use Rattle.channel_events.specs.Marks.{Mark}
use Rattle.step_notes.specs.MemberNotes.{turn_units}
use Rattle.step_notes.specs.Records.{Book, OfMember, Sent, blank}
use Rattle.world_moves.specs.declared.bag.BagUnit.{BagUnit}
use Rattle.world_moves.specs.declared.links.EndId.{EndId}
use Rattle.world_moves.specs.declared.links.EndId.TheVariants.{Controller, Member}
use Rattle.world_moves.specs.declared.links.Route.{Route}
use Rattle.world_moves.specs.declared.plan.Plan.{Plan}
use Rattle.world_moves.specs.declared.state.State.{State}
use Rattle.world_moves.specs.Acting.{AfterHearing, done, heard_by, perform_quietly}
use Rattle.world_moves.specs.Bag.{settle_at}
use Rattle.world_moves.specs.Ends.{EndStep}
use Rattle.world_moves.specs.Plain.{hear_plain as hear, plain_controller_step as controller_step, plain_member_step as member_step, plain_world}
use Rattle.domain_world.specs.Past.{Delivery, heard_marks, marks_of, note_at, note_messages, other_marks, sent_at}
use Rattle.world_moves.proofs.LinkFrameLaws.{actions_stay}
use Rattle.domain_world.proofs.Frames.BagFrameLaws.{IsServer, bag_at, member_marks}
use Rattle.domain_world.proofs.Frames.EveryStepLaws.{act_plain, every_acted, stepped}
use Rattle.domain_world.proofs.Frames.MoveKeepLaws.{AtWork, KeepsMovesBy, MoveFact, NoSide, every, started}
use Rattle.domain_world.proofs.Frames.TurnFrameLaws.{asked_book, turns_sent}
use Rattle.domain_world.proofs.Moves.MarkPlaceLaws.{marks_length, settled_length}
use Rattle.domain_world.proofs.Moves.MarkedLaws.{act_few, bytes_few, heard_length, others_length}
use Rattle.domain_world.proofs.Moves.OpenMadeLaws.{IsMore, IsOnSide, MoreOf, goes_on, no_more, same_on_side}

-- ---- an end hears bytes

-- each new unit gets a mark
new_even : (sent : List Sent) (before after : List BagUnit) (marks : List Mark) (at : ℕ) → length before ≤ length after → length sent ≡ length before →
    length marks ≡ length (drop (length before) after) → length (sent ++ map (sent_at at) marks) ≡ length after
new_even sent before after marks at more even as_many =
    omega (
      arith,
      more,
      even,
      as_many,
      length-append sent (map (sent_at at) marks),
      length-map marks (sent_at at),
      length-drop (length before) after,
    )

-- what an end does adds units
no_fewer : (end : EndId) (heard : AfterHearing) → length heard.state.bag ≤ length (done end heard).state.bag
no_fewer end heard =
    let old : State = heard.state in
    let after : State = (done end heard).state in
    let more : IsMore old.links old.bag after.links after.bag = actions_stay (MoreOf old.links old.bag) (goes_on old.links old.bag) end heard.actions old (no_more old.links old.bag) in
    omega (arith, ap length more.is, length-append old.bag more.units)

-- each unit has its mark, unless a client hears them
bytes_even : (end : EndId) (w : Delivery) (piece : List ℕ) (s : State) (b : Book) → (IsServer end → length b.sent ≡ length s.bag) →
    let after : State = (act_plain end (event.Bytes w.link piece) s).state in IsServer end → length (note_at (Some end) w piece s after b).sent ≡ length after.bag
bytes_even end w piece s b =
    every_acted (λ (one : EndId) (step : EndStep) (after : State) (now : Book). (IsServer one → length b.sent ≡ length s.bag) → IsServer one → length now.sent ≡ length after.bag) w piece s b
    (λ one even server. even server)
    (λ at c is even server.
    let step : EndStep = controller_step (Some c) at (event.Bytes w.link piece) s.moment s.ends s.chances in
    let after : State = stepped (Controller at) step s in
    let new : List BagUnit = drop (length s.bag) after.bag in
    new_even b.sent s.bag after.bag (heard_marks (is_on w.link c.trusting.dialling) at c w piece s after b.forwards new) w.at (no_fewer (Controller at) (heard_by step s)) (even server)
    (heard_length (is_on w.link c.trusting.dialling) at c w piece s after b.forwards new))
    (λ at m is even server.
    let step : EndStep = member_step (Some m) at (event.Bytes w.link piece) s.moment s.ends s.chances in
    let after : State = stepped (Member at) step s in
    let new : List BagUnit = drop (length s.bag) after.bag in
    let first : Book = note_messages at m w piece s b in
    let old : List Sent = (asked_book (OfMember at) w (turn_units m w.link piece s.moment s.chances.left) s after first).sent in
    let same : old ≡ b.sent = turns_sent (OfMember at) w (turn_units m w.link piece s.moment s.chances.left) s after first in
    new_even old s.bag after.bag (marks_of w.link false new (member_marks at m w piece s)) w.at (no_fewer (Member at) (heard_by step s)) (ap length same ∙ even server)
    (marks_length w.link false new (member_marks at m w piece s)))
    (λ at c is even server. absurd (let never : true ≡ false = server in cc)) end

-- ---- as a fact of a move

-- where bytes come, each unit has its mark, unless a client is at that side of the link
abbrev pub AllOn : Option Delivery → List Route → List BagUnit → List Sent → Type 0
AllOn None links bag sent = Unit {0}
AllOn (Some w) links bag sent = (end : EndId) → IsOnSide links w.link w.back end → IsServer end → length sent ≡ length bag

pub record IsEven (on : Option Delivery) (to : Option State) (links : List Route) (bag : List BagUnit) (sent : List Sent) : Type 0 where
  pub few : length sent ≤ length (bag_at to bag)
  pub all : AllOn on links (bag_at to bag) sent

abbrev pub EvenFact : MoveFact
EvenFact n p s given b = IsEven p.on p.to s.links s.bag b.sent

all_on : (on : Option Delivery) (links : List Route) (bag : List BagUnit) (sent : List Sent) → length sent ≡ length bag → AllOn on links bag sent
all_on None links bag sent all = tt
all_on (Some w) links bag sent all = λ end there server. all

all_settled : (on : Option Delivery) (number : ℕ) (links : List Route) (bag : List BagUnit) (sent : List Sent) → AllOn on links bag sent → AllOn on links (settle_at number bag) sent
all_settled None number links bag sent all = tt
all_settled (Some w) number links bag sent all = λ end there server. all end there server ∙ sym (settled_length number bag)

act_even : (on : Option Delivery) (to : Option State) (end : EndId) (what : Action) (s : State) (sent : List Sent) → AtWork on to → IsEven on to s.links s.bag sent →
    IsEven on to (perform_quietly end what s).links (perform_quietly end what s).bag sent
act_even None None end what s sent work even = record { few = act_few None end what s sent even.few; all = tt }
act_even None (Some after) end what s sent work even = record { few = even.few; all = tt }
act_even (Some w) None end what s sent work even = absurd work
act_even (Some w) (Some after) end what s sent work even = record { few = even.few; all = even.all }

pub even_keep : (Known : Type 0) → KeepsMovesBy every Known NoSide EvenFact
even_keep Known = record {
  closes = λ n p end link s given b work none even. even;
  opens = λ n at dial route s given b out none even. record { few = even.few; all = tt };
  dialled = λ n at end link s given b side none even. even;
  fails = λ n at end s b none even. even;
  begins = λ n at client plan s b is none even. even;
  comes = λ n end w piece s given b side came bytes none even.
      let heard : AfterHearing = hear end (event.Bytes w.link piece) s in
      record {
        few = bytes_few end w piece s (done end heard).state b (no_fewer end heard) even.few;
        all = λ other there server. bytes_even end w piece s b (λ own. even.all end side own) (subst IsServer (same_on_side other end s.links w.link w.back there side) server);
      };
  reaches = λ n w s given b none even. record { few = even.few; all = even.all };
  acts = λ n p end what s given b work none even. act_even p.on p.to end what s b.sent work even;
  shuts = λ n p link s given b work none even. even;
  answers = λ n at dial link there s given b is none even. even;
  forgets = λ n at end s b none even. even;
  settles = λ n at on number s b none even.
      record { few = omega (arith, even.few, settled_length number s.bag); all = all_settled on number s.links s.bag b.sent even.all };
  dials = λ n at dial s b is none even. even;
  renews = λ n at end s b none even. even;
  changes = λ n at member secret s b formed none even. even;
  ticks = λ n at more s b none even. even;
  over = λ n at on next s given b none even.
      let others : List Mark = other_marks b.forwards s (length b.sent) in
      let sent : List Sent = b.sent ++ map (sent_at at) others in
      let all : length sent ≡ length s.bag =
      omega (arith, even.few, length-append b.sent (map (sent_at at) others), length-map others (sent_at at), others_length b.forwards s (length b.sent)) in
      record { few = omega (arith, all); all = all_on next s.links s.bag sent all };
}

pub first_even : (plan : Plan) (on : Option Delivery) → EvenFact 0 (started 0 on) (plain_world plan).state [] blank
first_even plan on = record { few = omega arith; all = all_on on [] [] [] refl }
