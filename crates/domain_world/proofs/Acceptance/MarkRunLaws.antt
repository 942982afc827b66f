-- In every run of a plain plan a call that passed and wasn't handed on, or an opening that was accepted, and came in a
-- unit of the bag, has its reply marked as the reply to it. It serves `Proved.reply_marks` and `Proved.opened_marks`.
use Rattle.std.proofs.Common.{◌≡◌, ◌≢◌, ℕ, ◌≤◌, Bool, true, false, List, [], ◌++◌, drop, length, map, Option, Some, None, inl, inr, refl, sym, ap, subst, ◌∙◌, slice_get}
use Rattle.std.specs.List.{AllByRecursion}
use Rattle.outside.specs.declared.action.Judged.TheVariants as judged
use Rattle.outside.specs.declared.event.Event.TheVariants as event
use Rattle.end_links.specs.Serving.{ServedUnit}
use Rattle.channel_turns.specs.Turning.{is_on}
use Rattle.channel_turns.specs.declared.state.TurnTalk.{TurnTalk}
use Rattle.domain_controller.specs.State.{State as ControllerState}
use Rattle.domain_controller.specs.TrustStep.{trust_step_of}
use Rattle.domain_controller.specs.declared.state.Running.{Running as ControllerRunning}
use Rattle.member_server.specs.State.{State as MemberState}
use Rattle.member_server.specs.Turns.{AtTurn}
use Rattle.channel_events.specs.Marks.{Mark, Opened, ReplyTo}
use Rattle.wire_base.proofs.AllLaws.{all_zip}
use Rattle.wire_base.proofs.ListLaws.{all_weaker, got_append, got_nothing, some_is}
use Rattle.step_notes.specs.ControllerNotes.{Answered, Where, has_passed}
use Rattle.step_notes.specs.Judged.{IsJudgedRight}
use Rattle.step_notes.specs.Marking.{answered_marks, turn_marks}
use Rattle.step_notes.specs.MemberNotes.{turn_note, turn_units}
use Rattle.step_notes.specs.Records.{Book, ChannelAccepted, InUnit, Judging, Sent, Source, OfMember}
use Rattle.step_notes.specs.TrustNotes.{trust_answer_on, trust_units_by, trust_units_of, units_beside_turn}
use Rattle.step_notes.proofs.Controllers.TrustReplyLaws.{trust_replies_sent}
use Rattle.world_moves.specs.declared.bag.BagUnit.{BagUnit}
use Rattle.world_moves.specs.declared.links.EndId.{EndId}
use Rattle.world_moves.specs.declared.links.EndId.TheVariants.{Controller, Member}
use Rattle.world_moves.specs.declared.links.Route.{Route}
use Rattle.world_moves.specs.declared.moves.Move.{Move}
use Rattle.world_moves.specs.declared.plan.Plan.{Plan}
use Rattle.world_moves.specs.declared.state.State.{State}
use Rattle.world_moves.specs.Acting.{AfterHearing, Given, heard_by}
use Rattle.world_moves.specs.Ends.{EndStep}
use Rattle.world_moves.specs.Links.{is_own, kind_of}
use Rattle.world_moves.specs.Plain.{IsPlainPlan, plain_controller_step as controller_step, plain_member_step as member_step}
use Rattle.domain_world.specs.Claims.MarkedUnits.{IsMarkedAsReply, RepliesAreMarked}
use Rattle.domain_world.specs.Claims.OpeningReplies.{IsMarkedAsOpened, OpeningsAreMarked}
use Rattle.domain_world.specs.Past.{Delivery, Past, accepted_of, answers_of, at_controller, controller_asked, heard_marks, judged_of, marks_of, note_at, note_client, note_controller, note_given, note_member, note_messages, numbers_on, onto, past, sent_at}
use Rattle.domain_world.proofs.Acceptance.AnsweredLaws.{StandsFor, channel_there}
use Rattle.domain_world.proofs.Acceptance.Heard.JudgedUnitLaws.{AreOwn, JudgedStand, acts_stand, settled_stand}
use Rattle.domain_world.proofs.Frames.BagFrameLaws.{IsServer}
use Rattle.domain_world.proofs.Frames.EndNoteLaws.{accepted_so, judged_so}
use Rattle.domain_world.proofs.Frames.EveryStepLaws.{act_plain, every_acted, stepped}
use Rattle.domain_world.proofs.Frames.MoveFrameLaws.{HoldsAfterMoves}
use Rattle.domain_world.proofs.Frames.MoveKeepLaws.{Both, KeepsMovesBy, MoveFact, NoSide, beside, coming, every, join_moves}
use Rattle.domain_world.proofs.Frames.PlainFrameLaws.{moves_keep_plain}
use Rattle.domain_world.proofs.Frames.TurnFrameLaws.{turns_sent}
use Rattle.domain_world.proofs.Judgements.JudgedLaws.{judged_rightly, onto_hold}
use Rattle.domain_world.proofs.Judgements.Openings.OpeningMarkLaws.{HasAnswer, all_answered, answer_so, onto_all, trust_accepts_so}
use Rattle.domain_world.proofs.Judgements.ReplyMarkLaws.{HasReply, answers_replied, answers_so, reply_so}
use Rattle.domain_world.proofs.Judgements.TrustReplyLaws.{IsServed, nothing_taken, served}
use Rattle.domain_world.proofs.Moves.AcceptedLinkLaws.{AcceptedLinks, IsAccepted, SuchIf, accepted_keep, first_accepted}
use Rattle.domain_world.proofs.Moves.ComingLaws.{CameFrom, IsPieceOf}
use Rattle.domain_world.proofs.Moves.EvenLaws.{EvenFact, even_keep, first_even}
use Rattle.domain_world.proofs.Moves.MarkNumberLaws.{AtNumbers, IsGiven, IsMarkedAt, given_at, marks_numbered, numbers_enough, numbers_so}
use Rattle.domain_world.proofs.Moves.OpenMadeLaws.{IsOnSide}
use Rattle.domain_world.proofs.Moves.TrustFrontLaws.{accepted_way, trust_front}

-- ---- what is to hold

record MarksStand (b : Book) : Type 0 where
  replies : AllByRecursion (HasReply (IsMarkedAt b.sent)) b.judged
  opened : AllByRecursion (HasAnswer (IsMarkedAt b.sent)) b.accepted

abbrev MarksHold : MoveFact
MarksHold n p s given b = MarksStand b

-- each unit of the bag went on a link of ends of this world
abbrev OwnBag : MoveFact
OwnBag n p s given b = JudgedStand s.bag []

-- on which what is known of marks rests
abbrev MarksRestOn : MoveFact
MarksRestOn = Both (Both AcceptedLinks EvenFact) OwnBag

-- ---- what is known of marks stays known

-- more is written down behind what there is
abbrev GrowTo : List Sent → List Sent → Type 0
GrowTo sent more = (n : ℕ) (one : Sent) → slice_get sent n ≡ Some one → slice_get more n ≡ Some one

marked_at_still : (sent more : List Sent) → GrowTo sent more → (moves n : ℕ) (mark : Mark) → IsMarkedAt sent moves n mark → IsMarkedAt more moves n mark
marked_at_still sent more grow moves n mark it = record { one = it.one; there = grow n it.one it.there; is = it.is; step = it.step }

replies_still : (sent more : List Sent) (judged : List Judging) → GrowTo sent more → AllByRecursion (HasReply (IsMarkedAt sent)) judged → AllByRecursion (HasReply (IsMarkedAt more)) judged
replies_still sent more judged grow all =
    all_weaker (HasReply (IsMarkedAt sent)) (HasReply (IsMarkedAt more)) judged
    (λ j has. reply_so (IsMarkedAt sent) (IsMarkedAt more) (λ moves n mark it. marked_at_still sent more grow moves n mark it) j has) all

opened_still : (sent more : List Sent) (accepted : List ChannelAccepted) → GrowTo sent more → AllByRecursion (HasAnswer (IsMarkedAt sent)) accepted → AllByRecursion (HasAnswer (IsMarkedAt more)) accepted
opened_still sent more accepted grow all =
    all_weaker (HasAnswer (IsMarkedAt sent)) (HasAnswer (IsMarkedAt more)) accepted
    (λ one has. answer_so (IsMarkedAt sent) (IsMarkedAt more) (λ moves n mark it. marked_at_still sent more grow moves n mark it) one has) all

-- what is known of marks stays where no call and no opening is written down
stand_on : (b d : Book) → GrowTo b.sent d.sent → d.judged ≡ b.judged → d.accepted ≡ b.accepted → MarksStand b → MarksStand d
stand_on b d grow judged accepted stand = record {
  replies = subst (λ (all : List Judging). AllByRecursion (HasReply (IsMarkedAt d.sent)) all) (sym judged) (replies_still b.sent d.sent b.judged grow stand.replies);
  opened = subst (λ (all : List ChannelAccepted). AllByRecursion (HasAnswer (IsMarkedAt d.sent)) all) (sym accepted) (opened_still b.sent d.sent b.accepted grow stand.opened);
}

-- ---- bytes come at a controller

module _ (c : ControllerState) (at : ℕ) (w : Delivery) (piece : List ℕ) (s : State) (b : Book) where
  abbrev its : Where
  its = at_controller at c w s

  abbrev answers : List Answered
  answers = answers_of at c w piece s

  abbrev marks : List Mark
  marks = answered_marks answers

  abbrev heard : AfterHearing
  heard = heard_by (controller_step (Some c) at (event.Bytes w.link piece) s.moment s.ends s.chances) s

  abbrev after : State
  after = stepped (Controller at) (controller_step (Some c) at (event.Bytes w.link piece) s.moment s.ends s.chances) s

  abbrev numbers : List ℕ
  numbers = numbers_on w.link true s.bag after.bag

  abbrev now : Book
  now = note_controller (Some c) at w piece s after b

  abbrev units : List BagUnit
  units = drop (length s.bag) after.bag

  -- where no call is answered, none is written down
  none_stands : answers ≡ [] → MarksStand b → MarksStand now
  none_stands none stand =
      stand_on b now
      (λ n one there. got_append b.sent (map (sent_at w.at) (heard_marks (is_on w.link c.trusting.dialling) at c w piece s after b.forwards units)) n one there)
      (ap (λ (all : List Answered). onto (judged_of all numbers) b.judged) none) (ap (λ (all : List Answered). onto (accepted_of all numbers) b.accepted) none) stand

  -- on an accepted link
  accepted_stands : is_on w.link c.trusting.dialling ≡ false → IsServed s at c w.link → CameFrom w.source s w piece → AreOwn s.bag → length b.sent ≡ length s.bag → MarksStand b → MarksStand now
  accepted_stands off link came own even stand =
      let given : List Mark = marks_of w.link true units marks in
      let sent : List Sent = b.sent ++ map (sent_at w.at) given in
      let same : now.sent ≡ sent = ap (λ (on : Bool). b.sent ++ map (sent_at w.at) (heard_marks on at c w piece s after b.forwards units)) off in
      let grow : GrowTo b.sent sent = λ n one there. got_append b.sent (map (sent_at w.at) given) n one there in
      let numbered_at : AtNumbers (IsMarkedAt sent w.at) marks numbers =
      numbers_so (IsGiven given (length s.bag)) (IsMarkedAt sent w.at) (λ n mark it. given_at b.sent (length s.bag) w.at given n mark even it) marks numbers
      (marks_numbered w.link true units marks (length s.bag)) in
      let enough : (n : ℕ) → w.source ≡ InUnit n → length marks ≤ length numbers = λ n source.
      (let piece_of : IsPieceOf s n w piece = subst (λ (from : Source). CameFrom from s w piece) source came in
      let route : piece_of.route ≡ link.is.route = some_is piece_of.route link.is.route (sym piece_of.made ∙ link.is.made) in
      numbers_enough link.is.route (Controller at) w.link true (accepted_way link.is.route at link.is.acceptor) heard.actions marks heard.state link.is.made
      (sym (ap (λ (r : Route). is_own (kind_of r)) route) ∙ ap is_own piece_of.same_kind ∙ own n piece_of.unit piece_of.there)
      (trust_front c its w.link piece s.moment s.chances.left off (λ actions is. trust_replies_sent c w.at at w.source w.link piece s.moment s.chances.left actions off is))) in
      record {
        replies = subst (λ (all : List Sent). AllByRecursion (HasReply (IsMarkedAt all)) now.judged) (sym same)
            (onto_hold (HasReply (IsMarkedAt sent)) (judged_of answers numbers) b.judged
            (answers_replied (IsMarkedAt sent) w.at w.source answers numbers (answers_so its w.link (trust_units_of c w.link piece s.moment s.chances.left)) numbered_at enough)
            (replies_still b.sent sent b.judged grow stand.replies));
        opened = subst (λ (all : List Sent). AllByRecursion (HasAnswer (IsMarkedAt all)) now.accepted) (sym same)
            (onto_all (HasAnswer (IsMarkedAt sent)) (accepted_of answers numbers) b.accepted
            (all_answered (IsMarkedAt sent) w.at w.source answers numbers (trust_accepts_so its w.link (trust_units_of c w.link piece s.moment s.chances.left)) numbered_at enough)
            (opened_still b.sent sent b.accepted grow stand.opened));
      }

  -- on the link of its turn no call is answered
  -- on the link of its turn no call is answered
  turn_none : (found : Option ControllerRunning) → is_on w.link c.trusting.dialling ≡ true → trust_units_by found w.link piece c s.moment s.chances.left ≡ []
  turn_none None on = refl
  turn_none (Some running) on = ap (λ (is_turn_link : Bool). units_beside_turn is_turn_link w.link piece c running s.moment s.chances.left) on

  by_link : (on : Bool) → is_on w.link c.trusting.dialling ≡ on → SuchIf (IsAccepted s.links at) c.running → CameFrom w.source s w piece → AreOwn s.bag → length b.sent ≡ length s.bag → MarksStand b →
      MarksStand now
  by_link true on all came own even stand =
      none_stands (ap (λ all. map (trust_answer_on w.link its) all)
      (nothing_taken (trust_step_of c (event.Bytes w.link piece) s.moment s.chances.left).answer (trust_units_by c.running w.link piece c s.moment s.chances.left) (turn_none c.running on))) stand
  by_link false off all came own even stand = elim (served c at w piece s all off) [
    | inl none ↦ none_stands none stand
    | inr link ↦ accepted_stands off link came own even stand
  ]

-- ---- bytes come at a member

member_stands : (m : MemberState) (at : ℕ) (w : Delivery) (piece : List ℕ) (s after : State) (b : Book) → MarksStand b → MarksStand (note_member (Some m) at w piece s after b)
member_stands m at w piece s after b stand =
    let units : List (ServedUnit AtTurn TurnTalk) = turn_units m w.link piece s.moment s.chances.left in
    let marks : List Mark = turn_marks (map (turn_note (controller_asked (OfMember at) s)) units) in
    let given : List Mark = marks_of w.link false (drop (length s.bag) after.bag) marks in
    let now : Book = note_member (Some m) at w piece s after b in
    let sends : now.sent ≡ b.sent ++ map (sent_at w.at) given =
    ap (λ (old : List Sent). old ++ map (sent_at w.at) given) (turns_sent (OfMember at) w units s after (note_messages at m w piece s b)) in
    stand_on b now
    (λ k one is. subst (λ (all : List Sent). slice_get all k ≡ Some one) (sym sends) (got_append b.sent (map (sent_at w.at) given) k one is))
    (judged_so.members m at w piece s after b) (accepted_so.members m at w piece s after b) stand

-- ---- through all moves

end_stands : (n : ℕ) (end : EndId) (w : Delivery) (piece : List ℕ) (s : State) (given : Given) (b : Book) → IsOnSide s.links w.link w.back end → CameFrom w.source s w piece →
    MarksRestOn n (coming w) s given b → MarksStand b → MarksStand (note_at (Some end) w piece s (act_plain end (event.Bytes w.link piece) s).state b)
end_stands n end w piece s given b here came side stand =
    every_acted (λ (one : EndId) (step : EndStep) (after : State) (now : Book). (IsServer one → length b.sent ≡ length s.bag) → MarksStand now) w piece s b
    (λ one even. stand)
    (λ at c there even. by_link c at w piece s b (is_on w.link c.trusting.dialling) refl (side.0.0 at c there) came side.1.kinds (even refl) stand)
    (λ at m there even. member_stands m at w piece s (stepped (Member at) (member_step (Some m) at (event.Bytes w.link piece) s.moment s.ends s.chances) s) b stand)
    (λ at c there even. stand_on b (note_client (Some c) at w piece s b) (λ k one is. is) refl refl stand) end (λ server. side.0.1.all end here server)

marks_keep : KeepsMovesBy every ⊥ MarksRestOn MarksHold
marks_keep = record {
  closes = λ n p end link s given b work side stand. stand;
  opens = λ n at dial route s given b out side stand. stand;
  dialled = λ n at end link s given b here side stand. stand;
  fails = λ n at end s b side stand. stand;
  begins = λ n at client plan s b is side stand. stand;
  comes = λ n end w piece s given b here came bytes side stand. end_stands n end w piece s given b here came side stand;
  reaches = λ n w s given b side stand. stand;
  acts = λ n p end what s given b work side stand. stand;
  shuts = λ n p link s given b work side stand. stand;
  answers = λ n at dial link there s given b is side stand. stand;
  forgets = λ n at end s b side stand. stand;
  settles = λ n at on number s b side stand. stand;
  dials = λ n at dial s b is side stand. stand;
  renews = λ n at end s b side stand. stand;
  changes = λ n at member secret s b formed side stand. stand;
  ticks = λ n at more s b side stand. stand;
  over = λ n at on next s given b side stand. stand_on b (note_given at given s b) (λ k one is. got_append b.sent _ k one is) refl refl stand;
}

own_keep : KeepsMovesBy every ⊥ NoSide OwnBag
own_keep = record {
  closes = λ n p end link s given b work side own. own;
  opens = λ n at dial route s given b out side own. own;
  dialled = λ n at end link s given b here side own. own;
  fails = λ n at end s b side own. own;
  begins = λ n at client plan s b is side own. own;
  comes = λ n end w piece s given b here came bytes side own. own;
  reaches = λ n w s given b side own. own;
  acts = λ n p end what s given b work side own. acts_stand end what s [] own;
  shuts = λ n p link s given b work side own. own;
  answers = λ n at dial link there s given b is side own. own;
  forgets = λ n at end s b side own. own;
  settles = λ n at on number s b side own. settled_stand number s.bag [] own;
  dials = λ n at dial s b is side own. own;
  renews = λ n at end s b side own. own;
  changes = λ n at member secret s b formed side own. own;
  ticks = λ n at more s b side own. own;
  over = λ n at on next s given b side own. own;
}

-- ---- a run

marks_hold : (plan : Plan) (moves : List Move) → IsPlainPlan plan → MarksStand (past plan moves).book
marks_hold plan moves nothing =
    let links : KeepsMovesBy every ⊥ NoSide (Both AcceptedLinks EvenFact) =
    join_moves ⊥ AcceptedLinks EvenFact (accepted_keep ⊥) (beside ⊥ AcceptedLinks EvenFact (even_keep ⊥)) in
    let sides : KeepsMovesBy every ⊥ NoSide MarksRestOn =
    join_moves ⊥ (Both AcceptedLinks EvenFact) OwnBag links (beside ⊥ (Both AcceptedLinks EvenFact) OwnBag own_keep) in
    let after : HoldsAfterMoves ⊥ (Both MarksRestOn MarksHold) plan moves =
    moves_keep_plain ⊥ (Both MarksRestOn MarksHold) (join_moves ⊥ MarksRestOn MarksHold sides marks_keep) plan moves nothing (λ none. absurd none)
    (λ on. (
      (
        (first_accepted plan, first_even plan on),
        record { kinds = λ n unit there. absurd (got_nothing n unit there); judged = tt },
      ),
      record { replies = tt; opened = tt },
    )) in
    after.holds.1

-- the reply to each call that passed, wasn't handed on, and came in a unit of the bag, is marked as that
pub replies_marked : (plan : Plan) (moves : List Move) → IsPlainPlan plan → RepliesAreMarked (past plan moves)
replies_marked plan moves nothing =
    let p : Past = past plan moves in
    all_zip (HasReply (IsMarkedAt p.book.sent)) IsJudgedRight
    (λ (j : Judging). (n : ℕ) → j.source ≡ InUnit n → has_passed j.how ≡ true → j.how ≢ Some judged.Forwarded → IsMarkedAsReply p j n) p.book.judged
    (λ j has right n came passed here.
    let stands : StandsFor j = channel_there j right passed in
    let it = has n stands.channel came stands.passed here in
    let marked : IsMarkedAt p.book.sent j.at it.0 (ReplyTo stands.channel j.number n) = it.2 in
    record { reply = it.0; is = it.1; sent = marked.one; there = marked.there; channel = stands.channel; passed = stands.passed; mark = marked.is; step = marked.step })
    (marks_hold plan moves nothing).replies (judged_rightly plan moves)

-- the reply to each opening that was accepted, and came in a unit of the bag, is marked as that
pub openings_marked : (plan : Plan) (moves : List Move) → IsPlainPlan plan → OpeningsAreMarked (past plan moves)
openings_marked plan moves nothing =
    let p : Past = past plan moves in
    all_weaker (HasAnswer (IsMarkedAt p.book.sent)) (λ (one : ChannelAccepted). (n : ℕ) → one.source ≡ InUnit n → IsMarkedAsOpened p one n) p.book.accepted
    (λ one has n came.
    let it = has n came in
    let marked : IsMarkedAt p.book.sent one.at it.0 (Opened one.channel one.number n) = it.2 in
    record { reply = it.0; is = it.1; sent = marked.one; there = marked.there; mark = marked.is; step = marked.step }) (marks_hold plan moves nothing).opened
