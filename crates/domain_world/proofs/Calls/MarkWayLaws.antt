-- In every run each unit that is marked as a request goes on from the end that dialled its link, and each that is
-- marked as a reply goes back to it. It serves `Proved.ways`.
use Rattle.std.proofs.Common.{◌≡◌, ℕ, zero, suc, ◌==◌, ◌&&◌, not, Bool, true, false, List, [], ◌∷◌, ◌++◌, map, Option, Some, None, refl, sym, ◌∙◌, subst, slice_get}
use Rattle.std.specs.List.{AllByRecursion}
use Rattle.authenticators.specs.Channels.{ChannelIdentity}
use Rattle.outside.specs.declared.event.Event.TheVariants as event
use Rattle.controller_calls.specs.declared.calls.ControllerCall.TheVariants as call
use Rattle.rpc_units.specs.Reading.{unit_of}
use Rattle.end_links.specs.Serving.{ServedUnit}
use Rattle.channel_client.specs.declared.state.SetStep.TheVariants as set_step
use Rattle.channel_client.specs.Effects.{step_in}
use Rattle.channel_client.specs.Machine.{Taking}
use Rattle.channel_client.specs.State.{Requester}
use Rattle.channel_client.specs.declared.answers.Taken.{Taken}
use Rattle.channel_client.specs.declared.answers.Taken.TheVariants as taken
use Rattle.channel_client.specs.declared.state.Question.TheVariants as question
use Rattle.channel_client.specs.declared.state.Standing.{Standing}
use Rattle.channel_client.specs.declared.state.Standing.TheVariants as standing
use Rattle.channel_client.specs.declared.state.Step.{Step}
use Rattle.channel_client.specs.declared.state.Step.TheVariants as step
use Rattle.outside.specs.declared.action.Judged.{Judged}
use Rattle.outside.specs.declared.action.Judged.TheVariants as judged
use Rattle.domain_controller.specs.Forwarding.{TrustDesk, base_desk}
use Rattle.domain_controller.specs.Hearing.{hear}
use Rattle.domain_controller.specs.Machine.{Desk}
use Rattle.domain_controller.specs.State.{State as ControllerState}
use Rattle.domain_controller.specs.declared.hearing.Heard.{Heard}
use Rattle.domain_controller.specs.declared.hearing.Heard.TheVariants as heard
use Rattle.controller_calls.specs.declared.line.Line.{Line}
use Rattle.domain_controller.specs.declared.state.Talk.{Talk}
use Rattle.domain_controller.proofs.TrustPlaceLaws.{got_all}
use Rattle.member_server.specs.Turns.{AtTurn}
use Rattle.channel_turns.specs.Turning.{is_on}
use Rattle.channel_turns.specs.declared.state.TurnTalk.{TurnTalk}
use Rattle.channel_turns.specs.declared.state.TurnWork.{TurnWork}
use Rattle.channel_events.specs.Marks.{Mark, Plain}
use Rattle.step_notes.specs.ControllerNotes.{Where, answer_on, call_answer, channel_in, has_passed, heard_answer, judging_by, judging_of, opened_by, opened_mark, opening, passing, reply_mark, units_of_controller}
use Rattle.step_notes.specs.Judged.{passed_channel}
use Rattle.step_notes.specs.Marking.{answered_marks, mark_if, turn_marks}
use Rattle.step_notes.specs.MemberNotes.{asked_note, taken_note, taking_at, taking_note, taking_read, turn_note, turn_units, TurnNote}
use Rattle.step_notes.specs.Records.{Book, Forward, Judging, OfMember, RequesterId, computer_named, unit_in}
use Rattle.controller_calls.specs.declared.calls.ControllerCall.{ControllerCall}
use Rattle.step_notes.specs.Served.{work_after}
use Rattle.step_notes.specs.TrustNotes.{asking_note, asking_units, base_after, trust_answer_on, trust_heard_answer, trust_judging_by, trust_units_of}
use Rattle.world_moves.specs.declared.bag.BagUnit.{BagUnit}
use Rattle.world_moves.specs.declared.moves.Move.{Move}
use Rattle.world_moves.specs.declared.plan.Plan.{Plan}
use Rattle.world_moves.specs.declared.state.State.{State}
use Rattle.world_moves.specs.declared.links.EndId.TheVariants.{Controller}
use Rattle.domain_world.specs.Accepting.Answered.{IsItsWay, MarksHaveTheirWay}
use Rattle.domain_world.specs.Past.{Delivery, answers_of, asked_in_turn, asking_by, asking_marks, asking_notes, at_controller, beside_mark, controller_asked, forward_mark, heard_marks, is_sent_on, mark_or, marks_by, marks_of, past, still_waits}
use Rattle.wire_base.proofs.ListLaws.{got_nothing, some_is}
use Rattle.world_moves.specs.Plain.{IsPlainPlan, plain_controller_step as controller_step}
use Rattle.domain_world.proofs.Frames.BagFrameLaws.{IsOfUnit, MarksStay, UnitFact, member_marks}
use Rattle.domain_world.proofs.Frames.EveryMarkLaws.{EveryMarks, every_marked}
use Rattle.domain_world.proofs.Frames.EveryStepLaws.{stepped}
use Rattle.domain_world.proofs.Frames.FrameLaws.{Fact}
use Rattle.domain_world.proofs.Frames.MoveKeepLaws.{NoSide}
use Rattle.domain_world.proofs.Frames.TurnFrameLaws.{asked_marks}

-- ---- what each end marks

-- no reply; and no request
abbrev pub IsRequest : Mark → Type 0
IsRequest mark = IsItsWay false mark

abbrev IsReply : Mark → Type 0
IsReply mark = IsItsWay true mark

asked_way : (st : Option Step) (how : Standing) (controller : ℕ) (before after : Requester) → IsRequest (asked_note st how controller before after).mark
asked_way None how controller before after = tt
asked_way (Some (step.Bind c)) how controller before after = tt
asked_way (Some (step.Reply (question.Challenge client))) how controller before after = tt
asked_way (Some (step.Reply question.Authenticate)) standing.Nothing controller before after = tt
asked_way (Some (step.Reply question.Authenticate)) (standing.Half client server) controller before after = refl
asked_way (Some (step.Reply question.Authenticate)) (standing.Open o) controller before after = tt
asked_way (Some (step.Reply question.Logon)) standing.Nothing controller before after = tt
asked_way (Some (step.Reply question.Logon)) (standing.Half client server) controller before after = tt
asked_way (Some (step.Reply question.Logon)) (standing.Open o) controller before after = refl
asked_way (Some (step.Set (set_step.Bind c))) how controller before after = tt
asked_way (Some (step.Set set_step.Reply)) standing.Nothing controller before after = tt
asked_way (Some (step.Set set_step.Reply)) (standing.Half client server) controller before after = tt
asked_way (Some (step.Set set_step.Reply)) (standing.Open o) controller before after = refl

taken_way : (what : Taken) (controller : ℕ) (before after : Requester) → IsRequest (taken_note what controller before after).mark
taken_way (taken.Skip right) controller before after = tt
taken_way (taken.Next right frames) controller before after = asked_way (step_in after.turn) after.standing controller before after
taken_way taken.Half controller before after = tt
taken_way taken.Opened controller before after = tt
taken_way (taken.Answer place verdict) controller before after = tt
taken_way (taken.Dropped place cause) controller before after = tt
taken_way taken.Set controller before after = tt

taking_way : (taking : Option Taking) (controller : ℕ) (before : Requester) → IsRequest (taking_note taking controller before).mark
taking_way None controller before = tt
taking_way (Some taking) controller before = taken_way taking.taken controller before taking.state

opened_way : (unit : Option ℕ) (channel : ChannelIdentity) (number : ℕ) → IsReply (opened_mark unit channel number)
opened_way None channel number = tt
opened_way (Some unit) channel number = refl

opening_way : (channel : Option ChannelIdentity) (w : Where) (number kind : ℕ) → IsReply (opening channel w number kind).mark
opening_way None w number kind = tt
opening_way (Some channel) w number kind = opened_way (unit_in w.source) channel number

reply_way : (unit : Option ℕ) (channel : ChannelIdentity) (number : ℕ) → IsReply (reply_mark unit channel number)
reply_way None channel number = tt
reply_way (Some unit) channel number = refl

passing_way : (channel : Option ChannelIdentity) (j : Judging) → IsReply (passing channel j).mark
passing_way None j = tt
passing_way (Some channel) j = reply_way (unit_in j.source) channel j.number

judging_way : (passed : Bool) (j : Judging) → IsReply (judging_by passed j).mark
judging_way false j = tt
judging_way true j = passing_way (channel_in j.controller (computer_named j.asked) j.checks) j

call_way : (c : ControllerCall) (line : Line) (w : Where) (before : Desk) (after : Option Desk) → IsReply (call_answer c line w before after).mark
call_way (call.Challenge c) line w before after = tt
call_way (call.Authenticate c) line w before after = opening_way (opened_by w.controller c before) w line.call c.channel
call_way (call.Judged c) line w before after = judging_way (has_passed (judging_of w line c before after).how) (judging_of w line c before after)

heard_way : (what : Heard) (w : Where) (before : Desk) (after : Option Desk) → IsReply (heard_answer what w before after).mark
heard_way (heard.Close cause) w before after = tt
heard_way (heard.Answer bytes talk) w before after = tt
heard_way (heard.Waits talk) w before after = tt
heard_way (heard.Asked line c talk) w before after = call_way c line w before after

-- what is written down of a controller that may hand logons on has the mark of a reply, or none
by_way_of : (how : Option Judged) (j : Judging) → IsReply (trust_judging_by how j).mark
by_way_of None j = judging_way false j
by_way_of (Some (judged.Passed status)) j = judging_way true j
by_way_of (Some judged.Forwarded) j = tt
by_way_of (Some (judged.Answered status)) j = judging_way false j
by_way_of (Some judged.Barred) j = judging_way false j
by_way_of (Some judged.NoChannel) j = judging_way false j

trust_heard_way : (what : Heard) (w : Where) (before : Desk) (after : Option Desk) → IsReply (trust_heard_answer what w before after).mark
trust_heard_way (heard.Close cause) w before after = tt
trust_heard_way (heard.Answer bytes talk) w before after = tt
trust_heard_way (heard.Waits talk) w before after = tt
trust_heard_way (heard.Asked line (call.Challenge c) talk) w before after = tt
trust_heard_way (heard.Asked line (call.Authenticate c) talk) w before after = opening_way (opened_by w.controller c before) w line.call c.channel
trust_heard_way (heard.Asked line (call.Judged c) talk) w before after = by_way_of (judging_of w line c before after).how (judging_of w line c before after)

pub if_marked : (P : Mark → Type 0) (sends : Bool) (mark : Mark) (more : List Mark) → P mark → AllByRecursion P more → AllByRecursion P (mark_if sends mark ++ more)
if_marked P false mark more is each = each
if_marked P true mark more is each = (is, each)

pub answers_way : (link : ℕ) (w : Where) (units : List (ServedUnit Desk Talk)) → AllByRecursion IsReply (answered_marks (map (answer_on link w) units))
answers_way link w [] = tt
answers_way link w (unit ∷ units) =
    if_marked IsReply (answer_on link w unit).sends (answer_on link w unit).mark (answered_marks (map (answer_on link w) units))
    (heard_way (hear link unit.bytes unit.talk) w unit.work (work_after unit.part)) (answers_way link w units)

trust_answers_way : (link : ℕ) (w : Where) (units : List (ServedUnit TrustDesk Talk)) → AllByRecursion IsReply (answered_marks (map (trust_answer_on link w) units))
trust_answers_way link w [] = tt
trust_answers_way link w (unit ∷ units) =
    if_marked IsReply (trust_answer_on link w unit).sends (trust_answer_on link w unit).mark (answered_marks (map (trust_answer_on link w) units))
    (trust_heard_way (hear link unit.bytes unit.talk) w (base_desk unit.work) (base_after (work_after unit.part))) (trust_answers_way link w units)

pub turns_way : (who : RequesterId) (s : State) (units : List (ServedUnit AtTurn TurnTalk)) → AllByRecursion IsRequest (asked_marks who s units)
turns_way who s [] = tt
turns_way who s (unit ∷ units) =
    let note : TurnNote = turn_note (controller_asked who s) unit in
    if_marked IsRequest note.sends note.mark (asked_marks who s units)
    (taking_way (taking_at unit) (controller_asked who s) unit.work.work.logons.channel) (turns_way who s units)

-- ---- which unit gets which mark

onward : (same back : Bool) → (same && not back) ≡ true → back ≡ false
onward true false is = refl
onward true true is = absurd (let x = is in cc)
onward false back is = absurd (let x = is in cc)

backward : (same back : Bool) → (same && back) ≡ true → back ≡ true
backward true back is = is
backward false back is = absurd (let x = is in cc)

-- what is sent on a link in a direction goes in that direction
goes_so : (back : Bool) (link : ℕ) (unit : BagUnit) → is_sent_on link back unit ≡ true → unit.back ≡ back
goes_so false link unit is = onward (unit.link == link) unit.back is
goes_so true link unit is = backward (unit.link == link) unit.back is

-- units of which each is marked so: those that are on the link in that direction by marks of that way, the others for
-- no channel
abbrev AreWay : List BagUnit → List Mark → Type 0
AreWay units marks = (place : ℕ) (unit : BagUnit) (mark : Mark) → slice_get units place ≡ Some unit → slice_get marks place ≡ Some mark → IsItsWay unit.back mark

first_way : (unit : BagUnit) (mark : Mark) (units : List BagUnit) (marks : List Mark) → IsItsWay unit.back mark → AreWay units marks → AreWay (unit ∷ units) (mark ∷ marks)
first_way unit mark units marks is later zero one found there marked =
    subst (λ (m : Mark). IsItsWay one.back m) (some_is mark found marked) (subst (λ (u : BagUnit). IsItsWay u.back mark) (some_is unit one there) is)
first_way unit mark units marks is later (suc place) one found there marked = later place one found there marked

by_way : (on back : Bool) (link : ℕ) (unit : BagUnit) (units : List BagUnit) (marks : List Mark) → is_sent_on link back unit ≡ on → AllByRecursion (IsItsWay back) marks →
    ((rest : List Mark) → AllByRecursion (IsItsWay back) rest → AreWay units (marks_of link back units rest)) →
    AreWay (unit ∷ units) (marks_by on marks (λ (rest : List Mark). marks_of link back units rest))
by_way false back link unit units marks on each later = first_way unit Plain units (marks_of link back units marks) tt (later marks each)
by_way true back link unit units [] on each later = first_way unit Plain units (marks_of link back units []) tt (later [] tt)
by_way true back link unit units (mark ∷ marks) on each later =
    first_way unit mark units (marks_of link back units marks)
    (subst (λ (b : Bool). IsItsWay b mark) (sym (goes_so back link unit on)) each.0) (later marks each.1)

-- on the link of a controller's turn: requests on it, and the reply to a call that was handed on
forward_way : (channel : Option ChannelIdentity) (one : Forward) → IsReply (forward_mark channel one)
forward_way None one = tt
forward_way (Some channel) one = reply_way (unit_in one.judging.source) channel one.judging.number

mark_or_way : (on waits_no_more : Bool) (one : Forward) (unit : BagUnit) (other : Mark) → is_sent_on one.link true unit ≡ on → IsItsWay unit.back other →
    IsItsWay unit.back (mark_or (on && waits_no_more) one other)
mark_or_way false waits_no_more one unit other on way = way
mark_or_way true false one unit other on way = way
mark_or_way true true one unit other on way =
    subst (λ (back : Bool). IsItsWay back (forward_mark (passed_channel one.judging) one)) (sym (goes_so true one.link unit on)) (forward_way (passed_channel one.judging) one)

beside_way : (forwards : List Forward) (after : State) (unit : BagUnit) → IsItsWay unit.back (beside_mark forwards after unit)
beside_way [] after unit = tt
beside_way (one ∷ forwards) after unit =
    mark_or_way (is_sent_on one.link true unit) (not (still_waits after one)) one unit (beside_mark forwards after unit) refl (beside_way forwards after unit)

asking_way : (on : Bool) (link : ℕ) (beside : BagUnit → Mark) (unit : BagUnit) (units : List BagUnit) (marks : List Mark) → is_sent_on link false unit ≡ on →
    IsItsWay unit.back (beside unit) → AllByRecursion IsRequest marks → ((rest : List Mark) → AllByRecursion IsRequest rest → AreWay units (asking_marks link beside units rest)) →
    AreWay (unit ∷ units) (asking_by on marks (beside unit) (λ (rest : List Mark). asking_marks link beside units rest))
asking_way false link beside unit units marks on way each later = first_way unit (beside unit) units (asking_marks link beside units marks) way (later marks each)
asking_way true link beside unit units [] on way each later = first_way unit Plain units (asking_marks link beside units []) tt (later [] tt)
asking_way true link beside unit units (mark ∷ marks) on way each later =
    first_way unit mark units (asking_marks link beside units marks)
    (subst (λ (b : Bool). IsItsWay b mark) (sym (goes_so false link unit on)) each.0) (later marks each.1)

askings_way : (link : ℕ) (beside : BagUnit → Mark) → ((unit : BagUnit) → IsItsWay unit.back (beside unit)) → (units : List BagUnit) (marks : List Mark) → AllByRecursion IsRequest marks →
    AreWay units (asking_marks link beside units marks)
askings_way link beside ways [] marks each = λ place unit mark there marked. absurd (got_nothing place unit there)
askings_way link beside ways (unit ∷ units) marks each =
    asking_way (is_sent_on link false unit) link beside unit units marks refl (ways unit) each (λ rest all. askings_way link beside ways units rest all)

pub notes_way : (controller : ℕ) (units : List (ServedUnit TurnWork TurnTalk)) → AllByRecursion IsRequest (turn_marks (map (asking_note controller) units))
notes_way controller [] = tt
notes_way controller (unit ∷ units) =
    let note : TurnNote = asking_note controller unit in
    if_marked IsRequest note.sends note.mark (turn_marks (map (asking_note controller) units))
    (taking_way (taking_read (unit_of unit.bytes) unit.talk.joiner unit.work.channel) controller unit.work.channel) (notes_way controller units)

units_way : (back : Bool) (link : ℕ) (units : List BagUnit) (marks : List Mark) → AllByRecursion (IsItsWay back) marks → AreWay units (marks_of link back units marks)
units_way back link [] marks each = λ place unit mark there marked. absurd (got_nothing place unit there)
units_way back link (unit ∷ units) marks each =
    by_way (is_sent_on link back unit) back link unit units marks refl each (λ rest all. units_way back link units rest all)

-- where a controller hears bytes
marks_way : (on : Bool) (at : ℕ) (c : ControllerState) (w : Delivery) (piece : List ℕ) (s after : State) (forwards : List Forward) (units : List BagUnit) →
    AreWay units (heard_marks on at c w piece s after forwards units)
marks_way false at c w piece s after forwards units =
    units_way true w.link units (answered_marks (answers_of at c w piece s)) (trust_answers_way w.link (at_controller at c w s) (trust_units_of c w.link piece s.moment s.chances.left))
marks_way true at c w piece s after forwards units =
    askings_way w.link (λ unit. beside_mark forwards after unit) (λ unit. beside_way forwards after unit) units (turn_marks (asking_notes c w piece s))
    (notes_way (asked_in_turn c s) (asking_units c w.link piece s.moment s.chances.left))

-- ---- a run

abbrev pub OfUnit : UnitFact (Unit {0})
OfUnit x number unit mark = IsItsWay unit.back mark

ways_hold : EveryMarks (λ (b : Book). tt) OfUnit NoSide
ways_hold = record {
  settles = λ x number unit mark way. way;
  grows = λ n end w piece s after given b number unit mark side way. way;
  given = λ at given after b number unit mark way. way;
  controllers = λ n c at w piece s given b is side even units more on_links place unit mark there marked.
      let after : State = stepped (Controller at) (controller_step (Some c) at (event.Bytes w.link piece) s.moment s.ends s.chances) s in
      marks_way (is_on w.link c.trusting.dialling) at c w piece s after b.forwards units place unit mark there marked;
  members = λ n m at w piece s given b is side even units more place unit mark there marked.
      units_way false w.link units (member_marks at m w piece s)
      (turns_way (OfMember at) s (turn_units m w.link piece s.moment s.chances.left)) place unit mark there marked;
  others = λ n at on s given b number unit side. beside_way b.forwards s unit;
}

-- in every run
pub marks_have_their_way : (plan : Plan) (moves : List Move) → IsPlainPlan plan → MarksHaveTheirWay (past plan moves)
marks_have_their_way plan moves nothing number unit one there marked =
    let is : IsOfUnit OfUnit tt (past plan moves).world.state.bag number one.mark = every_marked (λ (b : Book). tt) OfUnit ways_hold plan moves nothing number one marked in
    subst (λ (u : BagUnit). IsItsWay u.back one.mark) (some_is is.unit unit (sym is.there ∙ there)) is.holds

-- ---- beside another fact of marks, which one frame carries with it

abbrev NothingElse : Unit {0} → Fact
NothingElse x ends chances links = Unit {0}

pub ways_stay : MarksStay (λ (b : Book). tt) NothingElse OfUnit
ways_stay = record {
  plain = λ x number unit. tt;
  settles = λ x number unit mark is. is;
  grows = λ end w piece s after b number unit one holds there sent is. is;
  controllers = λ c at w piece s after b number unit mark there holds even new.
      subst (λ (back : Bool). IsItsWay back mark) (sym new.way)
      (got_all IsReply (answered_marks (map (answer_on w.link (at_controller at c w s)) (units_of_controller c w.link piece s.moment s.chances.left))) new.place mark
      (answers_way w.link (at_controller at c w s) (units_of_controller c w.link piece s.moment s.chances.left)) new.marked);
  members = λ m at w piece s b there holds side even units is on place unit mark got marked.
      units_way false w.link units (member_marks at m w piece s)
      (turns_way (OfMember at) s (turn_units m w.link piece s.moment s.chances.left)) place unit mark got marked;
}
