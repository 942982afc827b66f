-- In every run of a plain plan each unit that is marked as the reply to an opening is that of one that was
-- accepted, whether controllers hand logons on or not. It serves `Proved.opened`.
use Rattle.std.proofs.Common.{◌≡◌, ℕ, ◌+◌, ◌&&◌, not, Bool, true, false, List, [], ◌∷◌, ◌++◌, drop, length, map, Option, Some, None, inl, inr, refl, sym, ap, ◌∙◌, subst, slice_get}
use Rattle.std.specs.List.{AllByRecursion}
use Rattle.std.proofs.lemmas.List.{drop_at}
use Rattle.authenticators.specs.Channels.{ChannelIdentity}
use Rattle.channel_turns.specs.Turning.{is_on}
use Rattle.controller_calls.specs.declared.calls.ControllerCall.TheVariants as call
use Rattle.outside.specs.declared.action.Judged.{Judged}
use Rattle.outside.specs.declared.action.Judged.TheVariants as judged
use Rattle.outside.specs.declared.event.Event.TheVariants as event
use Rattle.end_links.specs.Serving.{ServedUnit}
use Rattle.domain_controller.specs.Forwarding.{TrustDesk, base_desk}
use Rattle.domain_controller.specs.Hearing.{hear}
use Rattle.domain_controller.specs.Machine.{Desk}
use Rattle.domain_controller.specs.State.{State as ControllerState}
use Rattle.domain_controller.specs.declared.hearing.Heard.{Heard}
use Rattle.domain_controller.specs.declared.hearing.Heard.TheVariants as heard
use Rattle.domain_controller.specs.declared.state.Talk.{Talk}
use Rattle.domain_controller.proofs.TrustPlaceLaws.{got_all}
use Rattle.channel_events.specs.Marks.{Mark, Plain, Opening, Opened, Calling, ReplyTo}
use Rattle.step_notes.specs.ControllerNotes.{Answered, Where, judging_of, opened_by}
use Rattle.step_notes.specs.Judged.{passed_channel}
use Rattle.step_notes.specs.Marking.{answered_marks, turn_marks}
use Rattle.step_notes.specs.MemberNotes.{turn_units}
use Rattle.step_notes.specs.Records.{Book, ChannelAccepted, Forward, Judging, OfMember, unit_in}
use Rattle.step_notes.specs.Served.{work_after}
use Rattle.step_notes.specs.TrustNotes.{asking_units, base_after, trust_answer_on, trust_heard_answer, trust_judging_by, trust_units_of}
use Rattle.world_moves.specs.declared.bag.BagUnit.{BagUnit}
use Rattle.world_moves.specs.declared.links.EndId.{EndId}
use Rattle.world_moves.specs.declared.links.EndId.TheVariants.{Controller, Member}
use Rattle.world_moves.specs.declared.moves.Move.{Move}
use Rattle.world_moves.specs.declared.plan.Plan.{Plan}
use Rattle.world_moves.specs.declared.state.State.{State}
use Rattle.world_moves.specs.Plain.{IsPlainPlan, plain_controller_step as controller_step, plain_member_step as member_step}
use Rattle.domain_world.specs.Claims.OpeningReplies.{IsReplyOfOpening, RepliesAnswerOpenings}
use Rattle.domain_world.specs.Past.{Delivery, accepted_of, answers_of, asked_in_turn, asking_by, asking_marks, asking_notes, at_controller, beside_mark, forward_mark, heard_marks, is_sent_on, mark_or, marks_of, note_at, note_member, numbers_on, onto, past, still_waits}
use Rattle.world_moves.specs.Choosing.{places_from}
use Rattle.wire_base.proofs.ListLaws.{all_weaker}
use Rattle.domain_world.proofs.Frames.BagFrameLaws.{IsOfUnit, member_marks}
use Rattle.domain_world.proofs.Frames.EndNoteLaws.{accepted_so, acceptings_of}
use Rattle.domain_world.proofs.Frames.EveryMarkLaws.{EveryMarks, every_marked}
use Rattle.domain_world.proofs.Frames.EveryStepLaws.{every_book as book_by, stepped}
use Rattle.domain_world.proofs.Frames.MoveKeepLaws.{NoSide}
use Rattle.domain_world.proofs.Judgements.Openings.OpeningReplyLaws.{IfOpened, OfUnit, all_placed, judging_so, marks_all, of_others, opening_so, reply_so, requests_free}
use Rattle.domain_world.proofs.Judgements.Openings.OpeningUnclashedLaws.{openings_unclashed}
use Rattle.domain_world.proofs.Judgements.ReplyLaws.{one_newer, one_older}
use Rattle.domain_world.proofs.Calls.MarkWayLaws.{IsRequest, notes_way, turns_way}
use Rattle.domain_world.proofs.Moves.MarkNumberLaws.{mark_at}

-- ---- the mark of an answer

by_so : (how : Option Judged) (j : Judging) → IfOpened (trust_judging_by how j).mark (trust_judging_by how j).accepted
by_so None j = judging_so false j
by_so (Some (judged.Passed status)) j = judging_so true j
by_so (Some judged.Forwarded) j = tt
by_so (Some (judged.Answered status)) j = judging_so false j
by_so (Some judged.Barred) j = judging_so false j
by_so (Some judged.NoChannel) j = judging_so false j

heard_so : (what : Heard) (w : Where) (d : Desk) (after : Option Desk) → IfOpened (trust_heard_answer what w d after).mark (trust_heard_answer what w d after).accepted
heard_so (heard.Close cause) w d after = tt
heard_so (heard.Answer bytes talk) w d after = tt
heard_so (heard.Waits talk) w d after = tt
heard_so (heard.Asked line (call.Challenge c) talk) w d after = tt
heard_so (heard.Asked line (call.Authenticate c) talk) w d after = opening_so (opened_by w.controller c d) w line.call c.channel
heard_so (heard.Asked line (call.Judged c) talk) w d after = by_so (judging_of w line c d after).how (judging_of w line c d after)

answers_so : (link : ℕ) (w : Where) (units : List (ServedUnit TrustDesk Talk)) → AllByRecursion (λ (one : Answered). IfOpened one.mark one.accepted) (map (trust_answer_on link w) units)
answers_so link w [] = tt
answers_so link w (unit ∷ units) = (heard_so (hear link unit.bytes unit.talk) w (base_desk unit.work) (base_after (work_after unit.part)), answers_so link w units)

-- ---- no other mark is that of the reply to an opening

module _ (accepted : List ChannelAccepted) (number : ℕ) where
  abbrev IsFree : Mark → Type 0
  IsFree mark = IsReplyOfOpening accepted number mark

  reply_free : (mark : Mark) → IfOpened mark None → IsFree mark
  reply_free Plain so = tt
  reply_free (Opening channel call) so = tt
  reply_free (Opened channel call request) so = absurd so
  reply_free (Calling channel call timestamp) so = tt
  reply_free (ReplyTo channel call request) so = tt

  forward_free : (channel : Option ChannelIdentity) (one : Forward) → IsFree (forward_mark channel one)
  forward_free None one = tt
  forward_free (Some channel) one = reply_free (forward_mark (Some channel) one) (reply_so (unit_in one.judging.source) channel one.judging.number)

  mark_or_free : (its : Bool) (one : Forward) (other : Mark) → IsFree other → IsFree (mark_or its one other)
  mark_or_free false one other free = free
  mark_or_free true one other free = forward_free (passed_channel one.judging) one

  beside_free : (forwards : List Forward) (after : State) (unit : BagUnit) → IsFree (beside_mark forwards after unit)
  beside_free [] after unit = tt
  beside_free (one ∷ forwards) after unit =
      mark_or_free (is_sent_on one.link true unit && not (still_waits after one)) one (beside_mark forwards after unit) (beside_free forwards after unit)

  by_free : (on : Bool) (marks : List Mark) (other : Mark) (later : List Mark → List Mark) → IsFree other → ((rest : List Mark) → AllByRecursion IsFree rest → AllByRecursion IsFree (later rest)) →
      AllByRecursion IsFree marks → AllByRecursion IsFree (asking_by on marks other later)
  by_free false marks other later free go each = (free, go marks each)
  by_free true [] other later free go each = (tt, go [] tt)
  by_free true (mark ∷ marks) other later free go each = (each.0, go marks each.1)

  asking_free : (link : ℕ) (beside : BagUnit → Mark) → ((unit : BagUnit) → IsFree (beside unit)) → (units : List BagUnit) (marks : List Mark) → AllByRecursion IsFree marks →
      AllByRecursion IsFree (asking_marks link beside units marks)
  asking_free link beside free [] marks each = tt
  asking_free link beside free (unit ∷ units) marks each =
      by_free (is_sent_on link false unit) marks (beside unit) (λ (rest : List Mark). asking_marks link beside units rest) (free unit) (λ rest all. asking_free link beside free units rest all) each

-- ---- bytes come at a controller

heard_marked : (on : Bool) (c : ControllerState) (at : ℕ) (w : Delivery) (piece : List ℕ) (s after : State) (b : Book) (units : List BagUnit) (place : ℕ) (mark : Mark) → after.bag ≡ s.bag ++ units →
    slice_get (heard_marks on at c w piece s after b.forwards units) place ≡ Some mark →
    IsReplyOfOpening (onto (accepted_of (answers_of at c w piece s) (numbers_on w.link true s.bag after.bag)) b.accepted) (length s.bag + place) mark
heard_marked false c at w piece s after b units place mark more marked =
    let answers : List Answered = answers_of at c w piece s in
    let marks : List Mark = answered_marks answers in
    let numbers : List ℕ = numbers_on w.link true s.bag after.bag in
    let accepted : List ChannelAccepted = accepted_of answers numbers in
    let number : ℕ = length s.bag + place in
    let new : drop (length s.bag) after.bag ≡ units = ap (λ (bag : List BagUnit). drop (length s.bag) bag) more ∙ drop_at s.bag units (length s.bag) refl in
    elim (mark_at w.link true units marks (length s.bag) place mark marked) [
      | inl plain ↦ subst (λ (m : Mark). IsReplyOfOpening (onto accepted b.accepted) number m) (sym plain) tt
      | inr stands ↦ of_others mark accepted (onto accepted b.accepted) number (λ P it. one_newer P accepted b.accepted it)
          (all_placed number mark answers (answers_so w.link (at_controller at c w s) (trust_units_of c w.link piece s.moment s.chances.left)) numbers stands.place stands.marked
          (ap (λ (all : List BagUnit). slice_get (places_from (is_sent_on w.link true) (length s.bag) all) stands.place) new ∙ stands.numbered))
    ]
heard_marked true c at w piece s after b units place mark more marked =
    let accepted : List ChannelAccepted = onto (accepted_of (answers_of at c w piece s) (numbers_on w.link true s.bag after.bag)) b.accepted in
    let number : ℕ = length s.bag + place in
    let marks : List Mark = turn_marks (asking_notes c w piece s) in
    let requests : AllByRecursion IsRequest marks = notes_way (asked_in_turn c s) (asking_units c w.link piece s.moment s.chances.left) in
    got_all (IsFree accepted number) (asking_marks w.link (λ unit. beside_mark b.forwards after unit) units marks) place mark
    (asking_free accepted number w.link (λ unit. beside_mark b.forwards after unit) (λ unit. beside_free accepted number b.forwards after unit) units marks
    (all_weaker IsRequest (IsFree accepted number) marks (λ m way. requests_free m accepted number way) requests)) marked

-- ---- what holds of each unit

end_grows : (end : EndId) (w : Delivery) (piece : List ℕ) (s after : State) (b : Book) (number : ℕ) (mark : Mark) → IsReplyOfOpening b.accepted number mark →
    IsReplyOfOpening (note_at (Some end) w piece s after b).accepted number mark
end_grows end w piece s after b number mark is =
    book_by (λ (one : EndId) (now : Book). IsReplyOfOpening now.accepted number mark) w piece s after b (λ one. is)
    (λ at c there.
    let new : List ChannelAccepted = accepted_of (answers_of at c w piece s) (numbers_on w.link true s.bag after.bag) in
    of_others mark b.accepted (onto new b.accepted) number (λ P it. one_older P new b.accepted it) is)
    (λ at m there. subst (λ (accepted : List ChannelAccepted). IsReplyOfOpening accepted number mark) (sym (accepted_so.members m at w piece s after b)) is) (λ at c there. is) end

openings_hold : EveryMarks acceptings_of OfUnit NoSide
openings_hold = record {
  settles = λ accepted number unit mark is. is;
  grows = λ n end w piece s after given b number unit mark side is. end_grows end w piece s after b number mark is;
  given = λ at given after b number unit mark is. is;
  controllers = λ n c at w piece s given b there side even units more on_links place unit mark got marked.
      let after : State = stepped (Controller at) (controller_step (Some c) at (event.Bytes w.link piece) s.moment s.ends s.chances) s in
      heard_marked (is_on w.link c.trusting.dialling) c at w piece s after b units place mark more marked;
  members = λ n m at w piece s given b there side even units more place unit mark got marked.
      let after : State = stepped (Member at) (member_step (Some m) at (event.Bytes w.link piece) s.moment s.ends s.chances) s in
      requests_free mark (note_member (Some m) at w piece s after b).accepted (length s.bag + place)
      (got_all IsRequest (marks_of w.link false units (member_marks at m w piece s)) place mark
      (marks_all IsRequest tt w.link false units (member_marks at m w piece s) (turns_way (OfMember at) s (turn_units m w.link piece s.moment s.chances.left))) marked);
  others = λ n at on s given b number unit side. beside_free b.accepted number b.forwards s unit;
}

-- ---- a run

pub replies_answer_openings : (plan : Plan) (moves : List Move) → IsPlainPlan plan → RepliesAnswerOpenings (past plan moves)
replies_answer_openings plan moves nothing = record {
  replies = λ number sent marked.
      let of : IsOfUnit OfUnit (past plan moves).book.accepted (past plan moves).world.state.bag number sent.mark =
      every_marked acceptings_of OfUnit openings_hold plan moves nothing number sent marked in
      of.holds;
  unclashed = openings_unclashed plan moves;
}
