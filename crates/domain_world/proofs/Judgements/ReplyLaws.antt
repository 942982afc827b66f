-- In every run each unit of the bag that is marked as a reply carries what its controller judged.
-- It serves `Proved.replies`, and `Proved.opened`.
use Rattle.std.proofs.Common.{◌≡◌, ℕ, zero, suc, ◌+◌, Bool, true, false, List, [], ◌∷◌, ◌++◌, length, inl, inr, Option, Some, None, Result, Ok, Err, refl, sym, ◌∙◌, subst, slice_get}
use Rattle.std.specs.List.{AllByRecursion}
use Rattle.authenticators.specs.Channels.{ChannelIdentity}
use Rattle.outside.specs.declared.action.Action.{Action}
use Rattle.outside.specs.declared.action.StepRefused.{StepRefused}
use Rattle.outside.specs.declared.event.Event.TheVariants as event
use Rattle.end_links.specs.Serving.{ServedUnit}
use Rattle.channel_client.specs.declared.state.SetStep.TheVariants as set_step
use Rattle.channel_client.specs.Effects.{step_in}
use Rattle.channel_client.specs.Machine.{Taking}
use Rattle.channel_client.specs.State.{Requester}
use Rattle.channel_client.specs.declared.answers.Taken.{Taken}
use Rattle.channel_client.specs.declared.answers.Taken.TheVariants as taken
use Rattle.channel_client.specs.declared.state.Question.TheVariants as question
use Rattle.channel_client.specs.declared.state.Standing.{Standing}
use Rattle.channel_client.specs.declared.state.Standing.TheVariants as standing
use Rattle.channel_client.specs.declared.state.Step.{Step}
use Rattle.channel_client.specs.declared.state.Step.TheVariants as step
use Rattle.domain_controller.specs.State.{State as ControllerState}
use Rattle.domain_controller.specs.Step.{step_of}
use Rattle.domain_controller.proofs.TrustPlaceLaws.{got_all}
use Rattle.member_server.specs.State.{State as MemberState}
use Rattle.member_server.specs.Turns.{AtTurn}
use Rattle.channel_turns.specs.declared.state.TurnTalk.{TurnTalk}
use Rattle.wire_base.specs.Lists.{OneOf}
use Rattle.channel_events.specs.Marks.{Mark, Plain, Opening, Opened, Calling, ReplyTo}
use Rattle.step_notes.specs.ChannelNames.{sends_in}
use Rattle.step_notes.specs.ControllerNotes.{Answered, has_passed}
use Rattle.step_notes.specs.Judged.{channel_if}
use Rattle.step_notes.specs.Marking.{answered_marks, mark_if}
use Rattle.step_notes.specs.MemberNotes.{asked_note, taken_note, taking_at, taking_note, turn_note, turn_units, TurnNote}
use Rattle.step_notes.specs.Records.{Book, Judging, OfMember, RequesterId}
use Rattle.step_notes.specs.ReplySends.{AreSentFor, CarriesReply, IsReplyOfCall, IsSentIf}
use Rattle.world_moves.specs.declared.bag.BagUnit.{BagUnit}
use Rattle.world_moves.specs.declared.links.EndId.{EndId}
use Rattle.world_moves.specs.declared.links.EndId.TheVariants.{Member}
use Rattle.world_moves.specs.declared.moves.Move.{Move}
use Rattle.world_moves.specs.declared.plan.Plan.{Plan}
use Rattle.world_moves.specs.declared.state.State.{State}
use Rattle.world_moves.specs.Acting.{done, heard_by}
use Rattle.world_moves.specs.Ends.{actions_by}
use Rattle.world_moves.specs.Alone.{IsPlainAlone}
use Rattle.world_moves.specs.Plain.{plain_member_step as member_step}
use Rattle.domain_world.specs.Claims.Replies.{IsReplyOfOne, RepliesCarryTheirJudgement}
use Rattle.domain_world.specs.Past.{Delivery, controller_asked, is_sent_on, judged_of, later_of, marks_by, marks_of, note_member, number_sent, numbers_on, onto, past, with_reply}
use Rattle.wire_base.proofs.ListLaws.{got_nothing, one_behind, some_is}
use Rattle.step_notes.proofs.Controllers.ReplyStepLaws.{replies_sent}
use Rattle.domain_world.proofs.Frames.AloneNoteLaws.{alone_answers as answers_of, note_alone as note_at, note_controller_alone as note_controller}
use Rattle.domain_world.proofs.Frames.BagFrameLaws.{IsOfUnit, MarksStay, UnitFact, controller_marks, member_marks, run_stays_marked}
use Rattle.domain_world.proofs.Frames.FrameLaws.{Fact, StaysWritten}
use Rattle.domain_world.proofs.Moves.NewUnitLaws.{IsNewUnit}
use Rattle.domain_world.proofs.Frames.EndNoteLaws.{book_by, judged_so}
use Rattle.domain_world.proofs.Moves.PlainFormLaws.{plain_is}
use Rattle.domain_world.proofs.Frames.TurnFrameLaws.{asked_marks}

-- ---- one of more calls

pub one_older : {T : Type 0} (P : T → Type 0) (items older : List T) → OneOf P older → OneOf P (onto items older)
one_older P [] older one = one
one_older P (item ∷ items) older one = one_older P items (item ∷ older) (inr one)

pub one_newer : {T : Type 0} (P : T → Type 0) (items older : List T) → OneOf P items → OneOf P (onto items older)
one_newer P [] older one = absurd one
one_newer P (item ∷ items) older one = elim one [
  | inl here ↦ one_older P items (item ∷ older) (inl here)
  | inr there ↦ one_newer P items (item ∷ older) there
]

-- a reply of one of these calls is a reply of one of those
of_others : (mark : Mark) (judgings others : List Judging) (number : ℕ) (bytes : List ℕ) → ((P : Judging → Type 0) → OneOf P judgings → OneOf P others) →
    IsReplyOfOne judgings number bytes mark → IsReplyOfOne others number bytes mark
of_others Plain judgings others number bytes so is = tt
of_others (Opening channel call) judgings others number bytes so is = tt
of_others (Opened channel call request) judgings others number bytes so is = tt
of_others (Calling channel call timestamp) judgings others number bytes so is = tt
of_others (ReplyTo channel call request) judgings others number bytes so is = so (λ (j : Judging). (j.reply ≡ Some number) × IsReplyOfCall channel call request j bytes) is

-- ---- the calls of one step

same_channel : (passed : Bool) (j : Judging) (reply : Option ℕ) → channel_if passed (record j { reply = reply }) ≡ channel_if passed j
same_channel false j reply = refl
same_channel true j reply = refl

-- a call is written down with its reply
pub with_number : (channel : ChannelIdentity) (call request : ℕ) (j : Judging) (bytes : List ℕ) (reply : Option ℕ) → IsReplyOfCall channel call request j bytes →
    IsReplyOfCall channel call request (record j { reply = reply }) bytes
with_number channel call request j bytes reply is = record {
  came = is.came;
  passed = same_channel (has_passed j.how) j reply ∙ is.passed;
  call = is.call;
  carries = record {
    next = is.carries.next;
    how = is.carries.how;
    context = is.carries.context;
    limit = is.carries.limit;
    frames = is.carries.frames;
  };
}

of_first : (mark : Mark) (judging : Option Judging) (number : ℕ) (bytes : List ℕ) (more : List Judging) → CarriesReply mark judging bytes →
    IsReplyOfOne (with_reply judging (Some number) ++ more) number bytes mark
of_first Plain judging number bytes more is = tt
of_first (Opening channel call) judging number bytes more is = tt
of_first (Opened channel call request) judging number bytes more is = tt
of_first (Calling channel call timestamp) judging number bytes more is = tt
of_first (ReplyTo channel call request) None number bytes more is = absurd is
of_first (ReplyTo channel call request) (Some j) number bytes more is = inl (refl, with_number channel call request j bytes (Some number) is)

module _ (number : ℕ) (bytes : List ℕ) (mark : Mark) where
  -- at one place stand the mark, what was sent for it, and the number of that unit
  abbrev IsPlaced : List Answered → Type 0
  IsPlaced answers =
      (sent : List (List ℕ)) (numbers : List ℕ) (place : ℕ) → AreSentFor answers sent → slice_get (answered_marks answers) place ≡ Some mark →
      slice_get sent place ≡ Some bytes → slice_get numbers place ≡ Some number → IsReplyOfOne (judged_of answers numbers) number bytes mark

  first_placed : (sends : Bool) (one : Answered) (answers : List Answered) → IsPlaced answers → (sent : List (List ℕ)) (numbers : List ℕ) (place : ℕ) →
      IsSentIf sends one sent (λ (rest : List (List ℕ)). AreSentFor answers rest) → slice_get (mark_if sends one.mark ++ answered_marks answers) place ≡ Some mark →
      slice_get sent place ≡ Some bytes → slice_get numbers place ≡ Some number →
      IsReplyOfOne (with_reply one.judging (number_sent sends numbers) ++ judged_of answers (later_of sends numbers)) number bytes mark
  first_placed false one answers later sent numbers place is marked sends numbered =
      of_others mark (judged_of answers numbers) (with_reply one.judging None ++ judged_of answers numbers) number bytes
      (λ P it. one_behind P (with_reply one.judging None) (judged_of answers numbers) it)
      (later sent numbers place is marked sends numbered)
  first_placed true one answers later [] numbers place is marked sends numbered = absurd is
  first_placed true one answers later (first ∷ sent) [] place is marked sends numbered = absurd (got_nothing place number numbered)
  first_placed true one answers later (first ∷ sent) (n ∷ numbers) zero is marked sends numbered =
      let all : List Judging = with_reply one.judging (Some n) ++ judged_of answers numbers in
      subst (λ (m : Mark). IsReplyOfOne all number bytes m) (some_is one.mark mark marked)
      (subst (λ (b : List ℕ). IsReplyOfOne all number b one.mark) (some_is first bytes sends)
      (subst (λ (k : ℕ). IsReplyOfOne all k first one.mark) (some_is n number numbered)
      (of_first one.mark one.judging n first (judged_of answers numbers) is.0)))
  first_placed true one answers later (first ∷ sent) (n ∷ numbers) (suc place) is marked sends numbered =
      of_others mark (judged_of answers numbers) (with_reply one.judging (Some n) ++ judged_of answers numbers) number bytes
      (λ P it. one_behind P (with_reply one.judging (Some n)) (judged_of answers numbers) it)
      (later sent numbers place is.1 marked sends numbered)

  all_placed : (answers : List Answered) → IsPlaced answers
  all_placed [] sent numbers place is marked sends numbered = absurd (got_nothing place mark marked)
  all_placed (one ∷ answers) sent numbers place is marked sends numbered =
      first_placed one.sends one answers (all_placed answers) sent numbers place is marked sends numbered

-- ---- no member marks a unit as a reply

module _ (judgings : List Judging) (number : ℕ) (bytes : List ℕ) where
  abbrev IsFree : Mark → Type 0
  IsFree mark = IsReplyOfOne judgings number bytes mark

  asked_free : (st : Option Step) (how : Standing) (controller : ℕ) (before after : Requester) → IsFree (asked_note st how controller before after).mark
  asked_free None how controller before after = tt
  asked_free (Some (step.Bind c)) how controller before after = tt
  asked_free (Some (step.Reply (question.Challenge client))) how controller before after = tt
  asked_free (Some (step.Reply question.Authenticate)) standing.Nothing controller before after = tt
  asked_free (Some (step.Reply question.Authenticate)) (standing.Half client server) controller before after = tt
  asked_free (Some (step.Reply question.Authenticate)) (standing.Open o) controller before after = tt
  asked_free (Some (step.Reply question.Logon)) standing.Nothing controller before after = tt
  asked_free (Some (step.Reply question.Logon)) (standing.Half client server) controller before after = tt
  asked_free (Some (step.Reply question.Logon)) (standing.Open o) controller before after = tt
  asked_free (Some (step.Set (set_step.Bind c))) how controller before after = tt
  asked_free (Some (step.Set set_step.Reply)) standing.Nothing controller before after = tt
  asked_free (Some (step.Set set_step.Reply)) (standing.Half client server) controller before after = tt
  asked_free (Some (step.Set set_step.Reply)) (standing.Open o) controller before after = tt

  taken_free : (what : Taken) (controller : ℕ) (before after : Requester) → IsFree (taken_note what controller before after).mark
  taken_free (taken.Skip right) controller before after = tt
  taken_free (taken.Next right frames) controller before after = asked_free (step_in after.turn) after.standing controller before after
  taken_free taken.Half controller before after = tt
  taken_free taken.Opened controller before after = tt
  taken_free (taken.Answer place verdict) controller before after = tt
  taken_free (taken.Dropped place cause) controller before after = tt
  taken_free taken.Set controller before after = tt

  taking_free : (taking : Option Taking) (controller : ℕ) (before : Requester) → IsFree (taking_note taking controller before).mark
  taking_free None controller before = tt
  taking_free (Some taking) controller before = taken_free taking.taken controller before taking.state

  mark_free : (sends : Bool) (mark : Mark) (more : List Mark) → IsFree mark → AllByRecursion IsFree more → AllByRecursion IsFree (mark_if sends mark ++ more)
  mark_free false mark more is each = each
  mark_free true mark more is each = (is, each)

  by_free : (test : Bool) (marks : List Mark) (later : List Mark → List Mark) → ((rest : List Mark) → AllByRecursion IsFree rest → AllByRecursion IsFree (later rest)) → AllByRecursion IsFree marks →
      AllByRecursion IsFree (marks_by test marks later)
  by_free false marks later go each = (tt, go marks each)
  by_free true [] later go each = (tt, go [] tt)
  by_free true (mark ∷ marks) later go each = (each.0, go marks each.1)

  marks_free : (link : ℕ) (back : Bool) (units : List BagUnit) (marks : List Mark) → AllByRecursion IsFree marks → AllByRecursion IsFree (marks_of link back units marks)
  marks_free link back [] marks each = tt
  marks_free link back (unit ∷ units) marks each =
      by_free (is_sent_on link back unit) marks (λ (rest : List Mark). marks_of link back units rest) (λ rest all. marks_free link back units rest all) each

  turns_free : (who : RequesterId) (s : State) (units : List (ServedUnit AtTurn TurnTalk)) → AllByRecursion IsFree (asked_marks who s units)
  turns_free who s [] = tt
  turns_free who s (unit ∷ units) =
      let note : TurnNote = turn_note (controller_asked who s) unit in
      mark_free note.sends note.mark (asked_marks who s units)
      (taking_free (taking_at unit) (controller_asked who s) unit.work.work.logons.channel) (turns_free who s units)

-- ---- what holds of each unit

abbrev OfUnit : UnitFact (List Judging)
OfUnit judgings number unit mark = IsReplyOfOne judgings number unit.bytes mark

-- the marks of replies rest on nothing else
abbrev NothingElse : List Judging → Fact
NothingElse judgings ends chances links = Unit {0}

nothing_else : StaysWritten (λ (b : Book). b.judged) NothingElse
nothing_else = record {
  stays = λ x. record {
    hears = λ end what now ends chances links quiet holds. tt;
    opens = λ route now ends chances links holds. tt;
    controllers = λ c at ends chances links there holds. tt;
    members = λ plan at ends chances links holds. tt;
    changes = λ secret running at ends chances links is none holds. tt;
    clients = λ client at ends chances links holds. tt;
  };
  bytes = λ end w piece s after b holds. tt;
  given = λ at given after b. refl;
}

plain_unit : (judgings : List Judging) (number : ℕ) (unit : BagUnit) → OfUnit judgings number unit Plain
plain_unit judgings number unit = tt

controller_grows : (c : ControllerState) (at : ℕ) (w : Delivery) (piece : List ℕ) (s after : State) (b : Book) (number : ℕ) (unit : BagUnit) (mark : Mark) → OfUnit b.judged number unit mark →
    OfUnit (note_controller (Some c) at w piece s after b).judged number unit mark
controller_grows c at w piece s after b number unit mark is =
    let new : List Judging = judged_of (answers_of at c w piece s) (numbers_on w.link true s.bag after.bag) in
    of_others mark b.judged (onto new b.judged) number unit.bytes (λ P it. one_older P new b.judged it) is

end_grows : (end : EndId) (w : Delivery) (piece : List ℕ) (s after : State) (b : Book) (number : ℕ) (unit : BagUnit) (mark : Mark) → OfUnit b.judged number unit mark →
    OfUnit (note_at (Some end) w piece s after b).judged number unit mark
end_grows end w piece s after b number unit mark is =
    book_by (λ (one : EndId) (now : Book). OfUnit now.judged number unit mark) w piece s after b (λ one. is) (λ at c there. controller_grows c at w piece s after b number unit mark is)
    (λ at m there. subst (λ (judgings : List Judging). OfUnit judgings number unit mark) (sym (judged_so.members m at w piece s after b)) is) (λ at c there. is) end

-- what the controller sends at that place
new_reply : (answer : Result (List Action) StepRefused) (c : ControllerState) (at : ℕ) (w : Delivery) (piece : List ℕ) (s : State) (numbers : List ℕ) (place number : ℕ) (bytes : List ℕ) (mark : Mark) →
    (step_of c (event.Bytes w.link piece) s.moment s.chances.left).answer ≡ answer → slice_get (controller_marks at c w piece s) place ≡ Some mark →
    slice_get (sends_in (actions_by answer)) place ≡ Some bytes → slice_get numbers place ≡ Some number →
    IsReplyOfOne (judged_of (answers_of at c w piece s) numbers) number bytes mark
new_reply (Err why) c at w piece s numbers place number bytes mark is marked sends numbered = absurd (got_nothing place bytes sends)
new_reply (Ok actions) c at w piece s numbers place number bytes mark is marked sends numbered =
    all_placed number bytes mark (answers_of at c w piece s) (sends_in actions) numbers place
    (replies_sent c w.at at w.source w.link piece s.moment s.chances.left actions is) marked sends numbered

controller_new : (c : ControllerState) (at : ℕ) (w : Delivery) (piece : List ℕ) (s after : State) (b : Book) (number : ℕ) (unit : BagUnit) (mark : Mark) →
    IsNewUnit w.link true (actions_by (step_of c (event.Bytes w.link piece) s.moment s.chances.left).answer) (controller_marks at c w piece s)
    (numbers_on w.link true s.bag after.bag) number unit mark →
    OfUnit (note_controller (Some c) at w piece s after b).judged number unit mark
controller_new c at w piece s after b number unit mark new =
    let numbers : List ℕ = numbers_on w.link true s.bag after.bag in
    let judgings : List Judging = judged_of (answers_of at c w piece s) numbers in
    of_others mark judgings (onto judgings b.judged) number unit.bytes (λ P it. one_newer P judgings b.judged it)
    (new_reply (step_of c (event.Bytes w.link piece) s.moment s.chances.left).answer c at w piece s numbers new.place number unit.bytes mark refl new.marked new.sends new.numbered)

member_new : (m : MemberState) (at : ℕ) (w : Delivery) (piece : List ℕ) (s : State) (judgings : List Judging) (number place : ℕ) (bytes : List ℕ) (units : List BagUnit) (mark : Mark) →
    slice_get (marks_of w.link false units (member_marks at m w piece s)) place ≡ Some mark → IsReplyOfOne judgings number bytes mark
member_new m at w piece s judgings number place bytes units mark marked =
    got_all (IsFree judgings number bytes) (marks_of w.link false units (member_marks at m w piece s)) place mark
    (marks_free judgings number bytes w.link false units (member_marks at m w piece s)
    (turns_free judgings number bytes (OfMember at) s (turn_units m w.link piece s.moment s.chances.left))) marked

replies_stay : MarksStay (λ (b : Book). b.judged) NothingElse OfUnit
replies_stay = record {
  plain = plain_unit;
  settles = λ judgings number unit mark is. is;
  grows = λ end w piece s after b number unit one holds there sent is. end_grows end w piece s after b number unit one.mark is;
  controllers = λ c at w piece s after b number unit mark there holds even new. controller_new c at w piece s after b number unit mark new;
  members = λ m at w piece s b there holds side even units is on place unit mark got marked.
      let after : State = (done (Member at) (heard_by (member_step (Some m) at (event.Bytes w.link piece) s.moment s.ends s.chances) s)).state in
      member_new m at w piece s (note_member (Some m) at w piece s after b).judged (length s.bag + place) place unit.bytes units mark marked;
}

-- ---- a run

-- in every run each reply carries what was judged
pub replies_carry : (plan : Plan) (moves : List Move) → IsPlainAlone plan → RepliesCarryTheirJudgement (past plan moves)
replies_carry plan moves nobody number unit sent there marked =
    let judgings : List Judging = (past plan moves).book.judged in
    let of : IsOfUnit OfUnit judgings (past plan moves).world.state.bag number sent.mark =
    run_stays_marked (λ (b : Book). b.judged) NothingElse OfUnit nothing_else replies_stay plan moves nobody tt number sent marked in
    subst (λ (bytes : List ℕ). IsReplyOfOne judgings number bytes sent.mark) (sym (plain_is (past plan moves).book.sent number unit))
    (subst (λ (one : BagUnit). IsReplyOfOne judgings number one.bytes sent.mark) (some_is of.unit unit (sym of.there ∙ there)) of.holds)
