-- In every run of a plan that hands nothing on each unit that is marked as the reply to an opening is that of one that
-- was accepted. It serves `Proved.opened` and `Proved.never_apart`.
use Rattle.std.proofs.Common.{◌≡◌, ℕ, zero, suc, ◌+◌, Bool, true, false, List, [], ◌∷◌, ◌++◌, length, map, Option, Some, None, inl, refl, sym, subst, slice_get}
use Rattle.std.specs.List.{AllByRecursion}
use Rattle.authenticators.specs.Channels.{ChannelIdentity}
use Rattle.controller_calls.specs.declared.calls.ControllerCall.TheVariants as call
use Rattle.outside.specs.declared.event.Event.TheVariants as event
use Rattle.end_links.specs.Serving.{ServedUnit}
use Rattle.domain_controller.specs.Hearing.{hear}
use Rattle.domain_controller.specs.Machine.{Desk}
use Rattle.domain_controller.specs.declared.hearing.Heard.{Heard}
use Rattle.domain_controller.specs.declared.hearing.Heard.TheVariants as heard
use Rattle.domain_controller.specs.declared.state.Talk.{Talk}
use Rattle.domain_controller.proofs.TrustPlaceLaws.{got_all}
use Rattle.wire_base.specs.Lists.{OneOf}
use Rattle.channel_events.specs.Marks.{Mark, Plain, Opening, Opened, Calling, ReplyTo}
use Rattle.step_notes.specs.ControllerNotes.{Answered, Where, accepting, answer_on, channel_in, has_passed, heard_answer, judging_by, judging_of, opened_by, opened_mark, opening, passing, reply_mark, units_of_controller}
use Rattle.step_notes.specs.Marking.{answered_marks, mark_if}
use Rattle.step_notes.specs.MemberNotes.{turn_units}
use Rattle.step_notes.specs.Records.{Book, ChannelAccepted, InUnit, Judging, Outside, Source, computer_named, unit_in, OfMember}
use Rattle.step_notes.specs.Served.{work_after}
use Rattle.world_moves.specs.declared.bag.BagUnit.{BagUnit}
use Rattle.world_moves.specs.declared.links.EndId.{EndId}
use Rattle.world_moves.specs.declared.links.EndId.TheVariants.{Member}
use Rattle.world_moves.specs.declared.state.State.{State}
use Rattle.world_moves.specs.Acting.{done, heard_by}
use Rattle.world_moves.specs.Plain.{plain_member_step as member_step}
use Rattle.domain_world.specs.Claims.OpeningReplies.{IsAcceptedIn, IsReplyOfOpening}
use Rattle.domain_world.specs.Past.{Delivery, accepted_of, at_controller, first_of, is_sent_on, later_of, marks_by, marks_of, note_member, numbers_on, onto, replied_with}
use Rattle.wire_base.proofs.ListLaws.{got_nothing, one_behind, some_is}
use Rattle.domain_world.proofs.Frames.AloneNoteLaws.{alone_answers as answers_of, note_alone as note_at}
use Rattle.domain_world.proofs.Frames.BagFrameLaws.{MarksStay, UnitFact, member_marks}
use Rattle.domain_world.proofs.Frames.EndNoteLaws.{accepted_so, acceptings_of, book_by}
use Rattle.domain_world.proofs.Frames.FrameLaws.{Fact, StaysWritten}
use Rattle.domain_world.proofs.Judgements.ReplyLaws.{one_newer, one_older}
use Rattle.domain_world.proofs.Calls.MarkWayLaws.{IsRequest, turns_way}

-- a reply to one of these is a reply to one of those
pub of_others : (mark : Mark) (accepted others : List ChannelAccepted) (number : ℕ) → ((P : ChannelAccepted → Type 0) → OneOf P accepted → OneOf P others) →
    IsReplyOfOpening accepted number mark → IsReplyOfOpening others number mark
of_others Plain accepted others number so is = tt
of_others (Opening channel call) accepted others number so is = tt
of_others (Opened channel call request) accepted others number so is = so (IsAcceptedIn channel call request number) is
of_others (Calling channel call timestamp) accepted others number so is = tt
of_others (ReplyTo channel call request) accepted others number so is = tt

-- ---- the mark of an answer

-- the reply to an opening is that of the channel that was accepted
abbrev pub IfOpened : Mark → Option ChannelAccepted → Type 0
IfOpened Plain accepted = Unit {0}
IfOpened (Opening channel number) accepted = Unit {0}
IfOpened (Opened channel number request) None = ⊥
IfOpened (Opened channel number request) (Some one) = (one.channel ≡ channel) × (one.number ≡ number) × (one.source ≡ InUnit request)
IfOpened (Calling channel number timestamp) accepted = Unit {0}
IfOpened (ReplyTo channel number request) accepted = Unit {0}

opened_so : (source : Source) (one : ChannelAccepted) → one.source ≡ source → IfOpened (opened_mark (unit_in source) one.channel one.number) (Some one)
opened_so (InUnit unit) one is = (refl, refl, is)
opened_so Outside one is = tt

pub opening_so : (channel : Option ChannelIdentity) (w : Where) (number kind : ℕ) → IfOpened (opening channel w number kind).mark (opening channel w number kind).accepted
opening_so None w number kind = tt
opening_so (Some channel) w number kind = opened_so w.source (accepting w number kind channel) refl

pub reply_so : (unit : Option ℕ) (channel : ChannelIdentity) (number : ℕ) → IfOpened (reply_mark unit channel number) None
reply_so None channel number = tt
reply_so (Some unit) channel number = tt

passing_so : (channel : Option ChannelIdentity) (j : Judging) → IfOpened (passing channel j).mark (passing channel j).accepted
passing_so None j = tt
passing_so (Some channel) j = reply_so (unit_in j.source) channel j.number

pub judging_so : (passed : Bool) (j : Judging) → IfOpened (judging_by passed j).mark (judging_by passed j).accepted
judging_so false j = tt
judging_so true j = passing_so (channel_in j.controller (computer_named j.asked) j.checks) j

heard_so : (what : Heard) (w : Where) (d : Desk) (after : Option Desk) → IfOpened (heard_answer what w d after).mark (heard_answer what w d after).accepted
heard_so (heard.Close cause) w d after = tt
heard_so (heard.Answer bytes talk) w d after = tt
heard_so (heard.Waits talk) w d after = tt
heard_so (heard.Asked line (call.Challenge c) talk) w d after = tt
heard_so (heard.Asked line (call.Authenticate c) talk) w d after = opening_so (opened_by w.controller c d) w line.call c.channel
heard_so (heard.Asked line (call.Judged c) talk) w d after =
    judging_so (has_passed (judging_of w line c d after).how) (judging_of w line c d after)

answers_so : (w : Where) (link : ℕ) (units : List (ServedUnit Desk Talk)) → AllByRecursion (λ (one : Answered). IfOpened one.mark one.accepted) (map (answer_on link w) units)
answers_so w link [] = tt
answers_so w link (unit ∷ units) = (heard_so (hear link unit.bytes unit.talk) w unit.work (work_after unit.part), answers_so w link units)

-- ---- in the order in which answers go out

of_first : (mark : Mark) (accepted : Option ChannelAccepted) (number : ℕ) (more : List ChannelAccepted) → IfOpened mark accepted →
    IsReplyOfOpening (replied_with accepted (Some number) ++ more) number mark
of_first Plain accepted number more is = tt
of_first (Opening channel call) accepted number more is = tt
of_first (Opened channel call request) None number more is = absurd is
of_first (Opened channel call request) (Some one) number more is = inl (record { opened = is.0; call = is.1; came = is.2; answer = refl })
of_first (Calling channel call timestamp) accepted number more is = tt
of_first (ReplyTo channel call request) accepted number more is = tt

module _ (number : ℕ) (mark : Mark) where
  -- at one place stand the mark and the number of its unit
  abbrev pub IsPlaced : List Answered → Type 0
  IsPlaced answers =
      (numbers : List ℕ) (place : ℕ) → slice_get (answered_marks answers) place ≡ Some mark → slice_get numbers place ≡ Some number →
      IsReplyOfOpening (accepted_of answers numbers) number mark

  first_placed : (sends : Bool) (one : Answered) (answers : List Answered) → IfOpened one.mark one.accepted → IsPlaced answers → (numbers : List ℕ) (place : ℕ) →
      slice_get (mark_if sends one.mark ++ answered_marks answers) place ≡ Some mark → slice_get numbers place ≡ Some number →
      IsReplyOfOpening (replied_with one.accepted (first_of numbers) ++ accepted_of answers (later_of sends numbers)) number mark
  first_placed false one answers so later numbers place marked numbered =
      of_others mark (accepted_of answers numbers) (replied_with one.accepted (first_of numbers) ++ accepted_of answers numbers) number
      (λ P it. one_behind P (replied_with one.accepted (first_of numbers)) (accepted_of answers numbers) it)
      (later numbers place marked numbered)
  first_placed true one answers so later [] place marked numbered = absurd (got_nothing place number numbered)
  first_placed true one answers so later (n ∷ numbers) zero marked numbered =
      let all : List ChannelAccepted = replied_with one.accepted (Some n) ++ accepted_of answers numbers in
      subst (λ (m : Mark). IsReplyOfOpening all number m) (some_is one.mark mark marked)
      (subst (λ (k : ℕ). IsReplyOfOpening all k one.mark) (some_is n number numbered) (of_first one.mark one.accepted n (accepted_of answers numbers) so))
  first_placed true one answers so later (n ∷ numbers) (suc place) marked numbered =
      of_others mark (accepted_of answers numbers) (replied_with one.accepted (Some n) ++ accepted_of answers numbers) number
      (λ P it. one_behind P (replied_with one.accepted (Some n)) (accepted_of answers numbers) it)
      (later numbers place marked numbered)

  pub all_placed : (answers : List Answered) → AllByRecursion (λ (one : Answered). IfOpened one.mark one.accepted) answers → IsPlaced answers
  all_placed [] so numbers place marked numbered = absurd (got_nothing place mark marked)
  all_placed (one ∷ answers) so numbers place marked numbered =
      first_placed one.sends one answers so.0 (all_placed answers so.1) numbers place marked numbered

-- ---- no member marks a unit so

module _ (P : Mark → Type 0) (plain : P Plain) where
  by_all : (test : Bool) (marks : List Mark) (later : List Mark → List Mark) → ((rest : List Mark) → AllByRecursion P rest → AllByRecursion P (later rest)) → AllByRecursion P marks →
      AllByRecursion P (marks_by test marks later)
  by_all false marks later go each = (plain, go marks each)
  by_all true [] later go each = (plain, go [] tt)
  by_all true (mark ∷ marks) later go each = (each.0, go marks each.1)

  pub marks_all : (link : ℕ) (back : Bool) (units : List BagUnit) (marks : List Mark) → AllByRecursion P marks → AllByRecursion P (marks_of link back units marks)
  marks_all link back [] marks each = tt
  marks_all link back (unit ∷ units) marks each =
      by_all (is_sent_on link back unit) marks (λ (rest : List Mark). marks_of link back units rest) (λ rest all. marks_all link back units rest all) each

pub requests_free : (mark : Mark) (accepted : List ChannelAccepted) (number : ℕ) → IsRequest mark → IsReplyOfOpening accepted number mark
requests_free Plain accepted number way = tt
requests_free (Opening channel call) accepted number way = tt
requests_free (Opened channel call request) accepted number way = absurd (let never : false ≡ true = way in cc)
requests_free (Calling channel call timestamp) accepted number way = tt
requests_free (ReplyTo channel call request) accepted number way = tt

-- ---- what holds of each unit

abbrev pub OfUnit : UnitFact (List ChannelAccepted)
OfUnit accepted number unit mark = IsReplyOfOpening accepted number mark

-- the marks of openings rest on nothing else
abbrev pub NothingElse : List ChannelAccepted → Fact
NothingElse accepted ends chances links = Unit {0}

pub nothing_else : StaysWritten acceptings_of NothingElse
nothing_else = record {
  stays = λ x. record {
    hears = λ end what now ends chances links quiet holds. tt;
    opens = λ route now ends chances links holds. tt;
    controllers = λ c at ends chances links there holds. tt;
    members = λ plan at ends chances links holds. tt;
    changes = λ secret running at ends chances links is none holds. tt;
    clients = λ client at ends chances links holds. tt;
  };
  bytes = λ end w piece s after b holds. tt;
  given = λ at given after b. refl;
}

end_grows : (end : EndId) (w : Delivery) (piece : List ℕ) (s after : State) (b : Book) (number : ℕ) (mark : Mark) → IsReplyOfOpening b.accepted number mark →
    IsReplyOfOpening (note_at (Some end) w piece s after b).accepted number mark
end_grows end w piece s after b number mark is =
    book_by (λ (one : EndId) (now : Book). IsReplyOfOpening now.accepted number mark) w piece s after b (λ one. is)
    (λ at c there.
    let new : List ChannelAccepted = accepted_of (answers_of at c w piece s) (numbers_on w.link true s.bag after.bag) in
    of_others mark b.accepted (onto new b.accepted) number (λ P it. one_older P new b.accepted it) is)
    (λ at m there. subst (λ (accepted : List ChannelAccepted). IsReplyOfOpening accepted number mark) (sym (accepted_so.members m at w piece s after b)) is) (λ at c there. is) end

pub opened_stay : MarksStay acceptings_of NothingElse OfUnit
opened_stay = record {
  plain = λ accepted number unit. tt;
  settles = λ accepted number unit mark is. is;
  grows = λ end w piece s after b number unit one holds there sent is. end_grows end w piece s after b number one.mark is;
  controllers = λ c at w piece s after b number unit mark there holds even new.
      let numbers : List ℕ = numbers_on w.link true s.bag after.bag in
      let accepted : List ChannelAccepted = accepted_of (answers_of at c w piece s) numbers in
      of_others mark accepted (onto accepted b.accepted) number (λ P it. one_newer P accepted b.accepted it)
      (all_placed number mark (answers_of at c w piece s) (answers_so (at_controller at c w s) w.link (units_of_controller c w.link piece s.moment s.chances.left)) numbers new.place new.marked new.numbered);
  members = λ m at w piece s b there holds side even units is on place unit mark got marked.
      let after : State = (done (Member at) (heard_by (member_step (Some m) at (event.Bytes w.link piece) s.moment s.ends s.chances) s)).state in
      requests_free mark (note_member (Some m) at w piece s after b).accepted (length s.bag + place)
      (got_all IsRequest (marks_of w.link false units (member_marks at m w piece s)) place mark
      (marks_all IsRequest tt w.link false units (member_marks at m w piece s) (turns_way (OfMember at) s (turn_units m w.link piece s.moment s.chances.left))) marked);
}
