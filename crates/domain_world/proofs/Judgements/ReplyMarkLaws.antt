-- The reply to a call that came in a unit of the bag, passed on a channel and wasn't handed on is marked as that. It
-- serves `Proved.reply_marks`.
use Rattle.std.proofs.Common.{◌≡◌, ◌≢◌, ◌⊎◌, ℕ, ◌≤◌, Bool, true, false, List, [], ◌∷◌, ◌++◌, length, map, Option, Some, None, inl, inr, refl, sym, ap, subst, ◌∙◌, arith}
use Rattle.std.specs.List.{AllByRecursion}
use Rattle.authenticators.specs.Channels.{ChannelIdentity}
use Rattle.outside.specs.declared.action.Judged.{Judged}
use Rattle.outside.specs.declared.action.Judged.TheVariants as judged
use Rattle.end_links.specs.Serving.{ServedUnit}
use Rattle.controller_calls.specs.declared.calls.ControllerCall.TheVariants as call
use Rattle.domain_controller.specs.Forwarding.{TrustDesk, base_desk}
use Rattle.domain_controller.specs.Hearing.{hear}
use Rattle.domain_controller.specs.Machine.{Desk}
use Rattle.domain_controller.specs.declared.hearing.Heard.{Heard}
use Rattle.domain_controller.specs.declared.hearing.Heard.TheVariants as heard
use Rattle.domain_controller.specs.declared.state.Talk.{Talk}
use Rattle.channel_events.specs.Marks.{Mark, ReplyTo}
use Rattle.step_notes.specs.ControllerNotes.{Answered, Where, channel_in, has_passed, judging_by, judging_of, opened_by, opening, passing, reply_mark}
use Rattle.step_notes.specs.Judged.{channel_if, passed_channel}
use Rattle.step_notes.specs.Marking.{answered_marks, mark_if}
use Rattle.step_notes.specs.Records.{InUnit, Judging, Source, computer_named, unit_in}
use Rattle.step_notes.specs.Served.{work_after}
use Rattle.step_notes.specs.TrustNotes.{base_after, trust_answer_on, trust_heard_answer, trust_judging_by}
use Rattle.domain_world.specs.Past.{judged_of, later_of, number_sent, with_reply}
use Rattle.wire_base.proofs.ListLaws.{no_some, some_is}
use Rattle.domain_world.proofs.Moves.MarkNumberLaws.{AtNumbers, at_later}
use Rattle.domain_world.proofs.Judgements.JudgedLaws.{HoldsIf}

-- ---- the mark of an answer

-- a mark is that of the reply to the call, where this came in a unit of the bag and passed on a channel
abbrev IsReplyMark : Mark → Judging → Type 0
IsReplyMark mark j = (n : ℕ) (channel : ChannelIdentity) → j.source ≡ InUnit n → passed_channel j ≡ Some channel → mark ≡ ReplyTo channel j.number n

-- a call that was judged has an answer with its mark, and came from `source`, after `moves` moves
abbrev IsAnsweredBy : (moves : ℕ) (source : Source) → Bool → Mark → Judging → Type 0
IsAnsweredBy moves source sends mark j = (sends ≡ true) × (j.source ≡ source) × (j.at ≡ moves) × IsReplyMark mark j

-- a call that was judged has its answer so, unless it was handed on
abbrev IsAnsweredUnlessHanded : (moves : ℕ) (source : Source) → Bool → Mark → Judging → Type 0
IsAnsweredUnlessHanded moves source sends mark j = (j.how ≡ Some judged.Forwarded) ⊎ IsAnsweredBy moves source sends mark j

abbrev pub AnswersSo : ℕ → Source → Answered → Type 0
AnswersSo moves source one = HoldsIf (IsAnsweredUnlessHanded moves source one.sends one.mark) one.judging

not_passed : (j : Judging) (channel : ChannelIdentity) → has_passed j.how ≡ false → passed_channel j ≡ Some channel → ⊥
not_passed j channel is passed = no_some channel (sym (ap (λ (p : Bool). channel_if p j) is) ∙ passed)

on_channel : (j : Judging) (channel : ChannelIdentity) → has_passed j.how ≡ true → passed_channel j ≡ Some channel → channel_in j.controller (computer_named j.asked) j.checks ≡ Some channel
on_channel j channel is passed = sym (ap (λ (p : Bool). channel_if p j) is) ∙ passed

passing_so : (found : Option ChannelIdentity) (j : Judging) → channel_in j.controller (computer_named j.asked) j.checks ≡ found → has_passed j.how ≡ true → AnswersSo j.at j.source (passing found j)
passing_so None j is how = inr (refl, refl, refl, λ n channel came passed. absurd (no_some channel (sym is ∙ on_channel j channel how passed)))
passing_so (Some own) j is how = inr (
  refl,
  refl,
  refl,
  λ n channel came passed.
      ap (λ (source : Source). reply_mark (unit_in source) own j.number) came ∙ ap (λ (c : ChannelIdentity). ReplyTo c j.number n) (some_is own channel (sym is ∙ on_channel j channel how passed)),
)

judging_so : (p : Bool) (j : Judging) → has_passed j.how ≡ p → AnswersSo j.at j.source (judging_by p j)
judging_so false j is = inr (refl, refl, refl, λ n channel came passed. absurd (not_passed j channel is passed))
judging_so true j is = passing_so (channel_in j.controller (computer_named j.asked) j.checks) j refl is

by_so : (how : Option Judged) (j : Judging) → j.how ≡ how → AnswersSo j.at j.source (trust_judging_by how j)
by_so None j is = judging_so false j (ap has_passed is)
by_so (Some (judged.Passed status)) j is = judging_so true j (ap has_passed is)
by_so (Some judged.Forwarded) j is = inl is
by_so (Some (judged.Answered status)) j is = judging_so false j (ap has_passed is)
by_so (Some judged.Barred) j is = judging_so false j (ap has_passed is)
by_so (Some judged.NoChannel) j is = judging_so false j (ap has_passed is)

opening_so : (moves : ℕ) (source : Source) (channel : Option ChannelIdentity) (w : Where) (number kind : ℕ) → AnswersSo moves source (opening channel w number kind)
opening_so moves source None w number kind = tt
opening_so moves source (Some channel) w number kind = tt

heard_so : (what : Heard) (w : Where) (d : Desk) (after : Option Desk) → AnswersSo w.at w.source (trust_heard_answer what w d after)
heard_so (heard.Close cause) w d after = tt
heard_so (heard.Answer bytes talk) w d after = tt
heard_so (heard.Waits talk) w d after = tt
heard_so (heard.Asked line (call.Challenge c) talk) w d after = tt
heard_so (heard.Asked line (call.Authenticate c) talk) w d after = opening_so w.at w.source (opened_by w.controller c d) w line.call c.channel
heard_so (heard.Asked line (call.Judged c) talk) w d after =
    by_so (judging_of w line c d after).how (judging_of w line c d after) refl

pub answers_so : (w : Where) (link : ℕ) (units : List (ServedUnit TrustDesk Talk)) → AllByRecursion (AnswersSo w.at w.source) (map (trust_answer_on link w) units)
answers_so w link [] = tt
answers_so w link (unit ∷ units) =
    (heard_so (hear link unit.bytes unit.talk) w (base_desk unit.work) (base_after (work_after unit.part)), answers_so w link units)

-- ---- in the order in which answers go out

-- the call has a reply at whose number that mark is, after as many moves, where it came in a unit of the bag, passed on
-- a channel and wasn't handed on
abbrev pub HasReply : (ℕ → ℕ → Mark → Type 0) → Judging → Type 0
HasReply At j =
    (n : ℕ) (channel : ChannelIdentity) → j.source ≡ InUnit n → passed_channel j ≡ Some channel → j.how ≢ Some judged.Forwarded →
    (r : ℕ) × (j.reply ≡ Some r) × At j.at r (ReplyTo channel j.number n)

pub reply_so : (At Later : ℕ → ℕ → Mark → Type 0) → ((moves n : ℕ) (mark : Mark) → At moves n mark → Later moves n mark) → (j : Judging) → HasReply At j → HasReply Later j
reply_so At Later so j has n channel came passed here = let it = has n channel came passed here in (it.0, it.1, so j.at it.0 (ReplyTo channel j.number n) it.2)

same_channel : (passed : Bool) (j : Judging) (reply : Option ℕ) → channel_if passed (record j { reply = reply }) ≡ channel_if passed j
same_channel false j reply = refl
same_channel true j reply = refl

module _ (At : ℕ → ℕ → Mark → Type 0) (moves : ℕ) (source : Source) where
  -- there are enough numbers, where the calls came in a unit of the bag
  abbrev AreEnough : List Mark → List ℕ → Type 0
  AreEnough marks numbers = (n : ℕ) → source ≡ InUnit n → length marks ≤ length numbers

  enough_later : (sends : Bool) (mark : Mark) (more : List Mark) (numbers : List ℕ) → length (mark_if sends mark ++ more) ≤ length numbers → length more ≤ length (later_of sends numbers)
  enough_later false mark more numbers few = few
  enough_later true mark more [] few = absurd (omega (arith, few))
  enough_later true mark more (n ∷ numbers) few = omega (arith, few)

  first_replied : (sends : Bool) (mark : Mark) (judging : Option Judging) (numbers : List ℕ) (more : List Mark) (later : List Judging) → HoldsIf (IsAnsweredUnlessHanded moves source sends mark) judging →
      AtNumbers (At moves) (mark_if sends mark ++ more) numbers → AreEnough (mark_if sends mark ++ more) numbers → AllByRecursion (HasReply At) later →
      AllByRecursion (HasReply At) (with_reply judging (number_sent sends numbers) ++ later)
  first_replied sends mark None numbers more later so at enough each = each
  first_replied sends mark (Some j) numbers more later (inl handed) at enough each = ((λ n channel came passed here. absurd (here handed)), each)
  first_replied false mark (Some j) numbers more later (inr so) at enough each = absurd (let never : false ≡ true = so.0 in cc)
  first_replied true mark (Some j) [] more later (inr so) at enough each = (
    (λ n channel came passed here. absurd (let few = enough n (sym so.1 ∙ came) in omega (arith, few))),
    each,
  )
  first_replied true mark (Some j) (r ∷ numbers) more later (inr so) at enough each = (
    (λ n channel came passed here.
        (r, refl, subst (λ (k : ℕ). At k r (ReplyTo channel j.number n)) (sym so.2) (subst (At moves r) (so.3 n channel came (sym (same_channel (has_passed j.how) j (Some r)) ∙ passed)) at.0))),
    each,
  )

  pub answers_replied : (answers : List Answered) (numbers : List ℕ) → AllByRecursion (AnswersSo moves source) answers → AtNumbers (At moves) (answered_marks answers) numbers →
      AreEnough (answered_marks answers) numbers → AllByRecursion (HasReply At) (judged_of answers numbers)
  answers_replied [] numbers so at enough = tt
  answers_replied (one ∷ answers) numbers so at enough =
      let more : List Mark = answered_marks answers in
      first_replied one.sends one.mark one.judging numbers more (judged_of answers (later_of one.sends numbers)) so.0 at enough
      (answers_replied answers (later_of one.sends numbers) so.1 (at_later (At moves) one.sends one.mark more numbers at)
      (λ n is. enough_later one.sends one.mark more numbers (enough n is)))
