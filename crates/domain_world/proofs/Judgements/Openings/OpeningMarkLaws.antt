-- The reply to an opening that was accepted, and came in a unit of the bag, is marked as the reply to it.
-- It serves `Proved.opened_marks`.
use Rattle.std.proofs.Common.{◌≡◌, ℕ, ◌≤◌, Bool, true, false, List, [], ◌∷◌, ◌++◌, length, map, Option, Some, None, refl, sym, ap, subst, ◌∙◌, arith}
use Rattle.std.specs.List.{AllByRecursion}
use Rattle.authenticators.specs.Channels.{ChannelIdentity}
use Rattle.controller_calls.specs.declared.calls.ControllerCall.TheVariants as call
use Rattle.end_links.specs.Serving.{ServedUnit}
use Rattle.outside.specs.declared.action.Judged.{Judged}
use Rattle.outside.specs.declared.action.Judged.TheVariants as judged
use Rattle.domain_controller.specs.Forwarding.{TrustDesk, base_desk}
use Rattle.domain_controller.specs.Hearing.{hear}
use Rattle.domain_controller.specs.Machine.{Desk}
use Rattle.domain_controller.specs.declared.hearing.Heard.{Heard}
use Rattle.domain_controller.specs.declared.hearing.Heard.TheVariants as heard
use Rattle.domain_controller.specs.declared.state.Talk.{Talk}
use Rattle.channel_events.specs.Marks.{Mark, Opened}
use Rattle.step_notes.specs.ControllerNotes.{Answered, Where, answer_on, channel_in, has_passed, heard_answer, judging_by, judging_of, opened_by, opened_mark, opening, passing}
use Rattle.step_notes.specs.Marking.{answered_marks, mark_if}
use Rattle.step_notes.specs.Records.{ChannelAccepted, InUnit, Judging, Source, computer_named, unit_in}
use Rattle.step_notes.specs.Served.{work_after}
use Rattle.step_notes.specs.TrustNotes.{base_after, trust_answer_on, trust_heard_answer, trust_judging_by}
use Rattle.domain_world.specs.Past.{accepted_of, first_of, later_of, onto, replied_with}
use Rattle.domain_world.proofs.Moves.MarkNumberLaws.{AtNumbers, at_later}

-- ---- the mark of an answer

-- a mark is that of the reply to the opening, where this came in a unit of the bag
abbrev IsOpenedMark : Mark → ChannelAccepted → Type 0
IsOpenedMark mark one = (n : ℕ) → one.source ≡ InUnit n → mark ≡ Opened one.channel one.number n

-- an opening that was accepted has an answer with its mark, and came from `source`, after `moves` moves
abbrev pub IfAccepted : (moves : ℕ) (source : Source) → Bool → Mark → Option ChannelAccepted → Type 0
IfAccepted moves source sends mark None = Unit {0}
IfAccepted moves source sends mark (Some one) = (sends ≡ true) × (one.source ≡ source) × (one.at ≡ moves) × IsOpenedMark mark one

abbrev pub AcceptsSo : ℕ → Source → Answered → Type 0
AcceptsSo moves source one = IfAccepted moves source one.sends one.mark one.accepted

opening_so : (channel : Option ChannelIdentity) (w : Where) (number kind : ℕ) → AcceptsSo w.at w.source (opening channel w number kind)
opening_so None w number kind = tt
opening_so (Some channel) w number kind = (refl, refl, refl, λ n came. ap (λ (source : Source). opened_mark (unit_in source) channel number) came)

passing_so : (moves : ℕ) (source : Source) (channel : Option ChannelIdentity) (j : Judging) → AcceptsSo moves source (passing channel j)
passing_so moves source None j = tt
passing_so moves source (Some channel) j = tt

judging_so : (moves : ℕ) (source : Source) (passed : Bool) (j : Judging) → AcceptsSo moves source (judging_by passed j)
judging_so moves source false j = tt
judging_so moves source true j = passing_so moves source (channel_in j.controller (computer_named j.asked) j.checks) j

heard_so : (what : Heard) (w : Where) (d : Desk) (after : Option Desk) → AcceptsSo w.at w.source (heard_answer what w d after)
heard_so (heard.Close cause) w d after = tt
heard_so (heard.Answer bytes talk) w d after = tt
heard_so (heard.Waits talk) w d after = tt
heard_so (heard.Asked line (call.Challenge c) talk) w d after = tt
heard_so (heard.Asked line (call.Authenticate c) talk) w d after = opening_so (opened_by w.controller c d) w line.call c.channel
heard_so (heard.Asked line (call.Judged c) talk) w d after =
    judging_so w.at w.source (has_passed (judging_of w line c d after).how) (judging_of w line c d after)

-- as `accepts_so`, of a controller that may hand logons on
by_so : (moves : ℕ) (source : Source) (how : Option Judged) (j : Judging) → AcceptsSo moves source (trust_judging_by how j)
by_so moves source None j = judging_so moves source false j
by_so moves source (Some (judged.Passed status)) j = judging_so moves source true j
by_so moves source (Some judged.Forwarded) j = tt
by_so moves source (Some (judged.Answered status)) j = judging_so moves source false j
by_so moves source (Some judged.Barred) j = judging_so moves source false j
by_so moves source (Some judged.NoChannel) j = judging_so moves source false j

trust_heard_so : (what : Heard) (w : Where) (d : Desk) (after : Option Desk) → AcceptsSo w.at w.source (trust_heard_answer what w d after)
trust_heard_so (heard.Close cause) w d after = tt
trust_heard_so (heard.Answer bytes talk) w d after = tt
trust_heard_so (heard.Waits talk) w d after = tt
trust_heard_so (heard.Asked line (call.Challenge c) talk) w d after = tt
trust_heard_so (heard.Asked line (call.Authenticate c) talk) w d after = opening_so (opened_by w.controller c d) w line.call c.channel
trust_heard_so (heard.Asked line (call.Judged c) talk) w d after =
    by_so w.at w.source (judging_of w line c d after).how (judging_of w line c d after)

pub trust_accepts_so : (w : Where) (link : ℕ) (units : List (ServedUnit TrustDesk Talk)) → AllByRecursion (AcceptsSo w.at w.source) (map (trust_answer_on link w) units)
trust_accepts_so w link [] = tt
trust_accepts_so w link (unit ∷ units) =
    (trust_heard_so (hear link unit.bytes unit.talk) w (base_desk unit.work) (base_after (work_after unit.part)), trust_accepts_so w link units)

pub accepts_so : (w : Where) (link : ℕ) (units : List (ServedUnit Desk Talk)) → AllByRecursion (AcceptsSo w.at w.source) (map (answer_on link w) units)
accepts_so w link [] = tt
accepts_so w link (unit ∷ units) = (heard_so (hear link unit.bytes unit.talk) w unit.work (work_after unit.part), accepts_so w link units)

-- ---- in the order in which answers go out

-- the opening has a reply at whose number that mark is, after as many moves, where it came in a unit of the bag
abbrev pub HasAnswer : (ℕ → ℕ → Mark → Type 0) → ChannelAccepted → Type 0
HasAnswer At one = (n : ℕ) → one.source ≡ InUnit n → (r : ℕ) × (one.reply ≡ Some r) × At one.at r (Opened one.channel one.number n)

pub answer_so : (At Later : ℕ → ℕ → Mark → Type 0) → ((moves n : ℕ) (mark : Mark) → At moves n mark → Later moves n mark) → (one : ChannelAccepted) → HasAnswer At one → HasAnswer Later one
answer_so At Later so one has n came = let it = has n came in (it.0, it.1, so one.at it.0 (Opened one.channel one.number n) it.2)

pub onto_all : (P : ChannelAccepted → Type 0) (new old : List ChannelAccepted) → AllByRecursion P new → AllByRecursion P old → AllByRecursion P (onto new old)
onto_all P [] old each was = was
onto_all P (one ∷ new) old each was = onto_all P new (one ∷ old) each.1 (each.0, was)

module _ (At : ℕ → ℕ → Mark → Type 0) (moves : ℕ) (source : Source) where
  -- there are enough numbers, where the calls came in a unit of the bag
  abbrev AreEnough : List Mark → List ℕ → Type 0
  AreEnough marks numbers = (n : ℕ) → source ≡ InUnit n → length marks ≤ length numbers

  enough_later : (sends : Bool) (mark : Mark) (more : List Mark) (numbers : List ℕ) → length (mark_if sends mark ++ more) ≤ length numbers → length more ≤ length (later_of sends numbers)
  enough_later false mark more numbers few = few
  enough_later true mark more [] few = absurd (omega (arith, few))
  enough_later true mark more (n ∷ numbers) few = omega (arith, few)

  first_answered : (sends : Bool) (mark : Mark) (accepted : Option ChannelAccepted) (numbers : List ℕ) (more : List Mark) (later : List ChannelAccepted) → IfAccepted moves source sends mark accepted →
      AtNumbers (At moves) (mark_if sends mark ++ more) numbers → AreEnough (mark_if sends mark ++ more) numbers → AllByRecursion (HasAnswer At) later →
      AllByRecursion (HasAnswer At) (replied_with accepted (first_of numbers) ++ later)
  first_answered sends mark None numbers more later so at enough each = each
  first_answered false mark (Some one) numbers more later so at enough each = absurd (let never : false ≡ true = so.0 in cc)
  first_answered true mark (Some one) [] more later so at enough each =
      ((λ n came. absurd (let few = enough n (sym so.1 ∙ came) in omega (arith, few))), each)
  first_answered true mark (Some one) (r ∷ numbers) more later so at enough each = (
    (λ n came. (r, refl, subst (λ (k : ℕ). At k r (Opened one.channel one.number n)) (sym so.2) (subst (At moves r) (so.3 n came) at.0))),
    each,
  )

  pub all_answered : (answers : List Answered) (numbers : List ℕ) → AllByRecursion (AcceptsSo moves source) answers → AtNumbers (At moves) (answered_marks answers) numbers →
      AreEnough (answered_marks answers) numbers → AllByRecursion (HasAnswer At) (accepted_of answers numbers)
  all_answered [] numbers so at enough = tt
  all_answered (one ∷ answers) numbers so at enough =
      let more : List Mark = answered_marks answers in
      first_answered one.sends one.mark one.accepted numbers more (accepted_of answers (later_of one.sends numbers)) so.0 at enough
      (all_answered answers (later_of one.sends numbers) so.1 (at_later (At moves) one.sends one.mark more numbers at)
      (λ n is. enough_later one.sends one.mark more numbers (enough n is)))
