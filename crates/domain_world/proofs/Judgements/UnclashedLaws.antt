-- In every run without a clash each credential that passed for a call passed on the channel for which the unit was made
-- that carried the call. It serves `Proved.unclashed`, and `Proved.opened`.
use Rattle.std.proofs.Common.{◌≡◌, ℕ, Bool, true, false, ◌||◌, not, List, [], ◌∷◌, ◌++◌, map, Option, Some, None, slice_get, refl, ap, ap₂, ◌∙◌}
use Rattle.std.specs.List.{AllByRecursion}
use Rattle.authenticators.specs.Channels.{ChannelIdentity}
use Rattle.controller_calls.specs.declared.calls.ControllerCall.TheVariants as call
use Rattle.end_links.specs.Serving.{ServedUnit}
use Rattle.outside.specs.declared.action.Judged.{Judged}
use Rattle.outside.specs.declared.action.Judged.TheVariants as judged
use Rattle.domain_controller.specs.Forwarding.{TrustDesk, base_desk}
use Rattle.domain_controller.specs.Hearing.{hear}
use Rattle.domain_controller.specs.Machine.{Desk}
use Rattle.domain_controller.specs.State.{State as ControllerState}
use Rattle.domain_controller.specs.declared.hearing.Heard.{Heard}
use Rattle.domain_controller.specs.declared.hearing.Heard.TheVariants as heard
use Rattle.controller_calls.specs.declared.line.Line.{Line}
use Rattle.domain_controller.specs.declared.state.Talk.{Talk}
use Rattle.member_server.specs.State.{State as MemberState}
use Rattle.step_notes.specs.ControllerNotes.{Answered, Where, channel_in, has_passed, judging_by, judging_of, opened_by, opening, passing}
use Rattle.step_notes.specs.Judged.{channel_if, passed_channel}
use Rattle.step_notes.specs.Marking.{clashes, is_channel, sent_channel}
use Rattle.step_notes.specs.MemberNotes.{turn_units}
use Rattle.step_notes.specs.Records.{Book, Judging, Sent, Source, computer_named, unit_in, OfMember}
use Rattle.controller_calls.specs.declared.calls.ControllerCall.{ControllerCall}
use Rattle.step_notes.specs.Served.{work_after}
use Rattle.step_notes.specs.TrustNotes.{base_after, trust_answer_on, trust_call_answer, trust_heard_answer, trust_judging_by, trust_units_of}
use Rattle.world_moves.specs.declared.links.EndId.{EndId}
use Rattle.world_moves.specs.declared.moves.Move.{Move}
use Rattle.world_moves.specs.declared.plan.Plan.{Plan}
use Rattle.world_moves.specs.declared.state.State.{State}
use Rattle.domain_world.specs.Accepting.Answered.{PassesAreUnclashed}
use Rattle.domain_world.specs.Past.{Delivery, answers_of, any_clash, any_turn_clash, asking_notes, at_controller, judged_of, later_of, note_at, note_controller, note_member, note_messages, number_sent, numbers_on, onto, past, with_reply}
use Rattle.wire_base.proofs.ListLaws.{all_weaker, got_append}
use Rattle.domain_world.proofs.Frames.BookFrameLaws.{book_holds}
use Rattle.domain_world.proofs.Judgements.JudgedLaws.{onto_hold}
use Rattle.domain_world.proofs.Frames.EveryStepLaws.{every_book as book_by}
use Rattle.domain_world.proofs.Frames.TurnFrameLaws.{asked_book, asked_keep}

-- ---- what is to hold

abbrev Fits : List Sent → Judging → Type 0
Fits sent j = clashes (passed_channel j) (unit_in j.source) sent ≡ false

abbrev AreUnclashed : Book → Type 0
AreUnclashed b = b.clash ≡ false → AllByRecursion (Fits b.sent) b.judged

-- ---- more units are sent

more_by : (found : Option Sent) (channel : ChannelIdentity) (unit : ℕ) (sent more : List Sent) → slice_get sent unit ≡ found → not (is_channel (sent_channel found) channel) ≡ false →
    not (is_channel (sent_channel (slice_get (sent ++ more) unit)) channel) ≡ false
more_by None channel unit sent more is none = absurd (let x = none in cc)
more_by (Some one) channel unit sent more is none =
    ap (λ (f : Option Sent). not (is_channel (sent_channel f) channel)) (got_append sent more unit one is) ∙ none

pub clashes_more : (channel : Option ChannelIdentity) (unit : Option ℕ) (sent more : List Sent) → clashes channel unit sent ≡ false → clashes channel unit (sent ++ more) ≡ false
clashes_more None unit sent more none = refl
clashes_more (Some channel) None sent more none = refl
clashes_more (Some channel) (Some unit) sent more none = more_by (slice_get sent unit) channel unit sent more refl none

sent_more : (b : Book) (more : List Sent) → AreUnclashed b → AreUnclashed (record b { sent = b.sent ++ more })
sent_more b more all apart =
    all_weaker (Fits b.sent) (Fits (b.sent ++ more)) b.judged (λ j fits. clashes_more (passed_channel j) (unit_in j.source) b.sent more fits) (all apart)

pub or_false : (one other : Bool) → (one || other) ≡ false → (one ≡ false) × (other ≡ false)
or_false false false is = (refl, refl)
or_false false true is = absurd (let x = is in cc)
or_false true other is = absurd (let x = is in cc)

-- ---- what a controller answers

-- a call that was judged came in that unit, and what is checked is the channel on which it passed
abbrev IfNoted : Source → Option ChannelIdentity → Option Judging → Type 0
IfNoted source checked None = Unit {0}
IfNoted source checked (Some j) = (passed_channel j ≡ checked) × (j.source ≡ source)

abbrev IsNoted : Source → Answered → Type 0
IsNoted source one = IfNoted source one.checked one.judging

passing_noted : (found : Option ChannelIdentity) (j : Judging) → has_passed j.how ≡ true → channel_in j.controller (computer_named j.asked) j.checks ≡ found → IsNoted j.source (passing found j)
passing_noted None j passed is = (ap (λ (p : Bool). channel_if p j) passed ∙ is, refl)
passing_noted (Some channel) j passed is = (ap (λ (p : Bool). channel_if p j) passed ∙ is, refl)

judging_noted : (passed : Bool) (j : Judging) → has_passed j.how ≡ passed → IsNoted j.source (judging_by passed j)
judging_noted false j is = (ap (λ (p : Bool). channel_if p j) is, refl)
judging_noted true j is = passing_noted (channel_in j.controller (computer_named j.asked) j.checks) j is refl

opening_noted : (channel : Option ChannelIdentity) (w : Where) (number kind : ℕ) → IsNoted w.source (opening channel w number kind)
opening_noted None w number kind = tt
opening_noted (Some channel) w number kind = tt

by_noted : (how : Option Judged) (j : Judging) → j.how ≡ how → IsNoted j.source (trust_judging_by how j)
by_noted None j is = judging_noted false j (ap has_passed is)
by_noted (Some (judged.Passed status)) j is = judging_noted true j (ap has_passed is)
by_noted (Some judged.Forwarded) j is = (ap (λ (p : Bool). channel_if p j) (ap has_passed is), refl)
by_noted (Some (judged.Answered status)) j is = judging_noted false j (ap has_passed is)
by_noted (Some judged.Barred) j is = judging_noted false j (ap has_passed is)
by_noted (Some judged.NoChannel) j is = judging_noted false j (ap has_passed is)

call_noted : (c : ControllerCall) (line : Line) (w : Where) (before : Desk) (after : Option Desk) → IsNoted w.source (trust_call_answer c line w before after)
call_noted (call.Challenge c) line w before after = tt
call_noted (call.Authenticate c) line w before after = opening_noted (opened_by w.controller c before) w line.call c.channel
call_noted (call.Judged c) line w before after = by_noted (judging_of w line c before after).how (judging_of w line c before after) refl

heard_noted : (what : Heard) (w : Where) (before : Desk) (after : Option Desk) → IsNoted w.source (trust_heard_answer what w before after)
heard_noted (heard.Close cause) w before after = tt
heard_noted (heard.Answer bytes talk) w before after = tt
heard_noted (heard.Waits talk) w before after = tt
heard_noted (heard.Asked line c talk) w before after = call_noted c line w before after

answers_noted : (link : ℕ) (w : Where) (units : List (ServedUnit TrustDesk Talk)) → AllByRecursion (IsNoted w.source) (map (trust_answer_on link w) units)
answers_noted link w [] = tt
answers_noted link w (unit ∷ units) = (heard_noted (hear link unit.bytes unit.talk) w (base_desk unit.work) (base_after (work_after unit.part)), answers_noted link w units)

-- which unit carries the reply changes nothing of that
reply_same : (passed : Bool) (j : Judging) (number : Option ℕ) → channel_if passed (record j { reply = number }) ≡ channel_if passed j
reply_same false j number = refl
reply_same true j number = refl

judging_fits : (judging : Option Judging) (checked : Option ChannelIdentity) (source : Source) (number : Option ℕ) (sent : List Sent) (later : List Judging) → IfNoted source checked judging →
    clashes checked (unit_in source) sent ≡ false → AllByRecursion (Fits sent) later → AllByRecursion (Fits sent) (with_reply judging number ++ later)
judging_fits None checked source number sent later noted none fits = fits
judging_fits (Some j) checked source number sent later noted none fits = (
  ap₂ (λ (c : Option ChannelIdentity) (from : Source). clashes c (unit_in from) sent) (reply_same (has_passed j.how) j number ∙ noted.0) noted.1 ∙ none,
  fits,
)

judged_fit : (answers : List Answered) (source : Source) (numbers : List ℕ) (sent : List Sent) → AllByRecursion (IsNoted source) answers → any_clash answers (unit_in source) sent ≡ false →
    AllByRecursion (Fits sent) (judged_of answers numbers)
judged_fit [] source numbers sent noted none = tt
judged_fit (one ∷ answers) source numbers sent noted none =
    let both = or_false (clashes one.checked (unit_in source) sent) (any_clash answers (unit_in source) sent) none in
    judging_fits one.judging one.checked source (number_sent one.sends numbers) sent (judged_of answers (later_of one.sends numbers)) noted.0 both.0
    (judged_fit answers source (later_of one.sends numbers) sent noted.1 both.1)

-- ---- bytes that an end hears

controller_unclashed : (c : ControllerState) (at : ℕ) (w : Delivery) (piece : List ℕ) (s after : State) (b : Book) → AreUnclashed b → AreUnclashed (note_controller (Some c) at w piece s after b)
controller_unclashed c at w piece s after b all = λ apart.
    let answers : List Answered = answers_of at c w piece s in
    let taken = or_false (b.clash || any_clash answers (unit_in w.source) b.sent) (any_turn_clash (asking_notes c w piece s) (unit_in w.source) b.sent) apart in
    let both = or_false b.clash (any_clash answers (unit_in w.source) b.sent) taken.0 in
    let numbers : List ℕ = numbers_on w.link true s.bag after.bag in
    all_weaker (Fits b.sent) (Fits _) (onto (judged_of answers numbers) b.judged) (λ j fits. clashes_more (passed_channel j) (unit_in j.source) b.sent _ fits)
    (onto_hold (Fits b.sent) (judged_of answers numbers) b.judged
    (judged_fit answers w.source numbers b.sent (answers_noted w.link (at_controller at c w s) (trust_units_of c w.link piece s.moment s.chances.left)) both.1) (all both.0))

member_unclashed : (m : MemberState) (at : ℕ) (w : Delivery) (piece : List ℕ) (s after : State) (b : Book) → AreUnclashed b → AreUnclashed (note_member (Some m) at w piece s after b)
member_unclashed m at w piece s after b all =
    sent_more (asked_book (OfMember at) w (turn_units m w.link piece s.moment s.chances.left) s after (note_messages at m w piece s b)) _
    (asked_keep (OfMember at) w (turn_units m w.link piece s.moment s.chances.left) s after (note_messages at m w piece s b) AreUnclashed
    (λ note served number later so apart. so (or_false later.clash (clashes note.checked (unit_in w.source) later.sent) apart).0) all)

end_unclashed : (end : EndId) (w : Delivery) (piece : List ℕ) (s after : State) (b : Book) → AreUnclashed b → AreUnclashed (note_at (Some end) w piece s after b)
end_unclashed end w piece s after b all =
    book_by (λ (one : EndId) (now : Book). AreUnclashed now) w piece s after b (λ one. all) (λ at c is. controller_unclashed c at w piece s after b all)
    (λ at m is. member_unclashed m at w piece s after b all) (λ at c is. all) end

-- in every run
pub passes_unclashed : (plan : Plan) (moves : List Move) → PassesAreUnclashed (past plan moves)
passes_unclashed plan moves =
    book_holds AreUnclashed end_unclashed (λ at given after b all. sent_more b _ all) plan moves (λ apart. tt)
