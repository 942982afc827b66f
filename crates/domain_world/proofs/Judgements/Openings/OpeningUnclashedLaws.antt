-- In every run without a clash each opening that was accepted came in a unit that was made for its channel, or from
-- outside. It serves `Proved.opened`.
use Rattle.std.proofs.Common.{◌≡◌, ℕ, Bool, true, false, ◌||◌, List, [], ◌∷◌, ◌++◌, map, Option, Some, None, refl, ap₂, ◌∙◌}
use Rattle.std.specs.List.{AllByRecursion}
use Rattle.authenticators.specs.Channels.{ChannelIdentity}
use Rattle.controller_calls.specs.declared.calls.ControllerCall.TheVariants as call
use Rattle.end_links.specs.Serving.{ServedUnit}
use Rattle.outside.specs.declared.action.Judged.{Judged}
use Rattle.outside.specs.declared.action.Judged.TheVariants as judged
use Rattle.domain_controller.specs.Forwarding.{TrustDesk, base_desk}
use Rattle.domain_controller.specs.Hearing.{hear}
use Rattle.domain_controller.specs.Machine.{Desk}
use Rattle.domain_controller.specs.State.{State as ControllerState}
use Rattle.domain_controller.specs.declared.hearing.Heard.{Heard}
use Rattle.domain_controller.specs.declared.hearing.Heard.TheVariants as heard
use Rattle.domain_controller.specs.declared.state.Talk.{Talk}
use Rattle.member_server.specs.State.{State as MemberState}
use Rattle.step_notes.specs.ControllerNotes.{Answered, Where, channel_in, judging_by, judging_of, opened_by, opening, passing}
use Rattle.step_notes.specs.Marking.{clashes}
use Rattle.step_notes.specs.MemberNotes.{turn_units}
use Rattle.step_notes.specs.Records.{Book, ChannelAccepted, Judging, Sent, Source, computer_named, unit_in, OfMember}
use Rattle.step_notes.specs.Served.{work_after}
use Rattle.step_notes.specs.TrustNotes.{base_after, trust_answer_on, trust_heard_answer, trust_judging_by, trust_units_of}
use Rattle.world_moves.specs.declared.links.EndId.{EndId}
use Rattle.world_moves.specs.declared.moves.Move.{Move}
use Rattle.world_moves.specs.declared.plan.Plan.{Plan}
use Rattle.world_moves.specs.declared.state.State.{State}
use Rattle.domain_world.specs.Claims.OpeningReplies.{OpeningsAreUnclashed}
use Rattle.domain_world.specs.Past.{Delivery, accepted_of, answers_of, any_clash, any_turn_clash, asking_notes, at_controller, first_of, later_of, note_at, note_controller, note_member, note_messages, numbers_on, onto, past, replied_with}
use Rattle.wire_base.proofs.ListLaws.{all_weaker}
use Rattle.domain_world.proofs.Frames.BookFrameLaws.{book_holds}
use Rattle.domain_world.proofs.Frames.EveryStepLaws.{every_book as book_by}
use Rattle.domain_world.proofs.Judgements.UnclashedLaws.{clashes_more, or_false}
use Rattle.domain_world.proofs.Frames.TurnFrameLaws.{asked_book, asked_keep}

-- ---- what is to hold

abbrev Fits : List Sent → ChannelAccepted → Type 0
Fits sent one = clashes (Some one.channel) (unit_in one.source) sent ≡ false

abbrev AreUnclashed : Book → Type 0
AreUnclashed b = b.clash ≡ false → AllByRecursion (Fits b.sent) b.accepted

sent_more : (b : Book) (more : List Sent) → AreUnclashed b → AreUnclashed (record b { sent = b.sent ++ more })
sent_more b more all apart =
    all_weaker (Fits b.sent) (Fits (b.sent ++ more)) b.accepted (λ one fits. clashes_more (Some one.channel) (unit_in one.source) b.sent more fits) (all apart)

onto_fits : (sent : List Sent) (new old : List ChannelAccepted) → AllByRecursion (Fits sent) new → AllByRecursion (Fits sent) old → AllByRecursion (Fits sent) (onto new old)
onto_fits sent [] old each was = was
onto_fits sent (one ∷ new) old each was = onto_fits sent new (one ∷ old) each.1 (each.0, was)

-- ---- what a controller answers

-- an opening that was accepted came there, and what is checked is its channel
abbrev IfNoted : Source → Option ChannelIdentity → Option ChannelAccepted → Type 0
IfNoted source checked None = Unit {0}
IfNoted source checked (Some one) = (Some one.channel ≡ checked) × (one.source ≡ source)

abbrev IsNoted : Source → Answered → Type 0
IsNoted source one = IfNoted source one.checked one.accepted

passing_noted : (source : Source) (channel : Option ChannelIdentity) (j : Judging) → IsNoted source (passing channel j)
passing_noted source None j = tt
passing_noted source (Some channel) j = tt

judging_noted : (source : Source) (passed : Bool) (j : Judging) → IsNoted source (judging_by passed j)
judging_noted source false j = tt
judging_noted source true j = passing_noted source (channel_in j.controller (computer_named j.asked) j.checks) j

by_noted : (source : Source) (how : Option Judged) (j : Judging) → IsNoted source (trust_judging_by how j)
by_noted source None j = tt
by_noted source (Some (judged.Passed status)) j = judging_noted source true j
by_noted source (Some judged.Forwarded) j = tt
by_noted source (Some (judged.Answered status)) j = tt
by_noted source (Some judged.Barred) j = tt
by_noted source (Some judged.NoChannel) j = tt

opening_noted : (channel : Option ChannelIdentity) (w : Where) (number kind : ℕ) → IsNoted w.source (opening channel w number kind)
opening_noted None w number kind = tt
opening_noted (Some channel) w number kind = (refl, refl)

heard_noted : (what : Heard) (w : Where) (d : Desk) (after : Option Desk) → IsNoted w.source (trust_heard_answer what w d after)
heard_noted (heard.Close cause) w d after = tt
heard_noted (heard.Answer bytes talk) w d after = tt
heard_noted (heard.Waits talk) w d after = tt
heard_noted (heard.Asked line (call.Challenge c) talk) w d after = tt
heard_noted (heard.Asked line (call.Authenticate c) talk) w d after = opening_noted (opened_by w.controller c d) w line.call c.channel
heard_noted (heard.Asked line (call.Judged c) talk) w d after =
    by_noted w.source (judging_of w line c d after).how (judging_of w line c d after)

answers_noted : (link : ℕ) (w : Where) (units : List (ServedUnit TrustDesk Talk)) → AllByRecursion (IsNoted w.source) (map (trust_answer_on link w) units)
answers_noted link w [] = tt
answers_noted link w (unit ∷ units) = (heard_noted (hear link unit.bytes unit.talk) w (base_desk unit.work) (base_after (work_after unit.part)), answers_noted link w units)

one_fits : (accepted : Option ChannelAccepted) (checked : Option ChannelIdentity) (source : Source) (number : Option ℕ) (sent : List Sent) (later : List ChannelAccepted) →
    IfNoted source checked accepted → clashes checked (unit_in source) sent ≡ false → AllByRecursion (Fits sent) later → AllByRecursion (Fits sent) (replied_with accepted number ++ later)
one_fits None checked source number sent later noted none fits = fits
one_fits (Some one) checked source number sent later noted none fits = (
  ap₂ (λ (c : Option ChannelIdentity) (from : Source). clashes c (unit_in from) sent) noted.0 noted.1 ∙ none,
  fits,
)

all_fit : (answers : List Answered) (source : Source) (numbers : List ℕ) (sent : List Sent) → AllByRecursion (IsNoted source) answers → any_clash answers (unit_in source) sent ≡ false →
    AllByRecursion (Fits sent) (accepted_of answers numbers)
all_fit [] source numbers sent noted none = tt
all_fit (one ∷ answers) source numbers sent noted none =
    let both = or_false (clashes one.checked (unit_in source) sent) (any_clash answers (unit_in source) sent) none in
    one_fits one.accepted one.checked source (first_of numbers) sent (accepted_of answers (later_of one.sends numbers)) noted.0 both.0
    (all_fit answers source (later_of one.sends numbers) sent noted.1 both.1)

-- ---- bytes that an end hears

controller_unclashed : (c : ControllerState) (at : ℕ) (w : Delivery) (piece : List ℕ) (s after : State) (b : Book) → AreUnclashed b → AreUnclashed (note_controller (Some c) at w piece s after b)
controller_unclashed c at w piece s after b all = λ apart.
    let answers : List Answered = answers_of at c w piece s in
    let taken = or_false (b.clash || any_clash answers (unit_in w.source) b.sent) (any_turn_clash (asking_notes c w piece s) (unit_in w.source) b.sent) apart in
    let both = or_false b.clash (any_clash answers (unit_in w.source) b.sent) taken.0 in
    let numbers : List ℕ = numbers_on w.link true s.bag after.bag in
    all_weaker (Fits b.sent) (Fits _) (onto (accepted_of answers numbers) b.accepted) (λ one fits. clashes_more (Some one.channel) (unit_in one.source) b.sent _ fits)
    (onto_fits b.sent (accepted_of answers numbers) b.accepted
    (all_fit answers w.source numbers b.sent (answers_noted w.link (at_controller at c w s) (trust_units_of c w.link piece s.moment s.chances.left)) both.1) (all both.0))

member_unclashed : (m : MemberState) (at : ℕ) (w : Delivery) (piece : List ℕ) (s after : State) (b : Book) → AreUnclashed b → AreUnclashed (note_member (Some m) at w piece s after b)
member_unclashed m at w piece s after b all =
    sent_more (asked_book (OfMember at) w (turn_units m w.link piece s.moment s.chances.left) s after (note_messages at m w piece s b)) _
    (asked_keep (OfMember at) w (turn_units m w.link piece s.moment s.chances.left) s after (note_messages at m w piece s b) AreUnclashed
    (λ note served number later so apart. so (or_false later.clash (clashes note.checked (unit_in w.source) later.sent) apart).0) all)

end_unclashed : (end : EndId) (w : Delivery) (piece : List ℕ) (s after : State) (b : Book) → AreUnclashed b → AreUnclashed (note_at (Some end) w piece s after b)
end_unclashed end w piece s after b all =
    book_by (λ (one : EndId) (now : Book). AreUnclashed now) w piece s after b (λ one. all) (λ at c is. controller_unclashed c at w piece s after b all)
    (λ at m is. member_unclashed m at w piece s after b all) (λ at c is. all) end

-- in every run
pub openings_unclashed : (plan : Plan) (moves : List Move) → OpeningsAreUnclashed (past plan moves)
openings_unclashed plan moves =
    book_holds AreUnclashed end_unclashed (λ at given after b all. sent_more b _ all) plan moves (λ apart. tt)
