-- Each call on a secure channel that a controller heard in a run was judged by its channel's sequence.
-- It serves `Proved.grants`, `Proved.credentials`, `Proved.asked` and 8 more.
use Rattle.std.proofs.Common.{◌≡◌, ℕ, Bool, true, false, List, [], ◌∷◌, ◌++◌, map, Option, Some, None, Result, Ok, Err, sym, subst}
use Rattle.std.specs.List.{AllByRecursion}
use Rattle.authenticators.specs.Channels.{ChannelIdentity}
use Rattle.outside.specs.declared.action.Action.{Action}
use Rattle.outside.specs.declared.action.StepRefused.{StepRefused}
use Rattle.controller_calls.specs.declared.calls.ControllerCall.TheVariants as call
use Rattle.end_links.specs.Serving.{Server, ServedPart, ServedUnit}
use Rattle.domain_controller.specs.Machine.{Desk, answer_judged, by_heard}
use Rattle.domain_controller.specs.State.{State as ControllerState}
use Rattle.domain_controller.specs.declared.hearing.Heard.{Heard}
use Rattle.domain_controller.specs.declared.hearing.Heard.TheVariants as heard
use Rattle.controller_calls.specs.declared.line.Line.{Line}
use Rattle.domain_controller.specs.declared.state.Talk.{Talk}
use Rattle.step_notes.specs.ControllerNotes.{Answered, Where, answer_on, channel_in, has_passed, heard_answer, judging_by, judging_of, judged_answer, opened_by, opening, passing, plain, silent, checked_on}
use Rattle.outside.specs.declared.action.Judged.{Judged}
use Rattle.outside.specs.declared.action.Judged.TheVariants as judged
use Rattle.account_table.specs.AccountTable.{AccountTable}
use Rattle.domain_controller.specs.Forwarding.{TrustDesk, base_desk}
use Rattle.step_notes.specs.TrustNotes.{trust_judged_answer, trust_judging_by}
use Rattle.step_notes.proofs.Controllers.NotedLaws.{NotedFact}
use Rattle.step_notes.proofs.Controllers.TrustNotedLaws.{trust_step_says}
use Rattle.step_notes.proofs.Controllers.TrustedStepLaws.{IsTrusted, OfBase, StaysWithTrusts, trusted_right, trusting_stays}
use Rattle.wire_base.proofs.AllLaws.{all_join}
use Rattle.step_notes.specs.Judged.{IsJudgedRight}
use Rattle.step_notes.specs.Records.{Book, Judging, computer_named, given_in}
use Rattle.controller_calls.specs.declared.calls.JudgedCall.{JudgedCall}
use Rattle.step_notes.specs.Served.{units_if_taken, work_after}
use Rattle.world_moves.specs.declared.links.EndId.{EndId}
use Rattle.world_moves.specs.declared.moves.Move.{Move}
use Rattle.world_moves.specs.declared.plan.Plan.{Plan}
use Rattle.world_moves.specs.declared.state.State.{State}
use Rattle.domain_world.specs.Past.{Delivery, answers_of, at_controller, judged_of, later_of, note_at, note_controller, number_sent, numbers_on, onto, past, with_reply}
use Rattle.step_notes.proofs.Controllers.JudgedStepLaws.{told_call, told_right, checked_named}
use Rattle.domain_world.proofs.Frames.BookFrameLaws.{book_holds}
use Rattle.domain_world.proofs.Frames.EndNoteLaws.{judged_so}
use Rattle.domain_world.proofs.Frames.EveryStepLaws.{every_book as book_by}

-- ---- a unit

-- the fact holds of the call that was judged, if one was
abbrev pub HoldsIf : (Judging → Type 0) → Option Judging → Type 0
HoldsIf Fits None = Unit {0}
HoldsIf Fits (Some j) = Fits j

-- what the unit comes to is what the controller makes of it
abbrev pub IsServedBy : {W T : Type 0} → Server W T → ServedUnit W T → Type 0
IsServedBy server unit = unit.part ≡ server.unit unit.bytes unit.work unit.talk unit.left

module _ (Fits : Judging → Type 0) where
  passing_holds : (channel : Option ChannelIdentity) (j : Judging) → Fits j → HoldsIf Fits (passing channel j).judging
  passing_holds None j holds = holds
  passing_holds (Some channel) j holds = holds

  pub judging_holds : (passed : Bool) (j : Judging) → Fits j → HoldsIf Fits (judging_by passed j).judging
  judging_holds false j holds = holds
  judging_holds true j holds = passing_holds (channel_in j.controller (computer_named j.asked) j.checks) j holds

  pub opening_holds : (channel : Option ChannelIdentity) (w : Where) (number kind : ℕ) → HoldsIf Fits (opening channel w number kind).judging
  opening_holds None w number kind = tt
  opening_holds (Some channel) w number kind = tt

-- a fact that holds of each call on a secure channel that the controller answers
abbrev pub HoldsOfCalls : (Judging → Type 0) → Where → Desk → Type 0
HoldsOfCalls Fits w d =
    (line : Line) (c : JudgedCall) → Fits (judging_of w line c d (Some (answer_judged c w.name w.moment line d)))

pub heard_holds : (Fits : Judging → Type 0) (what : Heard) (w : Where) (link : ℕ) (d : Desk) (left : List (List ℕ)) (part : ServedPart Desk Talk) → HoldsOfCalls Fits w d →
    part ≡ by_heard what link w.name w.moment d left → HoldsIf Fits (heard_answer what w d (work_after part)).judging
heard_holds Fits (heard.Close cause) w link d left part each is = tt
heard_holds Fits (heard.Answer bytes talk) w link d left part each is = tt
heard_holds Fits (heard.Waits talk) w link d left part each is = tt
heard_holds Fits (heard.Asked line (call.Challenge c) talk) w link d left part each is = tt
heard_holds Fits (heard.Asked line (call.Authenticate c) talk) w link d left part each is = opening_holds Fits (opened_by w.controller c d) w line.call c.channel
heard_holds Fits (heard.Asked line (call.Judged c) talk) w link d left part each is =
    let j : Judging = judging_of w line c d (Some (answer_judged c w.name w.moment line d)) in
    subst (λ (p : ServedPart Desk Talk). HoldsIf Fits (judged_answer (judging_of w line c d (work_after p))).judging) (sym is)
    (judging_holds Fits (has_passed j.how) j (each line c))

pub calls_right : (w : Where) (d : Desk) → HoldsOfCalls IsJudgedRight w d
calls_right w d line c =
    let after : Desk = answer_judged c w.name w.moment line d in
    record {
      right = told_right d.work.actions after.work.actions (checked_on (computer_named c) d.work.computers) (given_in c) line (told_call c w.name w.moment line d);
      named = checked_named (computer_named c) d.work.computers;
    }

-- ---- the units of a stream

pub are_if_taken : {U : Type 0} (P : U → Type 0) (answer : Result (List Action) StepRefused) (units : List U) → AllByRecursion P units → AllByRecursion P (units_if_taken answer units)
are_if_taken P (Ok actions) units each = each
are_if_taken P (Err why) units each = tt

pub answers_hold : (Fits : Judging → Type 0) (From : ServedUnit Desk Talk → Type 0) (w : Where) (link : ℕ) → ((unit : ServedUnit Desk Talk) → From unit → HoldsIf Fits (answer_on link w unit).judging) →
    (units : List (ServedUnit Desk Talk)) → AllByRecursion From units → AllByRecursion (λ (one : Answered). HoldsIf Fits one.judging) (map (answer_on link w) units)
answers_hold Fits From w link one [] each = tt
answers_hold Fits From w link one (unit ∷ units) each = (one unit each.0, answers_hold Fits From w link one units each.1)

-- ---- what is written down

-- a fact that speaks of no reply holds of the calls as they are written down, each with its reply
module _ (Fits : Judging → Type 0) (replied : (j : Judging) (number : Option ℕ) → Fits j → Fits (record j { reply = number })) where
  reply_holds : (j : Option Judging) (number : Option ℕ) (later : List Judging) → HoldsIf Fits j → AllByRecursion Fits later → AllByRecursion Fits (with_reply j number ++ later)
  reply_holds None number later holds each = each
  reply_holds (Some j) number later holds each = (replied j number holds, each)

  pub judged_hold : (answers : List Answered) (numbers : List ℕ) → AllByRecursion (λ (one : Answered). HoldsIf Fits one.judging) answers → AllByRecursion Fits (judged_of answers numbers)
  judged_hold [] numbers each = tt
  judged_hold (one ∷ answers) numbers each =
      reply_holds one.judging (number_sent one.sends numbers) (judged_of answers (later_of one.sends numbers)) each.0 (judged_hold answers (later_of one.sends numbers) each.1)

pub onto_hold : (Fits : Judging → Type 0) (js old : List Judging) → AllByRecursion Fits js → AllByRecursion Fits old → AllByRecursion Fits (onto js old)
onto_hold Fits [] old each was = was
onto_hold Fits (j ∷ js) old each was = onto_hold Fits js (j ∷ old) each.1 (each.0, was)

-- ---- the units of a controller that may hand logons on

pub by_holds : (Fits : Judging → Type 0) (how : Option Judged) (j : Judging) → Fits j → HoldsIf Fits (trust_judging_by how j).judging
by_holds Fits None j holds = holds
by_holds Fits (Some (judged.Passed status)) j holds = judging_holds Fits true j holds
by_holds Fits (Some judged.Forwarded) j holds = holds
by_holds Fits (Some (judged.Answered status)) j holds = holds
by_holds Fits (Some judged.Barred) j holds = holds
by_holds Fits (Some judged.NoChannel) j holds = holds

-- a call for a trust, as it is written down
abbrev pub trusted_judging : Where → Line → JudgedCall → TrustDesk → TrustDesk → Judging
trusted_judging w line c d after = judging_of w line c (base_desk d) (Some (base_desk after))

-- A fact of the accounts that each call leaves, and what it gives of the call.
pub record HoldsOfEach (w : Where) (Known : AccountTable → Type 0) (Fits : Judging → Type 0) : Type 0 where
  pub judged : (line : Line) (c : JudgedCall) (d : Desk) → Known d.table →
      let after : Desk = answer_judged c w.name w.moment line d in Known after.table × Fits (judging_of w line c d (Some after))
  pub trusted : (line : Line) (c : JudgedCall) (d after : TrustDesk) → IsTrusted c d after → Known d.table → Fits (trusted_judging w line c d after)

abbrev EachFits : (AccountTable → Type 0) → (Judging → Type 0) → NotedFact
EachFits Known Fits answers d left = Known d.table × AllByRecursion (λ (one : Answered). HoldsIf Fits one.judging) answers

module _ (Known : AccountTable → Type 0) (Fits : Judging → Type 0) where
  abbrev AreFit : List Answered → Type 0
  AreFit answers = AllByRecursion (λ (one : Answered). HoldsIf Fits one.judging) answers

  one_more : (answers : List Answered) (one : Answered) → AreFit answers → HoldsIf Fits one.judging → AreFit (answers ++ one ∷ [])
  one_more answers one each holds = all_join (λ (other : Answered). HoldsIf Fits other.judging) answers (one ∷ []) each (holds, tt)

  each_stays : (w : Where) (link : ℕ) → HoldsOfEach w Known Fits → StaysWithTrusts w link (EachFits Known Fits)
  each_stays w link of = record {
    base = record {
      closes = λ answers d left cause holds. holds;
      waits = λ answers d left holds. (holds.0, one_more answers silent holds.1 tt);
      sends = λ answers d left bytes holds. (holds.0, one_more answers plain holds.1 tt);
      challenge = λ answers d left line c server on holds. (holds.0, one_more answers plain holds.1 tt);
      authenticate = λ answers d left line c on holds.
          (holds.0, one_more answers (opening (opened_by w.controller c d) w line.call c.channel) holds.1 (opening_holds Fits (opened_by w.controller c d) w line.call c.channel));
      judged = λ answers d left line c on holds.
          let its = of.judged line c d holds.0 in
          let j : Judging = judging_of w line c d (Some (answer_judged c w.name w.moment line d)) in
          (its.0, one_more answers (judged_answer j) holds.1 (judging_holds Fits (has_passed j.how) j its.1));
    };
    trusted = λ answers d after left line c on is holds.
        let j : Judging = trusted_judging w line c d after in
        (subst Known (sym is.table) holds.0, one_more answers (trust_judged_answer j) holds.1 (by_holds Fits j.how j (of.trusted line c d after is holds.0)));
  }

  -- the fact holds of each call of a step
  pub each_of_step : (controller : ℕ) (c : ControllerState) (w : Delivery) (piece : List ℕ) (s : State) → HoldsOfEach (at_controller controller c w s) Known Fits → Known c.table →
      AreFit (answers_of controller c w piece s)
  each_of_step controller c w piece s of known =
      let at : Where = at_controller controller c w s in
      trust_step_says at w.link c piece s.moment s.chances.left (λ running. OfBase (EachFits Known Fits)) (λ answers stepped. AreFit answers) (record {
        stays = λ running. trusting_stays at w.link (EachFits Known Fits) (each_stays at w.link of);
        first = λ running runs. (known, tt);
        stopped = λ ends. tt;
        spent = tt;
        turn = λ running actions last links t runs on all fewer. tt;
        taken = λ running answers d rest last links dial t runs holds fewer. holds.1;
      })

-- ---- in every run

abbrev AnyTable : AccountTable → Type 0
AnyTable table = Unit {0}

each_right : (w : Where) → HoldsOfEach w AnyTable IsJudgedRight
each_right w = record {
  judged = λ line c d known. (tt, calls_right w d line c);
  trusted = λ line c d after is known.
      record { right = trusted_right c d after is; named = checked_named (computer_named c) d.work.work.computers };
}

abbrev pub AreRight : List Judging → Type 0
AreRight judgings = AllByRecursion IsJudgedRight judgings

abbrev pub IsRight : Book → Type 0
IsRight b = AreRight b.judged

controller_right : (c : ControllerState) (controller : ℕ) (w : Delivery) (piece : List ℕ) (s after : State) (b : Book) → IsRight b → IsRight (note_controller (Some c) controller w piece s after b)
controller_right c controller w piece s after b was =
    let answers : List Answered = answers_of controller c w piece s in
    let numbers : List ℕ = numbers_on w.link true s.bag after.bag in
    onto_hold IsJudgedRight (judged_of answers numbers) b.judged
    (judged_hold IsJudgedRight (λ j number is. record { right = is.right; named = is.named }) answers numbers
    (each_of_step AnyTable IsJudgedRight controller c w piece s (each_right (at_controller controller c w s)) tt))
    was

at_right : (end : EndId) (w : Delivery) (piece : List ℕ) (s after : State) (b : Book) → IsRight b → IsRight (note_at (Some end) w piece s after b)
at_right end w piece s after b was =
    book_by (λ (one : EndId) (now : Book). IsRight now) w piece s after b (λ one. was) (λ at c is. controller_right c at w piece s after b was)
    (λ at m is. subst AreRight (sym (judged_so.members m at w piece s after b)) was) (λ at c is. was) end

pub judged_rightly : (plan : Plan) (moves : List Move) → AreRight (past plan moves).book.judged
judged_rightly plan moves = book_holds IsRight at_right (λ at given after b was. was) plan moves tt
