-- In every schedule each Logon call that a controller judged, and that came in a unit of the bag, is the call which
-- that unit carries, whole; and a reply to one that passed is read as it was made: kept by each step, over what is
-- quiet. It serves `calls_are_judged_as_carried`, `replies_are_read_back` and `marked_units_are_whole`.
use Rattle.std.proofs.Common.{◌≡◌, ℕ, ◌+◌, true, List, [], ◌∷◌, length, map, Option, Some, None, slice_get, refl, sym, subst, ◌∙◌}
use Rattle.std.specs.List.{AllByRecursion}
use Rattle.wire_base.specs.Numbers.{AreBytes}
use Rattle.outside.specs.declared.event.Event.TheVariants as event
use Rattle.logon_stubs.specs.Parts.{IfThere}
use Rattle.end_links.specs.Serving.{ServedUnit}
use Rattle.domain_controller.specs.Machine.{Desk}
use Rattle.domain_controller.specs.State.{State as ControllerState}
use Rattle.domain_controller.specs.Step.{step_of}
use Rattle.domain_controller.specs.declared.state.Talk.{Talk}
use Rattle.step_notes.specs.ControllerNotes.{Answered, Where, answer_on, units_by, units_of_controller}
use Rattle.step_notes.specs.JudgedInRange.{IsJudgedInRange}
use Rattle.step_notes.specs.Records.{Book, InUnit, Judging, Outside, Source}
use Rattle.step_notes.specs.Served.{work_after}
use Rattle.step_notes.proofs.Controllers.JudgedInRangeLaws.{replies_are_read}
use Rattle.domain_controller.specs.Hearing.{hear as hear_unit}
use Rattle.domain_controller.proofs.TrustPlaceLaws.{got_all}
use Rattle.world_moves.specs.declared.bag.BagUnit.{BagUnit}
use Rattle.world_moves.specs.declared.links.EndId.{EndId}
use Rattle.world_moves.specs.declared.links.EndId.TheVariants.{Controller, Client, Member}
use Rattle.world_moves.specs.declared.moves.Move.{Move}
use Rattle.world_moves.specs.declared.plan.Plan.{Plan}
use Rattle.world_moves.specs.declared.state.State.{State}
use Rattle.world_moves.specs.Acting.{Given, AfterHearing}
use Rattle.world_moves.specs.Forms.{IsSchedule}
use Rattle.world_moves.specs.Links.{acceptor_of}
use Rattle.world_moves.specs.Moving.{begun, with_link, changed}
use Rattle.world_moves.specs.Alone.{IsPlainAlone, hear_alone as hear}
use Rattle.domain_world.specs.Accepting.Carried.{IsJudgedAsCarried, JudgedAsCarried}
use Rattle.domain_world.specs.Accepting.ReadBack.{RepliesAreReadBack}
use Rattle.domain_world.specs.Past.{Delivery, Past, at_controller, judged_of, numbers_on, past, plain_form}
use Rattle.wire_base.proofs.ListLaws.{got_nothing}
use Rattle.domain_world.specs.Schedules.{OfSchedules}
use Rattle.domain_world.proofs.Frames.AloneNoteLaws.{alone_answers as answers_of, note_alone as note_at, note_controller_alone as note_controller}
use Rattle.domain_world.proofs.Frames.AloneStepLaws.{act_alone as hear_and_act}
use Rattle.domain_world.proofs.Acceptance.Heard.JudgedUnitLaws.{AllHeardSo, AnyAction, CarriedIf, HeardSo, IsCarriedCall, IsJudgedWell, IsWholeCarried, JudgedFact, JudgedStand, acts_stand, answer_holds, any_actions, any_heard, running_so, settled_stand, unit_so, whole_carried}
use Rattle.domain_world.proofs.Quiet.QuietStepLaws.{ControllerIsQuiet, QuietAction, QuietFact, QuietState}
use Rattle.domain_world.proofs.Quiet.QuietRunLaws.{has_bytes, quiet_first, quiet_keeps}
use Rattle.domain_world.proofs.Moves.ComingLaws.{CameFrom}
use Rattle.domain_world.proofs.Moves.OpenMadeLaws.{IsAtSide}
use Rattle.domain_world.proofs.Frames.StepFrameLaws.{BothFacts, BothFine, HasHeard, HoldsAfterRun, StepKeeps, join, run_keeps}
use Rattle.domain_world.proofs.Frames.EndNoteLaws.{book_by, judged_so}
use Rattle.domain_world.proofs.Judgements.JudgedLaws.{HoldsIf, are_if_taken, judged_hold, onto_hold}
use Rattle.domain_world.proofs.Moves.PlainFormLaws.{heard_plain}

-- ---- the answers of a controller

-- what holds of the call that was judged, if one was, by two facts
both_if : (A B C : Judging → Type 0) → ((j : Judging) → A j → B j → C j) → (j : Option Judging) → HoldsIf A j → IfThere B j → HoldsIf C j
both_if A B C so None one other = tt
both_if A B C so (Some j) one other = so j one other

both_all : (A B C : Judging → Type 0) → ((j : Judging) → A j → B j → C j) → (answers : List Answered) → AllByRecursion (λ (one : Answered). HoldsIf A one.judging) answers →
    AllByRecursion (λ (one : Answered). IfThere B one.judging) answers → AllByRecursion (λ (one : Answered). HoldsIf C one.judging) answers
both_all A B C so [] one other = tt
both_all A B C so (answer ∷ answers) one other = (both_if A B C so answer.judging one.0 other.0, both_all A B C so answers one.1 other.1)

-- the call came so, if it came in a unit of the bag
abbrev IsCarriedBy : List BagUnit → Judging → Type 0
IsCarriedBy bag j = CarriedIf bag j.source j.number j.asked

served_carried : (bag : List BagUnit) (w : Where) (link : ℕ) (units : List (ServedUnit Desk Talk)) → AllHeardSo (CarriedIf bag w.source) link units →
    AllByRecursion (λ (one : Answered). HoldsIf (IsCarriedBy bag) one.judging) (map (answer_on link w) units)
served_carried bag w link [] all = tt
served_carried bag w link (unit ∷ units) all = (
  answer_holds (IsCarriedBy bag) (CarriedIf bag w.source) (hear_unit link unit.bytes unit.talk) w unit.work (work_after unit.part) (λ line asked is. is) all.0,
  served_carried bag w link units all.1,
)

-- by where the bytes come from
units_so : (source : Source) (c : ControllerState) (at : ℕ) (s : State) (w : Delivery) (piece : List ℕ) → w.source ≡ source → QuietState s → JudgedStand s.bag [] → ControllerIsQuiet s.links c →
    IsAtSide s.links w.link w.back (Controller at) → CameFrom source s w piece → AreBytes piece →
    AllHeardSo (CarriedIf s.bag w.source) w.link (units_by c.running w.link piece c s.moment s.chances.left)
units_so Outside c at s w piece is quiet stand own side came bytes =
    any_heard (CarriedIf s.bag w.source) w.link (units_by c.running w.link piece c s.moment s.chances.left) (λ number asked n there. absurd (let never = sym is ∙ there in cc))
units_so (InUnit number) c at s w piece is quiet stand own side came bytes =
    let whole : IsWholeCarried s number w piece = whole_carried s number at w piece quiet.bag stand.kinds side came in
    running_so c s w piece number whole (CarriedIf s.bag w.source) (λ n asked numbered carries. unit_so s number w piece whole is bytes n asked numbered carries) c.running own.well

module _ (at : ℕ) (w : Delivery) (piece : List ℕ) (s after : State) (quiet : QuietState s) where
  controller_stand : (c : ControllerState) (b : Book) → slice_get s.ends.controllers at ≡ Some c → JudgedStand s.bag b.judged → IsAtSide s.links w.link w.back (Controller at) →
      CameFrom w.source s w piece → AreBytes piece → AllByRecursion (IsJudgedWell s.bag) (note_controller (Some c) at w piece s after b).judged
  controller_stand c b is stand side came bytes =
      let own : ControllerIsQuiet s.links c = quiet.controllers at c is in
      let answers : List Answered = answers_of at c w piece s in
      let units : List (ServedUnit Desk Talk) = units_of_controller c w.link piece s.moment s.chances.left in
      let carried : AllHeardSo (CarriedIf s.bag w.source) w.link units =
      are_if_taken (λ (served : ServedUnit Desk Talk). HeardSo (CarriedIf s.bag w.source) (hear_unit w.link served.bytes served.talk))
      (step_of c (event.Bytes w.link piece) s.moment s.chances.left).answer (units_by c.running w.link piece c s.moment s.chances.left)
      (units_so w.source c at s w piece refl quiet (record { kinds = stand.kinds; judged = tt }) own side came bytes) in
      onto_hold (IsJudgedWell s.bag) (judged_of answers (numbers_on w.link true s.bag after.bag)) b.judged
      (judged_hold (IsJudgedWell s.bag)
      (λ j number is. record { carried = is.carried; range = record { table = is.range.table; name = is.range.name; moment = is.range.moment } })
      answers (numbers_on w.link true s.bag after.bag)
      (both_all (IsCarriedBy s.bag) IsJudgedInRange (IsJudgedWell s.bag) (λ j one other. record { carried = one; range = other }) answers
      (served_carried s.bag (at_controller at c w s) w.link units carried)
      (replies_are_read.judged c w.at at w.source w.link piece s.moment s.chances.left own.range quiet.moment quiet.blocks)))
      stand.judged

end_stand : (end : EndId) (w : Delivery) (piece : List ℕ) (s after : State) (b : Book) → QuietState s → JudgedStand s.bag b.judged → IsAtSide s.links w.link w.back end → CameFrom w.source s w piece →
    AreBytes piece → JudgedStand s.bag (note_at (Some end) w piece s after b).judged
end_stand end w piece s after b quiet stand side came bytes =
    book_by (λ (one : EndId) (now : Book). IsAtSide s.links w.link w.back one → JudgedStand s.bag now.judged) w piece s after b (λ one at_side. stand)
    (λ at c is at_side. record { kinds = stand.kinds; judged = controller_stand at w piece s after quiet c b is stand at_side came bytes })
    (λ at m is at_side. subst (λ (js : List Judging). JudgedStand s.bag js) (sym (judged_so.members m at w piece s after b)) stand) (λ at c is at_side. stand) end side

-- ---- all moves

heard_stand : (n : ℕ) (end : EndId) (what : AfterHearing) (given : Given) (b : Book) → JudgedStand what.state.bag b.judged → HasHeard JudgedFact AnyAction n end what given b
heard_stand n end what given b stand = record { holds = stand; fine = any_actions end what.state.links what.actions }

pub judged_keeps : StepKeeps QuietFact JudgedFact AnyAction
judged_keeps = record {
  calm = λ n end what s given b calm quiet stand. heard_stand (n + 1) end (hear end what s) given b stand;
  dialled = λ n end link s given b side quiet stand. heard_stand (n + 1) end (hear end (event.Dialled link) s) given b stand;
  opens = λ n route s given b quiet stand.
      heard_stand (n + 1) (acceptor_of route) (hear (acceptor_of route) (event.Opened (length s.links)) (with_link route s)) given b stand;
  begins = λ n k plan s given b is quiet stand. heard_stand (n + 1) (Client k) (begun k plan s) given b stand;
  comes = λ n end w piece s given b side came bytes marked quiet stand.
      heard_stand (n + 1) end (hear end (event.Bytes w.link piece) s) given (note_at (Some end) w piece s (hear_and_act end (event.Bytes w.link piece) s).state b)
      (end_stand end w piece s (hear_and_act end (event.Bytes w.link piece) s).state b quiet stand side came bytes);
  acts = λ n end what s given b fine quiet stand. acts_stand end what s b.judged stand;
  shuts = λ n link s given b quiet stand. stand;
  answers = λ n link there s given b is quiet stand. stand;
  forgets = λ n end s given b quiet stand. stand;
  settles = λ n number s given b quiet stand. settled_stand number s.bag b.judged stand;
  dials = λ n s given b quiet stand. stand;
  renews = λ n end s given b quiet stand. stand;
  changes = λ n member secret s given b quiet stand. heard_stand (n + 1) (Member member) (changed member secret s) given b stand;
  ticks = λ n more s given b quiet stand. stand;
  over = λ n at s given b quiet stand. stand;
}

-- ---- a run

pub judged_first : JudgedStand [] []
judged_first = record { kinds = λ n unit there. absurd (got_nothing n unit there); judged = tt }

module _ (plan : Plan) (moves : List Move) (nobody : IsPlainAlone plan) (is : IsSchedule plan moves) where
  pub judged_stand : JudgedStand (past plan moves).world.state.bag (past plan moves).book.judged
  judged_stand =
      let ran : HoldsAfterRun (BothFacts QuietFact JudgedFact) plan moves =
      run_keeps (BothFacts QuietFact JudgedFact) (BothFine QuietAction AnyAction) (join QuietFact JudgedFact QuietAction AnyAction quiet_keeps judged_keeps) plan moves nobody
      (has_bytes plan moves nobody is) (quiet_first plan is.start is.forms, judged_first) in
      ran.holds.1

carried_as : (past : Past) (js : List Judging) → AllByRecursion (IsJudgedWell past.world.state.bag) js →
    AllByRecursion (λ (j : Judging). (n : ℕ) → j.source ≡ InUnit n → IsJudgedAsCarried past j n) js
carried_as past [] all = tt
carried_as past (j ∷ js) all = (
  (λ n came.
      let its : IsCarriedCall past.world.state.bag j.number j.asked n = all.0.carried n came in
      record {
        carrier = its.carrier;
        there = its.there;
        whole = record {
          frames = its.whole.frames;
          unit = its.whole.unit;
          heard = heard_plain past.book.sent n its.carrier its.whole.frames its.whole.unit its.whole.heard;
        };
        number = its.number_is;
        carried = its.carried;
      }),
  carried_as past js all.1,
)

-- each call that was judged is that of the unit in which it came
pub judged_as_carried : OfSchedules (λ plan moves. JudgedAsCarried (past plan moves))
judged_as_carried plan moves nobody is = carried_as (past plan moves) (past plan moves).book.judged (judged_stand plan moves nobody is).judged

-- ---- replies

-- a reply to a call that passed is read as it was made
pub replies_back : OfSchedules (λ plan moves. RepliesAreReadBack (past plan moves))
replies_back plan moves nobody is n unit one there noted channel number request place j judged mark reply whole =
    let well : IsJudgedWell (past plan moves).world.state.bag j =
    got_all (IsJudgedWell (past plan moves).world.state.bag) (past plan moves).book.judged place j (judged_stand plan moves nobody is).judged judged in
    let call : IsCarriedCall (past plan moves).world.state.bag j.number j.asked request = well.carried request reply.came in
    (replies_are_read.read j (plain_form (past plan moves).book.sent n unit) reply.carries whole.frames whole.unit well.range call.level whole.heard).read
