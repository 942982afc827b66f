-- In every run each unit that goes back and was made for a channel was made by a controller that is there: so a member
-- that takes an answer has a controller in its plan. It serves `schedules_are_heard`.
use Rattle.std.proofs.Common.{◌≡◌, ℕ, ◌<◌, Bool, true, false, List, [], ◌∷◌, length, map, Option, Some, None, refl, sym, subst, ◌∙◌}
use Rattle.std.specs.List.{AllByRecursion}
use Rattle.std.proofs.lemmas.List.{length-set}
use Rattle.authenticators.specs.Channels.{ChannelIdentity}
use Rattle.authenticators.specs.SecureChannels.{SecureChannelState}
use Rattle.end_links.specs.Serving.{ServedUnit}
use Rattle.domain_controller.specs.Hearing.{hear}
use Rattle.domain_controller.specs.Machine.{Desk}
use Rattle.domain_controller.specs.declared.hearing.Heard.{Heard}
use Rattle.controller_calls.specs.declared.line.Line.{Line}
use Rattle.domain_controller.specs.declared.state.Talk.{Talk}
use Rattle.domain_controller.proofs.TurnOutLaws.{got_inside}
use Rattle.domain_controller.proofs.TrustPlaceLaws.{got_all}
use Rattle.channel_events.specs.Marks.{Mark, Plain, Opening, Opened, Calling, ReplyTo}
use Rattle.wire_base.proofs.ListLaws.{all_weaker, some_is}
use Rattle.step_notes.specs.ControllerNotes.{Where, answer_on, call_answer, identity_by, channel_in, has_passed, heard_answer, judging_by, judging_of, opened_by, opened_mark, opening, passing, reply_mark, units_of_controller}
use Rattle.step_notes.specs.Marking.{answered_marks, mark_channel}
use Rattle.step_notes.specs.Records.{Book, Judging, computer_named, unit_in, OfMember}
use Rattle.controller_calls.specs.declared.calls.ControllerCall.{ControllerCall}
use Rattle.step_notes.specs.Served.{work_after}
use Rattle.world_moves.specs.declared.bag.BagUnit.{BagUnit}
use Rattle.world_moves.specs.declared.moves.Move.{Move}
use Rattle.world_moves.specs.declared.plan.Plan.{Plan}
use Rattle.world_moves.specs.Alone.{IsPlainAlone}
use Rattle.world_moves.specs.Plain.{plain_world}
use Rattle.domain_world.specs.Accepting.Answered.{IsItsWay}
use Rattle.domain_world.specs.Past.{at_controller, is_sent_on, marks_by, marks_of, past}
use Rattle.step_notes.specs.MemberNotes.{turn_units}
use Rattle.domain_world.proofs.Acceptance.Turns.TurnFactLaws.{MarksAreKnown}
use Rattle.domain_world.proofs.Acceptance.Turns.TurnQuietLaws.{step_same}
use Rattle.domain_world.proofs.Frames.BagFrameLaws.{IsOfUnit, MarksStay, UnitFact, run_stays_marked, member_marks}
use Rattle.domain_world.proofs.Frames.FrameLaws.{Fact, StaysWritten, run_stays}
use Rattle.domain_world.proofs.Calls.MarkWayLaws.{IsRequest, if_marked, marks_have_their_way, turns_way}
use Rattle.controller_calls.specs.declared.calls.ControllerCall.TheVariants as call
use Rattle.domain_controller.specs.declared.hearing.Heard.TheVariants as heard

-- ---- what controllers mark

module _ (count : ℕ) where
  abbrev IfChannel : Option ChannelIdentity → Type 0
  IfChannel None = Unit {0}
  IfChannel (Some channel) = channel.controller < count

  -- a mark of a reply is of a channel with one of so many controllers
  abbrev IsKnownMark : Mark → Type 0
  IsKnownMark Plain = Unit {0}
  IsKnownMark (Opening channel number) = Unit {0}
  IsKnownMark (Opened channel number request) = channel.controller < count
  IsKnownMark (Calling channel number timestamp) = Unit {0}
  IsKnownMark (ReplyTo channel number request) = channel.controller < count

  by_known : (controller : ℕ) (computer : List ℕ) (found : Option SecureChannelState) → controller < count → IfChannel (identity_by controller computer found)
  by_known controller computer None few = tt
  by_known controller computer (Some c) few = few

  in_known : (controller : ℕ) (computer : Option (List ℕ)) (checks : Option SecureChannelState) → controller < count → IfChannel (channel_in controller computer checks)
  in_known controller None checks few = tt
  in_known controller (Some computer) checks few = by_known controller computer checks few

  opened_known : (unit : Option ℕ) (channel : ChannelIdentity) (number : ℕ) → channel.controller < count → IsKnownMark (opened_mark unit channel number)
  opened_known None channel number few = tt
  opened_known (Some unit) channel number few = few

  opening_known : (channel : Option ChannelIdentity) (w : Where) (number kind : ℕ) → IfChannel channel → IsKnownMark (opening channel w number kind).mark
  opening_known None w number kind few = tt
  opening_known (Some channel) w number kind few = opened_known (unit_in w.source) channel number few

  reply_known : (unit : Option ℕ) (channel : ChannelIdentity) (number : ℕ) → channel.controller < count → IsKnownMark (reply_mark unit channel number)
  reply_known None channel number few = tt
  reply_known (Some unit) channel number few = few

  passing_known : (channel : Option ChannelIdentity) (j : Judging) → IfChannel channel → IsKnownMark (passing channel j).mark
  passing_known None j few = tt
  passing_known (Some channel) j few = reply_known (unit_in j.source) channel j.number few

  judging_known : (passed : Bool) (j : Judging) → j.controller < count → IsKnownMark (judging_by passed j).mark
  judging_known false j few = tt
  judging_known true j few = passing_known (channel_in j.controller (computer_named j.asked) j.checks) j (in_known j.controller (computer_named j.asked) j.checks few)

  call_known : (c : ControllerCall) (line : Line) (w : Where) (before : Desk) (after : Option Desk) → w.controller < count → IsKnownMark (call_answer c line w before after).mark
  call_known (call.Challenge c) line w before after few = tt
  call_known (call.Authenticate c) line w before after few = opening_known (opened_by w.controller c before) w line.call c.channel (by_known w.controller c.computer _ few)
  call_known (call.Judged c) line w before after few = judging_known (has_passed (judging_of w line c before after).how) (judging_of w line c before after) few

  heard_known : (what : Heard) (w : Where) (before : Desk) (after : Option Desk) → w.controller < count → IsKnownMark (heard_answer what w before after).mark
  heard_known (heard.Close cause) w before after few = tt
  heard_known (heard.Answer bytes talk) w before after few = tt
  heard_known (heard.Waits talk) w before after few = tt
  heard_known (heard.Asked line c talk) w before after few = call_known c line w before after few

  answers_known : (link : ℕ) (w : Where) (units : List (ServedUnit Desk Talk)) → w.controller < count → AllByRecursion IsKnownMark (answered_marks (map (answer_on link w) units))
  answers_known link w [] few = tt
  answers_known link w (unit ∷ units) few =
      if_marked IsKnownMark (answer_on link w unit).sends (answer_on link w unit).mark (answered_marks (map (answer_on link w) units))
      (heard_known (hear link unit.bytes unit.talk) w unit.work (work_after unit.part) few) (answers_known link w units few)

  -- ---- what members mark

  request_known : (mark : Mark) → IsRequest mark → IsKnownMark mark
  request_known Plain is = tt
  request_known (Opening channel number) is = tt
  request_known (Opened channel number request) is = let x = is in cc
  request_known (Calling channel number timestamp) is = tt
  request_known (ReplyTo channel number request) is = let x = is in cc

  marked_by : (on : Bool) (marks : List Mark) (later : List Mark → List Mark) → AllByRecursion IsKnownMark marks →
      ((rest : List Mark) → AllByRecursion IsKnownMark rest → AllByRecursion IsKnownMark (later rest)) → AllByRecursion IsKnownMark (marks_by on marks later)
  marked_by false marks later all so = (tt, so marks all)
  marked_by true [] later all so = (tt, so [] tt)
  marked_by true (mark ∷ marks) later all so = (all.0, so marks all.1)

  marks_all : (link : ℕ) (back : Bool) (units : List BagUnit) (marks : List Mark) → AllByRecursion IsKnownMark marks → AllByRecursion IsKnownMark (marks_of link back units marks)
  marks_all link back [] marks all = tt
  marks_all link back (unit ∷ units) marks all =
      marked_by (is_sent_on link back unit) marks (λ rest. marks_of link back units rest) all (λ rest each. marks_all link back units rest each)

  -- ---- a run

  abbrev OfUnit : UnitFact (Unit {0})
  OfUnit x number unit mark = IsKnownMark mark

  abbrev SoMany : Unit {0} → Fact
  SoMany x ends chances links = length ends.controllers ≡ count

  many_stay : StaysWritten (λ (b : Book). tt) SoMany
  many_stay = record {
    stays = λ x. record {
      hears = λ end what now ends chances links quiet holds. sym (step_same end what now ends chances).controllers ∙ holds;
      opens = λ route now ends chances links holds. sym (step_same _ _ now ends chances).controllers ∙ holds;
      controllers = λ c at ends chances links there holds. length-set ends.controllers at _ ∙ holds;
      members = λ plan at ends chances links holds. holds;
      changes = λ secret running at ends chances links is none holds. holds;
      clients = λ client at ends chances links holds. holds;
    };
    bytes = λ end w piece s after b holds. sym (step_same end _ s.moment s.ends s.chances).controllers ∙ holds;
    given = λ at given after b. refl;
  }

  marks_stay : MarksStay (λ (b : Book). tt) SoMany OfUnit
  marks_stay = record {
    plain = λ x number unit. tt;
    settles = λ x number unit mark is. is;
    grows = λ end w piece s after b number unit one holds there sent is. is;
    controllers = λ c at w piece s after b number unit mark there holds even new.
        got_all IsKnownMark (answered_marks (map (answer_on w.link (at_controller at c w s)) (units_of_controller c w.link piece s.moment s.chances.left))) new.place mark
        (answers_known w.link (at_controller at c w s) (units_of_controller c w.link piece s.moment s.chances.left)
        (subst (λ (n : ℕ). at < n) holds (got_inside s.ends.controllers at c there))) new.marked;
    members = λ m at w piece s b there holds side even units is on place unit mark got marked.
        let marks : List Mark = member_marks at m w piece s in
        got_all IsKnownMark (marks_of w.link false units marks) place mark
        (marks_all w.link false units marks
        (all_weaker IsRequest IsKnownMark marks request_known (turns_way (OfMember at) s (turn_units m w.link piece s.moment s.chances.left)))) marked;
  }

  -- by which way the unit goes
  known_by : (mark : Mark) (back : Bool) (named : ChannelIdentity) → IsItsWay back mark → back ≡ true → IsKnownMark mark → mark_channel mark ≡ Some named → named.controller < count
  known_by Plain back named way is known made = let x = made in cc
  known_by (Opening channel number) back named way is known made = let both : true ≡ false = sym is ∙ way in absurd (let x = both in cc)
  known_by (Opened channel number request) back named way is known made = subst (λ (c : ChannelIdentity). c.controller < count) (some_is channel named made) known
  known_by (Calling channel number timestamp) back named way is known made = let both : true ≡ false = sym is ∙ way in absurd (let x = both in cc)
  known_by (ReplyTo channel number request) back named way is known made = subst (λ (c : ChannelIdentity). c.controller < count) (some_is channel named made) known

pub marks_known : (plan : Plan) (moves : List Move) → IsPlainAlone plan → MarksAreKnown (past plan moves).world.state (past plan moves).book
marks_known plan moves nobody n unit one named there back noted made =
    let count : ℕ = length (plain_world plan).state.ends.controllers in
    let is : IsOfUnit (OfUnit count) tt (past plan moves).world.state.bag n one.mark =
    run_stays_marked (λ (b : Book). tt) (SoMany count) (OfUnit count) (many_stay count) (marks_stay count) plan moves nobody refl n one noted in
    subst (λ (c : ℕ). named.controller < c) (sym (run_stays (λ (b : Book). tt) (SoMany count) (many_stay count) plan moves nobody refl))
    (known_by count one.mark unit.back named (marks_have_their_way plan moves nobody.plain n unit one there noted) back is.holds made)
