-- Each unit that goes out on a link of a secure channel has its mark.
-- It serves `units_have_their_marks`.
use Rattle.std.proofs.Common.{◌≡◌, ℕ, Bool, true, false, List, [], ◌∷◌, ◌++◌, map, Option, Some, None, Result, Ok, Err, refl, sym, ap, ap₂, ◌∙◌, subst}
use Rattle.std.proofs.lemmas.List.{append-nil, flat_map_more, map-append}
use Rattle.std.proofs.lemmas.List.Concat.{flat_map-append}
use Rattle.authenticators.specs.Channels.{ChannelIdentity}
use Rattle.outside.specs.declared.action.Action.{Action}
use Rattle.outside.specs.declared.action.Action.TheVariants as action
use Rattle.outside.specs.declared.event.Event.TheVariants as event
use Rattle.rpc_units.specs.declared.refused.JoinRefused.{JoinRefused}
use Rattle.rpc_units.specs.declared.refused.JoinRefused.TheVariants as join
use Rattle.rpc_units.specs.declared.refused.UnitRefused.{UnitRefused}
use Rattle.rpc_units.specs.declared.unit.Unit.{Unit as RpcUnit}
use Rattle.rpc_units.specs.Joining.{answer_of, open_after}
use Rattle.rpc_units.specs.Reading.{unit_of}
use Rattle.channel_client.specs.Effects.{step_in}
use Rattle.channel_client.specs.Machine.{take_of}
use Rattle.channel_client.specs.State.{Requester}
use Rattle.channel_client.specs.declared.answers.Taken.{Taken}
use Rattle.channel_client.specs.declared.answers.Taken.TheVariants as taken
use Rattle.channel_client.specs.declared.state.Question.TheVariants as question
use Rattle.channel_client.specs.declared.state.Standing.{Standing}
use Rattle.channel_client.specs.declared.state.Standing.TheVariants as standing
use Rattle.channel_client.specs.declared.state.Step.{Step}
use Rattle.channel_client.specs.declared.state.Step.TheVariants as step
use Rattle.channel_client.specs.declared.state.SetStep.TheVariants as set_step
use Rattle.domain_controller.specs.Machine.{Desk, answer_authenticate, answer_challenge, answer_judged}
use Rattle.domain_controller.specs.State.{State as ControllerState}
use Rattle.domain_controller.specs.Step.{step_of}
use Rattle.member_server.specs.Turns.{AtTurn, TurnServed, do_taken, turn_by_join, turn_server, turn_unit, with_requester, with_work}
use Rattle.channel_turns.specs.declared.state.TurnTalk.{TurnTalk}
use Rattle.channel_events.specs.Marks.{Mark}
use Rattle.step_notes.specs.ChannelNames.{IsMarkedBy, UnitsHaveTheirMarks, link_sent, links_sent, turn_served}
use Rattle.step_notes.specs.ControllerNotes.{Answered, Where, answer_on, judged_answer, plain, silent, units_of_controller, channel_in, checked_on, has_passed, judging_by, judging_of, opened_by, opening, passing}
use Rattle.step_notes.specs.Marking.{answered_marks, mark_if}
use Rattle.step_notes.specs.MemberNotes.{asked_note, taken_note, taking_joined, taking_note, taking_read, turn_note}
use Rattle.step_notes.specs.Records.{Judging, computer_named, given_in}
use Rattle.controller_calls.proofs.ReplyLaws.{Replies, authenticate_replies, challenge_replies, read_behind}
use Rattle.step_notes.proofs.Controllers.JudgedStepLaws.{Told, told_call}
use Rattle.step_notes.proofs.Controllers.NotedLaws.{NotedFact, StaysThrough, step_says}
use Rattle.step_notes.specs.Served.{talk_after, work_after}

-- ---- sends

one_more : (actions : List Action) (link : ℕ) (bytes : List ℕ) → links_sent (actions ++ action.Send link bytes ∷ []) ≡ links_sent actions ++ link ∷ []
one_more actions link bytes = flat_map-append link_sent actions (action.Send link bytes ∷ [])

-- ---- a unit that a controller answers has one mark

opening_sends : (channel : Option ChannelIdentity) (w : Where) (number kind : ℕ) → (opening channel w number kind).sends ≡ true
opening_sends None w number kind = refl
opening_sends (Some channel) w number kind = refl

passing_sends : (channel : Option ChannelIdentity) (j : Judging) → (passing channel j).sends ≡ true
passing_sends None j = refl
passing_sends (Some channel) j = refl

judging_sends : (passed : Bool) (j : Judging) → (judging_by passed j).sends ≡ true
judging_sends false j = refl
judging_sends true j = passing_sends (channel_in j.controller (computer_named j.asked) j.checks) j

-- the link, once for each mark
abbrev once_each : ℕ → List Mark → List ℕ
once_each link marks = map (λ (mark : Mark). link) marks

abbrev marks_in : Answered → List Mark
marks_in one = mark_if one.sends one.mark

module _ (link : ℕ) where
  -- there are as many sends on the link as there are marks
  abbrev HasMarks : NotedFact
  HasMarks answers d left = links_sent d.work.actions ≡ once_each link (answered_marks answers)

  further : (answers : List Answered) (one : Answered) (old new : List Action) → links_sent old ≡ once_each link (answered_marks answers) →
      links_sent new ≡ links_sent old ++ once_each link (marks_in one) → links_sent new ≡ once_each link (answered_marks (answers ++ one ∷ []))
  further answers one old new has is =
      is
      ∙ ap (λ (sent : List ℕ). sent ++ once_each link (marks_in one)) has
      ∙ sym (map-append (λ (mark : Mark). link) (answered_marks answers) (marks_in one))
      ∙ ap (once_each link) (flat_map_more marks_in [] answers one)

  -- one send more, for one mark
  answered : (answers : List Answered) (one : Answered) (old new : List Action) (on : ℕ) → on ≡ link → one.sends ≡ true → links_sent old ≡ once_each link (answered_marks answers) →
      links_sent new ≡ links_sent old ++ on ∷ [] → links_sent new ≡ once_each link (answered_marks (answers ++ one ∷ []))
  answered answers one old new on is sends has more =
      further answers one old new has
      (more ∙ ap₂ (λ (n : ℕ) (sends : Bool). links_sent old ++ once_each n (mark_if sends one.mark)) is (sym sends))

  marks_stay : (w : Where) (name : List ℕ) (now : ℕ) → StaysThrough w link name now HasMarks
  marks_stay w name now = record {
    closes = λ answers d left cause has. flat_map-append link_sent d.work.actions (action.Close link cause ∷ []) ∙ append-nil (links_sent d.work.actions) ∙ has;
    waits = λ answers d left has. further answers silent d.work.actions d.work.actions has (sym (append-nil (links_sent d.work.actions)));
    sends = λ answers d left bytes has. answered answers plain d.work.actions (d.work.actions ++ action.Send link bytes ∷ []) link refl refl has (one_more d.work.actions link bytes);
    challenge = λ answers d left line c server on has.
        let its : Replies line d.work (answer_challenge d.table line c server d.work) = challenge_replies d.table line c server d.work in
        answered answers plain d.work.actions (answer_challenge d.table line c server d.work).actions line.link on refl has (ap links_sent its.actions ∙ one_more d.work.actions line.link its.bytes);
    authenticate = λ answers d left line c on has.
        let its : Replies line d.work (answer_authenticate d.table line c d.work) = authenticate_replies d.table line c d.work in
        answered answers (opening (opened_by w.controller c d) w line.call c.channel) d.work.actions (answer_authenticate d.table line c d.work).actions line.link on (opening_sends (opened_by w.controller c d) w line.call c.channel) has
        (ap links_sent its.actions ∙ one_more d.work.actions line.link its.bytes);
    judged = λ answers d left line c on has.
        let after : Desk = answer_judged c name now line d in
        let told : Told line d.work.actions after.work.actions (checked_on (computer_named c) d.work.computers) (given_in c) = told_call c name now line d in
        let j : Judging = judging_of w line c d (Some after) in
        answered answers (judged_answer j) d.work.actions after.work.actions line.link on (judging_sends (has_passed j.how) j) has
        (ap links_sent told.is ∙ read_behind link_sent (λ text. refl) d.work.actions told.kept told.how line.link told.answer told.are_kept);
  }

-- ---- a step of a controller, when bytes come

step_marked : (c : ControllerState) (link : ℕ) (piece : List ℕ) (now : ℕ) (left : List (List ℕ)) (w : Where) (actions : List Action) →
    (step_of c (event.Bytes link piece) now left).answer ≡ Ok actions →
    links_sent actions ≡ once_each link (answered_marks (map (answer_on link w) (units_of_controller c link piece now left)))
step_marked c link piece now left w =
    step_says w link c piece now left (λ running. HasMarks link)
    (λ answers stepped. (actions : List Action) → stepped.answer ≡ Ok actions → links_sent actions ≡ once_each link (answered_marks answers))
    (record {
      stays = λ running. marks_stay link w c.name now;
      first = λ running runs. refl;
      stopped = λ ends actions is. absurd cc;
      spent = λ actions is. absurd cc;
      taken = λ running answers d links rest runs has actions is. let same : d.work.actions ≡ actions = cc in ap links_sent (sym same) ∙ has;
    })

-- ---- a unit on the link of a member's turn

pub asked_sends : (st : Option Step) (how : Standing) (controller : ℕ) (before after : Requester) → (asked_note st how controller before after).sends ≡ true
asked_sends None how controller before after = refl
asked_sends (Some (step.Bind c)) how controller before after = refl
asked_sends (Some (step.Reply (question.Challenge client))) how controller before after = refl
asked_sends (Some (step.Reply question.Authenticate)) standing.Nothing controller before after = refl
asked_sends (Some (step.Reply question.Authenticate)) (standing.Half client server) controller before after = refl
asked_sends (Some (step.Reply question.Authenticate)) (standing.Open o) controller before after = refl
asked_sends (Some (step.Reply question.Logon)) standing.Nothing controller before after = refl
asked_sends (Some (step.Reply question.Logon)) (standing.Half client server) controller before after = refl
asked_sends (Some (step.Reply question.Logon)) (standing.Open o) controller before after = refl
asked_sends (Some (step.Set (set_step.Bind c))) how controller before after = refl
asked_sends (Some (step.Set set_step.Reply)) standing.Nothing controller before after = refl
asked_sends (Some (step.Set set_step.Reply)) (standing.Half client server) controller before after = refl
asked_sends (Some (step.Set set_step.Reply)) (standing.Open o) controller before after = refl

abbrev pub IsServedBy : Bool → AtTurn → TurnServed → Type 0
IsServedBy sends before served = IsMarkedBy sends served.1 before served.0

-- the member at work, whose channel is now so
abbrev pub with_channel : AtTurn → Requester → AtTurn
with_channel at channel = with_work at (with_requester at.work channel)

taken_marked : (what : Taken) (joiner : Option RpcUnit) (at : AtTurn) (controller : ℕ) (before after : Requester) →
    IsServedBy (taken_note what controller before after).sends at (do_taken what joiner (with_channel at after))
taken_marked (taken.Skip right) joiner at controller before after = refl
taken_marked (taken.Next right frames) joiner at controller before after =
    subst (λ (sends : Bool). IsServedBy sends at (do_taken (taken.Next right frames) joiner (with_channel at after)))
    (sym (asked_sends (step_in after.turn) after.standing controller before after)) (one_more at.work.actions at.link _)
taken_marked taken.Half joiner at controller before after = tt
taken_marked taken.Opened joiner at controller before after = tt
taken_marked (taken.Answer place verdict) joiner at controller before after = tt
taken_marked (taken.Dropped place cause) joiner at controller before after = tt
taken_marked taken.Set joiner at controller before after = tt

joined_marked : (joined : Result (Option RpcUnit) JoinRefused) (later : Option RpcUnit) (at : AtTurn) (controller : ℕ) →
    IsServedBy (taking_note (taking_joined joined at.work.logons.channel) controller at.work.logons.channel).sends at (turn_by_join joined later at)
joined_marked (Err join.OutOfPlace) later at controller = tt
joined_marked (Err join.CallTooLong) later at controller = tt
joined_marked (Err join.Memory) later at controller = tt
joined_marked (Ok None) later at controller = refl
joined_marked (Ok (Some unit)) later at controller =
    let taking = take_of at.work.logons.channel unit in
    taken_marked taking.taken later at controller at.work.logons.channel taking.state

read_marked : (read : Result RpcUnit UnitRefused) (joiner : Option RpcUnit) (at : AtTurn) (controller : ℕ) →
    IsServedBy (taking_note (taking_read read joiner at.work.logons.channel) controller at.work.logons.channel).sends at (turn_unit read joiner at)
read_marked (Err why) joiner at controller = tt
read_marked (Ok unit) joiner at controller = joined_marked (answer_of joiner unit) (open_after joiner unit) at controller

turn_marked : (controller : ℕ) (bytes : List ℕ) (before after : AtTurn) (talk : TurnTalk) (left : List (List ℕ)) → work_after (turn_server.unit bytes before talk left) ≡ Some after →
    IsMarkedBy (turn_note controller (turn_served bytes before talk left)).sends (talk_after (turn_server.unit bytes before talk left)) before after
turn_marked controller bytes before after talk left is =
    let same : (turn_unit (unit_of bytes) talk.joiner before).0 ≡ after = cc in
    subst (λ (at : AtTurn). IsMarkedBy (turn_note controller (turn_served bytes before talk left)).sends (talk_after (turn_server.unit bytes before talk left)) before at) same
    (read_marked (unit_of bytes) talk.joiner before controller)

-- each unit has its mark
pub units_have_marks : UnitsHaveTheirMarks
units_have_marks = record {
  controller = λ c number piece now left w actions is. step_marked c number piece now left w actions is;
  member = λ controller bytes before after talk left is. turn_marked controller bytes before after talk left is;
}
