-- What is written down where a unit of a turn, or of a client's link, comes at its end, as the world is seen then.
-- It serves `Proved.one_by_one`, and `a_run_is_clear` of claim_examples.
use Rattle.std.proofs.Common.{◌≡◌, ℕ, ◌+◌, ◌≤◌, ◌<◌, ◌^◌, arith, Bool, true, false, List, [], ◌∷◌, ◌++◌, length, map, Option, Some, refl, sym, ap, ap₂, subst, ◌∙◌, slice_get, append-nil}
use Rattle.std.specs.Prelude.{◌||◌, ◌&&◌}
use Rattle.std.specs.List.{AllByRecursion}
use Rattle.outside.specs.declared.action.Action.{Action}
use Rattle.outside.specs.declared.action.Action.TheVariants as action
use Rattle.outside.specs.declared.action.Judged.{Judged}
use Rattle.outside.specs.declared.event.Event.TheVariants as event
use Rattle.outside.specs.Machine.{Stepped, whole_step}
use Rattle.rpc_units.specs.Calls.{CanBeSent, bytes_of_call}
use Rattle.rpc_units.specs.Joining.{stub_of}
use Rattle.rpc_units.specs.declared.unit.Unit.{Unit as RpcUnit}
use Rattle.rpc_units.specs.Writing.{written}
use Rattle.end_links.specs.Binding.{bind_of}
use Rattle.logon_stubs.specs.declared.calls.Call.{Call}
use Rattle.logon_stubs.specs.declared.calls.Reply.{Reply}
use Rattle.channel_client.specs.Machine.{after, question_of, take_of, wait_for}
use Rattle.channel_client.specs.State.{Requester}
use Rattle.channel_client.specs.declared.answers.Taken.TheVariants as taken
use Rattle.channel_client.specs.declared.state.SetStep.TheVariants as set_step
use Rattle.channel_client.specs.declared.state.Question.{Question}
use Rattle.channel_client.specs.declared.state.Standing.{Standing}
use Rattle.channel_client.specs.declared.state.Step.{Step}
use Rattle.channel_client.specs.declared.state.Step.TheVariants as step
use Rattle.authenticators.specs.Channels.{ChannelIdentity}
use Rattle.logon_stubs.specs.Interface.{netlogon_syntax}
use Rattle.channel_events.specs.Marks.{Mark}
use Rattle.domain_controller.specs.Hearing.{first_talk, served_call}
use Rattle.domain_controller.specs.Machine.{Desk}
use Rattle.domain_controller.specs.State.{State as ControllerState}
use Rattle.domain_controller.specs.Trusting.{no_trusting}
use Rattle.domain_controller.specs.Step.{first_desk, step_of as controller_step_of}
use Rattle.domain_controller.specs.TrustStep.{trust_step_of}
use Rattle.domain_controller.proofs.TrustAloneLaws.{steps_alone}
use Rattle.controller_calls.specs.declared.calls.ControllerCall.{ControllerCall}
use Rattle.controller_calls.specs.declared.state.Computers.{Computers}
use Rattle.secret_change.specs.declared.calls.SetCall.{SetCall}
use Rattle.member_server.specs.Machine.{step_of as member_step_of}
use Rattle.logon_client.specs.declared.state.Phase.{Phase as ClientPhase}
use Rattle.member_server.specs.declared.state.Talk.{Talk}
use Rattle.member_server.specs.State.{State as MemberState}
use Rattle.step_notes.specs.ControllerNotes.{Answered, Where, answer_on, plain, units_of_controller}
use Rattle.step_notes.specs.Marking.{answered_marks, clashes, mark_channel, turn_marks}
use Rattle.step_notes.specs.MemberNotes.{TurnNote, asked_note, request_note, taking_note, turn_note, turn_units}
use Rattle.step_notes.specs.Records.{Book, Judging, Sent, OfMember}
use Rattle.world_moves.specs.declared.bag.BagUnit.{BagUnit}
use Rattle.world_moves.specs.declared.links.EndId.{EndId}
use Rattle.world_moves.specs.declared.links.EndId.TheVariants.{Client, Controller, Member}
use Rattle.world_moves.specs.declared.links.Route.{Route}
use Rattle.world_moves.specs.declared.links.Route.TheVariants.{ToController}
use Rattle.world_moves.specs.declared.moves.Move.TheVariants as move
use Rattle.world_moves.specs.declared.state.State.{State}
use Rattle.world_moves.specs.Acting.{AfterHearing, done, sent_if, unit_on}
use Rattle.world_moves.specs.Bag.{first_waiting}
use Rattle.world_moves.specs.Ends.{EndStates}
use Rattle.world_moves.specs.Links.{OpenMap}
use Rattle.world_moves.specs.MemberPlans.{but_secret}
use Rattle.world_moves.specs.Moving.{connect, end_of_peer, settle, start}
use Rattle.domain_world.specs.Past.{Delivery, any_clash, at_controller, controller_number, controller_of_plan, is_sent_on, judged_of, note, note_at, note_client, note_controller, note_member, numbers_on, onto, controller_asked}
use Rattle.logon_steps.specs.BesideTrusts.{at_no_trusts}
use Rattle.logon_steps.specs.ControllerTurns.{controller_at, one_link, turn_link}
use Rattle.logon_steps.specs.MemberLinks.{one_link as client_link}
use Rattle.logon_steps.specs.MemberTurns.{logons_keeping, member_at, on_turn}
use Rattle.logon_steps.specs.SetTurns.{set_request}
use Rattle.logon_steps.specs.Turning.{IsTurnCall, IsTurnReply, turn_ack, turn_request, turn_response}
use Rattle.logon_steps.proofs.BesideTrustsLaws.{trusts_stay_beside}
use Rattle.logon_steps.proofs.ControllerTurnLaws.{controllers_step}
use Rattle.logon_steps.proofs.MemberTurnLaws.{turns_step}
use Rattle.logon_steps.proofs.SetTurnLaws.{set_turns_step, set_units_go}
use Rattle.logon_steps.proofs.StreamLaws.{same}
use Rattle.logon_steps.proofs.TurningLaws.{ComesAtOnce, request_comes, response_comes, response_sends, turn_ack_sends, turn_bind_sends, turns_go_through, unit_comes}
use Rattle.logon_runs.specs.Runs.{connects, goes}
use Rattle.logon_runs.specs.Scenes.LinkScenes.{Meeting, meeting_scene, resting, unit_up}
use Rattle.logon_runs.specs.Scenes.Scene.{HasFirst, Scene, Shows}
use Rattle.logon_runs.specs.Scenes.TurnScenes.{IsBetween, TurnScene, dial_scene, turn_scene, unit_back, unit_there, waiting_scene}
use Rattle.logon_runs.specs.Scenes.WaitingUnits.{after_hearing, with_controller_at, with_member_at}
use Rattle.logon_runs.proofs.Scenes.LinkSceneLaws.{heard_up}
use Rattle.logon_runs.proofs.Scenes.TurnSceneLaws.{heard_back, heard_there}
use Rattle.logon_runs.proofs.Scenes.WaitingLaws.{waiting_comes}
use Rattle.domain_world.proofs.Completeness.HeardOnceLaws.{ComeTo, IsHeardAs, answer_by, bind_answers, heard_answers, turn_hears}
use Rattle.domain_world.proofs.Clear.NotedLaws.{AreOwn, Fine, Leads, Waits, Written, client_fine, controller_fine, given_fine, grows, member_fine, world_at}
use Rattle.domain_world.proofs.Completeness.UnitNotedLaws.{Came, comes_so, coming, state_then}
use Rattle.domain_world.proofs.Frames.AloneNoteLaws.{alone_answers as answers_of, note_controller_alone, state_noted}
use Rattle.domain_world.proofs.Moves.MemberPlanLaws.{controller_but_secret}
use Rattle.domain_world.proofs.Clear.NotedOnLaws.{came_fine, onward_waits, written_few}
use Rattle.domain_world.proofs.Clear.TakenOnceLaws.{asks_notes, own_notes, response_own, rests_quiet, waits_quiet}

-- ---- moves at which no unit comes

pub connect_fine : (s : State) (count : ℕ) → Leads s move.Connect (Fine s count) (Fine (connects s) count)
connect_fine s count k b fine = given_fine k (connect s).given (connects s) count b fine.apart fine.few (omega (arith, fine.marked, grows s move.Connect))

pub start_fine : (s : State) (number count : ℕ) → Leads s (move.Start number) (Fine s count) (Fine (start number s).state count)
start_fine s number count k b fine = given_fine k (start number s).given (start number s).state count b fine.apart fine.few (omega (arith, fine.marked, grows s (move.Start number)))

-- ---- what is written down of a unit that comes

pub record HasWritten (s : State) (unit : BagUnit) (later : List BagUnit) (end : EndId) (came : Came s unit later end) (k link : ℕ) (back : Bool) (count : ℕ) (marks : List Mark) (b : Book) : Type 0 where
  pub now : Book
  pub is : note_at (Some end) (coming k came.number unit) unit.bytes (settle came.number s) (state_then end unit came.number s) b ≡ now
  pub written : Written k link back (settle came.number s) (state_then end unit came.number s) count marks b now
  pub fine : Fine (goes s) count (note (world_at k s) move.Onward b)

controller_comes : (s : State) (unit : BagUnit) (later : List BagUnit) (at : ℕ) (came : Came s unit later (Controller at)) (c : ControllerState) → slice_get s.ends.controllers at ≡ Some c →
    c.trusting ≡ no_trusting → (k count total : ℕ) (b : Book) → Fine s count b → any_clash (answers_of at c (coming k came.number unit) unit.bytes (settle came.number s)) (Some came.number) b.sent ≡ false →
    ((numbers : List ℕ) → length (judged_of (answers_of at c (coming k came.number unit) unit.bytes (settle came.number s)) numbers) + count ≤ total) →
    HasWritten s unit later (Controller at) came k unit.link true total (answered_marks (answers_of at c (coming k came.number unit) unit.bytes (settle came.number s))) b
controller_comes s unit later at came c found nobody k count total b fine own judged =
    let s1 : State = settle came.number s in
    let w : Delivery = coming k came.number unit in
    let after : State = state_then (Controller at) unit came.number s in
    let now : Book = note_controller_alone (Some c) at w unit.bytes s1 after b in
    let is : note_at (Some (Controller at)) w unit.bytes s1 after b ≡ now =
    ap (λ (f : Option ControllerState). note_controller f at w unit.bytes s1 after b) found
    ∙ state_noted at c w unit.bytes s1 after b nobody in
    let written : Written k unit.link true s1 after total (answered_marks (answers_of at c w unit.bytes s1)) b now =
    controller_fine c at w unit.bytes s1 after count total b fine.apart fine.few own (judged (numbers_on unit.link true s1.bag after.bag)) in
    record {
      now = now;
      is = is;
      written = written;
      fine = came_fine s unit later (Controller at) came k total b now is written.apart written.few
          (written_few s unit later (Controller at) came k unit.link true total (answered_marks (answers_of at c w unit.bytes s1)) b now fine.marked written);
    }

member_comes : (s : State) (unit : BagUnit) (later : List BagUnit) (at : ℕ) (came : Came s unit later (Member at)) (m : MemberState) → slice_get s.ends.members at ≡ Some m →
    (controller : ℕ) → controller_asked (OfMember at) s ≡ controller → (k count : ℕ) (b : Book) → Fine s count b →
    AreOwn controller (Some came.number) b.sent (turn_units m unit.link unit.bytes s.moment s.chances.left) →
    HasWritten s unit later (Member at) came k unit.link false count (turn_marks (map (turn_note controller) (turn_units m unit.link unit.bytes s.moment s.chances.left))) b
member_comes s unit later at came m found controller asked k count b fine own =
    let s1 : State = settle came.number s in
    let w : Delivery = coming k came.number unit in
    let after : State = state_then (Member at) unit came.number s in
    let now : Book = note_member (Some m) at w unit.bytes s1 after b in
    let marks : List Mark = turn_marks (map (turn_note controller) (turn_units m unit.link unit.bytes s.moment s.chances.left)) in
    let is : note_at (Some (Member at)) w unit.bytes s1 after b ≡ now = ap (λ (f : Option MemberState). note_member f at w unit.bytes s1 after b) found in
    let written : Written k unit.link false s1 after count marks b now = member_fine m at controller w unit.bytes s1 after count b asked fine.apart fine.few own in
    record {
      now = now;
      is = is;
      written = written;
      fine = came_fine s unit later (Member at) came k count b now is written.apart written.few (written_few s unit later (Member at) came k unit.link false count marks b now fine.marked written);
    }

pub client_comes : (s : State) (unit : BagUnit) (later : List BagUnit) (at count : ℕ) → Came s unit later (Client at) → Leads s move.Onward (Fine s count) (Fine (goes s) count)
client_comes s unit later at count came k b fine =
    let s1 : State = settle came.number s in
    let w : Delivery = coming k came.number unit in
    let now : Book = note_client (slice_get s.ends.clients at) at w unit.bytes s1 b in
    let same_so = client_fine (slice_get s.ends.clients at) at w unit.bytes s1 b in
    came_fine s unit later (Client at) came k count b now refl (same_so.0 ∙ fine.apart) (omega (arith, fine.few, ap (λ (judged : _). length judged) same_so.1))
    (omega (arith, fine.marked, grows s move.Onward, ap (λ (sent : List Sent). length sent) same_so.2))

-- ---- a unit goes out on the link of the turn

bag_sent : (end : EndId) (ends : EndStates) (left : List (List ℕ)) (link member controller : ℕ) (bytes : List ℕ) (s : State) → slice_get s.links link ≡ Some (ToController member controller) →
    (done end (after_hearing ends left (action.Send link bytes ∷ []) s)).state.bag ≡ s.bag ++ unit_on (ToController member controller) end link bytes ∷ []
bag_sent end ends left link member controller bytes s made =
    ap (λ (route : Option Route). s.bag ++ sent_if route end link bytes) made

bag_judged : (end : EndId) (ends : EndStates) (left : List (List ℕ)) (link member controller : ℕ) (how : Judged) (bytes : List ℕ) (s : State) → slice_get s.links link ≡ Some (ToController member controller) →
    (done end (after_hearing ends left (action.Judged how ∷ action.Send link bytes ∷ []) s)).state.bag ≡ s.bag ++ unit_on (ToController member controller) end link bytes ∷ []
bag_judged end ends left link member controller how bytes s made =
    ap (λ (route : Option Route). (s.bag ++ []) ++ sent_if route end link bytes) made
    ∙ ap (λ (bag : List BagUnit). bag ++ unit_on (ToController member controller) end link bytes ∷ []) (append-nil s.bag)

bag_text : (end : EndId) (ends : EndStates) (left : List (List ℕ)) (link member controller : ℕ) (text : List ℕ) (how : Judged) (bytes : List ℕ) (s : State) →
    slice_get s.links link ≡ Some (ToController member controller) →
    (done end (after_hearing ends left (action.Keep text ∷ action.Judged how ∷ action.Send link bytes ∷ []) s)).state.bag ≡ s.bag ++ unit_on (ToController member controller) end link bytes ∷ []
bag_text end ends left link member controller text how bytes s made =
    ap (λ (route : Option Route). ((s.bag ++ []) ++ []) ++ sent_if route end link bytes) made
    ∙ ap (λ (bag : List BagUnit). (bag ++ []) ++ unit_on (ToController member controller) end link bytes ∷ []) (append-nil s.bag)
    ∙ ap (λ (bag : List BagUnit). bag ++ unit_on (ToController member controller) end link bytes ∷ []) (append-nil s.bag)

on_there : (t : TurnScene) (bytes : List ℕ) → is_sent_on t.link false (unit_on (ToController t.at_member t.at_controller) (Member t.at_member) t.link bytes) ≡ true
on_there t bytes = ap (λ (here : Bool). here && true) (same t.link)

on_back : (t : TurnScene) (bytes : List ℕ) → is_sent_on t.link true (unit_on (ToController t.at_member t.at_controller) (Controller t.at_controller) t.link bytes) ≡ true
on_back t bytes = ap₂ (λ (here back : Bool). here && back) (same t.link) (same t.at_controller)

-- ---- the bind

pub bind_leads : (s : State) (t : TurnScene) (next number : ℕ) (what : Step) (computers : Computers) (left : List (List ℕ)) (moment count : ℕ) → t.trusts ≡ at_no_trusts → IsBetween t → number < 2 ^ 32 →
    Shows s (turn_scene t next number what computers (one_link t.link first_talk) (unit_there t (written (bind_of netlogon_syntax number)) ∷ []) left moment) →
    Leads s move.Onward (Fine s count) (Fine (goes s) count)
bind_leads s t next number what computers left moment count alone between below shows k b fine =
    let bytes : List ℕ = written (bind_of netlogon_syntax number) in
    let unit : BagUnit = unit_there t bytes in
    let c : ControllerState = controller_at t.table t.name computers (one_link t.link first_talk) in
    let came : Came s unit [] (Controller t.at_controller) =
    comes_so s _ unit [] (Controller t.at_controller) shows (heard_there t bytes next number what computers (one_link t.link first_talk) left moment between (unit_comes (bind_of netlogon_syntax number) (turn_bind_sends number below))) in
    let w : Delivery = coming k came.number unit in
    let answers : answers_of t.at_controller c w bytes (settle came.number s) ≡ plain ∷ [] =
    ap₂ (λ (now : ℕ) (l : List (List ℕ)). map (answer_on t.link (at_controller t.at_controller c w s)) (units_of_controller c t.link bytes now l)) shows.moment shows.left
    ∙ bind_answers t.table t.name computers t.link moment number (at_controller t.at_controller c w s) left _ below
    (ap (λ (stepped : Stepped ControllerState). stepped.answer) (controllers_step.bound t.table t.name computers t.link moment number left below)) in
    (controller_comes s unit [] t.at_controller came c (shows.controller ∙ ap Some (trusts_stay_beside.stands t.table t.name computers (one_link t.link first_talk) t.trusts alone)) refl k count count b fine
    (ap (λ (all : List Answered). any_clash all (Some came.number) b.sent) answers)
    (λ numbers. omega (arith, ap (λ (all : List Answered). length (judged_of all numbers)) answers))).fine

-- ---- the answer to it

-- the member's plan, but for the secret, names the controller
pub record Names (s : State) (t : TurnScene) : Type 0 where
  pub plan : slice_get (map but_secret s.member_plans) t.at_member ≡ Some (but_secret t.plan)
  pub reach : end_of_peer t.plan.controller s.ends ≡ Some (Controller t.at_controller)

pub named_so : (s : State) (t : TurnScene) → Names s t → controller_asked (OfMember t.at_member) s ≡ t.at_controller
named_so s t names =
    sym (controller_but_secret s.member_plans t.at_member s.ends)
    ∙ ap (λ (plan : _). controller_of_plan plan s.ends) names.plan
    ∙ ap (λ (end : Option EndId). controller_number end (length s.ends.controllers)) names.reach

-- what the turn's channel is
abbrev pub channel_in_turn : TurnScene → ℕ → ℕ → Step → Requester
channel_in_turn t next number what = (logons_keeping t.plan t.caller t.how t.info t.place next number what t.asked).channel

-- fine, and a unit that was made for that channel waits
pub record FineAnd (s : State) (count : ℕ) (channel : Option ChannelIdentity) (b : Book) : Type 0 where
  pub fine : Fine s count b
  pub waits : Waits s channel b

-- whichever call then goes out, with that mark
pub asks_lead : (s : State) (t : TurnScene) (next number : ℕ) (what reply : Step) (frames : List (List ℕ)) (sent : List ℕ) (computers : Computers) (left : List (List ℕ)) (moment count : ℕ) (mark : Mark) (called : Option ℕ) →
    IsBetween t → number < 2 ^ 32 → Names s t →
    take_of (channel_in_turn t next number what) (turn_ack number) ≡ record { taken = taken.Next tt frames; state = wait_for (channel_in_turn t next number what) t.place reply } →
    member_step_of (member_at (logons_keeping t.plan t.caller t.how t.info t.place next number what t.asked) t.accepted (on_turn t.link)) (event.Bytes t.link (written (turn_ack number))) moment left
    ≡ whole_step left left (action.Send t.link sent ∷ []) (member_at (logons_keeping t.plan t.caller t.how t.info t.place (after next) next reply t.asked) t.accepted (on_turn t.link)) →
    asked_note (Some reply) t.how t.at_controller (channel_in_turn t next number what) (wait_for (channel_in_turn t next number what) t.place reply) ≡ request_note mark called →
    Shows s (turn_scene t next number what computers (turn_link t.link) (unit_back t (written (turn_ack number)) ∷ []) left moment) →
    Leads s move.Onward (Fine s count) (FineAnd (goes s) count (mark_channel mark))
asks_lead s t next number what reply frames sent computers left moment count mark called between below names takes steps note_is shows k b fine =
    let bytes : List ℕ = written (turn_ack number) in
    let unit : BagUnit = unit_back t bytes in
    let end : EndId = Member t.at_member in
    let logons = logons_keeping t.plan t.caller t.how t.info t.place next number what t.asked in
    let m : MemberState = member_at logons t.accepted (on_turn t.link) in
    let later : MemberState = member_at (logons_keeping t.plan t.caller t.how t.info t.place (after next) next reply t.asked) t.accepted (on_turn t.link) in
    let came : Came s unit [] end =
    comes_so s _ unit [] end shows (heard_back t bytes next number what computers (turn_link t.link) left moment between (unit_comes (turn_ack number) (turn_ack_sends number below))) in
    let s1 : State = settle came.number s in
    let sends : List Action = action.Send t.link sent ∷ [] in
    let notes : map (turn_note t.at_controller) (turn_units m t.link bytes s.moment s.chances.left) ≡ request_note mark called ∷ [] =
    ap₂ (λ (now : ℕ) (l : List (List ℕ)). map (turn_note t.at_controller) (turn_units m t.link bytes now l)) shows.moment shows.left
    ∙ asks_notes t.at_controller t.plan t.caller t.how t.info t.place next number t.link moment what reply frames t.asked t.accepted left sends below takes
    (ap (λ (stepped : Stepped MemberState). stepped.answer) steps)
    ∙ ap (λ (note : TurnNote). note ∷ []) note_is in
    let own : AreOwn t.at_controller (Some came.number) b.sent (turn_units m t.link bytes s.moment s.chances.left) =
    own_notes t.at_controller (Some came.number) b.sent (turn_units m t.link bytes s.moment s.chances.left)
    (subst (λ (all : List TurnNote). AllByRecursion (λ (note : TurnNote). clashes note.checked (Some came.number) b.sent ≡ false) all) (sym notes) (refl, tt)) in
    let has = member_comes s unit [] t.at_member came m shows.member t.at_controller (named_so s t names) k count b fine own in
    let heard = waiting_comes.member s1 t.at_member m later (event.Bytes t.link bytes) s.chances.left sends shows.member refl
    (ap₂ (λ (now : ℕ) (l : List (List ℕ)). member_step_of m (event.Bytes t.link bytes) now l) shows.moment shows.left
    ∙ steps
    ∙ ap (λ (l : List (List ℕ)). whole_step l l sends later) (sym shows.left)) in
    let bag = ap (λ (h : AfterHearing). (done end h).state.bag) heard
    ∙ bag_sent end (with_member_at t.at_member later s1.ends) s.chances.left t.link t.at_member t.at_controller sent s1
    (ap (λ (links : List Route). slice_get links t.link) shows.links ∙ between.route) in
    record {
      fine = has.fine;
      waits = onward_waits s unit end came k t.link false count mark _ b has.now has.is fine.marked
          (subst (λ (marks : List Mark). Written k t.link false s1 (state_then end unit came.number s) count marks b has.now) (ap turn_marks notes) has.written)
          bag refl (on_there t sent);
    }

pub ack_leads : (s : State) (t : TurnScene) (next number : ℕ) (c : Call) (computers : Computers) (left : List (List ℕ)) (moment count : ℕ) (mark : Mark) (called : Option ℕ) → IsBetween t → number < 2 ^ 32 → Names s t →
    asked_note (Some (step.Reply (question_of c))) t.how t.at_controller (channel_in_turn t next number (step.Bind c)) (wait_for (channel_in_turn t next number (step.Bind c)) t.place (step.Reply (question_of c))) ≡ request_note mark called →
    Shows s (turn_scene t next number (step.Bind c) computers (turn_link t.link) (unit_back t (written (turn_ack number)) ∷ []) left moment) →
    Leads s move.Onward (Fine s count) (FineAnd (goes s) count (mark_channel mark))
ack_leads s t next number c computers left moment count mark called between below names note_is shows =
    asks_lead s t next number (step.Bind c) (step.Reply (question_of c)) _ (bytes_of_call (turn_request next c) 5840) computers left moment count mark called between below names
    (turns_go_through.takes.ack (channel_in_turn t next number (step.Bind c)) number t.place c)
    (turns_step.bound t.plan t.caller t.how t.info t.place next number t.link moment c t.asked t.accepted left below) note_is shows

pub set_ack_leads : (s : State) (t : TurnScene) (next number : ℕ) (c : SetCall) (computers : Computers) (left : List (List ℕ)) (moment count : ℕ) (mark : Mark) (called : Option ℕ) → IsBetween t → number < 2 ^ 32 → Names s t →
    asked_note (Some (step.Set set_step.Reply)) t.how t.at_controller (channel_in_turn t next number (step.Set (set_step.Bind c)))
    (wait_for (channel_in_turn t next number (step.Set (set_step.Bind c))) t.place (step.Set set_step.Reply)) ≡ request_note mark called →
    Shows s (turn_scene t next number (step.Set (set_step.Bind c)) computers (turn_link t.link) (unit_back t (written (turn_ack number)) ∷ []) left moment) →
    Leads s move.Onward (Fine s count) (FineAnd (goes s) count (mark_channel mark))
set_ack_leads s t next number c computers left moment count mark called between below names note_is shows =
    asks_lead s t next number (step.Set (set_step.Bind c)) (step.Set set_step.Reply) _ (bytes_of_call (set_request next c) 5840) computers left moment count mark called between below names
    (set_units_go.ack (channel_in_turn t next number (step.Set (set_step.Bind c))) number t.place c)
    (set_turns_step.bound t.plan t.caller t.how t.info t.place next number t.link moment c t.asked t.accepted left below) note_is shows

-- ---- the call

-- where the controller hears that, and its desk then
abbrev pub where_by : State → TurnScene → List ℕ → Computers → ℕ → ℕ → Where
where_by s t bytes computers k unit = at_controller t.at_controller (controller_at t.table t.name computers (turn_link t.link)) (coming k unit (unit_there t bytes)) s

abbrev pub where_in_turn : State → TurnScene → ℕ → Call → Computers → ℕ → ℕ → Where
where_in_turn s t number c computers k unit = where_by s t (bytes_of_call (turn_request number c) 5840) computers k unit

abbrev pub desk_in_turn : TurnScene → Computers → Desk
desk_in_turn t computers = first_desk t.table (record { computers = computers; links = turn_link t.link })

-- what the controller makes of it
abbrev pub answer_to : State → TurnScene → ℕ → RpcUnit → ControllerCall → Computers → ℕ → ℕ → List (List ℕ) → ℕ → Answered
answer_to s t number request c computers k unit left moment =
    answer_by t.name moment t.link number c (where_by s t (bytes_of_call request 5840) computers k unit) (desk_in_turn t computers) left

abbrev pub answer_in_turn : State → TurnScene → ℕ → Call → Computers → ℕ → ℕ → List (List ℕ) → ℕ → Answered
answer_in_turn s t number c computers k unit left moment = answer_to s t number (turn_request number c) (served_call c) computers k unit left moment

pub record CalledBy (s : State) (t : TurnScene) (number : ℕ) (request : RpcUnit) (c : ControllerCall) (computers : Computers) (k total : ℕ) (left : List (List ℕ)) (moment : ℕ) (b : Book) : Type 0 where
  pub came : Came s (unit_there t (bytes_of_call request 5840)) [] (Controller t.at_controller)
  pub has : HasWritten s (unit_there t (bytes_of_call request 5840)) [] (Controller t.at_controller) came k t.link true total
      (answered_marks (answer_to s t number request c computers k came.number left moment ∷ [])) b
  pub numbers : List ℕ
  pub judged : (note (world_at k s) move.Onward b).judged ≡ onto (judged_of (answer_to s t number request c computers k came.number left moment ∷ []) numbers) b.judged

abbrev pub Called : (s : State) (t : TurnScene) (number : ℕ) (c : Call) (computers : Computers) (k total : ℕ) (left : List (List ℕ)) (moment : ℕ) (b : Book) → Type 0
Called s t number c computers k total left moment b = CalledBy s t number (turn_request number c) (served_call c) computers k total left moment b

-- whichever call it is
module _ (s : State) (t : TurnScene) (next number : ℕ) (what : Step) (request : RpcUnit) (c : ControllerCall) (computers : Computers) (left rest : List (List ℕ)) (moment : ℕ) (alone : t.trusts ≡ at_no_trusts) (between : IsBetween t)
    (shows : Shows s (turn_scene t next number what computers (turn_link t.link) (unit_there t (bytes_of_call request 5840) ∷ []) left moment)) where
  abbrev call_bytes : List ℕ
  call_bytes = bytes_of_call request 5840

  abbrev call_at : ControllerState
  call_at = controller_at t.table t.name computers (turn_link t.link)

  -- the controller that asks nobody stands there
  its_controller : slice_get s.ends.controllers t.at_controller ≡ Some call_at
  its_controller = shows.controller ∙ ap Some (trusts_stay_beside.stands t.table t.name computers (turn_link t.link) t.trusts alone)

  pub calls_come : (count total : ℕ) (actions : List Action) (after : ControllerState) → ComesAtOnce call_bytes → IsHeardAs t.link number request c →
      controller_step_of call_at (event.Bytes t.link call_bytes) moment left ≡ whole_step left rest actions after → (k : ℕ) (b : Book) → Fine s count b →
      ((unit : ℕ) → first_waiting s.bag ≡ Some unit → clashes (answer_to s t number request c computers k unit left moment).checked (Some unit) b.sent ≡ false) →
      ((unit : ℕ) (numbers : List ℕ) → length (judged_of (answer_to s t number request c computers k unit left moment ∷ []) numbers) + count ≤ total) →
      CalledBy s t number request c computers k total left moment b
  calls_come count total actions after comes hears steps k b fine own judged =
      let unit : BagUnit = unit_there t call_bytes in
      let came : Came s unit [] (Controller t.at_controller) =
      comes_so s _ unit [] (Controller t.at_controller) shows (heard_there t call_bytes next number what computers (turn_link t.link) left moment between comes) in
      let w : Delivery = coming k came.number unit in
      let s1 : State = settle came.number s in
      let later : State = state_then (Controller t.at_controller) unit came.number s in
      let numbers : List ℕ = numbers_on t.link true s1.bag later.bag in
      let answers : List Answered = answers_of t.at_controller call_at w call_bytes s1 in
      let one : Answered = answer_to s t number request c computers k came.number left moment in
      let to : ComeTo answers one =
      subst (λ (all : List Answered). ComeTo all one)
      (sym (ap₂ (λ (now : ℕ) (l : List (List ℕ)). map (answer_on t.link (at_controller t.at_controller call_at w s)) (units_of_controller call_at t.link call_bytes now l)) shows.moment shows.left))
      (heard_answers t.name moment t.link number request c (at_controller t.at_controller call_at w s) hears t.table computers left actions
      (ap (λ (stepped : Stepped ControllerState). stepped.answer) steps)) in
      let has = controller_comes s unit [] t.at_controller came call_at its_controller refl k count total b fine
      (to.clash (Some came.number) b.sent ∙ ap (λ (here : Bool). here || false) (own came.number came.first))
      (λ numbers. omega (arith, judged came.number numbers, ap (λ (all : _). length all) (to.judged numbers))) in
      record {
        came = came;
        has = subst (λ (marks : List Mark). HasWritten s unit [] (Controller t.at_controller) came k t.link true total marks b) to.marks has;
        numbers = numbers;
        judged = ap (λ (one : Book). one.judged) (came.noted k b ∙ ap (λ (f : Option ControllerState). note_controller f t.at_controller w call_bytes s1 later b) its_controller
            ∙ state_noted t.at_controller call_at w call_bytes s1 later b refl)
            ∙ ap (λ (js : List Judging). onto js b.judged) (to.judged numbers);
      }

  -- the bag then, by what the controller does
  call_done : (actions : List Action) (after : ControllerState) (n : ℕ) → controller_step_of call_at (event.Bytes t.link call_bytes) moment left ≡ whole_step left rest actions after →
      (state_then (Controller t.at_controller) (unit_there t call_bytes) n s).bag
      ≡ (done (Controller t.at_controller) (after_hearing (with_controller_at t.at_controller after s.ends) rest actions (settle n s))).state.bag
  call_done actions after n steps =
      ap (λ (h : AfterHearing). (done (Controller t.at_controller) h).state.bag)
      (waiting_comes.controller (settle n s) t.at_controller call_at after (event.Bytes t.link call_bytes) rest actions its_controller refl
      (ap₂ (λ (now : ℕ) (l : List (List ℕ)). trust_step_of call_at (event.Bytes t.link call_bytes) now l) shows.moment shows.left
      ∙ steps_alone.step call_at (event.Bytes t.link call_bytes) moment left refl ∙ steps
      ∙ ap (λ (l : List (List ℕ)). whole_step l rest actions after) (sym shows.left)))

  route_so : slice_get s.links t.link ≡ Some (ToController t.at_member t.at_controller)
  route_so = ap (λ (links : List Route). slice_get links t.link) shows.links ∙ between.route

  pub bag_replied : (bytes : List ℕ) (after : ControllerState) (n : ℕ) →
      controller_step_of call_at (event.Bytes t.link call_bytes) moment left ≡ whole_step left rest (action.Send t.link bytes ∷ []) after →
      (state_then (Controller t.at_controller) (unit_there t call_bytes) n s).bag
      ≡ (settle n s).bag ++ unit_on (ToController t.at_member t.at_controller) (Controller t.at_controller) t.link bytes ∷ []
  bag_replied bytes after n steps =
      call_done (action.Send t.link bytes ∷ []) after n steps
      ∙ bag_sent (Controller t.at_controller) (with_controller_at t.at_controller after s.ends) rest t.link t.at_member t.at_controller bytes (settle n s) route_so

  pub bag_told : (how : Judged) (bytes : List ℕ) (after : ControllerState) (n : ℕ) →
      controller_step_of call_at (event.Bytes t.link call_bytes) moment left ≡ whole_step left rest (action.Judged how ∷ action.Send t.link bytes ∷ []) after →
      (state_then (Controller t.at_controller) (unit_there t call_bytes) n s).bag
      ≡ (settle n s).bag ++ unit_on (ToController t.at_member t.at_controller) (Controller t.at_controller) t.link bytes ∷ []
  bag_told how bytes after n steps =
      call_done (action.Judged how ∷ action.Send t.link bytes ∷ []) after n steps
      ∙ bag_judged (Controller t.at_controller) (with_controller_at t.at_controller after s.ends) rest t.link t.at_member t.at_controller how bytes (settle n s) route_so

  pub bag_kept : (text : List ℕ) (how : Judged) (bytes : List ℕ) (after : ControllerState) (n : ℕ) →
      controller_step_of call_at (event.Bytes t.link call_bytes) moment left ≡ whole_step left rest (action.Keep text ∷ action.Judged how ∷ action.Send t.link bytes ∷ []) after →
      (state_then (Controller t.at_controller) (unit_there t call_bytes) n s).bag
      ≡ (settle n s).bag ++ unit_on (ToController t.at_member t.at_controller) (Controller t.at_controller) t.link bytes ∷ []
  bag_kept text how bytes after n steps =
      call_done (action.Keep text ∷ action.Judged how ∷ action.Send t.link bytes ∷ []) after n steps
      ∙ bag_text (Controller t.at_controller) (with_controller_at t.at_controller after s.ends) rest t.link t.at_member t.at_controller text how bytes (settle n s) route_so

pub call_comes : (s : State) (t : TurnScene) (next number : ℕ) (what : Step) (c : Call) (computers : Computers) (left rest : List (List ℕ)) (moment count total : ℕ) (actions : List Action) (after : ControllerState) →
    t.trusts ≡ at_no_trusts → IsBetween t → number < 2 ^ 32 → IsTurnCall c →
    controller_step_of (controller_at t.table t.name computers (turn_link t.link)) (event.Bytes t.link (bytes_of_call (turn_request number c) 5840)) moment left ≡ whole_step left rest actions after →
    Shows s (turn_scene t next number what computers (turn_link t.link) (unit_there t (bytes_of_call (turn_request number c) 5840) ∷ []) left moment) → (k : ℕ) (b : Book) → Fine s count b →
    ((unit : ℕ) → first_waiting s.bag ≡ Some unit → clashes (answer_in_turn s t number c computers k unit left moment).checked (Some unit) b.sent ≡ false) →
    ((unit : ℕ) (numbers : List ℕ) → length (judged_of (answer_in_turn s t number c computers k unit left moment ∷ []) numbers) + count ≤ total) →
    Called s t number c computers k total left moment b
call_comes s t next number what c computers left rest moment count total actions after alone between below is steps shows k b fine own judged =
    calls_come s t next number what (turn_request number c) (served_call c) computers left rest moment alone between shows count total actions after (request_comes number c is) (turn_hears t.link number c below is) steps
    k b fine own judged

-- the reply waits, with its mark
pub reply_waits_by : (s : State) (t : TurnScene) (number : ℕ) (request : RpcUnit) (c : ControllerCall) (computers : Computers) (k count total : ℕ) (left : List (List ℕ)) (moment : ℕ) (b : Book) (bytes : List ℕ)
    (channel : Option ChannelIdentity) → Fine s count b → (called : CalledBy s t number request c computers k total left moment b) → (mark : Mark) →
    answered_marks (answer_to s t number request c computers k called.came.number left moment ∷ []) ≡ mark ∷ [] → mark_channel mark ≡ channel →
    (state_then (Controller t.at_controller) (unit_there t (bytes_of_call request 5840)) called.came.number s).bag
    ≡ (settle called.came.number s).bag ++ unit_on (ToController t.at_member t.at_controller) (Controller t.at_controller) t.link bytes ∷ [] →
    FineAnd (goes s) total channel (note (world_at k s) move.Onward b)
reply_waits_by s t number request c computers k count total left moment b bytes channel fine called mark marks made bag =
    let unit : BagUnit = unit_there t (bytes_of_call request 5840) in
    let end : EndId = Controller t.at_controller in
    record {
      fine = called.has.fine;
      waits = subst (λ (ch : Option ChannelIdentity). Waits (goes s) ch (note (world_at k s) move.Onward b)) made
          (onward_waits s unit end called.came k t.link true total mark _ b called.has.now called.has.is fine.marked
          (subst (λ (all : List Mark). Written k t.link true (settle called.came.number s) (state_then end unit called.came.number s) total all b called.has.now) marks called.has.written)
          bag refl (on_back t bytes));
    }

pub reply_waits : (s : State) (t : TurnScene) (number : ℕ) (c : Call) (computers : Computers) (k count total : ℕ) (left : List (List ℕ)) (moment : ℕ) (b : Book) (bytes : List ℕ) (channel : Option ChannelIdentity) →
    Fine s count b → (called : Called s t number c computers k total left moment b) → (mark : Mark) → answered_marks (answer_in_turn s t number c computers k called.came.number left moment ∷ []) ≡ mark ∷ [] →
    mark_channel mark ≡ channel →
    (state_then (Controller t.at_controller) (unit_there t (bytes_of_call (turn_request number c) 5840)) called.came.number s).bag
    ≡ (settle called.came.number s).bag ++ unit_on (ToController t.at_member t.at_controller) (Controller t.at_controller) t.link bytes ∷ [] →
    FineAnd (goes s) total channel (note (world_at k s) move.Onward b)
reply_waits s t number c computers k count total left moment b bytes channel fine called mark marks made bag =
    reply_waits_by s t number (turn_request number c) (served_call c) computers k count total left moment b bytes channel fine called mark marks made bag

-- the bag then, by what the controller does
pub replied_bag : (s : State) (t : TurnScene) (next number : ℕ) (what : Step) (c : Call) (computers : Computers) (left rest : List (List ℕ)) (moment : ℕ) (bytes : List ℕ) (after : ControllerState) (n : ℕ) → t.trusts ≡ at_no_trusts → IsBetween t →
    controller_step_of (controller_at t.table t.name computers (turn_link t.link)) (event.Bytes t.link (bytes_of_call (turn_request number c) 5840)) moment left ≡ whole_step left rest (action.Send t.link bytes ∷ []) after →
    Shows s (turn_scene t next number what computers (turn_link t.link) (unit_there t (bytes_of_call (turn_request number c) 5840) ∷ []) left moment) →
    (state_then (Controller t.at_controller) (unit_there t (bytes_of_call (turn_request number c) 5840)) n s).bag
    ≡ (settle n s).bag ++ unit_on (ToController t.at_member t.at_controller) (Controller t.at_controller) t.link bytes ∷ []
replied_bag s t next number what c computers left rest moment bytes after n alone between steps shows =
    bag_replied s t next number what (turn_request number c) (served_call c) computers left rest moment alone between shows bytes after n steps

pub judged_bag : (s : State) (t : TurnScene) (next number : ℕ) (what : Step) (c : Call) (computers : Computers) (left rest : List (List ℕ)) (moment : ℕ) (how : Judged) (bytes : List ℕ) (after : ControllerState) (n : ℕ) → t.trusts ≡ at_no_trusts → IsBetween t →
    controller_step_of (controller_at t.table t.name computers (turn_link t.link)) (event.Bytes t.link (bytes_of_call (turn_request number c) 5840)) moment left
    ≡ whole_step left rest (action.Judged how ∷ action.Send t.link bytes ∷ []) after →
    Shows s (turn_scene t next number what computers (turn_link t.link) (unit_there t (bytes_of_call (turn_request number c) 5840) ∷ []) left moment) →
    (state_then (Controller t.at_controller) (unit_there t (bytes_of_call (turn_request number c) 5840)) n s).bag
    ≡ (settle n s).bag ++ unit_on (ToController t.at_member t.at_controller) (Controller t.at_controller) t.link bytes ∷ []
judged_bag s t next number what c computers left rest moment how bytes after n alone between steps shows =
    bag_told s t next number what (turn_request number c) (served_call c) computers left rest moment alone between shows how bytes after n steps

-- ---- the reply

pub responses_lead : (s : State) (t : TurnScene) (next number : ℕ) (what : Step) (response : RpcUnit) (computers : Computers) (left : List (List ℕ)) (moment count : ℕ) → IsBetween t →
    CanBeSent response 5840 → length (stub_of response.body) ≤ 65536 → ComesAtOnce (bytes_of_call response 5840) → Names s t →
    Shows s (turn_scene t next number what computers (turn_link t.link) (unit_back t (bytes_of_call response 5840) ∷ []) left moment) → (k : ℕ) (b : Book) → Fine s count b →
    ((unit : ℕ) → first_waiting s.bag ≡ Some unit →
    clashes (taking_note (Some (take_of (channel_in_turn t next number what) response)) t.at_controller (channel_in_turn t next number what)).checked (Some unit) b.sent ≡ false) →
    Fine (goes s) count (note (world_at k s) move.Onward b)
responses_lead s t next number what response computers left moment count between sends short comes names shows k b fine own =
    let bytes : List ℕ = bytes_of_call response 5840 in
    let unit : BagUnit = unit_back t bytes in
    let logons = logons_keeping t.plan t.caller t.how t.info t.place next number what t.asked in
    let m : MemberState = member_at logons t.accepted (on_turn t.link) in
    let came : Came s unit [] (Member t.at_member) =
    comes_so s _ unit [] (Member t.at_member) shows (heard_back t bytes next number what computers (turn_link t.link) left moment between comes) in
    let at_named : AreOwn t.at_controller (Some came.number) b.sent (turn_units m t.link bytes moment left) =
    response_own t.at_controller logons t.accepted t.link moment response left (Some came.number) b.sent sends short (own came.number came.first) in
    (member_comes s unit [] t.at_member came m shows.member t.at_controller (named_so s t names) k count b fine
    (subst (λ (now : ℕ). AreOwn t.at_controller (Some came.number) b.sent (turn_units m t.link bytes now s.chances.left)) (sym shows.moment)
    (subst (λ (l : List (List ℕ)). AreOwn t.at_controller (Some came.number) b.sent (turn_units m t.link bytes moment l)) (sym shows.left) at_named))).fine

pub reply_leads : (s : State) (t : TurnScene) (next number : ℕ) (q : Question) (r : Reply) (computers : Computers) (left : List (List ℕ)) (moment count : ℕ) → IsBetween t → number < 2 ^ 32 → IsTurnReply q r → Names s t →
    Shows s (turn_scene t next number (step.Reply q) computers (turn_link t.link) (unit_back t (bytes_of_call (turn_response number r) 5840) ∷ []) left moment) → (k : ℕ) (b : Book) → Fine s count b →
    ((unit : ℕ) → first_waiting s.bag ≡ Some unit →
    clashes (taking_note (Some (take_of (channel_in_turn t next number (step.Reply q)) (turn_response number r))) t.at_controller (channel_in_turn t next number (step.Reply q))).checked (Some unit) b.sent ≡ false) →
    Fine (goes s) count (note (world_at k s) move.Onward b)
reply_leads s t next number q r computers left moment count between below is names shows k b fine own =
    responses_lead s t next number (step.Reply q) (turn_response number r) computers left moment count between (response_sends number q r below is) (omega (arith, is.short)) (response_comes number q r is) names
    shows k b fine own

-- ---- a member's other links

pub quiet_leads : (s : State) (v : Scene) (unit : BagUnit) (later : List BagUnit) (count : ℕ) → Shows s v → HasFirst v unit later (Member v.at_member) →
    ((now : ℕ) (left : List (List ℕ)) → turn_units v.member unit.link unit.bytes now left ≡ []) → Leads s move.Onward (Fine s count) (Fine (goes s) count)
quiet_leads s v unit later count shows first quiet k b fine =
    let came : Came s unit later (Member v.at_member) = comes_so s v unit later (Member v.at_member) shows first in
    (member_comes s unit later v.at_member came v.member shows.member _ refl k count b fine
    (subst (AreOwn _ (Some came.number) b.sent) (sym (quiet s.moment s.chances.left)) tt)).fine

-- what a client sends to its member, while the member's channel rests, or while the dial of its turn waits
pub meeting_leads : (s : State) (g : Meeting) (how : ClientPhase) (talk : Talk) (bytes : List ℕ) (later : List BagUnit) (left : List (List ℕ)) (moment count : ℕ) → ComesAtOnce bytes →
    Shows s (meeting_scene g how talk (unit_up g bytes ∷ later) left moment) → Leads s move.Onward (Fine s count) (Fine (goes s) count)
meeting_leads s g how talk bytes later left moment count comes shows =
    quiet_leads s (meeting_scene g how talk (unit_up g bytes ∷ later) left moment) (unit_up g bytes) later count shows (heard_up g how talk bytes later left moment comes)
    (λ now l. rests_quiet (resting g) (client_link g.link talk) g.link now bytes l)

pub waiting_leads : (s : State) (t : TurnScene) (opened : OpenMap) (how : Standing) (next number : ℕ) (what : Step) (computers : Computers) (unit : BagUnit) (later : List BagUnit) (left : List (List ℕ)) (moment count : ℕ) →
    Shows s (waiting_scene t opened how next number what computers (unit ∷ later) left moment) → HasFirst (waiting_scene t opened how next number what computers (unit ∷ later) left moment) unit later (Member t.at_member) →
    Leads s move.Onward (Fine s count) (Fine (goes s) count)
waiting_leads s t opened how next number what computers unit later left moment count shows first =
    quiet_leads s (waiting_scene t opened how next number what computers (unit ∷ later) left moment) unit later count shows first
    (λ now l. waits_quiet (logons_keeping t.plan t.caller how t.info t.place next number what t.asked) t.accepted number unit.link now unit.bytes l)

pub dial_leads : (s : State) (t : TurnScene) (opened : OpenMap) (how : Standing) (next number : ℕ) (c : Call) (computers : Computers) (unit : BagUnit) (later : List BagUnit) (left : List (List ℕ)) (moment count : ℕ) →
    Shows s (dial_scene t opened how next number c computers (unit ∷ later) left moment) → HasFirst (dial_scene t opened how next number c computers (unit ∷ later) left moment) unit later (Member t.at_member) →
    Leads s move.Onward (Fine s count) (Fine (goes s) count)
dial_leads s t opened how next number c computers unit later left moment count shows first =
    waiting_leads s t opened how next number (step.Bind c) computers unit later left moment count shows first
