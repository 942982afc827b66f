-- Bytes that come at an end keep what is known of calls. It serves `runs_stand_so`.
use Rattle.std.proofs.Common.{◌≡◌, ℕ, ◌+◌, ◌*◌, ◌==◌, ◌&&◌, Bool, true, false, List, [], ◌∷◌, ◌++◌, drop, length, map, Option, Some, None, Result, Ok, Err, slice_get, refl, sym, ap, ◌∙◌, subst, arith}
use Rattle.std.specs.Prelude.{flat_map}
use Rattle.std.specs.List.{AllByRecursion}
use Rattle.std.proofs.lemmas.Bool.Decides.{Decides-eqb}
use Rattle.outside.specs.Machine.{Part, step_by}
use Rattle.outside.specs.declared.action.Action.{Action}
use Rattle.outside.specs.declared.action.StepRefused.{StepRefused}
use Rattle.outside.specs.declared.event.Event.TheVariants as event
use Rattle.rpc_units.specs.Calls.{IsHeard}
use Rattle.rpc_units.specs.declared.unit.Unit.{Unit as RpcUnit}
use Rattle.end_links.specs.Links.{LinkState}
use Rattle.end_links.specs.Serving.{ServedUnit}
use Rattle.channel_events.specs.Marks.{Calling, Mark, Opened, Opening, Plain, ReplyTo}
use Rattle.channel_events.specs.Requests.{CallsAreApart, IsNoRequest}
use Rattle.wire_base.proofs.ListLaws.{all_weaker, got_append, one_weaker}
use Rattle.domain_controller.specs.State.{State as ControllerState}
use Rattle.member_server.specs.Machine.{actions_in, at_turn, event_part, halted_state, state_in, step_of, work_of}
use Rattle.member_server.specs.State.{State as MemberState}
use Rattle.member_server.specs.Turns.{AtTurn, DialWork}
use Rattle.channel_turns.specs.declared.state.Dialling.{Dialling}
use Rattle.channel_turns.specs.declared.state.Dialling.TheVariants as dialling
use Rattle.member_server.specs.declared.state.Running.{Running}
use Rattle.channel_turns.specs.declared.state.TurnTalk.{TurnTalk}
use Rattle.step_notes.specs.CallLogons.{AreFirst}
use Rattle.step_notes.specs.ControllerNotes.{units_of_controller}
use Rattle.step_notes.specs.Marking.{answered_marks}
use Rattle.step_notes.specs.MemberNotes.{LinkAt, TurnNote, is_turn_link, link_units, message_note, turn_units, turn_units_by, turn_units_in, turn_units_on}
use Rattle.step_notes.specs.Records.{Book, MessageTaken, Sent, unit_in, OfMember, RequesterId}
use Rattle.step_notes.specs.Served.{units_if_taken}
use Rattle.step_notes.specs.TakenWhole.{TakesWhole}
use Rattle.step_notes.proofs.Members.KeptLogonLaws.{one_before}
use Rattle.step_notes.proofs.Members.RequestOrderLaws.{requests_first}
use Rattle.world_moves.specs.declared.bag.BagUnit.{BagUnit}
use Rattle.world_moves.specs.declared.links.EndId.TheVariants.{Member}
use Rattle.world_moves.specs.declared.links.Route.{Route}
use Rattle.world_moves.specs.declared.links.Route.TheVariants.{ToController}
use Rattle.world_moves.specs.declared.state.State.{State}
use Rattle.world_moves.specs.Acting.{heard_by, perform_all, unit_on}
use Rattle.world_moves.specs.Ends.{EndStep, actions_by}
use Rattle.world_moves.specs.Alone.{alone_controller_step as controller_step}
use Rattle.world_moves.specs.Plain.{plain_member_step as member_step}
use Rattle.domain_world.specs.Accepting.SeenSteps.{HearsNone, IsPlaced, NoRequests, requests_after}
use Rattle.domain_world.specs.Accepting.Answered.{IsItsWay}
use Rattle.domain_world.specs.Past.{Delivery, at_controller, at_member, first_of, marks_of, note_messages, numbers_on, sent_at, controller_asked}
use Rattle.domain_world.proofs.Frames.AloneNoteLaws.{alone_answers as answers_of, note_controller_alone as note_controller}
use Rattle.domain_world.proofs.Acceptance.LetInStepLaws.{IsAcceptedBy, IsDialledBy}
use Rattle.domain_world.proofs.Calls.CallHoldsLaws.{CallsHold, differ_front, marks_append, marks_in, marks_sent, member_changed, sent_more, views_at}
use Rattle.domain_world.proofs.Calls.CallStepLaws.{KeptSo, coherent_if, controller_hears}
use Rattle.domain_world.proofs.Calls.MarkWayLaws.{answers_way}
use Rattle.domain_world.proofs.Messages.NewMessageLaws.{new_accepted}
use Rattle.domain_world.proofs.Calls.OutStepLaws.{IsOf, IsOther, IsOutIn, MemberHolds, StaysKnown, heard_not, other_holds}
use Rattle.domain_world.proofs.Calls.StepApartLaws.{other_apart, seen_member, whole_apart}
use Rattle.domain_world.proofs.Calls.WholeNotedLaws.{IsFirstNew, SendsFirst, no_requests_marked, none_marked, note_for, placed_first, placed_part, sent_as, sent_first, sent_marks, whole_first, whole_messages, whole_units}
use Rattle.domain_world.proofs.Calls.WholeOutLaws.{AreAccepted, IsSentAs, noted, noted_accepted, others_known, out_more, whole_holds}
use Rattle.domain_world.proofs.Frames.TurnFrameLaws.{turns_sent, asked_book, asked_marks}
use Rattle.wire_base.proofs.AllLaws.{all_join}

-- what is kept, of a state and the book
abbrev pub KeptIn : ℕ → State → Book → Type 0
KeptIn n s b = KeptSo n s.member_plans s.ends s.chances.drawn s.links b.sent b.messages

-- after a step, with what is written down
abbrev pub KeptAfter : ℕ → State → EndStep → Book → Type 0
KeptAfter n s step b = KeptSo n s.member_plans step.ends step.chances.drawn s.links b.sent b.messages

-- ---- at a controller

pub reply_no_request : (mark : Mark) → IsItsWay true mark → IsNoRequest mark
reply_no_request Plain way = tt
reply_no_request (Opening c number) way = let x = way in cc
reply_no_request (Opened c number request) way = tt
reply_no_request (ReplyTo c number request) way = tt
reply_no_request (Calling c number timestamp) way = let x = way in cc

pub no_requests_sent : (at : ℕ) (marks : List Mark) → NoRequests marks → NoRequests (marks_in (map (sent_at at) marks))
no_requests_sent at marks none = subst (λ (all : List Mark). NoRequests all) (sym (marks_sent at marks)) none

-- none of what a controller sends is a request
pub controller_comes : (n : ℕ) (c : ControllerState) (at : ℕ) (w : Delivery) (piece : List ℕ) (s after : State) (b : Book) → KeptIn n s b →
    KeptAfter (n + 1) s (controller_step (Some c) at (event.Bytes w.link piece) s.moment s.ends s.chances) (note_controller (Some c) at w piece s after b)
controller_comes n c at w piece s after b kept few differ =
    let step : EndStep = controller_step (Some c) at (event.Bytes w.link piece) s.moment s.ends s.chances in
    let new : List BagUnit = drop (length s.bag) after.bag in
    let marks : List Mark = answered_marks (answers_of at c w piece s) in
    let none : AllByRecursion IsNoRequest marks =
    all_weaker (λ (mark : Mark). IsItsWay true mark) IsNoRequest marks reply_no_request
    (answers_way w.link (at_controller at c w s) (units_of_controller c w.link piece s.moment s.chances.left)) in
    sent_more (n + 1) s.member_plans step.ends step.chances.drawn s.links b.sent (map (sent_at w.at) (marks_of w.link true new marks)) b.messages
    (no_requests_sent w.at (marks_of w.link true new marks) (no_requests_marked w.link true new marks none))
    (controller_hears n s.member_plans s.ends s.links b.sent b.messages c at (event.Bytes w.link piece) s.moment s.chances kept few differ)

-- ---- at a member, on another link than that of its turn

units_by_none : (hit : Bool) (said : LinkState TurnTalk) (number : ℕ) (piece : List ℕ) (running : Running) (left : List (List ℕ)) → hit ≡ false → turn_units_by hit said number piece running left ≡ []
units_by_none false said number piece running left is = refl
units_by_none true said number piece running left is = let x = is in cc

units_on_none : (how : Dialling) (number : ℕ) (piece : List ℕ) (running : Running) (left : List (List ℕ)) → is_turn_link how number ≡ false → turn_units_on how number piece running left ≡ []
units_on_none dialling.Nothing number piece running left is = refl
units_on_none (dialling.Waits turn frames) number piece running left is = refl
units_on_none (dialling.On other said) number piece running left is = units_by_none (other == number) said number piece running left is

-- no unit of the turn
pub units_in_none : (r : Option Running) (number : ℕ) (piece : List ℕ) (left : List (List ℕ)) → IsOther r number → turn_units_in r number piece left ≡ []
units_in_none None number piece left other = refl
units_in_none (Some running) number piece left other = units_on_none running.dialling number piece running left other

-- no units are served, whether the step is taken or not
pub if_none : (answer : Result (List Action) StepRefused) → units_if_taken {U = ServedUnit AtTurn TurnTalk} answer [] ≡ []
if_none (Ok actions) = refl
if_none (Err why) = refl

-- none is heard
pub other_none : (r : Option Running) (number : ℕ) (piece : List ℕ) → IsOther r number → HearsNone r (event.Bytes number piece)
other_none None number piece other = tt
other_none (Some running) number piece other = heard_not running.dialling number piece other

-- what is known of messages stays as messages and units are written down
messages_more : (links : List Route) (sent more : List Sent) (messages new : List MessageTaken) (k : ℕ) →
    ((j : ℕ) (unit : Sent) → slice_get sent j ≡ Some unit → slice_get more j ≡ Some unit) → StaysKnown links links sent more messages (messages ++ new) k
messages_more links sent more messages new k grown = record {
  dialled = λ number is. is;
  accepted = λ number is. is;
  has = λ place logon one. one_before (IsOf k place logon) messages new one;
  out = λ pending logon standing one.
      one_weaker (IsOutIn sent k pending logon standing) (IsOutIn more k pending logon standing) (messages ++ new)
      (λ message is. out_more sent more k pending logon standing standing message grown refl is) (one_before (IsOutIn sent k pending logon standing) messages new one);
}

new_as : (own : BagUnit) (before after now : List BagUnit) → after ≡ now → IsFirstNew own before now → IsFirstNew own before after
new_as own before after now same new = record { later = new.later; is = same ∙ new.is }

-- one whole unit came on the link of the turn, on which nothing was open
pub record IsWhole (link : ℕ) (piece : List ℕ) (running : Running) : Type 0 where
  pub said : LinkState TurnTalk
  pub on : running.dialling ≡ dialling.On link said
  pub rest : said.rest ≡ []
  pub none : said.talk.joiner ≡ None
  pub frames : List RpcUnit
  pub unit : RpcUnit
  pub heard : IsHeard piece frames unit

module _ (n at : ℕ) (w : Delivery) (piece : List ℕ) (s after : State) (b : Book) where
  -- which member it is, on which link
  abbrev pub here : LinkAt
  here = at_member at w s

  -- who asks there
  abbrev pub who : RequesterId
  who = OfMember at

  -- the controller that it asks
  abbrev pub its : ℕ
  its = controller_asked who s

  -- the messages that are written down
  abbrev pub news : MemberState → List MessageTaken
  news m = flat_map (message_note here) (link_units m w.link piece s.moment s.chances.left)

  -- the new units of the bag, with their marks
  abbrev pub units_by : MemberState → List BagUnit → List (ServedUnit AtTurn TurnTalk) → List Sent
  units_by m new units = map (sent_at w.at) (marks_of w.link false new (asked_marks who s units))

  -- what is written down, by the units of the turn
  abbrev pub NotedBy : MemberState → List (ServedUnit AtTurn TurnTalk) → Type 0
  NotedBy m units =
      KeptSo (n + 1) s.member_plans (member_step (Some m) at (event.Bytes w.link piece) s.moment s.ends s.chances).ends
      (member_step (Some m) at (event.Bytes w.link piece) s.moment s.ends s.chances).chances.drawn s.links
      ((asked_book who w units s after (note_messages at m w piece s b)).sent ++ units_by m (drop (length s.bag) after.bag) units)
      (asked_book who w units s after (note_messages at m w piece s b)).messages

  -- no whole unit is taken
  pub other_comes : (m : MemberState) → slice_get s.ends.members at ≡ Some m → IsOther m.running w.link → KeptIn n s b → NotedBy m (turn_units m w.link piece s.moment s.chances.left)
  other_comes m is other kept =
      let none : turn_units m w.link piece s.moment s.chances.left ≡ [] =
      ap (λ (units : List (ServedUnit AtTurn TurnTalk)). units_if_taken (step_of m (event.Bytes w.link piece) s.moment s.chances.left).answer units)
      (units_in_none m.running w.link piece s.chances.left other)
      ∙ if_none (step_of m (event.Bytes w.link piece) s.moment s.chances.left).answer in
      subst (λ (units : List (ServedUnit AtTurn TurnTalk)). NotedBy m units) (sym none) (λ few differ.
      let drawn : List (List ℕ) = (step_of m (event.Bytes w.link piece) s.moment s.chances.left).drawn in
      let holds : CallsHold n s.member_plans s.ends s.chances.drawn s.links b.sent b.messages = kept (omega (arith, few)) (differ_front s.chances.drawn drawn differ) in
      let own : MemberHolds s.links b.sent b.messages its at m.running = holds.members at m is in
      let new : List BagUnit = drop (length s.bag) after.bag in
      let step : EndStep = member_step (Some m) at (event.Bytes w.link piece) s.moment s.ends s.chances in
      sent_more (n + 1) s.member_plans step.ends step.chances.drawn s.links b.sent (map (sent_at w.at) (marks_of w.link false new [])) (b.messages ++ news m)
      (no_requests_sent w.at (marks_of w.link false new []) (none_marked w.link false new))
      (member_changed s.member_plans s.ends at (step_of m (event.Bytes w.link piece) s.moment s.chances.left).state n (n + 1) (2 * n + 1) s.chances.drawn (s.chances.drawn ++ drawn) s.links b.sent b.sent
      b.messages (b.messages ++ news m) (omega arith) holds
      (other_apart (views_at s.member_plans s.ends) at its m.running (event.Bytes w.link piece) s.moment s.chances.left (marks_in b.sent) s.chances.drawn (2 * n)
      (omega (arith, few)) (other_none m.running w.link piece other) (coherent_if m.running own.asks) (ap (λ (x : Option MemberState). seen_member its x) is) holds.apart differ)
      (other_holds s.links b.sent b.messages its here m.running piece s.moment s.chances.left other own)
      (λ k differs. messages_more s.links b.sent b.sent b.messages (news m) k (λ j unit there. there))
      (all_join (λ (message : MessageTaken). IsAcceptedBy s.links message.member message.link) b.messages (news m) holds.accepted
      (new_accepted s.links here m piece s.moment s.chances.left own.accepts))))

  -- ---- on the link of its turn

  module _ (running : Running) (whole : IsWhole w.link piece running) where
    -- the member
    abbrev pub m : MemberState
    m = record { running = Some running }

    -- the challenges that are left
    abbrev pub left : List (List ℕ)
    left = s.chances.left

    -- what the step comes to
    abbrev pub stepped : Result (Part DialWork) StepRefused
    stepped = event_part running (event.Bytes w.link piece) s.moment left

    -- the member at work on the link of its turn
    abbrev pub turn : AtTurn
    turn = at_turn w.link (work_of running)

    -- the units that it serves there
    abbrev pub served : List (ServedUnit AtTurn TurnTalk)
    served = turn_units_in (Some running) w.link piece left

    -- the units of a turn in a step that is taken
    abbrev pub taken : Result (Part DialWork) StepRefused → List (ServedUnit AtTurn TurnTalk)
    taken part = units_if_taken (step_by actions_in state_in halted_state left part).answer served

    -- what is written down of the whole unit
    abbrev pub note : TurnNote
    note = note_for its turn whole.unit

    -- the numbers of the new units on the link
    abbrev pub numbers : List ℕ
    numbers = numbers_on w.link false s.bag after.bag

    -- the marks of the new units
    abbrev pub marks : List Mark
    marks = marks_of w.link false (drop (length s.bag) after.bag) (asked_marks who s (taken stepped))

    -- all units, with the new ones
    abbrev pub sent : List Sent
    sent = b.sent ++ map (sent_at w.at) marks

    -- all messages, with the new ones
    abbrev pub all_messages : List MessageTaken
    all_messages = b.messages ++ news m

    -- messages, and what the step changes of them
    abbrev pub noted_by : Result (Part DialWork) StepRefused → List MessageTaken
    noted_by (Err why) = all_messages
    noted_by (Ok part) = noted note running.logons (unit_in w.source) (first_of numbers) all_messages

    -- the last of them is taken whole
    pub units_whole : TakesWhole turn whole.unit left served
    units_whole = whole_units running w.link whole.said piece whole.frames whole.unit left whole.on whole.rest whole.none whole.heard

    messages_are : (part : Result (Part DialWork) StepRefused) → (asked_book who w (taken part) s after (note_messages at m w piece s b)).messages ≡ noted_by part
    messages_are (Err why) = refl
    messages_are (Ok part) = whole_messages its turn whole.unit left served (unit_in w.source) numbers (note_messages at m w piece s b) units_whole

    one_mark : (part : Part DialWork) → stepped ≡ Ok part → note.sends ≡ true → asked_marks who s (taken stepped) ≡ note.mark ∷ []
    one_mark part is sends =
        ap (λ (p : Result (Part DialWork) StepRefused). asked_marks who s (taken p)) is ∙ sent_marks its turn whole.unit left served units_whole sends

    -- the request is the first of the new units
    module _ (dialled : IsDialledBy s.links at w.link) (even : length b.sent ≡ length s.bag)
        (bag : after.bag
        ≡ (perform_all (Member at) (actions_by (step_of m (event.Bytes w.link piece) s.moment left).answer)
        (heard_by (member_step (Some m) at (event.Bytes w.link piece) s.moment s.ends s.chances) s).state).state.bag) where
      abbrev route : Route
      route = ToController at dialled.controller

      request_sent : (part : Part DialWork) → stepped ≡ Ok part → note.sends ≡ true → IsSentAs note (first_of numbers) sent
      request_sent part is sends =
          let actions : List Action = actions_in part.value in
          let t : State = (heard_by (member_step (Some m) at (event.Bytes w.link piece) s.moment s.ends s.chances) s).state in
          let answers : (step_of m (event.Bytes w.link piece) s.moment left).answer ≡ Ok actions =
          ap (λ (p : Result (Part DialWork) StepRefused). (step_by actions_in state_in halted_state left p).answer) is in
          let units : taken stepped ≡ served = ap taken is in
          let first : SendsFirst w.link actions =
          whole_first its turn whole.unit left served actions units_whole sends
          (subst (λ (all : List (ServedUnit AtTurn TurnTalk)). AreFirst its all actions) units (requests_first.first its m w.link piece s.moment left actions answers)) in
          let own : BagUnit = unit_on route (Member at) w.link first.bytes in
          let new : IsFirstNew own s.bag (perform_all (Member at) actions t).state.bag =
          sent_first route (Member at) w.link first.bytes first.more actions t dialled.at refl first.is in
          let same : after.bag ≡ (perform_all (Member at) actions t).state.bag =
          bag ∙ ap (λ (answer : Result (List Action) StepRefused). (perform_all (Member at) (actions_by answer) t).state.bag) answers in
          subst (λ (all : List Mark). IsSentAs note (first_of numbers) (b.sent ++ map (sent_at w.at) (marks_of w.link false (drop (length s.bag) after.bag) all)))
          (sym (one_mark part is sends))
          (sent_as note w.link w.at own s.bag after.bag b.sent (ap (λ (hit : Bool). hit && true) ((Decides-eqb w.link w.link).1 refl)) even
          (new_as own s.bag after.bag (perform_all (Member at) actions t).state.bag same new))

      -- the mark of a request stands in one place
      pub request_placed : (part : Part DialWork) → stepped ≡ Ok part → note.sends ≡ true → IsPlaced marks note.mark
      request_placed part is sends =
          let actions : List Action = actions_in part.value in
          let t : State = (heard_by (member_step (Some m) at (event.Bytes w.link piece) s.moment s.ends s.chances) s).state in
          let answers : (step_of m (event.Bytes w.link piece) s.moment left).answer ≡ Ok actions =
          ap (λ (p : Result (Part DialWork) StepRefused). (step_by actions_in state_in halted_state left p).answer) is in
          let units : taken stepped ≡ served = ap taken is in
          let first : SendsFirst w.link actions =
          whole_first its turn whole.unit left served actions units_whole sends
          (subst (λ (all : List (ServedUnit AtTurn TurnTalk)). AreFirst its all actions) units (requests_first.first its m w.link piece s.moment left actions answers)) in
          let own : BagUnit = unit_on route (Member at) w.link first.bytes in
          let new : IsFirstNew own s.bag (perform_all (Member at) actions t).state.bag =
          sent_first route (Member at) w.link first.bytes first.more actions t dialled.at refl first.is in
          let same : after.bag ≡ (perform_all (Member at) actions t).state.bag =
          bag ∙ ap (λ (answer : Result (List Action) StepRefused). (perform_all (Member at) (actions_by answer) t).state.bag) answers in
          subst (λ (all : List Mark). IsPlaced (marks_of w.link false (drop (length s.bag) after.bag) all) note.mark) (sym (one_mark part is sends))
          (placed_first note.mark w.link own s.bag after.bag (ap (λ (hit : Bool). hit && true) ((Decides-eqb w.link w.link).1 refl))
          (new_as own s.bag after.bag (perform_all (Member at) actions t).state.bag same new))

      pub grown : (k : ℕ) (one : Sent) → slice_get b.sent k ≡ Some one → slice_get sent k ≡ Some one
      grown k one there = got_append b.sent (map (sent_at w.at) marks) k one there

      own_after : (part : Result (Part DialWork) StepRefused) → stepped ≡ part → MemberHolds s.links b.sent b.messages its at (Some running) →
          MemberHolds s.links sent (noted_by part) its at (step_by actions_in state_in halted_state left part).state.running
      own_after (Err why) is own = record { asks = tt; kept = tt; accepts = tt; out = tt }
      own_after (Ok part) is own =
          subst (λ (p : Result (Part DialWork) StepRefused).
          MemberHolds s.links sent (noted note running.logons (unit_in w.source) (first_of numbers) all_messages) its at (step_by actions_in state_in halted_state left p).state.running) is
          (whole_holds s.links b.sent sent b.messages its here running whole.said piece whole.frames whole.unit s.moment left (unit_in w.source) (first_of numbers) grown whole.on whole.rest whole.none
          whole.heard request_sent own)

      accepted_messages : CallsHold n s.member_plans s.ends s.chances.drawn s.links b.sent b.messages → MemberHolds s.links b.sent b.messages its at (Some running) → AreAccepted s.links all_messages
      accepted_messages holds own =
          all_join (λ (message : MessageTaken). IsAcceptedBy s.links message.member message.link) b.messages (news m) holds.accepted
          (new_accepted s.links here m piece s.moment left own.accepts)

      others_after : (part : Result (Part DialWork) StepRefused) (k : ℕ) → (k ≡ at → ⊥) → AreAccepted s.links all_messages → MemberHolds s.links b.sent b.messages its at (Some running) →
          StaysKnown s.links s.links b.sent sent b.messages (noted_by part) k
      others_after (Err why) k differs accepted own = messages_more s.links b.sent sent b.messages (news m) k grown
      others_after (Ok part) k differs accepted own =
          others_known s.links b.sent sent b.messages all_messages its at k note running (unit_in w.source) (first_of numbers) (λ number. IsDialledBy s.links at number) grown
          (λ P one. one_before P b.messages (news m) one) differs accepted own.kept

      accepted_after : (part : Result (Part DialWork) StepRefused) → AreAccepted s.links all_messages → AreAccepted s.links (noted_by part)
      accepted_after (Err why) accepted = accepted
      accepted_after (Ok part) accepted = noted_accepted s.links note running.logons (unit_in w.source) (first_of numbers) all_messages accepted

      -- the whole unit is taken
      pub whole_comes : slice_get s.ends.members at ≡ Some m → KeptIn n s b → NotedBy m (turn_units m w.link piece s.moment left)
      whole_comes is kept few differ =
          let drawn : List (List ℕ) = (step_of m (event.Bytes w.link piece) s.moment left).drawn in
          let holds : CallsHold n s.member_plans s.ends s.chances.drawn s.links b.sent b.messages = kept (omega (arith, few)) (differ_front s.chances.drawn drawn differ) in
          let own : MemberHolds s.links b.sent b.messages its at (Some running) = holds.members at m is in
          let accepted : AreAccepted s.links all_messages = accepted_messages holds own in
          let step : EndStep = member_step (Some m) at (event.Bytes w.link piece) s.moment s.ends s.chances in
          let now_marks : marks_in sent ≡ marks_in b.sent ++ marks =
          marks_append b.sent (map (sent_at w.at) marks) ∙ ap (λ (more : List Mark). marks_in b.sent ++ more) (marks_sent w.at marks) in
          let apart : CallsAreApart
          (requests_after (views_at s.member_plans s.ends) at its (step_of m (event.Bytes w.link piece) s.moment left).state.running (marks_in b.sent ++ marks) (s.chances.drawn ++ drawn) (2 * n + 2)) =
          whole_apart (views_at s.member_plans s.ends) at its running w.link whole.said piece whole.frames whole.unit s.moment left (marks_in b.sent) marks s.chances.drawn (2 * n)
          (omega (arith, few)) whole.on whole.rest whole.none whole.heard own.asks.coherent (ap (λ (x : Option MemberState). seen_member its x) is)
          (placed_part its turn whole.unit stepped w.link (drop (length s.bag) after.bag) left served units_whole) holds.apart differ in
          subst (λ (messages : List MessageTaken).
          CallsHold (n + 1) s.member_plans step.ends step.chances.drawn s.links
          ((asked_book who w (taken stepped) s after (note_messages at m w piece s b)).sent ++ map (sent_at w.at) marks) messages) (sym (messages_are stepped))
          (subst (λ (old : List Sent). CallsHold (n + 1) s.member_plans step.ends step.chances.drawn s.links (old ++ map (sent_at w.at) marks) (noted_by stepped))
          (sym (turns_sent who w (taken stepped) s after (note_messages at m w piece s b)))
          (member_changed s.member_plans s.ends at (step_of m (event.Bytes w.link piece) s.moment left).state n (n + 1) (2 * n + 2) s.chances.drawn (s.chances.drawn ++ drawn) s.links b.sent sent
          b.messages (noted_by stepped) (omega arith) holds
          (subst (λ (all : List Mark).
          CallsAreApart (requests_after (views_at s.member_plans s.ends) at its (step_of m (event.Bytes w.link piece) s.moment left).state.running all (s.chances.drawn ++ drawn) (2 * n + 2)))
          (sym now_marks) apart)
          (own_after stepped refl own) (λ k differs. others_after stepped k differs accepted own) (accepted_after stepped accepted)))
