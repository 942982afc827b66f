-- Through a run the order stays in which channels are accepted, and the calls on them, where what members take suits
-- it: a channel that opens was accepted, and a call of another member is one of another computer.
use Rattle.std.proofs.Common.{◌≡◌, ℕ, ◌+◌, ◌*◌, ◌≤◌, false, List, [], ◌++◌, length, map, drop, inl, inr, Option, Some, slice_get, refl, sym, ap, subst, ◌∙◌, arith}
use Rattle.outside.specs.declared.event.Event.{Event}
use Rattle.outside.specs.declared.event.Event.TheVariants as event
use Rattle.channel_client.specs.Effects.{effect_of_take}
use Rattle.channel_events.specs.Marks.{Mark}
use Rattle.channel_events.specs.OrderSteps.{Asker, InOrder}
use Rattle.domain_controller.specs.State.{State as ControllerState}
use Rattle.domain_controller.specs.Step.{first_state, step_of as controller_step_of}
use Rattle.end_links.specs.Serving.{ServedUnit}
use Rattle.channel_turns.specs.declared.state.Dialling.TheVariants as dialling
use Rattle.channel_turns.specs.declared.state.TurnTalk.{TurnTalk}
use Rattle.logon_client.specs.Machine.{fresh_client, step_of as client_step_of}
use Rattle.logon_client.specs.State.{State as ClientState}
use Rattle.member_server.specs.Machine.{event_part, step_of}
use Rattle.member_server.specs.State.{State as MemberState}
use Rattle.member_server.specs.Turns.{AtTurn}
use Rattle.member_server.specs.declared.state.Running.{Running}
use Rattle.step_notes.specs.MemberNotes.{turn_units}
use Rattle.step_notes.specs.Records.{Book, ChannelAccepted, OfMember, Sent}
use Rattle.world_moves.specs.declared.bag.BagUnit.{BagUnit}
use Rattle.world_moves.specs.declared.links.EndId.{EndId}
use Rattle.world_moves.specs.declared.links.EndId.TheVariants.{Controller, Member}
use Rattle.world_moves.specs.declared.state.State.{State}
use Rattle.world_moves.specs.Acting.{Given}
use Rattle.world_moves.specs.Ends.{EndStates, EndStep, client_step}
use Rattle.world_moves.specs.Moving.{changed}
use Rattle.world_moves.proofs.ChangeLaws.{by_change}
use Rattle.world_moves.proofs.EndKindLaws.{IfMember}
use Rattle.domain_world.specs.Accepting.Carried.{IsWholeUnit}
use Rattle.domain_world.specs.Accepting.Runs.{NothingIsOpen, IsQuietTurn}
use Rattle.domain_world.specs.Accepting.SeenSteps.{Differ, requests_after}
use Rattle.domain_world.specs.Claims.OrderedSteps.{SuitsIfTaken}
use Rattle.domain_world.specs.Past.{Delivery, controller_asked, marks_of, note_client, note_given, note_member, note_messages, other_marks, sent_at}
use Rattle.domain_world.proofs.Frames.AloneNoteLaws.{note_alone as note_at, note_controller_alone as note_controller}
use Rattle.domain_world.proofs.Acceptance.LetInStepLaws.{IsDialledBy, Meets, MeetsMember}
use Rattle.domain_world.proofs.Apart.OrderStayLaws.{order_anew, order_changes, order_clients, order_controllers, order_member, order_other, order_sent, order_steps}
use Rattle.domain_world.proofs.Apart.OrderToldLaws.{Told, asked, client_earlier, controller_earlier, controller_order, given_earlier, member_earlier, told_before}
use Rattle.domain_world.proofs.Apart.StepOrderLaws.{step_in_order}
use Rattle.domain_world.proofs.Frames.BagFrameLaws.{IsServer}
use Rattle.domain_world.proofs.Moves.ComingLaws.{CameFrom}
use Rattle.domain_world.proofs.Frames.EndNoteLaws.{accepted_so, acted_by, stepped}
use Rattle.domain_world.proofs.Moves.OpenMadeLaws.{IsAtSide}
use Rattle.domain_world.proofs.Frames.StepFrameLaws.{RunFact}
use Rattle.domain_world.proofs.Frames.TurnFrameLaws.{asked_marks, turns_sent}
use Rattle.domain_world.proofs.Calls.CallComesLaws.{IsWhole, KeptIn, if_none, no_requests_sent, other_none, served, turn, units_in_none, units_whole}
use Rattle.domain_world.proofs.Calls.CallFrameLaws.{came_whole, dialled_on, other_calls, turn_case}
use Rattle.domain_world.proofs.Calls.CallHoldsLaws.{CallsHold, differ_front, marks_append, marks_in, marks_sent, requests_at, views_at}
use Rattle.domain_world.proofs.Calls.CallStepLaws.{hears_none, most_steps}
use Rattle.domain_world.proofs.Calls.OutStepLaws.{IsOther, MemberHolds}
use Rattle.domain_world.proofs.Calls.StepApartLaws.{seen_member}
use Rattle.domain_world.proofs.Calls.WholeNotedLaws.{none_marked, placed_part}
use Rattle.step_notes.specs.Served.{units_if_taken}
use Rattle.world_moves.specs.Alone.{alone_controller_step as controller_step, hear_alone as hear}
use Rattle.world_moves.specs.Plain.{plain_member_step as member_step}
use Rattle.domain_world.proofs.Frames.AloneStepLaws.{act_alone as hear_and_act, alone_by as step_by, renew_alone_by as renew_by, renewed_alone as renewed}

-- ---- what is to hold

-- where few steps were taken, the draws so far differ, and the book tells of openings
abbrev pub OrderSo : Asker → ℕ → State → EndStep → Book → Type 0
OrderSo base n s step b = n ≤ most_steps → Differ step.chances.drawn → Told b → InOrder (requests_at n s.member_plans step.ends step.chances.drawn b.sent) (asked base b.accepted)

abbrev pub OrderKept : Asker → RunFact
OrderKept base n s given b = n ≤ most_steps → Differ s.chances.drawn → Told b → InOrder (requests_at n s.member_plans s.ends s.chances.drawn b.sent) (asked base b.accepted)

-- What a member takes in one whole unit suits the order: it may rest on a fact beside what is known of calls.
abbrev pub AllSuit : Asker → RunFact → Type 0
AllSuit base More =
    (n at : ℕ) (w : Delivery) (piece : List ℕ) (s after : State) (given : Given) (b : Book) (running : Running) (whole : IsWhole w.link piece running) →
    slice_get s.ends.members at ≡ Some (record { running = Some running }) → IsAtSide s.links w.link w.back (Member at) → CameFrom w.source s w piece →
    length b.sent ≡ length s.bag → CallsHold n s.member_plans s.ends s.chances.drawn s.links b.sent b.messages → More n s given b → Told (note_member (Some (record { running = Some running })) at w piece s after b) →
    InOrder (requests_at n s.member_plans s.ends s.chances.drawn b.sent) (asked base b.accepted) →
    SuitsIfTaken (event_part running (event.Bytes w.link piece) s.moment s.chances.left) (asked base b.accepted) at (effect_of_take (controller_asked (OfMember at) s) running.logons.channel whole.unit)

-- what it rests on
abbrev pub OrderSide : RunFact → RunFact
OrderSide More n s given b = NothingIsOpen s × KeptIn n s b × More n s given b

module _ (base : Asker) where
  -- ---- an end takes a step

  pub none_order : (n : ℕ) (s : State) (given : Given) (b : Book) → OrderKept base n s given b → OrderKept base (n + 1) s given b
  none_order n s given b order few differ told =
      order_other n (n + 1) s.member_plans s.ends s.ends s.chances.drawn s.chances.drawn b.sent (asked base b.accepted) refl (record { controllers = refl; members = refl; clients = refl; stations = refl })
      (order (omega (arith, few)) differ told)

  controller_hears : (n : ℕ) (c : ControllerState) (at : ℕ) (what : Event) (s : State) (given : Given) (b : Book) → OrderKept base n s given b →
      OrderSo base (n + 1) s (controller_step (Some c) at what s.moment s.ends s.chances) b
  controller_hears n c at what s given b order few differ told =
      order_controllers n (n + 1) s.member_plans s.ends at (controller_step_of c what s.moment s.chances.left).state s.chances.drawn
      (controller_step (Some c) at what s.moment s.ends s.chances).chances.drawn b.sent (asked base b.accepted)
      (order (omega (arith, few)) (differ_front s.chances.drawn (controller_step_of c what s.moment s.chances.left).drawn differ) told)

  pub client_hears : (n : ℕ) (c : ClientState) (at : ℕ) (what : Event) (s : State) (given : Given) (b : Book) → OrderKept base n s given b →
      OrderSo base (n + 1) s (client_step (Some c) at what s.moment s.ends s.chances) b
  client_hears n c at what s given b order few differ told =
      order_clients n (n + 1) s.member_plans s.ends at (client_step_of c what s.moment s.chances.left).state s.chances.drawn
      (client_step (Some c) at what s.moment s.ends s.chances).chances.drawn b.sent (asked base b.accepted)
      (order (omega (arith, few)) (differ_front s.chances.drawn (client_step_of c what s.moment s.chances.left).drawn differ) told)

  member_hears : (n : ℕ) (m : MemberState) (at : ℕ) (what : Event) (s : State) (given : Given) (b : Book) → slice_get s.ends.members at ≡ Some m → MeetsMember s.links what at →
      KeptIn n s b → OrderKept base n s given b → OrderSo base (n + 1) s (member_step (Some m) at what s.moment s.ends s.chances) b
  member_hears n m at what s given b is meets kept order few differ told =
      let before : Differ s.chances.drawn = differ_front s.chances.drawn (step_of m what s.moment s.chances.left).drawn differ in
      order_steps n s.member_plans s.ends at b.sent (asked base b.accepted) s.links b.messages m what s.moment s.chances is
      (hears_none (λ number. IsDialledBy s.links at number) m.running what meets.0) few differ (kept (omega (arith, few)) before) (order (omega (arith, few)) before told)

  pub hears_order : (n : ℕ) (end : EndId) (what : Event) (s : State) (given : Given) (b : Book) → Meets end s.links what → KeptIn n s b → OrderKept base n s given b →
      OrderKept base (n + 1) (hear end what s).state given b
  hears_order n end what s given b meets kept order =
      step_by (λ (one : EndId) (step : EndStep). IfMember (MeetsMember s.links what) one → OrderSo base (n + 1) s step b) what s.moment s.ends s.chances
      (λ one its. none_order n s given b order) (λ at c is its. controller_hears n c at what s given b order)
      (λ at m is its. member_hears n m at what s given b is (its at refl) kept order) (λ at c is its. client_hears n c at what s given b order) end meets

  -- ---- bytes come at a member

  module _ (n : ℕ) (m : MemberState) (at : ℕ) (w : Delivery) (piece : List ℕ) (s after : State) (given : Given) (b : Book) (is : slice_get s.ends.members at ≡ Some m) where
    abbrev now : Book
    now = note_member (Some m) at w piece s after b

    abbrev step : EndStep
    step = member_step (Some m) at (event.Bytes w.link piece) s.moment s.ends s.chances

    abbrev units : List (ServedUnit AtTurn TurnTalk)
    units = turn_units m w.link piece s.moment s.chances.left

    -- the units that it sends for those
    abbrev more : List (ServedUnit AtTurn TurnTalk) → List Sent
    more served = map (sent_at w.at) (marks_of w.link false (drop (length s.bag) after.bag) (asked_marks (OfMember at) s served))

    abbrev OrderBy : List (ServedUnit AtTurn TurnTalk) → Type 0
    OrderBy served = InOrder (requests_at (n + 1) s.member_plans step.ends step.chances.drawn (b.sent ++ more served)) (asked base b.accepted)

    -- order, by what is written down
    noted_order : OrderBy units → InOrder (requests_at (n + 1) s.member_plans step.ends step.chances.drawn now.sent) (asked base now.accepted)
    noted_order order =
        subst (λ (accepted : List ChannelAccepted). InOrder (requests_at (n + 1) s.member_plans step.ends step.chances.drawn now.sent) (asked base accepted))
        (sym (accepted_so.members m at w piece s after b))
        (subst (λ (old : List Sent). InOrder (requests_at (n + 1) s.member_plans step.ends step.chances.drawn (old ++ more units)) (asked base b.accepted))
        (sym (turns_sent (OfMember at) w units s after (note_messages at m w piece s b))) order)

    -- on another link than that of its turn
    other_order : IsOther m.running w.link → KeptIn n s b → OrderKept base n s given b → OrderSo base (n + 1) s step now
    other_order other kept order few differ told =
        let before : Differ s.chances.drawn = differ_front s.chances.drawn (step_of m (event.Bytes w.link piece) s.moment s.chances.left).drawn differ in
        let none : units ≡ [] =
        ap (λ (served : List (ServedUnit AtTurn TurnTalk)). units_if_taken (step_of m (event.Bytes w.link piece) s.moment s.chances.left).answer served)
        (units_in_none m.running w.link piece s.chances.left other)
        ∙ if_none (step_of m (event.Bytes w.link piece) s.moment s.chances.left).answer in
        let new : List BagUnit = drop (length s.bag) after.bag in
        noted_order (subst OrderBy (sym none)
        (order_sent (n + 1) s.member_plans step.ends step.chances.drawn b.sent (map (sent_at w.at) (marks_of w.link false new [])) (asked base b.accepted)
        (no_requests_sent w.at (marks_of w.link false new []) (none_marked w.link false new))
        (order_steps n s.member_plans s.ends at b.sent (asked base b.accepted) s.links b.messages m (event.Bytes w.link piece) s.moment s.chances is (other_none m.running w.link piece other) few
        differ (kept (omega (arith, few)) before) (order (omega (arith, few)) before (told_before b now (member_earlier m at w piece s after b) told)))))

  -- one whole unit is taken on the link of its turn
  module _ (n at : ℕ) (w : Delivery) (piece : List ℕ) (s after : State) (given : Given) (b : Book) (running : Running) (whole : IsWhole w.link piece running)
      (is : slice_get s.ends.members at ≡ Some (record { running = Some running })) where
    abbrev own_marks : List Mark
    own_marks = marks_of w.link false (drop (length s.bag) after.bag) (asked_marks (OfMember at) s (turn_units (record { running = Some running }) w.link piece s.moment s.chances.left))

    abbrev own_sent : List Sent
    own_sent = b.sent ++ map (sent_at w.at) own_marks

    own_marked : marks_in own_sent ≡ marks_in b.sent ++ own_marks
    own_marked = marks_append b.sent (map (sent_at w.at) own_marks) ∙ ap (λ (marks : List Mark). marks_in b.sent ++ marks) (marks_sent w.at own_marks)

    whole_order : (More : RunFact) → AllSuit base More → IsAtSide s.links w.link w.back (Member at) → CameFrom w.source s w piece → length b.sent ≡ length s.bag → KeptIn n s b → More n s given b → OrderKept base n s given b →
        OrderSo base (n + 1) s (member_step (Some (record { running = Some running })) at (event.Bytes w.link piece) s.moment s.ends s.chances)
        (note_member (Some (record { running = Some running })) at w piece s after b)
    whole_order More suits here came even kept side order few differ told =
        let m : MemberState = record { running = Some running } in
        let what : Event = event.Bytes w.link piece in
        let its : ℕ = controller_asked (OfMember at) s in
        let drawn : List (List ℕ) = s.chances.drawn ++ (step_of m what s.moment s.chances.left).drawn in
        let before : Differ s.chances.drawn = differ_front s.chances.drawn (step_of m what s.moment s.chances.left).drawn differ in
        let holds : CallsHold n s.member_plans s.ends s.chances.drawn s.links b.sent b.messages = kept (omega (arith, few)) before in
        let own : MemberHolds s.links b.sent b.messages its at (Some running) = holds.members at m is in
        let was : InOrder (requests_at n s.member_plans s.ends s.chances.drawn b.sent) (asked base b.accepted) =
        order (omega (arith, few)) before (told_before b (note_member (Some m) at w piece s after b) (member_earlier m at w piece s after b) told) in
        let now_so : InOrder (requests_after (views_at s.member_plans s.ends) at its (step_of m what s.moment s.chances.left).state.running (marks_in b.sent ++ own_marks) drawn (2 * n + 2)) (asked base b.accepted) =
        step_in_order.whole (requests_at n s.member_plans s.ends s.chances.drawn b.sent) at its (asked base b.accepted) running w.link whole.said piece whole.frames whole.unit s.moment s.chances.left
        own_marks (omega (arith, few)) whole.on whole.rest whole.none whole.heard
        (placed_part its (turn n at w piece s after b running whole) whole.unit (event_part running what s.moment s.chances.left) w.link (drop (length s.bag) after.bag) s.chances.left
        (served n at w piece s after b running whole) (units_whole n at w piece s after b running whole))
        (suits n at w piece s after given b running whole is here came even holds side told was)
        (record { at = ap (λ (x : Option MemberState). seen_member its x) is; coherent = own.asks.coherent; apart = holds.apart; order = was }) differ in
        noted_order n m at w piece s after given b is
        (order_member n s.member_plans s.ends at b.sent (asked base b.accepted) (step_of m what s.moment s.chances.left).state (n + 1) (2 * n + 2) drawn own_sent
        (subst (λ (marks : List Mark).
        InOrder (requests_after (views_at s.member_plans s.ends) at its (step_of m what s.moment s.chances.left).state.running marks drawn (2 * n + 2)) (asked base b.accepted)) (sym own_marked) now_so))

  -- ---- bytes come

  module _ (More : RunFact) (suits : AllSuit base More) where
    member_comes : (n : ℕ) (m : MemberState) (at : ℕ) (w : Delivery) (piece : List ℕ) (s after : State) (given : Given) (b : Book) → slice_get s.ends.members at ≡ Some m →
        IsAtSide s.links w.link w.back (Member at) → CameFrom w.source s w piece → length b.sent ≡ length s.bag → OrderSide More n s given b → OrderKept base n s given b →
        OrderSo base (n + 1) s (member_step (Some m) at (event.Bytes w.link piece) s.moment s.ends s.chances) (note_member (Some m) at w piece s after b)
    member_comes n m at w piece s after given b is here came even side order = λ few differ told.
        let before : Differ s.chances.drawn = differ_front s.chances.drawn (step_of m (event.Bytes w.link piece) s.moment s.chances.left).drawn differ in
        let holds : CallsHold n s.member_plans s.ends s.chances.drawn s.links b.sent b.messages = side.1 (omega (arith, few)) before in
        elim (turn_case m.running w.link) [
          | inl other ↦ other_order n m at w piece s after given b is other side.1 order few differ told
          | inr on ↦
              let now : MemberState = record { running = Some on.running } in
              let same : m ≡ now = ap (λ (r : Option Running). record { running = r }) on.runs in
              let dialled : IsDialledBy s.links at w.link = dialled_on _ (λ number. IsDialledBy s.links at number) m.running w.link on (holds.members at m is).kept in
              let unit : IsWholeUnit piece = came_whole w.source s w piece at came dialled side.0.bag in
              let quiet : IsQuietTurn (dialling.On w.link on.said) = subst IsQuietTurn on.on (side.0.members at m on.running is on.runs) in
              let whole : IsWhole w.link piece on.running =
              record { said = on.said; on = on.on; rest = quiet.0; none = quiet.1; frames = unit.frames; unit = unit.unit; heard = unit.heard } in
              subst (λ (x : MemberState). OrderSo base (n + 1) s (member_step (Some x) at (event.Bytes w.link piece) s.moment s.ends s.chances) (note_member (Some x) at w piece s after b)) (sym same)
              (whole_order n at w piece s after given b on.running whole (is ∙ ap (λ (x : MemberState). Some x) same) More suits here came even side.1 side.2 order) few differ told
        ]

    pub comes_order : (n : ℕ) (end : EndId) (w : Delivery) (piece : List ℕ) (s : State) (given : Given) (b : Book) → IsAtSide s.links w.link w.back end → CameFrom w.source s w piece → (IsServer end → length b.sent ≡ length s.bag) →
        OrderSide More n s given b → OrderKept base n s given b →
        OrderKept base (n + 1) (hear end (event.Bytes w.link piece) s).state given (note_at (Some end) w piece s (hear_and_act end (event.Bytes w.link piece) s).state b)
    comes_order n end w piece s given b here came even side order =
        acted_by (λ (one : EndId) (step : EndStep) (after : State) (now : Book). IsAtSide s.links w.link w.back one → (IsServer one → length b.sent ≡ length s.bag) → OrderSo base (n + 1) s step now) w piece s b
        (λ one at_side marked. none_order n s given b order)
        (λ at c is at_side marked few differ told.
        let after : State = stepped (Controller at) (controller_step (Some c) at (event.Bytes w.link piece) s.moment s.ends s.chances) s in
        controller_order base n c at w piece s after b came (marked refl) told
        (order (omega (arith, few)) (differ_front s.chances.drawn (controller_step_of c (event.Bytes w.link piece) s.moment s.chances.left).drawn differ)
        (told_before b (note_controller (Some c) at w piece s after b) (controller_earlier c at w piece s after b (marked refl)) told)))
        (λ at m is at_side marked.
        member_comes n m at w piece s (stepped (Member at) (member_step (Some m) at (event.Bytes w.link piece) s.moment s.ends s.chances) s) given b is at_side came (marked refl) side order)
        (λ at c is at_side marked few differ told.
        client_hears n c at (event.Bytes w.link piece) s given b order few differ
        (told_before b (note_client (Some c) at w piece s b) (client_earlier c at w piece s b) told)) end here even

  -- ---- single changes

  pub renewed_order : (n : ℕ) (end : EndId) (s : State) (given : Given) (b : Book) → OrderKept base n s given b → OrderKept base n (renewed end s) given b
  renewed_order n end s given b order =
      renew_by (λ (one : EndId) (ends : EndStates).
      n ≤ most_steps → Differ s.chances.drawn → Told b → InOrder (requests_at n s.member_plans ends s.chances.drawn b.sent) (asked base b.accepted)) s (λ one. order)
      (λ at c is few differ told.
      order_controllers n n s.member_plans s.ends at (first_state c.table c.name) s.chances.drawn s.chances.drawn b.sent (asked base b.accepted) (order few differ told))
      (λ at plan is few differ told. order_anew n s.member_plans s.ends at b.sent (asked base b.accepted) s.links b.messages plan s.chances.drawn (order few differ told))
      (λ at plan is few differ told.
      order_clients n n s.member_plans s.ends at (fresh_client plan) s.chances.drawn s.chances.drawn b.sent (asked base b.accepted) (order few differ told)) end

  pub changed_order : (n at : ℕ) (secret : List ℕ) (s : State) (given : Given) (b : Book) → OrderKept base n s given b → OrderKept base (n + 1) (changed at secret s).state given b
  changed_order n at secret s given b order =
      by_change (λ (ends : EndStates) (actions : List _).
      n + 1 ≤ most_steps → Differ s.chances.drawn → Told b → InOrder (requests_at (n + 1) s.member_plans ends s.chances.drawn b.sent) (asked base b.accepted)) at secret s.ends
      (none_order n s given b order)
      (λ running is none few differ told.
      order_changes n s.member_plans s.ends at b.sent (asked base b.accepted) s.links b.messages secret running s.chances.drawn is (order (omega (arith, few)) differ told))

  pub over_order : (n at : ℕ) (s : State) (given : Given) (b : Book) → OrderKept base n s given b → OrderKept base n s [] (note_given at given s b)
  over_order n at s given b order few differ told =
      let marked : ℕ = length b.sent in
      order_sent n s.member_plans s.ends s.chances.drawn b.sent (map (sent_at at) (other_marks b.forwards s marked)) (asked base b.accepted) (other_calls at b.forwards s marked)
      (order few differ (told_before b (note_given at given s b) (given_earlier at given s b) told))
