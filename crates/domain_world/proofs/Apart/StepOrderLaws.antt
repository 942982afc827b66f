-- One step of a member keeps the order in which channels are accepted, and the calls on them.
-- It serves `members_step_in_order`.
use Rattle.std.proofs.Common.{◌≡◌, ◌⊎◌, ℕ, ◌+◌, ◌<◌, ◌^◌, ◌==◌, Bool, true, false, List, [], ◌∷◌, ◌++◌, replicate, inl, inr, Option, Some, None, Result, Ok, Err, slice_get, refl, sym, subst, arith}
use Rattle.std.specs.List.{AllByRecursion}
use Rattle.outside.specs.Drawing.{IsRest, draws_between}
use Rattle.outside.specs.Machine.{Part, step_by}
use Rattle.outside.specs.declared.action.StepRefused.{StepRefused}
use Rattle.outside.specs.declared.event.Event.{Event}
use Rattle.outside.specs.declared.event.Event.TheVariants as event
use Rattle.rpc_units.specs.declared.unit.Unit.{Unit as RpcUnit}
use Rattle.authenticators.specs.Channels.{ChannelIdentity}
use Rattle.channel_client.specs.Effects.{Answers, Begins, Calls, Counts, Drops, Effect, Moves, Opens, Stays, View, effect_of_take, view_of}
use Rattle.channel_client.specs.Machine.{ask_of, can_start, lose_of, needs_challenge, start_of, take_of}
use Rattle.channel_client.specs.State.{Requester}
use Rattle.channel_events.specs.AcceptedOrder.{Accepted, IsMade}
use Rattle.channel_events.specs.Marks.{Calling, Mark, Opening, Plain}
use Rattle.channel_events.specs.OrderSteps.{Asker, InOrder, InOrderAfter}
use Rattle.channel_events.specs.RequestSteps.{IsFreshIf, with_seen}
use Rattle.channel_events.specs.Requests.{IsDrawn, Requests}
use Rattle.channel_events.proofs.AcceptedOrderLaws.{behind_weaker}
use Rattle.wire_base.proofs.ListLaws.{all_weaker, at_end, got_append}
use Rattle.channel_events.proofs.OrderStepLaws.{requesters_keep_order}
use Rattle.member_server.specs.ChannelSteps.{ChannelSteps, ComesCalmly, IsCalm, IsNextTurn, StepsIfTaken}
use Rattle.member_server.specs.Laws.{Asks, Doing, Loses, Starts, Takes, state_after}
use Rattle.member_server.specs.Machine.{actions_in, by_event, event_part, halted_state, state_in, step_of, work_of}
use Rattle.member_server.specs.Turns.{DialWork, ready_channel, timestamp_of}
use Rattle.member_server.specs.declared.state.Running.{Running}
use Rattle.member_server.specs.declared.state.Work.{Work}
use Rattle.member_server.proofs.ChannelStepLaws.{channel_steps}
use Rattle.step_notes.specs.ChannelNames.{passed_note}
use Rattle.step_notes.specs.EffectNotes.{IsNotedBy, opening_out_of}
use Rattle.step_notes.specs.MemberNotes.{TurnNote, no_note, request_note, taking_note}
use Rattle.step_notes.proofs.Channels.EffectNoteLaws.{steps_are_noted}
use Rattle.domain_world.specs.Accepting.SeenSteps.{Differ, HearsNone, IsPlaced, NoRequests, Placed, PlacedBy, requests_after}
use Rattle.domain_world.specs.Claims.OrderedSteps.{AreBefore, MembersStepInOrder, Suits, SuitsIfTaken}
use Rattle.domain_world.proofs.Calls.LooserLaws.{calls_before, placed_as}
use Rattle.domain_world.proofs.Calls.ReadyLaws.{ready_coherent}
use Rattle.domain_world.proofs.Calls.StepApartLaws.{StandsApart, as_seen, calmly, comes_calmly, drawn_more, fresh_last, hidden, none_before, one_drawn, or_if, or_none, rest_of, seen_so, seen_with, start_so, taken_so, with_front}

placed_by : (note other : TurnNote) (more : List Mark) → note ≡ other → Placed note.sends note.mark more → Placed other.sends other.mark more
placed_by note other more is placed = subst (λ (n : TurnNote). Placed n.sends n.mark more) is placed

-- an opening behind which a call was put was there before
opening_before : (marks : List Mark) (c : ChannelIdentity) (number timestamp unit other : ℕ) (d : ChannelIdentity) →
    slice_get (marks ++ Calling c number timestamp ∷ []) unit ≡ Some (Opening d other) → slice_get marks unit ≡ Some (Opening d other)
opening_before marks c number timestamp unit other d there = elim (at_end marks (Calling c number timestamp) (Opening d other) unit there) [
  | inl old ↦ old
  | inr new ↦ absurd (let never = new.1 in cc)
]

module _ (views : ℕ → Option View) (who controller : ℕ) (a : Asker) where
  -- the asker is in order where the requester is seen as that state
  abbrev pub OrderAt : Requester → List Mark → Type 0
  OrderAt s marks = InOrder (seen_with views who (view_of controller s) marks [] 0) a

  pub order_with : (s : Requester) (marks : List Mark) (drawn : List (List ℕ)) (uses : ℕ) → OrderAt s marks → InOrder (seen_with views who (view_of controller s) marks drawn uses) a
  order_with s marks drawn uses order = record { called = order.called; stands = order.stands; made = order.made; behind = order.behind }

  order_again : (v : View) (t : Requester) (marks : List Mark) (drawn : List (List ℕ)) (uses used : ℕ) →
      InOrder (with_seen who (view_of controller t) used (seen_with views who v marks drawn uses)) a → OrderAt t marks
  order_again v t marks drawn uses used order = record {
    called = order.called;
    stands = λ i w c at is. order.stands i w c (hidden (i == who) v (view_of controller t) (views i) w at) is;
    made = order.made;
    behind = λ w challenge at holds. order.behind w challenge (hidden (a.who == who) v (view_of controller t) (views a.who) w at) holds;
  }

  -- ---- logons are asked, the turn is lost

  pub calmly_order : (doings : List Doing) (s : Requester) (marks : List Mark) (drawn : List (List ℕ)) (uses : ℕ) → AllByRecursion IsCalm doings → uses + 2 < 2 ^ 32 →
      StandsApart views who controller s marks drawn uses → OrderAt s marks → OrderAt (state_after doings s) marks
  calmly_order [] s marks drawn uses calm few stands order = order
  calmly_order (Asks info ∷ doings) s marks drawn uses calm few stands order =
      calmly_order doings (ask_of s info).state marks drawn uses calm.1 few (calmly views who controller (Asks info ∷ []) s marks drawn uses (tt, tt) few stands)
      (order_again (view_of controller s) (ask_of s info).state marks drawn uses 0
      (requesters_keep_order.ask (seen_with views who (view_of controller s) marks drawn uses) who controller s info a (seen_so views who controller s marks drawn uses few stands)
      (order_with s marks drawn uses order)))
  calmly_order (Starts timestamp challenge ∷ doings) s marks drawn uses calm few stands order = absurd calm.0
  calmly_order (Takes unit ∷ doings) s marks drawn uses calm few stands order = absurd calm.0
  calmly_order (Loses ∷ doings) s marks drawn uses calm few stands order =
      calmly_order doings (lose_of s).state marks drawn uses calm.1 few (calmly views who controller (Loses ∷ []) s marks drawn uses (tt, tt) few stands)
      (order_again (view_of controller s) (lose_of s).state marks drawn uses 0
      (requesters_keep_order.lose (seen_with views who (view_of controller s) marks drawn uses) who controller s a (seen_so views who controller s marks drawn uses few stands)
      (order_with s marks drawn uses order)))

  comes_order : (s t : Requester) (marks : List Mark) (drawn : List (List ℕ)) (uses : ℕ) → ComesCalmly s t → uses + 2 < 2 ^ 32 → StandsApart views who controller s marks drawn uses →
      OrderAt s marks → OrderAt t marks
  comes_order s t marks drawn uses comes few stands order =
      subst (λ (x : Requester). OrderAt x marks) (sym comes.is) (calmly_order comes.doings s marks drawn uses comes.calm few stands order)

  -- ---- marks

  -- with marks of which each call was one before, and among which are all openings
  order_by_marks : (s : Requester) (marks later : List Mark) →
      ((unit number timestamp : ℕ) (c : ChannelIdentity) → slice_get later unit ≡ Some (Calling c number timestamp) → slice_get marks unit ≡ Some (Calling c number timestamp)) →
      ((unit number : ℕ) (c : ChannelIdentity) → slice_get marks unit ≡ Some (Opening c number) → slice_get later unit ≡ Some (Opening c number)) → OrderAt s marks → OrderAt s later
  order_by_marks s marks later calls openings order = record {
    called = λ unit number timestamp c there. order.called unit number timestamp c (calls unit number timestamp c there);
    stands = order.stands;
    made = all_weaker (λ (one : Accepted). one.in_unit ≡ true → IsMade marks one.channel) (λ (one : Accepted). one.in_unit ≡ true → IsMade later one.channel) a.accepted
        (λ one was came.
        let its : IsMade marks one.channel = was came in
        record { unit = its.unit; named = its.named; number = its.number; there = openings its.unit its.number its.named its.there; same = its.same }) order.made;
    behind = λ v challenge at holds.
        behind_weaker marks later a.controller a.computer challenge a.accepted
        (λ c of is. inl (record {
          unit = is.unit;
          named = is.named;
          number = is.number;
          timestamp = is.timestamp;
          there = calls is.unit is.number is.timestamp is.named is.there;
          same = is.same;
        })) (order.behind v challenge at holds);
  }

  none_order : (s : Requester) (marks more : List Mark) → NoRequests more → OrderAt s marks → OrderAt s (marks ++ more)
  none_order s marks more none order =
      order_by_marks s marks (marks ++ more) (calls_before marks more none) (λ unit number c there. got_append marks more unit (Opening c number) there) order

  -- a call that was counted with isn't written down
  fewer_order : (s : Requester) (marks more : List Mark) (c : ChannelIdentity) (number timestamp : ℕ) → NoRequests more → OrderAt s (marks ++ Calling c number timestamp ∷ []) →
      OrderAt s (marks ++ more)
  fewer_order s marks more c number timestamp none order =
      order_by_marks s (marks ++ Calling c number timestamp ∷ []) (marks ++ more)
      (λ unit other later d there. got_append marks (Calling c number timestamp ∷ []) unit (Calling d other later) (calls_before marks more none unit other later d there))
      (λ unit other d there. got_append marks more unit (Opening d other) (opening_before marks c number timestamp unit other d there)) order

  -- ---- a unit is taken

  module _ (s t : Requester) (marks more : List Mark) (drawn : List (List ℕ)) (uses : ℕ) (stands : StandsApart views who controller s marks drawn uses) (order : OrderAt s marks) where
    abbrev TakesAt : Effect → Type 0
    TakesAt e =
        (some : List Mark) → StandsApart views who controller s some drawn uses → OrderAt s some →
        InOrderAfter e (seen_with views who (view_of controller s) some drawn uses) who controller t a

    abbrev Later : Type 0
    Later = OrderAt t (marks ++ more)

    none_later : NoRequests more → InOrder (with_seen who (view_of controller t) 1 (seen_with views who (view_of controller s) marks drawn uses)) a → Later
    none_later none after = none_order t marks more none (order_again (view_of controller s) t marks drawn uses 1 after)

    written_down : (mark : Mark) (is : IsPlaced more mark) →
        InOrder (with_seen who (view_of controller t) 1 (seen_with views who (view_of controller s) ((marks ++ is.front) ++ mark ∷ []) drawn uses)) a → Later
    written_down mark is after =
        subst (λ (all : List Mark). OrderAt t all) (placed_as marks more mark is)
        (none_order t ((marks ++ is.front) ++ mark ∷ []) is.rest is.behind (order_again (view_of controller s) t ((marks ++ is.front) ++ mark ∷ []) drawn uses 1 after))

    at_front : (e : Effect) (mark : Mark) (is : IsPlaced more mark) → TakesAt e → InOrderAfter e (seen_with views who (view_of controller s) (marks ++ is.front) drawn uses) who controller t a
    at_front e mark is takes =
        takes (marks ++ is.front) (with_front views who controller s t marks more drawn uses stands mark is) (none_order s marks is.front is.before order)

    opened : (c : ChannelIdentity) (number : ℕ) → NoRequests more ⊎ IsPlaced more (Opening c number) → TakesAt Counts → Later
    opened c number placed takes = elim placed [
      | inl none ↦ none_later none (takes marks stands order).0
      | inr is ↦ written_down (Opening c number) is ((at_front Counts (Opening c number) is takes).1 c number)
    ]

    called : (c : ChannelIdentity) (number timestamp : ℕ) → NoRequests more ⊎ IsPlaced more (Calling c number timestamp) → TakesAt (Calls c number) → Suits a who (Calls c number) → Later
    called c number timestamp placed takes suits = elim placed [
      | inl none ↦
          fewer_order t marks more c number timestamp none
          (order_again (view_of controller s) t (marks ++ Calling c number timestamp ∷ []) drawn uses 1 (takes marks stands order timestamp suits))
      | inr is ↦ written_down (Calling c number timestamp) is (at_front (Calls c number) (Calling c number timestamp) is takes timestamp suits)
    ]

    order_by_effect : (e : Effect) (note : TurnNote) (v : View) (old new : Bool) → IsNotedBy e note (view_of controller s) v old new → Placed note.sends note.mark more → Suits a who e →
        TakesAt e → Later
    order_by_effect Stays note v old new noted placed suits takes = none_later (placed_by note no_note more noted.0 placed) (takes marks stands order)
    order_by_effect Counts note v old new noted placed suits takes = elim noted [
      | inl plain ↦ none_later (placed_by note (request_note Plain None) more plain.0 placed) (takes marks stands order).0
      | inr out ↦
          opened out.channel (view_of controller s).call (placed_by note (request_note (Opening out.channel (view_of controller s).call) None) more out.is placed) takes
    ]
    order_by_effect (Begins client) note v old new noted placed suits takes = absurd noted
    order_by_effect (Opens c) note v old new noted placed suits takes = none_later (placed_by note (passed_note c None None) more noted placed) (takes marks stands order suits)
    order_by_effect (Moves c timestamp) note v old new noted placed suits takes = absurd noted
    order_by_effect (Calls c number) note v old new noted placed suits takes =
        called c number noted.0 (placed_by note (request_note (Calling c number noted.0) noted.1) more noted.2 placed) takes suits
    order_by_effect (Answers c number) note v old new noted placed suits takes =
        none_later (placed_by note (passed_note c noted.0 (Some number)) more noted.1 placed) (takes marks stands order)
    order_by_effect Drops note v old new noted placed suits takes = none_later (placed_by note no_note more noted placed) (takes marks stands order)

  pub taken_order : (s : Requester) (unit : RpcUnit) (marks more : List Mark) (drawn : List (List ℕ)) (uses : ℕ) → uses + 2 < 2 ^ 32 →
      Placed (taking_note (Some (take_of s unit)) controller s).sends (taking_note (Some (take_of s unit)) controller s).mark more → Suits a who (effect_of_take controller s unit) →
      StandsApart views who controller s marks drawn uses → OrderAt s marks → OrderAt (take_of s unit).state (marks ++ more)
  taken_order s unit marks more drawn uses few placed suits stands order =
      let t : Requester = (take_of s unit).state in
      order_by_effect s t marks more drawn uses stands order (effect_of_take controller s unit) (taking_note (Some (take_of s unit)) controller s) (view_of controller t)
      (opening_out_of s) (opening_out_of t) (steps_are_noted.take controller s unit stands.coherent) placed suits
      (λ some so its.
      requesters_keep_order.take (seen_with views who (view_of controller s) some drawn uses) who controller s unit a (seen_so views who controller s some drawn uses few so)
      (order_with s some drawn uses its))

  -- ---- the next turn

  started_order : (s : Requester) (timestamp : ℕ) (challenge : List ℕ) (needs : Bool) (marks : List Mark) (drawn : List (List ℕ)) (uses : ℕ) → uses + 2 < 2 ^ 32 →
      can_start s.turn s.waiting ≡ true → needs_challenge s.standing ≡ needs → IsFreshIf needs challenge drawn → StandsApart views who controller s marks drawn uses → OrderAt s marks →
      OrderAt (start_of s timestamp challenge).state marks
  started_order s timestamp challenge needs marks drawn uses few can need fresh stands order =
      order_again (view_of controller s) (start_of s timestamp challenge).state marks _ uses 1
      (requesters_keep_order.start (seen_with views who (view_of controller s) marks drawn uses) who controller s timestamp challenge a
      (seen_so views who controller s marks drawn uses few stands) can (subst (λ (b : Bool). IsFreshIf b challenge drawn) (sym need) fresh) (order_with s marks drawn uses order))

  module _ (now : ℕ) (marks : List Mark) (drawn left : List (List ℕ)) (uses : ℕ) (few : uses + 2 < 2 ^ 32) where
    next_order : (starts needs : Bool) (s : Requester) (before : List (List ℕ)) (new : Requester) (after : List (List ℕ)) (rest : IsRest before left) →
        IsNextTurn starts needs now s before new after → can_start s.turn s.waiting ≡ starts → needs_challenge s.standing ≡ needs → Differ (drawn ++ draws_between left after) →
        StandsApart views who controller s marks (drawn ++ rest.front) uses → OrderAt s marks → OrderAt new marks
    next_order false needs s before new after rest next can need differ stands order = subst (λ (x : Requester). OrderAt x marks) (sym next.0) order
    next_order true false s before new after rest next can need differ stands order =
        subst (λ (x : Requester). OrderAt x marks) (sym next.0)
        (started_order s (timestamp_of now) (replicate 8 0) false marks (drawn ++ rest.front) uses few can need tt stands order)
    next_order true true s before new after rest next can need differ stands order =
        let challenge : List ℕ = next.0 in
        let same : drawn ++ draws_between left after ≡ (drawn ++ rest.front) ++ challenge ∷ [] =
        one_drawn views who controller now marks drawn left uses few before after rest challenge next.1 in
        let fresh : IsDrawn challenge (drawn ++ rest.front) → ⊥ = fresh_last (drawn ++ rest.front) challenge (subst (λ (d : List (List ℕ)). Differ d) same differ) in
        subst (λ (x : Requester). OrderAt x marks) (sym next.2) (started_order s (timestamp_of now) challenge true marks (drawn ++ rest.front) uses few can need fresh stands order)

  -- ---- a step

  -- the end was halted
  halted_order : (s : Requester) (marks : List Mark) (drawn : List (List ℕ)) (uses : ℕ) → OrderAt s marks → InOrder (requests_after views who controller None marks drawn uses) a
  halted_order s marks drawn uses order = record {
    called = order.called;
    stands = λ i v c at is. order.stands i v c (or_none (i == who) (view_of controller s) (views i) v at) is;
    made = order.made;
    behind = λ v challenge at holds. order.behind v challenge (or_none (a.who == who) (view_of controller s) (views a.who) v at) holds;
  }

  running_order : (r : Running) (marks : List Mark) (drawn : List (List ℕ)) (uses : ℕ) → OrderAt r.logons.channel marks → InOrder (requests_after views who controller (Some r) marks drawn uses) a
  running_order r marks drawn uses order = record {
    called = order.called;
    stands = λ i v c at is. order.stands i v c (or_if (i == who) (view_of controller r.logons.channel) (views i) v at) is;
    made = order.made;
    behind = λ v challenge at holds. order.behind v challenge (or_if (a.who == who) (view_of controller r.logons.channel) (views a.who) v at) holds;
  }

  -- what the event comes to, and then the next turn
  part_order : (Mid : Requester → Type 0) (now : ℕ) (marks : List Mark) (drawn left : List (List ℕ)) (uses : ℕ) → uses + 2 < 2 ^ 32 → (first : Result (Part DialWork) StepRefused) →
      ((t : Requester) → Mid t → StandsApart views who controller t marks drawn uses × OrderAt t marks) → ((part : Part DialWork) → first ≡ Ok part → IsRest part.left left) → (part : Part DialWork) →
      (later : ℕ) → ChannelSteps first Mid now part.value.0.logons.channel part.left → Differ (drawn ++ draws_between left part.left) →
      InOrder (requests_after views who controller (state_in part.value).running marks (drawn ++ draws_between left part.left) later) a
  part_order Mid now marks drawn left uses few first so rests part later steps differ =
      let w : Work = steps.part.value.0 in
      let mid : Requester = ready_channel w in
      let rest : IsRest steps.part.left left = rests steps.part steps.is in
      let before = so w.logons.channel steps.mid in
      let apart : StandsApart views who controller w.logons.channel marks drawn uses = before.0 in
      let ready : StandsApart views who controller mid marks drawn uses = record { coherent = ready_coherent w apart.coherent; apart = apart.apart } in
      running_order (record { logons = part.value.0.logons; links = part.value.0.links; dialling = part.value.1; sealing = None }) marks (drawn ++ draws_between left part.left) later
      (next_order now marks drawn left uses few (can_start mid.turn mid.waiting) (needs_challenge mid.standing) mid steps.part.left part.value.0.logons.channel part.left rest
      steps.next refl refl differ (drawn_more views who controller mid marks drawn rest.front uses uses (omega arith) ready) before.1)

-- ---- before the step

module _ (r : Requests ℕ) (who controller : ℕ) (a : Asker) where
  pub stands_before : (running : Running) → AreBefore r who controller (Some running) a → StandsApart r.views who controller running.logons.channel r.marks r.drawn r.uses
  stands_before running before = start_so r.views who controller running.logons.channel r.marks r.drawn r.uses before.coherent before.at before.apart

  pub order_before : (running : Running) → AreBefore r who controller (Some running) a → OrderAt r.views who controller a running.logons.channel r.marks
  order_before running before = record {
    called = before.order.called;
    stands = λ i v c at is. before.order.stands i v c (as_seen r.views who controller (i == who) i (view_of controller running.logons.channel) v refl before.at at) is;
    made = before.order.made;
    behind = λ v challenge at holds.
        before.order.behind v challenge (as_seen r.views who controller (a.who == who) a.who (view_of controller running.logons.channel) v refl before.at at) holds;
  }

  -- ---- no whole unit comes on the link of the turn

  other_by : (part : Result (Part DialWork) StepRefused) (running : Running) (what : Event) (now : ℕ) (left : List (List ℕ)) → r.uses + 2 < 2 ^ 32 →
      StepsIfTaken (by_event what running.dialling (work_of running) left) (ComesCalmly running.logons.channel) now part → AreBefore r who controller (Some running) a →
      Differ (r.drawn ++ (step_by actions_in state_in halted_state left part).drawn) →
      InOrder
      (requests_after r.views who controller (step_by actions_in state_in halted_state left part).state.running r.marks (r.drawn ++ (step_by actions_in state_in halted_state left part).drawn)
      (r.uses + 1)) a
  other_by (Err why) running what now left few steps before differ =
      halted_order r.views who controller a running.logons.channel r.marks (r.drawn ++ left) (r.uses + 1) (order_before running before)
  other_by (Ok part) running what now left few steps before differ =
      let s : Requester = running.logons.channel in
      part_order r.views who controller a (ComesCalmly s) now r.marks r.drawn left r.uses few (by_event what running.dialling (work_of running) left)
      (λ t mid. (
        comes_calmly r.views who controller s t r.marks r.drawn r.uses mid few (stands_before running before),
        comes_order r.views who controller a s t r.marks r.drawn r.uses mid few (stands_before running before) (order_before running before),
      )) (rest_of r.views who controller running what left) part (r.uses + 1) steps differ

  stopped_order : (drawn : List (List ℕ)) (uses : ℕ) → InOrder r a → InOrder (requests_after r.views who controller None r.marks drawn uses) a
  stopped_order drawn uses order = record {
    called = order.called;
    stands = λ i v c at is. order.stands i v c (none_before (i == who) (r.views i) v at) is;
    made = order.made;
    behind = λ v challenge at holds. order.behind v challenge (none_before (a.who == who) (r.views a.who) v at) holds;
  }

  -- ---- a whole unit comes on it

  whole_by : (part : Result (Part DialWork) StepRefused) (running : Running) (what : Event) (unit : RpcUnit) (now : ℕ) (left : List (List ℕ)) (more : List Mark) → r.uses + 3 < 2 ^ 32 →
      StepsIfTaken (by_event what running.dialling (work_of running) left) (ComesCalmly (take_of running.logons.channel unit).state) now part →
      PlacedBy part (taking_note (Some (take_of running.logons.channel unit)) controller running.logons.channel) more →
      SuitsIfTaken part a who (effect_of_take controller running.logons.channel unit) → AreBefore r who controller (Some running) a → Differ (r.drawn ++ (step_by actions_in state_in halted_state left part).drawn) →
      InOrder
      (requests_after r.views who controller (step_by actions_in state_in halted_state left part).state.running (r.marks ++ more)
      (r.drawn ++ (step_by actions_in state_in halted_state left part).drawn) (r.uses + 2)) a
  whole_by (Err why) running what unit now left more few steps placed suits before differ =
      halted_order r.views who controller a running.logons.channel (r.marks ++ more) (r.drawn ++ left) (r.uses + 2)
      (none_order r.views who controller a running.logons.channel r.marks more placed (order_before running before))
  whole_by (Ok part) running what unit now left more few steps placed suits before differ =
      let s : Requester = running.logons.channel in
      let apart : StandsApart r.views who controller (take_of s unit).state (r.marks ++ more) r.drawn (r.uses + 1) =
      taken_so r.views who controller s unit r.marks more r.drawn r.uses (omega (arith, few)) placed (stands_before running before) in
      let order : OrderAt r.views who controller a (take_of s unit).state (r.marks ++ more) =
      taken_order r.views who controller a s unit r.marks more r.drawn r.uses (omega (arith, few)) placed suits (stands_before running before) (order_before running before) in
      part_order r.views who controller a (ComesCalmly (take_of s unit).state) now (r.marks ++ more) r.drawn left (r.uses + 1) (omega (arith, few))
      (by_event what running.dialling (work_of running) left)
      (λ t mid. (
        comes_calmly r.views who controller (take_of s unit).state t (r.marks ++ more) r.drawn (r.uses + 1) mid (omega (arith, few)) apart,
        comes_order r.views who controller a (take_of s unit).state t (r.marks ++ more) r.drawn (r.uses + 1) mid (omega (arith, few)) apart order,
      )) (rest_of r.views who controller running what left) part (r.uses + 2) steps differ

other_order : (r : Requests ℕ) (who controller : ℕ) (a : Asker) (running : Option Running) (what : Event) (now : ℕ) (left : List (List ℕ)) → r.uses + 2 < 2 ^ 32 → HearsNone running what →
    AreBefore r who controller running a → Differ (r.drawn ++ (step_of (record { running = running }) what now left).drawn) →
    InOrder
    (requests_after r.views who controller (step_of (record { running = running }) what now left).state.running r.marks (r.drawn ++ (step_of (record { running = running }) what now left).drawn)
    (r.uses + 1)) a
other_order r who controller a None what now left few none before differ = stopped_order r who controller a (r.drawn ++ []) (r.uses + 1) before.order
other_order r who controller a (Some running) what now left few none before differ =
    other_by r who controller a (event_part running what now left) running what now left few (channel_steps.other running what now left none) before differ

pub step_in_order : MembersStepInOrder
step_in_order = record {
  other = other_order;
  whole = λ r who controller a running number said bytes frames unit now left more few on rest none heard placed suits before differ.
      whole_by r who controller a (event_part running (event.Bytes number bytes) now left) running (event.Bytes number bytes) unit now left more few
      (channel_steps.whole running number said bytes frames unit now left on rest none heard) placed suits before differ;
}
