-- One step of a member keeps calls apart, with the marks of the requests that it sends and the challenges that it
-- draws. It serves `runs_stand_so`.
use Rattle.std.proofs.Common.{◌≡◌, ◌≢◌, ◌⊎◌, ℕ, zero, suc, ◌+◌, ◌<◌, ◌≤◌, ◌^◌, ◌==◌, Bool, true, false, List, [], ◌∷◌, ◌++◌, replicate, inl, inr, Option, Some, None, Result, Ok, Err, refl, sym, ap, ◌∙◌, subst, arith}
use Rattle.std.specs.List.{AllByRecursion}
use Rattle.std.proofs.lemmas.Bool.Decides.{Decides-eqb}
use Rattle.std.proofs.lemmas.List.{append_assoc}
use Rattle.outside.specs.Drawing.{IsRest, draws_between}
use Rattle.outside.specs.Machine.{Part, Stepped, left_by, step_by}
use Rattle.outside.specs.declared.action.StepRefused.{StepRefused}
use Rattle.outside.specs.declared.event.Event.{Event}
use Rattle.outside.specs.declared.event.Event.TheVariants as event
use Rattle.outside.proofs.DrawLaws.{between_front}
use Rattle.rpc_units.specs.Calls.{IsHeard}
use Rattle.rpc_units.specs.declared.unit.Unit.{Unit as RpcUnit}
use Rattle.authenticators.specs.Channels.{ChannelIdentity}
use Rattle.end_links.specs.Links.{LinkState}
use Rattle.member_server.specs.declared.state.Work.{Work}
use Rattle.channel_client.specs.Effects.{Answers, Begins, Calls, Counts, Drops, Effect, IsCoherent, Moves, Opens, Stays, View, effect_of_take, view_of}
use Rattle.channel_client.specs.Machine.{ask_of, can_start, lose_of, needs_challenge, start_of, take_of}
use Rattle.channel_client.specs.State.{Requester}
use Rattle.channel_events.specs.Marks.{Calling, Mark, Opening, Plain}
use Rattle.channel_events.specs.RequestSteps.{AfterTaking, IsFreshIf, IsSeen, IsSeenAfter, drawn_if, seen_if, with_seen}
use Rattle.channel_events.specs.Requests.{CallsAreApart, IsDrawn, Requests}
use Rattle.channel_events.proofs.RequestStepLaws.{requesters_keep}
use Rattle.member_server.specs.ChannelSteps.{ChannelSteps, ComesCalmly, IsCalm, IsNextTurn, StepsIfTaken}
use Rattle.member_server.specs.Laws.{Asks, Doing, Loses, Starts, Takes, state_after}
use Rattle.member_server.specs.Machine.{actions_in, by_event, event_part, halted_state, state_in, step_of, work_of}
use Rattle.member_server.specs.State.{State as MemberState}
use Rattle.member_server.specs.Turns.{DialWork, timestamp_of, ready_channel}
use Rattle.channel_turns.specs.declared.state.Dialling.TheVariants as dialling
use Rattle.member_server.specs.declared.state.Running.{Running}
use Rattle.channel_turns.specs.declared.state.TurnTalk.{TurnTalk}
use Rattle.member_server.proofs.ChannelStepLaws.{channel_steps}
use Rattle.step_notes.specs.ChannelNames.{passed_note}
use Rattle.step_notes.specs.EffectNotes.{IsNotedBy, opening_out_of}
use Rattle.step_notes.specs.MemberNotes.{TurnNote, no_note, request_note, taking_note}
use Rattle.step_notes.proofs.Channels.EffectNoteLaws.{steps_are_noted}
use Rattle.step_notes.proofs.Members.RestLaws.{event_rest}
use Rattle.domain_world.specs.Accepting.SeenSteps.{CoherentIf, Differ, HearsNone, IsPlaced, NoRequests, Placed, PlacedBy, requests_after, seen_or, seen_running}
use Rattle.domain_world.specs.Accepting.Runs.{view_with}
use Rattle.domain_world.proofs.Calls.ReadyLaws.{ready_coherent}
use Rattle.domain_world.proofs.Calls.LooserLaws.{drawn_before, fewer_marks, looser, more_marks, placed_marks}
use Rattle.domain_world.specs.Past.{requester_in, running_in}

-- ---- draws that differ

-- of draws that differ those behind the first differ
pub differ_later : (first : List ℕ) (draws : List (List ℕ)) → Differ (first ∷ draws) → Differ draws
differ_later first draws differ i j d before within = differ (suc i) (suc j) d (omega (arith, before)) (omega (arith, within))

differ_first : (first : List ℕ) (draws : List (List ℕ)) (challenge : List ℕ) → Differ (first ∷ (draws ++ challenge ∷ [])) → first ≢ challenge
differ_first first [] challenge differ = differ 0 1 first (omega arith) (omega arith)
differ_first first (next ∷ draws) challenge differ =
    differ_first first draws challenge (λ i j d before within. skip i j d before within)
  where
    skip : Differ (first ∷ (draws ++ challenge ∷ []))
    skip zero zero d before within = absurd (omega (arith, before))
    skip zero (suc j) d before within = differ zero (suc (suc j)) d (omega arith) (omega (arith, within))
    skip (suc i) zero d before within = absurd (omega (arith, before))
    skip (suc i) (suc j) d before within = differ (suc (suc i)) (suc (suc j)) d (omega (arith, before)) (omega (arith, within))

-- one that is drawn last wasn't drawn before
pub fresh_last : (draws : List (List ℕ)) (challenge : List ℕ) → Differ (draws ++ challenge ∷ []) → IsDrawn challenge draws → ⊥
fresh_last [] challenge differ is = absurd is
fresh_last (first ∷ draws) challenge differ is = elim is [
  | inl here ↦ differ_first first draws challenge differ here
  | inr later ↦ fresh_last draws challenge (differ_later first (draws ++ challenge ∷ []) differ) later
]

-- ---- one requester among those that are seen

-- the requester `who` is seen as `v`
abbrev pub seen_with : (ℕ → Option View) → ℕ → View → List Mark → List (List ℕ) → ℕ → Requests ℕ
seen_with views who v marks drawn uses = record { views = λ j. seen_if (j == who) v (views j); marks = marks; drawn = drawn; uses = uses }

-- a requester is coherent, and calls are apart where it is seen as that requester
pub record StandsApart (views : ℕ → Option View) (who controller : ℕ) (s : Requester) (marks : List Mark) (drawn : List (List ℕ)) (uses : ℕ) : Type 0 where
  pub coherent : IsCoherent s
  pub apart : CallsAreApart (seen_with views who (view_of controller s) marks drawn uses)

pub hidden : (hit : Bool) (v w : View) (old : Option View) (x : View) → seen_if hit w old ≡ Some x → seen_if hit w (seen_if hit v old) ≡ Some x
hidden false v w old x is = is
hidden true v w old x is = is

module _ (views : ℕ → Option View) (who controller : ℕ) where
  pub seen_so : (s : Requester) (marks : List Mark) (drawn : List (List ℕ)) (uses : ℕ) → uses + 2 < 2 ^ 32 → StandsApart views who controller s marks drawn uses →
      IsSeen (seen_with views who (view_of controller s) marks drawn uses) who controller s
  seen_so s marks drawn uses few stands = record {
    at = ap (λ (hit : Bool). seen_if hit (view_of controller s) (views who)) ((Decides-eqb who who).1 refl);
    coherent = stands.coherent;
    few = few;
    apart = stands.apart;
  }

  -- seen so afterwards, with as many uses or more
  again : (v : View) (t : Requester) (marks : List Mark) (drawn : List (List ℕ)) (uses used more : ℕ) → uses + used ≤ more →
      IsSeenAfter (with_seen who (view_of controller t) used (seen_with views who v marks drawn uses)) who controller t → StandsApart views who controller t marks drawn more
  again v t marks drawn uses used more onward after = record {
    coherent = after.coherent;
    apart = looser (with_seen who (view_of controller t) used (seen_with views who v marks drawn uses)) (seen_with views who (view_of controller t) marks drawn more) (record {
      views = λ j w there. hidden (j == who) v (view_of controller t) (views j) w there;
      marks = λ unit number c mark asks there. there;
      drawn = λ challenge is. is;
      uses = onward;
    }) after.apart;
  }

  -- more was drawn, and more numbers used
  pub drawn_more : (s : Requester) (marks : List Mark) (drawn more : List (List ℕ)) (uses later : ℕ) → uses ≤ later → StandsApart views who controller s marks drawn uses →
      StandsApart views who controller s marks (drawn ++ more) later
  drawn_more s marks drawn more uses later onward stands = record {
    coherent = stands.coherent;
    apart = looser (seen_with views who (view_of controller s) marks drawn uses) (seen_with views who (view_of controller s) marks (drawn ++ more) later) (record {
      views = λ j v at. at;
      marks = λ unit number c mark asks there. there;
      drawn = λ challenge is. drawn_before challenge drawn more is;
      uses = onward;
    }) stands.apart;
  }

  -- ---- logons are asked, the turn is lost

  pub calmly : (doings : List Doing) (s : Requester) (marks : List Mark) (drawn : List (List ℕ)) (uses : ℕ) → AllByRecursion IsCalm doings → uses + 2 < 2 ^ 32 →
      StandsApart views who controller s marks drawn uses → StandsApart views who controller (state_after doings s) marks drawn uses
  calmly [] s marks drawn uses calm few stands = stands
  calmly (Asks info ∷ doings) s marks drawn uses calm few stands =
      calmly doings (ask_of s info).state marks drawn uses calm.1 few
      (again (view_of controller s) (ask_of s info).state marks drawn uses 0 uses (omega arith)
      (requesters_keep.ask (seen_with views who (view_of controller s) marks drawn uses) who controller s info (seen_so s marks drawn uses few stands)))
  calmly (Starts timestamp challenge ∷ doings) s marks drawn uses calm few stands = absurd calm.0
  calmly (Takes unit ∷ doings) s marks drawn uses calm few stands = absurd calm.0
  calmly (Loses ∷ doings) s marks drawn uses calm few stands =
      calmly doings (lose_of s).state marks drawn uses calm.1 few
      (again (view_of controller s) (lose_of s).state marks drawn uses 0 uses (omega arith)
      (requesters_keep.lose (seen_with views who (view_of controller s) marks drawn uses) who controller s (seen_so s marks drawn uses few stands)))

  pub comes_calmly : (s t : Requester) (marks : List Mark) (drawn : List (List ℕ)) (uses : ℕ) → ComesCalmly s t → uses + 2 < 2 ^ 32 →
      StandsApart views who controller s marks drawn uses → StandsApart views who controller t marks drawn uses
  comes_calmly s t marks drawn uses comes few stands =
      subst (λ (x : Requester). StandsApart views who controller x marks drawn uses) (sym comes.is) (calmly comes.doings s marks drawn uses comes.calm few stands)

  -- ---- a unit is taken

  module _ (s t : Requester) (marks more : List Mark) (drawn : List (List ℕ)) (uses : ℕ) (stands : StandsApart views who controller s marks drawn uses) where
    abbrev TakesAt : Effect → Type 0
    TakesAt e =
        (some : List Mark) → StandsApart views who controller s some drawn uses →
        AfterTaking e (seen_with views who (view_of controller s) some drawn uses) who controller t

    abbrev Later : Type 0
    Later = StandsApart views who controller t (marks ++ more) drawn (uses + 1)

    -- none of the marks is a request
    none_later : NoRequests more → IsSeenAfter (with_seen who (view_of controller t) 1 (seen_with views who (view_of controller s) marks drawn uses)) who controller t → Later
    none_later none after =
        let so : StandsApart views who controller t marks drawn (uses + 1) = again (view_of controller s) t marks drawn uses 1 (uses + 1) (omega arith) after in
        record { coherent = so.coherent; apart = more_marks (seen_with views who (view_of controller t) marks drawn (uses + 1)) more none so.apart }

    -- the request isn't written down
    unwritten : (mark : Mark) → NoRequests more →
        IsSeenAfter (with_seen who (view_of controller t) 1 (seen_with views who (view_of controller s) (marks ++ mark ∷ []) drawn uses)) who controller t → Later
    unwritten mark none after =
        let so : StandsApart views who controller t (marks ++ mark ∷ []) drawn (uses + 1) =
        again (view_of controller s) t (marks ++ mark ∷ []) drawn uses 1 (uses + 1) (omega arith) after in
        record { coherent = so.coherent; apart = fewer_marks (seen_with views who (view_of controller t) marks drawn (uses + 1)) mark more none so.apart }

    -- a requester with a mark that is placed behind others
    pub with_front : (mark : Mark) (is : IsPlaced more mark) → StandsApart views who controller s (marks ++ is.front) drawn uses
    with_front mark is = record { coherent = stands.coherent; apart = more_marks (seen_with views who (view_of controller s) marks drawn uses) is.front is.before stands.apart }

    written_down : (mark : Mark) (is : IsPlaced more mark) →
        IsSeenAfter (with_seen who (view_of controller t) 1 (seen_with views who (view_of controller s) ((marks ++ is.front) ++ mark ∷ []) drawn uses)) who controller t → Later
    written_down mark is after =
        let so : StandsApart views who controller t ((marks ++ is.front) ++ mark ∷ []) drawn (uses + 1) =
        again (view_of controller s) t ((marks ++ is.front) ++ mark ∷ []) drawn uses 1 (uses + 1) (omega arith) after in
        record { coherent = so.coherent; apart = placed_marks (seen_with views who (view_of controller t) marks drawn (uses + 1)) more mark is so.apart }

    placed_by : (note other : TurnNote) → note ≡ other → Placed note.sends note.mark more → Placed other.sends other.mark more
    placed_by note other is placed = subst (λ (n : TurnNote). Placed n.sends n.mark more) is placed

    opened : (c : ChannelIdentity) → (view_of controller s).opening ≡ Some c.client →
        NoRequests more ⊎ IsPlaced more (Opening c (view_of controller s).call) → TakesAt Counts → Later
    opened c under_way placed takes =
        let mark : Mark = Opening c (view_of controller s).call in
        let seen : seen_if (who == who) (view_of controller s) (views who) ≡ Some (view_of controller s) =
        ap (λ (hit : Bool). seen_if hit (view_of controller s) (views who)) ((Decides-eqb who who).1 refl) in
        elim placed [
          | inl none ↦ unwritten mark none ((takes marks stands).1 c (view_of controller s) seen under_way)
          | inr is ↦ written_down mark is ((takes (marks ++ is.front) (with_front mark is)).1 c (view_of controller s) seen under_way)
        ]

    called : (c : ChannelIdentity) (number timestamp : ℕ) → NoRequests more ⊎ IsPlaced more (Calling c number timestamp) → TakesAt (Calls c number) → Later
    called c number timestamp placed takes = elim placed [
      | inl none ↦ unwritten (Calling c number timestamp) none (takes marks stands timestamp)
      | inr is ↦ written_down (Calling c number timestamp) is (takes (marks ++ is.front) (with_front (Calling c number timestamp) is) timestamp)
    ]

    by_effect : (e : Effect) (note : TurnNote) (v : View) (old new : Bool) → IsNotedBy e note (view_of controller s) v old new → Placed note.sends note.mark more → TakesAt e → Later
    by_effect Stays note v old new noted placed takes = none_later (placed_by note no_note noted.0 placed) (takes marks stands)
    by_effect Counts note v old new noted placed takes = elim noted [
      | inl plain ↦ none_later (placed_by note (request_note Plain None) plain.0 placed) (takes marks stands).0
      | inr out ↦
          opened out.channel out.under_way (placed_by note (request_note (Opening out.channel (view_of controller s).call) None) out.is placed) takes
    ]
    by_effect (Begins client) note v old new noted placed takes = absurd noted
    by_effect (Opens c) note v old new noted placed takes = none_later (placed_by note (passed_note c None None) noted placed) (takes marks stands)
    by_effect (Moves c timestamp) note v old new noted placed takes = absurd noted
    by_effect (Calls c number) note v old new noted placed takes =
        called c number noted.0 (placed_by note (request_note (Calling c number noted.0) noted.1) noted.2 placed) takes
    by_effect (Answers c number) note v old new noted placed takes = none_later (placed_by note (passed_note c noted.0 (Some number)) noted.1 placed) (takes marks stands)
    by_effect Drops note v old new noted placed takes = none_later (placed_by note no_note noted placed) (takes marks stands)

  pub taken_so : (s : Requester) (unit : RpcUnit) (marks more : List Mark) (drawn : List (List ℕ)) (uses : ℕ) → uses + 2 < 2 ^ 32 →
      Placed (taking_note (Some (take_of s unit)) controller s).sends (taking_note (Some (take_of s unit)) controller s).mark more →
      StandsApart views who controller s marks drawn uses → StandsApart views who controller (take_of s unit).state (marks ++ more) drawn (uses + 1)
  taken_so s unit marks more drawn uses few placed stands =
      let t : Requester = (take_of s unit).state in
      by_effect s t marks more drawn uses stands (effect_of_take controller s unit) (taking_note (Some (take_of s unit)) controller s) (view_of controller t)
      (opening_out_of s) (opening_out_of t) (steps_are_noted.take controller s unit stands.coherent) placed
      (λ some so. requesters_keep.take (seen_with views who (view_of controller s) some drawn uses) who controller s unit (seen_so s some drawn uses few so))

  -- ---- the next turn

  started : (s : Requester) (timestamp : ℕ) (challenge : List ℕ) (needs : Bool) (marks : List Mark) (drawn : List (List ℕ)) (uses : ℕ) → uses + 2 < 2 ^ 32 →
      can_start s.turn s.waiting ≡ true → needs_challenge s.standing ≡ needs → IsFreshIf needs challenge drawn → StandsApart views who controller s marks drawn uses →
      StandsApart views who controller (start_of s timestamp challenge).state marks (drawn_if needs challenge drawn) (uses + 1)
  started s timestamp challenge needs marks drawn uses few can need fresh stands =
      subst (λ (b : Bool). StandsApart views who controller (start_of s timestamp challenge).state marks (drawn_if b challenge drawn) (uses + 1)) need
      (again (view_of controller s) (start_of s timestamp challenge).state marks (drawn_if (needs_challenge s.standing) challenge drawn) uses 1 (uses + 1) (omega arith)
      (requesters_keep.start (seen_with views who (view_of controller s) marks drawn uses) who controller s timestamp challenge (seen_so s marks drawn uses few stands) can
      (subst (λ (b : Bool). IsFreshIf b challenge drawn) (sym need) fresh)))

  -- where these were left before the step, and those in front of `before` were drawn in it already
  module _ (now : ℕ) (marks : List Mark) (drawn left : List (List ℕ)) (uses : ℕ) (few : uses + 2 < 2 ^ 32) where
    abbrev StandsAfter : Requester → List (List ℕ) → Type 0
    StandsAfter new after = StandsApart views who controller new marks (drawn ++ draws_between left after) (uses + 1)

    -- nothing more is drawn
    same_left : (s : Requester) (before after : List (List ℕ)) (rest : IsRest before left) → after ≡ before → (later : ℕ) → later ≤ uses + 1 →
        StandsApart views who controller s marks (drawn ++ rest.front) later → StandsAfter s after
    same_left s before after rest same later onward stands =
        let between : rest.front ≡ draws_between left after = subst (λ (l : List (List ℕ)). rest.front ≡ draws_between left l) (sym same) (between_front rest.front before left (sym rest.is)) in
        subst (λ (d : List (List ℕ)). StandsApart views who controller s marks d (uses + 1)) (ap (λ (d : List (List ℕ)). drawn ++ d) between)
        (record {
          coherent = stands.coherent;
          apart = looser (seen_with views who (view_of controller s) marks (drawn ++ rest.front) later) (seen_with views who (view_of controller s) marks (drawn ++ rest.front) (uses + 1))
              (record { views = λ j v at. at; marks = λ unit number c mark asks there. there; drawn = λ challenge is. is; uses = onward }) stands.apart;
        })

    -- one more is
    pub one_drawn : (before after : List (List ℕ)) (rest : IsRest before left) (challenge : List ℕ) → before ≡ challenge ∷ after →
        drawn ++ draws_between left after ≡ (drawn ++ rest.front) ++ challenge ∷ []
    one_drawn before after rest challenge is =
        let all : left ≡ (rest.front ++ challenge ∷ []) ++ after =
        sym rest.is ∙ ap (λ (l : List (List ℕ)). rest.front ++ l) is ∙ sym (append_assoc rest.front (challenge ∷ []) after) in
        ap (λ (d : List (List ℕ)). drawn ++ d) (sym (between_front (rest.front ++ challenge ∷ []) after left all)) ∙ sym (append_assoc drawn rest.front (challenge ∷ []))

    next_so : (starts needs : Bool) (s : Requester) (before : List (List ℕ)) (new : Requester) (after : List (List ℕ)) (rest : IsRest before left) →
        IsNextTurn starts needs now s before new after → can_start s.turn s.waiting ≡ starts → needs_challenge s.standing ≡ needs → Differ (drawn ++ draws_between left after) →
        StandsApart views who controller s marks (drawn ++ rest.front) uses → StandsAfter new after
    next_so false needs s before new after rest next can need differ stands =
        subst (λ (x : Requester). StandsAfter x after) (sym next.0) (same_left s before after rest next.1 uses (omega arith) stands)
    next_so true false s before new after rest next can need differ stands =
        subst (λ (x : Requester). StandsAfter x after) (sym next.0)
        (same_left (start_of s (timestamp_of now) (replicate 8 0)).state before after rest next.1 (uses + 1) (omega arith)
        (started s (timestamp_of now) (replicate 8 0) false marks (drawn ++ rest.front) uses few can need tt stands))
    next_so true true s before new after rest next can need differ stands =
        let challenge : List ℕ = next.0 in
        let same : drawn ++ draws_between left after ≡ (drawn ++ rest.front) ++ challenge ∷ [] = one_drawn before after rest challenge next.1 in
        let fresh : IsDrawn challenge (drawn ++ rest.front) → ⊥ = fresh_last (drawn ++ rest.front) challenge (subst (λ (d : List (List ℕ)). Differ d) same differ) in
        subst (λ (x : Requester). StandsAfter x after) (sym next.2)
        (subst (λ (d : List (List ℕ)). StandsApart views who controller (start_of s (timestamp_of now) challenge).state marks d (uses + 1)) (sym same)
        (started s (timestamp_of now) challenge true marks (drawn ++ rest.front) uses few can need fresh stands))

-- ---- members

abbrev pub seen_member : ℕ → Option MemberState → Option View
seen_member controller found = view_with controller (requester_in (running_in found))

-- ---- a step

pub or_if : (hit : Bool) (v : View) (old : Option View) (x : View) → seen_or hit (Some v) old ≡ Some x → seen_if hit v old ≡ Some x
or_if false v old x is = is
or_if true v old x is = is

pub or_none : (hit : Bool) (v : View) (old : Option View) (x : View) → seen_or hit None old ≡ Some x → seen_if hit v old ≡ Some x
or_none false v old x is = is
or_none true v old x is = absurd (let e = is in cc)

pub none_before : (hit : Bool) (old : Option View) (x : View) → seen_or hit None old ≡ Some x → old ≡ Some x
none_before false old x is = is
none_before true old x is = absurd (let e = is in cc)

used_more : (r : Requests ℕ) (more : ℕ) → r.uses ≤ more → CallsAreApart r → CallsAreApart (record r { uses = more })
used_more r more onward a =
    looser r (record r { uses = more })
    (record { views = λ j v at. at; marks = λ unit number c mark asks there. there; drawn = λ challenge is. is; uses = onward }) a

module _ (views : ℕ → Option View) (who controller : ℕ) where
  -- the end was halted
  halted_so : (s : Requester) (marks : List Mark) (drawn more : List (List ℕ)) (uses : ℕ) → StandsApart views who controller s marks drawn uses →
      CallsAreApart (requests_after views who controller None marks (drawn ++ more) (uses + 1))
  halted_so s marks drawn more uses stands =
      looser (seen_with views who (view_of controller s) marks drawn uses) (requests_after views who controller None marks (drawn ++ more) (uses + 1)) (record {
        views = λ j w there. or_none (j == who) (view_of controller s) (views j) w there;
        marks = λ unit number c mark asks there. there;
        drawn = λ challenge is. drawn_before challenge drawn more is;
        uses = omega arith;
      }) stands.apart

  running_so : (r : Running) (marks : List Mark) (drawn : List (List ℕ)) (uses : ℕ) → StandsApart views who controller r.logons.channel marks drawn uses →
      CallsAreApart (requests_after views who controller (Some r) marks drawn uses)
  running_so r marks drawn uses stands =
      looser (seen_with views who (view_of controller r.logons.channel) marks drawn uses) (requests_after views who controller (Some r) marks drawn uses) (record {
        views = λ j w there. or_if (j == who) (view_of controller r.logons.channel) (views j) w there;
        marks = λ unit number c mark asks there. there;
        drawn = λ challenge is. is;
        uses = omega arith;
      }) stands.apart

  -- what the event comes to, and then the next turn
  part_apart : (Mid : Requester → Type 0) (now : ℕ) (marks : List Mark) (drawn left : List (List ℕ)) (uses : ℕ) → uses + 2 < 2 ^ 32 → (first : Result (Part DialWork) StepRefused) →
      ((t : Requester) → Mid t → StandsApart views who controller t marks drawn uses) → ((part : Part DialWork) → first ≡ Ok part → IsRest part.left left) → (part : Part DialWork) →
      ChannelSteps first Mid now part.value.0.logons.channel part.left → Differ (drawn ++ draws_between left part.left) →
      CallsAreApart (requests_after views who controller (state_in part.value).running marks (drawn ++ draws_between left part.left) (uses + 1))
  part_apart Mid now marks drawn left uses few first so rests part steps differ =
      let w : Work = steps.part.value.0 in
      let mid : Requester = ready_channel w in
      let rest : IsRest steps.part.left left = rests steps.part steps.is in
      let before : StandsApart views who controller w.logons.channel marks drawn uses = so w.logons.channel steps.mid in
      let ready : StandsApart views who controller mid marks drawn uses = record { coherent = ready_coherent w before.coherent; apart = before.apart } in
      running_so (record { logons = part.value.0.logons; links = part.value.0.links; dialling = part.value.1; sealing = None }) marks (drawn ++ draws_between left part.left) (uses + 1)
      (next_so views who controller now marks drawn left uses few (can_start mid.turn mid.waiting) (needs_challenge mid.standing) mid steps.part.left part.value.0.logons.channel part.left rest
      steps.next refl refl differ (drawn_more views who controller mid marks drawn rest.front uses uses (omega arith) ready))

  -- ---- where the requester stands before it

  pub as_seen : (hit : Bool) (j : ℕ) (v w : View) → (j == who) ≡ hit → views who ≡ Some v → seen_if hit v (views j) ≡ Some w → views j ≡ Some w
  as_seen false j v w is at there = there
  as_seen true j v w is at there = ap views ((Decides-eqb j who).0 is) ∙ at ∙ there

  pub start_so : (s : Requester) (marks : List Mark) (drawn : List (List ℕ)) (uses : ℕ) → IsCoherent s → views who ≡ Some (view_of controller s) →
      CallsAreApart (record { views = views; marks = marks; drawn = drawn; uses = uses }) → StandsApart views who controller s marks drawn uses
  start_so s marks drawn uses coherent at a = record {
    coherent = coherent;
    apart = looser (record { views = views; marks = marks; drawn = drawn; uses = uses }) (seen_with views who (view_of controller s) marks drawn uses) (record {
      views = λ j w there. as_seen (j == who) j (view_of controller s) w refl at there;
      marks = λ unit number c mark asks there. there;
      drawn = λ challenge is. is;
      uses = omega arith;
    }) a;
  }

  -- ---- no whole unit comes on the link of the turn

  pub rest_of : (running : Running) (what : Event) (left : List (List ℕ)) (part : Part DialWork) → by_event what running.dialling (work_of running) left ≡ Ok part → IsRest part.left left
  rest_of running what left part is =
      subst (λ (first : Result (Part DialWork) StepRefused). IsRest (left_by first) left) is (event_rest what running.dialling (work_of running) left)

  other_by : (part : Result (Part DialWork) StepRefused) (running : Running) (what : Event) (now : ℕ) (left : List (List ℕ)) (marks : List Mark) (drawn : List (List ℕ)) (uses : ℕ) → uses + 2 < 2 ^ 32 →
      StepsIfTaken (by_event what running.dialling (work_of running) left) (ComesCalmly running.logons.channel) now part →
      StandsApart views who controller running.logons.channel marks drawn uses → Differ (drawn ++ (step_by actions_in state_in halted_state left part).drawn) →
      CallsAreApart
      (requests_after views who controller (step_by actions_in state_in halted_state left part).state.running marks (drawn ++ (step_by actions_in state_in halted_state left part).drawn) (uses + 1))
  other_by (Err why) running what now left marks drawn uses few steps stands differ = halted_so running.logons.channel marks drawn left uses stands
  other_by (Ok part) running what now left marks drawn uses few steps stands differ =
      part_apart (ComesCalmly running.logons.channel) now marks drawn left uses few (by_event what running.dialling (work_of running) left)
      (λ t mid. comes_calmly views who controller running.logons.channel t marks drawn uses mid few stands) (rest_of running what left) part steps differ

  stopped_so : (marks : List Mark) (drawn : List (List ℕ)) (uses : ℕ) → CallsAreApart (record { views = views; marks = marks; drawn = drawn; uses = uses }) →
      CallsAreApart (requests_after views who controller None marks (drawn ++ []) (uses + 1))
  stopped_so marks drawn uses a =
      looser (record { views = views; marks = marks; drawn = drawn; uses = uses }) (requests_after views who controller None marks (drawn ++ []) (uses + 1)) (record {
        views = λ j w there. none_before (j == who) (views j) w there;
        marks = λ unit number c mark asks there. there;
        drawn = λ challenge is. drawn_before challenge drawn [] is;
        uses = omega arith;
      }) a

  -- a step at which no whole unit comes on the link of the turn: one number is used at most
  pub other_apart : (r : Option Running) (what : Event) (now : ℕ) (left : List (List ℕ)) (marks : List Mark) (drawn : List (List ℕ)) (uses : ℕ) → uses + 2 < 2 ^ 32 →
      HearsNone r what → CoherentIf r → views who ≡ seen_running controller r → CallsAreApart (record { views = views; marks = marks; drawn = drawn; uses = uses }) →
      Differ (drawn ++ (step_of (record { running = r }) what now left).drawn) →
      CallsAreApart
      (requests_after views who controller (step_of (record { running = r }) what now left).state.running marks (drawn ++ (step_of (record { running = r }) what now left).drawn) (uses + 1))
  other_apart None what now left marks drawn uses few none coherent at a differ = stopped_so marks drawn uses a
  other_apart (Some running) what now left marks drawn uses few none coherent at a differ =
      other_by (event_part running what now left) running what now left marks drawn uses few (channel_steps.other running what now left none)
      (start_so running.logons.channel marks drawn uses coherent at a) differ

  -- ---- a whole unit comes on it

  whole_by : (part : Result (Part DialWork) StepRefused) (running : Running) (what : Event) (unit : RpcUnit) (now : ℕ) (left : List (List ℕ)) (marks more : List Mark) (drawn : List (List ℕ)) (uses : ℕ) →
      uses + 3 < 2 ^ 32 → StepsIfTaken (by_event what running.dialling (work_of running) left) (ComesCalmly (take_of running.logons.channel unit).state) now part →
      PlacedBy part (taking_note (Some (take_of running.logons.channel unit)) controller running.logons.channel) more →
      StandsApart views who controller running.logons.channel marks drawn uses → Differ (drawn ++ (step_by actions_in state_in halted_state left part).drawn) →
      CallsAreApart
      (requests_after views who controller (step_by actions_in state_in halted_state left part).state.running (marks ++ more) (drawn ++ (step_by actions_in state_in halted_state left part).drawn)
      (uses + 2))
  whole_by (Err why) running what unit now left marks more drawn uses few steps placed stands differ =
      let s : Requester = running.logons.channel in
      used_more (requests_after views who controller None (marks ++ more) (drawn ++ left) (uses + 1)) (uses + 2) (omega arith)
      (halted_so s (marks ++ more) drawn left uses
      (record { coherent = stands.coherent; apart = more_marks (seen_with views who (view_of controller s) marks drawn uses) more placed stands.apart }))
  whole_by (Ok part) running what unit now left marks more drawn uses few steps placed stands differ =
      let s : Requester = running.logons.channel in
      let taken : StandsApart views who controller (take_of s unit).state (marks ++ more) drawn (uses + 1) =
      taken_so views who controller s unit marks more drawn uses (omega (arith, few)) placed stands in
      used_more (requests_after views who controller (state_in part.value).running (marks ++ more) (drawn ++ draws_between left part.left) (uses + 1 + 1)) (uses + 2) (omega arith)
      (part_apart (ComesCalmly (take_of s unit).state) now (marks ++ more) drawn left (uses + 1) (omega (arith, few)) (by_event what running.dialling (work_of running) left)
      (λ t mid. comes_calmly views who controller (take_of s unit).state t (marks ++ more) drawn (uses + 1) mid (omega (arith, few)) taken) (rest_of running what left) part steps differ)

  -- a step at which one does: two numbers are used at most
  pub whole_apart : (running : Running) (number : ℕ) (said : LinkState TurnTalk) (bytes : List ℕ) (frames : List RpcUnit) (unit : RpcUnit) (now : ℕ) (left : List (List ℕ))
      (marks more : List Mark) (drawn : List (List ℕ)) (uses : ℕ) → uses + 3 < 2 ^ 32 → running.dialling ≡ dialling.On number said → said.rest ≡ [] → said.talk.joiner ≡ None →
      IsHeard bytes frames unit → IsCoherent running.logons.channel → views who ≡ Some (view_of controller running.logons.channel) →
      PlacedBy (event_part running (event.Bytes number bytes) now left) (taking_note (Some (take_of running.logons.channel unit)) controller running.logons.channel) more →
      CallsAreApart (record { views = views; marks = marks; drawn = drawn; uses = uses }) →
      let step : Stepped MemberState = step_of (record { running = Some running }) (event.Bytes number bytes) now left in
      Differ (drawn ++ step.drawn) → CallsAreApart (requests_after views who controller step.state.running (marks ++ more) (drawn ++ step.drawn) (uses + 2))
  whole_apart running number said bytes frames unit now left marks more drawn uses few on rest none heard coherent at placed a differ =
      whole_by (event_part running (event.Bytes number bytes) now left) running (event.Bytes number bytes) unit now left marks more drawn uses few
      (channel_steps.whole running number said bytes frames unit now left on rest none heard) placed (start_so running.logons.channel marks drawn uses coherent at a) differ
