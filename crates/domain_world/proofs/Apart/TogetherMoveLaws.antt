-- Through the moves of a run a member and its controller stay together, by what is known of each step of the two.
-- It serves `Proved.never_apart`.
use Rattle.std.proofs.Common.{◌≡◌, ◌≢◌, ℕ, ◌+◌, ◌≤◌, ◌==◌, true, false, List, [], ◌∷◌, ◌++◌, length, map, inl, inr, Option, Some, None, slice_get, slice_set, refl, sym, ap, subst, ◌∙◌, arith}
use Rattle.std.proofs.lemmas.Bool.{cases_Bool, eqb-true}
use Rattle.std.proofs.lemmas.Bool.Decides.{Decides-eqb}
use Rattle.outside.specs.Drawing.{Drawing}
use Rattle.outside.specs.declared.action.Action.{Action}
use Rattle.outside.specs.declared.event.Event.{Event}
use Rattle.outside.specs.declared.event.Event.TheVariants as event
use Rattle.channel_events.specs.Marks.{Mark}
use Rattle.channel_turns.specs.declared.state.Dialling.TheVariants as dialling
use Rattle.domain_controller.specs.State.{State as ControllerState}
use Rattle.domain_controller.specs.Step.{step_of as controller_step_of}
use Rattle.logon_client.specs.Machine.{begin_of, fresh_client, step_of as client_step_of}
use Rattle.member_server.specs.Machine.{step_of}
use Rattle.member_server.specs.State.{State as MemberState}
use Rattle.member_server.specs.declared.plan.MemberPlan.{MemberPlan}
use Rattle.member_server.specs.declared.state.Running.{Running}
use Rattle.step_notes.specs.Records.{Book, Sent}
use Rattle.world_moves.specs.declared.bag.BagUnit.{BagUnit}
use Rattle.world_moves.specs.declared.links.EndId.{EndId}
use Rattle.world_moves.specs.declared.links.EndId.TheVariants.{Client, Controller, Member}
use Rattle.world_moves.specs.declared.links.Route.{Route}
use Rattle.world_moves.specs.declared.state.State.{State}
use Rattle.world_moves.specs.Acting.{Given, forget, given_by, perform_quietly, plans_after, shut_link}
use Rattle.world_moves.specs.Ends.{EndStates, EndStep, actions_by, client_step}
use Rattle.world_moves.specs.Links.{acceptor_of}
use Rattle.world_moves.specs.Moving.{settle, with_link}
use Rattle.domain_world.specs.Accepting.Carried.{IsWholeUnit}
use Rattle.domain_world.specs.Accepting.Runs.{NothingIsOpen, IsQuietTurn}
use Rattle.domain_world.specs.Accepting.SeenSteps.{Differ}
use Rattle.domain_world.specs.Past.{Delivery, note_client, note_given, note_member, other_marks, sent_at}
use Rattle.domain_world.proofs.Frames.AloneNoteLaws.{note_alone as note_at, note_controller_alone as note_controller}
use Rattle.domain_world.proofs.Acceptance.LetInStepLaws.{IsDialledBy, Meets, calm_meets, last_accepted, side_meets}
use Rattle.domain_world.proofs.Acceptance.Turns.TurnQuietLaws.{action_still}
use Rattle.domain_world.proofs.Apart.KeptTextLaws.{acts_so}
use Rattle.domain_world.proofs.Apart.OrderMoveLaws.{UnitsFact}
use Rattle.domain_world.proofs.Apart.OrderSuitLaws.{SuitSide}
use Rattle.domain_world.proofs.Apart.OrderToldLaws.{IsEarlier, Told, client_earlier, controller_earlier, given_earlier, member_earlier, same_earlier, told_before}
use Rattle.domain_world.proofs.Apart.TogetherBookLaws.{Pairing}
use Rattle.domain_world.proofs.Apart.TogetherFrameLaws.{ControllerKnown, HasHelp, OwnKnown, asker_for, changed_together, controller_comes, hears_together, other_comes, own_elsewhere, own_whole, put_so, rebook_calls, renewed_together}
use Rattle.domain_world.proofs.Apart.TogetherTakeLaws.{CallsWere}
use Rattle.domain_world.proofs.Apart.TogetherStayLaws.{CallsElsewhere, TiesHold, TogetherSo, basis_of, other_gives, unseen}
use Rattle.domain_world.proofs.Frames.BagFrameLaws.{IsServer}
use Rattle.domain_world.proofs.Moves.ComingLaws.{CameFrom, StillHas, kept_same, kept_settled}
use Rattle.domain_world.proofs.Frames.EndNoteLaws.{acted_by, stepped}
use Rattle.domain_world.proofs.Moves.OpenMadeLaws.{IsAtSide, on_side}
use Rattle.domain_world.proofs.Calls.CallComesLaws.{IsWhole}
use Rattle.domain_world.proofs.Calls.CallFrameLaws.{came_whole, dialled_on, other_calls, turn_case}
use Rattle.domain_world.proofs.Calls.CallHoldsLaws.{CallsHold, differ_front, link_more, marks_append, marks_in}
use Rattle.domain_world.proofs.Calls.CallStepLaws.{most_steps}
use Rattle.domain_world.proofs.Calls.CalledUnitLaws.{heard_still}
use Rattle.domain_world.proofs.Calls.LooserLaws.{calls_before}
use Rattle.world_moves.specs.Alone.{alone_controller_step as controller_step, alone_end_step as end_step, hear_alone as hear}
use Rattle.world_moves.specs.Plain.{plain_member_step as member_step}
use Rattle.domain_world.proofs.Frames.AloneStepLaws.{act_alone as hear_and_act}
use Rattle.domain_world.proofs.Frames.MoveKeepLaws.{IsHeard, KeepsMoves, MoveFact, Progress, coming, started, waiting, with_rest}

-- the bag once all is done that an end does at bytes
abbrev pub bag_at : Option State → State → List BagUnit
bag_at None s = s.bag
bag_at (Some after) s = after.bag

pub still_at : (to : Option State) (s t : State) → StillHas s.bag t.bag → StillHas (bag_at to s) (bag_at to t)
still_at None s t still = still
still_at (Some after) s t still = kept_same after.bag

-- the state once all is done that a member, or a controller, does at a piece
abbrev pub IsBehindMember : ℕ → MemberState → Delivery → List ℕ → State → State → Type 0
IsBehindMember at m w piece s after = after ≡ stepped (Member at) (member_step (Some m) at (event.Bytes w.link piece) s.moment s.ends s.chances) s

abbrev pub IsBehindController : ℕ → ControllerState → Delivery → List ℕ → State → State → Type 0
IsBehindController at c w piece s after = after ≡ stepped (Controller at) (controller_step (Some c) at (event.Bytes w.link piece) s.moment s.ends s.chances) s

-- What is known of later books, by which more is known of each step. It was known of each earlier one.
pub record IsKnown (Knows : List BagUnit → Book → Type 0) : Type 0 where
  pub told : (bag : List BagUnit) (b : Book) → Knows bag b → Told b
  pub before : (bag later : List BagUnit) (b next : Book) → StillHas bag later → IsEarlier b next → Knows later next → Knows bag b

module _ (p : Pairing) (Knows : List BagUnit → Book → Type 0) (More : MoveFact) where
  -- what is to be known of each step
  pub record AllFit : Type 0 where
    pub controllers : (n at : ℕ) (c : ControllerState) (w : Delivery) (piece : List ℕ) (s after : State) (given : Given) (b : Book) → slice_get s.ends.controllers at ≡ Some c →
        IsAtSide s.links w.link w.back (Controller at) → CameFrom w.source s w piece → length b.sent ≡ length s.bag → HasHelp p n [] s given b → More n (coming w) s given b → n + 1 ≤ most_steps →
        Differ s.chances.drawn → IsBehindController at c w piece s after → Knows after.bag (note_controller (Some c) at w piece s after b) → ControllerKnown p n at c w piece s after b
    pub members : (n : ℕ) (w : Delivery) (piece : List ℕ) (s after : State) (given : Given) (b : Book) (running : Running) (whole : IsWhole w.link piece running) →
        slice_get s.ends.members p.who ≡ Some (record { running = Some running }) → IsAtSide s.links w.link w.back (Member p.who) → CameFrom w.source s w piece → length b.sent ≡ length s.bag →
        HasHelp p n [] s given b → More n (coming w) s given b → n + 1 ≤ most_steps → Differ s.chances.drawn → IsBehindMember p.who (record { running = Some running }) w piece s after →
        Knows after.bag (note_member (Some (record { running = Some running })) p.who w piece s after b) → OwnKnown p n w piece s after b running whole
    pub suits : (n : ℕ) (w : Delivery) (s : State) (given : Given) (b : Book) → More n (coming w) s given b → SuitSide (asker_for p) n s given b
    -- another member calls in its own name
    pub others : (n at : ℕ) (m : MemberState) (w : Delivery) (piece : List ℕ) (s after : State) (given : Given) (b : Book) → at ≢ p.who → slice_get s.ends.members at ≡ Some m →
        IsAtSide s.links w.link w.back (Member at) → CameFrom w.source s w piece → length b.sent ≡ length s.bag → HasHelp p n [] s given b → More n (coming w) s given b → n + 1 ≤ most_steps →
        Differ s.chances.drawn → CallsElsewhere (basis_of p unseen b) (marks_in (note_member (Some m) at w piece s after b).sent) (marks_in b.sent)

  abbrev pub TogetherKept : MoveFact
  TogetherKept n q s given b = n ≤ most_steps → Differ s.chances.drawn → Knows (bag_at q.to s) b → TogetherSo p q.rest s.member_plans s.ends.members b

  abbrev pub TogetherSide : MoveFact
  TogetherSide n q s given b = UnitsFact n q s given b × NothingIsOpen s × HasHelp p n q.rest s given b × More n q s given b

  module _ (known : IsKnown Knows) (fits : AllFit) where
    -- nothing is written down
    hears_kept : (n : ℕ) (q : Progress) (end : EndId) (what : Event) (s : State) (given : Given) (b : Book) → Meets end s.links what → HasHelp p n q.rest s given b → TogetherKept n q s given b →
        IsHeard TogetherKept n q end (hear end what s) given b
    hears_kept n q end what s given b meets help together few differ knows =
        let now : State = (hear end what s).state in
        let knows_so : Knows (bag_at q.to s) b = known.before (bag_at q.to s) (bag_at q.to now) b b (still_at q.to s now (kept_same s.bag)) (same_earlier b) knows in
        hears_together p n end what q.rest given s b meets help (λ before. together (omega (arith, few)) before knows_so) few differ (known.told (bag_at q.to s) b knows_so)

    -- what helps still does where a link has just been made
    linked : (n : ℕ) (rest : Given) (route : Route) (s : State) (given : Given) (b : Book) → HasHelp p n rest s given b → HasHelp p n rest (with_link route s) given b
    linked n rest route s given b help = record {
      calls = λ few differ. link_more n s.member_plans s.ends s.chances.drawn s.links route b.sent b.messages (help.calls few differ);
      order = help.order;
      tries = help.tries;
      texts = help.texts;
      there = help.there;
      asks = help.asks;
      named = help.named;
    }

    forgotten : (n : ℕ) (end : EndId) (s : State) (b : Book) → HasHelp p n [] s [] b → HasHelp p n [] (forget end s) [] b
    forgotten n end s b help = record {
      calls = help.calls;
      order = help.order;
      tries = help.tries;
      texts = help.texts;
      there = help.there;
      asks = help.asks;
      named = help.named;
    }

    -- an action is done: a text is kept, if it gives one
    done_hold : (end : EndId) (what : Action) (rest : Given) (plans : List MemberPlan) (b : Book) (r : Option Running) → TiesHold p ((end, what) ∷ rest) plans b r →
        TiesHold p rest (plans_after end what plans) b r
    done_hold end what rest plans b None stopped = record { seed = stopped.seed; texts = acts_so p.who end what rest plans _ stopped.texts; together = stopped.together }
    done_hold end what rest plans b (Some running) ties = ties

    -- ---- bytes come

    abbrev ComesSo : ℕ → State → EndId → EndStep → State → Book → Type 0
    ComesSo n s end step after now = n + 1 ≤ most_steps → Differ step.chances.drawn → Knows after.bag now → TogetherSo p (given_by end step.actions ++ []) s.member_plans step.ends.members now

    abbrev after_of : EndId → EndStep → State → State
    after_of end step s = stepped end step s

    own_steps : (n : ℕ) (m : MemberState) (w : Delivery) (piece : List ℕ) (s after : State) (given : Given) (b : Book) → slice_get s.ends.members p.who ≡ Some m →
        IsAtSide s.links w.link w.back (Member p.who) → CameFrom w.source s w piece → length b.sent ≡ length s.bag → NothingIsOpen s → HasHelp p n [] s given b → More n (coming w) s given b →
        n + 1 ≤ most_steps → Differ (s.chances.drawn ++ (step_of m (event.Bytes w.link piece) s.moment s.chances.left).drawn) → Differ s.chances.drawn →
        IsBehindMember p.who m w piece s after → Knows after.bag (note_member (Some m) p.who w piece s after b) → TiesHold p [] s.member_plans b m.running →
        TiesHold p (given_by (Member p.who) (actions_by (step_of m (event.Bytes w.link piece) s.moment s.chances.left).answer) ++ []) s.member_plans
        (note_member (Some m) p.who w piece s after b) (step_of m (event.Bytes w.link piece) s.moment s.chances.left).state.running
    own_steps n m w piece s after given b is here came even quiet help more few differ before behind knows ties =
        let now : Book = note_member (Some m) p.who w piece s after b in
        let told : Told now = known.told after.bag now knows in
        let told_was : Told b = told_before b now (member_earlier m p.who w piece s after b) told in
        let holds : CallsHold n s.member_plans s.ends s.chances.drawn s.links b.sent b.messages = help.calls (omega (arith, few)) before in
        elim (turn_case m.running w.link) [
          | inl other ↦ own_elsewhere p n m w piece [] given s after b other help few differ told_was is ties
          | inr on ↦
              let runs : MemberState = record { running = Some on.running } in
              let same : m ≡ runs = ap (λ (r : Option Running). record { running = r }) on.runs in
              let dialled : IsDialledBy s.links p.who w.link = dialled_on _ (λ number. IsDialledBy s.links p.who number) m.running w.link on (holds.members p.who m is).kept in
              let unit : IsWholeUnit piece = came_whole w.source s w piece p.who came dialled quiet.bag in
              let calm : IsQuietTurn (dialling.On w.link on.said) = subst IsQuietTurn on.on (quiet.members p.who m on.running is on.runs) in
              let whole : IsWhole w.link piece on.running =
              record { said = on.said; on = on.on; rest = calm.0; none = calm.1; frames = unit.frames; unit = unit.unit; heard = unit.heard } in
              subst (λ (x : MemberState). slice_get s.ends.members p.who ≡ Some x → Differ (s.chances.drawn ++ (step_of x (event.Bytes w.link piece) s.moment s.chances.left).drawn) →
              IsBehindMember p.who x w piece s after → Knows after.bag (note_member (Some x) p.who w piece s after b) → TiesHold p [] s.member_plans b x.running →
              TiesHold p (given_by (Member p.who) (actions_by (step_of x (event.Bytes w.link piece) s.moment s.chances.left).answer) ++ []) s.member_plans
              (note_member (Some x) p.who w piece s after b) (step_of x (event.Bytes w.link piece) s.moment s.chances.left).state.running) (sym same)
              (λ there differs behind_so knows_so ties_so.
              own_whole p n w piece [] given s after b on.running whole here came even
              (fits.members n w piece s after given b on.running whole there here came even help more few before behind_so knows_so) (fits.suits n w s given b more) help few differs (known.told after.bag _ knows_so) there ties_so)
              is differ behind knows ties
        ]

    own_comes : (n at : ℕ) → at ≡ p.who → (m : MemberState) (w : Delivery) (piece : List ℕ) (s after : State) (given : Given) (b : Book) → slice_get s.ends.members at ≡ Some m →
        IsAtSide s.links w.link w.back (Member at) → CameFrom w.source s w piece → length b.sent ≡ length s.bag → StillHas s.bag after.bag → NothingIsOpen s → HasHelp p n [] s given b →
        More n (coming w) s given b → n + 1 ≤ most_steps → Differ (s.chances.drawn ++ (step_of m (event.Bytes w.link piece) s.moment s.chances.left).drawn) → Differ s.chances.drawn →
        TogetherSo p [] s.member_plans s.ends.members b → IsBehindMember at m w piece s after → Knows after.bag (note_member (Some m) at w piece s after b) →
        TogetherSo p (given_by (Member at) (actions_by (step_of m (event.Bytes w.link piece) s.moment s.chances.left).answer) ++ []) s.member_plans
        (slice_set s.ends.members at (step_of m (event.Bytes w.link piece) s.moment s.chances.left).state) (note_member (Some m) at w piece s after b)
    own_comes n at same m w piece s after given b is here came even still quiet help more few differ before was behind knows =
        subst (λ (k : ℕ). slice_get s.ends.members k ≡ Some m → IsAtSide s.links w.link w.back (Member k) → IsBehindMember k m w piece s after → Knows after.bag (note_member (Some m) k w piece s after b) →
        TogetherSo p (given_by (Member k) (actions_by (step_of m (event.Bytes w.link piece) s.moment s.chances.left).answer) ++ []) s.member_plans
        (slice_set s.ends.members k (step_of m (event.Bytes w.link piece) s.moment s.chances.left).state) (note_member (Some m) k w piece s after b)) (sym same)
        (λ there side behind knows.
        put_so p p.who (step_of m (event.Bytes w.link piece) s.moment s.chances.left).state (actions_by (step_of m (event.Bytes w.link piece) s.moment s.chances.left).answer) [] s b
        (note_member (Some m) p.who w piece s after b) was
        (λ st its found ties. own_steps n m w piece s after given b there side came even quiet help more few differ before behind knows (was m there)) (λ r apart found ties. absurd (apart refl)) help.there)
        is here behind knows

    member_comes : (n at : ℕ) (m : MemberState) (w : Delivery) (piece : List ℕ) (s after : State) (given : Given) (b : Book) → slice_get s.ends.members at ≡ Some m → IsAtSide s.links w.link w.back (Member at) →
        CameFrom w.source s w piece → length b.sent ≡ length s.bag → StillHas s.bag after.bag → NothingIsOpen s → HasHelp p n [] s given b → More n (coming w) s given b → TogetherKept n (coming w) s given b →
        IsBehindMember at m w piece s after → ComesSo n s (Member at) (member_step (Some m) at (event.Bytes w.link piece) s.moment s.ends s.chances) after (note_member (Some m) at w piece s after b)
    member_comes n at m w piece s after given b is here came even still quiet help more together behind few differ knows =
        let before : Differ s.chances.drawn = differ_front s.chances.drawn (step_of m (event.Bytes w.link piece) s.moment s.chances.left).drawn differ in
        let now : Book = note_member (Some m) at w piece s after b in
        let was : TogetherSo p [] s.member_plans s.ends.members b =
        together (omega (arith, few)) before (known.before s.bag after.bag b now still (member_earlier m at w piece s after b) knows) in
        elim (cases_Bool (at == p.who)) [
          | inl hit ↦
              let same : at ≡ p.who = eqb-true at p.who hit in
              own_comes n at same m w piece s after given b is here came even still quiet help more few differ before was behind knows
          | inr not ↦
              let apart : at ≢ p.who = λ same. let never : true ≡ false = sym ((Decides-eqb at p.who).1 same) ∙ not in absurd (let x = never in cc) in
              other_comes p n m at w piece [] given s after b apart (omega (arith, few)) before (fits.others n at m w piece s after given b apart is here came even help more few before) help was
        ]

    comes_kept : (n : ℕ) (end : EndId) (w : Delivery) (piece : List ℕ) (s : State) (given : Given) (b : Book) → IsAtSide s.links w.link w.back end → CameFrom w.source s w piece →
        (IsServer end → length b.sent ≡ length s.bag) → NothingIsOpen s → HasHelp p n [] s given b → More n (coming w) s given b → TogetherKept n (coming w) s given b →
        let after : State = (hear_and_act end (event.Bytes w.link piece) s).state in
        ComesSo n s end (end_step end (event.Bytes w.link piece) s.moment s.ends s.chances) after (note_at (Some end) w piece s after b)
    comes_kept n end w piece s given b here came even quiet help more together =
        acted_by (λ (one : EndId) (step : EndStep) (after : State) (now : Book). IsAtSide s.links w.link w.back one → (IsServer one → length b.sent ≡ length s.bag) → StillHas s.bag after.bag →
        ComesSo n s one step after now) w piece s b
        (λ one side marked still few differ knows. together (omega (arith, few)) differ (known.before s.bag _ b b still (same_earlier b) knows))
        (λ at c is side marked still few differ knows.
        let after : State = stepped (Controller at) (controller_step (Some c) at (event.Bytes w.link piece) s.moment s.ends s.chances) s in
        let now : Book = note_controller (Some c) at w piece s after b in
        let before : Differ s.chances.drawn = differ_front s.chances.drawn (controller_step_of c (event.Bytes w.link piece) s.moment s.chances.left).drawn differ in
        controller_comes p n at c w piece s after b [] given came (marked refl) help few before (known.told after.bag now knows)
        (fits.controllers n at c w piece s after given b is side came (marked refl) help more few before refl knows)
        (together (omega (arith, few)) before (known.before s.bag after.bag b now still (controller_earlier c at w piece s after b (marked refl)) knows)))
        (λ at m is side marked still.
        member_comes n at m w piece s (stepped (Member at) (member_step (Some m) at (event.Bytes w.link piece) s.moment s.ends s.chances) s) given b is side came (marked refl) still quiet help more together refl)
        (λ at c is side marked still few differ knows st there.
        other_gives p (Client at) (client_step (Some c) at (event.Bytes w.link piece) s.moment s.ends s.chances).actions [] s.member_plans (note_client (Some c) at w piece s b) st.running refl
        (rebook_calls p [] s.member_plans b (note_client (Some c) at w piece s b) st.running refl refl (λ unit number timestamp d there. there)
        (together (omega (arith, few)) (differ_front s.chances.drawn (client_step_of c (event.Bytes w.link piece) s.moment s.chances.left).drawn differ)
        (known.before s.bag _ b (note_client (Some c) at w piece s b) still (client_earlier c at w piece s b) knows) st there)))
        end here even (heard_still end w piece s)

    -- ---- through the moves

    -- the plans change as an action says
    acts_kept : (n : ℕ) (q : Progress) (end : EndId) (what : Action) (s : State) (given : Given) (b : Book) → TogetherKept n (with_rest ((end, what) ∷ []) q) s given b →
        TogetherKept n q (perform_quietly end what s) given b
    acts_kept n q end what s given b together few differ knows st there =
        done_hold end what q.rest s.member_plans b st.running
        (together few differ (known.before (bag_at q.to s) (bag_at q.to (perform_quietly end what s)) b b (still_at q.to s (perform_quietly end what s) (action_still end what s)) (same_earlier b) knows) st there)

    -- the state changes in nothing that matters
    pub stays_kept : (n : ℕ) (q : Progress) (s t : State) (given after : Given) (b : Book) → StillHas s.bag t.bag → t.member_plans ≡ s.member_plans → t.ends ≡ s.ends → t.chances ≡ s.chances →
        TogetherKept n q s given b → TogetherKept n q t after b
    stays_kept n q s t given after b still plans ends chances together few differ knows =
        let old : TogetherSo p q.rest s.member_plans s.ends.members b =
        together few (subst (λ (c : Drawing). Differ c.drawn) chances differ) (known.before (bag_at q.to s) (bag_at q.to t) b b (still_at q.to s t still) (same_earlier b) knows) in
        subst (λ (e : EndStates). TogetherSo p q.rest t.member_plans e.members b) (sym ends) (subst (λ (all : List MemberPlan). TogetherSo p q.rest all s.ends.members b) (sym plans) old)

    over_kept : (n at : ℕ) (on next : Option Delivery) (s : State) (given : Given) (b : Book) → TogetherKept n (started at on) s given b →
        TogetherKept n (started (at + 1) next) s [] (note_given at given s b)
    over_kept n at on next s given b together few differ knows st there =
        let marked : ℕ = length b.sent in
        let others : List Sent = map (sent_at at) (other_marks b.forwards s marked) in
        rebook_calls p [] s.member_plans b (note_given at given s b) st.running refl refl
        (subst (λ (marks : List Mark). CallsWere marks (marks_in b.sent)) (sym (marks_append b.sent others))
        (calls_before (marks_in b.sent) (marks_in others) (other_calls at b.forwards s marked)))
        (together few differ (known.before s.bag s.bag b (note_given at given s b) (kept_same s.bag) (given_earlier at given s b) knows) st there)

    pub together_moves : KeepsMoves (Unit {0}) TogetherSide TogetherKept
    together_moves = record {
      closes = λ n q end link s given b work side kept. hears_kept n q end (event.Closed link) s given b (calm_meets end s.links (event.Closed link) tt) side.2 kept;
      opens = λ n at dial route s given b out side kept.
          hears_kept n (waiting at dial) (acceptor_of route) (event.Opened (length s.links)) (with_link route s) given b (last_accepted (acceptor_of route) route s.links refl)
          (linked n [] route s given b side.2) kept;
      dialled = λ n at end link s given b here side kept. hears_kept n (waiting at None) end (event.Dialled link) s given b (side_meets end s.links link (on_side s.links link true end here)) side.2 kept;
      fails = λ n at end s b side kept. hears_kept n (waiting at None) end event.DialFailed s [] b (calm_meets end s.links event.DialFailed tt) side.2 kept;
      begins = λ n at client own s b is side kept few differ knows st there.
          other_gives p (Client client) (begin_of (fresh_client own)).actions [] s.member_plans b st.running refl (kept (omega (arith, few)) differ knows st there);
      comes = λ n end w piece s given b here came bytes side kept. comes_kept n end w piece s given b here came (λ server. side.0.1.all end here server) side.1 side.2 side.3 kept;
      reaches = λ n w s given b side kept. kept;
      acts = λ n q end what s given b work side kept. acts_kept n q end what s given b kept;
      shuts = λ n q link s given b work side kept. stays_kept n q s (shut_link link s) given given b (kept_same s.bag) refl refl refl kept;
      answers = λ n at dial link there s given b is side kept. kept;
      forgets = λ n at end s b side kept. kept;
      settles = λ n at on number s b side kept. stays_kept n (started at on) s (settle number s) [] [] b (kept_settled number s.bag) refl refl refl kept;
      dials = λ n at dial s b is side kept. kept;
      renews = λ n at end s b side kept few differ knows. renewed_together p n end [] (forget end s) b (forgotten n end s b side.2) (kept few differ knows);
      changes = λ n at member secret s b formed side kept few differ knows. changed_together p n member secret [] s b side.2 (kept (omega (arith, few)) differ knows);
      ticks = λ n at more s b side kept. kept;
      over = λ n at on next s given b side kept. over_kept n at on next s given b kept;
    }
