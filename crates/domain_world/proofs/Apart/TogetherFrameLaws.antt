-- Through a run a member and its controller stay together, by what is known of the openings that the controller
-- accepts, of the calls that it judges, and of what the member takes. It serves `Proved.never_apart`.
use Rattle.std.proofs.Common.{◌≡◌, ◌≢◌, ℕ, ◌+◌, ◌*◌, ◌≤◌, ◌==◌, true, false, List, [], ◌++◌, length, map, drop, inl, inr, Option, Some, None, Result, slice_get, slice_set, refl, sym, ap, subst, ◌∙◌, arith}
use Rattle.std.specs.List.{AllByRecursion}
use Rattle.std.proofs.lemmas.Bool.{cases_Bool, eqb-true}
use Rattle.wire_base.specs.Names.{SameName}
use Rattle.outside.specs.Machine.{Part}
use Rattle.outside.specs.declared.action.Action.{Action}
use Rattle.outside.specs.declared.action.StepRefused.{StepRefused}
use Rattle.outside.specs.declared.event.Event.{Event}
use Rattle.outside.specs.declared.event.Event.TheVariants as event
use Rattle.secret_change.specs.Secrets.{SecretsState}
use Rattle.channel_client.specs.Effects.{View, effect_of_take, number_in, stands_in, step_in, view_of}
use Rattle.channel_client.specs.Machine.{take_of}
use Rattle.channel_client.specs.State.{Requester}
use Rattle.channel_events.specs.Marks.{Mark}
use Rattle.channel_events.specs.OrderSteps.{Asker, InOrder}
use Rattle.channel_events.specs.Requests.{CallsAreApart, IsNoRequest, Requests}
use Rattle.wire_base.proofs.ListLaws.{all_weaker, no_some}
use Rattle.channel_turns.specs.declared.state.TurnTalk.{TurnTalk}
use Rattle.domain_controller.specs.State.{State as ControllerState}
use Rattle.domain_controller.specs.Step.{step_of as controller_step_of}
use Rattle.end_links.specs.Serving.{ServedUnit}
use Rattle.logon_client.specs.Machine.{step_of as client_step_of}
use Rattle.member_server.specs.Machine.{event_part, fresh_member, step_of}
use Rattle.member_server.specs.State.{State as MemberState}
use Rattle.member_server.specs.Trying.{TriesUnlessStopped}
use Rattle.member_server.specs.Turns.{AtTurn, DialWork}
use Rattle.member_server.specs.declared.plan.MemberPlan.{MemberPlan}
use Rattle.member_server.specs.declared.state.Running.{Running}
use Rattle.step_notes.specs.ControllerNotes.{units_of_controller}
use Rattle.step_notes.specs.Marking.{answered_marks}
use Rattle.step_notes.specs.MemberNotes.{taking_note, turn_units}
use Rattle.step_notes.specs.Records.{Book, ChannelAccepted, Judging, OfMember, Sent}
use Rattle.world_moves.specs.declared.bag.BagUnit.{BagUnit}
use Rattle.world_moves.specs.declared.links.EndId.{EndId}
use Rattle.world_moves.specs.declared.links.EndId.TheVariants.{Client, Controller, Member}
use Rattle.world_moves.specs.declared.state.State.{State}
use Rattle.world_moves.specs.Acting.{Given, given_by}
use Rattle.world_moves.specs.Ends.{EndStates, EndStep, actions_by}
use Rattle.world_moves.specs.Links.{same_end}
use Rattle.world_moves.specs.Moving.{changed}
use Rattle.world_moves.proofs.ChangeLaws.{by_change, member_begun, text_begun}
use Rattle.world_moves.proofs.EndKindLaws.{IfMember}
use Rattle.domain_world.specs.Accepting.Answered.{IsItsWay}
use Rattle.domain_world.specs.Accepting.SeenSteps.{Differ, HearsNone, NoRequests, PlacedBy}
use Rattle.domain_world.specs.Claims.OrderedSteps.{AreBefore, SuitsIfTaken}
use Rattle.domain_world.specs.Past.{Delivery, accepted_of, at_controller, judged_of, numbers_on, controller_asked, controller_of_plan, marks_of, note_member, note_messages, onto, sent_at}
use Rattle.domain_world.proofs.Frames.AloneNoteLaws.{alone_answers as answers_of, note_controller_alone as note_controller}
use Rattle.domain_world.proofs.Acceptance.LetInStepLaws.{IsDialledBy, Meets, MeetsMember}
use Rattle.domain_world.proofs.Apart.KeptTextLaws.{KeepsSo}
use Rattle.domain_world.proofs.Apart.OrderFrameLaws.{OrderKept}
use Rattle.domain_world.proofs.Apart.OrderSuitLaws.{SuitSide, all_suit}
use Rattle.domain_world.proofs.Apart.OrderStayLaws.{order_sent}
use Rattle.domain_world.proofs.Apart.OrderToldLaws.{Told, asked, controller_earlier, items_made, member_earlier, told_before}
use Rattle.domain_world.proofs.Apart.StepOrderLaws.{order_before, stands_before}
use Rattle.domain_world.proofs.Apart.TogetherBookLaws.{AllJudgedSo, HasHash, Pairing, TogetherNow, accepts_all, judges_all}
use Rattle.domain_world.proofs.Apart.TogetherMemberLaws.{KnownIf, TakenKnown, TiesIf, alone_calls, nobody, other_ties, stops, whole_ties}
use Rattle.domain_world.proofs.Apart.TogetherStayLaws.{CallsElsewhere, TiesHold, TogetherSo, basis_by, basis_of, begun_ties, marked_elsewhere, other_gives, own_gives, rebooked, seed_fresh, seeded, unseen, with_views}
use Rattle.domain_world.proofs.Apart.TogetherTakeLaws.{CallsWere, Ties, marked, own_seen, seen_own, waits_on}
use Rattle.domain_world.proofs.Apart.TogetherTurnLaws.{TurnStands}
use Rattle.domain_world.proofs.Messages.MessageOnceLaws.{set_cases}
use Rattle.domain_world.proofs.Moves.ComingLaws.{CameFrom}
use Rattle.domain_world.proofs.Frames.EndNoteLaws.{accepted_so, judged_so}
use Rattle.domain_world.proofs.Moves.OpenMadeLaws.{IsAtSide}
use Rattle.domain_world.proofs.Frames.TurnFrameLaws.{asked_marks, turns_sent}
use Rattle.domain_world.proofs.Calls.CallComesLaws.{IsWhole, KeptIn, if_none, no_requests_sent, other_none, reply_no_request, served, turn, units_in_none, units_whole}
use Rattle.domain_world.proofs.Calls.CallHoldsLaws.{CallsHold, differ_front, marks_append, marks_in, marks_sent, requests_at, sent_more, views_at}
use Rattle.domain_world.proofs.Calls.CallStepLaws.{coherent_if, hears_none, most_steps}
use Rattle.domain_world.proofs.Calls.LooserLaws.{calls_before}
use Rattle.domain_world.proofs.Calls.MarkWayLaws.{answers_way}
use Rattle.domain_world.proofs.Calls.OutStepLaws.{IsOther}
use Rattle.domain_world.proofs.Calls.StepApartLaws.{seen_member, seen_with}
use Rattle.domain_world.proofs.Calls.WholeNotedLaws.{no_requests_marked, none_marked, placed_part}
use Rattle.step_notes.specs.Served.{units_if_taken}
use Rattle.world_moves.specs.Alone.{alone_controller_step as controller_step, alone_end_step as end_step}
use Rattle.world_moves.specs.Plain.{plain_member_step as member_step}
use Rattle.domain_world.proofs.Frames.AloneStepLaws.{alone_by as step_by, renew_alone_by as renew_by, renewed_alone as renewed}

-- ---- what it rests on

abbrev pub asker_for : Pairing → Asker
asker_for p = record { who = p.who; controller = p.controller; computer = p.computer; accepted = [] }

pub record HasHelp (p : Pairing) (n : ℕ) (rest : Given) (s : State) (given : Given) (b : Book) : Type 0 where
  pub calls : KeptIn n s b
  pub order : OrderKept (asker_for p) n s given b
  pub tries : (at : ℕ) (m : MemberState) → slice_get s.ends.members at ≡ Some m → TriesUnlessStopped m.running
  pub texts : KeepsSo p.who rest s.member_plans s.ends.members
  pub there : (m : MemberState) × (slice_get s.ends.members p.who ≡ Some m)
  pub asks : controller_of_plan (slice_get s.member_plans p.who) s.ends ≡ p.controller
  pub named : n ≤ most_steps → Differ s.chances.drawn → (running : Running) → slice_get s.ends.members p.who ≡ Some (record { running = Some running }) → SameName running.logons.channel.caller.computer p.computer

-- ---- a member is put in a place

differs : (m at : ℕ) → at ≢ m → same_end (Member at) (Member m) ≡ false
differs m at other = elim (cases_Bool (at == m)) [
  | inl hit ↦ absurd (other (eqb-true at m hit))
  | inr not ↦ not
]

module _ (p : Pairing) where
  abbrev base : Asker
  base = asker_for p

  pub put_so : (at : ℕ) (new : MemberState) (actions : List Action) (rest : Given) (s : State) (b later : Book) → TogetherSo p rest s.member_plans s.ends.members b →
      ((st : MemberState) → at ≡ p.who → slice_get s.ends.members p.who ≡ Some st → TiesHold p rest s.member_plans b st.running →
      TiesHold p (given_by (Member p.who) actions ++ rest) s.member_plans later new.running) →
      ((r : Option Running) → at ≢ p.who → slice_get s.ends.members p.who ≡ Some (record { running = r }) → TiesHold p rest s.member_plans b r → TiesHold p rest s.member_plans later r) →
      ((m : MemberState) × (slice_get s.ends.members p.who ≡ Some m)) →
      TogetherSo p (given_by (Member at) actions ++ rest) s.member_plans (slice_set s.ends.members at new) later
  put_so at new actions rest s b later old own other there st is = elim (set_cases s.ends.members at p.who new st is) [
    | inl here ↦
        subst (λ (x : MemberState). TiesHold p (given_by (Member at) actions ++ rest) s.member_plans later x.running) here.1
        (subst (λ (k : ℕ). TiesHold p (given_by (Member k) actions ++ rest) s.member_plans later new.running) here.0 (own there.0 (sym here.0) there.1 (old there.0 there.1)))
    | inr elsewhere ↦
        let apart : at ≢ p.who = λ same. elsewhere.0 (sym same) in
        other_gives p (Member at) actions rest s.member_plans later st.running (differs p.who at apart) (other st.running apart elsewhere.1 (old st elsewhere.1))
  ]

  -- ---- what the member stands on before its step

  module _ (n : ℕ) (rest given : Given) (s : State) (b : Book) (help : HasHelp p n rest s given b) (few : n + 1 ≤ most_steps) (differ : Differ s.chances.drawn) (told : Told b) where
    abbrev r : Requests ℕ
    r = requests_at n s.member_plans s.ends s.chances.drawn b.sent

    its_calls : CallsHold n s.member_plans s.ends s.chances.drawn s.links b.sent b.messages
    its_calls = help.calls (omega (arith, few)) differ

    before_step : (running : Running) → slice_get s.ends.members p.who ≡ Some (record { running = Some running }) → AreBefore r p.who p.controller (Some running) (asked base b.accepted)
    before_step running is = record {
      at = ap (λ (x : Option MemberState). seen_member (controller_of_plan (slice_get s.member_plans p.who) s.ends) x) is
          ∙ ap (λ (k : ℕ). seen_member k (Some (record { running = Some running }))) help.asks;
      coherent = coherent_if (Some running) (its_calls.members p.who (record { running = Some running }) is).asks;
      apart = its_calls.apart;
      order = help.order (omega (arith, few)) differ told;
    }

    pub stands_at : (running : Running) → slice_get s.ends.members p.who ≡ Some (record { running = Some running }) →
        Ties (basis_of p unseen b) (marks_in b.sent) running.logons.channel running.logons.plan.secrets →
        TurnStands (basis_of p (views_at s.member_plans s.ends) b) (marks_in b.sent) s.chances.drawn (2 * n) running.logons.channel running.logons.plan.secrets
    stands_at running is ties = record {
      apart = stands_before r p.who p.controller (asked base b.accepted) running (before_step running is);
      order = order_before r p.who p.controller (asked base b.accepted) running (before_step running is);
      ties = with_views (basis_of p unseen b) (views_at s.member_plans s.ends) (marks_in b.sent) running.logons.channel running.logons.plan.secrets ties;
    }

  -- who else is seen doesn't matter
  hidden_by : (views : ℕ → Option View) (accepted : List ChannelAccepted) (judged : List Judging) (marks : List Mark) (r : Option Running) (kept : SecretsState) →
      TiesIf (basis_by p views accepted judged) marks r kept → TiesIf (basis_by p unseen accepted judged) marks r kept
  hidden_by views accepted judged marks None kept t = t
  hidden_by views accepted judged marks (Some running) kept ties = with_views (basis_by p views accepted judged) unseen marks running.logons.channel running.logons.plan.secrets ties

  -- ---- no whole unit comes on the link of its turn

  own_other : (n : ℕ) (rest given : Given) (s : State) (b : Book) (r : Option Running) (what : Event) → HasHelp p n rest s given b → n + 1 ≤ most_steps →
      Differ (s.chances.drawn ++ (step_of (record { running = r }) what s.moment s.chances.left).drawn) → Told b → slice_get s.ends.members p.who ≡ Some (record { running = r }) → HearsNone r what →
      TiesHold p rest s.member_plans b r →
      TiesHold p (given_by (Member p.who) (actions_by (step_of (record { running = r }) what s.moment s.chances.left).answer) ++ rest) s.member_plans b
      (step_of (record { running = r }) what s.moment s.chances.left).state.running
  own_other n rest given s b None what help few differ told is none ties = ties
  own_other n rest given s b (Some running) what help few differ told is none ties =
      let m : MemberState = record { running = Some running } in
      let before : Differ s.chances.drawn = differ_front s.chances.drawn (step_of m what s.moment s.chances.left).drawn differ in
      own_gives p rest s.member_plans b running.logons.plan s.chances.left (event_part running what s.moment s.chances.left) (seeded p.who rest s.member_plans s.ends.members running is help.texts)
      (hidden_by (views_at s.member_plans s.ends) b.accepted b.judged (marks_in b.sent) (step_of m what s.moment s.chances.left).state.running running.logons.plan.secrets
      (other_ties (basis_of p (views_at s.member_plans s.ends) b) (marks_in b.sent) s.chances.drawn (2 * n) (omega (arith, few)) running what s.moment s.chances.left running.logons.plan.secrets none
      (λ secret holds. holds) (stands_at n rest given s b help few before told running is ties) differ))

  -- more units are written down, of others
  rebook_hold : (rest : Given) (plans : List MemberPlan) (b now : Book) (r : Option Running) → b.accepted ≡ now.accepted → b.judged ≡ now.judged →
      CallsElsewhere (basis_of p unseen b) (marks_in now.sent) (marks_in b.sent) → ((running : Running) → r ≡ Some running → SameName running.logons.channel.caller.computer p.computer) →
      TiesHold p rest plans b r → TiesHold p rest plans now r
  rebook_hold rest plans b now None same alike were named stopped = record {
    seed = stopped.seed;
    texts = stopped.texts;
    together = rebooked p unseen b.accepted now.accepted b.judged now.judged (marks_in now.sent) (marks_in now.sent) None stopped.seed.secrets same alike refl
        (marked_elsewhere (basis_of p unseen b) (marks_in b.sent) (marks_in now.sent) None stopped.seed.secrets were named stopped.together);
  }
  rebook_hold rest plans b now (Some running) same alike were named ties =
      rebooked p unseen b.accepted now.accepted b.judged now.judged (marks_in now.sent) (marks_in now.sent) (Some running) running.logons.plan.secrets same alike refl
      (marked_elsewhere (basis_of p unseen b) (marks_in b.sent) (marks_in now.sent) (Some running) running.logons.plan.secrets were named ties)

  -- an end takes a step, and nothing is written down
  abbrev HeardSo : ℕ → Given → State → EndId → EndStep → Book → Type 0
  HeardSo n rest s end step b = n + 1 ≤ most_steps → Differ step.chances.drawn → Told b → TogetherSo p (given_by end step.actions ++ rest) s.member_plans step.ends.members b

  member_hears : (n : ℕ) (m : MemberState) (at : ℕ) (what : Event) (rest given : Given) (s : State) (b : Book) → slice_get s.ends.members at ≡ Some m → MeetsMember s.links what at →
      HasHelp p n rest s given b → TogetherSo p rest s.member_plans s.ends.members b → HeardSo n rest s (Member at) (member_step (Some m) at what s.moment s.ends s.chances) b
  member_hears n m at what rest given s b is meets help together few differ told =
      put_so at (step_of m what s.moment s.chances.left).state (actions_by (step_of m what s.moment s.chances.left).answer) rest s b b together
      (λ st same there ties.
      let its : slice_get s.ends.members p.who ≡ Some m = subst (λ (k : ℕ). slice_get s.ends.members k ≡ Some m) same is in
      own_other n rest given s b m.running what help few differ told its (hears_none (λ number. IsDialledBy s.links at number) m.running what meets.0) (together m its))
      (λ r apart there ties. ties) help.there

  pub hears_together : (n : ℕ) (end : EndId) (what : Event) (rest given : Given) (s : State) (b : Book) → Meets end s.links what → HasHelp p n rest s given b →
      (Differ s.chances.drawn → TogetherSo p rest s.member_plans s.ends.members b) → HeardSo n rest s end (end_step end what s.moment s.ends s.chances) b
  hears_together n end what rest given s b meets help together =
      step_by (λ (one : EndId) (step : EndStep). IfMember (MeetsMember s.links what) one → HeardSo n rest s one step b) what s.moment s.ends s.chances
      (λ one its few differ told. together differ)
      (λ at c is its few differ told st there.
      other_gives p (Controller at) _ rest s.member_plans b st.running refl (together (differ_front s.chances.drawn (controller_step_of c what s.moment s.chances.left).drawn differ) st there))
      (λ at m is its few differ told.
      member_hears n m at what rest given s b is (its at refl) help (together (differ_front s.chances.drawn (step_of m what s.moment s.chances.left).drawn differ)) few differ told)
      (λ at c is its few differ told st there.
      other_gives p (Client at) _ rest s.member_plans b st.running refl (together (differ_front s.chances.drawn (client_step_of c what s.moment s.chances.left).drawn differ) st there)) end meets

  -- ---- single changes

  fresh_so : (b : Book) (plans : List MemberPlan) (members : List MemberState) (plan : MemberPlan) (r : Option Running) → slice_get members p.who ≡ Some (record { running = r }) →
      slice_get plans p.who ≡ Some plan → KeepsSo p.who [] plans members → TiesHold p [] plans b r → TiesHold p [] plans b (fresh_member plan).running
  fresh_so b plans members plan None there is texts ties = seed_fresh p plans b plan is ties
  fresh_so b plans members plan (Some running) there is texts ties =
      seed_fresh p plans b plan is (record {
        seed = running.logons.plan;
        texts = seeded p.who [] plans members running there texts;
        together = stops (basis_of p unseen b) (marks_in b.sent) running.logons.channel running.logons.plan.secrets running.logons.plan.secrets (λ secret holds. holds) ties;
      })

  pub renewed_together : (n : ℕ) (end : EndId) (given : Given) (s : State) (b : Book) → HasHelp p n [] s given b → TogetherSo p [] s.member_plans s.ends.members b →
      TogetherSo p [] s.member_plans (renewed end s).ends.members b
  renewed_together n end given s b help together =
      renew_by (λ (one : EndId) (ends : EndStates). TogetherSo p [] s.member_plans ends.members b) s (λ one. together) (λ at c is. together)
      (λ at plan is.
      put_so at (fresh_member plan) [] [] s b b together
      (λ st same there ties.
      fresh_so b s.member_plans s.ends.members plan st.running there (subst (λ (k : ℕ). slice_get s.member_plans k ≡ Some plan) same is) help.texts ties)
      (λ r apart there ties. ties) help.there) (λ at plan is. together) end

  begun_so : (n : ℕ) (secret : List ℕ) (running : Running) (given : Given) (s : State) (b : Book) → HasHelp p n [] s given b → slice_get s.ends.members p.who ≡ Some (record { running = Some running }) →
      running.logons.plan.secrets.next ≡ None → TiesHold p [] s.member_plans b (Some running) → TiesHold p [] s.member_plans b (member_begun secret running).running
  begun_so n secret running given s b help is none ties =
      begun_ties (basis_of p unseen b) (marks_in b.sent) running.logons.channel running.logons.plan.secrets secret none
      (help.tries p.who (record { running = Some running }) is) ties

  pub changed_together : (n at : ℕ) (secret : List ℕ) (given : Given) (s : State) (b : Book) → HasHelp p n [] s given b → TogetherSo p [] s.member_plans s.ends.members b →
      TogetherSo p (given_by (Member at) (changed at secret s).actions ++ []) s.member_plans (changed at secret s).state.ends.members b
  changed_together n at secret given s b help together =
      by_change (λ (ends : EndStates) (actions : List Action). TogetherSo p (given_by (Member at) actions ++ []) s.member_plans ends.members b) at secret s.ends together
      (λ running is none.
      put_so at (member_begun secret running) (text_begun secret running) [] s b b together
      (λ st same there ties.
      let its : slice_get s.ends.members p.who ≡ Some (record { running = Some running }) = subst (λ (k : ℕ). slice_get s.ends.members k ≡ Some (record { running = Some running })) same is in
      begun_so n secret running given s b help its none (together (record { running = Some running }) its))
      (λ r apart there ties. ties) help.there)

  -- ---- bytes come at another member

  pub other_comes : (n : ℕ) (m : MemberState) (at : ℕ) (w : Delivery) (piece : List ℕ) (rest given : Given) (s after : State) (b : Book) → at ≢ p.who → n ≤ most_steps → Differ s.chances.drawn →
      CallsElsewhere (basis_of p unseen b) (marks_in (note_member (Some m) at w piece s after b).sent) (marks_in b.sent) → HasHelp p n rest s given b → TogetherSo p rest s.member_plans s.ends.members b →
      TogetherSo p (given_by (Member at) (member_step (Some m) at (event.Bytes w.link piece) s.moment s.ends s.chances).actions ++ rest) s.member_plans
      (member_step (Some m) at (event.Bytes w.link piece) s.moment s.ends s.chances).ends.members (note_member (Some m) at w piece s after b)
  other_comes n m at w piece rest given s after b apart few differ were help together =
      let now : Book = note_member (Some m) at w piece s after b in
      put_so at (step_of m (event.Bytes w.link piece) s.moment s.chances.left).state (actions_by (step_of m (event.Bytes w.link piece) s.moment s.chances.left).answer) rest s b now together
      (λ st same there ties. absurd (apart same)) (λ r differs there ties. rebook_hold rest s.member_plans b now r (sym (accepted_so.members m at w piece s after b))
      (sym (judged_so.members m at w piece s after b)) were (λ running is. help.named few differ running (there ∙ ap (λ (x : Option Running). Some (record { running = x })) is)) ties) help.there

  -- ---- bytes come at the member

  -- with marks of which each call was one before
  pub rebook_calls : (rest : Given) (plans : List MemberPlan) (b now : Book) (r : Option Running) → b.accepted ≡ now.accepted → b.judged ≡ now.judged → CallsWere (marks_in now.sent) (marks_in b.sent) →
      TiesHold p rest plans b r → TiesHold p rest plans now r
  rebook_calls rest plans b now None same alike were stopped = record {
    seed = stopped.seed;
    texts = stopped.texts;
    together = rebooked p unseen b.accepted now.accepted b.judged now.judged (marks_in now.sent) (marks_in now.sent) None stopped.seed.secrets same alike refl
        (alone_calls (basis_of p unseen b) (marks_in b.sent) (marks_in now.sent) stopped.seed.secrets were stopped.together);
  }
  rebook_calls rest plans b now (Some running) same alike were ties =
      rebooked p unseen b.accepted now.accepted b.judged now.judged (marks_in now.sent) (marks_in now.sent) (Some running) running.logons.plan.secrets same alike refl
      (marked (basis_of p unseen b) (marks_in b.sent) (marks_in now.sent) running.logons.channel running.logons.plan.secrets were ties)

  -- the marks that are written down
  abbrev pub marks_of_step : ℕ → MemberState → Delivery → List ℕ → State → State → List Mark
  marks_of_step at m w piece s after =
      marks_of w.link false (drop (length s.bag) after.bag) (asked_marks (OfMember at) s (turn_units m w.link piece s.moment s.chances.left))

  pub noted_marks : (at : ℕ) (m : MemberState) (w : Delivery) (piece : List ℕ) (s after : State) (b : Book) →
      marks_in (note_member (Some m) at w piece s after b).sent ≡ marks_in b.sent ++ marks_of_step at m w piece s after
  noted_marks at m w piece s after b =
      ap (λ (old : List Sent). marks_in (old ++ map (sent_at w.at) (marks_of_step at m w piece s after)))
      (turns_sent (OfMember at) w (turn_units m w.link piece s.moment s.chances.left) s after (note_messages at m w piece s b))
      ∙ marks_append b.sent (map (sent_at w.at) (marks_of_step at m w piece s after))
      ∙ ap (λ (marks : List Mark). marks_in b.sent ++ marks) (marks_sent w.at (marks_of_step at m w piece s after))

  -- on another link than that of its turn none is a request
  pub elsewhere_marks : (at : ℕ) (m : MemberState) (w : Delivery) (piece : List ℕ) (s after : State) (b : Book) → IsOther m.running w.link →
      CallsWere (marks_in (note_member (Some m) at w piece s after b).sent) (marks_in b.sent)
  elsewhere_marks at m w piece s after b other =
      let none : turn_units m w.link piece s.moment s.chances.left ≡ [] =
      ap (λ (served : List (ServedUnit AtTurn TurnTalk)). units_if_taken (step_of m (event.Bytes w.link piece) s.moment s.chances.left).answer served)
      (units_in_none m.running w.link piece s.chances.left other)
      ∙ if_none (step_of m (event.Bytes w.link piece) s.moment s.chances.left).answer in
      let new : List BagUnit = drop (length s.bag) after.bag in
      subst (λ (marks : List Mark). CallsWere marks (marks_in b.sent)) (sym (noted_marks at m w piece s after b))
      (subst (λ (served : List (ServedUnit AtTurn TurnTalk)). CallsWere (marks_in b.sent ++ marks_of w.link false new (asked_marks (OfMember at) s served)) (marks_in b.sent)) (sym none)
      (calls_before (marks_in b.sent) (marks_of w.link false new []) (none_marked w.link false new)))

  pub own_elsewhere : (n : ℕ) (m : MemberState) (w : Delivery) (piece : List ℕ) (rest given : Given) (s after : State) (b : Book) → IsOther m.running w.link → HasHelp p n rest s given b →
      n + 1 ≤ most_steps → Differ (s.chances.drawn ++ (step_of m (event.Bytes w.link piece) s.moment s.chances.left).drawn) → Told b → slice_get s.ends.members p.who ≡ Some m →
      TiesHold p rest s.member_plans b m.running →
      TiesHold p (given_by (Member p.who) (actions_by (step_of m (event.Bytes w.link piece) s.moment s.chances.left).answer) ++ rest) s.member_plans
      (note_member (Some m) p.who w piece s after b) (step_of m (event.Bytes w.link piece) s.moment s.chances.left).state.running
  own_elsewhere n m w piece rest given s after b other help few differ told is ties =
      rebook_calls (given_by (Member p.who) (actions_by (step_of m (event.Bytes w.link piece) s.moment s.chances.left).answer) ++ rest) s.member_plans b (note_member (Some m) p.who w piece s after b)
      (step_of m (event.Bytes w.link piece) s.moment s.chances.left).state.running (sym (accepted_so.members m p.who w piece s after b)) (sym (judged_so.members m p.who w piece s after b))
      (elsewhere_marks p.who m w piece s after b other)
      (own_other n rest given s b m.running (event.Bytes w.link piece) help few differ told is (other_none m.running w.link piece other) ties)

  -- one whole unit is taken on it: what is to be known of what the member takes
  abbrev pub OwnKnown : (n : ℕ) (w : Delivery) (piece : List ℕ) (s after : State) (b : Book) (running : Running) → IsWhole w.link piece running → Type 0
  OwnKnown n w piece s after b running whole =
      TurnStands (basis_of p (views_at s.member_plans s.ends) b) (marks_in b.sent) s.chances.drawn (2 * n) running.logons.channel running.logons.plan.secrets →
      KnownIf (event_part running (event.Bytes w.link piece) s.moment s.chances.left)
      (TakenKnown (basis_of p (views_at s.member_plans s.ends) b) (marks_in b.sent) (marks_of_step p.who (record { running = Some running }) w piece s after) running.logons.channel
      running.logons.plan.secrets s.chances.drawn (2 * n) whole.unit)

  pub own_whole : (n : ℕ) (w : Delivery) (piece : List ℕ) (rest given : Given) (s after : State) (b : Book) (running : Running) (whole : IsWhole w.link piece running) →
      IsAtSide s.links w.link w.back (Member p.who) → CameFrom w.source s w piece → length b.sent ≡ length s.bag → OwnKnown n w piece s after b running whole → SuitSide base n s given b →
      HasHelp p n rest s given b → n + 1 ≤ most_steps → Differ (s.chances.drawn ++ (step_of (record { running = Some running }) (event.Bytes w.link piece) s.moment s.chances.left).drawn) →
      Told (note_member (Some (record { running = Some running })) p.who w piece s after b) → slice_get s.ends.members p.who ≡ Some (record { running = Some running }) →
      TiesHold p rest s.member_plans b (Some running) →
      TiesHold p (given_by (Member p.who) (actions_by (step_of (record { running = Some running }) (event.Bytes w.link piece) s.moment s.chances.left).answer) ++ rest) s.member_plans
      (note_member (Some (record { running = Some running })) p.who w piece s after b)
      (step_of (record { running = Some running }) (event.Bytes w.link piece) s.moment s.chances.left).state.running
  own_whole n w piece rest given s after b running whole here came even known suited help few differ told is ties =
      let m : MemberState = record { running = Some running } in
      let what : Event = event.Bytes w.link piece in
      let now : Book = note_member (Some m) p.who w piece s after b in
      let its : ℕ = controller_asked (OfMember p.who) s in
      let views : ℕ → Option View = views_at s.member_plans s.ends in
      let more : List Mark = marks_of_step p.who m w piece s after in
      let c : Requester = running.logons.channel in
      let part : Result (Part DialWork) StepRefused = event_part running what s.moment s.chances.left in
      let before : Differ s.chances.drawn = differ_front s.chances.drawn (step_of m what s.moment s.chances.left).drawn differ in
      let told_was : Told b = told_before b now (member_earlier m p.who w piece s after b) told in
      let stands = stands_at n rest given s b help few before told_was running is ties in
      let placed : PlacedBy part (taking_note (Some (take_of c whole.unit)) p.controller c) more =
      subst (λ (k : ℕ). PlacedBy part (taking_note (Some (take_of c whole.unit)) k c) more) help.asks
      (placed_part its (turn n p.who w piece s after b running whole) whole.unit part w.link (drop (length s.bag) after.bag) s.chances.left
      (served n p.who w piece s after b running whole) (units_whole n p.who w piece s after b running whole)) in
      let suits : SuitsIfTaken part (asked base b.accepted) p.who (effect_of_take p.controller c whole.unit) =
      subst (λ (k : ℕ). SuitsIfTaken part (asked base b.accepted) p.who (effect_of_take k c whole.unit)) help.asks
      (all_suit base n p.who w piece s after given b running whole is here came even (its_calls n rest given s b help few before told_was) suited told
      (help.order (omega (arith, few)) before told_was)) in
      own_gives p rest s.member_plans now running.logons.plan s.chances.left part (seeded p.who rest s.member_plans s.ends.members running is help.texts)
      (rebooked p unseen b.accepted now.accepted b.judged now.judged (marks_in b.sent ++ more) (marks_in now.sent) (step_of m what s.moment s.chances.left).state.running
      running.logons.plan.secrets (sym (accepted_so.members m p.who w piece s after b)) (sym (judged_so.members m p.who w piece s after b)) (sym (noted_marks p.who m w piece s after b))
      (hidden_by views b.accepted b.judged (marks_in b.sent ++ more) (step_of m what s.moment s.chances.left).state.running running.logons.plan.secrets
      (whole_ties (basis_of p views b) (marks_in b.sent) more s.chances.drawn (2 * n) (omega (arith, few)) running w.link whole.said piece whole.frames whole.unit s.moment s.chances.left
      whole.on whole.rest whole.none whole.heard running.logons.plan.secrets placed suits (known stands) (λ secret holds. holds) stands differ)))

  -- ---- bytes come at a controller

  carry : (r q : Requests ℕ) (accepted : List ChannelAccepted) (judged : List Judging) (held : SecretsState) (out : Option ℕ) → ((v : View) → q.views p.who ≡ Some v → r.views p.who ≡ Some v) →
      CallsWere q.marks r.marks → TogetherNow p r accepted judged held out → TogetherNow p q accepted judged held out
  carry r q accepted judged held out seen were t = record {
    among = t.among;
    kept = t.kept;
    taken = t.taken;
    sets = λ unit number timestamp c kept secret there. t.sets unit number timestamp c kept secret (were unit number timestamp c there);
    opens = λ v challenge at. t.opens v challenge (seen v at);
    asked = t.asked;
  }

  module _ (n at : ℕ) (c : ControllerState) (w : Delivery) (piece : List ℕ) (s after : State) (b : Book) where
    abbrev pub noted : Book
    noted = note_controller (Some c) at w piece s after b

    abbrev pub its_items : List ChannelAccepted
    its_items = accepted_of (answers_of at c w piece s) (numbers_on w.link true s.bag after.bag)

    abbrev pub its_judgings : List Judging
    its_judgings = judged_of (answers_of at c w piece s) (numbers_on w.link true s.bag after.bag)

    abbrev pub its_requests : Requests ℕ
    its_requests = requests_at n s.member_plans s.ends s.chances.drawn noted.sent

    -- the member's call that is out
    pub record IsOutOf (unit : ℕ) : Type 0 where
      pub running : Running
      pub is : slice_get s.ends.members p.who ≡ Some (record { running = Some running })
      pub ties : Ties (basis_of p unseen b) (marks_in b.sent) running.logons.channel running.logons.plan.secrets
      pub out : ties.out ≡ Some unit

    -- what is to be known of what it accepts and judges
    abbrev pub ControllerKnown : Type 0
    ControllerKnown =
        (held : SecretsState) (out : Option ℕ) → ((unit : ℕ) → out ≡ Some unit → IsOutOf unit) →
        AllByRecursion (HasHash p its_requests held out b.judged) its_items × AllJudgedSo p its_requests held out (onto its_items b.accepted) its_judgings b.judged

    -- what it answers are no calls
    none_asked : NoRequests (marks_in (map (sent_at w.at) (marks_of w.link true (drop (length s.bag) after.bag) (answered_marks (answers_of at c w piece s)))))
    none_asked =
        let marks : List Mark = answered_marks (answers_of at c w piece s) in
        no_requests_sent w.at (marks_of w.link true (drop (length s.bag) after.bag) marks)
        (no_requests_marked w.link true (drop (length s.bag) after.bag) marks
        (all_weaker (λ (mark : Mark). IsItsWay true mark) IsNoRequest marks reply_no_request
        (answers_way w.link (at_controller at c w s) (units_of_controller c w.link piece s.moment s.chances.left))))

    pub calls_were : CallsWere (marks_in noted.sent) (marks_in b.sent)
    calls_were =
        subst (λ (marks : List Mark). CallsWere marks (marks_in b.sent)) (sym (marks_append b.sent _)) (calls_before (marks_in b.sent) _ none_asked)

    module _ (rest given : Given) (came : CameFrom w.source s w piece) (even : length b.sent ≡ length s.bag) (help : HasHelp p n rest s given b) (few : n + 1 ≤ most_steps)
        (differ : Differ s.chances.drawn) (told : Told noted) (known : ControllerKnown) where
      told_was : Told b
      told_was = told_before b noted (controller_earlier c at w piece s after b even) told

      all_apart : CallsAreApart its_requests
      all_apart = (sent_more n s.member_plans s.ends s.chances.drawn s.links b.sent _ b.messages none_asked (its_calls n rest given s b help few differ told_was)).apart

      in_order : InOrder its_requests (asked base b.accepted)
      in_order = order_sent n s.member_plans s.ends s.chances.drawn b.sent _ (asked base b.accepted) none_asked (help.order (omega (arith, few)) differ told_was)

      together_on : (held : SecretsState) (out : Option ℕ) → ((unit : ℕ) → out ≡ Some unit → IsOutOf unit) → TogetherNow p its_requests b.accepted b.judged held out →
          TogetherNow p its_requests noted.accepted noted.judged held out
      together_on held out is together =
          let fits = known held out is in
          let accepted = accepts_all p its_requests held out its_items b.accepted b.judged told.once (items_made base n c at w piece s after b came even told) fits.0 in_order together in
          judges_all p its_requests held out its_judgings b.judged (onto its_items b.accepted) fits.1 all_apart accepted.0 accepted.1

      hold_on : (r : Option Running) → slice_get s.ends.members p.who ≡ Some (record { running = r }) → TiesHold p rest s.member_plans b r → TiesHold p rest s.member_plans noted r
      hold_on None is stopped =
          let none : its_requests.views p.who ≡ None = ap (λ (x : Option MemberState). seen_member (controller_of_plan (slice_get s.member_plans p.who) s.ends) x) is in
          record {
            seed = stopped.seed;
            texts = stopped.texts;
            together = carry its_requests (nobody (marks_in noted.sent)) noted.accepted noted.judged stopped.seed.secrets None (λ v at. absurd (no_some v at)) (λ unit number timestamp d there. there)
                (together_on stopped.seed.secrets None (λ unit out. absurd (no_some unit out))
                (carry (nobody (marks_in b.sent)) its_requests b.accepted b.judged stopped.seed.secrets None (λ v at. absurd (no_some v (sym none ∙ at))) calls_were stopped.together));
          }
      hold_on (Some running) is ties =
          let channel : Requester = running.logons.channel in
          let secrets : SecretsState = running.logons.plan.secrets in
          let old = basis_of p unseen b in
          let v : View = view_of p.controller channel in
          let seen : its_requests.views p.who ≡ Some v = (before_step n rest given s b help few differ told_was running is).at in
          record {
            coherent = ties.coherent;
            out = ties.out;
            waits = waits_on (step_in channel.turn) (number_in channel.turn) (stands_in p.controller channel.caller.computer channel.standing) (marks_in b.sent) (marks_in noted.sent) ties.out calls_were
                ties.waits;
            together = carry its_requests (seen_with unseen p.who v (marks_in noted.sent) [] 0) noted.accepted noted.judged secrets ties.out
                (λ u at. seen ∙ ap (λ (x : View). Some x) (seen_own old v u at)) (λ unit number timestamp d there. there)
                (together_on secrets ties.out (λ unit out. record { running = running; is = is; ties = ties; out = out })
                (carry (seen_with unseen p.who v (marks_in b.sent) [] 0) its_requests b.accepted b.judged secrets ties.out
                (λ u at. own_seen old v ∙ sym seen ∙ at) calls_were ties.together));
          }

      pub controller_comes : TogetherSo p rest s.member_plans s.ends.members b →
          TogetherSo p (given_by (Controller at) (controller_step (Some c) at (event.Bytes w.link piece) s.moment s.ends s.chances).actions ++ rest) s.member_plans s.ends.members noted
      controller_comes together st there =
          other_gives p (Controller at) (controller_step (Some c) at (event.Bytes w.link piece) s.moment s.ends s.chances).actions rest s.member_plans noted st.running refl
          (hold_on st.running there (together st there))
