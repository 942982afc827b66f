-- After every run the seed of the open channel of each that asks for a trust is that of its turns on it, and so it is
-- of each requester. It serves `Proved.own`.
use Rattle.std.proofs.Common.{◌≡◌, ◌≢◌, ℕ, zero, suc, ◌+◌, ◌≤◌, ◌==◌, ◌&&◌, Bool, true, false, List, [], ◌∷◌, ◌++◌, length, inl, inr, Option, Some, None, slice_get, slice_set, refl, sym, ap, subst, ◌∙◌, arith}
use Rattle.std.proofs.lemmas.Bool.{false_from_ne_true}
use Rattle.std.proofs.lemmas.Bool.Decides.{Decides-eqb}
use Rattle.std.proofs.lemmas.List.{append-nil, length-set}
use Rattle.std.proofs.lemmas.List.Elements.{filter-append}
use Rattle.outside.specs.declared.action.Action.{Action}
use Rattle.outside.specs.declared.action.Action.TheVariants.{Keep, Send, Dial, Close, Told, Judged}
use Rattle.outside.specs.declared.event.Event.{Event}
use Rattle.outside.specs.declared.event.Event.TheVariants as event
use Rattle.account_table.specs.AccountTable.{AccountTable}
use Rattle.account_table.specs.declared.account.Trust.{Trust}
use Rattle.channel_client.specs.Effects.{view_of}
use Rattle.channel_client.specs.State.{Requester}
use Rattle.channel_events.specs.Seeds.{channel_seed}
use Rattle.channel_client.proofs.EffectLaws.{steps_have_effects}
use Rattle.domain_controller.specs.State.{State as ControllerState}
use Rattle.domain_controller.specs.TrustStep.{trust_step_of as step_of, trust_step_on}
use Rattle.domain_controller.specs.declared.state.Running.{Running}
use Rattle.domain_controller.specs.declared.trusting.Trusting.{Trusting}
use Rattle.domain_controller.proofs.SettingLaws.{hashes_are_set}
use Rattle.logon_client.specs.Machine.{begin_of, fresh_client}
use Rattle.member_server.specs.Dials.{IsWaiting, dial_of, dials_in}
use Rattle.member_server.specs.Machine.{fresh_member}
use Rattle.step_notes.specs.MemberNotes.{turn_if, turn_of}
use Rattle.step_notes.specs.Records.{ChannelTurn, OfMember, OfTrust, RequesterId, same_requester}
use Rattle.world_moves.specs.declared.links.EndId.{EndId}
use Rattle.world_moves.specs.declared.links.EndId.TheVariants.{Client, Controller, Member, Station}
use Rattle.world_moves.specs.declared.moves.Move.{Move}
use Rattle.world_moves.specs.declared.plan.Plan.{Plan}
use Rattle.world_moves.specs.declared.state.State.{State}
use Rattle.world_moves.specs.declared.state.WaitingDial.{WaitingDial}
use Rattle.world_moves.specs.Acting.{Given, forget, given_by}
use Rattle.world_moves.specs.Ends.{EndStates, EndStep, actions_by, fresh_controller, with_client, with_member}
use Rattle.world_moves.specs.Links.{same_end}
use Rattle.world_moves.specs.Moving.{end_of_peer}
use Rattle.world_moves.specs.Plain.{IsPlainPlan, hear_plain as hear, plain_world, renewed_plain as renewed}
use Rattle.world_moves.proofs.ChangeLaws.{by_change, member_begun, text_begun}
use Rattle.world_moves.proofs.PlainKindLaws.{plain_by as step_by, renew_plain_by as renew_by}
use Rattle.domain_world.specs.Accepting.SeenSteps.{Differ}
use Rattle.domain_world.specs.Claims.SharedSequences.{ChannelStands, SequenceIsOwn, SequencesAreOwn, timestamps_on}
use Rattle.domain_world.specs.Past.{asker_of, controller_asked, controller_number, controller_of_trust, past, requester_at, running_in, trust_asker, trust_asker_on, trust_in, turn_at, turn_for_trust, turns_by, turns_in}
use Rattle.domain_world.proofs.Calls.CallHoldsLaws.{SameNumbers, differ_front, peer_same}
use Rattle.domain_world.proofs.Frames.MoveKeepLaws.{every}
use Rattle.domain_world.proofs.Messages.MessageOnceLaws.{each_put}
use Rattle.domain_world.proofs.Moves.DrawnRunLaws.{draws_differ}
use Rattle.domain_world.proofs.Moves.FreshTrustLaws.{IsUnused, first_unused, fresh_unused}
use Rattle.domain_world.proofs.Sequences.DialCountLaws.{answered_dials, counted, dials_out, given_append, given_dials, given_other, given_own, none_counted, one_if}
use Rattle.domain_world.proofs.Sequences.DialWalkLaws.{AtState, DialFact, KeepsDials, dials_after}
use Rattle.domain_world.proofs.Sequences.Own.OwnFrameLaws.{StillDrawn, answers_less, still_drawn}
use Rattle.domain_world.proofs.Sequences.Own.OwnRunLaws.{if_mine, kept_if, members_own, of_member, seed_turned, times_drawn, times_more}
use Rattle.domain_world.proofs.Sequences.Own.OwnTurnLaws.{Answers, AreDrawn, both_drawn, mine, no_times, none_of, times, turn_drawn, waits_case}
use Rattle.domain_world.proofs.Sequences.Own.TrustStepLaws.{AskersIf, AskerTurned, EachTurned, dialled, each_later, free_on, none_dialled, waits_on}
use Rattle.domain_world.proofs.Sequences.SeedTurnLaws.{Turned, drawn_still, turned_blank}
use Rattle.domain_world.proofs.Sequences.TrustDialLaws.{OnceUnlessStopped, StaysUnlessStopped, dial_stays, dials_once}
use Rattle.domain_world.proofs.Sequences.TrustTurnLaws.{OutIf, TrustTurn, TrustsHold, controllers_first, trusts_keep}
use Rattle.wire_base.proofs.ListLaws.{no_some, some_is}

-- ---- what is known

-- one dial of the controller was given at most in this move, which wasn't answered then
abbrev GivenIf : ℕ → Option EndId → Given → Option Running → Trusting → Type 0
GivenIf at d given None t = Unit {0}
GivenIf at d given (Some running) t =
    (given_dials (Controller at) given ≤ 1) × (1 ≤ given_dials (Controller at) given → IsWaiting t.dialling × (answered_dials (Controller at) d ≡ 0))

record OwnTrust (at : ℕ) (asked : ℕ → ℕ) (d : Option EndId) (given : Given) (drawn : List (List ℕ)) (turns : List ChannelTurn) (c : ControllerState) : Type 0 where
  given_so : GivenIf at d given c.running c.trusting
  askers : AskersIf at asked (given_dials (Controller at) given) drawn turns c.running c.trusting

-- the controller that is asked for a trust, by the ends alone
abbrev asked_for : EndStates → ℕ → ℕ → ℕ
asked_for ends at trust = controller_of_trust (trust_in trust (slice_get ends.controllers at)) ends

-- Each asks the same controller at all times. The turns for trusts that are written down were on channels whose
-- client's challenge was drawn, and `OwnTrust` is known of each controller.
record OwnTrusts (asked : ℕ → ℕ → ℕ) (d : Option EndId) (ends : EndStates) (drawn : List (List ℕ)) (given : Given) (turns : List ChannelTurn) : Type 0 where
  same : (at trust : ℕ) → asked_for ends at trust ≡ asked at trust
  before : (at trust : ℕ) → AreDrawn drawn (mine (OfTrust at trust) turns)
  each : (at : ℕ) (c : ControllerState) → slice_get ends.controllers at ≡ Some c → OwnTrust at (asked at) d given drawn turns c

-- with what is known of dials
abbrev TrustsOwn : (ℕ → ℕ → ℕ) → DialFact
TrustsOwn asked d rest plans ends dials chances given turns =
    TrustsHold d rest plans ends dials chances given turns × (Differ chances.drawn → OwnTrusts asked d ends chances.drawn given turns)

-- ---- which controller is asked

trust_same : (entry : Option Trust) (ends later : EndStates) → SameNumbers ends later → controller_of_trust entry later ≡ controller_of_trust entry ends
trust_same None ends later same = same.controllers
trust_same (Some trust) ends later same =
    ap (λ (n : ℕ). controller_number (end_of_peer trust.address later) n) same.controllers
    ∙ ap (λ (end : Option EndId). controller_number end (length ends.controllers)) (peer_same trust.address ends later same)

-- one controller is another, over a table that trusts the same domains
trust_put : (controllers : List ControllerState) (j at trust : ℕ) (c new : ControllerState) → slice_get controllers at ≡ Some c → new.table.trusts ≡ c.table.trusts →
    trust_in trust (slice_get (slice_set controllers at new) j) ≡ trust_in trust (slice_get controllers j)
trust_put [] j at trust c new is same = absurd (no_some c is)
trust_put (first ∷ controllers) zero zero trust c new is same =
    ap (λ (trusts : List Trust). slice_get trusts trust) (same ∙ ap (λ (one : ControllerState). one.table.trusts) (sym (some_is first c is)))
trust_put (first ∷ controllers) (suc j) zero trust c new is same = refl
trust_put (first ∷ controllers) zero (suc at) trust c new is same = refl
trust_put (first ∷ controllers) (suc j) (suc at) trust c new is same = trust_put controllers j at trust c new is same

controllers_put : (ends : EndStates) (at : ℕ) (c new : ControllerState) → slice_get ends.controllers at ≡ Some c → new.table.trusts ≡ c.table.trusts → (j trust : ℕ) →
    asked_for (record ends { controllers = slice_set ends.controllers at new }) j trust ≡ asked_for ends j trust
controllers_put ends at c new is same j trust =
    let later : EndStates = record ends { controllers = slice_set ends.controllers at new } in
    trust_same (trust_in trust (slice_get later.controllers j)) ends later
    (record { controllers = length-set ends.controllers at new; members = refl; clients = refl; stations = refl })
    ∙ ap (λ (entry : Option Trust). controller_of_trust entry ends) (trust_put ends.controllers j at trust c new is same)

-- ---- a controller that takes no step

given_same : (at : ℕ) (d later : Option EndId) (given more : Given) (r : Option Running) (t : Trusting) → answered_dials (Controller at) later ≤ answered_dials (Controller at) d →
    given_dials (Controller at) more ≡ given_dials (Controller at) given → GivenIf at d given r t → GivenIf at later more r t
given_same at d later given more None t less count old = tt
given_same at d later given more (Some running) t less count old = (
  omega (arith, count, old.0),
  (λ some. let was = old.1 (omega (arith, count, some)) in (was.0, omega (arith, less, was.1))),
)

askers_same : (at : ℕ) (asked : ℕ → ℕ) (count more : ℕ) (drawn later : List (List ℕ)) (turns : List ChannelTurn) (r : Option Running) (t : Trusting) → more ≡ count → StillDrawn drawn later →
    AskersIf at asked count drawn turns r t → AskersIf at asked more later turns r t
askers_same at asked count more drawn later turns None t same still old = tt
askers_same at asked count more drawn later turns (Some running) t same still old =
    subst (λ (n : ℕ). EachTurned at asked t.turn_of n later turns t.queues.requesters) (sym same) (each_later at asked t.turn_of count drawn later turns t.queues.requesters still old)

own_same : (at : ℕ) (asked : ℕ → ℕ) (d e : Option EndId) (given more : Given) (drawn later : List (List ℕ)) (turns : List ChannelTurn) (c : ControllerState) →
    answered_dials (Controller at) e ≤ answered_dials (Controller at) d → given_dials (Controller at) more ≡ given_dials (Controller at) given → StillDrawn drawn later →
    OwnTrust at asked d given drawn turns c → OwnTrust at asked e more later turns c
own_same at asked d e given more drawn later turns c less count still old = record {
  given_so = given_same at d e given more c.running c.trusting less count old.given_so;
  askers = askers_same at asked (given_dials (Controller at) given) (given_dials (Controller at) more) drawn later turns c.running c.trusting count still old.askers;
}

-- ---- a controller that takes a step

module _ (at : ℕ) (asked : ℕ → ℕ) (c : ControllerState) (what : Event) (now : ℕ) (left : List (List ℕ)) (drawn : List (List ℕ)) (turns : List ChannelTurn) (given : Given) where
  abbrev step_actions : List Action
  step_actions = actions_by (step_of c what now left).answer

  abbrev more_given : Given
  more_given = given ++ given_by (Controller at) step_actions

  count_more : given_dials (Controller at) more_given ≡ given_dials (Controller at) given + dials_in step_actions
  count_more =
      omega (arith, given_append (Controller at) given (given_by (Controller at) step_actions), given_own (Controller at) (Controller at) step_actions ((Decides-eqb at at).1 refl))

  -- while the dial waits
  waits_own : (r : Option Running) (t : Trusting) (d : Option EndId) (running : Running) (later : List (List ℕ)) → GivenIf at d given (Some running) c.trusting →
      StaysUnlessStopped c.trusting.dialling r step_actions t → AskersIf at asked (given_dials (Controller at) given) later turns r t →
      GivenIf at d more_given r t × AskersIf at asked (given_dials (Controller at) more_given) later turns r t
  waits_own None t d running later old stays askers = (tt, tt)
  waits_own (Some next) t d running later old stays askers =
      let same : given_dials (Controller at) more_given ≡ given_dials (Controller at) given = omega (arith, count_more, stays.0) in (
        (
          omega (arith, same, old.0),
          (λ some. let was = old.1 (omega (arith, same, some)) in (subst IsWaiting (sym stays.1) was.0, was.1)),
        ),
        askers_same at asked (given_dials (Controller at) given) (given_dials (Controller at) more_given) later later turns (Some next) t same (λ challenge is. is) askers,
      )

  -- a turn may start
  free_own : (r : Option Running) (t : Trusting) (e : Option EndId) (later : List (List ℕ)) → given_dials (Controller at) given ≡ 0 → answered_dials (Controller at) e ≡ 0 →
      OnceUnlessStopped r step_actions t → AskersIf at asked (dials_in step_actions) later turns r t →
      GivenIf at e more_given r t × AskersIf at asked (given_dials (Controller at) more_given) later turns r t
  free_own None t e later none answered once askers = (tt, tt)
  free_own (Some next) t e later none answered once askers =
      let same : given_dials (Controller at) more_given ≡ dials_in step_actions = omega (arith, count_more, none) in (
        (omega (arith, same, once.0), (λ some. (once.1 (omega (arith, same, some)), answered))),
        askers_same at asked (dials_in step_actions) (given_dials (Controller at) more_given) later later turns (Some next) t same (λ challenge is. is) askers,
      )

  abbrev After : Option EndId → Option Running → Trusting → List (List ℕ) → Type 0
  After e r t later = GivenIf at e more_given r t × AskersIf at asked (given_dials (Controller at) more_given) later turns r t

  module _ (all_drawn : (trust : ℕ) → AreDrawn drawn (mine (OfTrust at trust) turns)) where
    free_step : (running : Running) (e : Option EndId) → c.running ≡ Some running → given_dials (Controller at) given ≡ 0 → answered_dials (Controller at) e ≡ 0 →
        AskersIf at asked (given_dials (Controller at) given) drawn turns (Some running) c.trusting → Differ (drawn ++ (step_of c what now left).drawn) →
        After e (step_of c what now left).state.running (step_of c what now left).state.trusting (drawn ++ (step_of c what now left).drawn)
    free_step running e is none answered askers differ =
        let step = step_of c what now left in
        free_own step.state.running step.state.trusting e (drawn ++ step.drawn) none answered (dials_once c what now left)
        (subst
        (λ (r : Option Running).
        let one = trust_step_on r c what now left in
        Differ (drawn ++ one.drawn) → AskersIf at asked (dials_in (actions_by one.answer)) (drawn ++ one.drawn) turns one.state.running one.state.trusting) (sym is)
        (λ differs.
        free_on at asked drawn turns all_drawn running c what now left (subst (λ (n : ℕ). AskersIf at asked n drawn turns (Some running) c.trusting) none askers) differs) differ)

    running_own : (running : Running) (d e : Option EndId) (rest : Given) (dials : List WaitingDial) → c.running ≡ Some running → Answers (Controller at) what d e rest →
        OutIf at d rest dials (Some running) c.trusting → GivenIf at d given (Some running) c.trusting →
        AskersIf at asked (given_dials (Controller at) given) drawn turns (Some running) c.trusting → Differ (drawn ++ (step_of c what now left).drawn) →
        After e (step_of c what now left).state.running (step_of c what now left).state.trusting (drawn ++ (step_of c what now left).drawn)
    running_own running d e rest dials is answers out given_so askers differ =
        let step = step_of c what now left in
        elim answers [
          | inl quiet ↦
              elim (waits_case c.trusting.dialling) [
                | inl waits ↦
                    subst (λ (one : Option EndId). After one step.state.running step.state.trusting (drawn ++ step.drawn)) (sym quiet.1)
                    (waits_own step.state.running step.state.trusting d running (drawn ++ step.drawn) given_so (dial_stays c what now left quiet.0 waits)
                    (subst
                    (λ (r : Option Running).
                    let one = trust_step_on r c what now left in
                    AskersIf at asked (given_dials (Controller at) given) (drawn ++ one.drawn) turns one.state.running one.state.trusting) (sym is)
                    (waits_on at asked drawn turns running (given_dials (Controller at) given) c what now left quiet.0 waits askers)))
                | inr not_so ↦
                    let none_out : dials_out (Controller at) d rest dials ≡ 0 = none_of (dials_out (Controller at) d rest dials) out.0 (λ some. not_so (out.1 some)) in
                    let answered : answered_dials (Controller at) d ≡ 0 = omega (arith, none_out) in
                    free_step running e is (none_of (given_dials (Controller at) given) given_so.0 (λ some. not_so (given_so.1 some).0))
                    (ap (λ (one : Option EndId). answered_dials (Controller at) one) quiet.1 ∙ answered) askers differ
              ]
          | inr answered ↦
              let itself : same_end (Controller at) (Controller at) ≡ true = (Decides-eqb at at).1 refl in
              let one : answered_dials (Controller at) d ≡ 1 = ap (λ (end : Option EndId). answered_dials (Controller at) end) answered.0 ∙ ap one_if itself in
              free_step running e is (none_of (given_dials (Controller at) given) given_so.0 (λ some. absurd (omega (arith, (given_so.1 some).1, one))))
              (ap (λ (end : Option EndId). answered_dials (Controller at) end) answered.1) askers differ
        ]

    -- one that had stopped does nothing
    by_running : (r : Option Running) (d e : Option EndId) (rest : Given) (dials : List WaitingDial) → c.running ≡ r → Answers (Controller at) what d e rest → OutIf at d rest dials r c.trusting →
        GivenIf at d given r c.trusting → AskersIf at asked (given_dials (Controller at) given) drawn turns r c.trusting → Differ (drawn ++ (step_of c what now left).drawn) →
        After e (step_of c what now left).state.running (step_of c what now left).state.trusting (drawn ++ (step_of c what now left).drawn)
    by_running None d e rest dials is answers out given_so askers differ =
        let still : (step_of c what now left).state.running ≡ None = ap (λ (r : Option Running). (trust_step_on r c what now left).state.running) is ∙ is in
        subst (λ (r : Option Running). After e r (step_of c what now left).state.trusting (drawn ++ (step_of c what now left).drawn)) (sym still) (tt, tt)
    by_running (Some running) d e rest dials is answers out given_so askers differ = running_own running d e rest dials is answers out given_so askers differ

    own_step : (d e : Option EndId) (rest : Given) (dials : List WaitingDial) → Answers (Controller at) what d e rest → TrustTurn at d rest dials c → OwnTrust at asked d given drawn turns c →
        Differ (drawn ++ (step_of c what now left).drawn) → OwnTrust at asked e more_given (drawn ++ (step_of c what now left).drawn) turns (step_of c what now left).state
    own_step d e rest dials answers turn old differ =
        let after = by_running c.running d e rest dials refl answers turn.out old.given_so old.askers differ in
        record { given_so = after.0; askers = after.1 }

-- ---- an end hears something

differ_ends : (one other : ℕ) → one ≢ other → (one == other) ≡ false
differ_ends one other differ = false_from_ne_true (one == other) (λ is. differ ((Decides-eqb one other).0 is))

module _ (asked : ℕ → ℕ → ℕ) (d later : Option EndId) (rest : Given) (given : Given) (turns : List ChannelTurn) (s : State)
    (holds : TrustsHold d rest s.member_plans s.ends s.dials s.chances given turns) (known : Differ s.chances.drawn → OwnTrusts asked d s.ends s.chances.drawn given turns)
    (less : (at : ℕ) → answered_dials (Controller at) later ≤ answered_dials (Controller at) d) where
  -- an end that is no controller
  others_own : (end : EndId) (ends : EndStates) (drawn more : List (List ℕ)) (actions : List Action) → drawn ≡ s.chances.drawn ++ more → ends.controllers ≡ s.ends.controllers → SameNumbers s.ends ends →
      ((at : ℕ) → same_end end (Controller at) ≡ false) → Differ drawn → OwnTrusts asked later ends drawn (given ++ given_by end actions) turns
  others_own end ends drawn more actions draws controllers numbers other differ =
      let old : OwnTrusts asked d s.ends s.chances.drawn given turns = known (differ_front s.chances.drawn more (subst Differ draws differ)) in
      let still : StillDrawn s.chances.drawn drawn =
      subst (λ (all : List (List ℕ)). StillDrawn s.chances.drawn all) (sym draws) (λ challenge was. drawn_still challenge s.chances.drawn more was) in
      record {
        same = λ at trust.
            trust_same (trust_in trust (slice_get ends.controllers at)) s.ends ends numbers
            ∙ ap (λ (all : List ControllerState). controller_of_trust (trust_in trust (slice_get all at)) s.ends) controllers ∙ old.same at trust;
        before = λ at trust. still_drawn s.chances.drawn drawn (mine (OfTrust at trust) turns) still (old.before at trust);
        each = λ at c there.
            own_same at (asked at) d later given (given ++ given_by end actions) s.chances.drawn drawn turns c (less at)
            (omega (arith, given_append (Controller at) given (given_by end actions), given_other (Controller at) end actions (other at))) still
            (old.each at c (subst (λ (all : List ControllerState). slice_get all at ≡ Some c) controllers there));
      }

  controller_own : (at : ℕ) (c : ControllerState) (what : Event) → slice_get s.ends.controllers at ≡ Some c → Answers (Controller at) what d later rest →
      let step = step_of c what s.moment s.chances.left in
      Differ (s.chances.drawn ++ step.drawn) →
      OwnTrusts asked later (record s.ends { controllers = slice_set s.ends.controllers at step.state }) (s.chances.drawn ++ step.drawn)
      (given ++ given_by (Controller at) (actions_by step.answer)) turns
  controller_own at c what is answers differ =
      let step = step_of c what s.moment s.chances.left in
      let drawn : List (List ℕ) = s.chances.drawn ++ step.drawn in
      let more : Given = given ++ given_by (Controller at) (actions_by step.answer) in
      let old : OwnTrusts asked d s.ends s.chances.drawn given turns = known (differ_front s.chances.drawn step.drawn differ) in
      let still : StillDrawn s.chances.drawn drawn = λ challenge was. drawn_still challenge s.chances.drawn step.drawn was in
      record {
        same = λ j trust. controllers_put s.ends at c step.state is (hashes_are_set.trusting c what s.moment s.chances.left).states.trusts j trust ∙ old.same j trust;
        before = λ j trust. still_drawn s.chances.drawn drawn (mine (OfTrust j trust) turns) still (old.before j trust);
        each = each_put (λ (k : ℕ) (one : ControllerState). OwnTrust k (asked k) later more drawn turns one) s.ends.controllers at step.state
            (λ k one differs there.
            own_same k (asked k) d later given more s.chances.drawn drawn turns one (less k)
            (omega (
              arith,
              given_append (Controller k) given (given_by (Controller at) (actions_by step.answer)),
              given_other (Controller k) (Controller at) (actions_by step.answer)
                  (differ_ends at k (λ same. differs (sym same))),
            )) still (old.each k one there))
            (own_step at (asked at) c what s.moment s.chances.left s.chances.drawn turns given (old.before at) d later rest s.dials answers (holds at c is) (old.each at c is) differ);
      }

later_own : (asked : ℕ → ℕ → ℕ) (d e : Option EndId) (ends : EndStates) (drawn : List (List ℕ)) (given more : Given) (turns : List ChannelTurn) →
    ((at : ℕ) → answered_dials (Controller at) e ≤ answered_dials (Controller at) d) → ((at : ℕ) → given_dials (Controller at) more ≡ given_dials (Controller at) given) →
    OwnTrusts asked d ends drawn given turns → OwnTrusts asked e ends drawn more turns
later_own asked d e ends drawn given more turns less count old = record {
  same = old.same;
  before = old.before;
  each = λ at c there. own_same at (asked at) d e given more drawn drawn turns c (less at) (count at) (λ challenge is. is) (old.each at c there);
}

-- an end that isn't there, or whose step leaves the ends as they are
none_own : (asked : ℕ → ℕ → ℕ) (d later : Option EndId) (given : Given) (turns : List ChannelTurn) (s : State) → (Differ s.chances.drawn → OwnTrusts asked d s.ends s.chances.drawn given turns) →
    ((at : ℕ) → answered_dials (Controller at) later ≤ answered_dials (Controller at) d) → (end : EndId) → Differ s.chances.drawn →
    OwnTrusts asked later s.ends s.chances.drawn (given ++ given_by end []) turns
none_own asked d later given turns s known less end differ =
    later_own asked d later s.ends s.chances.drawn given (given ++ given_by end []) turns less (λ at. omega (arith, given_append (Controller at) given [])) (known differ)

hear_own : (asked : ℕ → ℕ → ℕ) (d later : Option EndId) (rest : Given) (end : EndId) (what : Event) (s : State) (given : Given) (turns : List ChannelTurn) → Answers end what d later rest →
    AtState TrustsHold d rest s given turns → (Differ s.chances.drawn → OwnTrusts asked d s.ends s.chances.drawn given turns) →
    let heard = hear end what s in Differ heard.state.chances.drawn → OwnTrusts asked later heard.state.ends heard.state.chances.drawn (given ++ given_by end heard.actions) turns
hear_own asked d later rest end what s given turns answers holds known =
    let less : (at : ℕ) → answered_dials (Controller at) later ≤ answered_dials (Controller at) d = λ at. answers_less (Controller at) end what d later rest answers in
    step_by
    (λ (one : EndId) (step : EndStep).
    Answers one what d later rest → Differ step.chances.drawn → OwnTrusts asked later step.ends step.chances.drawn (given ++ given_by one step.actions) turns) what s.moment s.ends s.chances
    (λ one its differ. none_own asked d later given turns s known less one differ)
    (λ at c is its. controller_own asked d later rest given turns s holds known less at c what is its)
    (λ at m is its.
    others_own asked d later rest given turns s holds known less (Member at) _ _ _ _ refl refl (record { controllers = refl; members = length-set s.ends.members at _; clients = refl; stations = refl }) (λ k. refl))
    (λ at c is its.
    others_own asked d later rest given turns s holds known less (Client at) _ _ _ _ refl refl (record { controllers = refl; members = refl; clients = length-set s.ends.clients at _; stations = refl }) (λ k. refl))
    end answers

-- ---- single changes

-- no dial was given, as the first one waits no more
first_own : (asked : ℕ → ℕ → ℕ) (e : Option EndId) (ends : EndStates) (drawn : List (List ℕ)) (turns : List ChannelTurn) → OwnTrusts asked None ends drawn [] turns → OwnTrusts asked e ends drawn [] turns
first_own asked e ends drawn turns old = record {
  same = old.same;
  before = old.before;
  each = λ at c there. let was = old.each at c there in record { given_so = none_given at e c.running c.trusting; askers = was.askers };
}
  where
    none_given : (at : ℕ) (e : Option EndId) (r : Option Running) (t : Trusting) → GivenIf at e [] r t
    none_given at e None t = tt
    none_given at e (Some running) t = (omega arith, (λ some. absurd (omega (arith, some))))

-- who asks at a controller that was just made has taken no turn
unused_own : (at : ℕ) (asked : ℕ → ℕ) (drawn : List (List ℕ)) (turns : List ChannelTurn) (c : ControllerState) →
    ((k : ℕ) (s : Requester) → slice_get c.trusting.queues.requesters k ≡ Some s → IsUnused s) → OwnTrust at asked None [] drawn turns c
unused_own at asked drawn turns c unused = record { given_so = none_given c.running c.trusting; askers = by c.running }
  where
    none_given : (r : Option Running) (t : Trusting) → GivenIf at None [] r t
    none_given None t = tt
    none_given (Some running) t = (omega arith, (λ some. absurd (omega (arith, some))))

    by : (r : Option Running) → AskersIf at asked 0 drawn turns r c.trusting
    by None = tt
    by (Some running) = λ trust s there.
        let it : IsUnused s = unused trust s there in
        subst (λ (one : Requester). AskerTurned at asked c.trusting.turn_of 0 drawn turns trust one) it.is
        (record { coherent = steps_have_effects.fresh it.caller; turned = turned_blank _ _ drawn refl refl })

-- a client begins, or a member to change its secret
begun_own : (asked : ℕ → ℕ → ℕ) (ends later : EndStates) (drawn : List (List ℕ)) (given : Given) (turns : List ChannelTurn) → later.controllers ≡ ends.controllers → SameNumbers ends later →
    ((at : ℕ) → given_dials (Controller at) given ≡ 0) → OwnTrusts asked None ends drawn [] turns → OwnTrusts asked None later drawn given turns
begun_own asked ends later drawn given turns controllers numbers count old = record {
  same = λ at trust.
      trust_same (trust_in trust (slice_get later.controllers at)) ends later numbers
      ∙ ap (λ (all : List ControllerState). controller_of_trust (trust_in trust (slice_get all at)) ends) controllers ∙ old.same at trust;
  before = old.before;
  each = λ at c there.
      own_same at (asked at) None None [] given drawn drawn turns c (omega arith) (count at) (λ challenge is. is)
      (old.each at c (subst (λ (all : List ControllerState). slice_get all at ≡ Some c) controllers there));
}

-- a controller that is made anew trusts whom it trusted
fresh_trusts : (hands_on : Bool) (table : AccountTable) (name : List ℕ) → (fresh_controller hands_on false table name).table.trusts ≡ table.trusts
fresh_trusts false table name = refl
fresh_trusts true table name = refl

renews_own : (asked : ℕ → ℕ → ℕ) (end : EndId) (s : State) (turns : List ChannelTurn) → OwnTrusts asked None s.ends s.chances.drawn [] turns →
    OwnTrusts asked None (renewed end s).ends s.chances.drawn [] turns
renews_own asked end s turns old =
    renew_by (λ (one : EndId) (ends : EndStates). OwnTrusts asked None ends s.chances.drawn [] turns) s (λ one. old)
    (λ at c is.
    let new : ControllerState = fresh_controller s.hands_on false c.table c.name in
    record {
      same = λ j trust. controllers_put s.ends at c new is (fresh_trusts s.hands_on c.table c.name) j trust ∙ old.same j trust;
      before = old.before;
      each = each_put (λ (k : ℕ) (one : ControllerState). OwnTrust k (asked k) None [] s.chances.drawn turns one) s.ends.controllers at new (λ k one differs there. old.each k one there)
          (unused_own at (asked at) s.chances.drawn turns new (fresh_unused s.hands_on false c.table c.name));
    })
    (λ at plan is.
    begun_own asked s.ends (with_member at (fresh_member plan) s.ends) s.chances.drawn [] turns refl
    (record { controllers = refl; members = length-set s.ends.members at (fresh_member plan); clients = refl; stations = refl }) (λ k. refl) old)
    (λ at plan is.
    begun_own asked s.ends (with_client at (fresh_client plan) s.ends) s.chances.drawn [] turns refl
    (record { controllers = refl; members = refl; clients = length-set s.ends.clients at (fresh_client plan); stations = refl }) (λ k. refl) old) end

-- ---- the turns of a move are written down

-- what is written down where a controller dials: the turn of the trust for which it is out
abbrev trust_now : ℕ → ℕ → State → List ChannelTurn
trust_now at trust s = mine (OfTrust at trust) (turn_for_trust at (slice_get s.ends.controllers at) s)

other_trust : (j at trust : ℕ) (found : Option ControllerState) (s : State) → (j == at) ≡ false → mine (OfTrust at trust) (turn_for_trust j found s) ≡ []
other_trust j at trust None s differ = refl
other_trust j at trust (Some c) s differ =
    if_mine false (OfTrust at trust) (asker_of j c) (controller_asked (asker_of j c) s) (requester_at s (asker_of j c))
    (ap (λ (hit : Bool). hit && (c.trusting.turn_of == trust)) differ)

controller_dials : (hit : Bool) (j at trust : ℕ) (peer : List ℕ) (s : State) → (j == at) ≡ hit →
    mine (OfTrust at trust) (turns_by (Controller j) (Dial peer) s) ≡ times (counted hit (Dial peer)) (trust_now at trust s)
controller_dials false j at trust peer s differ = other_trust j at trust (slice_get s.ends.controllers j) s differ
controller_dials true j at trust peer s is =
    ap (λ (k : ℕ). mine (OfTrust at trust) (turn_for_trust k (slice_get s.ends.controllers k) s)) ((Decides-eqb j at).0 is) ∙ sym (append-nil (trust_now at trust s))

no_turn : (hit : Bool) (what : Action) (turns : List ChannelTurn) → dial_of what ≡ 0 → [] ≡ times (counted hit what) turns
no_turn hit what turns none = ap (λ (n : ℕ). times n turns) (sym (none_counted hit what none))

one_mine : (at trust : ℕ) (s : State) (end : EndId) (what : Action) → mine (OfTrust at trust) (turns_by end what s) ≡ times (counted (same_end end (Controller at)) what) (trust_now at trust s)
one_mine at trust s (Controller j) (Dial peer) = controller_dials (j == at) j at trust peer s refl
one_mine at trust s (Controller j) (Keep bytes) = no_turn (j == at) (Keep bytes) (trust_now at trust s) refl
one_mine at trust s (Controller j) (Send link bytes) = no_turn (j == at) (Send link bytes) (trust_now at trust s) refl
one_mine at trust s (Controller j) (Close link cause) = no_turn (j == at) (Close link cause) (trust_now at trust s) refl
one_mine at trust s (Controller j) (Told link outcome) = no_turn (j == at) (Told link outcome) (trust_now at trust s) refl
one_mine at trust s (Controller j) (Judged how) = no_turn (j == at) (Judged how) (trust_now at trust s) refl
one_mine at trust s (Client j) what = refl
one_mine at trust s (Station j) what = refl
one_mine at trust s (Member j) (Dial peer) =
    ap (mine (OfTrust at trust)) (of_member (controller_asked (OfMember j) s) j (running_in (slice_get s.ends.members j)))
    ∙ if_mine false (OfTrust at trust) (OfMember j) (controller_asked (OfMember j) s) (requester_at s (OfMember j)) refl
one_mine at trust s (Member j) (Keep bytes) = refl
one_mine at trust s (Member j) (Send link bytes) = refl
one_mine at trust s (Member j) (Close link cause) = refl
one_mine at trust s (Member j) (Told link outcome) = refl
one_mine at trust s (Member j) (Judged how) = refl

all_mine : (at trust : ℕ) (s : State) (given : Given) → mine (OfTrust at trust) (turns_in given s) ≡ times (given_dials (Controller at) given) (trust_now at trust s)
all_mine at trust s [] = refl
all_mine at trust s (one ∷ given) =
    filter-append (λ (turn : ChannelTurn). same_requester turn.requester (OfTrust at trust)) (turns_by one.0 one.1 s) (turns_in given s)
    ∙ ap (λ (l : List ChannelTurn). l ++ mine (OfTrust at trust) (turns_in given s)) (one_mine at trust s one.0 one.1)
    ∙ ap (λ (l : List ChannelTurn). times (counted (same_end one.0 (Controller at)) one.1) (trust_now at trust s) ++ l) (all_mine at trust s given)
    ∙ sym (times_more (counted (same_end one.0 (Controller at)) one.1) (given_dials (Controller at) given) (trust_now at trust s))

more_turns : (at trust : ℕ) (s : State) (given : Given) (turns : List ChannelTurn) →
    mine (OfTrust at trust) (turns ++ turns_in given s) ≡ mine (OfTrust at trust) turns ++ times (given_dials (Controller at) given) (trust_now at trust s)
more_turns at trust s given turns =
    filter-append (λ (turn : ChannelTurn). same_requester turn.requester (OfTrust at trust)) turns (turns_in given s)
    ∙ ap (λ (l : List ChannelTurn). mine (OfTrust at trust) turns ++ l) (all_mine at trust s given)

-- ---- the turn of who asks, as it is written down

same_back : (one other : ℕ) → (one == other) ≡ (other == one)
same_back one other = by (one == other) refl
  where
    by : (hit : Bool) → (one == other) ≡ hit → hit ≡ (other == one)
    by true is = sym ((Decides-eqb other one).1 (sym ((Decides-eqb one other).0 is)))
    by false is = sym (false_from_ne_true (other == one) (λ same. absurd (let never : true ≡ false = sym ((Decides-eqb one other).1 (sym ((Decides-eqb other one).0 same))) ∙ is in cc)))

-- of that trust it is its own, where the turn is out for it
its_turn : (hit : Bool) (at trust : ℕ) (c : ControllerState) (s : State) → (c.trusting.turn_of == trust) ≡ hit →
    mine (OfTrust at trust) (turn_at (asker_of at c) s) ≡ times (dialled hit 1) (turn_at (OfTrust at trust) s)
its_turn hit at trust c s is =
    if_mine hit (OfTrust at trust) (asker_of at c) (controller_asked (asker_of at c) s) (requester_at s (asker_of at c))
    (ap (λ (same : Bool). same && (c.trusting.turn_of == trust)) ((Decides-eqb at at).1 refl) ∙ is)
    ∙ by hit is
  where
    by : (hit : Bool) → (c.trusting.turn_of == trust) ≡ hit → kept_if hit (turn_at (asker_of at c) s) ≡ times (dialled hit 1) (turn_at (OfTrust at trust) s)
    by false is = refl
    by true is = ap (λ (k : ℕ). turn_at (OfTrust at k) s) ((Decides-eqb c.trusting.turn_of trust).0 is) ∙ sym (append-nil (turn_at (OfTrust at trust) s))

-- as often as its controller dialled for it
dialled_times : (hit : Bool) (count : ℕ) (turns : List ChannelTurn) → times count (times (dialled hit 1) turns) ≡ times (dialled hit count) turns
dialled_times false zero turns = refl
dialled_times false (suc count) turns = dialled_times false count turns
dialled_times true zero turns = refl
dialled_times true (suc count) turns =
    ap (λ (l : List ChannelTurn). l ++ times count (turns ++ [])) (append-nil turns) ∙ ap (λ (l : List ChannelTurn). turns ++ l) (dialled_times true count turns)

module _ (asked : ℕ → ℕ → ℕ) (s : State) (given : Given) (turns : List ChannelTurn) (known : OwnTrusts asked None s.ends s.chances.drawn given turns) where
  -- where a controller is, its turns of the move are those that are known of who asks there
  written : (at trust : ℕ) (c : ControllerState) (running : Running) (r : Requester) → slice_get s.ends.controllers at ≡ Some c → c.running ≡ Some running →
      slice_get c.trusting.queues.requesters trust ≡ Some r →
      mine (OfTrust at trust) (turns ++ turns_in given s)
      ≡ mine (OfTrust at trust) turns ++ times (dialled (trust == c.trusting.turn_of) (given_dials (Controller at) given)) (turn_of (asked at trust) (OfTrust at trust) r)
  written at trust c running r there runs got =
      let who : RequesterId = OfTrust at trust in
      let count : ℕ = given_dials (Controller at) given in
      let asker : requester_at s who ≡ Some r =
      ap (λ (found : Option ControllerState). trust_asker found trust) there ∙ ap (λ (some : Option Running). trust_asker_on some trust c.trusting) runs ∙ got in
      let turn : turn_at who s ≡ turn_of (asked at trust) who r =
      ap (λ (found : Option Requester). turn_if (controller_asked who s) who found) asker ∙ ap (λ (one : ℕ). turn_of one who r) (known.same at trust) in
      let now : trust_now at trust s ≡ times (dialled (trust == c.trusting.turn_of) 1) (turn_of (asked at trust) who r) =
      ap (λ (found : Option ControllerState). mine who (turn_for_trust at found s)) there ∙ its_turn (c.trusting.turn_of == trust) at trust c s refl
      ∙ ap (λ (hit : Bool). times (dialled hit 1) (turn_at who s)) (same_back c.trusting.turn_of trust)
      ∙ ap (λ (l : List ChannelTurn). times (dialled (trust == c.trusting.turn_of) 1) l) turn in
      more_turns at trust s given turns
      ∙ ap (λ (l : List ChannelTurn). mine who turns ++ times count l) now
      ∙ ap (λ (l : List ChannelTurn). mine who turns ++ l) (dialled_times (trust == c.trusting.turn_of) count (turn_of (asked at trust) who r))

  -- ---- they were on channels whose client's challenge was drawn

  asker_drawn : (at trust : ℕ) (controller : ℕ) (c : ControllerState) (r : Option Running) → AskersIf at (asked at) (given_dials (Controller at) given) s.chances.drawn turns r c.trusting →
      controller ≡ asked at trust → AreDrawn s.chances.drawn (turn_if controller (OfTrust at trust) (trust_asker_on r trust c.trusting))
  asker_drawn at trust controller c None askers is = tt
  asker_drawn at trust controller c (Some running) askers is = by (slice_get c.trusting.queues.requesters trust) refl
    where
      by : (found : Option Requester) → slice_get c.trusting.queues.requesters trust ≡ found → AreDrawn s.chances.drawn (turn_if controller (OfTrust at trust) found)
      by None there = tt
      by (Some one) there =
          subst (λ (n : ℕ). AreDrawn s.chances.drawn (turn_of n (OfTrust at trust) one)) (sym is)
          (turn_drawn (asked at trust) (OfTrust at trust) one _ s.chances.drawn (askers trust one there).turned)

  found_drawn : (at trust : ℕ) (found : Option ControllerState) → slice_get s.ends.controllers at ≡ found → AreDrawn s.chances.drawn (mine (OfTrust at trust) (turn_for_trust at found s))
  found_drawn at trust None is = tt
  found_drawn at trust (Some c) is =
      subst (AreDrawn s.chances.drawn) (sym (its_turn (c.trusting.turn_of == trust) at trust c s refl))
      (times_drawn s.chances.drawn (dialled (c.trusting.turn_of == trust) 1) (turn_at (OfTrust at trust) s)
      (subst (λ (found : Option ControllerState). AreDrawn s.chances.drawn (turn_if (controller_asked (OfTrust at trust) s) (OfTrust at trust) (trust_asker found trust))) (sym is)
      (asker_drawn at trust (controller_asked (OfTrust at trust) s) c c.running (known.each at c is).askers (known.same at trust))))

  all_drawn : (at trust : ℕ) → AreDrawn s.chances.drawn (mine (OfTrust at trust) (turns ++ turns_in given s))
  all_drawn at trust =
      subst (AreDrawn s.chances.drawn) (sym (more_turns at trust s given turns))
      (both_drawn s.chances.drawn (mine (OfTrust at trust) turns) (times (given_dials (Controller at) given) (trust_now at trust s)) (known.before at trust)
      (times_drawn s.chances.drawn (given_dials (Controller at) given) (trust_now at trust s) (found_drawn at trust (slice_get s.ends.controllers at) refl)))

  -- ---- what is known stays known at the end of a move

  askers_over : (at : ℕ) (c : ControllerState) (r : Option Running) → slice_get s.ends.controllers at ≡ Some c → c.running ≡ r →
      AskersIf at (asked at) (given_dials (Controller at) given) s.chances.drawn turns r c.trusting → AskersIf at (asked at) 0 s.chances.drawn (turns ++ turns_in given s) r c.trusting
  askers_over at c None there runs askers = tt
  askers_over at c (Some running) there runs askers = λ trust one got.
      let was = askers trust one got in
      record {
        coherent = was.coherent;
        turned = subst (λ (all : List ChannelTurn). Turned (view_of (asked at trust) one) all s.chances.drawn)
            (sym (no_times (dialled (trust == c.trusting.turn_of) 0) (turn_of (asked at trust) (OfTrust at trust) one) (mine (OfTrust at trust) (turns ++ turns_in given s))
            (none_dialled (trust == c.trusting.turn_of) 0 refl) ∙ written at trust c running one there runs got)) was.turned;
      }

  given_over : (at : ℕ) (r : Option Running) (t : Trusting) → GivenIf at None [] r t
  given_over at None t = tt
  given_over at (Some running) t = (omega arith, (λ some. absurd (omega (arith, some))))

  own_over : OwnTrusts asked None s.ends s.chances.drawn [] (turns ++ turns_in given s)
  own_over = record {
    same = known.same;
    before = all_drawn;
    each = λ at c there. record { given_so = given_over at c.running c.trusting; askers = askers_over at c c.running there refl (known.each at c there).askers };
  }

-- ---- through a run

trusts_own_keep : (asked : ℕ → ℕ → ℕ) → KeepsDials every (TrustsOwn asked)
trusts_own_keep asked = record {
  closes = λ d rest end link s given turns holds.
      (trusts_keep.closes d rest end link s given turns holds.0, hear_own asked d d rest end (event.Closed link) s given turns (inl (tt, refl)) holds.0 holds.1);
  opens = λ d end link s given turns holds.
      (trusts_keep.opens d end link s given turns holds.0, hear_own asked d d [] end (event.Opened link) s given turns (inl (tt, refl)) holds.0 holds.1);
  comes = λ end link piece s given turns holds.
      (trusts_keep.comes end link piece s given turns holds.0, hear_own asked None None [] end (event.Bytes link piece) s given turns (inl (tt, refl)) holds.0 holds.1);
  dialled = λ end link s given turns holds.
      (trusts_keep.dialled end link s given turns holds.0, hear_own asked (Some end) None [] end (event.Dialled link) s given turns (inr (refl, refl, refl)) holds.0 holds.1);
  fails = λ end s given turns holds.
      (trusts_keep.fails end s given turns holds.0, hear_own asked (Some end) None [] end event.DialFailed s given turns (inr (refl, refl, refl)) holds.0 holds.1);
  begins = λ client plan s turns holds. (
    trusts_keep.begins client plan s turns holds.0,
    (λ differ.
        let actions : List Action = (begin_of (fresh_client plan)).actions in
        begun_own asked s.ends (with_client client (begin_of (fresh_client plan)).state s.ends) s.chances.drawn (given_by (Client client) actions) turns refl
        (record { controllers = refl; members = refl; clients = length-set s.ends.clients client (begin_of (fresh_client plan)).state; stations = refl })
        (λ at. given_other (Controller at) (Client client) actions refl) (holds.1 differ)),
  );
  acts = λ d rest end what s given turns holds. (trusts_keep.acts d rest end what s given turns holds.0, holds.1);
  first = λ dial s turns is holds.
      (trusts_keep.first dial s turns is holds.0, (λ differ. first_own asked (Some dial.end) s.ends s.chances.drawn turns (holds.1 differ)));
  forgets = λ end s turns holds. (trusts_keep.forgets end s turns holds.0, holds.1);
  renews = λ end s turns holds. (trusts_keep.renews end s turns holds.0, (λ differ. renews_own asked end (forget end s) turns (holds.1 differ)));
  changes = λ at secret s turns holds. (
    trusts_keep.changes at secret s turns holds.0,
    (λ differ.
        by_change (λ (ends : EndStates) (actions : List Action). OwnTrusts asked None ends s.chances.drawn (given_by (Member at) actions) turns) at secret s.ends (holds.1 differ)
        (λ running is none.
        begun_own asked s.ends (with_member at (member_begun secret running) s.ends) s.chances.drawn (given_by (Member at) (text_begun secret running)) turns refl
        (record { controllers = refl; members = length-set s.ends.members at (member_begun secret running); clients = refl; stations = refl })
        (λ k. given_other (Controller k) (Member at) (text_begun secret running) refl) (holds.1 differ))),
  );
  over = λ s given turns holds. (trusts_keep.over s given turns holds.0, (λ differ. own_over asked s given turns (holds.1 differ)));
}

-- of a plan, before the first move
first_known : (plan : Plan) → let s : State = (plain_world plan).state in AtState (TrustsOwn (asked_for s.ends)) None [] s [] []
first_known plan = (
  (λ at c is. controllers_first plan.hands_on plan.tables plan.controllers at at c is),
  (λ differ. record {
    same = λ at trust. refl;
    before = λ at trust. tt;
    each = λ at c there. unused_own at _ _ [] c (first_unused plan.hands_on false plan.tables plan.controllers at c there);
  }),
)

-- ---- the claim

trusts_own : (plan : Plan) (moves : List Move) → IsPlainPlan plan → (at trust : ℕ) → SequenceIsOwn (past plan moves) (OfTrust at trust)
trusts_own plan moves nothing at trust channel o stands =
    let s : State = (past plan moves).world.state in
    let turns : List ChannelTurn = (past plan moves).book.turns in
    let asked : ℕ → ℕ → ℕ = asked_for (plain_world plan).state.ends in
    let known : OwnTrusts asked None s.ends s.chances.drawn [] turns =
    (dials_after (TrustsOwn asked) (trusts_own_keep asked) plan moves nothing (first_known plan)).1 (draws_differ plan moves) in
    by s turns asked known (slice_get s.ends.controllers at) refl stands
  where
    turned_at : (s : State) (turns : List ChannelTurn) (asked : ℕ → ℕ → ℕ) (c : ControllerState) (r : Option Running) (one : Requester) →
        AskersIf at (asked at) 0 s.chances.drawn turns r c.trusting → trust_asker_on r trust c.trusting ≡ Some one → Turned (view_of (asked at trust) one) (mine (OfTrust at trust) turns) s.chances.drawn
    turned_at s turns asked c None one askers is = absurd (no_some one is)
    turned_at s turns asked c (Some running) one askers is =
        subst (λ (all : List ChannelTurn). Turned (view_of (asked at trust) one) all s.chances.drawn)
        (no_times (dialled (trust == c.trusting.turn_of) 0) (turn_of (asked at trust) (OfTrust at trust) one) (mine (OfTrust at trust) turns)
        (none_dialled (trust == c.trusting.turn_of) 0 refl)) (askers trust one is).turned

    by : (s : State) (turns : List ChannelTurn) (asked : ℕ → ℕ → ℕ) → OwnTrusts asked None s.ends s.chances.drawn [] turns → (found : Option ControllerState) → slice_get s.ends.controllers at ≡ found →
        ChannelStands s (OfTrust at trust) channel o → o.seed ≡ channel_seed channel (timestamps_on (OfTrust at trust) channel turns)
    by s turns asked known None is stands = absurd (no_some stands.requester (sym (ap (λ (found : Option ControllerState). trust_asker found trust) is) ∙ stands.at))
    by s turns asked known (Some c) is stands =
        seed_turned s (OfTrust at trust) channel o turns stands
        (subst (λ (n : ℕ). Turned (view_of n stands.requester) (mine (OfTrust at trust) turns) s.chances.drawn) (sym (known.same at trust))
        (turned_at s turns asked c c.running stands.requester (known.each at c is).askers (sym (ap (λ (found : Option ControllerState). trust_asker found trust) is) ∙ stands.at)))

-- whoever asks
pub sequences_own : (plan : Plan) (moves : List Move) → IsPlainPlan plan → SequencesAreOwn (past plan moves)
sequences_own plan moves nothing (OfMember k) = members_own plan moves nothing k
sequences_own plan moves nothing (OfTrust at trust) = trusts_own plan moves nothing at trust
