-- What is known of members and of their turns is kept through all that happens in a run.
-- It serves `Proved.own`.
use Rattle.std.proofs.Common.{◌≡◌, ℕ, ◌≤◌, List, [], ◌++◌, inl, inr, Option, Some, None, slice_get, slice_set, refl, sym, ap, subst, arith}
use Rattle.std.proofs.lemmas.List.{length-set}
use Rattle.outside.specs.Drawing.{Drawing}
use Rattle.outside.specs.Machine.{Stepped}
use Rattle.outside.specs.declared.action.Action.{Action}
use Rattle.outside.specs.declared.event.Event.{Event}
use Rattle.domain_controller.specs.State.{State as ControllerState}
use Rattle.logon_client.specs.State.{State as ClientState}
use Rattle.channel_client.specs.Effects.{view_of}
use Rattle.channel_events.specs.Requests.{IsDrawn}
use Rattle.wire_base.proofs.ListLaws.{all_weaker}
use Rattle.member_server.specs.Machine.{step_of}
use Rattle.member_server.specs.State.{State as MemberState}
use Rattle.member_server.specs.declared.plan.MemberPlan.{MemberPlan}
use Rattle.member_server.specs.declared.state.Running.{Running}
use Rattle.step_notes.specs.MemberNotes.{turn_of}
use Rattle.step_notes.specs.Records.{ChannelTurn, OfMember, RequesterId}
use Rattle.world_moves.specs.declared.links.EndId.{EndId}
use Rattle.world_moves.specs.declared.links.EndId.TheVariants.{Controller, Member, Client}
use Rattle.world_moves.specs.declared.state.State.{State}
use Rattle.world_moves.specs.declared.state.WaitingDial.{WaitingDial}
use Rattle.world_moves.specs.Acting.{AfterHearing, Given, given_by}
use Rattle.world_moves.specs.Ends.{EndStates, EndStep, actions_by, client_done, controller_done, member_done, with_client}
use Rattle.domain_world.specs.Accepting.SeenSteps.{Differ}
use Rattle.domain_world.proofs.Frames.ByKindLaws.{StepsByKind}
use Rattle.domain_world.proofs.Frames.MoveKeepLaws.{How}
use Rattle.domain_world.proofs.Calls.CallHoldsLaws.{SameNumbers, differ_front}
use Rattle.domain_world.proofs.Sequences.DialCountLaws.{answered_dials, dials_out, given_append, given_dials, given_other, none_counted}
use Rattle.domain_world.proofs.Sequences.DialWalkLaws.{DialFact}
use Rattle.domain_world.proofs.Sequences.Own.OwnTurnLaws.{Answers, AreDrawn, TurnsIf, member_step as own_step, mine, times}
use Rattle.domain_world.proofs.Sequences.SeedTurnLaws.{Turned, drawn_still, turned_later}
use Rattle.domain_world.proofs.Moves.RequesterLaws.{asking_end, asked_in, not_controller, not_client, not_that, asker_in, asker_same, asked_put, asks_at}
use Rattle.domain_world.specs.Past.{running_in}
use Rattle.secret_change.specs.Secrets.{written_secrets}
use Rattle.outside.specs.declared.action.Action.TheVariants.{Keep}
use Rattle.world_moves.proofs.ChangeLaws.{by_change, member_begun, text_begun, with_next}
use Rattle.world_moves.specs.Moving.{changed}

-- ---- what is known

pub record TurnsHold (d : Option EndId) (rest : Given) (plans : List MemberPlan) (ends : EndStates) (dials : List WaitingDial) (drawn : List (List ℕ)) (given : Given) (turns : List ChannelTurn) : Type 0 where
  pub before : (k : ℕ) → AreDrawn drawn (mine (OfMember k) turns)
  pub asks : (k : ℕ) → TurnsIf (OfMember k) (asked_in k plans ends) d rest dials drawn given turns (asker_in k ends)

-- where the draws differ
abbrev pub TurnsKnown : DialFact
TurnsKnown d rest plans ends dials chances given turns = Differ chances.drawn → TurnsHold d rest plans ends dials chances.drawn given turns

-- more may be drawn
abbrev pub StillDrawn : List (List ℕ) → List (List ℕ) → Type 0
StillDrawn drawn later = (challenge : List ℕ) → IsDrawn challenge drawn → IsDrawn challenge later

pub still_drawn : (drawn later : List (List ℕ)) (turns : List ChannelTurn) → StillDrawn drawn later → AreDrawn drawn turns → AreDrawn later turns
still_drawn drawn later turns still all =
    all_weaker (λ (turn : ChannelTurn). IsDrawn turn.channel.client drawn) (λ (turn : ChannelTurn). IsDrawn turn.channel.client later) turns (λ turn is. still turn.channel.client is) all

-- ---- of a member that takes no step

pub same_turns : (who : RequesterId) (controller : ℕ) (d e : Option EndId) (rest more : Given) (dials waiting : List WaitingDial) (drawn later : List (List ℕ)) (given after : Given) (turns : List ChannelTurn) (r : Option Running) →
    dials_out (asking_end who) e more waiting ≤ dials_out (asking_end who) d rest dials → answered_dials (asking_end who) e ≤ answered_dials (asking_end who) d → given_dials (asking_end who) after ≡ given_dials (asking_end who) given → StillDrawn drawn later →
    TurnsIf who controller d rest dials drawn given turns r → TurnsIf who controller e more waiting later after turns r
same_turns who controller d e rest more dials waiting drawn later given after turns None out answered same still old = tt
same_turns who controller d e rest more dials waiting drawn later given after turns (Some running) out answered same still old = record {
  order = old.order;
  out_once = omega (arith, out, old.out_once);
  out_waits = λ some. old.out_waits (omega (arith, out, some));
  given_once = omega (arith, same, old.given_once);
  given_waits = λ some. let was = old.given_waits (omega (arith, same, some)) in (was.0, omega (arith, answered, was.1));
  turned = subst (λ (n : ℕ). Turned (view_of controller running.logons.channel) (mine who turns ++ times n (turn_of controller who running.logons.channel)) later) (sym same)
      (turned_later (view_of controller running.logons.channel) (mine who turns ++ times (given_dials (asking_end who) given) (turn_of controller who running.logons.channel)) drawn later still old.turned);
}

pub answers_less : (its : EndId) (end : EndId) (what : Event) (d later : Option EndId) (rest : Given) → Answers end what d later rest → answered_dials its later ≤ answered_dials its d
answers_less its end what d later rest answers = elim answers [
  | inl quiet ↦ omega (arith, ap (λ (e : Option EndId). answered_dials its e) quiet.1)
  | inr answered ↦ omega (arith, ap (λ (e : Option EndId). answered_dials its e) answered.1)
]

-- ---- an event

module _ (plans : List MemberPlan) (ends : EndStates) (dials : List WaitingDial) (d later : Option EndId) (rest given : Given) (turns : List ChannelTurn)
    (less : (who : RequesterId) → answered_dials (asking_end who) later ≤ answered_dials (asking_end who) d) where
  abbrev Before : List (List ℕ) → Type 0
  Before drawn = TurnsHold d rest plans ends dials drawn given turns

  -- of a member that takes no step, by what the end that takes one gives
  one_other : (who : RequesterId) (controller : ℕ) (end : EndId) (actions : List Action) (drawn after : List (List ℕ)) (r : Option Running) → given_dials (asking_end who) (given_by end actions) ≡ 0 → StillDrawn drawn after →
      TurnsIf who controller d rest dials drawn given turns r → TurnsIf who controller later (given_by end actions ++ rest) dials after (given ++ given_by end actions) turns r
  one_other who controller end actions drawn after r none still old =
      same_turns who controller d later rest (given_by end actions ++ rest) dials dials drawn after given (given ++ given_by end actions) turns r
      (omega (arith, given_append (asking_end who) (given_by end actions) rest, none, less who)) (less who) (omega (arith, given_append (asking_end who) given (given_by end actions), none)) still old

  others_hold : (now : EndStates) (end : EndId) (actions : List Action) (drawn after : List (List ℕ)) → now.members ≡ ends.members → SameNumbers ends now →
      ((k : ℕ) → given_dials (Member k) (given_by end actions) ≡ 0) → StillDrawn drawn after → Before drawn →
      TurnsHold later (given_by end actions ++ rest) plans now dials after (given ++ given_by end actions) turns
  others_hold now end actions drawn after same numbers none still holds = record {
    before = λ k. still_drawn drawn after (mine (OfMember k) turns) still (holds.before k);
    asks = λ k.
        asker_same (λ (c : ℕ) (r : Option Running). TurnsIf (OfMember k) c later (given_by end actions ++ rest) dials after (given ++ given_by end actions) turns r) k plans ends now same numbers
        (one_other (OfMember k) (asked_in k plans ends) end actions drawn after (asker_in k ends) (none k) still (holds.asks k));
  }

  -- an end that isn't there does nothing
  nothing_heard : (end : EndId) (drawn : List (List ℕ)) → Before drawn → TurnsHold later (given_by end [] ++ rest) plans ends dials drawn (given ++ given_by end []) turns
  nothing_heard end drawn holds =
      others_hold ends end [] drawn drawn refl (record { controllers = refl; members = refl; clients = refl; stations = refl }) (λ k. refl) (λ challenge is. is) holds

  abbrev Heard : EndId → EndStep → Type 0
  Heard end step = TurnsKnown later (given_by end step.actions ++ rest) plans step.ends dials step.chances (given ++ given_by end step.actions) turns

  -- whatever a controller does, or a client
  controller_hears : (step : Stepped ControllerState) (at : ℕ) (chances : Drawing) → (Differ chances.drawn → Before chances.drawn) → Heard (Controller at) (controller_done step at ends chances)
  controller_hears step at chances known differ =
      others_hold (record ends { controllers = slice_set ends.controllers at step.state }) (Controller at) (actions_by step.answer) chances.drawn (chances.drawn ++ step.drawn) refl
      (record { controllers = length-set ends.controllers at step.state; members = refl; clients = refl; stations = refl })
      (λ k. given_other (Member k) (Controller at) (actions_by step.answer) (not_controller k at)) (λ challenge is. drawn_still challenge chances.drawn step.drawn is)
      (known (differ_front chances.drawn step.drawn differ))

  client_hears : (step : Stepped ClientState) (at : ℕ) (chances : Drawing) → (Differ chances.drawn → Before chances.drawn) → Heard (Client at) (client_done step at ends chances)
  client_hears step at chances known differ =
      others_hold (record ends { clients = slice_set ends.clients at step.state }) (Client at) (actions_by step.answer) chances.drawn (chances.drawn ++ step.drawn) refl
      (record { controllers = refl; members = refl; clients = length-set ends.clients at step.state; stations = refl })
      (λ k. given_other (Member k) (Client at) (actions_by step.answer) (not_client k at)) (λ challenge is. drawn_still challenge chances.drawn step.drawn is)
      (known (differ_front chances.drawn step.drawn differ))

  member_hears : (m : MemberState) (at : ℕ) (what : Event) (now : ℕ) (chances : Drawing) → slice_get ends.members at ≡ Some m →
      Answers (Member at) what d later rest → (Differ chances.drawn → Before chances.drawn) → Heard (Member at) (member_done (step_of m what now chances.left) at ends chances)
  member_hears m at what now chances is answers known differ =
      let step = step_of m what now chances.left in
      let after : List (List ℕ) = chances.drawn ++ step.drawn in
      let actions : List Action = actions_by step.answer in
      let holds : Before chances.drawn = known (differ_front chances.drawn step.drawn differ) in
      let still : StillDrawn chances.drawn after = λ challenge was. drawn_still challenge chances.drawn step.drawn was in
      record {
        before = λ k. still_drawn chances.drawn after (mine (OfMember k) turns) still (holds.before k);
        asks = asked_put
            (λ (k : ℕ) (c : ℕ) (r : Option Running).
            TurnsIf (OfMember k) c later (given_by (Member at) actions ++ rest) dials after (given ++ given_by (Member at) actions) turns r) plans at step.state ends (λ k c. tt)
            (own_step (OfMember at) (asked_in at plans ends) turns m.running what now chances.left d later rest dials chances.drawn given answers
            (subst (λ (found : Option MemberState). TurnsIf (OfMember at) (asked_in at plans ends) d rest dials chances.drawn given turns (running_in found)) is (holds.asks at))
            (holds.before at) differ)
            (λ k differs.
            one_other (OfMember k) (asked_in k plans ends) (Member at) actions chances.drawn after (asker_in k ends) (given_other (Member k) (Member at) actions (not_that k at differs)) still
            (holds.asks k));
      }

-- an end hears something
pub hear_holds : (how : How) → StepsByKind how → (d later : Option EndId) (rest : Given) (end : EndId) (what : Event) (s : State) (given : Given) (turns : List ChannelTurn) →
    Answers end what d later rest → TurnsKnown d rest s.member_plans s.ends s.dials s.chances given turns →
    let heard = how.hears end what s in
    TurnsKnown later (given_by end heard.actions ++ rest) heard.state.member_plans heard.state.ends heard.state.dials heard.state.chances (given ++ given_by end heard.actions) turns
hear_holds how kinds d later rest end what s given turns answers known =
    let less : (who : RequesterId) → answered_dials (asking_end who) later ≤ answered_dials (asking_end who) d = λ who. answers_less (asking_end who) end what d later rest answers in
    kinds.hears
    (λ (one : EndId) (heard : AfterHearing).
    Answers one what d later rest →
    TurnsKnown later (given_by one heard.actions ++ rest) heard.state.member_plans heard.state.ends heard.state.dials heard.state.chances (given ++ given_by one heard.actions) turns) what s
    (λ one its differ. nothing_heard s.member_plans s.ends s.dials d later rest given turns less one s.chances.drawn (known differ))
    (λ at c step is its. controller_hears s.member_plans s.ends s.dials d later rest given turns less step at s.chances known)
    (λ at m is its. member_hears s.member_plans s.ends s.dials d later rest given turns less m at what s.moment s.chances is its known)
    (λ at c step is its. client_hears s.member_plans s.ends s.dials d later rest given turns less step at s.chances known) end answers

-- a client begins
pub begin_holds : (client : ℕ) (state : ClientState) (actions : List Action) (plans : List MemberPlan) (ends : EndStates) (dials : List WaitingDial) (chances : Drawing) (turns : List ChannelTurn) →
    TurnsKnown None [] plans ends dials chances [] turns →
    TurnsKnown None (given_by (Client client) actions ++ []) plans (with_client client state ends) dials chances (given_by (Client client) actions) turns
begin_holds client state actions plans ends dials chances turns known differ =
    others_hold plans ends dials None None [] [] turns (λ who. omega arith) (with_client client state ends) (Client client) actions chances.drawn chances.drawn refl
    (record { controllers = refl; members = refl; clients = length-set ends.clients client state; stations = refl }) (λ k. given_other (Member k) (Client client) actions (not_client k client)) (λ challenge is. is) (known differ)

-- ---- a member begins to change its secret

-- a member's turns and its dials stay as they are
changed_turns : (who : RequesterId) (controller : ℕ) (d : Option EndId) (rest : Given) (dials : List WaitingDial) (drawn : List (List ℕ)) (given : Given) (turns : List ChannelTurn) (secret : List ℕ) (running : Running) →
    TurnsIf who controller d rest dials drawn given turns (Some running) → TurnsIf who controller d rest dials drawn given turns (member_begun secret running).running
changed_turns who controller d rest dials drawn given turns secret running old = record {
  order = record { coherent = old.order.coherent; asked = old.order.asked; out = old.order.out };
  out_once = old.out_once;
  out_waits = old.out_waits;
  given_once = old.given_once;
  given_waits = old.given_waits;
  turned = old.turned;
}

-- the text that it keeps dials nothing
pub text_dials : (who : RequesterId) (at : ℕ) (secret : List ℕ) (running : Running) → given_dials (asking_end who) (given_by (Member at) (text_begun secret running)) ≡ 0
text_dials who at secret running = omega (arith, none_counted (asks_at who (Member at)) (Keep (written_secrets (with_next secret running.logons.plan.secrets))) refl)

pub change_holds : (at : ℕ) (secret : List ℕ) (s : State) (turns : List ChannelTurn) → TurnsKnown None [] s.member_plans s.ends s.dials s.chances [] turns →
    let heard = changed at secret s in
    TurnsKnown None (given_by (Member at) heard.actions ++ []) heard.state.member_plans heard.state.ends heard.state.dials heard.state.chances (given_by (Member at) heard.actions) turns
change_holds at secret s turns known differ =
    let plans : List MemberPlan = s.member_plans in
    let holds : TurnsHold None [] plans s.ends s.dials s.chances.drawn [] turns = known differ in
    by_change (λ (ends : EndStates) (actions : List Action). TurnsHold None (given_by (Member at) actions ++ []) plans ends s.dials s.chances.drawn (given_by (Member at) actions) turns) at secret s.ends holds
    (λ running is none.
    (let actions : List Action = text_begun secret running in
    let one : (k c : ℕ) (r : Option Running) → TurnsIf (OfMember k) c None [] s.dials s.chances.drawn [] turns r →
    TurnsIf (OfMember k) c None (given_by (Member at) actions ++ []) s.dials s.chances.drawn (given_by (Member at) actions) turns r =
    λ k c r old.
    one_other plans s.ends s.dials None None [] [] turns (λ other. omega arith) (OfMember k) c (Member at) actions s.chances.drawn s.chances.drawn r (text_dials (OfMember k) at secret running) (λ challenge was. was) old in
    record {
      before = holds.before;
      asks = asked_put
          (λ (k c : ℕ) (r : Option Running). TurnsIf (OfMember k) c None (given_by (Member at) actions ++ []) s.dials s.chances.drawn (given_by (Member at) actions) turns r) plans at
          (member_begun secret running) s.ends (λ k c. tt)
          (one at (asked_in at plans s.ends) (member_begun secret running).running
          (changed_turns (OfMember at) (asked_in at plans s.ends) None [] s.dials s.chances.drawn [] turns secret running
          (subst (λ (found : Option MemberState). TurnsIf (OfMember at) (asked_in at plans s.ends) None [] s.dials s.chances.drawn [] turns (running_in found)) is (holds.asks at))))
          (λ k differs. one k (asked_in k plans s.ends) (asker_in k s.ends) (holds.asks k));
    }))
