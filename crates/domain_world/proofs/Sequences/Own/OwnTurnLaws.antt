-- One step of a member keeps what is known of its requester and of its turns.
-- It serves `Proved.own`.
use Rattle.std.proofs.Common.{◌≡◌, ◌⊎◌, ℕ, zero, suc, ◌+◌, ◌≤◌, Bool, true, false, List, [], ◌∷◌, ◌++◌, replicate, inl, inr, Option, Some, None, Result, Ok, Err, refl, sym, ap, subst, ◌∙◌, arith}
use Rattle.std.specs.List.{AllByRecursion, filter}
use Rattle.std.proofs.lemmas.List.{append-nil, append_assoc}
use Rattle.outside.specs.Drawing.{IsRest, draws_between}
use Rattle.outside.specs.Machine.{Part, left_by, step_by}
use Rattle.outside.specs.declared.action.Action.{Action}
use Rattle.outside.specs.declared.action.StepRefused.{StepRefused}
use Rattle.outside.specs.declared.event.Event.{Event}
use Rattle.outside.proofs.DrawLaws.{between_front}
use Rattle.authenticators.specs.Channels.{ChannelIdentity}
use Rattle.member_server.specs.declared.state.Work.{Work}
use Rattle.channel_client.specs.declared.state.SetStep.TheVariants as set_step
use Rattle.channel_client.specs.Effects.{IsCoherent, opening_in, seed_in, stands_in, step_in, view_of}
use Rattle.channel_client.specs.Machine.{can_start, needs_challenge, start_of}
use Rattle.channel_client.specs.State.{Requester}
use Rattle.channel_client.specs.declared.caller.Caller.{Caller}
use Rattle.channel_client.specs.declared.state.Pending.{Pending}
use Rattle.channel_client.specs.declared.state.Standing.{Standing}
use Rattle.channel_events.specs.Requests.{IsDrawn}
use Rattle.wire_base.proofs.ListLaws.{one_last}
use Rattle.member_server.specs.ChannelSteps.{IsNextTurn}
use Rattle.member_server.specs.Dials.{IsDialledBy, IsNoAnswer, IsWaiting, StaysOutIfTaken, TurnStepsIfTaken, dials_in}
use Rattle.member_server.specs.Laws.{InOrderUnlessStopped, IsInOrder, is_dialled}
use Rattle.member_server.specs.Machine.{actions_in, by_event, event_part, halted_state, state_in, step_of, work_of}
use Rattle.member_server.specs.Turns.{DialWork, timestamp_of, ready_channel}
use Rattle.channel_turns.specs.declared.state.Dialling.{Dialling}
use Rattle.channel_turns.specs.declared.state.Dialling.TheVariants as dialling
use Rattle.member_server.specs.declared.state.Running.{Running}
use Rattle.member_server.proofs.AskedLaws.{asks_what_waits}
use Rattle.member_server.proofs.DialLaws.{turns_dialled}
use Rattle.wire_base.specs.declared.authenticator.Authenticator.{Authenticator}
use Rattle.channel_client.specs.declared.state.Step.{Step}
use Rattle.channel_client.specs.declared.state.Step.TheVariants as step
use Rattle.logon_stubs.specs.declared.calls.Call.TheVariants as call
use Rattle.step_notes.specs.MemberNotes.{stamped, turn_by, turn_of}
use Rattle.step_notes.specs.Records.{ChannelTurn, RequesterId, same_requester}
use Rattle.step_notes.proofs.Members.RestLaws.{event_rest}
use Rattle.world_moves.specs.declared.links.EndId.{EndId}
use Rattle.world_moves.specs.declared.state.WaitingDial.{WaitingDial}
use Rattle.world_moves.specs.Acting.{Given, given_by}
use Rattle.world_moves.specs.Ends.{actions_by}
use Rattle.domain_world.specs.Accepting.SeenSteps.{Differ}
use Rattle.domain_world.proofs.Calls.ReadyLaws.{ready_coherent}
use Rattle.domain_world.proofs.Calls.StepApartLaws.{fresh_last}
use Rattle.domain_world.proofs.Sequences.DialCountLaws.{answered_dials, dials_out, given_append, given_dials, given_own, one_if}
use Rattle.domain_world.proofs.Sequences.SeedTurnLaws.{Turned, comes_so, drawn_still, starts_so, turned_alike, turned_later}
use Rattle.domain_world.proofs.Moves.RequesterLaws.{asking_end, is_itself}

-- ---- the turns of a member

abbrev pub mine : RequesterId → List ChannelTurn → List ChannelTurn
mine who turns = filter (λ (turn : ChannelTurn). same_requester turn.requester who) turns

-- a list of turns, again and again, as often as `count`
abbrev pub times : (count : ℕ) → List ChannelTurn → List ChannelTurn
times zero turns = []
times (suc n) turns = turns ++ times n turns

-- ---- what is known of a member that runs: of the dial of its turn, and of its turns, where the one that started in
-- this move isn't written down yet

pub record TurnsOf (who : RequesterId) (controller : ℕ) (d : Option EndId) (rest : Given) (dials : List WaitingDial) (drawn : List (List ℕ)) (given : Given) (turns : List ChannelTurn) (running : Running) : Type 0 where
  pub order : IsInOrder (is_dialled running.dialling) running.logons
  -- one dial is out at most, and the turn waits for it then
  pub out_once : dials_out (asking_end who) d rest dials ≤ 1
  pub out_waits : 1 ≤ dials_out (asking_end who) d rest dials → IsWaiting running.dialling
  -- one was given at most, which wasn't answered then
  pub given_once : given_dials (asking_end who) given ≤ 1
  pub given_waits : 1 ≤ given_dials (asking_end who) given → IsWaiting running.dialling × (answered_dials (asking_end who) d ≡ 0)
  pub turned : Turned (view_of controller running.logons.channel) (mine who turns ++ times (given_dials (asking_end who) given) (turn_of controller who running.logons.channel)) drawn

abbrev pub TurnsIf : RequesterId → ℕ → Option EndId → Given → List WaitingDial → List (List ℕ) → Given → List ChannelTurn → Option Running → Type 0
TurnsIf who controller d rest dials drawn given turns None = Unit {0}
TurnsIf who controller d rest dials drawn given turns (Some running) = TurnsOf who controller d rest dials drawn given turns running

-- the turns were on channels whose client's challenge was drawn
abbrev pub AreDrawn : List (List ℕ) → List ChannelTurn → Type 0
AreDrawn drawn turns = AllByRecursion (λ (turn : ChannelTurn). IsDrawn turn.channel.client drawn) turns

-- ---- numbers

pub none_or_one : (n : ℕ) → n ≤ 1 → (n ≡ 0) ⊎ (n ≡ 1)
none_or_one zero few = inl refl
none_or_one (suc zero) few = inr refl
none_or_one (suc (suc n)) few = absurd (omega (arith, few))

pub no_times : (n : ℕ) (turns all : List ChannelTurn) → n ≡ 0 → all ++ times n turns ≡ all
no_times n turns all none = ap (λ (m : ℕ). all ++ times m turns) none ∙ append-nil all

pub one_time : (n : ℕ) (turns all : List ChannelTurn) → n ≡ 1 → all ++ times n turns ≡ all ++ turns
one_time n turns all one = ap (λ (m : ℕ). all ++ times m turns) one ∙ ap (λ (l : List ChannelTurn). all ++ l) (append-nil turns)

pub one_drawn : (drawn left before after : List (List ℕ)) (rest : IsRest before left) (challenge : List ℕ) → before ≡ challenge ∷ after →
    drawn ++ draws_between left after ≡ (drawn ++ rest.front) ++ challenge ∷ []
one_drawn drawn left before after rest challenge is =
    let all : left ≡ (rest.front ++ challenge ∷ []) ++ after =
    sym rest.is ∙ ap (λ (l : List (List ℕ)). rest.front ++ l) is ∙ sym (append_assoc rest.front (challenge ∷ []) after) in
    ap (λ (d : List (List ℕ)). drawn ++ d) (sym (between_front (rest.front ++ challenge ∷ []) after left all)) ∙ sym (append_assoc drawn rest.front (challenge ∷ []))

pub drawn_between : (one : List ℕ) (drawn front : List (List ℕ)) (challenge : List ℕ) → IsDrawn one (drawn ++ challenge ∷ []) → IsDrawn one ((drawn ++ front) ++ challenge ∷ [])
drawn_between one [] front challenge is = elim is [ inl here ↦ one_last (λ (x : List ℕ). x ≡ one) front challenge here | inr never ↦ absurd never ]
drawn_between one (first ∷ drawn) front challenge is = elim is [ inl here ↦ inl here | inr later ↦ inr (drawn_between one drawn front challenge later) ]

pub both_drawn : (drawn : List (List ℕ)) (one other : List ChannelTurn) → AreDrawn drawn one → AreDrawn drawn other → AreDrawn drawn (one ++ other)
both_drawn drawn [] other first later = later
both_drawn drawn (turn ∷ one) other first later = (first.0, both_drawn drawn one other first.1 later)

stamped_drawn : (drawn : List (List ℕ)) (who : RequesterId) (channel : Option ChannelIdentity) (stamp : Option Authenticator) → ((c : ChannelIdentity) → channel ≡ Some c → IsDrawn c.client drawn) → AreDrawn drawn (stamped channel stamp who)
stamped_drawn drawn who None stamp so = tt
stamped_drawn drawn who (Some channel) None so = tt
stamped_drawn drawn who (Some channel) (Some stamp) so = (so channel refl, tt)

by_drawn : (drawn : List (List ℕ)) (who : RequesterId) (st : Option Step) (channel : Option ChannelIdentity) → ((c : ChannelIdentity) → channel ≡ Some c → IsDrawn c.client drawn) → AreDrawn drawn (turn_by st channel who)
by_drawn drawn who None channel so = tt
by_drawn drawn who (Some (step.Bind (call.Logon c))) channel so = stamped_drawn drawn who channel c.authenticator so
by_drawn drawn who (Some (step.Bind (call.Challenge c))) channel so = tt
by_drawn drawn who (Some (step.Bind (call.Authenticate c))) channel so = tt
by_drawn drawn who (Some (step.Bind (call.Logoff c))) channel so = tt
by_drawn drawn who (Some (step.Reply q)) channel so = tt
by_drawn drawn who (Some (step.Set (set_step.Bind c))) channel so = stamped_drawn drawn who channel (Some c.authenticator) so
by_drawn drawn who (Some (step.Set set_step.Reply)) channel so = tt

-- the turn that is out was on a channel whose client's challenge was drawn
pub turn_drawn : (controller : ℕ) (who : RequesterId) (s : Requester) (own : List ChannelTurn) (drawn : List (List ℕ)) → Turned (view_of controller s) own drawn → AreDrawn drawn (turn_of controller who s)
turn_drawn controller who s own drawn turned =
    by_drawn drawn who (step_in s.turn) (stands_in controller s.caller.computer s.standing) (λ c is. turned.held c.client (record { how = inr (c, is, refl) }))

-- ---- a step in which a turn may start

-- what is known once the event came and a turn started, or none
record HasStarted (who : RequesterId) (controller : ℕ) (drawn : List (List ℕ)) (turns : List ChannelTurn) (new : Requester) (how : Dialling) (count : ℕ) : Type 0 where
  few : count ≤ 1
  waits : 1 ≤ count → IsWaiting how
  turned : Turned (view_of controller new) (mine who turns ++ times count (turn_of controller who new)) drawn

module _ (who : RequesterId) (controller : ℕ) (drawn : List (List ℕ)) (turns : List ChannelTurn) (before : AreDrawn drawn (mine who turns)) where
  unstarted : (mid new : Requester) (how : Dialling) (count : ℕ) (after : List (List ℕ)) → new ≡ mid → count ≡ 0 → Turned (view_of controller mid) (mine who turns) drawn →
      HasStarted who controller (drawn ++ after) turns new how count
  unstarted mid new how count after same none turned = record {
    few = omega (arith, none);
    waits = λ one. absurd (omega (arith, none, one));
    turned = turned_later (view_of controller new) (mine who turns ++ times count (turn_of controller who new)) drawn (drawn ++ after) (λ challenge is. drawn_still challenge drawn after is)
        (subst (λ (all : List ChannelTurn). Turned (view_of controller new) all drawn) (sym (no_times count (turn_of controller who new) (mine who turns) none))
        (subst (λ (x : Requester). Turned (view_of controller x) (mine who turns) drawn) (sym same) turned));
  }

  with_start : (new : Requester) (how : Dialling) (count : ℕ) (later : List (List ℕ)) → count ≡ 1 → IsWaiting how →
      Turned (view_of controller new) (mine who turns ++ turn_of controller who new) later → HasStarted who controller later turns new how count
  with_start new how count later one waits turned = record {
    few = omega (arith, one);
    waits = λ some. waits;
    turned = subst (λ (all : List ChannelTurn). Turned (view_of controller new) all later) (sym (one_time count (turn_of controller who new) (mine who turns) one)) turned;
  }

  started : (starts needs : Bool) (now : ℕ) (mid : Requester) (left rest_left : List (List ℕ)) (new : Requester) (after : List (List ℕ)) (how : Dialling) (dial_work : DialWork) →
      can_start mid.turn mid.waiting ≡ starts → needs_challenge mid.standing ≡ needs → IsNextTurn starts needs now mid rest_left new after → IsRest rest_left left → IsDialledBy starts how dial_work →
      IsCoherent mid → Differ (drawn ++ draws_between left after) → Turned (view_of controller mid) (mine who turns) drawn →
      HasStarted who controller (drawn ++ draws_between left after) turns new dial_work.1 (dials_in dial_work.0.actions)
  started false needs now mid left rest_left new after how dial_work can need next rest dials coherent differ turned =
      unstarted mid new dial_work.1 (dials_in dial_work.0.actions) (draws_between left after) next.0 dials.0 turned
  started true false now mid left rest_left new after how dial_work can need next rest dials coherent differ turned =
      let t : Requester = (start_of mid (timestamp_of now) (replicate 8 0)).state in
      with_start new dial_work.1 (dials_in dial_work.0.actions) (drawn ++ draws_between left after) dials.0 dials.1
      (subst (λ (x : Requester). Turned (view_of controller x) (mine who turns ++ turn_of controller who x) (drawn ++ draws_between left after)) (sym next.0)
      (turned_later (view_of controller t) (mine who turns ++ turn_of controller who t) drawn (drawn ++ draws_between left after) (λ challenge is. drawn_still challenge drawn (draws_between left after) is)
      (starts_so (mine who turns) drawn controller who (timestamp_of now) (replicate 8 0) false mid can need tt before coherent turned)))
  started true true now mid left rest_left new after how dial_work can need next rest dials coherent differ turned =
      let challenge : List ℕ = next.0 in
      let t : Requester = (start_of mid (timestamp_of now) challenge).state in
      let all : List (List ℕ) = drawn ++ draws_between left after in
      let same : all ≡ (drawn ++ rest.front) ++ challenge ∷ [] = one_drawn drawn left rest_left after rest challenge next.1 in
      let fresh : IsDrawn challenge (drawn ++ rest.front) → ⊥ = fresh_last (drawn ++ rest.front) challenge (subst Differ same differ) in
      with_start new dial_work.1 (dials_in dial_work.0.actions) all dials.0 dials.1
      (subst (λ (x : Requester). Turned (view_of controller x) (mine who turns ++ turn_of controller who x) all) (sym next.2)
      (turned_later (view_of controller t) (mine who turns ++ turn_of controller who t) (drawn ++ challenge ∷ []) all
      (λ one is. subst (IsDrawn one) (sym same) (drawn_between one drawn rest.front challenge is))
      (starts_so (mine who turns) drawn controller who (timestamp_of now) challenge true mid can need (λ is. fresh (drawn_still challenge drawn rest.front is)) before coherent turned)))

  free_by : (part : Result (Part DialWork) StepRefused) (running : Running) (what : Event) (now : ℕ) (left : List (List ℕ)) (d : Option EndId) (rest : Given) (dials : List WaitingDial) (given : Given) →
      TurnStepsIfTaken running.logons.channel (by_event what running.dialling (work_of running) left) now part →
      InOrderUnlessStopped (step_by actions_in state_in halted_state left part).state.running → dials_out (asking_end who) d rest dials ≡ 0 → given_dials (asking_end who) given ≡ 0 → IsCoherent running.logons.channel →
      Turned (view_of controller running.logons.channel) (mine who turns) drawn → Differ (drawn ++ (step_by actions_in state_in halted_state left part).drawn) →
      let actions : List Action = actions_by (step_by actions_in state_in halted_state left part).answer in
      TurnsIf who controller d (given_by (asking_end who) actions ++ rest) dials (drawn ++ (step_by actions_in state_in halted_state left part).drawn) (given ++ given_by (asking_end who) actions) turns
      (step_by actions_in state_in halted_state left part).state.running
  free_by (Err why) running what now left d rest dials given steps order out none coherent turned differ = tt
  free_by (Ok part) running what now left d rest dials given steps order out none coherent turned differ =
      let w : Work = steps.part.value.0 in
      let mid : Requester = ready_channel w in
      let actions : List Action = part.value.0.actions in
      let comes = comes_so (mine who turns) drawn controller running.logons.channel w.logons.channel steps.comes coherent turned in
      let rest_left : IsRest steps.part.left left =
      subst (λ (first : Result (Part DialWork) StepRefused). IsRest (left_by first) left) steps.is (event_rest what running.dialling (work_of running) left) in
      let has : HasStarted who controller (drawn ++ draws_between left part.left) turns part.value.0.logons.channel part.value.1 (dials_in actions) =
      started (can_start mid.turn mid.waiting) (needs_challenge mid.standing) now mid left steps.part.left part.value.0.logons.channel part.left steps.part.value.1 part.value refl refl steps.next
      rest_left steps.dials (ready_coherent w comes.0) differ comes.1 in
      let count : given_dials (asking_end who) (given_by (asking_end who) actions) ≡ dials_in actions = given_own (asking_end who) (asking_end who) actions (is_itself who) in
      let given_after : given_dials (asking_end who) (given ++ given_by (asking_end who) actions) ≡ dials_in actions = omega (arith, given_append (asking_end who) given (given_by (asking_end who) actions), count, none) in
      let rest_after : given_dials (asking_end who) (given_by (asking_end who) actions ++ rest) ≡ dials_in actions + given_dials (asking_end who) rest = omega (arith, given_append (asking_end who) (given_by (asking_end who) actions) rest, count) in
      let out_after : dials_out (asking_end who) d (given_by (asking_end who) actions ++ rest) dials ≡ dials_in actions = omega (arith, rest_after, out) in
      record {
        order = order;
        out_once = omega (arith, out_after, has.few);
        out_waits = λ some. has.waits (omega (arith, out_after, some));
        given_once = omega (arith, given_after, has.few);
        given_waits = λ some. (has.waits (omega (arith, given_after, some)), omega (arith, out));
        turned = subst
            (λ (n : ℕ). Turned (view_of controller part.value.0.logons.channel) (mine who turns ++ times n (turn_of controller who part.value.0.logons.channel)) (drawn ++ draws_between left part.left))
            (sym given_after) has.turned;
      }

-- ---- a step while the dial waits

pub stands_same : (controller : ℕ) (old new : Requester) → new.caller ≡ old.caller → new.standing ≡ old.standing →
    stands_in controller new.caller.computer new.standing ≡ stands_in controller old.caller.computer old.standing
stands_same controller old new caller standing =
    ap (λ (c : Caller). stands_in controller c.computer new.standing) caller ∙ ap (λ (how : Standing). stands_in controller old.caller.computer how) standing

pub turn_same : (controller : ℕ) (who : RequesterId) (old new : Requester) → new.caller ≡ old.caller → new.standing ≡ old.standing → new.turn ≡ old.turn → turn_of controller who new ≡ turn_of controller who old
turn_same controller who old new caller standing turn =
    ap (λ (t : Option Pending). turn_by (step_in t) (stands_in controller new.caller.computer new.standing) who) turn
    ∙ ap (λ (c : Option ChannelIdentity). turn_by (step_in old.turn) c who) (stands_same controller old new caller standing)

opening_same : (old new : Requester) → new.standing ≡ old.standing → new.turn ≡ old.turn → opening_in new.standing (step_in new.turn) ≡ opening_in old.standing (step_in old.turn)
opening_same old new standing turn =
    ap (λ (how : Standing). opening_in how (step_in new.turn)) standing ∙ ap (λ (t : Option Pending). opening_in old.standing (step_in t)) turn

module _ (who : RequesterId) (controller : ℕ) (turns : List ChannelTurn) where
  waits_by : (part : Result (Part DialWork) StepRefused) (running : Running) (left : List (List ℕ)) (d : Option EndId) (rest : Given) (dials : List WaitingDial) (drawn : List (List ℕ)) (given : Given) →
      StaysOutIfTaken running.logons.channel running.dialling part → InOrderUnlessStopped (step_by actions_in state_in halted_state left part).state.running →
      TurnsOf who controller d rest dials drawn given turns running →
      let actions : List Action = actions_by (step_by actions_in state_in halted_state left part).answer in
      TurnsIf who controller d (given_by (asking_end who) actions ++ rest) dials (drawn ++ (step_by actions_in state_in halted_state left part).drawn) (given ++ given_by (asking_end who) actions) turns
      (step_by actions_in state_in halted_state left part).state.running
  waits_by (Err why) running left d rest dials drawn given stays order old = tt
  waits_by (Ok part) running left d rest dials drawn given stays order old =
      let actions : List Action = part.value.0.actions in
      let before : Requester = running.logons.channel in
      let new : Requester = part.value.0.logons.channel in
      let later : List (List ℕ) = drawn ++ draws_between left part.left in
      let count : given_dials (asking_end who) (given_by (asking_end who) actions) ≡ 0 = given_own (asking_end who) (asking_end who) actions (is_itself who) ∙ stays.none in
      let given_after : given_dials (asking_end who) (given ++ given_by (asking_end who) actions) ≡ given_dials (asking_end who) given = omega (arith, given_append (asking_end who) given (given_by (asking_end who) actions), count) in
      let rest_after : given_dials (asking_end who) (given_by (asking_end who) actions ++ rest) ≡ given_dials (asking_end who) rest = omega (arith, given_append (asking_end who) (given_by (asking_end who) actions) rest, count) in
      let own : List ChannelTurn = mine who turns ++ times (given_dials (asking_end who) given) (turn_of controller who before) in
      let same : mine who turns ++ times (given_dials (asking_end who) (given ++ given_by (asking_end who) actions)) (turn_of controller who new) ≡ own =
      ap (λ (n : ℕ). mine who turns ++ times n (turn_of controller who new)) given_after
      ∙ ap (λ (l : List ChannelTurn). mine who turns ++ times (given_dials (asking_end who) given) l) (turn_same controller who before new stays.caller stays.standing stays.turn) in
      record {
        order = order;
        out_once = omega (arith, rest_after, old.out_once);
        out_waits = λ some. subst IsWaiting (sym stays.dialling) (old.out_waits (omega (arith, rest_after, some)));
        given_once = omega (arith, given_after, old.given_once);
        given_waits = λ some. let was = old.given_waits (omega (arith, given_after, some)) in (subst IsWaiting (sym stays.dialling) was.0, was.1);
        turned = subst (λ (all : List ChannelTurn). Turned (view_of controller new) all later) (sym same)
            (turned_later (view_of controller new) own drawn later (λ challenge is. drawn_still challenge drawn (draws_between left part.left) is)
            (turned_alike (view_of controller before) (view_of controller new) own drawn (stands_same controller before new stays.caller stays.standing) (ap seed_in stays.standing)
            (opening_same before new stays.standing stays.turn) old.turned));
      }

-- ---- a step

-- the dial of that end isn't answered in the event; or it is
abbrev pub Answers : EndId → Event → Option EndId → Option EndId → Given → Type 0
Answers end what d later rest = (IsNoAnswer what × (later ≡ d)) ⊎ ((d ≡ Some end) × (later ≡ None) × (rest ≡ []))

pub waits_case : (how : Dialling) → IsWaiting how ⊎ (IsWaiting how → ⊥)
waits_case dialling.Nothing = inr (λ waits. waits)
waits_case (dialling.Waits turn frames) = inl tt
waits_case (dialling.On number said) = inr (λ waits. waits)

pub waits_dialled : (how : Dialling) → IsWaiting how → is_dialled how ≡ true
waits_dialled dialling.Nothing waits = absurd waits
waits_dialled (dialling.Waits turn frames) waits = refl
waits_dialled (dialling.On number said) waits = absurd waits

pub none_of : (n : ℕ) → n ≤ 1 → (1 ≤ n → ⊥) → n ≡ 0
none_of n few never = elim (none_or_one n few) [ inl none ↦ none | inr one ↦ absurd (never (omega (arith, one))) ]

module _ (who : RequesterId) (controller : ℕ) (turns : List ChannelTurn) where
  order_after : (running : Running) (what : Event) (now : ℕ) (left : List (List ℕ)) → IsInOrder (is_dialled running.dialling) running.logons →
      InOrderUnlessStopped (step_by actions_in state_in halted_state left (event_part running what now left)).state.running
  order_after running what now left order = asks_what_waits.keeps (record { running = Some running }) running what now left refl order

  free_step : (running : Running) (what : Event) (now : ℕ) (left : List (List ℕ)) (d later : Option EndId) (rest : Given) (dials : List WaitingDial) (drawn : List (List ℕ)) (given : Given) →
      dials_out (asking_end who) later rest dials ≡ 0 → given_dials (asking_end who) given ≡ 0 → TurnsOf who controller d rest dials drawn given turns running → AreDrawn drawn (mine who turns) →
      Differ (drawn ++ (step_by actions_in state_in halted_state left (event_part running what now left)).drawn) →
      let actions : List Action = actions_by (step_by actions_in state_in halted_state left (event_part running what now left)).answer in
      TurnsIf who controller later (given_by (asking_end who) actions ++ rest) dials (drawn ++ (step_by actions_in state_in halted_state left (event_part running what now left)).drawn)
      (given ++ given_by (asking_end who) actions) turns (step_by actions_in state_in halted_state left (event_part running what now left)).state.running
  free_step running what now left d later rest dials drawn given out none old before differ =
      free_by who controller drawn turns before (event_part running what now left) running what now left later rest dials given (turns_dialled.starts running what now left)
      (order_after running what now left old.order) out none old.order.coherent
      (subst (λ (all : List ChannelTurn). Turned (view_of controller running.logons.channel) all drawn)
      (no_times (given_dials (asking_end who) given) (turn_of controller who running.logons.channel) (mine who turns) none) old.turned) differ

  pub member_step : (r : Option Running) (what : Event) (now : ℕ) (left : List (List ℕ)) (d later : Option EndId) (rest : Given) (dials : List WaitingDial) (drawn : List (List ℕ)) (given : Given) →
      Answers (asking_end who) what d later rest → TurnsIf who controller d rest dials drawn given turns r → AreDrawn drawn (mine who turns) →
      let step = step_of (record { running = r }) what now left in
      Differ (drawn ++ step.drawn) →
      TurnsIf who controller later (given_by (asking_end who) (actions_by step.answer) ++ rest) dials (drawn ++ step.drawn) (given ++ given_by (asking_end who) (actions_by step.answer)) turns step.state.running
  member_step None what now left d later rest dials drawn given answers old before differ = tt
  member_step (Some running) what now left d later rest dials drawn given answers old before differ = elim answers [
    | inl quiet ↦
        elim (waits_case running.dialling) [
          | inl waits ↦
              subst
              (λ (e : Option EndId).
              let step = step_of (record { running = Some running }) what now left in
              TurnsIf who controller e (given_by (asking_end who) (actions_by step.answer) ++ rest) dials (drawn ++ step.drawn) (given ++ given_by (asking_end who) (actions_by step.answer)) turns
              step.state.running) (sym quiet.1)
              (waits_by who controller turns (event_part running what now left) running left d rest dials drawn given
              (turns_dialled.waits running what now left waits quiet.0 (subst (λ (b : Bool). IsInOrder b running.logons) (waits_dialled running.dialling waits) old.order))
              (order_after running what now left old.order) old)
          | inr not_so ↦
              free_step running what now left d later rest dials drawn given
              (subst (λ (e : Option EndId). dials_out (asking_end who) e rest dials ≡ 0) (sym quiet.1) (none_of (dials_out (asking_end who) d rest dials) old.out_once (λ some. not_so (old.out_waits some))))
              (none_of (given_dials (asking_end who) given) old.given_once (λ some. not_so (old.given_waits some).0)) old before differ
        ]
    | inr answered ↦
        let one : answered_dials (asking_end who) d ≡ 1 = ap (λ (e : Option EndId). answered_dials (asking_end who) e) answered.0 ∙ ap one_if (is_itself who) in
        let rest_none : given_dials (asking_end who) rest ≡ 0 = ap (λ (g : Given). given_dials (asking_end who) g) answered.2 in
        let now_none : answered_dials (asking_end who) later ≡ 0 = ap (λ (e : Option EndId). answered_dials (asking_end who) e) answered.1 in
        free_step running what now left d later rest dials drawn given (omega (arith, one, rest_none, now_none, old.out_once))
        (none_of (given_dials (asking_end who) given) old.given_once (λ some. absurd (omega (arith, (old.given_waits some).1, one)))) old before differ
  ]
