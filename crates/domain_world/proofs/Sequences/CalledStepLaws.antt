-- One step of a member keeps what is known of the calls of its turns.
-- It serves `Proved.sequences`.
use Rattle.std.proofs.Common.{◌≡◌, ◌⊎◌, ℕ, zero, suc, ◌+◌, ◌≤◌, Bool, true, false, List, [], ◌∷◌, ◌++◌, replicate, inl, inr, Some, None, Result, slice_get, refl, sym, ap, subst, ◌∙◌, arith}
use Rattle.outside.specs.Drawing.{IsRest, draws_between}
use Rattle.outside.specs.Machine.{Part, left_by}
use Rattle.outside.specs.declared.action.Action.{Action}
use Rattle.outside.specs.declared.action.StepRefused.{StepRefused}
use Rattle.outside.specs.declared.event.Event.{Event}
use Rattle.authenticators.specs.Channels.{ChannelIdentity}
use Rattle.member_server.specs.declared.state.Work.{Work}
use Rattle.channel_client.specs.Effects.{IsCoherent, stands_in, view_of}
use Rattle.channel_client.specs.Machine.{can_start, needs_challenge, start_of}
use Rattle.channel_client.specs.State.{Requester}
use Rattle.channel_events.specs.Marks.{Mark, Calling}
use Rattle.channel_events.specs.Requests.{IsDrawn}
use Rattle.member_server.specs.ChannelSteps.{IsNextTurn}
use Rattle.member_server.specs.Dials.{IsDialledBy, IsWaiting, TurnSteps, dials_in}
use Rattle.member_server.specs.Machine.{by_event, work_of}
use Rattle.member_server.specs.Turns.{DialWork, timestamp_of, ready_channel}
use Rattle.channel_turns.specs.declared.state.Dialling.{Dialling}
use Rattle.member_server.specs.declared.state.Running.{Running}
use Rattle.step_notes.specs.MemberNotes.{turn_of}
use Rattle.step_notes.specs.Records.{ChannelTurn, RequesterId}
use Rattle.step_notes.proofs.Members.RestLaws.{event_rest}
use Rattle.world_moves.specs.Acting.{Given, given_by}
use Rattle.domain_world.specs.Accepting.SeenSteps.{Differ}
use Rattle.domain_world.proofs.Calls.ReadyLaws.{ready_coherent}
use Rattle.domain_world.proofs.Calls.StepApartLaws.{fresh_last}
use Rattle.domain_world.proofs.Sequences.CallTurnLaws.{KnowsCalls, calls_still, start_knows}
use Rattle.domain_world.proofs.Sequences.DialCountLaws.{given_append, given_dials, given_own}
use Rattle.domain_world.proofs.Sequences.Own.OwnFrameLaws.{StillDrawn, still_drawn}
use Rattle.domain_world.proofs.Sequences.Own.OwnTurnLaws.{AreDrawn, both_drawn, drawn_between, mine, one_drawn, turn_drawn}
use Rattle.domain_world.proofs.Sequences.SeedTurnLaws.{Turned, comes_so, drawn_still, starts_so, turned_later}
use Rattle.domain_world.proofs.Moves.RequesterLaws.{asking_end, is_itself}

-- ---- what is known of a member that runs

-- The member's turns, with those that started in this move, and the calls of these. Where it dialled once in this move,
-- and the dial waits, its turn is that one.
pub record OwnCalls (Done : ℕ → Type 0) (marks : List Mark) (drawn : List (List ℕ)) (turns : List ChannelTurn) (given : Given) (controller : ℕ) (who : RequesterId) (running : Running) : Type 0 where
  pub own : List ChannelTurn
  pub none : given_dials (asking_end who) given ≡ 0 → own ≡ mine who turns
  pub one : given_dials (asking_end who) given ≡ 1 → IsWaiting running.dialling → own ≡ mine who turns ++ turn_of controller who running.logons.channel
  pub before : AreDrawn drawn own
  pub turned : Turned (view_of controller running.logons.channel) own drawn
  pub calls : KnowsCalls Done marks own controller running.logons.channel

-- more is written down and drawn, and more is answered
pub own_grows : (Done Later : ℕ → Type 0) (so : (n : ℕ) → Done n → Later n) (marks later : List Mark) (drawn after : List (List ℕ)) (turns : List ChannelTurn) (given more : Given) (controller : ℕ) (who : RequesterId) (running : Running) →
    ((j : ℕ) (mark : Mark) → slice_get marks j ≡ Some mark → slice_get later j ≡ Some mark) →
    ((c : ChannelIdentity) → stands_in controller running.logons.channel.caller.computer running.logons.channel.standing ≡ Some c → (n number timestamp : ℕ) (d : ChannelIdentity) →
    slice_get later n ≡ Some (Calling d number timestamp) → d.client ≡ c.client → slice_get marks n ≡ Some (Calling d number timestamp)) →
    given_dials (asking_end who) more ≡ given_dials (asking_end who) given → StillDrawn drawn after → OwnCalls Done marks drawn turns given controller who running → OwnCalls Later later after turns more controller who running
own_grows Done Later so marks later drawn after turns given more controller who running still new same grown old = record {
  own = old.own;
  none = λ none. old.none (sym same ∙ none);
  one = λ one waits. old.one (sym same ∙ one) waits;
  before = still_drawn drawn after old.own grown old.before;
  turned = turned_later (view_of controller running.logons.channel) old.own drawn after grown old.turned;
  calls = λ c is. calls_still Done Later so marks later old.own c still (new c is) running.logons.channel.turn (old.calls c is);
}

-- ---- a step

record Next (Done : ℕ → Type 0) (marks : List Mark) (drawn : List (List ℕ)) (own : List ChannelTurn) (controller : ℕ) (who : RequesterId) (new : Requester) (count : ℕ) : Type 0 where
  turns : List ChannelTurn
  none : count ≡ 0 → turns ≡ own
  one : 1 ≤ count → turns ≡ own ++ turn_of controller who new
  few : count ≤ 1
  before : AreDrawn drawn turns
  turned : Turned (view_of controller new) turns drawn
  calls : KnowsCalls Done marks turns controller new

module _ (Done : ℕ → Type 0) (marks : List Mark) (drawn : List (List ℕ)) (own : List ChannelTurn) (controller : ℕ) (who : RequesterId) (before : AreDrawn drawn own) where
  with_turn : (new : Requester) (count : ℕ) (later : List (List ℕ)) → count ≡ 1 → StillDrawn drawn later → Turned (view_of controller new) (own ++ turn_of controller who new) later →
      KnowsCalls Done marks (own ++ turn_of controller who new) controller new → Next Done marks later own controller who new count
  with_turn new count later one still turned calls = record {
    turns = own ++ turn_of controller who new;
    none = λ none. absurd (omega (arith, one, none));
    one = λ some. refl;
    few = omega (arith, one);
    before = both_drawn later own (turn_of controller who new) (still_drawn drawn later own still before) (turn_drawn controller who new (own ++ turn_of controller who new) later turned);
    turned = turned;
    calls = calls;
  }

  next_calls : (starts needs : Bool) (now : ℕ) (mid : Requester) (left rest_left : List (List ℕ)) (new : Requester) (after : List (List ℕ)) (how : Dialling) (dial_work : DialWork) →
      can_start mid.turn mid.waiting ≡ starts → needs_challenge mid.standing ≡ needs → IsNextTurn starts needs now mid rest_left new after → IsRest rest_left left → IsDialledBy starts how dial_work →
      IsCoherent mid → Differ (drawn ++ draws_between left after) → Turned (view_of controller mid) own drawn → KnowsCalls Done marks own controller mid →
      Next Done marks (drawn ++ draws_between left after) own controller who new (dials_in dial_work.0.actions)
  next_calls false needs now mid left rest_left new after how dial_work can need next rest dials coherent differ turned calls =
      let still : StillDrawn drawn (drawn ++ draws_between left after) = λ challenge is. drawn_still challenge drawn (draws_between left after) is in
      record {
        turns = own;
        none = λ none. refl;
        one = λ some. absurd (omega (arith, dials.0, some));
        few = omega (arith, dials.0);
        before = still_drawn drawn (drawn ++ draws_between left after) own still before;
        turned = subst (λ (x : Requester). Turned (view_of controller x) own (drawn ++ draws_between left after)) (sym next.0)
            (turned_later (view_of controller mid) own drawn (drawn ++ draws_between left after) still turned);
        calls = subst (λ (x : Requester). KnowsCalls Done marks own controller x) (sym next.0) calls;
      }
  next_calls true false now mid left rest_left new after how dial_work can need next rest dials coherent differ turned calls =
      let t : Requester = (start_of mid (timestamp_of now) (replicate 8 0)).state in
      let later : List (List ℕ) = drawn ++ draws_between left after in
      let still : StillDrawn drawn later = λ challenge is. drawn_still challenge drawn (draws_between left after) is in
      with_turn new (dials_in dial_work.0.actions) later dials.0 still
      (subst (λ (x : Requester). Turned (view_of controller x) (own ++ turn_of controller who x) later) (sym next.0)
      (turned_later (view_of controller t) (own ++ turn_of controller who t) drawn later still (starts_so own drawn controller who (timestamp_of now) (replicate 8 0) false mid can need tt before coherent turned)))
      (subst (λ (x : Requester). KnowsCalls Done marks (own ++ turn_of controller who x) controller x) (sym next.0)
      (start_knows Done marks own controller who (timestamp_of now) (replicate 8 0) mid can calls))
  next_calls true true now mid left rest_left new after how dial_work can need next rest dials coherent differ turned calls =
      let challenge : List ℕ = next.0 in
      let t : Requester = (start_of mid (timestamp_of now) challenge).state in
      let later : List (List ℕ) = drawn ++ draws_between left after in
      let still : StillDrawn drawn later = λ one is. drawn_still one drawn (draws_between left after) is in
      let same : later ≡ (drawn ++ rest.front) ++ challenge ∷ [] = one_drawn drawn left rest_left after rest challenge next.1 in
      let fresh : IsDrawn challenge (drawn ++ rest.front) → ⊥ = fresh_last (drawn ++ rest.front) challenge (subst Differ same differ) in
      with_turn new (dials_in dial_work.0.actions) later dials.0 still
      (subst (λ (x : Requester). Turned (view_of controller x) (own ++ turn_of controller who x) later) (sym next.2)
      (turned_later (view_of controller t) (own ++ turn_of controller who t) (drawn ++ challenge ∷ []) later
      (λ one is. subst (IsDrawn one) (sym same) (drawn_between one drawn rest.front challenge is))
      (starts_so own drawn controller who (timestamp_of now) challenge true mid can need (λ is. fresh (drawn_still challenge drawn rest.front is)) before coherent turned)))
      (subst (λ (x : Requester). KnowsCalls Done marks (own ++ turn_of controller who x) controller x) (sym next.2)
      (start_knows Done marks own controller who (timestamp_of now) challenge mid can calls))

-- what the event comes to is known, and the next turn may start
pub step_calls : (Done : ℕ → Type 0) (marks : List Mark) (drawn : List (List ℕ)) (turns : List ChannelTurn) (given : Given) (controller : ℕ) (who : RequesterId) (running : Running) (what : Event) (now : ℕ) (left : List (List ℕ))
    (part : Part DialWork) (own : List ChannelTurn) (steps : TurnSteps running.logons.channel (by_event what running.dialling (work_of running) left) now part) → AreDrawn drawn own →
    (given_dials (asking_end who) given ≡ 0 → own ≡ mine who turns) →
    (dials_in part.value.0.actions ≡ 0 → given_dials (asking_end who) given ≡ 1 → IsWaiting part.value.1 → own ≡ mine who turns ++ turn_of controller who part.value.0.logons.channel) → IsCoherent running.logons.channel →
    Turned (view_of controller running.logons.channel) own drawn → KnowsCalls Done marks own controller steps.part.value.0.logons.channel → Differ (drawn ++ draws_between left part.left) →
    OwnCalls Done marks (drawn ++ draws_between left part.left) turns (given ++ given_by (asking_end who) part.value.0.actions) controller who
    (record { logons = part.value.0.logons; links = part.value.0.links; dialling = part.value.1; sealing = None })
step_calls Done marks drawn turns given controller who running what now left part own steps before none still coherent turned calls differ =
    let w : Work = steps.part.value.0 in
    let mid : Requester = ready_channel w in
    let actions : List Action = part.value.0.actions in
    let comes = comes_so own drawn controller running.logons.channel w.logons.channel steps.comes coherent turned in
    let rest_left : IsRest steps.part.left left =
    subst (λ (first : Result (Part DialWork) StepRefused). IsRest (left_by first) left) steps.is (event_rest what running.dialling (work_of running) left) in
    let next : Next Done marks (drawn ++ draws_between left part.left) own controller who part.value.0.logons.channel (dials_in actions) =
    next_calls Done marks drawn own controller who before (can_start mid.turn mid.waiting) (needs_challenge mid.standing) now mid left steps.part.left part.value.0.logons.channel part.left
    steps.part.value.1 part.value refl refl steps.next rest_left steps.dials (ready_coherent w comes.0) differ comes.1 calls in
    let count : given_dials (asking_end who) (given ++ given_by (asking_end who) actions) ≡ given_dials (asking_end who) given + dials_in actions =
    omega (arith, given_append (asking_end who) given (given_by (asking_end who) actions), given_own (asking_end who) (asking_end who) actions (is_itself who)) in
    record {
      own = next.turns;
      none = λ is.
          (let no_dials : dials_in actions ≡ 0 = omega (arith, count, is) in
          let no_given : given_dials (asking_end who) given ≡ 0 = omega (arith, count, is) in next.none no_dials ∙ none no_given);
      one = λ is waits. elim (zero_or (dials_in actions)) [
        | inl no_dials ↦
            (let was : given_dials (asking_end who) given ≡ 1 = omega (arith, count, is, no_dials) in next.none no_dials ∙ still no_dials was waits)
        | inr some ↦
            (let no_given : given_dials (asking_end who) given ≡ 0 = omega (arith, count, is, some) in
            next.one some ∙ ap (λ (l : List ChannelTurn). l ++ turn_of controller who part.value.0.logons.channel) (none no_given))
      ];
      before = next.before;
      turned = next.turned;
      calls = next.calls;
    }
  where
    zero_or : (n : ℕ) → (n ≡ 0) ⊎ (1 ≤ n)
    zero_or zero = inl refl
    zero_or (suc n) = inr (omega arith)
