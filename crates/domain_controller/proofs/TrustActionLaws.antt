-- The order of a step's actions at a controller that asks others. It serves `actions_stand_in_order`.
use Rattle.std.proofs.Common.{◌≡◌, ◌⊎◌, ◌==◌, ◌++◌, ℕ, Bool, true, false, inl, inr, nat_le, List, [], ◌∷◌, Option, Some, None, Result, Ok, Err, slice_get, refl, sym, ap, subst, ◌∙◌, append_assoc, ◌<◌, zero, suc, length, arith}
use Rattle.std.proofs.lemmas.Bool.Decides.{Decides-eqb}
use Rattle.std.proofs.lemmas.List.{append-nil}
use Rattle.std.specs.List.{AllByRecursion}
use Rattle.wire_base.specs.Maps.{lookup, same_number, take_out}
use Rattle.outside.specs.Machine.{Part, Stepped, spent_step, step_by, then_part}
use Rattle.outside.specs.declared.action.Action.{Action}
use Rattle.outside.specs.declared.action.Action.TheVariants as action
use Rattle.outside.specs.declared.action.CloseCause.{CloseCause}
use Rattle.outside.specs.declared.action.CloseCause.TheVariants as close
use Rattle.outside.specs.declared.action.Judged.TheVariants as judged
use Rattle.outside.specs.declared.action.StepRefused.{StepRefused}
use Rattle.outside.specs.declared.event.Event.{Event}
use Rattle.outside.specs.declared.event.Event.TheVariants as event
use Rattle.rpc_units.specs.Stream.{cut_stream}
use Rattle.logon_stubs.specs.Status.{no_logon_servers}
use Rattle.logon_stubs.specs.declared.calls.Reply.{Reply}
use Rattle.logon_stubs.specs.declared.info.Verdict.{Verdict}
use Rattle.logon_stubs.specs.declared.info.Verdict.TheVariants.{Status}
use Rattle.account_table.specs.AccountTable.{AccountTable}
use Rattle.account_table.specs.declared.account.Trust.{Trust}
use Rattle.end_links.specs.Links.{LinkState}
use Rattle.end_links.specs.Sending.{joined_frames}
use Rattle.end_links.specs.Serving.{ServedPart, served_cut}
use Rattle.end_loop.specs.Runs.{actions_of}
use Rattle.channel_client.specs.Machine.{take_of}
use Rattle.channel_client.specs.State.{Requester}
use Rattle.channel_turns.proofs.KeepLaws.{StaysOnTurns, taken_by, turn_stays}
use Rattle.channel_turns.specs.Dials.{NextTurn, next_turn as channel_turn}
use Rattle.channel_turns.specs.Turning.{Turned, answer_by, close_if, dial_for, dial_part, fail_by, hear_by, hear_if, is_on, is_waiting, link_answers, link_closes, link_hears, no_dial}
use Rattle.channel_turns.specs.Turns.{TurnServed}
use Rattle.channel_turns.specs.declared.state.Dialling.{Dialling}
use Rattle.channel_turns.specs.declared.state.Dialling.TheVariants as dialling
use Rattle.channel_turns.specs.declared.state.TurnEnd.{TurnEnd}
use Rattle.channel_turns.specs.declared.state.TurnEnd.TheVariants as turn_end
use Rattle.channel_turns.specs.declared.state.TurnEnded.{TurnEnded}
use Rattle.channel_turns.specs.declared.state.TurnTalk.{TurnTalk}
use Rattle.channel_turns.specs.declared.state.TurnWork.{TurnWork}
use Rattle.channel_turns.specs.declared.state.Turning.{Turning}
use Rattle.controller_calls.specs.Desk.{tell}
use Rattle.controller_calls.specs.Forwarded.{ForwardedState}
use Rattle.controller_calls.specs.Handing.{forwarded_reply, reply_if}
use Rattle.controller_calls.specs.Logons.{status_of}
use Rattle.controller_calls.specs.declared.line.Line.{Line}
use Rattle.controller_calls.specs.declared.state.Work.{Work}
use Rattle.domain_controller.specs.Forwarding.{after_ended, answer_found, close_ended, end_turn, trust_desk, trust_server}
use Rattle.domain_controller.specs.State.{State}
use Rattle.domain_controller.specs.Step.{LinkMap}
use Rattle.domain_controller.specs.TrustActions.{ActsInOrder, AreAnswer, AreOfTurn, AreOpening, IsAskedOf, IsSendOn, IsServedOn, ThenDials, answer_of, are_full, close_on, dial_of, others_open, reply_on}
use Rattle.domain_controller.specs.TrustLaws.{OneIsOut}
use Rattle.domain_controller.specs.TrustStep.{TrustPart, TrustParts, after_turned, after_units, answer_dial, by_trust_event, close_by, close_number, event_and_turn, fail_dial, first_waiting, is_idle, link_with, next_if, next_part, next_turn, open_by, open_number, parts_of, put_open, serve_bytes, serve_on, start_at, start_on, trust_halted, trust_part, trust_state_after, trust_step_on, trusting_after, turn_at, turned_work, turning_of, without_link}
use Rattle.domain_controller.specs.Trusting.{ForwardedCalls, same_place}
use Rattle.domain_controller.specs.declared.state.Running.{Running}
use Rattle.domain_controller.specs.declared.state.Talk.{Talk}
use Rattle.domain_controller.specs.declared.trusting.Parts.{Parts}
use Rattle.domain_controller.specs.declared.trusting.TrustWork.{TrustWork}
use Rattle.domain_controller.specs.declared.trusting.Trusting.{Trusting}
use Rattle.domain_controller.proofs.TrustSendLaws.{TrustAdds, link_serves}
use Rattle.domain_controller.proofs.TrustWalkLaws.{AddsTo, adds_both, adds_none, adds_one}

-- ---- what is done of a turn

-- where a turn ended, its link is that one, where it is closed
abbrev IsClosedOn : ℕ → Option (ℕ × CloseCause) → Type 0
IsClosedOn link None = Unit {0}
IsClosedOn link (Some closes) = closes.0 ≡ link

abbrev EndsOn : ℕ → Option TurnEnded → Type 0
EndsOn link None = Unit {0}
EndsOn link (Some ended) = IsClosedOn link ended.closes

-- nothing was closed
abbrev EndsLost : Option TurnEnded → Type 0
EndsLost None = Unit {0}
EndsLost (Some ended) = ended.closes ≡ None

abbrev closing : Option (ℕ × CloseCause) → List Action
closing None = []
closing (Some closes) = action.Close closes.0 closes.1 ∷ []

abbrev closes_of : Option TurnEnded → Option (ℕ × CloseCause)
closes_of None = None
closes_of (Some ended) = ended.closes

-- ---- the answer to a logon is added, or none is

record AddsAnswer (trust : ℕ) (calls : ForwardedCalls) (before after : List Action) : Type 0 where
  answer : Option (Verdict × ForwardedState)
  of : IsAskedOf trust calls answer
  is : after ≡ before ++ answer_of answer

no_answer : (trust : ℕ) (calls : ForwardedCalls) (before : List Action) → AddsAnswer trust calls before before
no_answer trust calls before = record { answer = None; of = tt; is = sym (append-nil before) }

reply_adds : (line : Option Line) (answer : Reply) (work : Work) → (reply_if line answer work).actions ≡ work.actions ++ reply_on line answer
reply_adds None answer work = sym (append-nil work.actions)
reply_adds (Some line) answer work = refl

found_adds : (found : Option ForwardedState) (trust place : ℕ) (verdict : Verdict) (w : TrustWork) → lookup same_place (trust, place) w.queues.forwarded ≡ found →
    AddsAnswer trust w.queues.forwarded w.work.actions (answer_found found (trust, place) verdict w).work.actions
found_adds None trust place verdict w is = no_answer trust w.queues.forwarded w.work.actions
found_adds (Some f) trust place verdict w is =
    let what : Action = action.Judged (judged.Answered (status_of verdict)) in
    record {
      answer = Some (verdict, f);
      of = (place, is);
      is = reply_adds f.line (forwarded_reply f verdict) (tell w.work what) ∙ append_assoc w.work.actions (what ∷ []) (reply_on f.line (forwarded_reply f verdict));
    }

end_adds : (how : TurnEnd) (trust : ℕ) (w : TrustWork) → AddsAnswer trust w.queues.forwarded w.work.actions (end_turn how trust w).work.actions
end_adds turn_end.Half trust w = no_answer trust w.queues.forwarded w.work.actions
end_adds turn_end.Opened trust w = no_answer trust w.queues.forwarded w.work.actions
end_adds turn_end.Set trust w = no_answer trust w.queues.forwarded w.work.actions
end_adds (turn_end.Answer place verdict) trust w = found_adds (lookup same_place (trust, place) w.queues.forwarded) trust place verdict w refl
end_adds (turn_end.Dropped place cause) trust w = found_adds (lookup same_place (trust, place) w.queues.forwarded) trust place (Status no_logon_servers) w refl

-- behind the close of the link of the turn
record AddsEnd (trust : ℕ) (calls : ForwardedCalls) (closes : Option (ℕ × CloseCause)) (before after : List Action) : Type 0 where
  answer : Option (Verdict × ForwardedState)
  of : IsAskedOf trust calls answer
  is : after ≡ before ++ (closing closes ++ answer_of answer)

closed_adds : (closes : Option (ℕ × CloseCause)) (w : TrustWork) → (close_ended closes w).work.actions ≡ w.work.actions ++ closing closes
closed_adds None w = sym (append-nil w.work.actions)
closed_adds (Some closes) w = refl

closed_queues : (closes : Option (ℕ × CloseCause)) (w : TrustWork) → (close_ended closes w).queues.forwarded ≡ w.queues.forwarded
closed_queues None w = refl
closed_queues (Some closes) w = refl

ended_adds : (ended : Option TurnEnded) (trust : ℕ) (w : TrustWork) → AddsEnd trust w.queues.forwarded (closes_of ended) w.work.actions (after_ended ended trust w).work.actions
ended_adds None trust w = record { answer = None; of = tt; is = sym (append-nil w.work.actions) }
ended_adds (Some ended) trust w =
    let middle : TrustWork = close_ended ended.closes w in
    let adds = end_adds ended.how trust middle in
    record {
      answer = adds.answer;
      of = subst (λ (calls : ForwardedCalls). IsAskedOf trust calls adds.answer) (closed_queues ended.closes w) adds.of;
      is = adds.is
          ∙ ap (λ (front : List Action). front ++ answer_of adds.answer) (closed_adds ended.closes w)
          ∙ append_assoc w.work.actions (closing ended.closes) (answer_of adds.answer);
    }

-- ---- events on the link of the turn

-- sends on that link are added, and it is the one that is closed
record GoesOn (link : ℕ) (before : List Action) (turned : Turned) : Type 0 where
  sends : AddsTo (IsSendOn link) before turned.0.actions
  ends : EndsOn link turned.1

stays_on : (link : ℕ) (turning : Turning) → GoesOn link turning.actions (turning, None)
stays_on link turning = record { sends = adds_none (IsSendOn link) turning.actions; ends = tt }

abbrev ServedOn : ℕ → TurnWork → TurnServed → Type 0
ServedOn link first served = AddsTo (IsSendOn link) first.actions served.0.actions × (served.0.link ≡ link) × EndsOn link served.0.ended

turns_go : (link : ℕ) (first : TurnWork) → StaysOnTurns (ServedOn link first)
turns_go link first = record {
  waits = λ at talk other goes. goes;
  takes = λ unit joiner at talk goes.
      taken_by (take_of at.channel unit).taken joiner (record at { channel = (take_of at.channel unit).state }) (ServedOn link first) (record {
        skips = λ right taken. goes;
        sends = λ right frames taken. (
          adds_both (IsSendOn link) first.actions at.actions _ goes.0 (adds_one (IsSendOn link) at.actions (action.Send at.link (joined_frames frames)) goes.1),
          goes.1,
          goes.2,
        );
        ends = λ how taken. (goes.0, goes.1, goes.1);
      });
  breaks = λ cause at talk goes. (goes.0, goes.1, goes.1);
}

hears_if : (b : Bool) (number : ℕ) (said : LinkState TurnTalk) (piece : List ℕ) (turning : Turning) → GoesOn number turning.actions (hear_if b number said piece turning)
hears_if false number said piece turning = stays_on number turning
hears_if true number said piece turning =
    let at : TurnWork = record { link = number; channel = turning.channel; actions = turning.actions; ended = None } in
    let goes = turn_stays (ServedOn number at) (turns_go number at) (cut_stream (said.rest ++ piece)) at said.talk (adds_none (IsSendOn number) turning.actions, refl, tt) in
    record { sends = goes.0; ends = goes.2 }

hears_on : (how : Dialling) (link : ℕ) (piece : List ℕ) (turning : Turning) → is_on link how ≡ true → GoesOn link turning.actions (hear_by how link piece turning)
hears_on dialling.Nothing link piece turning is = stays_on link turning
hears_on (dialling.Waits turn frames) link piece turning is = stays_on link turning
hears_on (dialling.On number said) link piece turning is =
    subst (λ (n : ℕ). GoesOn n turning.actions (hear_if (number == link) number said piece turning)) ((Decides-eqb number link).0 is) (hears_if (number == link) number said piece turning)

-- a turn that is lost adds nothing, and closes nothing
record Loses (before : List Action) (turned : Turned) : Type 0 where
  same : turned.0.actions ≡ before
  none : closes_of turned.1 ≡ None

closes_lose : (b : Bool) (turning : Turning) → Loses turning.actions (close_if b turning)
closes_lose false turning = record { same = refl; none = refl }
closes_lose true turning = record { same = refl; none = refl }

fails_lose : (how : Dialling) (turning : Turning) → Loses turning.actions (fail_by how turning)
fails_lose dialling.Nothing turning = record { same = refl; none = refl }
fails_lose (dialling.Waits turn frames) turning = record { same = refl; none = refl }
fails_lose (dialling.On number said) turning = record { same = refl; none = refl }

binds : (how : Dialling) (link : ℕ) (turning : Turning) → AddsTo (IsSendOn link) turning.actions (answer_by how link turning).actions
binds dialling.Nothing link turning = adds_none (IsSendOn link) turning.actions
binds (dialling.Waits turn frames) link turning = adds_one (IsSendOn link) turning.actions _ refl
binds (dialling.On number said) link turning = adds_none (IsSendOn link) turning.actions

-- ---- what an event comes to, where nothing was done before

abbrev cause_of : Option (ℕ × CloseCause) → Option CloseCause
cause_of None = None
cause_of (Some closes) = Some closes.1

closing_on : (link : ℕ) (closes : Option (ℕ × CloseCause)) → IsClosedOn link closes → closing closes ≡ close_on link (cause_of closes)
closing_on link None is = refl
closing_on link (Some closes) is = ap (λ (n : ℕ). action.Close n closes.1 ∷ []) is

ends_on : (link : ℕ) (ended : Option TurnEnded) → EndsOn link ended → IsClosedOn link (closes_of ended)
ends_on link None is = tt
ends_on link (Some ended) is = is

turned_acts : (link : ℕ) (turned : Turned) (parts : Parts) → GoesOn link [] turned → AreOfTurn (trusting_after parts) link (after_turned parts.turn_of turned parts).work.work.actions
turned_acts link turned parts goes =
    let adds = ended_adds turned.1 parts.turn_of (turned_work parts.turn_of turned.0 parts.work) in
    let closes = closes_of turned.1 in
    record {
      requests = goes.sends.0;
      are = goes.sends.2;
      closes = cause_of closes;
      answer = adds.answer;
      of = adds.of;
      is = adds.is
          ∙ ap (λ (front : List Action). front ++ (closing closes ++ answer_of adds.answer)) goes.sends.1
          ∙ ap (λ (closed : List Action). goes.sends.0 ++ (closed ++ answer_of adds.answer)) (closing_on link closes (ends_on link turned.1 goes.ends));
    }

abbrev IsBare : Parts → Type 0
IsBare parts = parts.work.work.actions ≡ []

hears_at : (found : Option Requester) (link : ℕ) (piece : List ℕ) (parts : Parts) → IsBare parts → is_on link parts.dialling ≡ true →
    AreOfTurn (trusting_after parts) link (turn_at found (λ turning. link_hears link piece turning) parts).work.work.actions
hears_at None link piece parts bare on = record { requests = []; are = tt; closes = None; answer = None; of = tt; is = bare }
hears_at (Some channel) link piece parts bare on =
    turned_acts link (link_hears link piece (turning_of channel parts)) parts
    (subst (λ (before : List Action). GoesOn link before (link_hears link piece (turning_of channel parts))) bare (hears_on parts.dialling link piece (turning_of channel parts) on))

nothing_told : (t : Trusting) (actions : List Action) → actions ≡ [] → AreAnswer t actions
nothing_told t actions none = record { answer = None; of = tt; is = none }

lost_acts : (turned : Turned) (parts : Parts) → Loses [] turned → AreAnswer (trusting_after parts) (after_turned parts.turn_of turned parts).work.work.actions
lost_acts turned parts loses =
    let adds = ended_adds turned.1 parts.turn_of (turned_work parts.turn_of turned.0 parts.work) in
    record {
      answer = adds.answer;
      of = adds.of;
      is = adds.is
          ∙ ap (λ (front : List Action). front ++ (closing (closes_of turned.1) ++ answer_of adds.answer)) loses.same
          ∙ ap (λ (closes : Option (ℕ × CloseCause)). closing closes ++ answer_of adds.answer) loses.none;
    }

lost_at : (found : Option Requester) (happens : Turning → Turned) (parts : Parts) → IsBare parts → ((turning : Turning) → Loses turning.actions (happens turning)) →
    AreAnswer (trusting_after parts) (turn_at found happens parts).work.work.actions
lost_at None happens parts bare loses = nothing_told (trusting_after parts) parts.work.work.actions bare
lost_at (Some channel) happens parts bare loses =
    lost_acts (happens (turning_of channel parts)) parts
    (subst (λ (before : List Action). Loses before (happens (turning_of channel parts))) bare (loses (turning_of channel parts)))

closed_acts : (b : Bool) (number : ℕ) (parts : Parts) → IsBare parts → AreAnswer (trusting_after parts) (close_by b number parts).work.work.actions
closed_acts false number parts bare = nothing_told (trusting_after parts) parts.work.work.actions bare
closed_acts true number parts bare = lost_at _ (λ turning. link_closes number turning) parts bare (λ turning. closes_lose (is_on number turning.dialling) turning)

failed_acts : (waits : Bool) (parts : Parts) → IsBare parts → AreAnswer (trusting_after parts) (fail_dial waits parts).work.work.actions
failed_acts false parts bare = nothing_told (trusting_after parts) parts.work.work.actions bare
failed_acts true parts bare = lost_at _ (λ turning. no_dial turning) parts bare (λ turning. fails_lose turning.dialling turning)

opened_acts : (full : Bool) (t : Trusting) (number : ℕ) (parts : Parts) → AreAnswer t parts.work.work.actions → AreOpening t full number (open_by full number parts).work.work.actions
opened_acts false t number parts acts = record { answer = acts.answer; of = acts.of; is = acts.is ∙ sym (append-nil (answer_of acts.answer)) }
opened_acts true t number parts acts =
    record { answer = acts.answer; of = acts.of; is = ap (λ (front : List Action). front ++ action.Close number close.TooManyLinks ∷ []) acts.is }

-- the link of the turn is no accepted one
turn_leaves : (found : Option Requester) (happens : Turning → Turned) (parts : Parts) → (turn_at found happens parts).links ≡ parts.links
turn_leaves None happens parts = refl
turn_leaves (Some channel) happens parts = refl

others_are : (b : Bool) (number : ℕ) (parts : Parts) → (close_by b number parts).links ≡ others_open b number parts.links
others_are false number parts = refl
others_are true number parts = turn_leaves (slice_get parts.work.queues.requesters parts.turn_of) (λ turning. link_closes number turning) parts

-- what is kept to seal says nothing here
as_answer : (r : Running) (t : Trusting) (actions : List Action) → AreAnswer (trusting_after (parts_of r t)) actions → AreAnswer t actions
as_answer r t actions are = record { answer = are.answer; of = are.of; is = are.is }

as_turn : (r : Running) (t : Trusting) (number : ℕ) (actions : List Action) → AreOfTurn (trusting_after (parts_of r t)) number actions → AreOfTurn t number actions
as_turn r t number actions are = record { requests = are.requests; are = are.are; closes = are.closes; answer = are.answer; of = are.of; is = are.is }

opening_acts : (s : State) (r : Running) (number : ℕ) →
    AreOpening s.trusting (are_full s.trusting number r.links) number (open_number number (close_number number (parts_of r s.trusting))).work.work.actions
opening_acts s r number =
    let parts : Parts = parts_of r s.trusting in
    let on : Bool = is_on number parts.dialling in
    subst (λ (links : LinkMap). AreOpening s.trusting (nat_le 256 (length links)) number (open_number number (close_number number parts)).work.work.actions)
    (others_are on number parts)
    (opened_acts (nat_le 256 (length (close_number number parts).links)) s.trusting number (close_number number parts) (as_answer r s.trusting _ (closed_acts on number parts refl)))

abbrev Sends : ℕ → List Action → Type 0
Sends link actions = AllByRecursion (IsSendOn link) actions

bound_at : (found : Option Requester) (number : ℕ) (parts : Parts) → IsBare parts → Sends number (turn_at found (λ turning. (link_answers number turning, None)) parts).work.work.actions
bound_at None number parts bare = subst (λ (actions : List Action). Sends number actions) (sym bare) tt
bound_at (Some channel) number parts bare =
    let sends = binds parts.dialling number (turning_of channel parts) in
    subst (λ (actions : List Action). Sends number actions) (sym (sends.1 ∙ ap (λ (front : List Action). front ++ sends.0) bare)) sends.2

dial_acts : (waits : Bool) (number : ℕ) (parts : Parts) → IsBare parts → Sends number (answer_dial waits number parts).work.work.actions
dial_acts false number parts bare = subst (λ (actions : List Action). Sends number actions) (sym bare) tt
dial_acts true number parts bare = bound_at _ number (without_link number parts) bare

-- ---- bytes on an accepted link

abbrev PartAre : (List Action → Type 0) → TrustPart → Type 0
PartAre Are (Err why) = Unit {0}
PartAre Are (Ok part) = Are part.value.parts.work.work.actions

put_same : (open_link : Option (LinkState Talk)) (number : ℕ) (parts : Parts) → (put_open open_link number parts).work.work.actions ≡ parts.work.work.actions
put_same None number parts = refl
put_same (Some link) number parts = refl

abbrev Served : ℕ → List (List ℕ) → List Action → Type 0
Served number units actions = AllByRecursion (IsServedOn number units) actions

after_acts : (part : ServedPart _ Talk) (number : ℕ) (units : List (List ℕ)) (rest : List ℕ) (others : LinkMap) (parts : Parts) → TrustAdds number units [] part →
    PartAre (Served number units) (after_units part rest number others parts)
after_acts (Err why) number units rest others parts adds = tt
after_acts (Ok part) number units rest others parts adds =
    subst (λ (actions : List Action). Served number units actions)
    (sym (put_same (link_with rest part.value.1) number (record parts { work = part.value.0.work; links = others }) ∙ adds.1)) adds.2

serve_acts : (number : ℕ) (link : LinkState Talk) (piece name : List ℕ) (now : ℕ) (others : LinkMap) (table : AccountTable) (parts : Parts) (left : List (List ℕ)) → IsBare parts →
    PartAre (Served number (cut_stream (link.rest ++ piece)).units) (serve_on (Some link) number piece name now others table parts left)
serve_acts number link piece name now others table parts left bare =
    let cut = cut_stream (link.rest ++ piece) in
    let part = served_cut (trust_server name now number) cut (trust_desk table parts.work) link.talk left in
    after_acts part number cut.units cut.rest others parts
    (subst (λ (before : List Action). TrustAdds number cut.units before part) bare (link_serves number cut name now (trust_desk table parts.work) link.talk left))

-- ---- the turn that starts behind an event

abbrev pub NextDials : List Action → Result (Part Parts) StepRefused → Type 0
NextDials before (Err why) = Unit {0}
NextDials before (Ok part) = (dial : Option (List ℕ)) × (part.value.work.work.actions ≡ before ++ dial_of dial)

no_dial_more : (before : List Action) → (dial : Option (List ℕ)) × (before ≡ before ++ dial_of dial)
no_dial_more before = (None, sym (append-nil before))

dials : (start : Option (Unit {0} × List (List ℕ))) (peer : List ℕ) (turning : Turning) → (dial : Option (List ℕ)) × ((dial_for start peer turning).actions ≡ turning.actions ++ dial_of dial)
dials None peer turning = no_dial_more turning.actions
dials (Some start) peer turning = (Some peer, refl)

begun_dials : (next : Result (Part NextTurn) StepRefused) (peer : List ℕ) (channel : Requester) (trust : ℕ) (parts : Parts) →
    NextDials parts.work.work.actions (then_part (then_part next (dial_part peer (turning_of channel parts))) (λ turning rest. next_part (after_turned trust (turning, None) parts) rest))
begun_dials (Err why) peer channel trust parts = tt
begun_dials (Ok part) peer channel trust parts = dials part.value.1 peer (record (turning_of channel parts) { channel = part.value.0 })

start_dials : (found : Option Requester) (entry : Option Trust) (trust now : ℕ) (parts : Parts) (left : List (List ℕ)) → NextDials parts.work.work.actions (start_on found entry trust now parts left)
start_dials None entry trust now parts left = no_dial_more parts.work.work.actions
start_dials (Some channel) None trust now parts left = no_dial_more parts.work.work.actions
start_dials (Some channel) (Some entry) trust now parts left = begun_dials (channel_turn now channel left) entry.address channel trust parts

at_dials : (first : Option ℕ) (trusts : List Trust) (now : ℕ) (parts : Parts) (left : List (List ℕ)) → NextDials parts.work.work.actions (start_at first trusts now parts left)
at_dials None trusts now parts left = no_dial_more parts.work.work.actions
at_dials (Some trust) trusts now parts left = start_dials _ _ trust now parts left

pub next_dials : (idle : Bool) (trusts : List Trust) (now : ℕ) (parts : Parts) (left : List (List ℕ)) → NextDials parts.work.work.actions (next_if idle trusts now parts left)
next_dials false trusts now parts left = no_dial_more parts.work.work.actions
next_dials true trusts now parts left = at_dials (first_waiting parts.work.queues.requesters) trusts now parts left

module _ (Are : List Action → Type 0) where
  with_table : (part : Result (Part Parts) StepRefused) (table : AccountTable) (before : List Action) → Are before → NextDials before part →
      PartAre (ThenDials Are) (then_part part (λ later last. trust_part table later last))
  with_table (Err why) table before are dials = tt
  with_table (Ok part) table before are dials = record { front = before; are = are; dial = dials.0; is = dials.1 }

  turn_behind : (part : TrustPart) (trusts : List Trust) (now : ℕ) → PartAre Are part →
      PartAre (ThenDials Are) (then_part part (λ after rest. then_part (next_turn trusts now after.parts rest) (λ later last. trust_part after.table later last)))
  turn_behind (Err why) trusts now are = tt
  turn_behind (Ok part) trusts now are =
      with_table (next_turn trusts now part.value.parts part.left) part.value.table part.value.parts.work.work.actions are
      (next_dials (is_idle part.value.parts.dialling) trusts now part.value.parts part.left)

  -- the step is taken, or the challenges aren't enough for it
  abbrev TakenOrSpent : State → List (List ℕ) → Stepped State → Type 0
  TakenOrSpent s left stepped = (stepped ≡ spent_step left (trust_halted s)) ⊎ ThenDials Are (actions_of stepped)

  taken_or_spent : (part : TrustPart) (s : State) (left : List (List ℕ)) → PartAre (ThenDials Are) part →
      TakenOrSpent s left (step_by (λ (after : TrustParts). after.parts.work.work.actions) (λ after. trust_state_after s after) (trust_halted s) left part)
  taken_or_spent (Err why) s left are = inl refl
  taken_or_spent (Ok part) s left are = inr are

  step_or_spent : (r : Running) (s : State) (what : Event) (now : ℕ) (left : List (List ℕ)) → PartAre Are (by_trust_event what s.name now s.table (parts_of r s.trusting) left) →
      TakenOrSpent s left (trust_step_on (Some r) s what now left)
  step_or_spent r s what now left are =
      taken_or_spent (event_and_turn s.table.trusts what s.name now s.table (parts_of r s.trusting) left) s left
      (turn_behind (by_trust_event what s.name now s.table (parts_of r s.trusting) left) s.table.trusts now are)

module _ (Are : List Action → Type 0) (nothing : Are []) where
  none_done : ThenDials Are []
  none_done = record { front = []; are = nothing; dial = None; is = refl }

  taken_acts : (part : TrustPart) (s : State) (left : List (List ℕ)) → PartAre (ThenDials Are) part →
      ThenDials Are (actions_of (step_by (λ (after : TrustParts). after.parts.work.work.actions) (λ after. trust_state_after s after) (trust_halted s) left part))
  taken_acts (Err why) s left are = none_done
  taken_acts (Ok part) s left are = are

  step_acts : (running : Option Running) (s : State) (what : Event) (now : ℕ) (left : List (List ℕ)) →
      ((r : Running) → running ≡ Some r → PartAre Are (by_trust_event what s.name now s.table (parts_of r s.trusting) left)) →
      ThenDials Are (actions_of (trust_step_on running s what now left))
  step_acts None s what now left are = none_done
  step_acts (Some r) s what now left are =
      taken_acts (event_and_turn s.table.trusts what s.name now s.table (parts_of r s.trusting) left) s left
      (turn_behind Are (by_trust_event what s.name now s.table (parts_of r s.trusting) left) s.table.trusts now (are r refl))

-- ---- the law

answer_none : (t : Trusting) → AreAnswer t []
answer_none t = record { answer = None; of = tt; is = refl }

turn_none : (t : Trusting) (link : ℕ) → AreOfTurn t link []
turn_none t link = record { requests = []; are = tt; closes = None; answer = None; of = tt; is = refl }

-- bytes, by whether they come on the link of the turn
module _ (Are : List Action → Type 0) (number : ℕ) (piece name : List ℕ) (now : ℕ) (table : AccountTable) (parts : Parts) (left : List (List ℕ)) where
  abbrev BytesAre : Bool → Type 0
  BytesAre b = PartAre Are (serve_bytes b number piece name now table parts left)

  found_bytes : (found : Option (LinkState Talk)) → lookup same_number number parts.links ≡ found → PartAre Are (serve_on found number piece name now (take_out same_number number parts.links) table parts left) → BytesAre false
  found_bytes found is are =
      subst (λ (f : Option (LinkState Talk)). PartAre Are (serve_on f number piece name now (take_out same_number number parts.links) table parts left)) (sym is) are

got : {T : Type 0} (items : List T) (at : ℕ) → at < length items → slice_get items at ≡ None → ⊥
got [] at lt none = absurd (omega arith)
got (first ∷ items) zero lt none = absurd (let x = none in cc)
got (first ∷ items) (suc at) lt none = got items at (omega arith) none

some_is : (one other : Running) → Some one ≡ Some other → one ≡ other
some_is one other is = cc

-- a dial that is answered sends its bind

bind_sent : (s : State) (running : Running) (number : ℕ) (turn : Unit {0}) (frames : List (List ℕ)) (now : ℕ) (left : List (List ℕ)) (found : Option Requester) →
    slice_get s.trusting.queues.requesters s.trusting.turn_of ≡ found → s.trusting.turn_of < length s.trusting.queues.requesters →
    actions_of (step_by (λ (after : TrustParts). after.parts.work.work.actions) (λ after. trust_state_after s after) (trust_halted s) left
    (event_and_turn s.table.trusts (event.Dialled number) s.name now s.table (parts_of running (record s.trusting { dialling = dialling.Waits turn frames })) left))
    ≡ action.Send number (joined_frames frames) ∷ []
bind_sent s running number turn frames now left None none lt = absurd (got s.trusting.queues.requesters s.trusting.turn_of lt none)
bind_sent s running number turn frames now left (Some channel) is lt =
    let less : Parts = without_link number (parts_of running (record s.trusting { dialling = dialling.Waits turn frames })) in
    subst (λ (found : Option Requester). actions_of (step_by (λ (after : TrustParts). after.parts.work.work.actions) (λ after. trust_state_after s after) (trust_halted s) left
    (then_part (trust_part s.table (turn_at found (λ turning. (link_answers number turning, None)) less) left)
    (λ after rest. then_part (next_turn s.table.trusts now after.parts rest) (λ later last. trust_part after.table later last))))
    ≡ action.Send number (joined_frames frames) ∷ []) (sym is) refl

binds_exactly : (s : State) (running : Running) (number : ℕ) (turn : Unit {0}) (frames : List (List ℕ)) (now : ℕ) (left : List (List ℕ)) → s.trusting.dialling ≡ dialling.Waits turn frames →
    OneIsOut s.trusting → actions_of (trust_step_on (Some running) s (event.Dialled number) now left) ≡ action.Send number (joined_frames frames) ∷ []
binds_exactly s running number turn frames now left is one =
    subst (λ (how : Dialling). actions_of (step_by (λ (after : TrustParts). after.parts.work.work.actions) (λ after. trust_state_after s after) (trust_halted s) left
    (event_and_turn s.table.trusts (event.Dialled number) s.name now s.table (parts_of running (record s.trusting { dialling = how })) left))
    ≡ action.Send number (joined_frames frames) ∷ []) (sym is)
    (bind_sent s running number turn frames now left (slice_get s.trusting.queues.requesters s.trusting.turn_of) refl (one.inside (ap is_idle is)))

pub acts_in_order : ActsInOrder
acts_in_order = record {
  turn = λ s number piece now left on.
      step_acts (AreOfTurn s.trusting number) (turn_none s.trusting number) s.running s (event.Bytes number piece) now left (λ r is.
      let parts : Parts = parts_of r s.trusting in
      subst (λ (b : Bool). BytesAre (AreOfTurn s.trusting number) number piece s.name now s.table parts left b) (sym on)
      (as_turn r s.trusting number _ (hears_at (slice_get parts.work.queues.requesters parts.turn_of) number piece parts refl on)));
  accepted = λ s running number link piece now left off is there.
      step_acts (Served number (cut_stream (link.rest ++ piece)).units) tt s.running s (event.Bytes number piece) now left (λ r so.
      let parts : Parts = parts_of r s.trusting in
      let one : running ≡ r = some_is running r (sym is ∙ so) in
      subst (λ (b : Bool). BytesAre (Served number (cut_stream (link.rest ++ piece)).units) number piece s.name now s.table parts left b) (sym off)
      (found_bytes (Served number (cut_stream (link.rest ++ piece)).units) number piece s.name now s.table parts left (Some link)
      (ap (λ (other : Running). lookup same_number number other.links) (sym one) ∙ there)
      (serve_acts number link piece s.name now (take_out same_number number parts.links) s.table parts left refl)));
  other = λ s running number piece now left off is none.
      step_acts (λ actions. actions ≡ []) refl s.running s (event.Bytes number piece) now left (λ r so.
      let parts : Parts = parts_of r s.trusting in
      let one : running ≡ r = some_is running r (sym is ∙ so) in
      subst (λ (b : Bool). BytesAre (λ actions. actions ≡ []) number piece s.name now s.table parts left b) (sym off)
      (found_bytes (λ actions. actions ≡ []) number piece s.name now s.table parts left None
      (ap (λ (other : Running). lookup same_number number other.links) (sym one) ∙ none) refl));
  opened = λ s running number now left is.
      let Are = AreOpening s.trusting (are_full s.trusting number running.links) number in
      subst (λ (r : Option Running). TakenOrSpent Are s left (trust_step_on r s (event.Opened number) now left)) (sym is)
      (step_or_spent Are running s (event.Opened number) now left (opening_acts s running number));
  closed = λ s number now left.
      step_acts (AreAnswer s.trusting) (answer_none s.trusting) s.running s (event.Closed number) now left (λ r is.
      let parts : Parts = parts_of r s.trusting in
      as_answer r s.trusting _ (closed_acts (is_on number parts.dialling) number parts refl));
  dialled = λ s number now left.
      step_acts (Sends number) tt s.running s (event.Dialled number) now left (λ r is.
      let parts : Parts = parts_of r s.trusting in
      dial_acts (is_waiting parts.dialling) number parts refl);
  binds = λ s running number turn frames now left runs is one.
      subst (λ (r : Option Running). actions_of (trust_step_on r s (event.Dialled number) now left) ≡ action.Send number (joined_frames frames) ∷ []) (sym runs)
      (binds_exactly s running number turn frames now left is one);
  failed = λ s now left.
      step_acts (AreAnswer s.trusting) (answer_none s.trusting) s.running s event.DialFailed now left (λ r is.
      let parts : Parts = parts_of r s.trusting in
      as_answer r s.trusting _ (failed_acts (is_waiting parts.dialling) parts refl));
  stop = λ s now left. step_acts (λ actions. actions ≡ []) refl s.running s event.Stop now left (λ r is. refl);
  stopped = λ s what now left none. ap (λ (r : Option Running). actions_of (trust_step_on r s what now left)) none;
}
