-- What holds of each of those that ask other controllers, at a controller that may hand logons on: whatever stays where
-- one takes a unit, starts or loses a turn, or is asked, stays through each step; what stays where no turn starts stays
-- through each event. It serves `Proved.askers` and `Proved.own`.
use Rattle.std.proofs.Common.{◌≡◌, ◌++◌, ◌==◌, ℕ, suc, Bool, true, false, List, [], ◌∷◌, Option, Some, None, Result, Ok, Err, slice_get, slice_set, refl, sym, subst}
use Rattle.std.specs.List.{AllByRecursion}
use Rattle.wire_base.specs.Maps.{lookup, same_number, take_out}
use Rattle.outside.specs.Machine.{Part, step_by, then_part}
use Rattle.outside.specs.declared.action.CloseCause.{CloseCause}
use Rattle.outside.specs.declared.action.DropCause.{DropCause}
use Rattle.outside.specs.declared.action.DropCause.TheVariants as drop_cause
use Rattle.outside.specs.declared.action.StepRefused.{StepRefused}
use Rattle.outside.specs.declared.event.Event.{Event}
use Rattle.outside.specs.declared.event.Event.TheVariants as event
use Rattle.rpc_units.specs.Stream.{cut_stream}
use Rattle.rpc_units.specs.declared.unit.Unit.{Unit as RpcUnit}
use Rattle.logon_stubs.specs.Status.{no_logon_servers}
use Rattle.logon_stubs.specs.declared.info.NetworkInfo.{NetworkInfo}
use Rattle.logon_stubs.specs.declared.info.Verdict.{Verdict}
use Rattle.logon_stubs.specs.declared.info.Verdict.TheVariants.{Status}
use Rattle.account_table.specs.AccountTable.{AccountTable}
use Rattle.account_table.specs.declared.account.Trust.{Trust}
use Rattle.end_links.proofs.KeepLaws.{StaysServing, served_stays}
use Rattle.end_links.specs.Links.{LinkState}
use Rattle.end_links.specs.Serving.{ServedPart, served_cut}
use Rattle.channel_client.specs.Machine.{Taking, ask_of, can_start, lose_of, needs_challenge, start_of, take_of}
use Rattle.channel_client.specs.State.{Requester}
use Rattle.channel_turns.proofs.KeepLaws.{StaysOnTurns, taken_by, turn_stays}
use Rattle.channel_turns.specs.Dials.{NextTurn, next_by, next_turn as channel_turn}
use Rattle.channel_turns.specs.Turning.{Turned, answer_by, close_if, dial_for, dial_part, drop_turn, fail_by, hear_by, hear_if, is_on, is_waiting, link_answers, link_closes, link_hears, no_dial}
use Rattle.channel_turns.specs.Turns.{TurnServed}
use Rattle.channel_turns.specs.declared.state.Dialling.{Dialling}
use Rattle.channel_turns.specs.declared.state.Dialling.TheVariants as dialling
use Rattle.channel_turns.specs.declared.state.TurnEnd.{TurnEnd}
use Rattle.channel_turns.specs.declared.state.TurnEnd.TheVariants as turn_end
use Rattle.channel_turns.specs.declared.state.TurnEnded.{TurnEnded}
use Rattle.channel_turns.specs.declared.state.TurnTalk.{TurnTalk}
use Rattle.channel_turns.specs.declared.state.TurnWork.{TurnWork}
use Rattle.channel_turns.specs.declared.state.Turning.{Turning}
use Rattle.controller_calls.specs.Desk.{Desk}
use Rattle.controller_calls.specs.Forwarded.{ForwardedState}
use Rattle.controller_calls.specs.declared.calls.ControllerCall.TheVariants as call
use Rattle.controller_calls.specs.declared.calls.JudgedCall.{JudgedCall}
use Rattle.controller_calls.specs.declared.line.Line.{Line}
use Rattle.domain_controller.specs.Forwarding.{TrustDesk, after_ended, answer_found, answer_trust_call, base_desk, beside, by_trust_heard, close_ended, end_turn, trust_desk, trust_server}
use Rattle.domain_controller.specs.Hearing.{hear}
use Rattle.domain_controller.specs.Machine.{by_heard}
use Rattle.domain_controller.specs.State.{State}
use Rattle.domain_controller.specs.Step.{LinkMap}
use Rattle.domain_controller.specs.TrustStep.{TrustPart, TrustParts, after_turned, after_units, answer_dial, by_trust_event, close_by, close_number, event_and_turn, fail_dial, first_waiting, is_idle, link_with, next_if, next_part, next_turn, open_by, parts_of, put_open, serve_bytes, serve_on, start_at, start_on, trust_halted, trust_part, trust_state_after, trust_step_of, trust_step_on, turn_at, turned_work, turning_of, without_link}
use Rattle.domain_controller.specs.declared.hearing.Heard.{Heard}
use Rattle.domain_controller.specs.declared.hearing.Heard.TheVariants as heard
use Rattle.domain_controller.specs.declared.state.Running.{Running}
use Rattle.domain_controller.specs.declared.state.Talk.{Talk}
use Rattle.domain_controller.specs.declared.trusting.Parts.{Parts}
use Rattle.domain_controller.specs.declared.trusting.Queues.{Queues}
use Rattle.domain_controller.specs.declared.trusting.TrustWork.{TrustWork}
use Rattle.domain_controller.proofs.HandOnLaws.{AnsweredHere, CallComes, ForwardedOn, call_comes}
use Rattle.domain_controller.proofs.TrustPlaceLaws.{got_all, set_all}
use Rattle.member_server.specs.Dials.{IsNoAnswer, IsWaiting}
use Rattle.domain_world.proofs.Messages.MessageOnceLaws.{each_put}
use Rattle.domain_world.proofs.Sequences.TrustDialLaws.{waits_off}

-- what holds of each requester at its place
abbrev pub EachFits : (ℕ → Requester → Type 0) → List Requester → Type 0
EachFits Fits requesters = (at : ℕ) (s : Requester) → slice_get requesters at ≡ Some s → Fits at s

-- it stays where a logon is asked of one
abbrev pub KeepsAsked : (ℕ → Requester → Type 0) → Type 0
KeepsAsked Fits = (at : ℕ) (s : Requester) (info : NetworkInfo) → Fits at s → Fits at (ask_of s info).state

-- it stays besides where one takes a unit, or loses its turn
pub record KeepsHeard (Fits : ℕ → Requester → Type 0) : Type 0 where
  pub asks : KeepsAsked Fits
  pub takes : (at : ℕ) (s : Requester) (unit : RpcUnit) → Fits at s → Fits at (take_of s unit).state
  pub loses : (at : ℕ) (s : Requester) → Fits at s → Fits at (lose_of s).state

-- a requester is put at its place, or takes what follows of its turn
fits_put : (Fits : ℕ → Requester → Type 0) (requesters : List Requester) (at : ℕ) (new : Requester) → EachFits Fits requesters → Fits at new → EachFits Fits (slice_set requesters at new)
fits_put Fits requesters at new fits here = each_put Fits requesters at new (λ k one differs there. fits k one there) here

module _ (Fits : ℕ → Requester → Type 0) where
  abbrev pub WorkFits : TrustWork → Type 0
  WorkFits w = EachFits Fits w.queues.requesters

  -- ---- a turn that ended leaves requesters that fit

  found_fit : (found : Option ForwardedState) (place : ℕ × ℕ) (verdict : Verdict) (w : TrustWork) → WorkFits w → WorkFits (answer_found found place verdict w)
  found_fit None place verdict w fits = fits
  found_fit (Some f) place verdict w fits = fits

  end_fits : (how : TurnEnd) (trust : ℕ) (w : TrustWork) → WorkFits w → WorkFits (end_turn how trust w)
  end_fits turn_end.Half trust w fits = fits
  end_fits turn_end.Opened trust w fits = fits
  end_fits turn_end.Set trust w fits = fits
  end_fits (turn_end.Answer place verdict) trust w fits = found_fit _ (trust, place) verdict w fits
  end_fits (turn_end.Dropped place cause) trust w fits = found_fit _ (trust, place) (Status no_logon_servers) w fits

  closed_fits : (closes : Option (ℕ × CloseCause)) (w : TrustWork) → WorkFits w → WorkFits (close_ended closes w)
  closed_fits None w fits = fits
  closed_fits (Some closes) w fits = fits

  ended_fits : (ended : Option TurnEnded) (trust : ℕ) (w : TrustWork) → WorkFits w → WorkFits (after_ended ended trust w)
  ended_fits None trust w fits = fits
  ended_fits (Some ended) trust w fits = end_fits ended.how trust (close_ended ended.closes w) (closed_fits ended.closes w fits)

  turned_fits : (trust : ℕ) (turned : Turned) (parts : Parts) → WorkFits parts.work → Fits trust turned.0.channel → WorkFits (after_turned trust turned parts).work
  turned_fits trust turned parts fits here =
      ended_fits turned.1 trust (turned_work trust turned.0 parts.work) (fits_put Fits parts.work.queues.requesters trust turned.0.channel fits here)

  -- ---- links

  opened_fit : (full : Bool) (number : ℕ) (parts : Parts) → WorkFits parts.work → WorkFits (open_by full number parts).work
  opened_fit true number parts fits = fits
  opened_fit false number parts fits = fits

  abbrev PartFits : ServedPart TrustDesk Talk → Type 0
  PartFits (Err why) = Unit {0}
  PartFits (Ok part) = WorkFits part.value.0.work

  beside_fits : (queues : Queues) (part : ServedPart Desk Talk) → EachFits Fits queues.requesters → PartFits (beside queues part)
  beside_fits queues (Err why) fits = tt
  beside_fits queues (Ok part) fits = fits

  abbrev pub StepFits : TrustPart → Type 0
  StepFits (Err why) = Unit {0}
  StepFits (Ok part) = WorkFits part.value.parts.work

  put_fits : (open_link : Option (LinkState Talk)) (number : ℕ) (parts : Parts) → WorkFits parts.work → WorkFits (put_open open_link number parts).work
  put_fits None number parts fits = fits
  put_fits (Some link) number parts fits = fits

  after_fits : (part : ServedPart TrustDesk Talk) (rest : List ℕ) (number : ℕ) (others : LinkMap) (parts : Parts) → PartFits part → StepFits (after_units part rest number others parts)
  after_fits (Err why) rest number others parts fits = tt
  after_fits (Ok part) rest number others parts fits =
      put_fits (link_with rest part.value.1) number (record parts { work = part.value.0.work; links = others }) fits

-- ---- units on an accepted link

module _ (Fits : ℕ → Requester → Type 0) (asked : KeepsAsked Fits) where
  call_fits : (c : JudgedCall) (line : Line) (before after : TrustDesk) → CallComes c line before after → WorkFits Fits before.work → WorkFits Fits after.work
  call_fits c line before after (AnsweredHere so) fits = subst (λ (q : Queues). EachFits Fits q.requesters) (sym so.queues) fits
  call_fits c line before after (ForwardedOn is so) fits =
      subst (EachFits Fits) (sym so.requesters)
      (fits_put Fits before.work.queues.requesters is.goes.trust (ask_of is.goes.requester is.goes.info).state fits
      (asked is.goes.trust is.goes.requester is.goes.info (fits is.goes.trust is.goes.requester is.goes.at)))

  unit_fits : (h : Heard) (link : ℕ) (name : List ℕ) (now : ℕ) (d : TrustDesk) (left : List (List ℕ)) → WorkFits Fits d.work → PartFits Fits (by_trust_heard h link name now d left)
  unit_fits (heard.Close cause) link name now d left fits = beside_fits Fits d.work.queues (by_heard (heard.Close cause) link name now (base_desk d) left) fits
  unit_fits (heard.Answer bytes talk) link name now d left fits = beside_fits Fits d.work.queues (by_heard (heard.Answer bytes talk) link name now (base_desk d) left) fits
  unit_fits (heard.Waits talk) link name now d left fits = fits
  unit_fits (heard.Asked line (call.Challenge c) talk) link name now d left fits =
      beside_fits Fits d.work.queues (by_heard (heard.Asked line (call.Challenge c) talk) link name now (base_desk d) left) fits
  unit_fits (heard.Asked line (call.Authenticate c) talk) link name now d left fits =
      beside_fits Fits d.work.queues (by_heard (heard.Asked line (call.Authenticate c) talk) link name now (base_desk d) left) fits
  unit_fits (heard.Asked line (call.Judged c) talk) link name now d left fits =
      call_fits c line d (answer_trust_call c name now line d) (call_comes c name now line d) fits

  units_fit : (name : List ℕ) (now link : ℕ) → StaysServing (trust_server name now link) (PartFits Fits)
  units_fit name now link = record {
    spent = λ why. tt;
    unit = λ bytes d talk left fits. unit_fits (hear link bytes talk) link name now d left fits;
    refusal = λ why d talk left fits. fits;
  }

  serve_fits : (found : Option (LinkState Talk)) (number : ℕ) (piece name : List ℕ) (now : ℕ) (others : LinkMap) (table : AccountTable) (parts : Parts) (left : List (List ℕ)) →
      WorkFits Fits parts.work → StepFits Fits (serve_on found number piece name now others table parts left)
  serve_fits None number piece name now others table parts left fits = fits
  serve_fits (Some link) number piece name now others table parts left fits =
      let cut = cut_stream (link.rest ++ piece) in
      let d : TrustDesk = trust_desk table parts.work in
      after_fits Fits (served_cut (trust_server name now number) cut d link.talk left) cut.rest number others parts
      (served_stays (trust_server name now number) (PartFits Fits) (units_fit name now number) cut d link.talk left fits)

  -- while a dial waits, an event that is no answer to it asks logons alone

  closed_waits : (b : Bool) (number : ℕ) (parts : Parts) → b ≡ false → WorkFits Fits parts.work → WorkFits Fits (close_by b number parts).work
  closed_waits false number parts off fits = fits
  closed_waits true number parts off fits = absurd (let x = off in cc)

  bytes_wait : (b : Bool) (number : ℕ) (piece name : List ℕ) (now : ℕ) (table : AccountTable) (parts : Parts) (left : List (List ℕ)) → b ≡ false → WorkFits Fits parts.work →
      StepFits Fits (serve_bytes b number piece name now table parts left)
  bytes_wait true number piece name now table parts left off fits = absurd (let x = off in cc)
  bytes_wait false number piece name now table parts left off fits =
      serve_fits (lookup same_number number parts.links) number piece name now (take_out same_number number parts.links) table parts left fits

  pub waits_fits : (what : Event) (name : List ℕ) (now : ℕ) (table : AccountTable) (parts : Parts) (left : List (List ℕ)) → IsNoAnswer what → IsWaiting parts.dialling →
      WorkFits Fits parts.work → StepFits Fits (by_trust_event what name now table parts left)
  waits_fits (event.Opened number) name now table parts left none waits fits =
      opened_fit Fits _ number (close_number number parts) (closed_waits (is_on number parts.dialling) number parts (waits_off number parts.dialling waits) fits)
  waits_fits (event.Bytes number piece) name now table parts left none waits fits =
      bytes_wait (is_on number parts.dialling) number piece name now table parts left (waits_off number parts.dialling waits) fits
  waits_fits (event.Closed number) name now table parts left none waits fits =
      closed_waits (is_on number parts.dialling) number parts (waits_off number parts.dialling waits) fits
  waits_fits (event.Dialled number) name now table parts left none waits fits = absurd none
  waits_fits event.DialFailed name now table parts left none waits fits = absurd none
  waits_fits event.Stop name now table parts left none waits fits = fits

-- ---- any event

module _ (Fits : ℕ → Requester → Type 0) (keeps : KeepsHeard Fits) where
  -- ---- what happens to a turn

  abbrev MovesOn : ℕ → (Turning → Turned) → Type 0
  MovesOn at happens = (turning : Turning) → Fits at turning.channel → Fits at (happens turning).0.channel

  turn_fits : (found : Option Requester) (happens : Turning → Turned) (parts : Parts) → slice_get parts.work.queues.requesters parts.turn_of ≡ found → MovesOn parts.turn_of happens →
      WorkFits Fits parts.work → WorkFits Fits (turn_at found happens parts).work
  turn_fits None happens parts none moves fits = fits
  turn_fits (Some channel) happens parts there moves fits =
      turned_fits Fits parts.turn_of (happens (turning_of channel parts)) parts fits (moves (turning_of channel parts) (fits parts.turn_of channel there))

  drops : (at : ℕ) (cause : DropCause) (turning : Turning) → Fits at turning.channel → Fits at (drop_turn cause turning.channel turning.actions).0.channel
  drops at cause turning fits = keeps.loses at turning.channel fits

  closes_on : (at : ℕ) (b : Bool) (turning : Turning) → Fits at turning.channel → Fits at (close_if b turning).0.channel
  closes_on at false turning fits = fits
  closes_on at true turning fits = drops at drop_cause.LinkClosed turning fits

  fails_by : (at : ℕ) (how : Dialling) (turning : Turning) → Fits at turning.channel → Fits at (fail_by how turning).0.channel
  fails_by at dialling.Nothing turning fits = fits
  fails_by at (dialling.Waits turn frames) turning fits = drops at drop_cause.DialFailed turning fits
  fails_by at (dialling.On number said) turning fits = fits

  answers_by : (at : ℕ) (how : Dialling) (link : ℕ) (turning : Turning) → Fits at turning.channel → Fits at (answer_by how link turning).channel
  answers_by at dialling.Nothing link turning fits = fits
  answers_by at (dialling.Waits turn frames) link turning fits = fits
  answers_by at (dialling.On number said) link turning fits = fits

  abbrev ServedFits : ℕ → TurnServed → Type 0
  ServedFits at served = Fits at served.0.channel

  served_fits : (at : ℕ) → StaysOnTurns (ServedFits at)
  served_fits at = record {
    waits = λ w talk other fits. fits;
    takes = λ unit joiner w talk fits.
        let taking : Taking = take_of w.channel unit in
        let here : Fits at taking.state = keeps.takes at w.channel unit fits in
        taken_by taking.taken joiner (record w { channel = taking.state }) (ServedFits at)
        (record { skips = λ right is. here; sends = λ right frames is. here; ends = λ how is. here });
    breaks = λ cause w talk fits. keeps.loses at w.channel fits;
  }

  hears_if : (at : ℕ) (b : Bool) (number : ℕ) (said : LinkState TurnTalk) (piece : List ℕ) (turning : Turning) → Fits at turning.channel → Fits at (hear_if b number said piece turning).0.channel
  hears_if at false number said piece turning fits = fits
  hears_if at true number said piece turning fits =
      let w : TurnWork = record { link = number; channel = turning.channel; actions = turning.actions; ended = None } in
      turn_stays (ServedFits at) (served_fits at) (cut_stream (said.rest ++ piece)) w said.talk fits

  hears_by : (at : ℕ) (how : Dialling) (link : ℕ) (piece : List ℕ) (turning : Turning) → Fits at turning.channel → Fits at (hear_by how link piece turning).0.channel
  hears_by at dialling.Nothing link piece turning fits = fits
  hears_by at (dialling.Waits turn frames) link piece turning fits = fits
  hears_by at (dialling.On number said) link piece turning fits = hears_if at (number == link) number said piece turning fits

  -- ---- links and dials

  closed_fit : (b : Bool) (number : ℕ) (parts : Parts) → WorkFits Fits parts.work → WorkFits Fits (close_by b number parts).work
  closed_fit false number parts fits = fits
  closed_fit true number parts fits =
      turn_fits (slice_get parts.work.queues.requesters parts.turn_of) (λ turning. link_closes number turning) parts refl
      (λ turning here. closes_on parts.turn_of (is_on number turning.dialling) turning here) fits

  dial_fits : (waits : Bool) (number : ℕ) (parts : Parts) → WorkFits Fits parts.work → WorkFits Fits (answer_dial waits number parts).work
  dial_fits false number parts fits = fits
  dial_fits true number parts fits =
      let less : Parts = without_link number parts in
      turn_fits (slice_get less.work.queues.requesters less.turn_of) (λ turning. (link_answers number turning, None)) less refl
      (λ turning here. answers_by less.turn_of turning.dialling number turning here) fits

  failed_fit : (waits : Bool) (parts : Parts) → WorkFits Fits parts.work → WorkFits Fits (fail_dial waits parts).work
  failed_fit false parts fits = fits
  failed_fit true parts fits =
      turn_fits (slice_get parts.work.queues.requesters parts.turn_of) (λ turning. no_dial turning) parts refl (λ turning here. fails_by parts.turn_of turning.dialling turning here) fits

  bytes_fit : (b : Bool) (number : ℕ) (piece name : List ℕ) (now : ℕ) (table : AccountTable) (parts : Parts) (left : List (List ℕ)) → WorkFits Fits parts.work →
      StepFits Fits (serve_bytes b number piece name now table parts left)
  bytes_fit true number piece name now table parts left fits =
      turn_fits (slice_get parts.work.queues.requesters parts.turn_of) (λ turning. link_hears number piece turning) parts refl
      (λ turning here. hears_by parts.turn_of turning.dialling number piece turning here) fits
  bytes_fit false number piece name now table parts left fits =
      serve_fits Fits keeps.asks (lookup same_number number parts.links) number piece name now (take_out same_number number parts.links) table parts left fits

  pub event_fits : (what : Event) (name : List ℕ) (now : ℕ) (table : AccountTable) (parts : Parts) (left : List (List ℕ)) → WorkFits Fits parts.work →
      StepFits Fits (by_trust_event what name now table parts left)
  event_fits (event.Opened number) name now table parts left fits = opened_fit Fits _ number (close_number number parts) (closed_fit (is_on number parts.dialling) number parts fits)
  event_fits (event.Bytes number piece) name now table parts left fits = bytes_fit (is_on number parts.dialling) number piece name now table parts left fits
  event_fits (event.Closed number) name now table parts left fits = closed_fit (is_on number parts.dialling) number parts fits
  event_fits (event.Dialled number) name now table parts left fits = dial_fits (is_waiting parts.dialling) number parts fits
  event_fits event.DialFailed name now table parts left fits = failed_fit (is_waiting parts.dialling) parts fits
  event_fits event.Stop name now table parts left fits = fits

-- ---- a step

-- `Fits` stays through all that a requester does
pub record KeepsAsker (Fits : Requester → Type 0) : Type 0 where
  pub takes : (s : Requester) (unit : RpcUnit) → Fits s → Fits (take_of s unit).state
  pub loses : (s : Requester) → Fits s → Fits (lose_of s).state
  pub starts : (s : Requester) (timestamp : ℕ) (challenge : List ℕ) → Fits s → Fits (start_of s timestamp challenge).state
  pub asks : (s : Requester) (info : NetworkInfo) → Fits s → Fits (ask_of s info).state

-- it stays of each where no turn starts
heard_kept : (Fits : Requester → Type 0) → KeepsAsker Fits → KeepsHeard (λ (at : ℕ). Fits)
heard_kept Fits keeps = record {
  asks = λ at s info fits. keeps.asks s info fits;
  takes = λ at s unit fits. keeps.takes s unit fits;
  loses = λ at s fits. keeps.loses s fits;
}

all_from : (Fits : Requester → Type 0) (requesters : List Requester) → EachFits (λ (at : ℕ). Fits) requesters → AllByRecursion Fits requesters
all_from Fits [] each = tt
all_from Fits (s ∷ requesters) each = (each 0 s refl, all_from Fits requesters (λ at. each (suc at)))

module _ (Fits : Requester → Type 0) (keeps : KeepsAsker Fits) where
  abbrev pub AllFit : List Requester → Type 0
  AllFit requesters = AllByRecursion Fits requesters

  abbrev AllWorkFits : TrustWork → Type 0
  AllWorkFits w = AllFit w.queues.requesters

  abbrev AllStepFits : TrustPart → Type 0
  AllStepFits (Err why) = Unit {0}
  AllStepFits (Ok part) = AllWorkFits part.value.parts.work

  -- ---- the next turn

  abbrev NextFits : Result (Part NextTurn) StepRefused → Type 0
  NextFits (Err why) = Unit {0}
  NextFits (Ok part) = Fits part.value.0

  next_fits : (can needs : Bool) (now : ℕ) (channel : Requester) (left : List (List ℕ)) → Fits channel → NextFits (next_by can needs now channel left)
  next_fits false needs now channel left fits = fits
  next_fits true false now channel left fits = keeps.starts channel _ _ fits
  next_fits true true now channel [] fits = tt
  next_fits true true now channel (challenge ∷ left) fits = keeps.starts channel _ challenge fits

  abbrev PartsFit : Result (Part Parts) StepRefused → Type 0
  PartsFit (Err why) = Unit {0}
  PartsFit (Ok part) = AllWorkFits part.value.work

  dialled_fits : (start : Option (Unit {0} × List (List ℕ))) (peer : List ℕ) (turning : Turning) → Fits turning.channel → Fits (dial_for start peer turning).channel
  dialled_fits None peer turning fits = fits
  dialled_fits (Some start) peer turning fits = fits

  begun_fits : (next : Result (Part NextTurn) StepRefused) (peer : List ℕ) (channel : Requester) (trust : ℕ) (parts : Parts) → NextFits next → AllWorkFits parts.work →
      PartsFit (then_part (then_part next (dial_part peer (turning_of channel parts))) (λ turning rest. next_part (after_turned trust (turning, None) parts) rest))
  begun_fits (Err why) peer channel trust parts is fits = tt
  begun_fits (Ok part) peer channel trust parts is fits =
      let before : Turning = record (turning_of channel parts) { channel = part.value.0 } in
      set_all Fits parts.work.queues.requesters trust (dial_for part.value.1 peer before).channel fits (dialled_fits part.value.1 peer before is)

  start_fits : (found : Option Requester) (entry : Option Trust) (trust now : ℕ) (parts : Parts) (left : List (List ℕ)) → slice_get parts.work.queues.requesters trust ≡ found →
      AllWorkFits parts.work → PartsFit (start_on found entry trust now parts left)
  start_fits None entry trust now parts left there fits = fits
  start_fits (Some channel) None trust now parts left there fits = fits
  start_fits (Some channel) (Some entry) trust now parts left there fits =
      begun_fits (channel_turn now channel left) entry.address channel trust parts
      (next_fits (can_start channel.turn channel.waiting) (needs_challenge channel.standing) now channel left (got_all Fits parts.work.queues.requesters trust channel fits there)) fits

  at_fits : (first : Option ℕ) (trusts : List Trust) (now : ℕ) (parts : Parts) (left : List (List ℕ)) → AllWorkFits parts.work → PartsFit (start_at first trusts now parts left)
  at_fits None trusts now parts left fits = fits
  at_fits (Some trust) trusts now parts left fits = start_fits (slice_get parts.work.queues.requesters trust) (slice_get trusts trust) trust now parts left refl fits

  if_fits : (idle : Bool) (trusts : List Trust) (now : ℕ) (parts : Parts) (left : List (List ℕ)) → AllWorkFits parts.work → PartsFit (next_if idle trusts now parts left)
  if_fits false trusts now parts left fits = fits
  if_fits true trusts now parts left fits = at_fits (first_waiting parts.work.queues.requesters) trusts now parts left fits

  with_table : (part : Result (Part Parts) StepRefused) (table : AccountTable) → PartsFit part → AllStepFits (then_part part (λ later last. trust_part table later last))
  with_table (Err why) table fits = tt
  with_table (Ok part) table fits = fits

  turn_behind : (part : TrustPart) (trusts : List Trust) (now : ℕ) → AllStepFits part →
      AllStepFits (then_part part (λ after rest. then_part (next_turn trusts now after.parts rest) (λ later last. trust_part after.table later last)))
  turn_behind (Err why) trusts now fits = tt
  turn_behind (Ok part) trusts now fits =
      with_table (next_turn trusts now part.value.parts part.left) part.value.table (if_fits (is_idle part.value.parts.dialling) trusts now part.value.parts part.left fits)

  all_event : (part : TrustPart) → StepFits (λ (at : ℕ). Fits) part → AllStepFits part
  all_event (Err why) each = tt
  all_event (Ok part) each = all_from Fits part.value.parts.work.queues.requesters each

  taken_fits : (part : TrustPart) (s : State) (left : List (List ℕ)) → AllStepFits part →
      AllFit (step_by (λ (after : TrustParts). after.parts.work.work.actions) (λ after. trust_state_after s after) (trust_halted s) left part).state.trusting.queues.requesters
  taken_fits (Err why) s left fits = tt
  taken_fits (Ok part) s left fits = fits

  on_fits : (running : Option Running) (s : State) (what : Event) (now : ℕ) (left : List (List ℕ)) → AllFit s.trusting.queues.requesters →
      AllFit (trust_step_on running s what now left).state.trusting.queues.requesters
  on_fits None s what now left fits = fits
  on_fits (Some running) s what now left fits =
      let parts : Parts = parts_of running s.trusting in
      taken_fits (event_and_turn s.table.trusts what s.name now s.table parts left) s left
      (turn_behind (by_trust_event what s.name now s.table parts left) s.table.trusts now
      (all_event (by_trust_event what s.name now s.table parts left)
      (event_fits (λ (at : ℕ). Fits) (heard_kept Fits keeps) what s.name now s.table parts left (λ at one there. got_all Fits parts.work.queues.requesters at one fits there))))

  pub askers_fit : (s : State) (what : Event) (now : ℕ) (left : List (List ℕ)) → AllFit s.trusting.queues.requesters →
      AllFit (trust_step_of s what now left).state.trusting.queues.requesters
  askers_fit s what now left fits = on_fits s.running s what now left fits
