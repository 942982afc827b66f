-- Which dials a controller makes that asks others: an event makes none, and the next turn one where it starts, whose
-- dial waits then. While a dial waits, only its answer changes that. It serves `Proved.one_turn`.
use Rattle.std.proofs.Common.{◌≡◌, ◌⊎◌, ℕ, ◌+◌, ◌≤◌, ◌==◌, Bool, true, false, List, [], ◌∷◌, ◌++◌, inl, inr, Option, Some, None, Result, Ok, Err, slice_get, refl, sym, ap, subst, ◌∙◌, arith}
use Rattle.std.specs.List.{AllByRecursion}
use Rattle.wire_base.specs.Maps.{lookup, same_number, take_out}
use Rattle.outside.specs.Machine.{Part, step_by, then_part}
use Rattle.outside.specs.declared.action.Action.{Action}
use Rattle.outside.specs.declared.action.Action.TheVariants as action
use Rattle.outside.specs.declared.action.CloseCause.{CloseCause}
use Rattle.outside.specs.declared.action.CloseCause.TheVariants as close
use Rattle.outside.specs.declared.action.Judged.TheVariants as judged
use Rattle.outside.specs.declared.action.StepRefused.{StepRefused}
use Rattle.outside.specs.declared.event.Event.{Event}
use Rattle.outside.specs.declared.event.Event.TheVariants as event
use Rattle.rpc_units.specs.Calls.{bytes_of_call}
use Rattle.rpc_units.specs.Stream.{cut_stream}
use Rattle.logon_stubs.specs.Status.{no_logon_servers}
use Rattle.logon_stubs.specs.Writing.{written_reply}
use Rattle.logon_stubs.specs.declared.calls.Reply.{Reply}
use Rattle.logon_stubs.specs.declared.info.Verdict.{Verdict}
use Rattle.logon_stubs.specs.declared.info.Verdict.TheVariants.{Status}
use Rattle.account_table.specs.AccountTable.{AccountTable}
use Rattle.account_table.specs.declared.account.Trust.{Trust}
use Rattle.end_links.proofs.KeepLaws.{StaysServing, served_stays}
use Rattle.end_links.specs.Links.{LinkState}
use Rattle.end_links.specs.Sending.{joined_frames, response_of}
use Rattle.end_links.specs.Serving.{ServedPart, served_cut}
use Rattle.channel_client.specs.Machine.{take_of}
use Rattle.channel_client.specs.State.{Requester}
use Rattle.channel_turns.proofs.KeepLaws.{StaysOnTurns, taken_by, turn_stays}
use Rattle.channel_turns.specs.Dials.{NextTurn, next_turn as channel_turn}
use Rattle.channel_turns.specs.Turning.{Turned, answer_by, close_if, dial_for, dial_part, fail_by, hear_by, hear_if, is_on, is_waiting, link_answers, link_closes, link_hears, no_dial}
use Rattle.channel_turns.specs.Turns.{TurnServed}
use Rattle.channel_turns.specs.declared.state.Dialling.{Dialling}
use Rattle.channel_turns.specs.declared.state.Dialling.TheVariants as dialling
use Rattle.channel_turns.specs.declared.state.TurnEnd.{TurnEnd}
use Rattle.channel_turns.specs.declared.state.TurnEnd.TheVariants as turn_end
use Rattle.channel_turns.specs.declared.state.TurnEnded.{TurnEnded}
use Rattle.channel_turns.specs.declared.state.TurnTalk.{TurnTalk}
use Rattle.channel_turns.specs.declared.state.TurnWork.{TurnWork}
use Rattle.channel_turns.specs.declared.state.Turning.{Turning}
use Rattle.controller_calls.specs.Desk.{Desk, tell}
use Rattle.controller_calls.specs.Forwarded.{ForwardedState}
use Rattle.controller_calls.specs.Handing.{forwarded_reply, reply_if}
use Rattle.controller_calls.specs.Logons.{status_of}
use Rattle.controller_calls.specs.Passing.{IsKeep}
use Rattle.controller_calls.specs.declared.calls.ControllerCall.TheVariants as call
use Rattle.controller_calls.specs.declared.calls.JudgedCall.{JudgedCall}
use Rattle.controller_calls.specs.declared.line.Line.{Line}
use Rattle.controller_calls.specs.declared.state.Work.{Work}
use Rattle.domain_controller.specs.Forwarding.{TrustDesk, after_ended, answer_found, answer_trust_call, base_desk, beside, by_trust_heard, close_ended, end_turn, trust_desk, trust_server}
use Rattle.domain_controller.specs.Hearing.{hear}
use Rattle.domain_controller.specs.Machine.{by_heard}
use Rattle.domain_controller.specs.State.{State as ControllerState}
use Rattle.domain_controller.specs.Step.{LinkMap}
use Rattle.domain_controller.specs.TrustStep.{TrustPart, TrustParts, after_turned, after_units, answer_dial, by_trust_event, close_by, close_number, event_and_turn, fail_dial, first_waiting, is_idle, link_with, next_if, next_part, next_turn, open_by, parts_of, put_open, serve_bytes, serve_on, start_at, start_on, trust_halted, trust_part, trust_state_after, trust_step_of, trust_step_on, turn_at, turned_work, turning_of, without_link}
use Rattle.domain_controller.specs.Trusting.{same_place}
use Rattle.domain_controller.specs.declared.hearing.Heard.{Heard}
use Rattle.domain_controller.specs.declared.hearing.Heard.TheVariants as heard
use Rattle.domain_controller.specs.declared.state.Running.{Running}
use Rattle.domain_controller.specs.declared.state.Talk.{Talk}
use Rattle.domain_controller.specs.declared.trusting.Parts.{Parts}
use Rattle.domain_controller.specs.declared.trusting.TrustWork.{TrustWork}
use Rattle.domain_controller.specs.declared.trusting.Trusting.{Trusting}
use Rattle.domain_controller.proofs.HandOnLaws.{AnsweredHere, CallComes, ForwardedOn, call_comes}
use Rattle.domain_controller.proofs.UnitLaws.{UnitCases, UnitFact, heard_comes}
use Rattle.member_server.specs.Dials.{IsNoAnswer, IsWaiting, dial_of, dials_in}
use Rattle.world_moves.specs.Ends.{actions_by}

-- ---- the dials among actions

pub dials_append : (one more : List Action) → dials_in (one ++ more) ≡ dials_in one + dials_in more
dials_append [] more = omega arith
dials_append (what ∷ one) more = omega (arith, dials_append one more)

-- an action more that dials nothing
one_more : (what : Action) (actions : List Action) → dial_of what ≡ 0 → dials_in (actions ++ what ∷ []) ≡ dials_in actions
one_more what actions none = omega (arith, dials_append actions (what ∷ []), none)

pub one_dial : (peer : List ℕ) (actions : List Action) → dials_in (actions ++ action.Dial peer ∷ []) ≡ dials_in actions + 1
one_dial peer actions = omega (arith, dials_append actions (action.Dial peer ∷ []))

texts_none : (kept : List Action) → AllByRecursion IsKeep kept → dials_in kept ≡ 0
texts_none [] all = refl
texts_none (action.Keep bytes ∷ kept) all = omega (arith, texts_none kept all.1)
texts_none (action.Send link bytes ∷ kept) all = absurd all.0
texts_none (action.Dial peer ∷ kept) all = absurd all.0
texts_none (action.Close link cause ∷ kept) all = absurd all.0
texts_none (action.Told link outcome ∷ kept) all = absurd all.0
texts_none (action.Judged how ∷ kept) all = absurd all.0

-- ---- a unit on an accepted link dials nothing

-- as many dials are among the actions behind a unit as before it; of a call that is judged nothing is said here
abbrev SameAtDesk : Desk → UnitFact
SameAtDesk d (heard.Asked line (call.Judged c) talk) part = Unit {0}
SameAtDesk d h (Err why) = Unit {0}
SameAtDesk d h (Ok part) = dials_in part.value.0.work.actions ≡ dials_in d.work.actions

abbrev SameDials : ℕ → ServedPart TrustDesk Talk → Type 0
SameDials n (Err why) = Unit {0}
SameDials n (Ok part) = dials_in part.value.0.work.work.actions ≡ n

desk_cases : (link : ℕ) (name : List ℕ) (now : ℕ) (d : Desk) (left : List (List ℕ)) → UnitCases (SameAtDesk d) link name now d left
desk_cases link name now d left = record {
  close = λ cause. one_more (action.Close link cause) d.work.actions refl;
  answer = λ bytes talk. one_more (action.Send link bytes) d.work.actions refl;
  waits = λ talk. refl;
  spent = λ line c talk none. tt;
  unknown = λ line c talk server rest is none. one_more (action.Send line.link _) d.work.actions refl;
  known = λ line c talk server rest is known. one_more (action.Send line.link _) d.work.actions refl;
  denied = λ line c talk status fails none. one_more (action.Send line.link _) d.work.actions refl;
  accepted = λ line c talk opens. one_more (action.Send line.link _) d.work.actions refl;
  judged = λ line c talk after comes. tt;
}

-- a call that is judged was heard
abbrev AsksJudged : Heard → Type 0
AsksJudged (heard.Asked line (call.Judged c) talk) = Unit {0}
AsksJudged _ = ⊥

beside_same : (h : Heard) (d : TrustDesk) (part : ServedPart Desk Talk) → (AsksJudged h → ⊥) → SameAtDesk (base_desk d) h part → SameDials (dials_in d.work.work.actions) (beside d.work.queues part)
beside_same h d (Err why) other same = tt
beside_same (heard.Close cause) d (Ok part) other same = same
beside_same (heard.Answer bytes talk) d (Ok part) other same = same
beside_same (heard.Waits talk) d (Ok part) other same = same
beside_same (heard.Asked line (call.Challenge c) talk) d (Ok part) other same = same
beside_same (heard.Asked line (call.Authenticate c) talk) d (Ok part) other same = same
beside_same (heard.Asked line (call.Judged c) talk) d (Ok part) other same = absurd (other tt)

base_same : (h : Heard) (link : ℕ) (name : List ℕ) (now : ℕ) (d : TrustDesk) (left : List (List ℕ)) → (AsksJudged h → ⊥) →
    SameDials (dials_in d.work.work.actions) (beside d.work.queues (by_heard h link name now (base_desk d) left))
base_same h link name now d left other =
    beside_same h d (by_heard h link name now (base_desk d) left) other
    (heard_comes (SameAtDesk (base_desk d)) link name now (base_desk d) left (desk_cases link name now (base_desk d) left) h)

call_same : (c : JudgedCall) (line : Line) (before after : TrustDesk) → CallComes c line before after → dials_in after.work.work.actions ≡ dials_in before.work.work.actions
call_same c line before after (ForwardedOn is so) = ap dials_in so.actions ∙ one_more (action.Judged judged.Forwarded) before.work.work.actions refl
call_same c line before after (AnsweredHere so) =
    let told : List Action = action.Judged so.how ∷ action.Send line.link so.answer ∷ [] in
    omega (
      arith,
      ap dials_in so.actions,
      dials_append before.work.work.actions (so.kept ++ told),
      dials_append so.kept told,
      texts_none so.kept so.texts,
    )

unit_same : (h : Heard) (link : ℕ) (name : List ℕ) (now : ℕ) (d : TrustDesk) (left : List (List ℕ)) → SameDials (dials_in d.work.work.actions) (by_trust_heard h link name now d left)
unit_same (heard.Close cause) link name now d left = base_same (heard.Close cause) link name now d left (λ asks. asks)
unit_same (heard.Answer bytes talk) link name now d left = base_same (heard.Answer bytes talk) link name now d left (λ asks. asks)
unit_same (heard.Waits talk) link name now d left = base_same (heard.Waits talk) link name now d left (λ asks. asks)
unit_same (heard.Asked line (call.Challenge c) talk) link name now d left = base_same (heard.Asked line (call.Challenge c) talk) link name now d left (λ asks. asks)
unit_same (heard.Asked line (call.Authenticate c) talk) link name now d left = base_same (heard.Asked line (call.Authenticate c) talk) link name now d left (λ asks. asks)
unit_same (heard.Asked line (call.Judged c) talk) link name now d left = call_same c line d (answer_trust_call c name now line d) (call_comes c name now line d)

from_first : (n : ℕ) (d : TrustDesk) (part : ServedPart TrustDesk Talk) → dials_in d.work.work.actions ≡ n → SameDials (dials_in d.work.work.actions) part → SameDials n part
from_first n d (Err why) is same = tt
from_first n d (Ok part) is same = same ∙ is

units_same : (name : List ℕ) (now link n : ℕ) → StaysServing (trust_server name now link) (SameDials n)
units_same name now link n = record {
  spent = λ why. tt;
  unit = λ bytes d talk left is. from_first n d (by_trust_heard (hear link bytes talk) link name now d left) is (unit_same (hear link bytes talk) link name now d left);
  refusal = λ why d talk left is. one_more (action.Close link close.BadUnit) d.work.work.actions refl ∙ is;
}

-- ---- an event for the turn dials nothing

reply_same : (line : Option Line) (answer : Reply) (work : Work) → dials_in (reply_if line answer work).actions ≡ dials_in work.actions
reply_same None answer work = refl
reply_same (Some line) answer work = one_more (action.Send line.link (bytes_of_call (response_of line.call line.context (written_reply answer)) line.limit)) work.actions refl

found_same : (found : Option ForwardedState) (place : ℕ × ℕ) (verdict : Verdict) (w : TrustWork) → dials_in (answer_found found place verdict w).work.actions ≡ dials_in w.work.actions
found_same None place verdict w = refl
found_same (Some f) place verdict w =
    let what : Action = action.Judged (judged.Answered (status_of verdict)) in
    reply_same f.line (forwarded_reply f verdict) (tell w.work what) ∙ one_more what w.work.actions refl

end_same : (how : TurnEnd) (trust : ℕ) (w : TrustWork) → dials_in (end_turn how trust w).work.actions ≡ dials_in w.work.actions
end_same turn_end.Half trust w = refl
end_same turn_end.Opened trust w = refl
end_same turn_end.Set trust w = refl
end_same (turn_end.Answer place verdict) trust w = found_same (lookup same_place (trust, place) w.queues.forwarded) (trust, place) verdict w
end_same (turn_end.Dropped place cause) trust w = found_same (lookup same_place (trust, place) w.queues.forwarded) (trust, place) (Status no_logon_servers) w

close_same : (closes : Option (ℕ × CloseCause)) (w : TrustWork) → dials_in (close_ended closes w).work.actions ≡ dials_in w.work.actions
close_same None w = refl
close_same (Some closes) w = one_more (action.Close closes.0 closes.1) w.work.actions refl

ended_same : (ended : Option TurnEnded) (trust : ℕ) (w : TrustWork) → dials_in (after_ended ended trust w).work.actions ≡ dials_in w.work.actions
ended_same None trust w = refl
ended_same (Some ended) trust w = end_same ended.how trust (close_ended ended.closes w) ∙ close_same ended.closes w

turn_same : (found : Option Requester) (happens : Turning → Turned) (parts : Parts) → ((turning : Turning) → dials_in (happens turning).0.actions ≡ dials_in turning.actions) →
    dials_in (turn_at found happens parts).work.work.actions ≡ dials_in parts.work.work.actions
turn_same None happens parts same = refl
turn_same (Some channel) happens parts same =
    let turned : Turned = happens (turning_of channel parts) in
    ended_same turned.1 parts.turn_of (turned_work parts.turn_of turned.0 parts.work) ∙ same (turning_of channel parts)

closes_same : (b : Bool) (turning : Turning) → dials_in (close_if b turning).0.actions ≡ dials_in turning.actions
closes_same false turning = refl
closes_same true turning = refl

fails_same : (how : Dialling) (turning : Turning) → dials_in (fail_by how turning).0.actions ≡ dials_in turning.actions
fails_same dialling.Nothing turning = refl
fails_same (dialling.Waits turn frames) turning = refl
fails_same (dialling.On number said) turning = refl

answers_same : (how : Dialling) (link : ℕ) (turning : Turning) → dials_in (answer_by how link turning).actions ≡ dials_in turning.actions
answers_same dialling.Nothing link turning = refl
answers_same (dialling.Waits turn frames) link turning = one_more (action.Send link (joined_frames frames)) turning.actions refl
answers_same (dialling.On number said) link turning = refl

abbrev TurnServedSame : TurnWork → TurnServed → Type 0
TurnServedSame first served = dials_in served.0.actions ≡ dials_in first.actions

turns_same : (first : TurnWork) → StaysOnTurns (TurnServedSame first)
turns_same first = record {
  waits = λ at talk other same. same;
  takes = λ unit joiner at talk same.
      taken_by (take_of at.channel unit).taken joiner (record at { channel = (take_of at.channel unit).state }) (TurnServedSame first) (record {
        skips = λ right taken. same;
        sends = λ right frames taken. one_more (action.Send at.link (joined_frames frames)) at.actions refl ∙ same;
        ends = λ how taken. same;
      });
  breaks = λ cause at talk same. same;
}

hears_if : (b : Bool) (number : ℕ) (said : LinkState TurnTalk) (piece : List ℕ) (turning : Turning) → dials_in (hear_if b number said piece turning).0.actions ≡ dials_in turning.actions
hears_if false number said piece turning = refl
hears_if true number said piece turning =
    let at : TurnWork = record { link = number; channel = turning.channel; actions = turning.actions; ended = None } in
    turn_stays (TurnServedSame at) (turns_same at) (cut_stream (said.rest ++ piece)) at said.talk refl

hears_same : (how : Dialling) (link : ℕ) (piece : List ℕ) (turning : Turning) → dials_in (hear_by how link piece turning).0.actions ≡ dials_in turning.actions
hears_same dialling.Nothing link piece turning = refl
hears_same (dialling.Waits turn frames) link piece turning = refl
hears_same (dialling.On number said) link piece turning = hears_if (number == link) number said piece turning

-- ---- no event dials anything

-- that many dials are among the actions of the part of a step
abbrev pub PartDials : (n : ℕ) (part : TrustPart) → Type 0
PartDials n (Err why) = Unit {0}
PartDials n (Ok part) = dials_in part.value.parts.work.work.actions ≡ n

closed_dials : (b : Bool) (number : ℕ) (parts : Parts) → dials_in (close_by b number parts).work.work.actions ≡ dials_in parts.work.work.actions
closed_dials false number parts = refl
closed_dials true number parts =
    turn_same (slice_get parts.work.queues.requesters parts.turn_of) (λ turning. link_closes number turning) parts (λ turning. closes_same (is_on number turning.dialling) turning)

opened_dials : (full : Bool) (number : ℕ) (parts : Parts) → dials_in (open_by full number parts).work.work.actions ≡ dials_in parts.work.work.actions
opened_dials true number parts = one_more (action.Close number close.TooManyLinks) parts.work.work.actions refl
opened_dials false number parts = refl

dialled_dials : (waits : Bool) (number : ℕ) (parts : Parts) → dials_in (answer_dial waits number parts).work.work.actions ≡ dials_in parts.work.work.actions
dialled_dials false number parts = refl
dialled_dials true number parts =
    turn_same (slice_get parts.work.queues.requesters parts.turn_of) (λ turning. (link_answers number turning, None)) (without_link number parts)
    (λ turning. answers_same turning.dialling number turning)

failed_dials : (waits : Bool) (parts : Parts) → dials_in (fail_dial waits parts).work.work.actions ≡ dials_in parts.work.work.actions
failed_dials false parts = refl
failed_dials true parts =
    turn_same (slice_get parts.work.queues.requesters parts.turn_of) (λ turning. no_dial turning) parts (λ turning. fails_same turning.dialling turning)

put_same : (open_link : Option (LinkState Talk)) (number : ℕ) (parts : Parts) → (put_open open_link number parts).work.work.actions ≡ parts.work.work.actions
put_same None number parts = refl
put_same (Some link) number parts = refl

units_dial : (part : ServedPart TrustDesk Talk) (rest : List ℕ) (number n : ℕ) (others : LinkMap) (parts : Parts) → SameDials n part → PartDials n (after_units part rest number others parts)
units_dial (Err why) rest number n others parts same = tt
units_dial (Ok part) rest number n others parts same =
    ap dials_in (put_same (link_with rest part.value.1) number (record parts { work = part.value.0.work; links = others })) ∙ same

served_dials : (found : Option (LinkState Talk)) (number : ℕ) (piece name : List ℕ) (now : ℕ) (others : LinkMap) (table : AccountTable) (parts : Parts) (left : List (List ℕ)) →
    PartDials (dials_in parts.work.work.actions) (serve_on found number piece name now others table parts left)
served_dials None number piece name now others table parts left = refl
served_dials (Some link) number piece name now others table parts left =
    let cut = cut_stream (link.rest ++ piece) in
    let n : ℕ = dials_in parts.work.work.actions in
    units_dial (served_cut (trust_server name now number) cut (trust_desk table parts.work) link.talk left) cut.rest number n others parts
    (served_stays (trust_server name now number) (SameDials n) (units_same name now number n) cut (trust_desk table parts.work) link.talk left refl)

bytes_dial : (b : Bool) (number : ℕ) (piece name : List ℕ) (now : ℕ) (table : AccountTable) (parts : Parts) (left : List (List ℕ)) →
    PartDials (dials_in parts.work.work.actions) (serve_bytes b number piece name now table parts left)
bytes_dial true number piece name now table parts left =
    turn_same (slice_get parts.work.queues.requesters parts.turn_of) (λ turning. link_hears number piece turning) parts (λ turning. hears_same turning.dialling number piece turning)
bytes_dial false number piece name now table parts left =
    served_dials (lookup same_number number parts.links) number piece name now (take_out same_number number parts.links) table parts left

pub event_dials : (what : Event) (name : List ℕ) (now : ℕ) (table : AccountTable) (parts : Parts) (left : List (List ℕ)) →
    PartDials (dials_in parts.work.work.actions) (by_trust_event what name now table parts left)
event_dials (event.Opened number) name now table parts left =
    opened_dials _ number (close_number number parts) ∙ closed_dials (is_on number parts.dialling) number parts
event_dials (event.Bytes number piece) name now table parts left = bytes_dial (is_on number parts.dialling) number piece name now table parts left
event_dials (event.Closed number) name now table parts left = closed_dials (is_on number parts.dialling) number parts
event_dials (event.Dialled number) name now table parts left = dialled_dials (is_waiting parts.dialling) number parts
event_dials event.DialFailed name now table parts left = failed_dials (is_waiting parts.dialling) parts
event_dials event.Stop name now table parts left = refl

-- ---- the next turn

-- nothing more is dialled, and the turn's dial or link is as far as before; or there was neither, one more is dialled,
-- and that dial waits
abbrev DialledBy : Parts → List Action → Dialling → Type 0
DialledBy before actions how =
    ((dials_in actions ≡ dials_in before.work.work.actions) × (how ≡ before.dialling))
    ⊎ ((is_idle before.dialling ≡ true) × (dials_in actions ≡ dials_in before.work.work.actions + 1) × IsWaiting how)

abbrev NextDialled : Parts → Result (Part Parts) StepRefused → Type 0
NextDialled before (Err why) = Unit {0}
NextDialled before (Ok part) = DialledBy before part.value.work.work.actions part.value.dialling

start_dials : (start : Option (Unit {0} × List (List ℕ))) (peer : List ℕ) (channel new : Requester) (parts : Parts) → is_idle parts.dialling ≡ true →
    DialledBy parts (dial_for start peer (record (turning_of channel parts) { channel = new })).actions (dial_for start peer (record (turning_of channel parts) { channel = new })).dialling
start_dials None peer channel new parts idle = inl (refl, refl)
start_dials (Some start) peer channel new parts idle = inr (idle, one_dial peer parts.work.work.actions, tt)

begun_dials : (next : Result (Part NextTurn) StepRefused) (peer : List ℕ) (channel : Requester) (trust : ℕ) (parts : Parts) → is_idle parts.dialling ≡ true →
    NextDialled parts (then_part (then_part next (dial_part peer (turning_of channel parts))) (λ turning rest. next_part (after_turned trust (turning, None) parts) rest))
begun_dials (Err why) peer channel trust parts idle = tt
begun_dials (Ok part) peer channel trust parts idle = start_dials part.value.1 peer channel part.value.0 parts idle

found_dials : (found : Option Requester) (entry : Option Trust) (trust now : ℕ) (parts : Parts) (left : List (List ℕ)) → is_idle parts.dialling ≡ true →
    NextDialled parts (start_on found entry trust now parts left)
found_dials None entry trust now parts left idle = inl (refl, refl)
found_dials (Some channel) None trust now parts left idle = inl (refl, refl)
found_dials (Some channel) (Some entry) trust now parts left idle = begun_dials (channel_turn now channel left) entry.address channel trust parts idle

at_dials : (first : Option ℕ) (trusts : List Trust) (now : ℕ) (parts : Parts) (left : List (List ℕ)) → is_idle parts.dialling ≡ true → NextDialled parts (start_at first trusts now parts left)
at_dials None trusts now parts left idle = inl (refl, refl)
at_dials (Some trust) trusts now parts left idle =
    found_dials (slice_get parts.work.queues.requesters trust) (slice_get trusts trust) trust now parts left idle

next_dials : (idle : Bool) (trusts : List Trust) (now : ℕ) (parts : Parts) (left : List (List ℕ)) → is_idle parts.dialling ≡ idle → NextDialled parts (next_if idle trusts now parts left)
next_dials false trusts now parts left is = inl (refl, refl)
next_dials true trusts now parts left is = at_dials (first_waiting parts.work.queues.requesters) trusts now parts left is

-- ---- a step dials once at most, and its dial waits then

abbrev DialsOnce : List Action → Dialling → Type 0
DialsOnce actions how = (dials_in actions ≤ 1) × (1 ≤ dials_in actions → IsWaiting how)

abbrev OncePart : TrustPart → Type 0
OncePart (Err why) = Unit {0}
OncePart (Ok part) = DialsOnce part.value.parts.work.work.actions part.value.parts.dialling

next_once : (result : Result (Part Parts) StepRefused) (table : AccountTable) (before : Parts) → dials_in before.work.work.actions ≡ 0 → NextDialled before result →
    OncePart (then_part result (λ later last. trust_part table later last))
next_once (Err why) table before none next = tt
next_once (Ok part) table before none next = elim next [
  | inl same ↦ (omega (arith, same.0, none), (λ some. absurd (omega (arith, same.0, none, some))))
  | inr new ↦ (omega (arith, new.1, none), (λ some. new.2))
]

once_behind : (part : TrustPart) (trusts : List Trust) (now : ℕ) → PartDials 0 part →
    OncePart (then_part part (λ after rest. then_part (next_turn trusts now after.parts rest) (λ later last. trust_part after.table later last)))
once_behind (Err why) trusts now none = tt
once_behind (Ok part) trusts now none =
    next_once (next_turn trusts now part.value.parts part.left) part.value.table part.value.parts none
    (next_dials (is_idle part.value.parts.dialling) trusts now part.value.parts part.left refl)

-- of a controller that stopped nothing is said but that it dials nothing
abbrev pub OnceUnlessStopped : Option Running → List Action → Trusting → Type 0
OnceUnlessStopped None actions t = dials_in actions ≡ 0
OnceUnlessStopped (Some running) actions t = DialsOnce actions t.dialling

once_taken : (part : TrustPart) (s : ControllerState) (left : List (List ℕ)) → OncePart part →
    let step = step_by (λ (after : TrustParts). after.parts.work.work.actions) (λ after. trust_state_after s after) (trust_halted s) left part in
    OnceUnlessStopped step.state.running (actions_by step.answer) step.state.trusting
once_taken (Err why) s left once = refl
once_taken (Ok part) s left once = once

once_by : (running : Option Running) (s : ControllerState) (what : Event) (now : ℕ) (left : List (List ℕ)) → s.running ≡ running →
    let step = trust_step_on running s what now left in OnceUnlessStopped step.state.running (actions_by step.answer) step.state.trusting
once_by None s what now left is = subst (λ (r : Option Running). OnceUnlessStopped r [] s.trusting) (sym is) refl
once_by (Some running) s what now left is =
    once_taken (event_and_turn s.table.trusts what s.name now s.table (parts_of running s.trusting) left) s left
    (once_behind (by_trust_event what s.name now s.table (parts_of running s.trusting) left) s.table.trusts now
    (event_dials what s.name now s.table (parts_of running s.trusting) left))

pub dials_once : (s : ControllerState) (what : Event) (now : ℕ) (left : List (List ℕ)) →
    OnceUnlessStopped (trust_step_of s what now left).state.running (actions_by (trust_step_of s what now left).answer) (trust_step_of s what now left).state.trusting
dials_once s what now left = once_by s.running s what now left refl

-- ---- while a dial waits

abbrev pub PartWaits : Dialling → TrustPart → Type 0
PartWaits how (Err why) = Unit {0}
PartWaits how (Ok part) = part.value.parts.dialling ≡ how

pub waits_off : (number : ℕ) (how : Dialling) → IsWaiting how → is_on number how ≡ false
waits_off number dialling.Nothing waits = refl
waits_off number (dialling.Waits turn frames) waits = refl
waits_off number (dialling.On other said) waits = absurd waits

pub waits_busy : (how : Dialling) → IsWaiting how → is_idle how ≡ false
waits_busy dialling.Nothing waits = absurd waits
waits_busy (dialling.Waits turn frames) waits = refl
waits_busy (dialling.On other said) waits = absurd waits

closed_waits : (b : Bool) (number : ℕ) (parts : Parts) → b ≡ false → (close_by b number parts).dialling ≡ parts.dialling
closed_waits false number parts off = refl
closed_waits true number parts off = absurd (let x = off in cc)

opened_waits : (full : Bool) (number : ℕ) (parts : Parts) → (open_by full number parts).dialling ≡ parts.dialling
opened_waits true number parts = refl
opened_waits false number parts = refl

put_waits : (open_link : Option (LinkState Talk)) (number : ℕ) (parts : Parts) → (put_open open_link number parts).dialling ≡ parts.dialling
put_waits None number parts = refl
put_waits (Some link) number parts = refl

units_wait : (part : ServedPart TrustDesk Talk) (rest : List ℕ) (number : ℕ) (others : LinkMap) (parts : Parts) → PartWaits parts.dialling (after_units part rest number others parts)
units_wait (Err why) rest number others parts = tt
units_wait (Ok part) rest number others parts = put_waits (link_with rest part.value.1) number (record parts { work = part.value.0.work; links = others })

served_waits : (found : Option (LinkState Talk)) (number : ℕ) (piece name : List ℕ) (now : ℕ) (others : LinkMap) (table : AccountTable) (parts : Parts) (left : List (List ℕ)) →
    PartWaits parts.dialling (serve_on found number piece name now others table parts left)
served_waits None number piece name now others table parts left = refl
served_waits (Some link) number piece name now others table parts left =
    units_wait (served_cut (trust_server name now number) (cut_stream (link.rest ++ piece)) (trust_desk table parts.work) link.talk left) (cut_stream (link.rest ++ piece)).rest number others parts

bytes_wait : (b : Bool) (number : ℕ) (piece name : List ℕ) (now : ℕ) (table : AccountTable) (parts : Parts) (left : List (List ℕ)) → b ≡ false →
    PartWaits parts.dialling (serve_bytes b number piece name now table parts left)
bytes_wait true number piece name now table parts left off = absurd (let x = off in cc)
bytes_wait false number piece name now table parts left off =
    served_waits (lookup same_number number parts.links) number piece name now (take_out same_number number parts.links) table parts left

pub event_waits : (what : Event) (name : List ℕ) (now : ℕ) (table : AccountTable) (parts : Parts) (left : List (List ℕ)) → IsNoAnswer what → IsWaiting parts.dialling →
    PartWaits parts.dialling (by_trust_event what name now table parts left)
event_waits (event.Opened number) name now table parts left none waits =
    opened_waits _ number (close_number number parts) ∙ closed_waits (is_on number parts.dialling) number parts (waits_off number parts.dialling waits)
event_waits (event.Bytes number piece) name now table parts left none waits =
    bytes_wait (is_on number parts.dialling) number piece name now table parts left (waits_off number parts.dialling waits)
event_waits (event.Closed number) name now table parts left none waits =
    closed_waits (is_on number parts.dialling) number parts (waits_off number parts.dialling waits)
event_waits (event.Dialled number) name now table parts left none waits = absurd none
event_waits event.DialFailed name now table parts left none waits = absurd none
event_waits event.Stop name now table parts left none waits = refl

-- nothing is dialled, and the dial waits on
abbrev StaysDialled : Dialling → List Action → Dialling → Type 0
StaysDialled how actions after = (dials_in actions ≡ 0) × (after ≡ how)

abbrev StaysPart : Dialling → TrustPart → Type 0
StaysPart how (Err why) = Unit {0}
StaysPart how (Ok part) = StaysDialled how part.value.parts.work.work.actions part.value.parts.dialling

next_stays : (result : Result (Part Parts) StepRefused) (table : AccountTable) (before : Parts) (how : Dialling) → dials_in before.work.work.actions ≡ 0 → before.dialling ≡ how → IsWaiting how →
    NextDialled before result → StaysPart how (then_part result (λ later last. trust_part table later last))
next_stays (Err why) table before how none is waits next = tt
next_stays (Ok part) table before how none is waits next = elim next [
  | inl same ↦ (same.0 ∙ none, same.1 ∙ is)
  | inr new ↦ absurd (let never : true ≡ false = sym new.0 ∙ ap is_idle is ∙ waits_busy how waits in cc)
]

stays_behind : (part : TrustPart) (trusts : List Trust) (now : ℕ) (how : Dialling) → IsWaiting how → PartDials 0 part → PartWaits how part →
    StaysPart how (then_part part (λ after rest. then_part (next_turn trusts now after.parts rest) (λ later last. trust_part after.table later last)))
stays_behind (Err why) trusts now how waits none is = tt
stays_behind (Ok part) trusts now how waits none is =
    next_stays (next_turn trusts now part.value.parts part.left) part.value.table part.value.parts how none is waits
    (next_dials (is_idle part.value.parts.dialling) trusts now part.value.parts part.left refl)

abbrev pub StaysUnlessStopped : Dialling → Option Running → List Action → Trusting → Type 0
StaysUnlessStopped how None actions t = dials_in actions ≡ 0
StaysUnlessStopped how (Some running) actions t = StaysDialled how actions t.dialling

stays_taken : (part : TrustPart) (s : ControllerState) (how : Dialling) (left : List (List ℕ)) → StaysPart how part →
    let step = step_by (λ (after : TrustParts). after.parts.work.work.actions) (λ after. trust_state_after s after) (trust_halted s) left part in
    StaysUnlessStopped how step.state.running (actions_by step.answer) step.state.trusting
stays_taken (Err why) s how left stays = refl
stays_taken (Ok part) s how left stays = stays

stays_by : (running : Option Running) (s : ControllerState) (what : Event) (now : ℕ) (left : List (List ℕ)) → s.running ≡ running → IsNoAnswer what → IsWaiting s.trusting.dialling →
    let step = trust_step_on running s what now left in StaysUnlessStopped s.trusting.dialling step.state.running (actions_by step.answer) step.state.trusting
stays_by None s what now left is none waits = subst (λ (r : Option Running). StaysUnlessStopped s.trusting.dialling r [] s.trusting) (sym is) refl
stays_by (Some running) s what now left is none waits =
    stays_taken (event_and_turn s.table.trusts what s.name now s.table (parts_of running s.trusting) left) s s.trusting.dialling left
    (stays_behind (by_trust_event what s.name now s.table (parts_of running s.trusting) left) s.table.trusts now s.trusting.dialling waits
    (event_dials what s.name now s.table (parts_of running s.trusting) left) (event_waits what s.name now s.table (parts_of running s.trusting) left none waits))

-- only the answer to the dial changes it
pub dial_stays : (s : ControllerState) (what : Event) (now : ℕ) (left : List (List ℕ)) → IsNoAnswer what → IsWaiting s.trusting.dialling →
    StaysUnlessStopped s.trusting.dialling (trust_step_of s what now left).state.running (actions_by (trust_step_of s what now left).answer)
    (trust_step_of s what now left).state.trusting
dial_stays s what now left none waits = stays_by s.running s what now left refl none waits
