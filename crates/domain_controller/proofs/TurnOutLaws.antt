-- One turn is out at a time, over all trusts. It serves `one_turn_is_out`.
use Rattle.std.proofs.Common.{◌≡◌, ◌<◌, ◌++◌, ℕ, zero, suc, Bool, true, false, not, List, [], ◌∷◌, length, map, Option, Some, None, is_some, Result, Ok, Err, slice_get, slice_set, refl, sym, ap, ◌∙◌, arith}
use Rattle.wire_base.specs.Maps.{lookup, same_number, take_out}
use Rattle.outside.specs.Machine.{Part, step_by, then_part}
use Rattle.outside.specs.declared.action.StepRefused.{StepRefused}
use Rattle.outside.specs.declared.event.Event.{Event}
use Rattle.outside.specs.declared.event.Event.TheVariants as event
use Rattle.rpc_units.specs.Stream.{cut_stream}
use Rattle.authenticators.specs.Timestamps.{timestamp_of}
use Rattle.account_table.specs.AccountTable.{AccountTable}
use Rattle.account_table.specs.declared.account.Trust.{Trust}
use Rattle.end_links.proofs.KeepLaws.{StaysServing, served_stays}
use Rattle.end_links.specs.Links.{LinkState}
use Rattle.end_links.specs.Serving.{ServedPart, served_cut}
use Rattle.channel_client.proofs.TurnLaws.{one_turn}
use Rattle.channel_client.specs.Machine.{can_start, fresh_requester, needs_challenge}
use Rattle.channel_client.specs.State.{Requester}
use Rattle.channel_client.specs.Turns.{is_out}
use Rattle.channel_turns.proofs.TurnLaws.{turns_end}
use Rattle.channel_turns.specs.Dials.{NextTurn, next_by, next_turn as channel_turn}
use Rattle.channel_turns.specs.Turning.{Turned, answer_by, close_if, dial_for, dial_part, fail_by, hear_by, hear_if, is_on, is_waiting, keep_link, link_answers, link_closes, link_hears, no_dial}
use Rattle.channel_turns.specs.Turns.{keep_turn, turn_served}
use Rattle.channel_turns.specs.declared.state.Dialling.{Dialling}
use Rattle.channel_turns.specs.declared.state.Dialling.TheVariants as dialling
use Rattle.channel_turns.specs.declared.state.TurnEnd.{TurnEnd}
use Rattle.channel_turns.specs.declared.state.TurnEnd.TheVariants as turn_end
use Rattle.channel_turns.specs.declared.state.TurnEnded.{TurnEnded}
use Rattle.channel_turns.specs.declared.state.TurnTalk.{TurnTalk}
use Rattle.channel_turns.specs.declared.state.TurnWork.{TurnWork}
use Rattle.channel_turns.specs.declared.state.Turning.{Turning}
use Rattle.controller_calls.specs.Desk.{Desk}
use Rattle.controller_calls.specs.Forwarded.{ForwardedState}
use Rattle.controller_calls.specs.declared.calls.ControllerCall.TheVariants as call
use Rattle.controller_calls.specs.declared.calls.JudgedCall.{JudgedCall}
use Rattle.controller_calls.specs.declared.line.Line.{Line}
use Rattle.logon_stubs.specs.Status.{no_logon_servers}
use Rattle.logon_stubs.specs.declared.info.Verdict.{Verdict}
use Rattle.logon_stubs.specs.declared.info.Verdict.TheVariants.{Status}
use Rattle.domain_controller.specs.Forwarding.{TrustDesk, after_ended, answer_found, answer_trust_call, base_desk, beside, by_trust_heard, close_ended, end_turn, trust_desk, trust_server}
use Rattle.domain_controller.specs.Hearing.{hear}
use Rattle.domain_controller.specs.Machine.{by_call, by_heard}
use Rattle.domain_controller.specs.State.{State}
use Rattle.domain_controller.specs.Step.{LinkMap}
use Rattle.domain_controller.specs.TrustLaws.{OneIsOut, OneTurnIsOut, none_out, one_out, outs}
use Rattle.domain_controller.specs.TrustStep.{TrustPart, TrustParts, after_turned, after_units, answer_dial, by_trust_event, close_by, close_number, event_and_turn, fail_dial, first_waiting, is_idle, link_with, next_if, next_part, next_turn, on_turn, open_by, parts_of, put_open, serve_bytes, serve_on, start_at, start_on, trust_halted, trust_part, trust_state_after, trust_step_on, trusting_after, turn_at, turned_work, turning_of, without_link}
use Rattle.domain_controller.specs.Trusting.{trust_caller}
use Rattle.domain_controller.specs.declared.hearing.Heard.{Heard}
use Rattle.domain_controller.specs.declared.hearing.Heard.TheVariants as heard
use Rattle.domain_controller.specs.declared.state.Running.{Running}
use Rattle.domain_controller.specs.declared.state.Talk.{Talk}
use Rattle.domain_controller.specs.declared.trusting.Parts.{Parts}
use Rattle.domain_controller.specs.declared.trusting.Queues.{Queues}
use Rattle.domain_controller.specs.declared.trusting.Trusting.{Trusting}
use Rattle.domain_controller.specs.declared.trusting.TrustWork.{TrustWork}
use Rattle.domain_controller.proofs.ForwardLaws.{set_same}
use Rattle.domain_controller.proofs.HandOnLaws.{AnsweredHere, CallComes, ForwardedOn, call_comes}

-- ---- lists

set_map : {A B : Type 0} (f : A → B) (items : List A) (at : ℕ) (item : A) → map f (slice_set items at item) ≡ slice_set (map f items) at (f item)
set_map f [] at item = refl
set_map f (first ∷ items) zero item = refl
set_map f (first ∷ items) (suc at) item = ap (λ rest. f first ∷ rest) (set_map f items at item)

set_twice : {A : Type 0} (items : List A) (at : ℕ) (one other : A) → slice_set (slice_set items at one) at other ≡ slice_set items at other
set_twice [] at one other = refl
set_twice (first ∷ items) zero one other = refl
set_twice (first ∷ items) (suc at) one other = ap (λ rest. first ∷ rest) (set_twice items at one other)

set_none : {A : Type 0} (items : List A) (at : ℕ) → slice_set (map (λ (a : A). false) items) at false ≡ map (λ (a : A). false) items
set_none [] at = refl
set_none (first ∷ items) zero = refl
set_none (first ∷ items) (suc at) = ap (λ rest. false ∷ rest) (set_none items at)

pub got_map : {A B : Type 0} (f : A → B) (items : List A) (at : ℕ) (item : A) → slice_get items at ≡ Some item → slice_get (map f items) at ≡ Some (f item)
got_map f [] at item is = absurd (let x = is in cc)
got_map f (first ∷ items) zero item is = let same : first ≡ item = (let x = is in cc) in ap (λ it. Some (f it)) same
got_map f (first ∷ items) (suc at) item is = got_map f items at item is

pub got_set : {A : Type 0} (items : List A) (at : ℕ) (old new : A) → slice_get items at ≡ Some old → slice_get (slice_set items at new) at ≡ Some new
got_set [] at old new is = absurd (let x = is in cc)
got_set (first ∷ items) zero old new is = refl
got_set (first ∷ items) (suc at) old new is = got_set items at old new is

pub got_inside : {A : Type 0} (items : List A) (at : ℕ) (item : A) → slice_get items at ≡ Some item → at < length items
got_inside [] at item is = absurd (let x = is in cc)
got_inside (first ∷ items) zero item is = omega arith
got_inside (first ∷ items) (suc at) item is = let lt = got_inside items at item is in omega arith

pub set_length : {A : Type 0} (items : List A) (at : ℕ) (item : A) → length (slice_set items at item) ≡ length items
set_length [] at item = refl
set_length (first ∷ items) zero item = refl
set_length (first ∷ items) (suc at) item = ap suc (set_length items at item)

same_length : {A B : Type 0} (f : A → B) (one other : List A) → map f one ≡ map f other → length one ≡ length other
same_length f [] [] same = refl
same_length f [] (item ∷ other) same = absurd (let x = same in cc)
same_length f (item ∷ one) [] same = absurd (let x = same in cc)
same_length f (item ∷ one) (first ∷ other) same = ap suc (same_length f one other (let x = same in cc))

-- where requesters are out alike in two lists, none is out in one where none is in the other
none_alike : (one other : List Requester) → outs one ≡ outs other → none_out one ≡ none_out other
none_alike [] [] same = refl
none_alike [] (item ∷ other) same = absurd (let x = same in cc)
none_alike (item ∷ one) [] same = absurd (let x = same in cc)
none_alike (item ∷ one) (first ∷ other) same = ap (λ rest. false ∷ rest) (none_alike one other (let x = same in cc))

none_set : (requesters : List Requester) (at : ℕ) (s : Requester) → none_out (slice_set requesters at s) ≡ none_out requesters
none_set requesters at s = set_map (λ (r : Requester). false) requesters at s ∙ set_none requesters at

-- ---- the requesters may change, but not which of them is out

one_by : (idle : Bool) (turn : ℕ) (one other : List Requester) → none_out one ≡ none_out other → one_out idle turn one ≡ one_out idle turn other
one_by true turn one other same = same
one_by false turn one other same = ap (λ all. slice_set all turn true) same

pub alike : (before after : Trusting) → outs after.queues.requesters ≡ outs before.queues.requesters → after.turn_of ≡ before.turn_of → after.dialling ≡ before.dialling →
    OneIsOut before → OneIsOut after
alike before after same turn how stands =
    let none : none_out before.queues.requesters ≡ none_out after.queues.requesters = none_alike before.queues.requesters after.queues.requesters (sym same) in
    record {
      outs = same ∙ stands.outs ∙ one_by (is_idle before.dialling) before.turn_of before.queues.requesters after.queues.requesters none
          ∙ ap (λ (k : ℕ). one_out (is_idle before.dialling) k after.queues.requesters) (sym turn)
          ∙ ap (λ (d : Dialling). one_out (is_idle d) after.turn_of after.queues.requesters) (sym how);
      inside = λ out.
          let was : is_idle before.dialling ≡ false = ap is_idle (sym how) ∙ out in
          let lt = stands.inside was in
          omega (arith, lt, turn, same_length (λ (s : Requester). is_out s) after.queues.requesters before.queues.requesters same);
    }

-- ---- a requester whose turn changes

-- a turn is out exactly while it is dialled
abbrev pub Agrees : Turning → Type 0
Agrees turning = is_out turning.channel ≡ not (is_idle turning.dialling)

set_by : (idle : Bool) (at : ℕ) (requesters : List Requester) (b : Bool) → outs requesters ≡ one_out idle at requesters →
    slice_set (outs requesters) at b ≡ slice_set (none_out requesters) at b
set_by true at requesters b is = ap (λ all. slice_set all at b) is
set_by false at requesters b is = ap (λ all. slice_set all at b) is ∙ set_twice (none_out requesters) at true b

one_set : (idle : Bool) (at : ℕ) (requesters : List Requester) → slice_set (none_out requesters) at (not idle) ≡ one_out idle at requesters
one_set true at requesters = set_none requesters at
one_set false at requesters = refl

-- a requester that is put at the place of the turn is out as the turn is
placed : (idle : Bool) (at : ℕ) (requesters : List Requester) (channel : Requester) (how : Dialling) → outs requesters ≡ one_out idle at requesters →
    is_out channel ≡ not (is_idle how) → outs (slice_set requesters at channel) ≡ one_out (is_idle how) at (slice_set requesters at channel)
placed idle at requesters channel how is agrees =
    set_map (λ (s : Requester). is_out s) requesters at channel
    ∙ ap (λ (b : Bool). slice_set (outs requesters) at b) agrees
    ∙ set_by idle at requesters (not (is_idle how)) is
    ∙ one_set (is_idle how) at requesters
    ∙ one_by (is_idle how) at requesters (slice_set requesters at channel) (sym (none_set requesters at channel))

pub found_by : (idle : Bool) (at : ℕ) (requesters : List Requester) (channel : Requester) → slice_get requesters at ≡ Some channel →
    outs requesters ≡ one_out idle at requesters → is_out channel ≡ not idle
found_by true at requesters channel is same =
    let both : Some (is_out channel) ≡ Some false =
    sym (got_map (λ (s : Requester). is_out s) requesters at channel is) ∙ ap (λ all. slice_get all at) same
    ∙ got_map (λ (s : Requester). false) requesters at channel is in
    (let x = both in cc)
found_by false at requesters channel is same =
    let both : Some (is_out channel) ≡ Some true =
    sym (got_map (λ (s : Requester). is_out s) requesters at channel is) ∙ ap (λ all. slice_get all at) same
    ∙ got_set (none_out requesters) at false true (got_map (λ (s : Requester). false) requesters at channel is) in
    (let x = both in cc)

-- ---- what follows of a turn that ended asks nobody

found_keeps : (found : Option ForwardedState) (place : ℕ × ℕ) (verdict : Verdict) (w : TrustWork) → (answer_found found place verdict w).queues.requesters ≡ w.queues.requesters
found_keeps None place verdict w = refl
found_keeps (Some f) place verdict w = refl

end_keeps : (how : TurnEnd) (trust : ℕ) (w : TrustWork) → (end_turn how trust w).queues.requesters ≡ w.queues.requesters
end_keeps turn_end.Half trust w = refl
end_keeps turn_end.Opened trust w = refl
end_keeps turn_end.Set trust w = refl
end_keeps (turn_end.Answer place verdict) trust w = found_keeps _ (trust, place) verdict w
end_keeps (turn_end.Dropped place cause) trust w = found_keeps _ (trust, place) (Status no_logon_servers) w

closed_keeps : (closes : Option _) (w : TrustWork) → (close_ended closes w).queues.requesters ≡ w.queues.requesters
closed_keeps None w = refl
closed_keeps (Some closes) w = refl

ended_keeps : (ended : Option TurnEnded) (trust : ℕ) (w : TrustWork) → (after_ended ended trust w).queues.requesters ≡ w.queues.requesters
ended_keeps None trust w = refl
ended_keeps (Some ended) trust w = end_keeps ended.how trust (close_ended ended.closes w) ∙ closed_keeps ended.closes w

abbrev pub Stands : Parts → Type 0
Stands parts = OneIsOut (trusting_after parts)

turned_stands : (idle : Bool) (trust : ℕ) (turned : Turned) (channel : Requester) (parts : Parts) → slice_get parts.work.queues.requesters trust ≡ Some channel →
    outs parts.work.queues.requesters ≡ one_out idle trust parts.work.queues.requesters → Agrees turned.0 → Stands (after_turned trust turned parts)
turned_stands idle trust turned channel parts is same agrees =
    let requesters = slice_set parts.work.queues.requesters trust turned.0.channel in
    let kept : (after_turned trust turned parts).work.queues.requesters ≡ requesters = ended_keeps turned.1 trust (turned_work trust turned.0 parts.work) in
    record {
      outs = ap outs kept ∙ placed idle trust parts.work.queues.requesters turned.0.channel turned.0.dialling same agrees
          ∙ ap (λ (all : List Requester). one_out (is_idle turned.0.dialling) trust all) (sym kept);
      inside = λ out.
          let lt = got_inside parts.work.queues.requesters trust channel is in
          omega (arith, lt, ap (λ (all : List Requester). length all) kept, set_length parts.work.queues.requesters trust turned.0.channel);
    }

-- ---- events on the link of the turn

abbrev Keeps : (Turning → Turned) → Type 0
Keeps happens = (turning : Turning) → Agrees turning → Agrees (happens turning).0

closes_if : (b : Bool) (turning : Turning) → Agrees turning → Agrees (close_if b turning).0
closes_if false turning agrees = agrees
closes_if true turning agrees = refl

fails_by : (how : Dialling) (turning : Turning) → Agrees turning → Agrees (fail_by how turning).0
fails_by dialling.Nothing turning agrees = agrees
fails_by (dialling.Waits turn frames) turning agrees = refl
fails_by (dialling.On number said) turning agrees = agrees

answers_by : (how : Dialling) (link : ℕ) (turning : Turning) → turning.dialling ≡ how → Agrees turning → Agrees (answer_by how link turning)
answers_by dialling.Nothing link turning is agrees = agrees
answers_by (dialling.Waits turn frames) link turning is agrees = agrees ∙ ap (λ (d : Dialling). not (is_idle d)) is
answers_by (dialling.On number said) link turning is agrees = agrees

kept_idle : (number : ℕ) (talk : Option TurnTalk) (rest : List ℕ) → is_some talk ≡ not (is_idle (keep_link number (keep_turn talk rest)))
kept_idle number None rest = refl
kept_idle number (Some talk) rest = refl

hears_if : (b : Bool) (number : ℕ) (said : LinkState TurnTalk) (piece : List ℕ) (turning : Turning) → is_out turning.channel ≡ true → Agrees turning →
    Agrees (hear_if b number said piece turning).0
hears_if false number said piece turning out agrees = agrees
hears_if true number said piece turning out agrees =
    let at : TurnWork = record { link = number; channel = turning.channel; actions = turning.actions; ended = None } in
    let cut = cut_stream (said.rest ++ piece) in
    turns_end.out cut at said.talk out ∙ kept_idle number (turn_served cut at said.talk).1 cut.rest

hears_by : (how : Dialling) (link : ℕ) (piece : List ℕ) (turning : Turning) → turning.dialling ≡ how → Agrees turning → Agrees (hear_by how link piece turning).0
hears_by dialling.Nothing link piece turning is agrees = agrees
hears_by (dialling.Waits turn frames) link piece turning is agrees = agrees
hears_by (dialling.On number said) link piece turning is agrees =
    hears_if _ number said piece turning (agrees ∙ ap (λ (d : Dialling). not (is_idle d)) is) agrees

turn_stands : (found : Option Requester) (happens : Turning → Turned) (parts : Parts) → slice_get parts.work.queues.requesters parts.turn_of ≡ found → Keeps happens → Stands parts →
    Stands (turn_at found happens parts)
turn_stands None happens parts is keeps stands = stands
turn_stands (Some channel) happens parts is keeps stands =
    turned_stands (is_idle parts.dialling) parts.turn_of (happens (turning_of channel parts)) channel parts is stands.outs
    (keeps (turning_of channel parts) (found_by (is_idle parts.dialling) parts.turn_of parts.work.queues.requesters channel is stands.outs))

on_stands : (happens : Turning → Turned) (parts : Parts) → Keeps happens → Stands parts → Stands (on_turn happens parts)
on_stands happens parts keeps stands = turn_stands (slice_get parts.work.queues.requesters parts.turn_of) happens parts refl keeps stands

-- ---- the next turn

abbrev StandsPart : Result (Part Parts) StepRefused → Type 0
StandsPart (Err why) = Unit {0}
StandsPart (Ok part) = Stands part.value

dial_agrees : (start : Option (Unit {0} × List (List ℕ))) (peer : List ℕ) (turning : Turning) → turning.dialling ≡ dialling.Nothing → is_out turning.channel ≡ is_some start →
    Agrees (dial_for start peer turning)
dial_agrees None peer turning nothing out = out ∙ ap (λ (d : Dialling). not (is_idle d)) (sym nothing)
dial_agrees (Some start) peer turning nothing out = out

-- what a start comes to is out, where it starts
abbrev Starts : Result (Part NextTurn) StepRefused → Type 0
Starts (Err why) = Unit {0}
Starts (Ok part) = is_out part.value.0 ≡ is_some part.value.1

starts_by : (can needs : Bool) (now : ℕ) (channel : Requester) (left : List (List ℕ)) → can_start channel.turn channel.waiting ≡ can → is_out channel ≡ false →
    Starts (next_by can needs now channel left)
starts_by false needs now channel left is none = none
starts_by true false now channel left is none =
    (one_turn.started channel (timestamp_of now) _ is).1 ∙ sym (one_turn.start channel (timestamp_of now) _ ∙ is)
starts_by true true now channel [] is none = tt
starts_by true true now channel (challenge ∷ left) is none =
    (one_turn.started channel (timestamp_of now) challenge is).1 ∙ sym (one_turn.start channel (timestamp_of now) challenge ∙ is)

begun_stands : (next : Result (Part NextTurn) StepRefused) (peer : List ℕ) (channel : Requester) (trust : ℕ) (parts : Parts) → Starts next → parts.dialling ≡ dialling.Nothing →
    slice_get parts.work.queues.requesters trust ≡ Some channel → outs parts.work.queues.requesters ≡ none_out parts.work.queues.requesters →
    StandsPart (then_part (then_part next (dial_part peer (turning_of channel parts))) (λ turning rest. next_part (after_turned trust (turning, None) parts) rest))
begun_stands (Err why) peer channel trust parts starts nothing is same = tt
begun_stands (Ok part) peer channel trust parts starts nothing is same =
    let turning = dial_for part.value.1 peer (record (turning_of channel parts) { channel = part.value.0 }) in
    turned_stands true trust (turning, None) channel parts is same
    (dial_agrees part.value.1 peer (record (turning_of channel parts) { channel = part.value.0 }) nothing starts)

start_stands : (found : Option Requester) (entry : Option Trust) (trust now : ℕ) (parts : Parts) (left : List (List ℕ)) → slice_get parts.work.queues.requesters trust ≡ found →
    parts.dialling ≡ dialling.Nothing → Stands parts → StandsPart (start_on found entry trust now parts left)
start_stands None entry trust now parts left is nothing stands = stands
start_stands (Some channel) None trust now parts left is nothing stands = stands
start_stands (Some channel) (Some entry) trust now parts left is nothing stands =
    let same : outs parts.work.queues.requesters ≡ none_out parts.work.queues.requesters =
    stands.outs ∙ ap (λ (d : Dialling). one_out (is_idle d) parts.turn_of parts.work.queues.requesters) nothing in
    begun_stands (channel_turn now channel left) entry.address channel trust parts
    (starts_by (can_start channel.turn channel.waiting) (needs_challenge channel.standing) now channel left refl
    (found_by true trust parts.work.queues.requesters channel is same)) nothing is same

at_stands : (first : Option ℕ) (trusts : List Trust) (now : ℕ) (parts : Parts) (left : List (List ℕ)) → parts.dialling ≡ dialling.Nothing → Stands parts →
    StandsPart (start_at first trusts now parts left)
at_stands None trusts now parts left nothing stands = stands
at_stands (Some trust) trusts now parts left nothing stands =
    start_stands (slice_get parts.work.queues.requesters trust) (slice_get trusts trust) trust now parts left refl nothing stands

next_by_how : (how : Dialling) (trusts : List Trust) (now : ℕ) (parts : Parts) (left : List (List ℕ)) → parts.dialling ≡ how → Stands parts →
    StandsPart (next_if (is_idle how) trusts now parts left)
next_by_how dialling.Nothing trusts now parts left nothing stands = at_stands (first_waiting parts.work.queues.requesters) trusts now parts left nothing stands
next_by_how (dialling.Waits turn frames) trusts now parts left is stands = stands
next_by_how (dialling.On number said) trusts now parts left is stands = stands

-- ---- units on an accepted link

abbrev Alike : TrustDesk → ServedPart TrustDesk Talk → Type 0
Alike d (Err why) = Unit {0}
Alike d (Ok part) = outs part.value.0.work.queues.requesters ≡ outs d.work.queues.requesters

beside_alike : (d : TrustDesk) (part : ServedPart Desk Talk) → Alike d (beside d.work.queues part)
beside_alike d (Err why) = tt
beside_alike d (Ok part) = refl

call_alike : (c : JudgedCall) (line : Line) (before after : TrustDesk) → CallComes c line before after → outs after.work.queues.requesters ≡ outs before.work.queues.requesters
call_alike c line before after (ForwardedOn is so) =
    ap outs so.requesters
    ∙ set_map (λ (s : Requester). is_out s) before.work.queues.requesters is.goes.trust _
    ∙ set_same (outs before.work.queues.requesters) is.goes.trust _
    (got_map (λ (s : Requester). is_out s) before.work.queues.requesters is.goes.trust is.goes.requester is.goes.at ∙ ap (λ (b : Bool). Some b) (sym (one_turn.ask is.goes.requester is.goes.info)))
call_alike c line before after (AnsweredHere so) = ap (λ (queues : Queues). outs queues.requesters) so.queues

unit_alike : (h : Heard) (link : ℕ) (name : List ℕ) (now : ℕ) (d : TrustDesk) (left : List (List ℕ)) → Alike d (by_trust_heard h link name now d left)
unit_alike (heard.Close cause) link name now d left = beside_alike d (by_heard (heard.Close cause) link name now (base_desk d) left)
unit_alike (heard.Answer bytes talk) link name now d left = beside_alike d (by_heard (heard.Answer bytes talk) link name now (base_desk d) left)
unit_alike (heard.Waits talk) link name now d left = beside_alike d (by_heard (heard.Waits talk) link name now (base_desk d) left)
unit_alike (heard.Asked line (call.Challenge c) talk) link name now d left = beside_alike d (by_call (call.Challenge c) line talk name now (base_desk d) left)
unit_alike (heard.Asked line (call.Authenticate c) talk) link name now d left = beside_alike d (by_call (call.Authenticate c) line talk name now (base_desk d) left)
unit_alike (heard.Asked line (call.Judged c) talk) link name now d left =
    call_alike c line d (answer_trust_call c name now line d) (call_comes c name now line d)

from_first : (first d : TrustDesk) (part : ServedPart TrustDesk Talk) → outs d.work.queues.requesters ≡ outs first.work.queues.requesters → Alike d part → Alike first part
from_first first d (Err why) is same = tt
from_first first d (Ok part) is same = same ∙ is

units_alike : (name : List ℕ) (now link : ℕ) (first : TrustDesk) → StaysServing (trust_server name now link) (Alike first)
units_alike name now link first = record {
  spent = λ why. tt;
  unit = λ bytes d talk left is.
      from_first first d (by_trust_heard (hear link bytes talk) link name now d left) is (unit_alike (hear link bytes talk) link name now d left);
  refusal = λ why d talk left is. is;
}

-- ---- an event, and a step

abbrev pub StandsAll : TrustPart → Type 0
StandsAll (Err why) = Unit {0}
StandsAll (Ok part) = Stands part.value.parts

closed_stands : (b : Bool) (number : ℕ) (parts : Parts) → Stands parts → Stands (close_by b number parts)
closed_stands false number parts stands =
    alike (trusting_after parts) (trusting_after (without_link number parts)) refl refl refl stands
closed_stands true number parts stands =
    on_stands (λ turning. link_closes number turning) parts (λ turning agrees. closes_if (is_on number turning.dialling) turning agrees) stands

opened_stands : (full : Bool) (number : ℕ) (parts : Parts) → Stands parts → Stands (open_by full number parts)
opened_stands true number parts stands = stands
opened_stands false number parts stands = stands

dial_stands : (waits : Bool) (number : ℕ) (parts : Parts) → Stands parts → Stands (answer_dial waits number parts)
dial_stands false number parts stands = stands
dial_stands true number parts stands =
    on_stands (λ turning. (link_answers number turning, None)) (without_link number parts)
    (λ turning agrees. answers_by turning.dialling number turning refl agrees)
    (alike (trusting_after parts) (trusting_after (without_link number parts)) refl refl refl stands)

failed_stands : (waits : Bool) (parts : Parts) → Stands parts → Stands (fail_dial waits parts)
failed_stands false parts stands = stands
failed_stands true parts stands = on_stands (λ turning. no_dial turning) parts (λ turning agrees. fails_by turning.dialling turning agrees) stands

put_alike : (open_link : Option (LinkState Talk)) (number : ℕ) (parts : Parts) → Stands parts → Stands (put_open open_link number parts)
put_alike None number parts stands =
    alike (trusting_after parts) (trusting_after (put_open None number parts)) refl refl refl stands
put_alike (Some link) number parts stands = stands

units_stand : (part : ServedPart TrustDesk Talk) (table : AccountTable) (rest : List ℕ) (number : ℕ) (others : LinkMap) (parts : Parts) → Stands parts →
    Alike (trust_desk table parts.work) part → StandsAll (after_units part rest number others parts)
units_stand (Err why) table rest number others parts stands same = tt
units_stand (Ok part) table rest number others parts stands same =
    let after : Parts = record parts { work = part.value.0.work; links = others } in
    put_alike (link_with rest part.value.1) number after (alike (trusting_after parts) (trusting_after after) same refl refl stands)

serve_stands : (found : Option (LinkState Talk)) (number : ℕ) (piece name : List ℕ) (now : ℕ) (others : LinkMap) (table : AccountTable) (parts : Parts) (left : List (List ℕ)) →
    Stands parts → StandsAll (serve_on found number piece name now others table parts left)
serve_stands None number piece name now others table parts left stands = stands
serve_stands (Some link) number piece name now others table parts left stands =
    let cut = cut_stream (link.rest ++ piece) in
    let d : TrustDesk = trust_desk table parts.work in
    units_stand (served_cut (trust_server name now number) cut d link.talk left) table cut.rest number others parts stands
    (served_stays (trust_server name now number) (Alike d) (units_alike name now number d) cut d link.talk left refl)

bytes_stand : (b : Bool) (number : ℕ) (piece name : List ℕ) (now : ℕ) (table : AccountTable) (parts : Parts) (left : List (List ℕ)) → Stands parts →
    StandsAll (serve_bytes b number piece name now table parts left)
bytes_stand true number piece name now table parts left stands =
    on_stands (λ turning. link_hears number piece turning) parts (λ turning agrees. hears_by turning.dialling number piece turning refl agrees) stands
bytes_stand false number piece name now table parts left stands =
    serve_stands (lookup same_number number parts.links) number piece name now (take_out same_number number parts.links) table parts left stands

pub event_stands : (what : Event) (name : List ℕ) (now : ℕ) (table : AccountTable) (parts : Parts) (left : List (List ℕ)) → Stands parts →
    StandsAll (by_trust_event what name now table parts left)
event_stands (event.Opened number) name now table parts left stands =
    opened_stands _ number (close_number number parts) (closed_stands (is_on number parts.dialling) number parts stands)
event_stands (event.Bytes number piece) name now table parts left stands = bytes_stand (is_on number parts.dialling) number piece name now table parts left stands
event_stands (event.Closed number) name now table parts left stands = closed_stands (is_on number parts.dialling) number parts stands
event_stands (event.Dialled number) name now table parts left stands = dial_stands (is_waiting parts.dialling) number parts stands
event_stands event.DialFailed name now table parts left stands = failed_stands (is_waiting parts.dialling) parts stands
event_stands event.Stop name now table parts left stands = stands

with_table : (part : Result (Part Parts) StepRefused) (table : AccountTable) → StandsPart part → StandsAll (then_part part (λ later last. trust_part table later last))
with_table (Err why) table stands = tt
with_table (Ok part) table stands = stands

turn_behind : (part : TrustPart) (trusts : List Trust) (now : ℕ) → StandsAll part →
    StandsAll (then_part part (λ after rest. then_part (next_turn trusts now after.parts rest) (λ later last. trust_part after.table later last)))
turn_behind (Err why) trusts now stands = tt
turn_behind (Ok part) trusts now stands =
    with_table (next_turn trusts now part.value.parts part.left) part.value.table
    (next_by_how part.value.parts.dialling trusts now part.value.parts part.left refl stands)

taken_stands : (part : TrustPart) (s : State) (left : List (List ℕ)) → StandsAll part →
    OneIsOut (step_by (λ (after : TrustParts). after.parts.work.work.actions) (λ after. trust_state_after s after) (trust_halted s) left part).state.trusting
taken_stands (Err why) s left stands = record { outs = refl; inside = λ out. absurd (let x = out in cc) }
taken_stands (Ok part) s left stands = stands

step_stands : (running : Option Running) (s : State) (what : Event) (now : ℕ) (left : List (List ℕ)) → OneIsOut s.trusting →
    OneIsOut (trust_step_on running s what now left).state.trusting
step_stands None s what now left stands = stands
step_stands (Some running) s what now left stands =
    taken_stands (event_and_turn s.table.trusts what s.name now s.table (parts_of running s.trusting) left) s left
    (turn_behind (by_trust_event what s.name now s.table (parts_of running s.trusting) left) s.table.trusts now
    (event_stands what s.name now s.table (parts_of running s.trusting) left (record { outs = stands.outs; inside = stands.inside })))

first_none : (table : AccountTable) (name : List ℕ) (trusts : List Trust) →
    outs (map (λ (trust : Trust). fresh_requester (trust_caller table name trust)) trusts)
    ≡ none_out (map (λ (trust : Trust). fresh_requester (trust_caller table name trust)) trusts)
first_none table name [] = refl
first_none table name (trust ∷ trusts) = ap (λ rest. false ∷ rest) (first_none table name trusts)

pub one_turn_out : OneTurnIsOut
one_turn_out = record {
  first = λ table name. record { outs = first_none table name table.trusts; inside = λ out. absurd (let x = out in cc) };
  keeps = λ s what now left stands. step_stands s.running s what now left stands;
}
