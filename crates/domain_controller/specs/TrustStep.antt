-- One step of a controller that trusts other domains (this project's own choice): an event, and then the next turn. One
-- turn is out at a time, over all trusts. Where no trust is asked it is the step of `Step`, by the law in `TrustLaws`.
use Rattle.std.specs.Prelude.{ℕ, ◌+◌, ◌*◌, Bool, true, false, nat_le, List, [], ◌∷◌, ◌++◌, length, Option, Some, None, Result, Ok, Err, slice_get, slice_set}
use Rattle.wire_base.specs.Maps.{lookup, place_of, put, take_out, same_number}
use Rattle.account_table.specs.AccountTable.{AccountTable}
use Rattle.account_table.specs.declared.account.Trust.{Trust}
use Rattle.outside.specs.declared.action.Action.{Action}
use Rattle.outside.specs.declared.action.Action.TheVariants as action
use Rattle.outside.specs.declared.action.CloseCause.TheVariants as close
use Rattle.outside.specs.declared.action.StepRefused.{StepRefused}
use Rattle.outside.specs.declared.event.Event.{Event}
use Rattle.outside.specs.declared.event.Event.TheVariants as event
use Rattle.outside.specs.Machine.{Machine, Part, Stepped, step_by, stopped_step, then_part}
use Rattle.rpc_units.specs.Stream.{cut_stream}
use Rattle.end_links.specs.Links.{LinkState}
use Rattle.end_links.specs.Serving.{ServedPart, served_cut}
use Rattle.channel_client.specs.Machine.{can_start}
use Rattle.channel_client.specs.State.{Requester}
use Rattle.channel_client.specs.declared.state.Waiting.{Waiting}
use Rattle.channel_turns.specs.declared.state.Dialling.{Dialling}
use Rattle.channel_turns.specs.declared.state.Dialling.TheVariants as dialling
use Rattle.channel_turns.specs.declared.state.Turning.{Turning}
use Rattle.channel_turns.specs.Turning as turning
use Rattle.channel_turns.specs.Turning.{Turned, bytes_of, is_on, is_waiting, link_answers, link_closes, link_hears, next_dial, no_dial}
use Rattle.domain_controller.specs.Forwarding.{TrustDesk, after_ended, forget_link, told, trust_desk, trust_server}
use Rattle.domain_controller.specs.Hearing.{first_talk}
use Rattle.domain_controller.specs.Lines.{line_of}
use Rattle.domain_controller.specs.State.{State}
use Rattle.domain_controller.specs.Step.{LinkMap, first_state, held_by_links}
use Rattle.domain_controller.specs.Trusting.{first_trusting, no_trusting}
use Rattle.domain_controller.specs.declared.state.Running.{Running}
use Rattle.domain_controller.specs.declared.state.Talk.{Talk}
use Rattle.domain_controller.specs.declared.trusting.Parts.{Parts}
use Rattle.domain_controller.specs.declared.trusting.TrustWork.{TrustWork}
use Rattle.domain_controller.specs.declared.trusting.Trusting.{Trusting}

-- ---- the parts of a step

-- the accounts, and the rest of a controller at work
pub record TrustParts : Type 0 where
  pub table : AccountTable
  pub parts : Parts

abbrev pub TrustPart : Type 0
TrustPart = Result (Part TrustParts) StepRefused

abbrev pub trust_part : AccountTable → Parts → List (List ℕ) → TrustPart
trust_part table parts left = Ok (record { value = record { table = table; parts = parts }; left = left })

-- how a call that works on the table answers: the table stands beside the rest
abbrev pub at_parts : AccountTable → Result Parts StepRefused → Result TrustParts StepRefused
at_parts table (Ok parts) = Ok (record { table = table; parts = parts })
at_parts table (Err why) = Err why

abbrev pub with_work : Parts → TrustWork → Parts
with_work parts w = record parts { work = w }

abbrev pub told_on : Parts → Action → Parts
told_on parts what = with_work parts (told what parts.work)

-- ---- the turn of a trust

abbrev pub turning_of : Requester → Parts → Turning
turning_of channel parts = record { channel = channel; dialling = parts.dialling; actions = parts.work.work.actions }

abbrev pub turned_work : ℕ → Turning → TrustWork → TrustWork
turned_work trust turning w = record {
  work = record w.work { actions = turning.actions };
  queues = record w.queues { requesters = slice_set w.queues.requesters trust turning.channel };
}

-- what an event made of the turn of that trust, and then what follows, where the turn ended
abbrev pub after_turned : ℕ → Turned → Parts → Parts
after_turned trust turned parts = record parts {
  work = after_ended turned.1 trust (turned_work trust turned.0 parts.work);
  turn_of = trust;
  dialling = turned.0.dialling;
}

-- an event for the turn that is out; nothing where there is no such trust, of which no turn is out
abbrev pub turn_at : Option Requester → (Turning → Turned) → Parts → Parts
turn_at None happens parts = parts
turn_at (Some channel) happens parts = after_turned parts.turn_of (happens (turning_of channel parts)) parts

abbrev pub on_turn : (Turning → Turned) → Parts → Parts
on_turn happens parts = turn_at (slice_get parts.work.queues.requesters parts.turn_of) happens parts

-- ---- links that close, and open

-- an accepted link of that number is open no more
abbrev pub without_link : ℕ → Parts → Parts
without_link number parts = record parts { work = forget_link number parts.work; links = take_out same_number number parts.links }

abbrev pub close_by : (is_turn_link : Bool) → ℕ → Parts → Parts
close_by false number parts = without_link number parts
close_by true number parts = on_turn (λ turning. link_closes number turning) parts

abbrev pub close_number : ℕ → Parts → Parts
close_number number parts = close_by (is_on number parts.dialling) number parts

abbrev pub open_by : (is_full : Bool) → ℕ → Parts → Parts
open_by true number parts = told_on parts (action.Close number close.TooManyLinks)
open_by false number parts =
    record parts { links = put same_number number (record { rest = []; talk = first_talk }) parts.links }

-- at most 256 accepted links are open
abbrev pub open_number : ℕ → Parts → Parts
open_number number parts = open_by (nat_le 256 (length parts.links)) number parts

-- ---- dials

-- the bind goes out; an accepted link of that number is closed before
abbrev pub answer_dial : (waits : Bool) → ℕ → Parts → Parts
answer_dial false number parts = parts
answer_dial true number parts = on_turn (λ turning. (link_answers number turning, None)) (without_link number parts)

abbrev pub fail_dial : (waits : Bool) → Parts → Parts
fail_dial false parts = parts
fail_dial true parts = on_turn (λ turning. no_dial turning) parts

-- ---- bytes

-- the link is put back, where it stays open; else its logons have no line
abbrev pub put_open : Option (LinkState Talk) → ℕ → Parts → Parts
put_open None number parts = with_work parts (forget_link number parts.work)
put_open (Some link) number parts = record parts { links = put same_number number link parts.links }

abbrev pub link_with : List ℕ → Option Talk → Option (LinkState Talk)
link_with rest None = None
link_with rest (Some talk) = Some (record { rest = rest; talk = talk })

-- an accepted link, which isn't among the others then
abbrev pub after_units : ServedPart TrustDesk Talk → List ℕ → ℕ → LinkMap → Parts → TrustPart
after_units part rest number others parts = then_part part (λ done left. trust_part done.0.table
    (put_open (link_with rest done.1) number (record parts { work = done.0.work; links = others })) left)

-- on the link of that number, if one is open, which isn't among the others then
abbrev pub serve_on : Option (LinkState Talk) → ℕ → List ℕ → List ℕ → ℕ → LinkMap → AccountTable → Parts → List (List ℕ) → TrustPart
serve_on None number piece name now others table parts left = trust_part table (record parts { links = others }) left
serve_on (Some link) number piece name now others table parts left =
    after_units
    (served_cut (trust_server name now number) (cut_stream (link.rest ++ piece)) (trust_desk table parts.work) link.talk left)
    (cut_stream (link.rest ++ piece)).rest number others parts

abbrev pub serve_bytes : (is_turn_link : Bool) → ℕ → List ℕ → List ℕ → ℕ → AccountTable → Parts → List (List ℕ) → TrustPart
serve_bytes true number piece name now table parts left =
    trust_part table (on_turn (λ turning. link_hears number piece turning) parts) left
serve_bytes false number piece name now table parts left =
    serve_on (lookup same_number number parts.links) number piece name now (take_out same_number number parts.links) table parts left

-- ---- an event

-- a link that opens is first closed, if it is open
abbrev pub by_trust_event : Event → List ℕ → ℕ → AccountTable → Parts → List (List ℕ) → TrustPart
by_trust_event (event.Opened number) name now table parts left =
    trust_part table (open_number number (close_number number parts)) left
by_trust_event (event.Bytes number piece) name now table parts left =
    serve_bytes (is_on number parts.dialling) number piece name now table parts left
by_trust_event (event.Closed number) name now table parts left = trust_part table (close_number number parts) left
by_trust_event (event.Dialled number) name now table parts left =
    trust_part table (answer_dial (is_waiting parts.dialling) number parts) left
by_trust_event event.DialFailed name now table parts left =
    trust_part table (fail_dial (is_waiting parts.dialling) parts) left
by_trust_event event.Stop name now table parts left = trust_part table parts left

-- ---- the next turn: where none is out, that of the first trust at which a logon waits starts, and its controller is
-- dialled

abbrev pub is_idle : Dialling → Bool
is_idle dialling.Nothing = true
is_idle (dialling.Waits turn frames) = false
is_idle (dialling.On number said) = false

abbrev pub starts : Requester → Bool
starts channel = can_start channel.turn channel.waiting

abbrev pub first_waiting : List Requester → Option ℕ
first_waiting requesters = place_of starts requesters

abbrev pub next_part : Parts → List (List ℕ) → Result (Part Parts) StepRefused
next_part parts left = Ok (record { value = parts; left = left })

-- where the trust is the table's
abbrev pub start_on : Option Requester → Option Trust → ℕ → ℕ → Parts → List (List ℕ) → Result (Part Parts) StepRefused
start_on None entry trust now parts left = next_part parts left
start_on (Some channel) None trust now parts left = next_part parts left
start_on (Some channel) (Some entry) trust now parts left =
    then_part (next_dial now entry.address (turning_of channel parts) left)
    (λ turning rest. next_part (after_turned trust (turning, None) parts) rest)

abbrev pub start_at : Option ℕ → List Trust → ℕ → Parts → List (List ℕ) → Result (Part Parts) StepRefused
start_at None trusts now parts left = next_part parts left
start_at (Some trust) trusts now parts left =
    start_on (slice_get parts.work.queues.requesters trust) (slice_get trusts trust) trust now parts left

abbrev pub next_if : (idle : Bool) → List Trust → ℕ → Parts → List (List ℕ) → Result (Part Parts) StepRefused
next_if false trusts now parts left = next_part parts left
next_if true trusts now parts left = start_at (first_waiting parts.work.queues.requesters) trusts now parts left

abbrev pub next_turn : List Trust → ℕ → Parts → List (List ℕ) → Result (Part Parts) StepRefused
next_turn trusts now parts left = next_if (is_idle parts.dialling) trusts now parts left

-- ---- a step

-- at first
abbrev pub first_trust_state : AccountTable → List ℕ → State
first_trust_state table name = record (first_state table name) { trusting = first_trusting table name }

-- a controller that asks others, once it has stopped
abbrev pub trust_halted : State → State
trust_halted s = record s { running = None; trusting = no_trusting }

abbrev pub parts_of : Running → Trusting → Parts
parts_of running trusting = record {
  work = record { work = record { computers = running.computers; actions = [] }; queues = trusting.queues };
  links = running.links;
  turn_of = trusting.turn_of;
  dialling = trusting.dialling;
}

-- nothing is kept to seal here
abbrev pub trusting_after : Parts → Trusting
trusting_after parts =
    record { queues = parts.work.queues; turn_of = parts.turn_of; dialling = parts.dialling; sealing = None }

abbrev pub trust_state_after : State → TrustParts → State
trust_state_after s p = record s {
  table = p.table;
  running = Some (record { computers = p.parts.work.work.computers; links = p.parts.links });
  trusting = trusting_after p.parts;
}

-- an event, and then the next turn, for which one of these trusts is dialled
abbrev pub event_and_turn : List Trust → Event → List ℕ → ℕ → AccountTable → Parts → List (List ℕ) → TrustPart
event_and_turn trusts what name now table parts left =
    then_part (by_trust_event what name now table parts left)
    (λ after rest. then_part (next_turn trusts now after.parts rest) (λ later last. trust_part after.table later last))

-- the trusts are those of the table before the event: no step changes them
abbrev pub trust_step_part : Running → State → Event → ℕ → List (List ℕ) → TrustPart
trust_step_part running s what now left =
    event_and_turn s.table.trusts what s.name now s.table (parts_of running s.trusting) left

abbrev pub trust_step_on : Option Running → State → Event → ℕ → List (List ℕ) → Stepped State
trust_step_on None s what now left = stopped_step left s
trust_step_on (Some running) s what now left =
    step_by (λ after. after.parts.work.work.actions) (λ after. trust_state_after s after) (trust_halted s) left
    (trust_step_part running s what now left)

abbrev pub trust_step_of : State → Event → ℕ → List (List ℕ) → Stepped State
trust_step_of s what now left = trust_step_on s.running s what now left

-- ---- what is held

-- the bytes held for links: those of accepted ones, and of the link of the turn
abbrev pub trust_held_of : State → ℕ
trust_held_of s = held_by_links s.running + bytes_of s.trusting.dialling

-- ---- the machine

-- a controller waits for the link of the turn, and has no outcome
abbrev pub trust_want_of : State → Option ℕ
trust_want_of s = turning.want_of s.trusting.dialling

abbrev pub trust_machine : Machine State
trust_machine = record {
  step = λ s what now left. trust_step_of s what now left;
  want = λ s. trust_want_of s;
  is_over = λ s. false;
  line = line_of;
}

-- ---- how many more events its steps for closed and dialled links may make: a failed send and a dial make one each

-- two for each logon that waits at a requester: a dial, and the bind that goes out where it is answered
abbrev pub waiting_weight : List Requester → ℕ
waiting_weight [] = 0
waiting_weight (channel ∷ requesters) = 2 * length channel.waiting + waiting_weight requesters

-- two more where a turn could start, and where one is out for which nobody waits, which no step leaves
abbrev pub idle_by : List Waiting → ℕ
idle_by [] = 2
idle_by (logon ∷ logons) = 0

abbrev pub idle_weight : Option Requester → ℕ
idle_weight None = 2
idle_weight (Some channel) = idle_by channel.waiting

-- by who could start, and by whose turn is out
abbrev pub turn_weight : Dialling → (first : Option ℕ) (whose : Option Requester) → ℕ
turn_weight dialling.Nothing None whose = 0
turn_weight dialling.Nothing (Some trust) whose = 2
turn_weight (dialling.Waits turn frames) first whose = idle_weight whose
turn_weight (dialling.On number said) first whose = idle_weight whose

abbrev pub dial_weight : Dialling → ℕ
dial_weight dialling.Nothing = 0
dial_weight (dialling.Waits turn frames) = 1
dial_weight (dialling.On number said) = 0

-- one for each logon that was asked: its reply
abbrev pub trusting_weight : Trusting → ℕ
trusting_weight t =
    length t.queues.forwarded + waiting_weight t.queues.requesters
    + turn_weight t.dialling (first_waiting t.queues.requesters) (slice_get t.queues.requesters t.turn_of) + dial_weight t.dialling

abbrev pub trust_pending_in : State → ℕ
trust_pending_in s = trusting_weight s.trusting
