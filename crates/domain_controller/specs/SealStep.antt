-- One step of a controller that can seal or can't (this project's own choice). Where it can't it is that of
-- `TrustStep`.
use Rattle.std.specs.Prelude.{ℕ, ◌+◌, ◌&&◌, Bool, true, false, List, ◌++◌, length, Option, Some, None, is_some, Result, Ok, Err, slice_get}
use Rattle.std.specs.Option.{option_map}
use Rattle.wire_base.specs.Maps.{lookup, same_number, take_out}
use Rattle.account_table.specs.AccountTable.{AccountTable}
use Rattle.account_table.specs.declared.account.Trust.{Trust}
use Rattle.outside.specs.declared.action.StepRefused.{StepRefused}
use Rattle.outside.specs.declared.event.Event.{Event}
use Rattle.outside.specs.declared.event.Event.TheVariants as event
use Rattle.outside.specs.Machine.{Machine, Part, Stepped, step_by, stopped_step, then_part}
use Rattle.logon_stubs.specs.declared.info.Verdict.{Verdict}
use Rattle.logon_stubs.specs.declared.info.Verdict.TheVariants.{Status}
use Rattle.logon_stubs.specs.Status.{no_logon_servers}
use Rattle.rpc_units.specs.Stream.{cut_stream}
use Rattle.end_links.specs.Links.{LinkState}
use Rattle.end_links.specs.Serving.{ServedPart, served_cut}
use Rattle.channel_client.specs.State.{Requester}
use Rattle.channel_turns.specs.declared.state.TurnEnd.{TurnEnd}
use Rattle.channel_turns.specs.declared.state.TurnEnd.TheVariants as turn_end
use Rattle.channel_turns.specs.declared.state.TurnEnded.{TurnEnded}
use Rattle.channel_turns.specs.declared.state.Turning.{Turning}
use Rattle.channel_turns.specs.Turning.{Turned, is_on, is_waiting, link_answers, link_closes, link_hears, no_dial}
use Rattle.domain_controller.specs.Forwarding.{trust_desk}
use Rattle.domain_controller.specs.Lines.{line_of}
use Rattle.domain_controller.specs.Sealing.{no_sealing, seal_of_link, unseal_link}
use Rattle.domain_controller.specs.SealServing.{SealDesk, answer_asked, seal_server}
use Rattle.domain_controller.specs.State.{State}
use Rattle.domain_controller.specs.Step.{LinkMap}
use Rattle.domain_controller.specs.TrustStep.{TrustPart, TrustParts, after_turned, first_trust_state, link_with, next_turn, open_number, parts_of, put_open, trust_halted, trust_pending_in, trust_state_after, trust_step_of, trust_want_of, trusting_after, turning_of, with_work, without_link}
use Rattle.domain_controller.specs.declared.sealed.Sealing.{Sealing}
use Rattle.domain_controller.specs.declared.state.Running.{Running}
use Rattle.domain_controller.specs.declared.state.Talk.{Talk}
use Rattle.domain_controller.specs.declared.trusting.Parts.{Parts}
use Rattle.domain_controller.specs.declared.trusting.TrustWork.{TrustWork}

-- what of a step a controller comes to: what `TrustStep` has, and what is kept to seal
pub record SealParts : Type 0 where
  pub rest : TrustParts
  pub sealing : Option Sealing

abbrev pub SealStepPart : Type 0
SealStepPart = Result (Part SealParts) StepRefused

abbrev pub seal_part : AccountTable → Parts × Sealing → List (List ℕ) → SealStepPart
seal_part table done left =
    Ok (record { value = record { rest = record { table = table; parts = done.0 }; sealing = Some done.1 }; left = left })

abbrev pub beside_parts : Option Sealing → TrustPart → SealStepPart
beside_parts s (Err why) = Err why
beside_parts s (Ok part) = Ok (record { value = record { rest = part.value; sealing = s }; left = part.left })

-- how a call that works on the table answers: the table stands beside the rest
abbrev pub at_seal_parts : AccountTable → Result (Parts × Sealing) StepRefused → Result SealParts StepRefused
at_seal_parts table (Ok done) = Ok (record { rest = record { table = table; parts = done.0 }; sealing = Some done.1 })
at_seal_parts table (Err why) = Err why

-- ---- the turn of a trust: a logon from a sealed link is answered behind what `TrustStep` does

-- the logon of a turn that ended, by its place, and its verdict, if it has one then
abbrev pub verdict_by : TurnEnd → Option (ℕ × Verdict)
verdict_by turn_end.Half = None
verdict_by turn_end.Opened = None
verdict_by turn_end.Set = None
verdict_by (turn_end.Answer place verdict) = Some (place, verdict)
verdict_by (turn_end.Dropped place cause) = Some (place, Status no_logon_servers)

abbrev pub end_verdict : Option TurnEnded → Option (ℕ × Verdict)
end_verdict None = None
end_verdict (Some ended) = verdict_by ended.how

abbrev pub answer_ended : Option (ℕ × Verdict) → (trust : ℕ) → TrustWork → Sealing → (TrustWork × Sealing) × Option ℕ
answer_ended None trust w s = ((w, s), None)
answer_ended (Some answer) trust w s = answer_asked (trust, answer.0) answer.1 w s

-- a link that was closed for it is open no more
abbrev pub close_answered : Option ℕ → Parts → Sealing → Parts × Sealing
close_answered None parts s = (parts, s)
close_answered (Some number) parts s = (without_link number parts, unseal_link number s)

abbrev pub after_answered : (TrustWork × Sealing) × Option ℕ → Parts → Parts × Sealing
after_answered done parts = close_answered done.1 (with_work parts done.0.0) done.0.1

abbrev pub answer_turned : Option TurnEnded → (trust : ℕ) → Parts → Sealing → Parts × Sealing
answer_turned ended trust parts s = after_answered (answer_ended (end_verdict ended) trust parts.work s) parts

abbrev pub seal_turned : (trust : ℕ) → Turned → Parts → Sealing → Parts × Sealing
seal_turned trust turned parts s = answer_turned turned.1 trust (after_turned trust turned parts) s

abbrev pub seal_turn_at : Option Requester → (Turning → Turned) → Parts → Sealing → Parts × Sealing
seal_turn_at None happens parts s = (parts, s)
seal_turn_at (Some channel) happens parts s = seal_turned parts.turn_of (happens (turning_of channel parts)) parts s

abbrev pub seal_on_turn : (Turning → Turned) → Parts → Sealing → Parts × Sealing
seal_on_turn happens parts s = seal_turn_at (slice_get parts.work.queues.requesters parts.turn_of) happens parts s

-- ---- links that close, and open

abbrev pub seal_close_by : (is_turn_link : Bool) → (number : ℕ) → Parts → Sealing → Parts × Sealing
seal_close_by false number parts s = (without_link number parts, unseal_link number s)
seal_close_by true number parts s = seal_on_turn (λ turning. link_closes number turning) parts s

abbrev pub seal_close_number : (number : ℕ) → Parts → Sealing → Parts × Sealing
seal_close_number number parts s = seal_close_by (is_on number parts.dialling) number parts s

abbrev pub seal_open_number : (number : ℕ) → Parts × Sealing → Parts × Sealing
seal_open_number number done = (open_number number done.0, done.1)

-- ---- dials

abbrev pub seal_answer_dial : (waits : Bool) → (number : ℕ) → Parts → Sealing → Parts × Sealing
seal_answer_dial false number parts s = (parts, s)
seal_answer_dial true number parts s =
    seal_on_turn (λ turning. (link_answers number turning, None)) (without_link number parts) (unseal_link number s)

abbrev pub seal_fail_dial : (waits : Bool) → Parts → Sealing → Parts × Sealing
seal_fail_dial false parts s = (parts, s)
seal_fail_dial true parts s = seal_on_turn (λ turning. no_dial turning) parts s

-- ---- bytes

-- a link that doesn't stay open is sealed no more
abbrev pub sealing_with : Option (LinkState Talk) → (number : ℕ) → Option Sealing → Option Sealing
sealing_with None number sealing = option_map (λ (s : Sealing). unseal_link number s) sealing
sealing_with (Some link) number sealing = sealing

abbrev pub seal_put_open : Option (LinkState Talk) → (number : ℕ) → SealDesk → LinkMap → Parts → SealParts
seal_put_open still number d others parts = record {
  rest = record {
    table = d.desk.table;
    parts = put_open still number (record parts { work = d.desk.work; links = others });
  };
  sealing = sealing_with still number d.sealing;
}

abbrev pub seal_after_units : ServedPart SealDesk Talk → List ℕ → (number : ℕ) → LinkMap → Parts → SealStepPart
seal_after_units part rest number others parts = then_part part (λ done left. Ok (record {
  value = seal_put_open (link_with rest done.1) number done.0 others parts;
  left = left;
}))

-- on the link of that number, if one is open, which isn't among the others then
abbrev pub seal_serve_on : Option (LinkState Talk) → ℕ → List ℕ → List ℕ → ℕ → LinkMap → AccountTable → Parts → Sealing → List (List ℕ) → SealStepPart
seal_serve_on None number piece name now others table parts s left = seal_part table (record parts { links = others }, s) left
seal_serve_on (Some link) number piece name now others table parts s left =
    seal_after_units
    (served_cut (seal_server name now number) (cut_stream (link.rest ++ piece))
    (record { desk = trust_desk table parts.work; sealing = Some s }) link.talk left)
    (cut_stream (link.rest ++ piece)).rest number others parts

abbrev pub seal_serve_bytes : (is_turn_link : Bool) → ℕ → List ℕ → List ℕ → ℕ → AccountTable → Parts → Sealing → List (List ℕ) → SealStepPart
seal_serve_bytes true number piece name now table parts s left =
    seal_part table (seal_on_turn (λ turning. link_hears number piece turning) parts s) left
seal_serve_bytes false number piece name now table parts s left =
    seal_serve_on (lookup same_number number parts.links) number piece name now (take_out same_number number parts.links) table parts s left

-- ---- an event

-- a link that opens is first closed, if it is open
abbrev pub by_seal_event : Event → List ℕ → ℕ → AccountTable → Parts → Sealing → List (List ℕ) → SealStepPart
by_seal_event (event.Opened number) name now table parts s left =
    seal_part table (seal_open_number number (seal_close_number number parts s)) left
by_seal_event (event.Bytes number piece) name now table parts s left =
    seal_serve_bytes (is_on number parts.dialling) number piece name now table parts s left
by_seal_event (event.Closed number) name now table parts s left = seal_part table (seal_close_number number parts s) left
by_seal_event (event.Dialled number) name now table parts s left =
    seal_part table (seal_answer_dial (is_waiting parts.dialling) number parts s) left
by_seal_event event.DialFailed name now table parts s left =
    seal_part table (seal_fail_dial (is_waiting parts.dialling) parts s) left
by_seal_event event.Stop name now table parts s left = seal_part table (parts, s) left

-- ---- a step

-- at first, of one that can seal
abbrev pub first_seal_state : AccountTable → List ℕ → State
first_seal_state table name =
    record (first_trust_state table name) { trusting = record (first_trust_state table name).trusting { sealing = Some no_sealing } }

abbrev pub seal_state_after : State → SealParts → State
seal_state_after s p =
    record (trust_state_after s p.rest) { trusting = record (trusting_after p.rest.parts) { sealing = p.sealing } }

-- an event, and then the next turn, for which nothing is sealed
abbrev pub seal_event_and_turn : List Trust → Event → List ℕ → ℕ → AccountTable → Parts → Sealing → List (List ℕ) → SealStepPart
seal_event_and_turn trusts what name now table parts s left =
    then_part (by_seal_event what name now table parts s left)
    (λ after rest. then_part (next_turn trusts now after.rest.parts rest) (λ later last. Ok (record {
      value = record { rest = record { table = after.rest.table; parts = later }; sealing = after.sealing };
      left = last;
    })))

abbrev pub seal_step_part : Running → Sealing → State → Event → ℕ → List (List ℕ) → SealStepPart
seal_step_part running sealing s what now left =
    seal_event_and_turn s.table.trusts what s.name now s.table (parts_of running s.trusting) sealing left

abbrev pub seal_step_on : Option Running → Sealing → State → Event → ℕ → List (List ℕ) → Stepped State
seal_step_on None sealing s what now left = stopped_step left s
seal_step_on (Some running) sealing s what now left =
    step_by (λ after. after.rest.parts.work.work.actions) (λ after. seal_state_after s after) (trust_halted s) left
    (seal_step_part running sealing s what now left)

-- one of which what it keeps to seal was taken out: it can't seal
abbrev pub without_sealing : State → State
without_sealing s = record s { trusting = record s.trusting { sealing = None } }

abbrev pub step_with : Option Sealing → State → Event → ℕ → List (List ℕ) → Stepped State
step_with None s what now left = trust_step_of s what now left
step_with (Some sealing) s what now left = seal_step_on s.running sealing s what now left

abbrev pub seal_step_of : State → Event → ℕ → List (List ℕ) → Stepped State
seal_step_of s what now left = step_with s.trusting.sealing s what now left

-- ---- how many more events its steps for closed and dialled links may make: one more for each logon from a sealed link
-- that was asked, its reply

abbrev pub asked_in : Option Sealing → ℕ
asked_in None = 0
asked_in (Some s) = length s.asked

abbrev pub seal_pending_in : State → ℕ
seal_pending_in s = trust_pending_in s + asked_in s.trusting.sealing

-- ---- which links are sealed

abbrev pub is_sealed_there : Option Running → Option Sealing → (number : ℕ) → Bool
is_sealed_there None sealing number = false
is_sealed_there (Some running) None number = false
is_sealed_there (Some running) (Some s) number =
    is_some (lookup same_number number running.links) && is_some (seal_of_link number s)

-- the link is open, and sealed
abbrev pub holds_sealed : State → (number : ℕ) → Bool
holds_sealed s number = is_sealed_there s.running s.trusting.sealing number

-- ---- the machine

abbrev pub seal_machine : Machine State
seal_machine = record {
  step = λ s what now left. seal_step_of s what now left;
  want = λ s. trust_want_of s;
  is_over = λ s. false;
  line = line_of;
}
