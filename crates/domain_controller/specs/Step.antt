-- One step of a controller that asks no trusted domain's controller (this project's own choice). `TrustStep` has that
-- of one that does.
use Rattle.std.specs.Prelude.{ℕ, Bool, true, false, nat_le, List, [], ◌++◌, length, Option, Some, None, Result, Ok, is_none}
use Rattle.wire_base.specs.Maps.{lookup, put, take_out, same_number}
use Rattle.account_table.specs.AccountTable.{AccountTable}
use Rattle.outside.specs.declared.action.Action.TheVariants as action
use Rattle.outside.specs.declared.action.CloseCause.TheVariants as close
use Rattle.outside.specs.declared.action.StepRefused.{StepRefused}
use Rattle.outside.specs.declared.event.Event.{Event}
use Rattle.outside.specs.declared.event.Event.TheVariants as event
use Rattle.outside.specs.Machine.{Machine, Part, Stepped, step_by, stopped_step, then_part}
use Rattle.rpc_units.specs.Joining.{open_len}
use Rattle.rpc_units.specs.Stream.{cut_stream}
use Rattle.end_links.specs.Links.{LinkState, held_by}
use Rattle.end_links.specs.Serving.{ServedPart, served_cut}
use Rattle.domain_controller.specs.Hearing.{first_talk}
use Rattle.domain_controller.specs.Lines.{line_of}
use Rattle.controller_calls.specs.Desk.{Desk, desk, tell}
use Rattle.domain_controller.specs.Machine.{controller_server}
use Rattle.domain_controller.specs.State.{State}
use Rattle.domain_controller.specs.Trusting.{no_trusting}
use Rattle.domain_controller.specs.declared.state.Running.{Running}
use Rattle.domain_controller.specs.declared.state.Talk.{Talk}
use Rattle.controller_calls.specs.declared.state.Work.{Work}

-- ---- the parts of a step

-- accepted links by their numbers
abbrev pub LinkMap : Type 0
LinkMap = List (ℕ × LinkState Talk)

-- what a part of a step comes to: the controller at work, and its links
abbrev pub StepPart : Type 0
StepPart = Result (Part (Desk × LinkMap)) StepRefused

abbrev pub whole_part : Desk → LinkMap → List (List ℕ) → StepPart
whole_part d links left = Ok (record { value = (d, links); left = left })

-- ---- a link opens

abbrev pub open_by : (is_full : Bool) → ℕ → Work → LinkMap → Work × LinkMap
open_by true link work links = (tell work (action.Close link close.TooManyLinks), links)
open_by false link work links = (work, put same_number link (record { rest = []; talk = first_talk }) links)

-- at most 256 links are open
abbrev pub open_link : ℕ → Work → LinkMap → Work × LinkMap
open_link link work links = open_by (nat_le 256 (length links)) link work links

abbrev pub with_open : Work × LinkMap → AccountTable → List (List ℕ) → StepPart
with_open done table left = whole_part (desk table done.0) done.1 left

-- ---- bytes come on a link

-- the link, where it stays open
abbrev pub keep_link : Option Talk → List ℕ → ℕ → LinkMap → LinkMap
keep_link None rest number links = links
keep_link (Some talk) rest number links = put same_number number (record { rest = rest; talk = talk }) links

abbrev pub after_units : ServedPart Desk Talk → List ℕ → ℕ → LinkMap → StepPart
after_units part rest number links = then_part part (λ done left. whole_part done.0 (keep_link done.1 rest number links) left)

-- on the link of that number, if one is open, which isn't among the others then
abbrev pub serve_on : Option (LinkState Talk) → ℕ → List ℕ → List ℕ → ℕ → Desk → LinkMap → List (List ℕ) → StepPart
serve_on None number piece name now d others left = whole_part d others left
serve_on (Some link) number piece name now d others left =
    after_units
    (served_cut (controller_server name now number) (cut_stream (link.rest ++ piece)) d link.talk left)
    (cut_stream (link.rest ++ piece)).rest number others

abbrev pub serve_bytes : ℕ → List ℕ → List ℕ → ℕ → Desk → LinkMap → List (List ℕ) → StepPart
serve_bytes number piece name now d links left =
    serve_on (lookup same_number number links) number piece name now d (take_out same_number number links) left

-- ---- an event

-- a link that opens is first closed, if it is open
abbrev pub by_event : Event → List ℕ → ℕ → Desk → LinkMap → List (List ℕ) → StepPart
by_event (event.Opened link) name now d links left =
    with_open (open_link link d.work (take_out same_number link links)) d.table left
by_event (event.Bytes link bytes) name now d links left = serve_bytes link bytes name now d links left
by_event (event.Closed link) name now d links left = whole_part d (take_out same_number link links) left
by_event (event.Dialled link) name now d links left = whole_part d links left
by_event event.DialFailed name now d links left = whole_part d links left
by_event event.Stop name now d links left = whole_part d links left

-- after each event a turn starts, where none is out and somebody waits for one: here nobody does
abbrev pub start_turn : Desk × LinkMap → List (List ℕ) → StepPart
start_turn after left = whole_part after.0 after.1 left

-- ---- a step

-- at first, and once it has stopped
abbrev pub first_state : AccountTable → List ℕ → State
first_state table name = record {
  table = table;
  name = name;
  running = Some (record { computers = record { pending = []; channels = []; sessions = [] }; links = [] });
  trusting = no_trusting;
}

abbrev pub halted : State → State
halted s = record s { running = None }

abbrev pub is_stopped : State → Bool
is_stopped s = is_none s.running

abbrev pub state_after : State → Desk × LinkMap → State
state_after s after =
    record s { table = after.0.table; running = Some (record { computers = after.0.work.computers; links = after.1 }) }

-- the controller at work, before it acts
abbrev pub first_desk : AccountTable → Running → Desk
first_desk table running = desk table (record { computers = running.computers; actions = [] })

abbrev pub step_part : Running → State → Event → ℕ → List (List ℕ) → StepPart
step_part running s what now left =
    then_part (by_event what s.name now (first_desk s.table running) running.links left) (λ after rest. start_turn after rest)

abbrev pub step_on : Option Running → State → Event → ℕ → List (List ℕ) → Stepped State
step_on None s what now left = stopped_step left s
step_on (Some running) s what now left =
    step_by (λ after. after.0.work.actions) (λ after. state_after s after) (halted s) left (step_part running s what now left)

abbrev pub step_of : State → Event → ℕ → List (List ℕ) → Stepped State
step_of s what now left = step_on s.running s what now left

-- ---- what is held

abbrev pub held_by_links : Option Running → ℕ
held_by_links None = 0
held_by_links (Some running) = held_by (λ (talk : Talk). open_len talk.joiner) running.links

-- the bytes held for links: the rests of their streams, and the stub bytes of open calls
abbrev pub held_of : State → ℕ
held_of s = held_by_links s.running

-- ---- the machine

-- a controller waits for no link, and has no outcome
abbrev pub controller_machine : Machine State
controller_machine = record {
  step = λ s what now left. step_of s what now left;
  want = λ s. None;
  is_over = λ s. false;
  line = line_of;
}
