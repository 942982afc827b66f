-- One step of any member (this project's own choice). It goes first by what is kept to seal: where that is None, the
-- step is that of `Machine`. Where it isn't, the channel is one that seals: what comes on the link of its turn, and how
-- its next turn starts, is that of `SealedTurns`, and all else is as in `Machine`.
use Rattle.std.specs.Prelude.{ℕ, ◌≡◌, Bool, true, false, List, [], Option, Some, None, IsSome, Result, Ok}
use Rattle.outside.specs.declared.action.Action.{Action}
use Rattle.outside.specs.declared.action.StepRefused.{StepRefused}
use Rattle.outside.specs.declared.event.Event.{Event}
use Rattle.outside.specs.declared.event.Event.TheVariants as event
use Rattle.outside.specs.Machine.{Machine, Part, Stepped, step_by, stopped_step, then_part}
use Rattle.channel_client.specs.Sealed.{fresh_channel_of}
use Rattle.channel_client.specs.Sealing.{sealing_for}
use Rattle.channel_client.specs.State.{Requester}
use Rattle.channel_turns.specs.declared.state.Dialling.{Dialling}
use Rattle.channel_turns.specs.declared.state.Dialling.TheVariants as dialling
use Rattle.channel_turns.specs.declared.state.Turning.{Turning}
use Rattle.channel_turns.specs.SealedTurns.{SealedTurned, next_sealed_dial, sealed_link_hears}
use Rattle.channel_turns.specs.Turning.{is_on}
use Rattle.member_server.specs.declared.plan.MemberPlan.{MemberPlan}
use Rattle.member_server.specs.declared.state.Running.{Running}
use Rattle.member_server.specs.declared.state.TurnSealing.{TurnSealing}
use Rattle.member_server.specs.declared.state.Work.{Work}
use Rattle.member_server.specs.Lines.{line_of}
use Rattle.member_server.specs.Machine.{actions_in, by_event, caller_of, change_of, fresh_member, halted_state, step_of, step_on, want_of, work_of}
use Rattle.member_server.specs.State.{State}
use Rattle.member_server.specs.Turns.{DialWork, after_turned, ready_channel, turning_of, with_requester}

-- ---- at first

-- no turn is out
abbrev pub first_sealing : (seals : Bool) → Option TurnSealing
first_sealing false = None
first_sealing true = Some (record { is_link_sealed = false })

abbrev pub channel_of_plan : MemberPlan → Requester
channel_of_plan plan = fresh_channel_of (sealing_for plan.sealed plan.domain plan.computer) (caller_of plan)

-- a member whose channel seals where its plan says so
abbrev pub sealing_member : MemberPlan → State
sealing_member plan = record {
  running = Some (record {
    logons = record { plan = plan; channel = channel_of_plan plan; asked = [] };
    links = [];
    dialling = dialling.Nothing;
    sealing = first_sealing plan.sealed;
  });
}

-- ---- what is kept to seal

abbrev pub sealing_by : Option Running → Option TurnSealing
sealing_by None = None
sealing_by (Some running) = running.sealing

abbrev pub sealing_in : State → Option TurnSealing
sealing_in s = sealing_by s.running

-- ---- a member whose channel seals: an event

-- a member at work whose channel seals, with its dial, and whether the link of the turn is sealed
abbrev pub SealWork : Type 0
SealWork = DialWork × Bool

abbrev pub beside : (is_link_sealed : Bool) → DialWork → List (List ℕ) → Result (Part SealWork) StepRefused
beside sealed dial_work left = Ok (record { value = (dial_work, sealed); left = left })

abbrev pub after_sealed : Work → SealedTurned → List (List ℕ) → Result (Part SealWork) StepRefused
after_sealed work turned left = beside turned.1 (after_turned turned.0 work) left

abbrev pub hear_sealed : (link : ℕ) (piece : List ℕ) (how : Dialling) (work : Work) (is_link_sealed : Bool) → List (List ℕ) → Result (Part SealWork) StepRefused
hear_sealed link piece how work sealed left =
    then_part (sealed_link_hears link piece sealed (turning_of work how) left) (after_sealed work)

-- what comes as in `Machine`, and leaves the link of the turn as it is or closes it
abbrev pub as_before : Event → Dialling → Work → (is_link_sealed : Bool) → List (List ℕ) → Result (Part SealWork) StepRefused
as_before what how work sealed left = then_part (by_event what how work left) (beside sealed)

abbrev pub sealed_bytes_by : (is_turn_link : Bool) (link : ℕ) (piece : List ℕ) (how : Dialling) (work : Work) (is_link_sealed : Bool) → List (List ℕ) → Result (Part SealWork) StepRefused
sealed_bytes_by true link piece how work sealed left = hear_sealed link piece how work sealed left
sealed_bytes_by false link piece how work sealed left = as_before (event.Bytes link piece) how work sealed left

abbrev pub by_sealed_event : Event → Dialling → Work → (is_link_sealed : Bool) → List (List ℕ) → Result (Part SealWork) StepRefused
by_sealed_event (event.Bytes link piece) how work sealed left = sealed_bytes_by (is_on link how) link piece how work sealed left
by_sealed_event (event.Opened link) how work sealed left = as_before (event.Opened link) how work sealed left
by_sealed_event (event.Closed link) how work sealed left = as_before (event.Closed link) how work sealed left
by_sealed_event (event.Dialled link) how work sealed left = as_before (event.Dialled link) how work sealed left
by_sealed_event event.DialFailed how work sealed left = as_before event.DialFailed how work sealed left
by_sealed_event event.Stop how work sealed left = as_before event.Stop how work sealed left

-- ---- the next turn, which starts after each event where one can

abbrev pub after_dial : Work → (is_link_sealed : Bool) → Turning → List (List ℕ) → Result (Part SealWork) StepRefused
after_dial work sealed turning left = beside sealed (after_turned (turning, None) work) left

-- the turn of the channel that was given its secrets
abbrev pub ready_turning : DialWork → Turning
ready_turning dial_work = turning_of (with_requester dial_work.0 (ready_channel dial_work.0)) dial_work.1

abbrev pub next_sealed : (now : ℕ) → SealWork → List (List ℕ) → Result (Part SealWork) StepRefused
next_sealed now work left =
    then_part (next_sealed_dial now work.0.0.logons.plan.controller (ready_turning work.0) left) (after_dial work.0.0 work.1)

-- ---- a step

abbrev pub actions_of_sealed : SealWork → List Action
actions_of_sealed work = actions_in work.0

-- while no link of a turn is open, none is sealed
abbrev pub is_sealed_on : Dialling → (is_link_sealed : Bool) → Bool
is_sealed_on dialling.Nothing sealed = false
is_sealed_on (dialling.Waits turn frames) sealed = false
is_sealed_on (dialling.On number said) sealed = sealed

abbrev pub state_of_sealed : SealWork → State
state_of_sealed work = record {
  running = Some (record {
    logons = work.0.0.logons;
    links = work.0.0.links;
    dialling = work.0.1;
    sealing = Some (record { is_link_sealed = is_sealed_on work.0.1 work.1 });
  });
}

abbrev pub sealed_part : Running → (is_link_sealed : Bool) → Event → ℕ → List (List ℕ) → Result (Part SealWork) StepRefused
sealed_part running sealed what now left =
    then_part (by_sealed_event what running.dialling (work_of running) sealed left) (next_sealed now)

abbrev pub step_with : Option TurnSealing → Running → State → Event → ℕ → List (List ℕ) → Stepped State
step_with None running s what now left = step_on (Some running) s what now left
step_with (Some sealing) running s what now left =
    step_by actions_of_sealed state_of_sealed halted_state left (sealed_part running sealing.is_link_sealed what now left)

abbrev pub any_step_on : Option Running → State → Event → ℕ → List (List ℕ) → Stepped State
any_step_on None s what now left = stopped_step left s
any_step_on (Some running) s what now left = step_with running.sealing running s what now left

abbrev pub any_step_of : State → Event → ℕ → List (List ℕ) → Stepped State
any_step_of s what now left = any_step_on s.running s what now left

-- ---- the machine

abbrev pub any_member_machine : Machine State
any_member_machine = record { step = any_step_of; want = want_of; is_over = λ s. false; line = line_of }

-- ---- a member that seals nothing goes as if none could

abbrev pub SealsNothing : State → Type 0
SealsNothing s = sealing_in s ≡ None

pub record PlainMembersStay : Type 0 where
  -- a member that seals nothing is made and goes as one that can't seal
  pub made : (plan : MemberPlan) → plan.sealed ≡ false → sealing_member plan ≡ fresh_member plan
  pub step : (s : State) (what : Event) (now : ℕ) (left : List (List ℕ)) → SealsNothing s → any_step_of s what now left ≡ step_of s what now left
  -- a member that seals nothing stays one
  pub fresh : (plan : MemberPlan) → SealsNothing (fresh_member plan)
  pub stepped : (s : State) (what : Event) (now : ℕ) (left : List (List ℕ)) → SealsNothing s → SealsNothing (step_of s what now left).state
  pub changed : (s : State) (new : List ℕ) → sealing_in (change_of s new).state ≡ sealing_in s

-- whether the step was taken
abbrev pub SealsUnlessStopped : Option Running → Type 0
SealsUnlessStopped None = Unit {0}
SealsUnlessStopped (Some running) = IsSome running.sealing

-- One that seals stays one.
pub record SealingMembersStay : Type 0 where
  pub made : (plan : MemberPlan) → plan.sealed ≡ true → SealsUnlessStopped (sealing_member plan).running
  pub stepped : (s : State) (what : Event) (now : ℕ) (left : List (List ℕ)) → SealsUnlessStopped s.running → SealsUnlessStopped (any_step_of s what now left).state.running
