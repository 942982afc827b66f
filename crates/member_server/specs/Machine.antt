-- One step of a member whose channel seals nothing: an event, and then the next turn; and how a change of its secret
-- begins (this project's own choice). `SealStep` has the step of any member.
use Rattle.std.specs.Prelude.{ℕ, ◌≡◌, ◌==◌, Bool, true, false, nat_le, List, [], ◌∷◌, ◌++◌, length, Option, Some, None, is_none, Result, Ok, Err}
use Rattle.outside.specs.declared.action.Action.{Action}
use Rattle.outside.specs.declared.action.Action.TheVariants as action
use Rattle.outside.specs.declared.action.CloseCause.TheVariants as close
use Rattle.outside.specs.declared.action.DropCause.TheVariants as drop_cause
use Rattle.outside.specs.declared.action.StepRefused.{StepRefused}
use Rattle.outside.specs.declared.event.Event.{Event}
use Rattle.outside.specs.declared.event.Event.TheVariants as event
use Rattle.outside.specs.Machine.{Part, Stepped, step_by, stopped_step, then_part}
use Rattle.wire_base.specs.Maps.{lookup, same_number}
use Rattle.channel_client.specs.declared.caller.Caller.{Caller}
use Rattle.channel_client.specs.Machine.{fresh_requester}
use Rattle.rpc_units.specs.Stream.{Cut, cut_stream}
use Rattle.end_links.specs.Links.{LinkState}
use Rattle.end_links.specs.Serving.{ServedPart, served_cut}
use Rattle.channel_turns.specs.declared.state.Dialling.{Dialling}
use Rattle.channel_turns.specs.declared.state.Dialling.TheVariants as dialling
use Rattle.channel_turns.specs.declared.state.TurnTalk.{TurnTalk}
use Rattle.channel_turns.specs.Turning as turning
use Rattle.channel_turns.specs.Turning.{is_on, is_waiting, link_answers, no_dial}
use Rattle.channel_turns.specs.Turns as turns
use Rattle.secret_change.specs.Secrets.{Beginning, begin_of}
use Rattle.secret_change.specs.declared.refused.Busy.{Busy}
use Rattle.member_server.specs.declared.change.ChangeRefused.{ChangeRefused}
use Rattle.member_server.specs.declared.change.ChangeRefused.TheVariants as change_refused
use Rattle.member_server.specs.declared.plan.MemberPlan.{MemberPlan}
use Rattle.member_server.specs.declared.state.AtLink.{AtLink}
use Rattle.member_server.specs.declared.state.Phase.TheVariants as phase
use Rattle.member_server.specs.declared.state.Running.{Running}
use Rattle.member_server.specs.declared.state.Talk.{Talk}
use Rattle.member_server.specs.declared.state.Work.{Work}
use Rattle.member_server.specs.Outcomes.{tell_at, without_link, with_link, at_link, after_served}
use Rattle.member_server.specs.Secrets.{SecretsState, next_of, tried_of, written_secrets}
use Rattle.member_server.specs.State.{State}
use Rattle.member_server.specs.Turns.{AtTurn, DialWork, after_turned, dial_work_part, lose_turn, next_turn, turn_server, turning_of, with_secrets}
use Rattle.member_server.specs.Units.{link_server}

-- ---- at first

-- the machine account: the computer's name with a dollar sign behind it (MS-NRPC 3.1.1)
abbrev pub account_of : List ℕ → List ℕ
account_of computer = computer ++ 0x24 ∷ []

-- a workstation's channel, 2 (MS-NRPC 2.2.1.3.13)
abbrev pub caller_of : MemberPlan → Caller
caller_of plan =
    record { secret = tried_of plan.secrets; computer = plan.computer; account = account_of plan.computer; kind = 2 }

abbrev pub fresh_member : MemberPlan → State
fresh_member plan = record {
  running = Some (record {
    logons = record { plan = plan; channel = fresh_requester (caller_of plan); asked = [] };
    links = [];
    dialling = dialling.Nothing;
    sealing = None;
  });
}

-- ---- links that close

-- a link was closed; the turn is lost where it is its link
abbrev pub close_turn : (is_turn_link : Bool) (link : ℕ) (how : Dialling) (work : Work) → DialWork
close_turn false link how work = (without_link link work, how)
close_turn true link how work = (lose_turn drop_cause.LinkClosed work, dialling.Nothing)

abbrev pub close_link : Dialling → ℕ → Work → DialWork
close_link how link work = close_turn (is_on link how) link how work

-- ---- links that open

abbrev pub fresh_link : LinkState Talk
fresh_link = record { rest = []; talk = record { joiner = None; phase = phase.Fresh } }

-- a link was opened; it is closed where as many are open as may be
abbrev pub open_by : (is_full : Bool) (link : ℕ) (work : Work) → Work
open_by true link work = tell_at work (action.Close link close.TooManyLinks)
open_by false link work = with_link link fresh_link work

-- an older link of that number is closed first
abbrev pub open_after_close : DialWork → ℕ → DialWork
open_after_close dial_work link = (open_by (nat_le 256 (length dial_work.0.links)) link dial_work.0, dial_work.1)

-- ---- dials

-- a dial was answered: the bind goes out; an older link of that number is closed first
abbrev pub answer_if : (is_waiting : Bool) (how : Dialling) (link : ℕ) (work : Work) → DialWork
answer_if false how link work = (work, how)
answer_if true how link work =
    after_turned (link_answers link (turning_of (without_link link work) how), None) (without_link link work)

abbrev pub answer_dial : Dialling → ℕ → Work → DialWork
answer_dial how link work = answer_if (is_waiting how) how link work

abbrev pub fail_dial : Dialling → Work → DialWork
fail_dial how work = after_turned (no_dial (turning_of work how)) work

-- ---- bytes

abbrev pub after_units : ServedPart AtLink Talk → List ℕ → ℕ → Dialling → Work → Result (Part DialWork) StepRefused
after_units (Err why) rest number how work = Err why
after_units (Ok part) rest number how work = dial_work_part (after_served part.value rest number work) how part.left

-- a link that is out of the map
abbrev pub serve_alone : Cut → ℕ → Talk → Dialling → Work → List (List ℕ) → Result (Part DialWork) StepRefused
serve_alone cut number talk how work left =
    after_units (served_cut link_server cut (at_link number work) talk left) cut.rest number how work

abbrev pub bytes_on_link : Option (LinkState Talk) → ℕ → List ℕ → Dialling → Work → List (List ℕ) → Result (Part DialWork) StepRefused
bytes_on_link None number piece how work left = dial_work_part work how left
bytes_on_link (Some link) number piece how work left =
    serve_alone (cut_stream (link.rest ++ piece)) number link.talk how (without_link number work) left

-- a link is put back where it stays open
abbrev pub put_open : Option (LinkState Talk) → ℕ → Work → Work
put_open None number work = work
put_open (Some link) number work = with_link number link work

abbrev pub keep_turn : Option TurnTalk → List ℕ → ℕ → Dialling
keep_turn said rest number = turning.keep_link number (turns.keep_turn said rest)

abbrev pub after_turn : ServedPart AtTurn TurnTalk → List ℕ → ℕ → Result (Part DialWork) StepRefused
after_turn (Err why) rest number = Err why
after_turn (Ok part) rest number = dial_work_part part.value.0.work (keep_turn part.value.1 rest number) part.left

abbrev pub at_turn : ℕ → Work → AtTurn
at_turn number work = record { link = number; work = work }

abbrev pub serve_dialled : Cut → ℕ → TurnTalk → Work → List (List ℕ) → Result (Part DialWork) StepRefused
serve_dialled cut number talk work left =
    after_turn (served_cut turn_server cut (at_turn number work) talk left) cut.rest number

-- a piece came on the link of the turn or on another one
abbrev pub bytes_by : (is_turn_link : Bool) (said : LinkState TurnTalk) (number : ℕ) (piece : List ℕ) (how : Dialling) (work : Work) (left : List (List ℕ)) → Result (Part DialWork) StepRefused
bytes_by true said number piece how work left = serve_dialled (cut_stream (said.rest ++ piece)) number said.talk work left
bytes_by false said number piece how work left =
    bytes_on_link (lookup same_number number work.links) number piece how work left

abbrev pub bytes_on : Dialling → ℕ → List ℕ → Work → List (List ℕ) → Result (Part DialWork) StepRefused
bytes_on dialling.Nothing number piece work left =
    bytes_on_link (lookup same_number number work.links) number piece dialling.Nothing work left
bytes_on (dialling.Waits turn frames) number piece work left =
    bytes_on_link (lookup same_number number work.links) number piece (dialling.Waits turn frames) work left
bytes_on (dialling.On other said) number piece work left =
    bytes_by (other == number) said number piece (dialling.On other said) work left

-- ---- an event

abbrev pub drawless_part : DialWork → List (List ℕ) → Result (Part DialWork) StepRefused
drawless_part dial_work left = Ok (record { value = dial_work; left = left })

abbrev pub by_event : Event → Dialling → Work → List (List ℕ) → Result (Part DialWork) StepRefused
by_event (event.Opened link) how work left = drawless_part (open_after_close (close_link how link work) link) left
by_event (event.Bytes link piece) how work left = bytes_on how link piece work left
by_event (event.Closed link) how work left = drawless_part (close_link how link work) left
by_event (event.Dialled link) how work left = drawless_part (answer_dial how link work) left
by_event event.DialFailed how work left = drawless_part (fail_dial how work) left
by_event event.Stop how work left = drawless_part (work, how) left

-- ---- a step

abbrev pub halted_state : State
halted_state = record { running = None }

abbrev pub work_of : Running → Work
work_of running = record { logons = running.logons; links = running.links; actions = [] }

abbrev pub actions_in : DialWork → List Action
actions_in dial_work = dial_work.0.actions

abbrev pub state_in : DialWork → State
state_in dial_work = record {
  running = Some (record { logons = dial_work.0.logons; links = dial_work.0.links; dialling = dial_work.1; sealing = None });
}

abbrev pub event_part : Running → Event → ℕ → List (List ℕ) → Result (Part DialWork) StepRefused
event_part running what now left = then_part (by_event what running.dialling (work_of running) left) (next_turn now)

abbrev pub step_on : Option Running → State → Event → ℕ → List (List ℕ) → Stepped State
step_on None s what now left = stopped_step left s
step_on (Some running) s what now left = step_by actions_in state_in halted_state left (event_part running what now left)

abbrev pub step_of : State → Event → ℕ → List (List ℕ) → Stepped State
step_of s what now left = step_on s.running s what now left

-- ---- a change of the secret

-- what a change comes to: the actions or the refusal, and the member afterwards
pub record Changing : Type 0 where
  pub answer : Result (List Action) ChangeRefused
  pub state : State

abbrev pub running_with : SecretsState → Running → Running
running_with secrets running = record running { logons = with_secrets secrets running.logons }

-- where one begins, the text is kept; nothing else is done
abbrev pub change_begun : Result Unit Busy → SecretsState → Running → State → Changing
change_begun (Ok begun) secrets running s = record {
  answer = Ok (action.Keep (written_secrets secrets) ∷ []);
  state = record { running = Some (running_with secrets running) };
}
change_begun (Err busy) secrets running s = record { answer = Err (change_refused.Busy busy.next); state = s }

abbrev pub change_by : Beginning → Running → State → Changing
change_by beginning running s = change_begun beginning.answer beginning.secrets running s

abbrev pub change_on : Option Running → State → List ℕ → Changing
change_on None s new = record { answer = Err change_refused.Stopped; state = s }
change_on (Some running) s new = change_by (begin_of running.logons.plan.secrets new) running s

abbrev pub change_of : State → List ℕ → Changing
change_of s new = change_on s.running s new

-- How a call that begins a change answers: without memory the member is stopped.
abbrev pub ChangesBy : Result (List Action) ChangeRefused → Changing → State → Type 0
ChangesBy (Ok actions) changing now = (changing.answer ≡ Ok actions) × (now ≡ changing.state)
ChangesBy (Err change_refused.Memory) changing now = now ≡ halted_state
ChangesBy (Err change_refused.Stopped) changing now = (changing.answer ≡ Err change_refused.Stopped) × (now ≡ changing.state)
ChangesBy (Err (change_refused.Busy next)) changing now =
    (changing.answer ≡ Err (change_refused.Busy next)) × (now ≡ changing.state)

-- the next secret that a member keeps
abbrev pub next_kept_by : Option Running → Option (List ℕ)
next_kept_by None = None
next_kept_by (Some running) = next_of running.logons.plan.secrets

abbrev pub next_kept : State → Option (List ℕ)
next_kept s = next_kept_by s.running

-- ---- what is waited for

-- the link that is waited for: the one of the turn
abbrev pub want_by : Option Running → Option ℕ
want_by None = None
want_by (Some running) = turning.want_of running.dialling

abbrev pub want_of : State → Option ℕ
want_of s = want_by s.running

abbrev pub is_stopped : State → Bool
is_stopped s = is_none s.running
