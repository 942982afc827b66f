-- What holds of a controller's steps, whatever comes, from whomever (this project's own choice). `step_of` is the step
-- of one that asks nobody, and `trust_step_of` that of each controller, by the law `StepsAlone`.
use Rattle.std.specs.Prelude.{ℕ, ◌≡◌, ◌⊎◌, Bool, true, false, List, [], ◌∷◌, ◌++◌, length, nat_le, Option, Some, None, Ok, Err}
use Rattle.std.specs.List.{AllByRecursion, Any}
use Rattle.wire_base.specs.Maps.{lookup, take_out, same_number}
use Rattle.wire_base.specs.Names.{same_name}
use Rattle.outside.specs.declared.action.Action.{Action}
use Rattle.outside.specs.declared.action.StepRefused.{StepRefused}
use Rattle.outside.specs.declared.event.Event.{Event}
use Rattle.rpc_units.specs.declared.unit.Unit.{Unit as RpcUnit}
use Rattle.rpc_units.specs.declared.unit.Syntax.{Syntax}
use Rattle.rpc_units.specs.Calls.{bytes_of_call}
use Rattle.rpc_units.specs.Joining.{context_of}
use Rattle.rpc_units.specs.Reading.{unit_of}
use Rattle.rpc_units.specs.Stream.{cut_stream}
use Rattle.rpc_units.specs.Writing.{written}
use Rattle.logon_stubs.specs.declared.calls.LogoffCall.{LogoffCall}
use Rattle.logon_stubs.specs.declared.calls.LogonCall.{LogonCall}
use Rattle.logon_stubs.specs.declared.calls.Reply.{Reply}
use Rattle.logon_stubs.specs.Writing.{written_reply}
use Rattle.interactive_logon.specs.declared.calls.InteractiveCall.{InteractiveCall}
use Rattle.account_table.specs.AccountTable.{AccountTable}
use Rattle.account_table.specs.Changes.{DifferInStates, with_hash}
use Rattle.account_table.specs.LookUps.{machine_in}
use Rattle.authenticators.specs.SecureChannels.{key_of_channel}
use Rattle.secret_change.specs.declared.calls.SetCall.{SetCall}
use Rattle.secret_change.specs.declared.calls.SetReply.{SetReply}
use Rattle.secret_change.specs.Calls.{written_set_reply}
use Rattle.secret_change.specs.Hiding.{show_of}
use Rattle.end_links.specs.Binding.{ack_of, nak_of}
use Rattle.end_links.specs.Links.{LinkState}
use Rattle.end_links.specs.Sending.{fault_of, response_of}
use Rattle.logon_stubs.specs.Interface.{netlogon_syntax}
use Rattle.end_loop.specs.Acts.{is_made}
use Rattle.end_loop.specs.Runs.{actions_of}
use Rattle.channel_turns.specs.Turning.{is_on}
use Rattle.channel_turns.specs.declared.state.Dialling.{Dialling}
use Rattle.domain_controller.specs.Hearing.{hear}
use Rattle.controller_calls.specs.ChannelKinds.{HaveKinds}
use Rattle.controller_calls.specs.Asking.{answer_judged}
use Rattle.controller_calls.specs.Calls.{computer_named, given_in}
use Rattle.controller_calls.specs.Desk.{Desk}
use Rattle.controller_calls.specs.Interactive.{judge_interactive}
use Rattle.controller_calls.specs.Logons.{judge_info}
use Rattle.domain_controller.specs.State.{State}
use Rattle.domain_controller.specs.Forwarding.{TrustDesk, answer_trust_call, base_desk}
use Rattle.domain_controller.specs.Step.{LinkMap, first_state, step_of}
use Rattle.domain_controller.specs.TrustStep.{first_trust_state, trust_step_of}
use Rattle.controller_calls.specs.declared.calls.ControllerCall.{ControllerCall}
use Rattle.controller_calls.specs.declared.calls.JudgedCall.{JudgedCall}
use Rattle.controller_calls.specs.declared.calls.JudgedCall.TheVariants.{Interactive, Logoff, Network, NetworkLogoff, Set}
use Rattle.controller_calls.specs.declared.line.Line.{Line}
use Rattle.controller_calls.specs.declared.state.Computers.{Computers}
use Rattle.domain_controller.specs.declared.state.Running.{Running}
use Rattle.domain_controller.specs.declared.state.Talk.{Talk}
use Rattle.domain_controller.specs.declared.hearing.Heard.{Heard}
use Rattle.outside.specs.declared.action.Action.TheVariants as action
use Rattle.outside.specs.declared.action.CloseCause.TheVariants as close
use Rattle.outside.specs.declared.event.Event.TheVariants as event
use Rattle.controller_calls.specs.declared.calls.ControllerCall.TheVariants as call
use Rattle.domain_controller.specs.declared.hearing.Heard.TheVariants as heard
pub use Rattle.controller_calls.specs.Passing.{IsNext, judges_call, is_passed, PassesTheNext}

-- ---- what follows a link that was closed

-- A step for a link that was closed, or for a dial's answer, has no actions: so it closes nothing.
pub record ClosesNothing : Type 0 where
  pub made : (s : State) (what : Event) (now : ℕ) (left : List (List ℕ)) → is_made what ≡ true → actions_of (step_of s what now left) ≡ []

-- ---- what is sent

-- the bytes are a bind_ack or a bind_nak with the unit's call number
abbrev pub IsAckTo : RpcUnit → List ℕ → Type 0
IsAckTo unit bytes =
    (receive : ℕ) × (contexts : List (ℕ × Syntax × List Syntax)) × (bytes ≡ written (ack_of netlogon_syntax unit.call receive contexts))

abbrev pub IsNakTo : RpcUnit → List ℕ → Type 0
IsNakTo unit bytes = bytes ≡ written (nak_of unit.call)

-- the bytes are a fault, or the frames of a response, with the unit's call number and context
abbrev pub IsFaultTo : RpcUnit → List ℕ → Type 0
IsFaultTo unit bytes = (status : ℕ) × (bytes ≡ written (fault_of unit.call (context_of unit.body) status))

abbrev pub IsReplyTo : RpcUnit → List ℕ → Type 0
IsReplyTo unit bytes =
    (answer : Reply) × (limit : ℕ) × (bytes ≡ bytes_of_call (response_of unit.call (context_of unit.body) (written_reply answer)) limit)

abbrev pub IsSetReplyTo : RpcUnit → List ℕ → Type 0
IsSetReplyTo unit bytes =
    (answer : SetReply) × (limit : ℕ) × (bytes ≡ bytes_of_call (response_of unit.call (context_of unit.body) (written_set_reply answer)) limit)

abbrev pub IsAnswerTo : RpcUnit → List ℕ → Type 0
IsAnswerTo unit bytes =
    IsAckTo unit bytes ⊎ (IsNakTo unit bytes ⊎ (IsFaultTo unit bytes ⊎ (IsReplyTo unit bytes ⊎ IsSetReplyTo unit bytes)))

-- the bytes answer a unit that one of these byte strings is
abbrev pub AnswersOne : List (List ℕ) → List ℕ → Type 0
AnswersOne units bytes = Any (λ (read : List ℕ). (unit : RpcUnit) × (unit_of read ≡ Ok unit) × IsAnswerTo unit bytes) units

-- what may be done on a link on which these units were read
abbrev pub IsActionOn : ℕ → List (List ℕ) → Action → Type 0
IsActionOn link units (action.Keep bytes) = Unit {0}
IsActionOn link units (action.Send to bytes) = (to ≡ link) × AnswersOne units bytes
IsActionOn link units (action.Close to cause) = to ≡ link
IsActionOn link units (action.Judged how) = Unit {0}
IsActionOn link units (action.Dial peer) = ⊥
IsActionOn link units (action.Told to outcome) = ⊥

-- what is done where a link opens
abbrev pub done_by_open : (is_full : Bool) → ℕ → List Action
done_by_open true link = action.Close link close.TooManyLinks ∷ []
done_by_open false link = []

-- What bytes on an open link make is done on that link, and each send answers a unit read on it.
pub record AnswersUnits : Type 0 where
  pub bytes : (s : State) (running : Running) (number : ℕ) (link : LinkState Talk) (piece : List ℕ) (now : ℕ) (left : List (List ℕ)) →
      s.running ≡ Some running → lookup same_number number running.links ≡ Some link →
      AllByRecursion (IsActionOn number (cut_stream (link.rest ++ piece)).units) (actions_of (step_of s (event.Bytes number piece) now left))
  -- bytes on a link that isn't open make nothing
  pub other : (s : State) (running : Running) (number : ℕ) (piece : List ℕ) (now : ℕ) (left : List (List ℕ)) →
      s.running ≡ Some running → lookup same_number number running.links ≡ None →
      actions_of (step_of s (event.Bytes number piece) now left) ≡ []
  -- a link that opens is closed where 256 others are open; `Stop` makes nothing
  pub opens : (s : State) (running : Running) (number now : ℕ) (left : List (List ℕ)) → s.running ≡ Some running →
      actions_of (step_of s (event.Opened number) now left)
      ≡ done_by_open (nat_le 256 (length (take_out same_number number running.links))) number
  pub stop : (s : State) (now : ℕ) (left : List (List ℕ)) → actions_of (step_of s event.Stop now left) ≡ []

-- ---- whose channel is changed

-- the call that is heard, if a whole one is
abbrev pub call_in : Heard → List ControllerCall
call_in (heard.Asked line call talk) = call ∷ []
call_in (heard.Close cause) = []
call_in (heard.Answer bytes talk) = []
call_in (heard.Waits talk) = []

-- what is said on the link then, where it stays open
abbrev pub talk_after : Heard → Option Talk
talk_after (heard.Asked line call talk) = Some talk
talk_after (heard.Close cause) = None
talk_after (heard.Answer bytes talk) = Some talk
talk_after (heard.Waits talk) = Some talk

abbrev pub calls_then : Option Talk → (Talk → List ControllerCall) → List ControllerCall
calls_then None later = []
calls_then (Some talk) later = later talk

-- the calls that are heard of these units on the link, in order
abbrev pub calls_heard : ℕ → List (List ℕ) → Talk → List ControllerCall
calls_heard link [] talk = []
calls_heard link (bytes ∷ units) talk =
    call_in (hear link bytes talk) ++ calls_then (talk_after (hear link bytes talk)) (λ later. calls_heard link units later)

abbrev pub calls_on : Option (LinkState Talk) → ℕ → List ℕ → List ControllerCall
calls_on None number piece = []
calls_on (Some link) number piece = calls_heard number (cut_stream (link.rest ++ piece)).units link.talk

-- the calls that are heard of an event, on accepted links
abbrev pub calls_of : Event → LinkMap → List ControllerCall
calls_of (event.Bytes number piece) links = calls_on (lookup same_number number links) number piece
calls_of _ links = []

-- the calls of an event where a turn is at that point: none are heard on its link
abbrev pub calls_if : (is_turn_link : Bool) (calls : List ControllerCall) → List ControllerCall
calls_if false calls = calls
calls_if true calls = []

abbrev pub trust_calls_of : Event → LinkMap → Dialling → List ControllerCall
trust_calls_of (event.Bytes number piece) links how =
    calls_if (is_on number how) (calls_on (lookup same_number number links) number piece)
trust_calls_of _ links how = []

-- the computer that a call names
abbrev pub computer_of : ControllerCall → Option (List ℕ)
computer_of (call.Challenge c) = Some c.computer
computer_of (call.Authenticate c) = Some c.computer
computer_of (call.Judged c) = computer_named c

abbrev pub names_by : Option (List ℕ) → List ℕ → Bool
names_by None computer = false
names_by (Some name) computer = same_name name computer

-- a call names that computer
abbrev pub names : ControllerCall → List ℕ → Bool
names c computer = names_by (computer_of c) computer

-- what is kept of that computer is the same
pub record KeepsComputer (computer : List ℕ) (old new : Computers) : Type 0 where
  pub pair : lookup same_name computer new.pending ≡ lookup same_name computer old.pending
  pub channel : lookup same_name computer new.channels ≡ lookup same_name computer old.channels

-- unless the controller has stopped then
abbrev pub KeepsUnlessStopped : List ℕ → Computers → Option Running → Type 0
KeepsUnlessStopped computer old None = Unit {0}
KeepsUnlessStopped computer old (Some running) = KeepsComputer computer old running.computers

-- A step leaves the challenges and the channel of every computer that no call of the event names.
pub record KeepsOthers : Type 0 where
  pub keeps : (s : State) (running : Running) (what : Event) (now : ℕ) (left : List (List ℕ)) (computer : List ℕ) → s.running ≡ Some running →
      AllByRecursion (λ (c : ControllerCall). names c computer ≡ false) (calls_of what running.links) →
      KeepsUnlessStopped computer running.computers (step_of s what now left).state.running
  pub trusting : (s : State) (running : Running) (what : Event) (now : ℕ) (left : List (List ℕ)) (computer : List ℕ) →
      s.running ≡ Some running →
      AllByRecursion (λ (c : ControllerCall). names c computer ≡ false) (trust_calls_of what running.links s.trusting.dialling) →
      KeepsUnlessStopped computer running.computers (trust_step_of s what now left).state.running

-- ---- of which types channels are

-- each channel that is kept has a type, while the controller runs
abbrev pub HaveKindsAtWork : Option Running → Type 0
HaveKindsAtWork None = Unit {0}
HaveKindsAtWork (Some running) = HaveKinds running.computers

-- A controller keeps no channel without a type: at first it keeps none, and a step leaves it so.
pub record KeptHaveKinds : Type 0 where
  pub first : (table : AccountTable) (name : List ℕ) → HaveKindsAtWork (first_state table name).running
  pub stays : (s : State) (what : Event) (now : ℕ) (left : List (List ℕ)) → HaveKindsAtWork s.running →
      HaveKindsAtWork (step_of s what now left).state.running
  pub trusting_first : (table : AccountTable) (name : List ℕ) → HaveKindsAtWork (first_trust_state table name).running
  pub trusting_stays : (s : State) (what : Event) (now : ℕ) (left : List (List ℕ)) → HaveKindsAtWork s.running →
      HaveKindsAtWork (trust_step_of s what now left).state.running

-- ---- what changes of the accounts

-- the table with that hash of the account at a place, where there is one
abbrev pub set_table : Option ℕ → List ℕ → AccountTable → AccountTable
set_table None hash table = table
set_table (Some place) hash table = with_hash place hash table

-- Of the accounts a step changes counts of bad passwords and hashes alone, and nothing where it isn't taken. A call on
-- a channel whose authenticator isn't the next one leaves them. Where it is the next one, a logon, network or
-- interactive, is judged by the accounts as they stand, and leaves what the judgement does; a change of a secret leaves
-- the hash that it shows, of the account that it names, where that one is the computer's. A logoff leaves them. A call
-- at a controller that asks others leaves the accounts as it would where nobody is asked, also where it is handed on.
pub record CountsByVerdict : Type 0 where
  pub states : (s : State) (what : Event) (now : ℕ) (left : List (List ℕ)) → DifferInStates s.table (step_of s what now left).state.table
  pub given_up : (s : State) (what : Event) (now : ℕ) (left : List (List ℕ)) (why : StepRefused) →
      (step_of s what now left).answer ≡ Err why → (step_of s what now left).state.table ≡ s.table
  pub next : (c : LogonCall) (name : List ℕ) (now : ℕ) (line : Line) (d : Desk) → IsNext d.work.computers c.computer c.authenticator →
      (answer_judged (Network c) name now line d).table ≡ (judge_info d.table name now c.info c.validation).table
  -- an interactive logon, whose hash is shown under the channel's key
  pub interactive : (c : InteractiveCall) (name : List ℕ) (now : ℕ) (line : Line) (d : Desk) (next : IsNext d.work.computers c.computer c.authenticator) →
      (answer_judged (Interactive c) name now line d).table
      ≡ (judge_interactive d.table name now c.info c.validation (key_of_channel next.channel)).table
  -- a call whose authenticator isn't the next one, whatever it asks
  pub barred : (c : JudgedCall) (name : List ℕ) (now : ℕ) (line : Line) (d : Desk) →
      (IsNext d.work.computers (computer_named c) (given_in c) → ⊥) → (answer_judged c name now line d).table ≡ d.table
  -- a logoff, whether it passes or doesn't
  pub logoff : (c : InteractiveCall) (name : List ℕ) (now : ℕ) (line : Line) (d : Desk) → (answer_judged (Logoff c) name now line d).table ≡ d.table
  pub network_logoff : (c : LogoffCall) (name : List ℕ) (now : ℕ) (line : Line) (d : Desk) → (answer_judged (NetworkLogoff c) name now line d).table ≡ d.table
  -- the secret becomes what is shown under that channel's key, where the account that the call names is enabled and
  -- opens channels of that type for that computer
  pub set : (c : SetCall) (name : List ℕ) (now : ℕ) (line : Line) (d : Desk)
      (next : IsNext d.work.computers (Some c.computer) (Some c.authenticator)) →
      (answer_judged (Set c) name now line d).table
      ≡ set_table (machine_in d.table.accounts c.account c.channel c.computer) (show_of (key_of_channel next.channel) c.hidden) d.table
  pub trusting_states : (s : State) (what : Event) (now : ℕ) (left : List (List ℕ)) →
      DifferInStates s.table (trust_step_of s what now left).state.table
  pub trusting_given_up : (s : State) (what : Event) (now : ℕ) (left : List (List ℕ)) (why : StepRefused) →
      (trust_step_of s what now left).answer ≡ Err why → (trust_step_of s what now left).state.table ≡ s.table
  pub trusting_call : (c : JudgedCall) (name : List ℕ) (now : ℕ) (line : Line) (d : TrustDesk) →
      (answer_trust_call c name now line d).table ≡ (answer_judged c name now line (base_desk d)).table
