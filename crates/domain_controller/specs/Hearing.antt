-- What a unit on a link comes to at a controller, by what was said on the link before (C706 12.6.3, 12.6.4; which unit
-- closes a link, and which is answered by a fault, is this project's own choice). Neither accounts nor channels are
-- looked at.
use Rattle.std.specs.Prelude.{ℕ, ◌==◌, ◌≤◌, Bool, true, false, List, [], ◌∷◌, length, Option, Some, None, Result, Ok, Err}
use Rattle.std.specs.List.{list_any}
use Rattle.outside.specs.declared.action.CloseCause.{CloseCause}
use Rattle.outside.specs.declared.action.CloseCause.TheVariants as close
use Rattle.rpc_units.specs.declared.unit.Syntax.{Syntax}
use Rattle.rpc_units.specs.declared.unit.Unit.{Unit as RpcUnit}
use Rattle.rpc_units.specs.declared.unit.Body.{Body}
use Rattle.rpc_units.specs.declared.unit.Body.TheVariants.{Bind, Request}
use Rattle.rpc_units.specs.declared.unit.Trailer.{Trailer}
use Rattle.rpc_units.specs.declared.refused.UnitRefused.{UnitRefused}
use Rattle.rpc_units.specs.declared.refused.JoinRefused.{JoinRefused}
use Rattle.rpc_units.specs.declared.refused.JoinRefused.TheVariants as join
use Rattle.rpc_units.specs.Joining.{answer_of, open_after}
use Rattle.rpc_units.specs.Numbers.{nca_op_rng_error, nca_proto_error, rpc_x_bad_stub_data}
use Rattle.rpc_units.specs.Reading.{unit_of}
use Rattle.rpc_units.specs.Writing.{written}
use Rattle.logon_stubs.specs.declared.calls.Call.{Call}
use Rattle.logon_stubs.specs.declared.calls.Call.TheVariants as netlogon
use Rattle.logon_stubs.specs.declared.refused.StubRefused.{StubRefused}
use Rattle.logon_stubs.specs.declared.refused.StubRefused.TheVariants as refused
use Rattle.interactive_logon.specs.declared.calls.InteractiveCall.{InteractiveCall}
use Rattle.interactive_logon.specs.Calls.{interactive_of, is_logon}
use Rattle.logon_stubs.specs.Calls.{call_of}
use Rattle.end_links.specs.Agreed.{Agreed, accepts}
use Rattle.end_links.specs.Binding.{ack_of, nak_of, binding_of}
use Rattle.end_links.specs.Sending.{fault_of}
use Rattle.logon_stubs.specs.Interface.{netlogon_syntax}
use Rattle.secret_change.specs.declared.calls.SetCall.{SetCall}
use Rattle.secret_change.specs.declared.refused.SetRefused.{SetRefused}
use Rattle.secret_change.specs.Calls.{set_call_of, set_opnum}
use Rattle.controller_calls.specs.declared.calls.ControllerCall.{ControllerCall}
use Rattle.controller_calls.specs.declared.calls.ControllerCall.TheVariants as call
use Rattle.controller_calls.specs.declared.calls.JudgedCall.{JudgedCall}
use Rattle.controller_calls.specs.declared.calls.JudgedCall.TheVariants as judged_call
use Rattle.controller_calls.specs.declared.line.Line.{Line}
use Rattle.domain_controller.specs.declared.state.Talk.{Talk}
use Rattle.domain_controller.specs.declared.hearing.Heard.{Heard}
use Rattle.domain_controller.specs.declared.hearing.Heard.TheVariants as heard
pub use Rattle.controller_calls.specs.Desk.{IsLine}

-- what is said on a link at first: nothing is open, and nothing was bound
abbrev pub first_talk : Talk
first_talk = record { joiner = None; binding = None }

-- what is said on a bound link
abbrev pub bound_talk : Option RpcUnit → Agreed → Talk
bound_talk joiner agreed = record { joiner = joiner; binding = Some agreed }

-- ---- on a link that isn't bound

-- a bind is answered by a bind_ack, and the link is bound by it
abbrev pub hear_bind : ℕ → ℕ → List (ℕ × Syntax × List Syntax) → Option RpcUnit → Heard
hear_bind call receive contexts joiner =
    heard.Answer (written (ack_of netlogon_syntax call receive contexts)) (bound_talk joiner (binding_of netlogon_syntax receive contexts))

-- one with a trailer is refused
abbrev pub hear_sealed_bind : ℕ → Option RpcUnit → Heard
hear_sealed_bind call joiner = heard.Answer (written (nak_of call)) (record { joiner = joiner; binding = None })

abbrev pub hear_unbound : ℕ → ℕ → Option RpcUnit → Heard
hear_unbound call context joiner = heard.Answer (written (fault_of call context nca_proto_error)) (record { joiner = joiner; binding = None })

abbrev pub hear_fresh : Body → Option Trailer → ℕ → Option RpcUnit → Heard
hear_fresh (Bind send receive group contexts) None call joiner = hear_bind call receive contexts joiner
hear_fresh (Bind send receive group contexts) (Some trailer) call joiner = hear_sealed_bind call joiner
hear_fresh (Request hint context opnum stub) trailer call joiner = hear_unbound call context joiner
hear_fresh _ trailer call joiner = heard.Close close.OutOfPlace

-- ---- a whole call

-- the calls that are served: NetrLogonSamLogon 2, NetrLogonSamLogoff 3, NetrServerReqChallenge 4, NetrServerPasswordSet
-- 6 and NetrServerAuthenticate2 15 (MS-NRPC 3.5.4)
abbrev pub is_served : ℕ → Bool
is_served opnum = list_any (λ number. number == opnum) (2 ∷ 3 ∷ 4 ∷ 6 ∷ 15 ∷ [])

-- a call that isn't served is answered by a fault of that status
abbrev pub hear_fault : Line → ℕ → Talk → Heard
hear_fault line status talk = heard.Answer (written (fault_of line.call line.context status)) talk

-- a call of Netlogon, as it is served
abbrev pub served_call : Call → ControllerCall
served_call (netlogon.Challenge c) = call.Challenge c
served_call (netlogon.Authenticate c) = call.Authenticate c
served_call (netlogon.Logon c) = call.Judged (judged_call.Network c)
served_call (netlogon.Logoff c) = call.Judged (judged_call.NetworkLogoff c)

abbrev pub hear_netlogon : Call → Line → Talk → Heard
hear_netlogon (netlogon.Challenge c) line talk = heard.Asked line (call.Challenge c) talk
hear_netlogon (netlogon.Authenticate c) line talk = heard.Asked line (call.Authenticate c) talk
hear_netlogon (netlogon.Logon c) line talk = heard.Asked line (call.Judged (judged_call.Network c)) talk
hear_netlogon (netlogon.Logoff c) line talk = heard.Asked line (call.Judged (judged_call.NetworkLogoff c)) talk

abbrev pub interactive_by : (is_logon : Bool) → InteractiveCall → JudgedCall
interactive_by true c = judged_call.Interactive c
interactive_by false c = judged_call.Logoff c

abbrev pub hear_interactive : Result InteractiveCall StubRefused → Bool → Line → Talk → Heard
hear_interactive (Err why) logs_on line talk = hear_fault line rpc_x_bad_stub_data talk
hear_interactive (Ok c) logs_on line talk = heard.Asked line (call.Judged (interactive_by logs_on c)) talk

abbrev pub hear_arm : (is_interactive : Bool) → ℕ → List ℕ → Line → Talk → Heard
hear_arm false opnum stub line talk = hear_fault line rpc_x_bad_stub_data talk
hear_arm true opnum stub line talk = hear_interactive (interactive_of opnum stub) (is_logon opnum) line talk

-- what was refused for its arm alone may be an interactive logon
abbrev pub hear_refused : StubRefused → ℕ → List ℕ → Line → Talk → Heard
hear_refused (refused.BadArm arm) opnum stub line talk = hear_arm (arm == 1) opnum stub line talk
hear_refused _ opnum stub line talk = hear_fault line rpc_x_bad_stub_data talk

abbrev pub hear_stub : Result Call StubRefused → ℕ → List ℕ → Line → Talk → Heard
hear_stub (Err why) opnum stub line talk = hear_refused why opnum stub line talk
hear_stub (Ok c) opnum stub line talk = hear_netlogon c line talk

abbrev pub hear_set : Result SetCall SetRefused → Line → Talk → Heard
hear_set (Err why) line talk = hear_fault line rpc_x_bad_stub_data talk
hear_set (Ok c) line talk = heard.Asked line (call.Judged (judged_call.Set c)) talk

abbrev pub hear_number : (is_set : Bool) → ℕ → List ℕ → Line → Talk → Heard
hear_number false opnum stub line talk = hear_stub (call_of opnum stub) opnum stub line talk
hear_number true opnum stub line talk = hear_set (set_call_of stub) line talk

abbrev pub hear_opnum : (is_served_number : Bool) → ℕ → List ℕ → Line → Talk → Heard
hear_opnum false opnum stub line talk = hear_fault line nca_op_rng_error talk
hear_opnum true opnum stub line talk = hear_number (opnum == set_opnum) opnum stub line talk

abbrev pub hear_context : (is_accepted : Bool) → ℕ → List ℕ → Line → Talk → Heard
hear_context false opnum stub line talk = hear_fault line nca_proto_error talk
hear_context true opnum stub line talk = hear_opnum (is_served opnum) opnum stub line talk

-- A call whose fragments all came. What is joined is a request here, since `hear_bound` joins requests alone: the last
-- line says nothing.
abbrev pub hear_whole : Body → ℕ → ℕ → Agreed → Talk → Heard
hear_whole (Request hint context opnum stub) call link agreed talk =
    hear_context (accepts agreed context) opnum stub (record { link = link; call = call; context = context; limit = agreed.limit }) talk
hear_whole _ call link agreed talk = heard.Waits talk

-- ---- on a bound link

-- which cause closes a link for a fragment that is refused. `Memory` is no answer of `answer_of`, and its line says
-- nothing
abbrev pub close_for : JoinRefused → CloseCause
close_for join.OutOfPlace = close.OutOfPlace
close_for join.CallTooLong = close.TooMuchHeld
close_for join.Memory = close.TooMuchHeld

-- a fragment that was joined: what joining answers, and what is open then
abbrev pub hear_joined : Result (Option RpcUnit) JoinRefused → Option RpcUnit → ℕ → Agreed → Heard
hear_joined (Err why) after link agreed = heard.Close (close_for why)
hear_joined (Ok None) after link agreed = heard.Waits (bound_talk after agreed)
hear_joined (Ok (Some unit)) after link agreed = hear_whole unit.body unit.call link agreed (bound_talk after agreed)

abbrev pub hear_bound : Body → Option Trailer → RpcUnit → ℕ → Option RpcUnit → Agreed → Heard
hear_bound (Request hint context opnum stub) (Some trailer) unit link joiner agreed = heard.Close close.BadAuthentication
hear_bound (Request hint context opnum stub) None unit link joiner agreed =
    hear_joined (answer_of joiner unit) (open_after joiner unit) link agreed
hear_bound _ trailer unit link joiner agreed = heard.Close close.OutOfPlace

-- ---- a unit

abbrev pub hear_on : Option Agreed → RpcUnit → ℕ → Option RpcUnit → Heard
hear_on None unit link joiner = hear_fresh unit.body unit.trailer unit.call joiner
hear_on (Some agreed) unit link joiner = hear_bound unit.body unit.trailer unit link joiner agreed

abbrev pub hear_read : Result RpcUnit UnitRefused → ℕ → Talk → Heard
hear_read (Err why) link talk = heard.Close close.BadUnit
hear_read (Ok unit) link talk = hear_on talk.binding unit link talk.joiner

-- the bytes of a unit
abbrev pub hear : ℕ → List ℕ → Talk → Heard
hear link bytes talk = hear_read (unit_of bytes) link talk

-- ---- what is heard can be answered

-- a call that is heard is on a line that can be answered, and bytes that are sent are one unit of at most 5,840
abbrev pub CanAnswer : Heard → Type 0
CanAnswer (heard.Asked line call talk) = IsLine line
CanAnswer (heard.Close cause) = Unit {0}
CanAnswer (heard.Answer bytes talk) = length bytes ≤ 5840
CanAnswer (heard.Waits talk) = Unit {0}
