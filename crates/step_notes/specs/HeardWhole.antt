-- What each end hears in bytes that are those of one whole unit, in one fragment or more, on a link on which nothing is
-- open (C706 12.6.2).
use Rattle.std.specs.Prelude.{ℕ, ◌≡◌, ◌==◌, Bool, true, false, List, [], Option, Some, None, Result, Ok, Err}
use Rattle.std.specs.List.{AllByRecursion}
use Rattle.rpc_units.specs.Calls.{IsHeard}
use Rattle.rpc_units.specs.declared.unit.Body.{Body}
use Rattle.rpc_units.specs.declared.unit.Body.TheVariants.{Request}
use Rattle.rpc_units.specs.declared.unit.Unit.{Unit as RpcUnit}
use Rattle.rpc_units.specs.Stream.{cut_stream}
use Rattle.end_links.specs.Serving.{ServedPart, served_cut, ServedUnit, served_units}
use Rattle.logon_stubs.specs.declared.calls.Call.{Call}
use Rattle.logon_stubs.specs.declared.refused.StubRefused.{StubRefused}
use Rattle.logon_stubs.specs.declared.refused.StubRefused.TheVariants as refused
use Rattle.interactive_logon.specs.declared.calls.InteractiveCall.{InteractiveCall}
use Rattle.interactive_logon.specs.Calls.{interactive_of, is_logon}
use Rattle.secret_change.specs.declared.calls.SetCall.{SetCall}
use Rattle.secret_change.specs.declared.refused.SetRefused.{SetRefused}
use Rattle.secret_change.specs.Calls.{set_call_of, set_opnum}
use Rattle.controller_calls.specs.declared.calls.ControllerCall.{ControllerCall}
use Rattle.controller_calls.specs.declared.calls.ControllerCall.TheVariants as call
use Rattle.controller_calls.specs.declared.calls.JudgedCall.TheVariants as judged_call
use Rattle.logon_stubs.specs.Calls.{call_of}
use Rattle.domain_controller.specs.Hearing.{hear, interactive_by, served_call}
use Rattle.domain_controller.specs.Machine.{Desk, controller_server}
use Rattle.domain_controller.specs.declared.hearing.Heard.{Heard}
use Rattle.domain_controller.specs.declared.hearing.Heard.TheVariants as heard
use Rattle.domain_controller.specs.declared.state.Talk.{Talk}

-- ---- the call that a whole unit carries, if it does

abbrev pub interactive_read : Result InteractiveCall StubRefused → Bool → Option ControllerCall
interactive_read (Err why) logs_on = None
interactive_read (Ok c) logs_on = Some (call.Judged (interactive_by logs_on c))

abbrev pub arm_read : (is_interactive : Bool) → ℕ → List ℕ → Option ControllerCall
arm_read false opnum stub = None
arm_read true opnum stub = interactive_read (interactive_of opnum stub) (is_logon opnum)

-- what is no other call for its tag alone may be an interactive logon, or its logoff
abbrev pub refused_read : StubRefused → ℕ → List ℕ → Option ControllerCall
refused_read (refused.BadArm arm) opnum stub = arm_read (arm == 1) opnum stub
refused_read _ opnum stub = None

abbrev pub call_read : Result Call StubRefused → ℕ → List ℕ → Option ControllerCall
call_read (Err why) opnum stub = refused_read why opnum stub
call_read (Ok c) opnum stub = Some (served_call c)

abbrev pub set_read : Result SetCall SetRefused → Option ControllerCall
set_read (Err why) = None
set_read (Ok c) = Some (call.Judged (judged_call.Set c))

abbrev pub number_read : (is_set : Bool) → ℕ → List ℕ → Option ControllerCall
number_read false opnum stub = call_read (call_of opnum stub) opnum stub
number_read true opnum stub = set_read (set_call_of stub)

abbrev pub request_read : ℕ → List ℕ → Option ControllerCall
request_read opnum stub = number_read (opnum == set_opnum) opnum stub

abbrev pub call_carried : Body → Option ControllerCall
call_carried (Request hint context opnum stub) = request_read opnum stub
call_carried _ = None

-- a call that is heard is the one of that unit, with its number
abbrev pub IsCallOf : RpcUnit → Heard → Type 0
IsCallOf unit (heard.Asked line c talk) = (line.call ≡ unit.call) × (call_carried unit.body ≡ Some c)
IsCallOf unit (heard.Close cause) = Unit {0}
IsCallOf unit (heard.Answer bytes talk) = Unit {0}
IsCallOf unit (heard.Waits talk) = Unit {0}

-- nothing is open on the link then, where it stays open
abbrev pub NothingOpen : Option Talk → Type 0
NothingOpen None = Unit {0}
NothingOpen (Some talk) = talk.joiner ≡ None

abbrev pub LeavesNothingOpen : ServedPart Desk Talk → Type 0
LeavesNothingOpen (Err why) = Unit {0}
LeavesNothingOpen (Ok part) = NothingOpen part.value.1

-- At a controller: each call that is heard of such bytes is that of the whole unit, and afterwards nothing is open
-- again, and no bytes are left.
pub record ControllersHearWhole : Type 0 where
  pub calls : (name : List ℕ) (now link : ℕ) (bytes : List ℕ) (frames : List RpcUnit) (unit : RpcUnit) (d : Desk) (talk : Talk) (left : List (List ℕ)) →
      IsHeard bytes frames unit → talk.joiner ≡ None →
      AllByRecursion (λ (served : ServedUnit Desk Talk). IsCallOf unit (hear link served.bytes served.talk))
      (served_units (controller_server name now link) (cut_stream bytes).units d talk left)
  pub after : (name : List ℕ) (now link : ℕ) (bytes : List ℕ) (frames : List RpcUnit) (unit : RpcUnit) (d : Desk) (talk : Talk) (left : List (List ℕ)) →
      IsHeard bytes frames unit → talk.joiner ≡ None →
      LeavesNothingOpen (served_cut (controller_server name now link) (cut_stream bytes) d talk left)
  pub rest : (bytes : List ℕ) (frames : List RpcUnit) (unit : RpcUnit) → IsHeard bytes frames unit → (cut_stream bytes).rest ≡ []
