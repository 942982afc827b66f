-- Which calls a whole request carries, by its number.
-- It serves `controllers_hear_whole`, and laws of runs.
use Rattle.std.proofs.Common.{◌≡◌, ◌==◌, ℕ, Bool, true, false, List, Some, Result, Ok, Err, refl, arith}
use Rattle.wire_base.specs.Numbers.{AreBytes}
use Rattle.logon_stubs.specs.Calls.{IsCall, call_of}
use Rattle.logon_stubs.specs.declared.calls.Call.{Call}
use Rattle.logon_stubs.specs.declared.calls.Call.TheVariants as netlogon
use Rattle.logon_stubs.specs.declared.calls.LogonCall.{LogonCall}
use Rattle.logon_stubs.specs.declared.refused.StubRefused.{StubRefused}
use Rattle.logon_stubs.specs.declared.refused.StubRefused.TheVariants as refused
use Rattle.logon_stubs.proofs.CallLaws.{call_of-IsCall}
use Rattle.interactive_logon.specs.declared.calls.InteractiveCall.{InteractiveCall}
use Rattle.interactive_logon.specs.Calls.{interactive_of, is_logon}
use Rattle.interactive_logon.proofs.CallLaws.{number_of-Ok}
use Rattle.secret_change.specs.declared.calls.SetCall.{SetCall}
use Rattle.secret_change.specs.declared.refused.SetRefused.{SetRefused}
use Rattle.secret_change.specs.Calls.{set_call_of}
use Rattle.controller_calls.specs.declared.calls.ControllerCall.TheVariants as call
use Rattle.controller_calls.specs.declared.calls.JudgedCall.{JudgedCall}
use Rattle.controller_calls.specs.declared.calls.JudgedCall.TheVariants.{Network}
use Rattle.step_notes.specs.HeardWhole.{arm_read, call_read, interactive_read, number_read, refused_read, set_read}

-- ---- a network logon

interactive_other : (read : Result InteractiveCall StubRefused) (logs_on : Bool) (c : LogonCall) → interactive_read read logs_on ≡ Some (call.Judged (Network c)) → ⊥
interactive_other (Err why) logs_on c is = absurd cc
interactive_other (Ok value) true c is = absurd cc
interactive_other (Ok value) false c is = absurd cc

arm_other : (is_interactive : Bool) (opnum : ℕ) (stub : List ℕ) (c : LogonCall) → arm_read is_interactive opnum stub ≡ Some (call.Judged (Network c)) → ⊥
arm_other false opnum stub c is = absurd cc
arm_other true opnum stub c is = interactive_other (interactive_of opnum stub) (is_logon opnum) c is

refused_other : (why : StubRefused) (opnum : ℕ) (stub : List ℕ) (c : LogonCall) → refused_read why opnum stub ≡ Some (call.Judged (Network c)) → ⊥
refused_other (refused.BadArm arm) opnum stub c is = arm_other (arm == 1) opnum stub c is
refused_other (refused.NoSuchCall other) opnum stub c is = absurd cc
refused_other (refused.BadStub place) opnum stub c is = absurd cc
refused_other refused.Memory opnum stub c is = absurd cc

call_network : (read : Result Call StubRefused) (opnum : ℕ) (stub : List ℕ) (c : LogonCall) → call_read read opnum stub ≡ Some (call.Judged (Network c)) → read ≡ Ok (netlogon.Logon c)
call_network (Err why) opnum stub c is = absurd (refused_other why opnum stub c is)
call_network (Ok (netlogon.Challenge value)) opnum stub c is = absurd cc
call_network (Ok (netlogon.Authenticate value)) opnum stub c is = absurd cc
call_network (Ok (netlogon.Logon value)) opnum stub c is = cc
call_network (Ok (netlogon.Logoff value)) opnum stub c is = absurd cc

set_other : (read : Result SetCall SetRefused) (c : LogonCall) → set_read read ≡ Some (call.Judged (Network c)) → ⊥
set_other (Err why) c is = absurd cc
set_other (Ok value) c is = absurd cc

-- what carries one is read as it
pub network_read : (is_set : Bool) (opnum : ℕ) (stub : List ℕ) (c : LogonCall) → number_read is_set opnum stub ≡ Some (call.Judged (Network c)) → call_of opnum stub ≡ Ok (netlogon.Logon c)
network_read false opnum stub c is = call_network (call_of opnum stub) opnum stub c is
network_read true opnum stub c is = absurd (set_other (set_call_of stub) c is)

-- ---- NetrServerAuthenticate2 has the number 15, of which no call on a secure channel is

none_interactive : (read : Result InteractiveCall StubRefused) (stub : List ℕ) (logs_on : Bool) (asked : JudgedCall) → interactive_of 15 stub ≡ read → interactive_read read logs_on ≡ Some (call.Judged asked) → ⊥
none_interactive (Err why) stub logs_on asked reads is = absurd cc
none_interactive (Ok value) stub logs_on asked reads is = absurd (let never : false ≡ true = number_of-Ok 15 stub value reads in cc)

none_arm : (is_interactive : Bool) (stub : List ℕ) (asked : JudgedCall) → arm_read is_interactive 15 stub ≡ Some (call.Judged asked) → ⊥
none_arm false stub asked is = absurd cc
none_arm true stub asked is = none_interactive (interactive_of 15 stub) stub (is_logon 15) asked refl is

none_refused : (why : StubRefused) (stub : List ℕ) (asked : JudgedCall) → refused_read why 15 stub ≡ Some (call.Judged asked) → ⊥
none_refused (refused.BadArm arm) stub asked is = none_arm (arm == 1) stub asked is
none_refused (refused.NoSuchCall other) stub asked is = absurd cc
none_refused (refused.BadStub place) stub asked is = absurd cc
none_refused refused.Memory stub asked is = absurd cc

none_read : (read : Result Call StubRefused) (stub : List ℕ) (asked : JudgedCall) → AreBytes stub → call_of 15 stub ≡ read → call_read read 15 stub ≡ Some (call.Judged asked) → ⊥
unfolding IsCall
none_read (Err why) stub asked are reads is = none_refused why stub asked is
none_read (Ok (netlogon.Challenge value)) stub asked are reads is = absurd cc
none_read (Ok (netlogon.Authenticate value)) stub asked are reads is = absurd cc
none_read (Ok (netlogon.Logon value)) stub asked are reads is = let never : 15 ≡ 2 = (call_of-IsCall 15 stub (netlogon.Logon value) are reads).0 in omega (arith, never)
none_read (Ok (netlogon.Logoff value)) stub asked are reads is = let never : 15 ≡ 3 = (call_of-IsCall 15 stub (netlogon.Logoff value) are reads).0 in omega (arith, never)

pub opening_unjudged : (stub : List ℕ) (asked : JudgedCall) → AreBytes stub → number_read false 15 stub ≡ Some (call.Judged asked) → ⊥
opening_unjudged stub asked are is = none_read (call_of 15 stub) stub asked are refl is
