-- What is known of the whole unit that bytes are: its stub has bytes, and the level that a Logon call asks for has 16
-- bits. It serves `calls_are_judged_as_carried`, `replies_are_read_back` and `marked_units_are_whole`.
use Rattle.std.proofs.Common.{◌≡◌, ◌==◌, ℕ, ◌-◌, ◌<◌, ◌^◌, List, [], ◌∷◌, ◌++◌, drop, map, Some, Result, Ok, sym, subst}
use Rattle.std.specs.List.{AllByRecursion}
use Rattle.wire_base.specs.Numbers.{AreBytes}
use Rattle.wire_base.proofs.NumberLaws.{AreBytes-append, AreBytes-drop, AreBytes-nil, AreBytes-take}
use Rattle.rpc_units.specs.declared.kind.Kind.{Kind}
use Rattle.rpc_units.specs.declared.refused.UnitRefused.{UnitRefused}
use Rattle.rpc_units.specs.declared.unit.Body.{Body}
use Rattle.rpc_units.specs.declared.unit.Body.TheVariants.{Bind, BindAck, BindNak, Auth3, Request, Response, Fault}
use Rattle.rpc_units.specs.declared.unit.Unit.{Unit as RpcUnit}
use Rattle.rpc_units.specs.Calls.{IsHeard}
use Rattle.rpc_units.specs.Grammar.{IsBody, IsUnit}
use Rattle.rpc_units.specs.Joining.{IsJoined, stub_of, stubs_of, with_stub}
use Rattle.rpc_units.specs.Layout.{body_bytes}
use Rattle.rpc_units.specs.Reading.{unit_of}
use Rattle.rpc_units.specs.Stream.{Cut}
use Rattle.rpc_units.specs.Writing.{written}
use Rattle.rpc_units.proofs.GrammarLaws.{IsUnit-unit_of}
use Rattle.rpc_units.proofs.JoiningLaws.{IsJoined-AddsTo}
use Rattle.logon_stubs.specs.declared.calls.Call.TheVariants as netlogon
use Rattle.controller_calls.specs.declared.calls.ControllerCall.TheVariants as call
use Rattle.controller_calls.specs.declared.calls.JudgedCall.TheVariants.{Network}
use Rattle.secret_change.specs.Calls.{set_opnum}
use Rattle.logon_stubs.specs.declared.calls.LogonCall.{LogonCall}
use Rattle.logon_stubs.proofs.GivenLaws.{call_of-InRange}
use Rattle.end_links.proofs.WholeLaws.{cut_bytes}
use Rattle.step_notes.specs.HeardWhole.{call_carried}
use Rattle.step_notes.proofs.Controllers.ReadCallLaws.{network_read}

-- ---- the stub of a whole unit has bytes

body_stub : (b : Body) (k : Kind) (body : List ℕ) → AreBytes body → IsBody b k body → AreBytes (stub_of b)
body_stub (Request hint context opnum stub) k body are is = subst AreBytes (sym is.1.stub_from) (AreBytes-drop 8 body are)
body_stub (Response hint context stub) k body are is = subst AreBytes (sym is.1.stub_from) (AreBytes-drop 8 body are)
body_stub (Bind send receive group contexts) k body are is = AreBytes-nil
body_stub (BindAck send receive group results) k body are is = AreBytes-nil
body_stub (BindNak reason) k body are is = AreBytes-nil
body_stub Auth3 k body are is = AreBytes-nil
body_stub (Fault hint context status) k body are is = AreBytes-nil

unit_stub : (bytes : List ℕ) (unit : RpcUnit) → AreBytes bytes → IsUnit bytes unit → AreBytes (stub_of unit.body)
unit_stub bytes unit are is = body_stub unit.body is.k (body_bytes is.end bytes) (AreBytes-take (is.end - 16) (drop 16 bytes) (AreBytes-drop 16 bytes are)) is.body

abbrev pub read_ok : RpcUnit → Result RpcUnit UnitRefused
read_ok unit = Ok unit

abbrev pub AreReadAs : List RpcUnit → Type 0
AreReadAs frames = map unit_of (map written frames) ≡ map read_ok frames

pub first_read : (f : RpcUnit) (frames : List RpcUnit) → AreReadAs (f ∷ frames) → unit_of (written f) ≡ Ok f
first_read f frames read = cc

later_read : (f : RpcUnit) (frames : List RpcUnit) → AreReadAs (f ∷ frames) → AreReadAs frames
later_read f frames read = cc

frames_stub : (frames : List RpcUnit) → AllByRecursion AreBytes (map written frames) → AreReadAs frames → AreBytes (stubs_of frames)
frames_stub [] all read = AreBytes-nil
frames_stub (f ∷ frames) all read =
    AreBytes-append (stub_of f.body) (stubs_of frames) (unit_stub (written f) f all.0 (IsUnit-unit_of (written f) f (first_read f frames read)))
    (frames_stub frames all.1 (later_read f frames read))

stub_with : (b : Body) (stub : List ℕ) → AreBytes stub → AreBytes (stub_of (with_stub b stub))
stub_with (Request hint context opnum old) stub are = are
stub_with (Response hint context old) stub are = are
stub_with (Bind send receive group contexts) stub are = AreBytes-nil
stub_with (BindAck send receive group results) stub are = AreBytes-nil
stub_with (BindNak reason) stub are = AreBytes-nil
stub_with Auth3 stub are = AreBytes-nil
stub_with (Fault hint context status) stub are = AreBytes-nil

joined_stub : (frames : List RpcUnit) (unit : RpcUnit) → AllByRecursion AreBytes (map written frames) → AreReadAs frames → IsJoined frames unit → AreBytes (stub_of unit.body)
joined_stub [] unit all read joined = absurd joined
joined_stub (f ∷ frames) unit all read joined =
    subst (λ (u : RpcUnit). AreBytes (stub_of u.body)) (sym joined.2) (stub_with f.body (stub_of f.body ++ stubs_of frames) (frames_stub (f ∷ frames) all read))

pub heard_stub : (bytes : List ℕ) (frames : List RpcUnit) (unit : RpcUnit) → AreBytes bytes → IsHeard bytes frames unit → AreBytes (stub_of unit.body)
heard_stub bytes frames unit are heard =
    joined_stub frames unit (subst (λ (c : Cut). AllByRecursion AreBytes c.units) heard.stream (cut_bytes bytes are).0) heard.read (IsJoined-AddsTo frames unit heard.joined)

-- ---- the level that a Logon call asks for

carried_level : (b : Body) (c : LogonCall) → AreBytes (stub_of b) → call_carried b ≡ Some (call.Judged (Network c)) → c.validation < 2 ^ 16
carried_level (Request hint context opnum stub) c are is = (call_of-InRange opnum stub (netlogon.Logon c) are (network_read (opnum == set_opnum) opnum stub c is)).validation
carried_level (Response hint context stub) c are is = absurd (let never = is in cc)
carried_level (Bind send receive group contexts) c are is = absurd (let never = is in cc)
carried_level (BindAck send receive group results) c are is = absurd (let never = is in cc)
carried_level (BindNak reason) c are is = absurd (let never = is in cc)
carried_level Auth3 c are is = absurd (let never = is in cc)
carried_level (Fault hint context status) c are is = absurd (let never = is in cc)

-- the validation level of a call that came in bytes has 16 bits
pub heard_level : (bytes : List ℕ) (frames : List RpcUnit) (unit : RpcUnit) (c : LogonCall) → AreBytes bytes → IsHeard bytes frames unit →
    call_carried unit.body ≡ Some (call.Judged (Network c)) → c.validation < 2 ^ 16
heard_level bytes frames unit c are heard is = carried_level unit.body c (heard_stub bytes frames unit are heard) is
