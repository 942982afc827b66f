-- What stands in front of bytes is what is heard of them: of a request's frames, whatever their size, a whole unit has
-- the request's number and its opnum; and of a reply's frames it is no call. It serves `marked_units_are_whole`.
use Rattle.std.proofs.Common.{◌≡◌, ℕ, zero, suc, ◌<◌, ◌^◌, Bool, true, false, List, [], ◌∷◌, ◌++◌, drop, take, length, map, nat_le, Some, None, refl, sym, ap, subst, ◌∙◌, if◌then◌else◌}
use Rattle.std.specs.Int.{w16, w32}
use Rattle.std.specs.List.{AllByRecursion, flat_map}
use Rattle.std.proofs.lemmas.List.{append_assoc}
use Rattle.std.proofs.lemmas.Nat.{from_le_bytes-to_le_bytes_2, from_le_bytes-to_le_bytes_4}
use Rattle.wire_base.specs.Numbers.{AreBytes}
use Rattle.rpc_units.specs.declared.unit.Body.{Body}
use Rattle.rpc_units.specs.declared.unit.Body.TheVariants.{Bind, BindAck, BindNak, Auth3, Request, Response, Fault}
use Rattle.rpc_units.specs.declared.unit.Unit.{Unit as RpcUnit}
use Rattle.rpc_units.specs.Calls.{IsHeard, bytes_of_call}
use Rattle.rpc_units.specs.Joining.{IsJoined, cut_of, fragment, fragments_of, stub_of, stub_size, stubs_of, with_stub}
use Rattle.rpc_units.specs.Layout.{byte, kind_by, type_by, value_at}
use Rattle.rpc_units.specs.Stream.{Cut}
use Rattle.rpc_units.specs.Writing.{HasNumbers, IsInRange, written, written_start}
use Rattle.rpc_units.proofs.CutStreamLaws.{cut_is_stream}
use Rattle.rpc_units.proofs.JoiningLaws.{IsJoined-AddsTo}
use Rattle.rpc_units.proofs.RangeLaws.{read_fits}
use Rattle.controller_calls.specs.declared.calls.ControllerCall.{ControllerCall}
use Rattle.controller_calls.specs.declared.calls.JudgedCall.{JudgedCall}
use Rattle.step_notes.proofs.Controllers.ReadCallLaws.{opening_unjudged}
use Rattle.controller_calls.specs.declared.calls.ControllerCall.TheVariants as call
use Rattle.end_links.specs.Sending.{frames_of, joined_frames, request_of, response_of}
use Rattle.end_links.proofs.BoundLaws.{frames_joined}
use Rattle.end_links.proofs.WholeLaws.{cut_bytes}
use Rattle.step_notes.specs.HeardWhole.{call_carried}
use Rattle.domain_world.proofs.Acceptance.Heard.HeardUnitLaws.{AreReadAs, first_read}

-- ---- the first frame

-- a unit stands in front of the bytes, with the number of the whole one, and a body of its kind, context and opnum
pub record HasFront (bytes : List ℕ) (unit : RpcUnit) : Type 0 where
  pub first : RpcUnit
  pub rest : List ℕ
  pub is : bytes ≡ written first ++ rest
  pub range : IsInRange first
  pub call : unit.call ≡ first.call
  pub stub : List ℕ
  pub body : unit.body ≡ with_stub first.body stub

front_by : (bytes : List ℕ) (frames : List RpcUnit) (unit : RpcUnit) → bytes ≡ flat_map (λ (one : List ℕ). one) (map written frames) ++ [] → AllByRecursion AreBytes (map written frames) →
    AreReadAs frames → IsJoined frames unit → HasFront bytes unit
front_by bytes [] unit is all read joined = absurd joined
front_by bytes (f ∷ frames) unit is all read joined = record {
  first = f;
  rest = flat_map (λ (one : List ℕ). one) (map written frames) ++ [];
  is = is ∙ append_assoc (written f) (flat_map (λ (one : List ℕ). one) (map written frames)) [];
  range = (read_fits (written f) f all.0 (first_read f frames read)).1;
  call = ap (λ (u : RpcUnit). u.call) joined.2;
  stub = stub_of f.body ++ stubs_of frames;
  body = ap (λ (u : RpcUnit). u.body) joined.2;
}

pub heard_front : (bytes : List ℕ) (frames : List RpcUnit) (unit : RpcUnit) → AreBytes bytes → IsHeard bytes frames unit → HasFront bytes unit
heard_front bytes frames unit are heard =
    front_by bytes frames unit
    ((cut_is_stream bytes).whole ∙ ap (λ (c : Cut). flat_map (λ (one : List ℕ). one) c.units ++ c.rest) heard.stream)
    (subst (λ (c : Cut). AllByRecursion AreBytes c.units) heard.stream (cut_bytes bytes are).0) heard.read (IsJoined-AddsTo frames unit heard.joined)

-- ---- the numbers in front of what is written

number_in_front : (f : RpcUnit) (more : List ℕ) → f.call < 2 ^ 32 → value_at w32 (written f ++ more) 12 ≡ f.call
unfolding written written_start value_at
number_in_front f more below = from_le_bytes-to_le_bytes_4 f.call below

kind_in_front : (f : RpcUnit) (more : List ℕ) → byte (written f ++ more) 2 ≡ type_by (kind_by f.body)
unfolding written written_start
kind_in_front f more = refl

opnum_in_front : (f : RpcUnit) (more : List ℕ) (hint context opnum : ℕ) (stub : List ℕ) → f.body ≡ Request hint context opnum stub → opnum < 2 ^ 16 → value_at w16 (written f ++ more) 22 ≡ opnum
unfolding written written_start value_at
opnum_in_front f more hint context opnum stub is below =
    ap (λ (b : Body). value_at w16 (written (record f { body = b }) ++ more) 22) is ∙ from_le_bytes-to_le_bytes_2 opnum below

-- ---- the frames of a request

pub record StartsAs (whole : RpcUnit) (bytes : List ℕ) : Type 0 where
  pub last : Bool
  pub stub : List ℕ
  pub rest : List ℕ
  pub is : bytes ≡ written (fragment whole true last stub) ++ rest

starts_if : (fits : Bool) (whole : RpcUnit) (one other : List ℕ) (more : List RpcUnit) →
    StartsAs whole (flat_map written (if fits then fragment whole true true one ∷ [] else fragment whole true false other ∷ more))
starts_if true whole one other more = record { last = true; stub = one; rest = []; is = refl }
starts_if false whole one other more = record { last = false; stub = other; rest = flat_map written more; is = refl }

starts_as : (most size : ℕ) (whole : RpcUnit) (stub : List ℕ) → StartsAs whole (flat_map written (fragments_of most whole size true stub))
starts_as zero size whole stub = record { last = true; stub = stub; rest = []; is = refl }
starts_as (suc most) size whole stub = starts_if (nat_le (length stub) size) whole stub (take size stub) (fragments_of most whole size false (drop size stub))

cut_starts : (whole : RpcUnit) (limit : ℕ) → StartsAs whole (bytes_of_call whole limit)
unfolding cut_of
cut_starts whole limit = starts_as (length (stub_of whole.body)) (stub_size limit) whole (stub_of whole.body)

frames_start : (whole : RpcUnit) (limit : ℕ) → StartsAs whole (joined_frames (frames_of whole limit))
frames_start whole limit = subst (λ (bytes : List ℕ). StartsAs whole bytes) (sym (frames_joined whole limit)) (cut_starts whole limit)

-- a request by its opnum
pub record IsRequestBody (opnum : ℕ) (b : Body) : Type 0 where
  pub hint : ℕ
  pub context : ℕ
  pub stub : List ℕ
  pub is : b ≡ Request hint context opnum stub

request_by : (b first : Body) (stub : List ℕ) (opnum : ℕ) → b ≡ with_stub first stub → type_by (kind_by first) ≡ 0 →
    ((hint context other : ℕ) (old : List ℕ) → first ≡ Request hint context other old → other ≡ opnum) → IsRequestBody opnum b
request_by b (Request hint context other old) stub opnum is kind so =
    record { hint = hint; context = context; stub = stub; is = is ∙ ap (λ (n : ℕ). Request hint context n stub) (so hint context other old refl) }
request_by b (Response hint context old) stub opnum is kind so = absurd (let never = kind in cc)
request_by b (Bind send receive group contexts) stub opnum is kind so = absurd (let never = kind in cc)
request_by b (BindAck send receive group results) stub opnum is kind so = absurd (let never = kind in cc)
request_by b (BindNak reason) stub opnum is kind so = absurd (let never = kind in cc)
request_by b Auth3 stub opnum is kind so = absurd (let never = kind in cc)
request_by b (Fault hint context status) stub opnum is kind so = absurd (let never = kind in cc)

request_range : (b : Body) (hint context opnum : ℕ) (stub : List ℕ) → b ≡ Request hint context opnum stub → (first : RpcUnit) → first.body ≡ b → IsInRange first → opnum < 2 ^ 16
request_range b hint context opnum stub is first same range =
    (subst (λ (one : Body). HasNumbers one) (same ∙ is) range.body).2

-- what a whole unit is that such frames are
pub record IsOfRequest (number opnum : ℕ) (unit : RpcUnit) : Type 0 where
  pub number_is : unit.call ≡ number
  pub body : IsRequestBody opnum unit.body

pub of_request : (number opnum limit : ℕ) (stub bytes : List ℕ) (frames : List RpcUnit) (unit : RpcUnit) → number < 2 ^ 32 → opnum < 2 ^ 16 → AreBytes bytes →
    bytes ≡ joined_frames (frames_of (request_of number 0 opnum stub) limit) → IsHeard bytes frames unit → IsOfRequest number opnum unit
of_request number opnum limit stub bytes frames unit small known are is heard =
    let front : HasFront bytes unit = heard_front bytes frames unit are heard in
    let starts : StartsAs (request_of number 0 opnum stub) (joined_frames (frames_of (request_of number 0 opnum stub) limit)) = frames_start (request_of number 0 opnum stub) limit in
    let own : RpcUnit = fragment (request_of number 0 opnum stub) true starts.last starts.stub in
    let same : written front.first ++ front.rest ≡ written own ++ starts.rest = sym front.is ∙ is ∙ starts.is in
    record {
      number_is = front.call ∙ sym (number_in_front front.first front.rest front.range.call) ∙ ap (λ (all : List ℕ). value_at w32 all 12) same ∙ number_in_front own starts.rest small;
      body = request_by unit.body front.first.body front.stub opnum front.body
          (sym (kind_in_front front.first front.rest) ∙ ap (λ (all : List ℕ). byte all 2) same ∙ kind_in_front own starts.rest)
          (λ hint context other old there.
          sym (opnum_in_front front.first front.rest hint context other old there (request_range front.first.body hint context other old there front.first refl front.range))
          ∙ ap (λ (all : List ℕ). value_at w16 all 22) same
          ∙ opnum_in_front own starts.rest (length stub) 0 opnum starts.stub refl known);
    }

-- ---- what it carries

-- a request that opens a channel carries no call on one
pub opens_no_logon : (unit : RpcUnit) (asked : JudgedCall) → AreBytes (stub_of unit.body) → IsRequestBody 15 unit.body → call_carried unit.body ≡ Some (call.Judged asked) → ⊥
opens_no_logon unit asked are body carries =
    opening_unjudged body.stub asked (subst AreBytes (ap stub_of body.is) are) (sym (ap call_carried body.is) ∙ carries)

-- a reply doesn't carry any call
pub reply_no_call : (unit : RpcUnit) (number context : ℕ) (stub : List ℕ) (c : ControllerCall) → unit ≡ response_of number context stub → call_carried unit.body ≡ Some c → ⊥
reply_no_call unit number context stub c is carries =
    let never : None ≡ Some c = sym (ap (λ (u : RpcUnit). call_carried u.body) is) ∙ carries in cc
