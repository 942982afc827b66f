-- What becomes of a unit whose sealed range, or whose authentication value, is replaced.
use Rattle.std.proofs.Common.{◌≡◌, ◌≢◌, ℕ, ◌+◌, ◌-◌, ◌<◌, ◌≤◌, eqb, not, List, [], ◌∷◌, ◌++◌, length, take, drop, Option, Some, None, Result, Ok, Err, refl, sym, ap, subst, ◌∙◌, arith, append_assoc}
use Rattle.std.specs.Int.{Width, w16, w32, byte_len, from_le_bytes, to_le_bytes}
use Rattle.std.specs.Prelude.{bit_and, option_map, IfSome}
use Rattle.std.proofs.lemmas.List.{length-append, length-take, length-drop, take-append-drop, take_at, take-append-le, drop-append-le, drop_at, drop-drop, get_or_append_left, get_or-drop, take-take, drop-take, drop_all, append-nil}
use borrow.Rule.Slice.PartMut.{put_mid}
use Rattle.std.proofs.Math.Seq.{take-append-add}
use Rattle.rpc_units.specs.declared.kind.Kind.{Kind}
use Rattle.rpc_units.specs.declared.kind.Kind.TheVariants as kind
use Rattle.rpc_units.specs.declared.unit.Trailer.{Trailer}
use Rattle.rpc_units.specs.declared.unit.Unit.{Unit as RpcUnit}
use Rattle.rpc_units.specs.declared.unit.Body.{Body}
use Rattle.rpc_units.specs.declared.unit.Body.TheVariants.{Bind, BindAck, BindNak, Auth3, Request, Response, Fault}
use Rattle.rpc_units.specs.declared.refused.UnitRefused.{UnitRefused}
use Rattle.rpc_units.specs.Layout.{value_at, byte, has_flags, kind_of, authentication_of, shortest, trailer_place, body_bytes}
use Rattle.rpc_units.specs.Reading.{unit_of}
use Rattle.rpc_units.specs.Grammar.{IsBody, IsTrailer, IsEnd, IsUnit}
use Rattle.rpc_units.specs.Writing.{zeros, pad_for, written_body, written_start, written_header, written_rest, written, IsWritable, IsInRange}
use Rattle.rpc_units.specs.Joining.{HasStub, stub_of, with_stub}
use Rattle.rpc_units.specs.Sealing.{range_in, range_by, sealed_of}
use Rattle.rpc_units.specs.Sealed.{range_replaced, value_replaced, unit_with_stub, trailer_with_value, unit_with_value, IsSealedRange}
use Rattle.rpc_units.proofs.GrammarLaws.{IsUnit-unit_of, unit_of-IsUnit}
use Rattle.rpc_units.proofs.WritingLaws.{unit_of-written}

-- ---- bytes that have the same front

byte_front : (front a b : List ℕ) (i : ℕ) → i < length front → byte (front ++ a) i ≡ byte (front ++ b) i
byte_front front a b i inside = get_or_append_left front a 0 i inside ∙ sym (get_or_append_left front b 0 i inside)

value_of_front : (w : Width) (front a : List ℕ) (place : ℕ) → place + byte_len w ≤ length front → value_at w (front ++ a) place ≡ value_at w front place
unfolding value_at
value_of_front w front a place inside =
    ap (λ x. from_le_bytes w (take (byte_len w) x)) (drop-append-le place front a (omega arith))
    ∙ ap (from_le_bytes w) (take-append-le (byte_len w) (drop place front) a (omega (arith, length-drop place front)))

value_front : (w : Width) (front a b : List ℕ) (place : ℕ) → place + byte_len w ≤ length front → value_at w (front ++ a) place ≡ value_at w (front ++ b) place
value_front w front a b place inside = value_of_front w front a place inside ∙ sym (value_of_front w front b place inside)

flags_same : (k : Kind) (a b : List ℕ) → byte a 3 ≡ byte b 3 → has_flags k a ≡ has_flags k b
flags_same kind.Request a b e = rw e refl
flags_same kind.Response a b e = refl
flags_same kind.Fault a b e = rw e refl
flags_same kind.Bind a b e = rw e refl
flags_same kind.BindAck a b e = rw e refl
flags_same kind.BindNak a b e = rw e refl
flags_same kind.Auth3 a b e = rw e refl

-- bytes with the header of a unit are one, where they have its length, and the end of their body and their body are
-- known
same_header : (bytes front a b : List ℕ) (unit other : RpcUnit) (is : IsUnit bytes unit) → bytes ≡ front ++ a → 16 ≤ length front → length b ≡ length a → other.first ≡ unit.first → other.last ≡ unit.last → other.call ≡ unit.call → IsEnd other.trailer (front ++ b) is.k is.end → IsBody other.body is.k (body_bytes is.end (front ++ b)) → IsUnit (front ++ b) other
same_header bytes front a b unit other is bytes-is long size first last call end body =
    let here : (i : ℕ) → i < length front → byte (front ++ b) i ≡ byte bytes i = λ i inside. byte_front front b a i inside ∙ ap (λ (x : List ℕ). byte x i) (sym bytes-is) in
    let all : length (front ++ b) ≡ length bytes = omega (arith, length-append front a, length-append front b, ap length bytes-is) in
    let three : byte (front ++ b) 3 ≡ byte bytes 3 = here 3 (omega arith) in
    record {
      version = here 0 (omega arith) ∙ is.version;
      minor = omega (arith, here 1 (omega arith), is.minor);
      representation = here 4 (omega arith) ∙ is.representation;
      least = omega (arith, is.least);
      most = omega (arith, is.most);
      fragment = value_front w16 front b a 8 (omega arith) ∙ ap (λ (x : List ℕ). value_at w16 x 8) (sym bytes-is) ∙ is.fragment ∙ sym all;
      first = first ∙ is.first ∙ ap (λ n. not (eqb (bit_and n 1) 0)) (sym three);
      last = last ∙ is.last ∙ ap (λ n. not (eqb (bit_and n 2) 0)) (sym three);
      call = call ∙ is.call ∙ ap (λ (x : List ℕ). value_at w32 x 12) bytes-is ∙ value_front w32 front a b 12 (omega arith);
      k = is.k;
      type = ap kind_of (here 2 (omega arith)) ∙ is.type;
      flags = flags_same is.k (front ++ b) bytes three ∙ is.flags;
      end = is.end;
      trailer = end;
      body = body;
    }

-- ---- the body of a request or response

body_split : (front rest : List ℕ) (end : ℕ) → length front ≡ 24 → 24 ≤ end → body_bytes end (front ++ rest) ≡ drop 16 front ++ take (end - 24) rest
body_split front rest end here after =
    let eight : length (drop 16 front) ≡ 8 = omega (arith, length-drop 16 front) in
    let count : end - 16 ≡ length (drop 16 front) + (end - 24) = omega arith in
    ap (take (end - 16)) (drop-append-le 16 front rest (omega arith))
    ∙ ap (λ n. take n (drop 16 front ++ rest)) count
    ∙ take-append-add (drop 16 front) rest (end - 24)

body_with_stub : (body : Body) (k : Kind) (front old new : List ℕ) → length front ≡ 8 → HasStub body → IsBody body k (front ++ old) → (stub_of body ≡ old) × IsBody (with_stub body new) k (front ++ new)
body_with_stub (Request hint context opnum stub) k front old new eight has is =
    let reaches : 8 ≤ length (front ++ new) = omega (arith, length-append front new) in
    (is.1.stub_from ∙ drop_at front old 8 eight, (is.0, record { reaches = reaches; hint_at = is.1.hint_at ∙ value_front w32 front old new 0 (omega arith); context_at = is.1.context_at ∙ value_front w16 front old new 4 (omega arith); opnum_at = is.1.opnum_at ∙ value_front w16 front old new 6 (omega arith); stub_from = sym (drop_at front new 8 eight) }))
body_with_stub (Response hint context stub) k front old new eight has is =
    let reaches : 8 ≤ length (front ++ new) = omega (arith, length-append front new) in
    (is.1.stub_from ∙ drop_at front old 8 eight, (is.0, record { reaches = reaches; hint_at = is.1.hint_at ∙ value_front w32 front old new 0 (omega arith); context_at = is.1.context_at ∙ value_front w16 front old new 4 (omega arith); stub_from = sym (drop_at front new 8 eight) }))
body_with_stub (Bind send receive group contexts) k front old new eight has is = absurd has
body_with_stub (BindAck send receive group results) k front old new eight has is = absurd has
body_with_stub (BindNak reason) k front old new eight has is = absurd has
body_with_stub Auth3 k front old new eight has is = absurd has
body_with_stub (Fault hint context status) k front old new eight has is = absurd has

-- a request or response has 8 bytes before its stub
stub_kind : (body : Body) (k : Kind) (bytes : List ℕ) → HasStub body → IsBody body k bytes → shortest k ≡ 8
stub_kind (Request hint context opnum stub) k bytes has is = ap shortest is.0
stub_kind (Response hint context stub) k bytes has is = ap shortest is.0
stub_kind (Bind send receive group contexts) k bytes has is = absurd has
stub_kind (BindAck send receive group results) k bytes has is = absurd has
stub_kind (BindNak reason) k bytes has is = absurd has
stub_kind Auth3 k bytes has is = absurd has
stub_kind (Fault hint context status) k bytes has is = absurd has

-- ---- where the range is

-- a unit with a stub and a trailer, and where the trailer stands
record IsSealable (bytes : List ℕ) (unit : RpcUnit) (trailer : Trailer) : Type 0 where
  is : IsUnit bytes unit
  to : ℕ
  some : authentication_of bytes ≢ 0
  stands : IsTrailer trailer bytes is.k to is.end
  eight : shortest is.k ≡ 8

sealable : (bytes : List ℕ) (unit : RpcUnit) (trailer : Trailer) → unit_of bytes ≡ Ok unit → HasStub unit.body → unit.trailer ≡ Some trailer → IsSealable bytes unit trailer
sealable bytes unit trailer read stub has =
    let is = IsUnit-unit_of bytes unit read in
    let ends : IsEnd (Some trailer) bytes is.k is.end = subst (λ (t : Option Trailer). IsEnd t bytes is.k is.end) has is.trailer in
    record { is = is; to = ends.1.0; some = ends.0; stands = ends.1.1; eight = stub_kind unit.body is.k (body_bytes is.end bytes) stub is.body }

range_of_body : (body : Body) (trailer : Trailer) (place : ℕ) → HasStub body → range_in body (Some trailer) place ≡ Some (24, place)
range_of_body (Request hint context opnum stub) trailer place has = refl
range_of_body (Response hint context stub) trailer place has = refl
range_of_body (Bind send receive group contexts) trailer place has = absurd has
range_of_body (BindAck send receive group results) trailer place has = absurd has
range_of_body (BindNak reason) trailer place has = absurd has
range_of_body Auth3 trailer place has = absurd has
range_of_body (Fault hint context status) trailer place has = absurd has

sealed_of-read : (bytes : List ℕ) (unit : RpcUnit) (trailer : Trailer) → unit_of bytes ≡ Ok unit → HasStub unit.body → unit.trailer ≡ Some trailer → sealed_of bytes ≡ Some (24, trailer_place bytes)
unfolding sealed_of
sealed_of-read bytes unit trailer read stub has =
    ap (λ (x : Result RpcUnit UnitRefused). range_by x (trailer_place bytes)) read
    ∙ ap (λ (t : Option Trailer). range_in unit.body t (trailer_place bytes)) has
    ∙ range_of_body unit.body trailer (trailer_place bytes) stub

value_length : (bytes : List ℕ) (trailer : Trailer) (k : Kind) (place end : ℕ) → IsTrailer trailer bytes k place end → place + 8 + length trailer.value ≡ length bytes
value_length bytes trailer k place end is = omega (arith, is.whole, ap length is.value_from, length-drop (place + 8) bytes)

-- the range of bytes that are a request or response with a trailer
pub sealed_of-unit : (bytes : List ℕ) (unit : RpcUnit) (trailer : Trailer) → unit_of bytes ≡ Ok unit → HasStub unit.body → unit.trailer ≡ Some trailer → sealed_of bytes ≡ Some (24, length bytes - (8 + length trailer.value))
sealed_of-unit bytes unit trailer read stub has =
    let s = sealable bytes unit trailer read stub has in
    let size = value_length bytes trailer s.is.k s.to s.is.end s.stands in
    let place : trailer_place bytes ≡ length bytes - (8 + length trailer.value) = omega (arith, size, s.stands.whole) in
    sealed_of-read bytes unit trailer read stub has ∙ ap (λ (p : ℕ). Some (24, p)) place

pub sealed_of-written : (unit : RpcUnit) (trailer : Trailer) → IsWritable unit → IsInRange unit → length (written unit) ≤ 5840 → HasStub unit.body → unit.trailer ≡ Some trailer → sealed_of (written unit) ≡ Some (24, length (written unit) - (8 + length trailer.value))
sealed_of-written unit trailer can range short stub has = sealed_of-unit (written unit) unit trailer (unit_of-written unit can range short) stub has

-- what has a range
record HasRange (read : Result RpcUnit UnitRefused) (place from to : ℕ) : Type 0 where
  unit : RpcUnit
  trailer : Trailer
  is : read ≡ Ok unit
  stub : HasStub unit.body
  has : unit.trailer ≡ Some trailer
  starts : from ≡ 24
  ends : to ≡ place

abbrev pair : ℕ → ℕ → Option (ℕ × ℕ)
pair from to = Some (from, to)

both_are : (a b from to : ℕ) → pair a b ≡ pair from to → ◌≡◌ {A = ℕ × ℕ} (a, b) (from, to)
both_are a b from to e = cc

pair_is : (a b from to : ℕ) → pair a b ≡ pair from to → (from ≡ a) × (to ≡ b)
pair_is a b from to e =
    let both = both_are a b from to e in (ap (λ (p : ℕ × ℕ). p.0) (sym both), ap (λ (p : ℕ × ℕ). p.1) (sym both))

range_in-Some : (body : Body) (trailer : Option Trailer) (place from to : ℕ) → range_in body trailer place ≡ Some (from, to) → HasStub body × ((t : Trailer) × (trailer ≡ Some t)) × (from ≡ 24) × (to ≡ place)
range_in-Some (Request hint context opnum stub) None place from to e = absurd cc
range_in-Some (Response hint context stub) None place from to e = absurd cc
range_in-Some (Bind send receive group contexts) None place from to e = absurd cc
range_in-Some (BindAck send receive group results) None place from to e = absurd cc
range_in-Some (BindNak reason) None place from to e = absurd cc
range_in-Some Auth3 None place from to e = absurd cc
range_in-Some (Fault hint context status) None place from to e = absurd cc
range_in-Some (Request hint context opnum stub) (Some trailer) place from to e = (tt, (trailer, refl), (pair_is 24 place from to e).0, (pair_is 24 place from to e).1)
range_in-Some (Response hint context stub) (Some trailer) place from to e = (tt, (trailer, refl), (pair_is 24 place from to e).0, (pair_is 24 place from to e).1)
range_in-Some (Bind send receive group contexts) (Some trailer) place from to e = absurd cc
range_in-Some (BindAck send receive group results) (Some trailer) place from to e = absurd cc
range_in-Some (BindNak reason) (Some trailer) place from to e = absurd cc
range_in-Some Auth3 (Some trailer) place from to e = absurd cc
range_in-Some (Fault hint context status) (Some trailer) place from to e = absurd cc

range_by-Some : (read : Result RpcUnit UnitRefused) (place from to : ℕ) → range_by read place ≡ Some (from, to) → HasRange read place from to
range_by-Some (Err refused) place from to e = absurd cc
range_by-Some (Ok unit) place from to e =
    let r = range_in-Some unit.body unit.trailer place from to e in
    record { unit = unit; trailer = r.1.0; is = refl; stub = r.0; has = r.1.1; starts = r.2; ends = r.3 }

pub sealed_of-Some : (bytes : List ℕ) (from to : ℕ) → sealed_of bytes ≡ Some (from, to) → IsSealedRange bytes from to
unfolding sealed_of
sealed_of-Some bytes from to e =
    let r = range_by-Some (unit_of bytes) (trailer_place bytes) from to e in
    let s = sealable bytes r.unit r.trailer r.is r.stub r.has in
    let size = value_length bytes r.trailer s.is.k s.to s.is.end s.stands in
    let place : s.to ≡ to = omega (arith, s.stands.whole, r.ends) in
    record {
      unit = r.unit;
      trailer = r.trailer;
      read = r.is;
      stub = r.stub;
      has = r.has;
      starts = r.starts;
      in_order = omega (arith, r.starts, place, s.stands.after, s.stands.padding, s.eight);
      ends = omega (arith, size, place);
      value = s.stands.value_from ∙ ap (λ (p : ℕ). drop (p + 8) bytes) place;
    }

-- ---- bytes with another range

-- the trailer of bytes that end alike from where it stands
trailer_kept : (a b : List ℕ) (trailer : Trailer) (k : Kind) (place end : ℕ) → IsTrailer trailer a k place end → length b ≡ length a → authentication_of b ≡ authentication_of a → drop place b ≡ drop place a → IsTrailer trailer b k place end
unfolding value_at
trailer_kept a b trailer k place end is size authentication tail =
    let at : (i : ℕ) → byte a (place + i) ≡ byte b (place + i) = λ i. sym (get_or-drop place a i 0) ∙ ap (λ (x : List ℕ). byte x i) (sym tail) ∙ get_or-drop place b i 0 in
    let first : byte a place ≡ byte b place = ap (byte a) (let e : place ≡ place + 0 = omega arith in e) ∙ at 0 ∙ ap (byte b) (let e : place + 0 ≡ place = omega arith in e) in
    let past : (i : ℕ) → drop (place + i) a ≡ drop (place + i) b = λ i. sym (drop-drop i place a) ∙ ap (drop i) (sym tail) ∙ drop-drop i place b in
    record {
      whole = omega (arith, is.whole);
      after = is.after;
      padding = omega (arith, is.padding, at 2);
      kind_at = is.kind_at ∙ first;
      level_at = is.level_at ∙ at 1;
      context_at = is.context_at ∙ ap (λ (x : List ℕ). from_le_bytes w32 (take 4 x)) (past 4);
      value_from = is.value_from ∙ past 8;
    }

replaced_unit : (bytes range : List ℕ) (unit : RpcUnit) (trailer : Trailer) (s : IsSealable bytes unit trailer) → HasStub unit.body → unit.trailer ≡ Some trailer → length range ≡ s.to - 24 → IsUnit (range_replaced bytes 24 s.to range) (unit_with_stub unit (take (length (stub_of unit.body)) range))
replaced_unit bytes range unit trailer s stub has count =
    let is = s.is in
    let end = is.end in
    let to = s.to in
    let after : 24 ≤ end = omega (arith, s.stands.after, s.eight) in
    let before : end ≤ to = omega (arith, s.stands.padding) in
    let within : to + 8 ≤ length bytes = omega (arith, s.stands.whole) in
    let front : List ℕ = take 24 bytes in
    let tail : List ℕ = drop to bytes in
    let here : length front ≡ 24 = omega (arith, length-take 24 bytes) in
    let old : List ℕ = drop 24 bytes in
    let new : List ℕ = range ++ tail in
    let old-is : bytes ≡ front ++ old = sym (take-append-drop 24 bytes) in
    let new-is : range_replaced bytes 24 to range ≡ front ++ new = append_assoc front range tail in
    let size : length new ≡ length old = omega (arith, length-append range tail, length-drop to bytes, length-drop 24 bytes) in
    let all : length (front ++ new) ≡ length bytes = omega (arith, length-append front new, length-drop 24 bytes) in
    let stub-bytes : List ℕ = take (end - 24) old in
    let body : IsBody unit.body is.k (drop 16 front ++ stub-bytes) = subst (IsBody unit.body is.k) (ap (body_bytes end) old-is ∙ body_split front old end here after) is.body in
    let eight : length (drop 16 front) ≡ 8 = omega (arith, length-drop 16 front) in
    let other : List ℕ = take (end - 24) new in
    let bodies = body_with_stub unit.body is.k (drop 16 front) stub-bytes other eight stub body in
    let len : length (stub_of unit.body) ≡ end - 24 = ap length bodies.0 ∙ omega (arith, length-take (end - 24) old, length-drop 24 bytes) in
    let stub-is : other ≡ take (length (stub_of unit.body)) range = take-append-le (end - 24) range tail (omega arith) ∙ ap (λ n. take n range) (sym len) in
    let body-new : IsBody (with_stub unit.body (take (length (stub_of unit.body)) range)) is.k (body_bytes end (front ++ new)) =
    subst (λ (x : List ℕ). IsBody (with_stub unit.body x) is.k (body_bytes end (front ++ new))) stub-is (subst (IsBody (with_stub unit.body other) is.k) (sym (body_split front new end here after)) bodies.1) in
    let authentication : authentication_of (front ++ new) ≡ authentication_of bytes = value_front w16 front new old 10 (omega arith) ∙ ap authentication_of (sym old-is) in
    let past : drop to (front ++ new) ≡ tail = ap (drop to) (sym new-is) ∙ drop_at (front ++ range) tail to (omega (arith, length-append front range)) in
    let stands = trailer_kept bytes (front ++ new) trailer is.k to end s.stands all authentication past in
    let ends : IsEnd unit.trailer (front ++ new) is.k end =
    subst (λ (t : Option Trailer). IsEnd t (front ++ new) is.k end) (sym has) (λ (none : authentication_of (front ++ new) ≡ 0). s.some (sym authentication ∙ none), (to, stands)) in
    let unit-new : RpcUnit = unit_with_stub unit (take (length (stub_of unit.body)) range) in
    subst (λ (x : List ℕ). IsUnit x unit-new) (sym new-is) (same_header bytes front old new unit unit-new is old-is (omega arith) size refl refl refl ends body-new)

abbrev done : {A : Type 0} → A → Result A UnitRefused
done x = Ok x

ok_is : {A : Type 0} (x y : A) → done x ≡ done y → x ≡ y
ok_is x y e = cc

length-replaced : (bytes : List ℕ) (from to : ℕ) (range : List ℕ) → from ≤ to → to ≤ length bytes → length range ≡ to - from → length (range_replaced bytes from to range) ≡ length bytes
length-replaced bytes from to range order within count =
    omega (arith, length-append (take from bytes ++ range) (drop to bytes), length-append (take from bytes) range, length-take from bytes, length-drop to bytes, count)

stub_stays : (body : Body) (new : List ℕ) → HasStub body → HasStub (with_stub body new)
stub_stays (Request hint context opnum stub) new has = tt
stub_stays (Response hint context stub) new has = tt
stub_stays (Bind send receive group contexts) new has = absurd has
stub_stays (BindAck send receive group results) new has = absurd has
stub_stays (BindNak reason) new has = absurd has
stub_stays Auth3 new has = absurd has
stub_stays (Fault hint context status) new has = absurd has

-- the range of bytes and of a front that reaches over it
pub take-range_replaced : (bytes range : List ℕ) (from to at : ℕ) → from ≤ to → to ≤ at → at ≤ length bytes → length range ≡ to - from → take at (range_replaced bytes from to range) ≡ range_replaced (take at bytes) from to range
take-range_replaced bytes range from to at order after within count =
    let front : List ℕ = take from bytes ++ range in
    let here : length front ≡ to = omega (arith, length-append (take from bytes) range, length-take from bytes, count) in
    let rest : drop to (take at bytes) ≡ take (at - to) (drop to bytes) = ap (λ n. drop to (take n bytes)) (let e : at ≡ to + (at - to) = omega arith in e) ∙ drop-take to (at - to) bytes in
    ap (λ n. take n (front ++ drop to bytes)) (let e : at ≡ length front + (at - to) = omega arith in e)
    ∙ take-append-add front (drop to bytes) (at - to)
    ∙ ap (λ x. front ++ x) (sym rest)
    ∙ ap (λ x. x ++ range ++ drop to (take at bytes)) (sym (take-take from at bytes (omega arith)))

pub unit_of-range_replaced : (bytes : List ℕ) (unit : RpcUnit) (from to : ℕ) (range : List ℕ) → sealed_of bytes ≡ Some (from, to) → unit_of bytes ≡ Ok unit → length range ≡ to - from → (unit_of (range_replaced bytes from to range) ≡ Ok (unit_with_stub unit (take (length (stub_of unit.body)) range))) × (sealed_of (range_replaced bytes from to range) ≡ Some (from, to))
unit_of-range_replaced bytes unit from to range sealed read count =
    let r = sealed_of-Some bytes from to sealed in
    let same : r.unit ≡ unit = ok_is r.unit unit (sym r.read ∙ read) in
    let stub : HasStub unit.body = subst (λ (u : RpcUnit). HasStub u.body) same r.stub in
    let has : unit.trailer ≡ Some r.trailer = ap (λ (u : RpcUnit). u.trailer) (sym same) ∙ r.has in
    let s = sealable bytes unit r.trailer read stub has in
    let size = value_length bytes r.trailer s.is.k s.to s.is.end s.stands in
    let place : s.to ≡ to = omega (arith, size, r.ends) in
    let new : RpcUnit = unit_with_stub unit (take (length (stub_of unit.body)) range) in
    let is = replaced_unit bytes range unit r.trailer s stub has (omega (arith, r.starts, place, count)) in
    let there : range_replaced bytes 24 s.to range ≡ range_replaced bytes from to range = ap (λ p. take p bytes ++ range ++ drop s.to bytes) (sym r.starts) ∙ ap (λ p. take from bytes ++ range ++ drop p bytes) place in
    let again : unit_of (range_replaced bytes from to range) ≡ Ok new = subst (λ (x : List ℕ). unit_of x ≡ Ok new) there (unit_of-IsUnit (range_replaced bytes 24 s.to range) new is) in
    let all : length (range_replaced bytes from to range) ≡ length bytes = length-replaced bytes from to range r.in_order (omega (arith, r.ends)) count in
    let more = sealed_of-unit (range_replaced bytes from to range) new r.trailer again (stub_stays unit.body (take (length (stub_of unit.body)) range) stub) has in
    let pairs : pair 24 (length (range_replaced bytes from to range) - (8 + length r.trailer.value)) ≡ pair from to = ap (λ p. pair p (length (range_replaced bytes from to range) - (8 + length r.trailer.value))) (sym r.starts) ∙ ap (pair from) (let e : length (range_replaced bytes from to range) - (8 + length r.trailer.value) ≡ to = omega (arith, all, r.ends) in e) in
    (again, more ∙ pairs)

-- ---- bytes with another value

body_front : (front a : List ℕ) (end : ℕ) → 16 ≤ length front → end ≤ length front → body_bytes end (front ++ a) ≡ body_bytes end front
body_front front a end long within =
    ap (take (end - 16)) (drop-append-le 16 front a long) ∙ take-append-le (end - 16) (drop 16 front) a (omega (arith, length-drop 16 front))

-- a trailer whose value is another of 16 bytes
trailer_other : (bytes front a b : List ℕ) (trailer : Trailer) (k : Kind) (place end : ℕ) → IsTrailer trailer bytes k place end → bytes ≡ front ++ a → length front ≡ place + 8 → length b ≡ length a → IsTrailer (trailer_with_value b trailer) (front ++ b) k place end
trailer_other bytes front a b trailer k place end is bytes-is here size =
    let at : (i : ℕ) → i < length front → byte bytes i ≡ byte (front ++ b) i = λ i inside. ap (λ (x : List ℕ). byte x i) bytes-is ∙ byte_front front a b i inside in
    let after : 16 ≤ end = omega (arith, is.after) in
    let authentication : authentication_of bytes ≡ authentication_of (front ++ b) = ap authentication_of bytes-is ∙ value_front w16 front a b 10 (omega (arith, is.padding)) in
    let all : length (front ++ b) ≡ length bytes = omega (arith, length-append front a, length-append front b, ap length bytes-is) in
    record {
      whole = omega (arith, is.whole);
      after = is.after;
      padding = omega (arith, is.padding, at (place + 2) (omega arith));
      kind_at = is.kind_at ∙ at place (omega arith);
      level_at = is.level_at ∙ at (place + 1) (omega arith);
      context_at = is.context_at ∙ ap (λ (x : List ℕ). value_at w32 x (place + 4)) bytes-is ∙ value_front w32 front a b (place + 4) (omega arith);
      value_from = sym (drop_at front b (place + 8) here);
    }

pub unit_of-value_replaced : (bytes : List ℕ) (unit : RpcUnit) (trailer : Trailer) (value : List ℕ) → unit_of bytes ≡ Ok unit → unit.trailer ≡ Some trailer → length trailer.value ≡ 16 → length value ≡ 16 → unit_of (value_replaced bytes value) ≡ Ok (unit_with_value unit value)
unit_of-value_replaced bytes unit trailer value read has sixteen count =
    let is = IsUnit-unit_of bytes unit read in
    let ends : IsEnd (Some trailer) bytes is.k is.end = subst (λ (t : Option Trailer). IsEnd t bytes is.k is.end) has is.trailer in
    let to = ends.1.0 in
    let stands = ends.1.1 in
    let size = value_length bytes trailer is.k to is.end stands in
    let n : ℕ = length bytes - 16 in
    let front : List ℕ = take n bytes in
    let old : List ℕ = drop n bytes in
    let old-is : bytes ≡ front ++ old = sym (take-append-drop n bytes) in
    let here : length front ≡ to + 8 = omega (arith, length-take n bytes, size) in
    let same : length value ≡ length old = omega (arith, length-drop n bytes, size) in
    let after : 16 ≤ is.end = omega (arith, stands.after) in
    let before : is.end ≤ to = omega (arith, stands.padding) in
    let other = trailer_other bytes front old value trailer is.k to is.end stands old-is here same in
    let authentication : authentication_of (front ++ value) ≡ authentication_of bytes = value_front w16 front value old 10 (omega arith) ∙ ap authentication_of (sym old-is) in
    let trailer-is : (unit_with_value unit value).trailer ≡ Some (trailer_with_value value trailer) = ap (option_map (trailer_with_value value)) has in
    let end : IsEnd (unit_with_value unit value).trailer (front ++ value) is.k is.end =
    subst (λ (t : Option Trailer). IsEnd t (front ++ value) is.k is.end) (sym trailer-is) (λ (none : authentication_of (front ++ value) ≡ 0). ends.0 (sym authentication ∙ none), (to, other)) in
    let body-is : body_bytes is.end bytes ≡ body_bytes is.end (front ++ value) =
    ap (body_bytes is.end) old-is ∙ body_front front old is.end (omega arith) (omega arith) ∙ sym (body_front front value is.end (omega arith) (omega arith)) in
    let body : IsBody unit.body is.k (body_bytes is.end (front ++ value)) = subst (IsBody unit.body is.k) body-is is.body in
    unit_of-IsUnit (front ++ value) (unit_with_value unit value) (same_header bytes front old value unit (unit_with_value unit value) is old-is (omega arith) same refl refl refl end body)

pub sealed_of-value_replaced : (bytes : List ℕ) (from to : ℕ) (value : List ℕ) → sealed_of bytes ≡ Some (from, to) → to + 24 ≡ length bytes → length value ≡ 16 → sealed_of (value_replaced bytes value) ≡ Some (from, to)
sealed_of-value_replaced bytes from to value sealed whole count =
    let r = sealed_of-Some bytes from to sealed in
    let again = unit_of-value_replaced bytes r.unit r.trailer value r.read r.has (omega (arith, r.ends)) count in
    let has : (unit_with_value r.unit value).trailer ≡ Some (trailer_with_value value r.trailer) = ap (option_map (trailer_with_value value)) r.has in
    let more = sealed_of-unit (value_replaced bytes value) (unit_with_value r.unit value) (trailer_with_value value r.trailer) again r.stub has in
    let all : length (value_replaced bytes value) ≡ length bytes = omega (arith, length-append (take (length bytes - 16) bytes) value, length-take (length bytes - 16) bytes) in
    let place : length (value_replaced bytes value) - (8 + length value) ≡ to = omega arith in
    more ∙ ap (pair 24) place ∙ ap (λ p. pair p to) (sym r.starts)

-- what a call that gives the range tells of it
pub range_tells : (bytes : List ℕ) (range : Option (ℕ × ℕ)) → range ≡ sealed_of bytes → IfSome range (λ range. IsSealedRange bytes range.0 range.1)
range_tells bytes None is = tt
range_tells bytes (Some range) is = sealed_of-Some bytes range.0 range.1 (sym is)

-- ---- another value of a unit that is written

five : (a b c d e v : List ℕ) → a ++ (b ++ (c ++ (d ++ (e ++ v)))) ≡ (a ++ (b ++ (c ++ (d ++ e)))) ++ v
five a b c d e v =
    ap (λ x. a ++ (b ++ (c ++ x))) (sym (append_assoc d e v))
    ∙ ap (λ x. a ++ (b ++ x)) (sym (append_assoc c (d ++ e) v))
    ∙ ap (λ x. a ++ x) (sym (append_assoc b (c ++ (d ++ e)) v))
    ∙ sym (append_assoc a (b ++ (c ++ (d ++ e))) v)

abbrev unit_with : RpcUnit → Trailer → RpcUnit
unit_with unit trailer = record unit { trailer = Some trailer }

same_count : (unit : RpcUnit) (trailer : Trailer) (value : List ℕ) → length value ≡ length trailer.value → length (written_rest (unit_with unit (trailer_with_value value trailer))) ≡ length (written_rest (unit_with unit trailer))
same_count unit trailer value size =
    let body = written_body unit.body in
    let pad : List ℕ = zeros (pad_for (length body)) in
    let four : List ℕ = trailer.kind ∷ trailer.level ∷ pad_for (length body) ∷ 0 ∷ [] in
    let context : List ℕ = to_le_bytes w32 trailer.context in
    ap length (five [] body pad four context value)
    ∙ length-append (body ++ (pad ++ (four ++ context))) value
    ∙ ap (λ n. length (body ++ (pad ++ (four ++ context))) + n) size
    ∙ sym (length-append (body ++ (pad ++ (four ++ context))) trailer.value)
    ∙ sym (ap length (five [] body pad four context trailer.value))

-- all bytes of a written unit with a trailer, before its value
front_bytes : (unit : RpcUnit) (trailer : Trailer) → List ℕ
front_bytes unit trailer =
    let body = written_body unit.body in
    written_header (unit_with unit trailer) (length (written_rest (unit_with unit trailer))) ++ (body ++ (zeros (pad_for (length body)) ++ ((trailer.kind ∷ trailer.level ∷ pad_for (length body) ∷ 0 ∷ []) ++ to_le_bytes w32 trailer.context)))

written_parts : (unit : RpcUnit) (trailer : Trailer) → written (unit_with unit trailer) ≡ front_bytes unit trailer ++ trailer.value
unfolding written front_bytes
written_parts unit trailer =
    let body = written_body unit.body in
    five (written_header (unit_with unit trailer) (length (written_rest (unit_with unit trailer)))) body (zeros (pad_for (length body))) (trailer.kind ∷ trailer.level ∷ pad_for (length body) ∷ 0 ∷ []) (to_le_bytes w32 trailer.context) trailer.value

same_front : (unit : RpcUnit) (trailer : Trailer) (value : List ℕ) → length value ≡ length trailer.value → front_bytes unit (trailer_with_value value trailer) ≡ front_bytes unit trailer
unfolding front_bytes written_start
same_front unit trailer value size =
    let body = written_body unit.body in
    let rest : List ℕ = body ++ (zeros (pad_for (length body)) ++ ((trailer.kind ∷ trailer.level ∷ pad_for (length body) ∷ 0 ∷ []) ++ to_le_bytes w32 trailer.context)) in
    let head : ℕ → ℕ → List ℕ = λ n v. written_start unit ++ (to_le_bytes w16 (16 + n) ++ (to_le_bytes w16 v ++ to_le_bytes w32 unit.call)) in
    ap (λ n. head n (length value) ++ rest) (same_count unit trailer value size)
    ∙ ap (λ v. head (length (written_rest (unit_with unit trailer))) v ++ rest) size

-- the written unit with another value is the unit that is written with it
pub value_replaced-written : (unit : RpcUnit) (trailer : Trailer) (value : List ℕ) → unit.trailer ≡ Some trailer → length trailer.value ≡ 16 → length value ≡ 16 → value_replaced (written unit) value ≡ written (unit_with_value unit value)
value_replaced-written unit trailer value has sixteen count =
    let unit-is : unit ≡ unit_with unit trailer = ap (λ (t : Option Trailer). record unit { trailer = t }) has in
    let other-is : unit_with_value unit value ≡ unit_with unit (trailer_with_value value trailer) = ap (λ (t : Option Trailer). record unit { trailer = option_map (trailer_with_value value) t }) has in
    let front : List ℕ = front_bytes unit trailer in
    let bytes : written unit ≡ front ++ trailer.value = ap written unit-is ∙ written_parts unit trailer in
    let place : length (front ++ trailer.value) - 16 ≡ length front = omega (arith, length-append front trailer.value) in
    ap (λ x. value_replaced x value) bytes
    ∙ ap (λ n. take n (front ++ trailer.value) ++ value) place
    ∙ ap (λ x. x ++ value) (take_at front trailer.value (length front) refl)
    ∙ ap (λ x. x ++ value) (sym (same_front unit trailer value (count ∙ sym sixteen)))
    ∙ sym (written_parts unit (trailer_with_value value trailer))
    ∙ ap written (sym other-is)

-- the code's write of the last bytes
pub put_last : (bytes ys : List ℕ) (place : ℕ) → put_mid place (length bytes - place) bytes ys ≡ take place bytes ++ ys
put_last bytes ys place =
    ap (λ z. take place bytes ++ (ys ++ z)) (drop_all (length bytes - place) (drop place bytes) (omega (arith, length-drop place bytes)))
    ∙ ap (λ z. take place bytes ++ z) (append-nil ys)
