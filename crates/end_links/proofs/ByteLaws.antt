-- What is written of a unit are bytes, where its stub, its identifiers and the value of its trailer are. It serves the
-- law `units_are_whole`, and laws of what ends send.
use Rattle.std.proofs.Common.{ℕ, zero, suc, ◌+◌, ◌-◌, ◌<◌, ◌%◌, Bool, true, false, List, [], ◌∷◌, ◌++◌, length, take, drop, replicate, Option, Some, None, nat_le, if◌then◌else◌, arith}
use Rattle.std.specs.List.{AllByRecursion, flat_map}
use Rattle.std.specs.Int.{Width, w16, w32, to_le_bytes}
use Rattle.std.proofs.Math.Nat.{mod-lt}
use Rattle.wire_base.specs.Numbers.{AreBytes}
use Rattle.wire_base.proofs.NumberLaws.{AreBytes-append, AreBytes-cons, AreBytes-drop, AreBytes-nil, AreBytes-take, AreBytes-to_le_bytes}
use Rattle.rpc_units.specs.declared.unit.Syntax.{Syntax}
use Rattle.rpc_units.specs.declared.unit.Trailer.{Trailer}
use Rattle.rpc_units.specs.declared.unit.Unit.{Unit as RpcUnit}
use Rattle.rpc_units.specs.declared.unit.Body.{Body}
use Rattle.rpc_units.specs.declared.unit.Body.TheVariants.{Bind, BindAck, BindNak, Auth3, Request, Response, Fault}
use Rattle.rpc_units.specs.Calls.{bytes_of_call}
use Rattle.rpc_units.specs.Joining.{cut_of, fragment, fragments_of, stub_of, stub_size, with_stub}
use Rattle.rpc_units.specs.Layout.{kind_by, type_by}
use Rattle.rpc_units.specs.Writing.{flags_by, pad_for, written, written_address, written_answer, written_body, written_context, written_count, written_rest, written_sizes, written_start, written_syntax, written_tail, value_len, zeros}

-- ---- parts of a unit

-- the identifiers of syntaxes are bytes
abbrev pub IsSyntax : Syntax → Type 0
IsSyntax syntax = AreBytes syntax.uuid

abbrev pub IsContext : ℕ × Syntax × List Syntax → Type 0
IsContext context = IsSyntax context.1 × AllByRecursion IsSyntax context.2

abbrev pub IsAnswer : ℕ × ℕ × Syntax → Type 0
IsAnswer answer = IsSyntax answer.2

-- what a body has of bytes
abbrev pub IsBody : Body → Type 0
IsBody (Request hint context opnum stub) = AreBytes stub
IsBody (Response hint context stub) = AreBytes stub
IsBody (Bind send receive group contexts) = AllByRecursion IsContext contexts
IsBody (BindAck send receive group results) = AllByRecursion IsAnswer results
IsBody (Fault hint context status) = Unit {0}
IsBody (BindNak reason) = Unit {0}
IsBody Auth3 = Unit {0}

-- the kind and the level of a trailer are bytes, and so is its value
pub record IsTrailer (trailer : Trailer) : Type 0 where
  pub kind : trailer.kind < 256
  pub level : trailer.level < 256
  pub value : AreBytes trailer.value

abbrev pub IfTrailer : Option Trailer → Type 0
IfTrailer None = Unit {0}
IfTrailer (Some trailer) = IsTrailer trailer

-- ---- lists

-- bytes, as a record: what is joined is found by what it is made of
pub record IsBytes (bytes : List ℕ) : Type 0 where
  pub are : AreBytes bytes

pub none : IsBytes []
none = record { are = AreBytes-nil }

pub is_bytes : (bytes : List ℕ) → AreBytes bytes → IsBytes bytes
is_bytes bytes are = record { are = are }

pub both : {front rest : List ℕ} → IsBytes front → IsBytes rest → IsBytes (front ++ rest)
both {front} {rest} one other = record { are = AreBytes-append front rest one.are other.are }

pub more : {bytes : List ℕ} (byte : ℕ) → byte < 256 → IsBytes bytes → IsBytes (byte ∷ bytes)
more {bytes} byte below rest = record { are = AreBytes-cons byte bytes below rest.are }

pub flat_bytes : {T : Type 0} (Is : T → Type 0) (write : T → List ℕ) → ((item : T) → Is item → IsBytes (write item)) → (items : List T) → AllByRecursion Is items → IsBytes (flat_map write items)
flat_bytes Is write so [] all = none
flat_bytes Is write so (item ∷ items) all = both (so item all.0) (flat_bytes Is write so items all.1)

pub zero_bytes : (count : ℕ) → IsBytes (replicate count 0)
zero_bytes zero = none
zero_bytes (suc count) = more 0 (omega arith) (zero_bytes count)

pub number : (w : Width) (n : ℕ) → IsBytes (to_le_bytes w n)
number w n = record { are = AreBytes-to_le_bytes w n }

zeros_are : (count : ℕ) → IsBytes (zeros count)
unfolding zeros
zeros_are count = zero_bytes count

-- ---- the bodies

syntax_bytes : (syntax : Syntax) → IsSyntax syntax → IsBytes (written_syntax syntax)
syntax_bytes syntax is = both (record { are = is }) (number w32 syntax.version)

context_bytes : (context : ℕ × Syntax × List Syntax) → IsContext context → IsBytes (written_context context)
context_bytes context is =
    both (number w16 context.0) (both (more (length context.2 % 256) (mod-lt (length context.2) (omega arith)) none)
    (both (zeros_are 1) (both (syntax_bytes context.1 is.0) (flat_bytes IsSyntax written_syntax syntax_bytes context.2 is.1))))

answer_bytes : (answer : ℕ × ℕ × Syntax) → IsAnswer answer → IsBytes (written_answer answer)
answer_bytes answer is = both (number w16 answer.0) (both (number w16 answer.1) (syntax_bytes answer.2 is))

sizes_bytes : (send receive group : ℕ) → IsBytes (written_sizes send receive group)
sizes_bytes send receive group = both (number w16 send) (both (number w16 receive) (number w32 group))

count_bytes : (count : ℕ) → IsBytes (written_count count)
count_bytes count = both (more (count % 256) (mod-lt count (omega arith)) none) (zeros_are 3)

address_bytes : IsBytes written_address
unfolding written_address
address_bytes = more 1 (omega arith) (more 0 (omega arith) (more 0 (omega arith) (more 0 (omega arith) none)))

body_bytes : (body : Body) → IsBody body → IsBytes (written_body body)
body_bytes (Request hint context opnum stub) is = both (number w32 hint) (both (number w16 context) (both (number w16 opnum) (record { are = is })))
body_bytes (Response hint context stub) is = both (number w32 hint) (both (number w16 context) (both (zeros_are 2) (record { are = is })))
body_bytes (Fault hint context status) is = both (number w32 hint) (both (number w16 context) (both (zeros_are 2) (both (number w32 status) (zeros_are 4))))
body_bytes (Bind send receive group contexts) is =
    both (sizes_bytes send receive group) (both (count_bytes (length contexts)) (flat_bytes IsContext written_context context_bytes contexts is))
body_bytes (BindAck send receive group results) is =
    both (sizes_bytes send receive group) (both address_bytes (both (count_bytes (length results)) (flat_bytes IsAnswer written_answer answer_bytes results is)))
body_bytes (BindNak reason) is = both (number w16 reason) (more 1 (omega arith) (more 5 (omega arith) (more 0 (omega arith) none)))
body_bytes Auth3 is = zeros_are 4

-- ---- the trailer and the header

tail_bytes : (count : ℕ) (trailer : Option Trailer) → IfTrailer trailer → IsBytes (written_tail count trailer)
tail_bytes count None is = none
tail_bytes count (Some trailer) is =
    let pad : pad_for count < 256 = omega arith in
    both (zeros_are (pad_for count)) (both (more trailer.kind is.kind (more trailer.level is.level (more (pad_for count) pad (more 0 (omega arith) none))))
    (both (number w32 trailer.context) (record { are = is.value })))

type_byte : (body : Body) → type_by (kind_by body) < 256
type_byte (Request hint context opnum stub) = omega arith
type_byte (Response hint context stub) = omega arith
type_byte (Bind send receive group contexts) = omega arith
type_byte (BindAck send receive group results) = omega arith
type_byte (BindNak reason) = omega arith
type_byte Auth3 = omega arith
type_byte (Fault hint context status) = omega arith

flags_byte : (first last : Bool) → flags_by first last < 256
flags_byte false false = omega arith
flags_byte true false = omega arith
flags_byte false true = omega arith
flags_byte true true = omega arith

start_bytes : (unit : RpcUnit) → IsBytes (written_start unit)
unfolding written_start
start_bytes unit =
    more 5 (omega arith) (more 0 (omega arith) (more (type_by (kind_by unit.body)) (type_byte unit.body) (more (flags_by unit.first unit.last) (flags_byte unit.first unit.last)
    (more 0x10 (omega arith) (more 0 (omega arith) (more 0 (omega arith) (more 0 (omega arith) none)))))))

-- what a unit is written of
abbrev pub IsOfBytes : RpcUnit → Type 0
IsOfBytes unit = IsBody unit.body × IfTrailer unit.trailer

unit_bytes : (unit : RpcUnit) → IsOfBytes unit → IsBytes (written unit)
unfolding written
unit_bytes unit is =
    both (both (start_bytes unit) (both (number w16 (16 + length (written_rest unit))) (both (number w16 (value_len unit.trailer)) (number w32 unit.call))))
    (both (body_bytes unit.body is.0) (tail_bytes (length (written_body unit.body)) unit.trailer is.1))

pub written_bytes : (unit : RpcUnit) → IsOfBytes unit → AreBytes (written unit)
written_bytes unit is = (unit_bytes unit is).are

-- ---- the fragments of a call

other_stub : (body : Body) (stub : List ℕ) → IsBody body → AreBytes stub → IsBody (with_stub body stub)
other_stub (Request hint context opnum old) stub is are = are
other_stub (Response hint context old) stub is are = are
other_stub (Bind send receive group contexts) stub is are = is
other_stub (BindAck send receive group results) stub is are = is
other_stub (BindNak reason) stub is are = tt
other_stub Auth3 stub is are = tt
other_stub (Fault hint context status) stub is are = tt

stub_bytes : (body : Body) → IsBody body → AreBytes (stub_of body)
stub_bytes (Request hint context opnum stub) is = is
stub_bytes (Response hint context stub) is = is
stub_bytes (Bind send receive group contexts) is = AreBytes-nil
stub_bytes (BindAck send receive group results) is = AreBytes-nil
stub_bytes (BindNak reason) is = AreBytes-nil
stub_bytes Auth3 is = AreBytes-nil
stub_bytes (Fault hint context status) is = AreBytes-nil

fragment_is : (unit : RpcUnit) (first last : Bool) (stub : List ℕ) → IsOfBytes unit → AreBytes stub → IsOfBytes (fragment unit first last stub)
fragment_is unit first last stub is are = (other_stub unit.body stub is.0 are, is.1)

fragments_by : (fits : Bool) (unit : RpcUnit) (first : Bool) (size : ℕ) (stub : List ℕ) (rest : List RpcUnit) → IsOfBytes unit → AreBytes stub → AllByRecursion IsOfBytes rest →
    AllByRecursion IsOfBytes (if fits then fragment unit first true stub ∷ [] else fragment unit first false (take size stub) ∷ rest)
fragments_by true unit first size stub rest is are all = (fragment_is unit first true stub is are, tt)
fragments_by false unit first size stub rest is are all = (fragment_is unit first false (take size stub) is (AreBytes-take size stub are), all)

fragments_are : (most : ℕ) (unit : RpcUnit) (size : ℕ) (first : Bool) (stub : List ℕ) → IsOfBytes unit → AreBytes stub → AllByRecursion IsOfBytes (fragments_of most unit size first stub)
fragments_are zero unit size first stub is are = (fragment_is unit first true stub is are, tt)
fragments_are (suc most) unit size first stub is are =
    fragments_by (nat_le (length stub) size) unit first size stub (fragments_of most unit size false (drop size stub)) is are
    (fragments_are most unit size false (drop size stub) is (AreBytes-drop size stub are))

pub cut_are : (unit : RpcUnit) (limit : ℕ) → IsOfBytes unit → AllByRecursion IsOfBytes (cut_of unit limit)
unfolding cut_of
cut_are unit limit is = fragments_are (length (stub_of unit.body)) unit (stub_size limit) true (stub_of unit.body) is (stub_bytes unit.body is.0)

pub call_bytes : (unit : RpcUnit) (limit : ℕ) → IsOfBytes unit → AreBytes (bytes_of_call unit limit)
call_bytes unit limit is = (flat_bytes IsOfBytes written unit_bytes (cut_of unit limit) (cut_are unit limit is)).are
