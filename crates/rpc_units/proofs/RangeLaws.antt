-- What was read is in range and can be written.
use Rattle.std.proofs.Common.{◌≡◌, ◌≢◌, ℕ, ◌+◌, ◌-◌, ◌^◌, ◌<◌, ◌≤◌, Bool, true, List, [], ◌∷◌, drop, length, Option, Some, None, Result, Ok, Err, sym, ap, subst, ◌∙◌, arith}
use Rattle.std.specs.Prelude.{IfOk}
use Rattle.std.specs.List.{AllByRecursion}
use Rattle.std.specs.Int.{w16, w32}
use Rattle.std.proofs.lemmas.Bool.{and_parts}
use Rattle.std.proofs.lemmas.List.{length-drop, length-take}
use Rattle.wire_base.specs.Numbers.{AreBytes}
use Rattle.wire_base.specs.Memory.{UpToMemory}
use Rattle.wire_base.proofs.NumberLaws.{AreBytes-take, AreBytes-drop}
use Rattle.rpc_units.specs.declared.kind.Kind.{Kind}
use Rattle.rpc_units.specs.declared.unit.Syntax.{Syntax}
use Rattle.rpc_units.specs.declared.unit.Trailer.{Trailer}
use Rattle.rpc_units.specs.declared.unit.Unit.{Unit as RpcUnit}
use Rattle.rpc_units.specs.declared.unit.Body.{Body}
use Rattle.rpc_units.specs.declared.unit.Body.TheVariants.{Bind, BindAck, BindNak, Auth3, Request, Response, Fault}
use Rattle.rpc_units.specs.declared.refused.UnitRefused.{UnitRefused}
use Rattle.rpc_units.specs.declared.refused.UnitRefused.TheVariants.{Memory}
use Rattle.rpc_units.specs.Layout.{value_at, is_first, is_last, has_flags, authentication_of, syntax_at, context_len, results_place, body_bytes}
use Rattle.rpc_units.specs.Reading.{unit_of}
use Rattle.rpc_units.specs.Grammar.{AreItems, IsSyntax, IsContext, IsAnswer, IsBody, IsEnd, IsUnit}
use Rattle.rpc_units.specs.Writing.{HasPieces, HasCounts, HasValue, IsWritable, HasSyntax, HasContext, HasAnswer, HasNumbers, HasContextNumber, IsInRange}
use Rattle.rpc_units.proofs.GrammarLaws.{IsUnit-unit_of}

-- ---- numbers

short_fits : (bytes : List ℕ) (place : ℕ) → AreBytes bytes → value_at w16 bytes place < 2 ^ 16
unfolding value_at
short_fits bytes place are =
    let part = AreBytes-take 2 (drop place bytes) (AreBytes-drop place bytes are) in
    omega (arith, part 0, part 1)

long_fits : (bytes : List ℕ) (place : ℕ) → AreBytes bytes → value_at w32 bytes place < 2 ^ 32
unfolding value_at
long_fits bytes place are =
    let part = AreBytes-take 4 (drop place bytes) (AreBytes-drop place bytes are) in
    omega (arith, part 0, part 1, part 2, part 3)

short_is : (n : ℕ) (bytes : List ℕ) (place : ℕ) → AreBytes bytes → n ≡ value_at w16 bytes place → n < 2 ^ 16
short_is n bytes place are is = rw is (short_fits bytes place are)

long_is : (n : ℕ) (bytes : List ℕ) (place : ℕ) → AreBytes bytes → n ≡ value_at w32 bytes place → n < 2 ^ 32
long_is n bytes place are is = rw is (long_fits bytes place are)

-- ---- lists

syntax_fits : (bytes : List ℕ) → 20 ≤ length bytes → AreBytes bytes → HasSyntax (syntax_at bytes)
unfolding syntax_at
syntax_fits bytes long are = (omega (arith, length-take 16 bytes), long_fits bytes 16 are)

syntaxes_fit : (syntaxes : List Syntax) (bytes : List ℕ) → AreBytes bytes → AreItems IsSyntax (λ _. 20) syntaxes bytes → AllByRecursion HasSyntax syntaxes
syntaxes_fit [] bytes are items = tt
syntaxes_fit (syntax ∷ syntaxes) bytes are items =
    (subst HasSyntax (sym items.0.1) (syntax_fits bytes items.0.0 are), syntaxes_fit syntaxes (drop 20 bytes) (AreBytes-drop 20 bytes are) items.1)

context_fits : (context : ℕ × Syntax × List Syntax) (bytes : List ℕ) → AreBytes bytes → IsContext context bytes → HasContext context × (length context.2 < 256)
context_fits context bytes are is =
    let long : 20 ≤ length (drop 4 bytes) = omega (arith, length-drop 4 bytes, is.reaches) in (
      (
        short_is context.0 bytes 0 are is.id,
        subst HasSyntax (sym is.abstract_syntax) (syntax_fits (drop 4 bytes) long (AreBytes-drop 4 bytes are)),
        syntaxes_fit context.2 (drop 24 bytes) (AreBytes-drop 24 bytes are) is.transfers,
      ),
      rw is.count (are 2),
    )

contexts_are : (contexts : List (ℕ × Syntax × List Syntax)) (bytes : List ℕ) → AreBytes bytes → AreItems IsContext context_len contexts bytes → AllByRecursion HasContext contexts × AllByRecursion (λ context. length context.2 < 256) contexts
contexts_are [] bytes are items = (tt, tt)
contexts_are (context ∷ contexts) bytes are items =
    let one = context_fits context bytes are items.0 in
    let more = contexts_are contexts (drop (context_len bytes) bytes) (AreBytes-drop (context_len bytes) bytes are) items.1 in
    ((one.0, more.0), (one.1, more.1))

answers_are : (answers : List (ℕ × ℕ × Syntax)) (bytes : List ℕ) → AreBytes bytes → AreItems IsAnswer (λ _. 24) answers bytes → AllByRecursion HasAnswer answers
answers_are [] bytes are items = tt
answers_are (answer ∷ answers) bytes are items =
    let long : 20 ≤ length (drop 4 bytes) = omega (arith, length-drop 4 bytes, items.0.0) in (
      subst HasAnswer (sym items.0.1) (short_fits bytes 0 are, short_fits bytes 2 are, syntax_fits (drop 4 bytes) long (AreBytes-drop 4 bytes are)),
      answers_are answers (drop 24 bytes) (AreBytes-drop 24 bytes are) items.1,
    )

-- ---- the unit

body_fits : (b : Body) (k : Kind) (body : List ℕ) → AreBytes body → IsBody b k body → HasNumbers b × HasCounts b
body_fits (Request hint context opnum stub) k body are is =
    ((long_is hint body 0 are is.1.hint_at, short_is context body 4 are is.1.context_at, short_is opnum body 6 are is.1.opnum_at), tt)
body_fits (Response hint context stub) k body are is = ((long_is hint body 0 are is.1.hint_at, short_is context body 4 are is.1.context_at), tt)
body_fits (Fault hint context status) k body are is =
    ((long_is hint body 0 are is.1.hint_at, short_is context body 4 are is.1.context_at, long_is status body 8 are is.1.status_at), tt)
body_fits (Bind send receive group contexts) k body are is =
    let list = contexts_are contexts (drop 12 body) (AreBytes-drop 12 body are) is.1.list in
    ((short_is send body 0 are is.1.send_at, short_is receive body 2 are is.1.receive_at, long_is group body 4 are is.1.group_at, list.0), list.1)
body_fits (BindAck send receive group results) k body are is =
    let list = answers_are results (drop (results_place body + 4) body) (AreBytes-drop (results_place body + 4) body are) is.1.list in
    ((short_is send body 0 are is.1.send_at, short_is receive body 2 are is.1.receive_at, long_is group body 4 are is.1.group_at, list), tt)
body_fits (BindNak reason) k body are is = (short_is reason body 0 are is.2, tt)
body_fits Auth3 k body are is = (tt, tt)

-- the context of the trailer, and its value
trailer_fits : (trailer : Option Trailer) (bytes : List ℕ) (k : Kind) (end : ℕ) → AreBytes bytes → IsEnd trailer bytes k end → HasContextNumber trailer × HasValue trailer
trailer_fits None bytes k end are is = (tt, tt)
trailer_fits (Some trailer) bytes k end are is =
    let place = is.1.0 in
    let t = is.1.1 in
    let whole : place + 8 + authentication_of bytes ≡ length bytes = t.whole in
    let some : authentication_of bytes ≢ 0 = is.0 in
    let size : length trailer.value ≡ length (drop (place + 8) bytes) = ap length t.value_from in
    (long_is trailer.context bytes (place + 4) are t.context_at, omega (arith, length-drop (place + 8) bytes))

-- a unit of another kind has both flags
pieces_of : (b : Body) (k : Kind) (bytes body : List ℕ) (first last : Bool) → IsBody b k body → has_flags k bytes ≡ true → first ≡ is_first bytes → last ≡ is_last bytes → HasPieces b first last
pieces_of (Request hint context opnum stub) k bytes body first last is flags f l = tt
pieces_of (Response hint context stub) k bytes body first last is flags f l = tt
pieces_of (Fault hint context status) k bytes body first last is flags f l =
    let parts = and_parts (is_first bytes) (is_last bytes) (ap (λ x. has_flags x bytes) (sym is.0) ∙ flags) in (f ∙ parts.0, l ∙ parts.1)
pieces_of (Bind send receive group contexts) k bytes body first last is flags f l =
    let parts = and_parts (is_first bytes) (is_last bytes) (ap (λ x. has_flags x bytes) (sym is.0) ∙ flags) in (f ∙ parts.0, l ∙ parts.1)
pieces_of (BindAck send receive group results) k bytes body first last is flags f l =
    let parts = and_parts (is_first bytes) (is_last bytes) (ap (λ x. has_flags x bytes) (sym is.0) ∙ flags) in (f ∙ parts.0, l ∙ parts.1)
pieces_of (BindNak reason) k bytes body first last is flags f l =
    let parts = and_parts (is_first bytes) (is_last bytes) (ap (λ x. has_flags x bytes) (sym is.0) ∙ flags) in (f ∙ parts.0, l ∙ parts.1)
pieces_of Auth3 k bytes body first last is flags f l =
    let parts = and_parts (is_first bytes) (is_last bytes) (ap (λ x. has_flags x bytes) (sym is.0) ∙ flags) in (f ∙ parts.0, l ∙ parts.1)

unit_fits : (bytes : List ℕ) (unit : RpcUnit) → AreBytes bytes → IsUnit bytes unit → IsWritable unit × IsInRange unit
unit_fits bytes unit are is =
    let body = body_fits unit.body is.k (body_bytes is.end bytes) (AreBytes-take (is.end - 16) (drop 16 bytes) (AreBytes-drop 16 bytes are)) is.body in
    let trailer = trailer_fits unit.trailer bytes is.k is.end are is.trailer in (
      record { pieces = pieces_of unit.body is.k bytes (body_bytes is.end bytes) unit.first unit.last is.body is.flags is.first is.last; counts = body.1; value = trailer.1 },
      record { call = long_is unit.call bytes 12 are is.call; body = body.0; trailer = trailer.0 },
    )

pub read_fits : (bytes : List ℕ) (unit : RpcUnit) → AreBytes bytes → unit_of bytes ≡ Ok unit → IsWritable unit × IsInRange unit
read_fits bytes unit are e = unit_fits bytes unit are (IsUnit-unit_of bytes unit e)

-- what was read by code is in range
pub result_fits : (bytes : List ℕ) (result : Result RpcUnit UnitRefused) → AreBytes bytes → UpToMemory Memory result (unit_of bytes) → IfOk result (λ unit. IsWritable unit × IsInRange unit)
result_fits bytes (Ok unit) are is = read_fits bytes unit are is
result_fits bytes (Err e) are is = tt
