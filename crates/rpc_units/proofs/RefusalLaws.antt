-- No rule refuses for want of memory.
use Rattle.std.proofs.Common.{◌≡◌, ◌+◌, ℕ, zero, suc, Bool, true, false, cond, List, take, drop, length, leb, eqb, Option, Some, None, Result, Ok, Err, sym, subst, ◌∙◌}
use Rattle.std.specs.Int.{w16, w32}
use Rattle.rpc_units.specs.declared.kind.Kind.{Kind}
use Rattle.rpc_units.specs.declared.kind.Kind.TheVariants as kind
use Rattle.rpc_units.specs.declared.unit.Syntax.{Syntax}
use Rattle.rpc_units.specs.declared.unit.Unit.{Unit as RpcUnit}
use Rattle.rpc_units.specs.declared.unit.Body.{Body}
use Rattle.rpc_units.specs.declared.unit.Body.TheVariants.{Request, Response, Fault, BindNak, Auth3}
use Rattle.rpc_units.specs.declared.refused.UnitRefused.{UnitRefused}
use Rattle.rpc_units.specs.declared.refused.UnitRefused.TheVariants.{BadVersion, BadRepresentation, BadLength, BadType, BadTrailer, BadBody, Memory}
use Rattle.rpc_units.specs.declared.refused.InflowRefused.{InflowRefused}
use Rattle.rpc_units.specs.declared.refused.InflowRefused.TheVariants as inflow
use Rattle.rpc_units.specs.Layout.{value_at, byte, fragment_of, has_version, has_representation, has_flags, kind_of, end_in, body_bytes, syntax_at, context_len, results_place}
use Rattle.rpc_units.specs.Reading.{header_by, kind_in, with_item, items_of, syntax_in, syntaxes_of, context_with, context_in, contexts_of, answer_at, result_in, results_of, bind_with, ack_with, ack_at, body_in, unit_with, unit_within, unit_by, unit_of}
use Rattle.rpc_units.specs.Stream.{Flow, Cut, front_with, front_after, front_of, taken_by, next_by, next_of, cut_at, cut_in, cut_stream}

abbrev IsRule : UnitRefused → Type 0
IsRule BadVersion = Unit {0}
IsRule BadRepresentation = Unit {0}
IsRule BadLength = Unit {0}
IsRule (BadType found) = Unit {0}
IsRule BadTrailer = Unit {0}
IsRule BadBody = Unit {0}
IsRule Memory = ⊥

-- a refusal is that of a rule
abbrev ByRule : {A : Type 0} → Result A UnitRefused → Type 0
ByRule (Ok x) = Unit {0}
ByRule (Err e) = IsRule e

guarded : {A : Type 0} (test : Bool) (read : Result A UnitRefused) (e : UnitRefused) → ByRule read → IsRule e → ByRule (cond test read (Err e))
guarded true read e h r = h
guarded false read e h r = r

-- ---- the header

header_rule : (version representation fragment : Bool) (known : Option Kind) (found : ℕ) → ByRule (header_by version representation fragment known found)
header_rule false representation fragment known found = tt
header_rule true false fragment known found = tt
header_rule true true false known found = tt
header_rule true true true None found = tt
header_rule true true true (Some k) found = tt

kind_rule : (whole : Bool) (bytes : List ℕ) → ByRule (kind_in whole bytes)
unfolding kind_in
kind_rule whole bytes = header_rule (has_version bytes) (has_representation bytes) _ (kind_of (byte bytes 2)) (byte bytes 2)

-- ---- lists

item_rule : {A : Type 0} (read : Result A UnitRefused) (more : Result (List A) UnitRefused) → ByRule read → ByRule more → ByRule (with_item read more)
item_rule (Err e) more h m = h
item_rule (Ok x) (Err e) h m = m
item_rule (Ok x) (Ok xs) h m = tt

items_rule : {A : Type 0} (item_in : List ℕ → Result A UnitRefused) (item_len : List ℕ → ℕ) (each : (bytes : List ℕ) → ByRule (item_in bytes)) (count : ℕ) (bytes : List ℕ) → ByRule (items_of item_in item_len count bytes)
items_rule item_in item_len each zero bytes = tt
items_rule item_in item_len each (suc count) bytes =
    item_rule (item_in bytes) (items_of item_in item_len count (drop (item_len bytes) bytes)) (each bytes) (items_rule item_in item_len each count (drop (item_len bytes) bytes))

syntax_rule : (bytes : List ℕ) → ByRule (syntax_in bytes)
unfolding syntax_in
syntax_rule bytes = guarded (leb 20 (length bytes)) (Ok (syntax_at bytes)) BadBody tt tt

with_rule : (bytes : List ℕ) (read : Result (List Syntax) UnitRefused) → ByRule read → ByRule (context_with bytes read)
with_rule bytes (Err e) h = h
with_rule bytes (Ok transfers) h = tt

context_rule : (bytes : List ℕ) → ByRule (context_in bytes)
unfolding context_in
context_rule bytes =
    guarded (leb 24 (length bytes)) (context_with bytes (syntaxes_of (byte bytes 2) (drop 24 bytes))) BadBody (with_rule bytes (syntaxes_of (byte bytes 2) (drop 24 bytes)) (items_rule syntax_in (λ _. 20) syntax_rule (byte bytes 2) (drop 24 bytes))) tt

result_rule : (bytes : List ℕ) → ByRule (result_in bytes)
unfolding result_in
result_rule bytes = guarded (leb 24 (length bytes)) (Ok (answer_at bytes)) BadBody tt tt

-- ---- the bodies

bind_rule : (body : List ℕ) (read : Result (List (ℕ × Syntax × List Syntax)) UnitRefused) → ByRule read → ByRule (bind_with body read)
bind_rule body (Err e) h = h
bind_rule body (Ok contexts) h = tt

ack_rule : (body : List ℕ) (read : Result (List (ℕ × ℕ × Syntax)) UnitRefused) → ByRule read → ByRule (ack_with body read)
ack_rule body (Err e) h = h
ack_rule body (Ok results) h = tt

ack_place_rule : (place : ℕ) (body : List ℕ) → ByRule (ack_at place body)
ack_place_rule place body =
    guarded (leb (place + 4) (length body)) (ack_with body (results_of (byte body place) (drop (place + 4) body))) BadBody (ack_rule body (results_of (byte body place) (drop (place + 4) body)) (items_rule result_in (λ _. 24) result_rule (byte body place) (drop (place + 4) body))) tt

body_rule : (k : Kind) (body : List ℕ) → ByRule (body_in k body)
unfolding body_in
body_rule kind.Request body = guarded (leb 8 (length body)) (Ok (Request (value_at w32 body 0) (value_at w16 body 4) (value_at w16 body 6) (drop 8 body))) BadBody tt tt
body_rule kind.Response body = guarded (leb 8 (length body)) (Ok (Response (value_at w32 body 0) (value_at w16 body 4) (drop 8 body))) BadBody tt tt
body_rule kind.Fault body = guarded (leb 16 (length body)) (Ok (Fault (value_at w32 body 0) (value_at w16 body 4) (value_at w32 body 8))) BadBody tt tt
body_rule kind.Bind body =
    guarded (leb 12 (length body)) (bind_with body (contexts_of (byte body 8) (drop 12 body))) BadBody (bind_rule body (contexts_of (byte body 8) (drop 12 body)) (items_rule context_in context_len context_rule (byte body 8) (drop 12 body))) tt
body_rule kind.BindAck body = guarded (leb 16 (length body)) (ack_at (results_place body) body) BadBody (ack_place_rule (results_place body) body) tt
body_rule kind.BindNak body = guarded (leb 2 (length body)) (Ok (BindNak (value_at w16 body 0))) BadBody tt tt
body_rule kind.Auth3 body = guarded (eqb (length body) 4) (Ok Auth3) BadBody tt tt

-- ---- the unit

unit_rule : (flags : Bool) (read : Result Body UnitRefused) (bytes : List ℕ) → ByRule read → ByRule (unit_with flags read bytes)
unit_rule false read bytes h = tt
unit_rule true (Err e) bytes h = h
unit_rule true (Ok body) bytes h = tt

within_rule : (k : Kind) (end : Option ℕ) (bytes : List ℕ) → ByRule (unit_within k end bytes)
within_rule k None bytes = tt
within_rule k (Some end) bytes = unit_rule (has_flags k bytes) (body_in k (body_bytes end bytes)) bytes (body_rule k (body_bytes end bytes))

by_rule : (read : Result Kind UnitRefused) (bytes : List ℕ) → ByRule read → ByRule (unit_by read bytes)
by_rule (Err e) bytes h = h
by_rule (Ok k) bytes h = within_rule k (end_in k bytes) bytes

unit_of_rule : (bytes : List ℕ) → ByRule (unit_of bytes)
unfolding unit_of
unit_of_rule bytes =
    guarded (leb 16 (length bytes)) (unit_by (kind_in (eqb (fragment_of bytes) (length bytes)) bytes) bytes) BadLength (by_rule (kind_in (eqb (fragment_of bytes) (length bytes)) bytes) bytes (kind_rule (eqb (fragment_of bytes) (length bytes)) bytes)) tt

-- bytes are never refused as a unit for want of memory
pub unit_memory : (bytes : List ℕ) → unit_of bytes ≡ Err Memory → ⊥
unit_memory bytes e = subst (λ (r : Result RpcUnit UnitRefused). ByRule r) e (unit_of_rule bytes)

-- ---- the stream

front_with_rule : (read : Result RpcUnit UnitRefused) (size : ℕ) → ByRule read → ByRule (front_with read size)
front_with_rule (Err e) size h = h
front_with_rule (Ok unit) size h = tt

choice_rule : {A : Type 0} (test : Bool) (one other : Result A UnitRefused) → ByRule one → ByRule other → ByRule (cond test one other)
choice_rule true one other h k = h
choice_rule false one other h k = k

after_rule : (read : Result Kind UnitRefused) (held : List ℕ) → ByRule read → ByRule (front_after read held)
after_rule (Err e) held h = h
after_rule (Ok k) held h =
    choice_rule (leb (fragment_of held) (length held)) (front_with (unit_of (take (fragment_of held) held)) (fragment_of held)) (Ok None) (front_with_rule (unit_of (take (fragment_of held) held)) (fragment_of held) (unit_of_rule (take (fragment_of held) held))) tt

front_rule : (held : List ℕ) → ByRule (front_of held)
unfolding front_of
front_rule held = choice_rule (leb 16 (length held)) (front_after (kind_in true held) held) (Ok None) (after_rule (kind_in true held) held (kind_rule true held)) tt

abbrev InflowRule : Result (Option ℕ) InflowRefused → Type 0
InflowRule (Ok size) = Unit {0}
InflowRule (Err inflow.Broken) = Unit {0}
InflowRule (Err (inflow.Refused e)) = IsRule e

taken_rule : (front : Result (Option ℕ) UnitRefused) → ByRule front → InflowRule (taken_by front)
taken_rule (Err e) h = h
taken_rule (Ok size) h = tt

next_rule : (broken : Bool) (held : List ℕ) → InflowRule (next_by broken held)
next_rule true held = tt
next_rule false held = taken_rule (front_of held) (front_rule held)

-- a stream doesn't refuse for want of memory
pub next_memory : (flow : Flow) (result : Result (Option ℕ) InflowRefused) → result ≡ next_of flow → result ≡ Err (inflow.Refused Memory) → ⊥
next_memory flow result is e = subst InflowRule (sym is ∙ e) (next_rule flow.broken flow.held)

-- what stands behind the units of a stream isn't refused for want of memory

abbrev CutRule : Option UnitRefused → Type 0
CutRule None = Unit {0}
CutRule (Some e) = IsRule e

at_rule : (front : Result (Option ℕ) UnitRefused) (held : List ℕ) (later : ℕ → Cut) → ByRule front → ((size : ℕ) → CutRule (later size).refused) → CutRule (cut_at front held later).refused
at_rule (Err e) held later h each = h
at_rule (Ok None) held later h each = tt
at_rule (Ok (Some size)) held later h each = each size

cut_rule : (most : ℕ) (held : List ℕ) → CutRule (cut_in most held).refused
cut_rule zero held = tt
cut_rule (suc most) held = at_rule (front_of held) held (λ size. cut_in most (drop size held)) (front_rule held) (λ size. cut_rule most (drop size held))

pub stream_memory : (stream : List ℕ) → (cut_stream stream).refused ≡ Some Memory → ⊥
unfolding cut_stream
stream_memory stream e = subst CutRule e (cut_rule (suc (length stream)) stream)
