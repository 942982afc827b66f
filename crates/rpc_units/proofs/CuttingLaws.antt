-- What was cut is joined again, and no fewer fragments of that size would be.
use Rattle.std.proofs.Common.{◌≡◌, ℕ, zero, suc, ◌+◌, ◌-◌, ◌*◌, ◌/◌, ◌<◌, ◌≤◌, eqb, Bool, true, false, List, [], ◌∷◌, ◌++◌, length, take, drop, map, Option, Some, None, Ok, refl, sym, ap, subst, ◌∙◌, arith, inl, inr, append_assoc}
use Rattle.std.proofs.lemmas.Bool.{cases_lt, le-leb, lt-leb, eq-eqb, and_from}
use Rattle.std.proofs.lemmas.List.{append-nil, take-append-drop, length-drop, length-take, length-append}
use Rattle.rpc_units.specs.declared.unit.Unit.{Unit as RpcUnit}
use Rattle.rpc_units.specs.declared.unit.Body.{Body}
use Rattle.rpc_units.specs.declared.unit.Body.TheVariants.{Bind, BindAck, BindNak, Auth3, Request, Response, Fault}
use Rattle.std.specs.List.{flat_map, AllByRecursion}
use Rattle.std.specs.Int.{w32, to_le_bytes}
use Rattle.rpc_units.specs.declared.unit.Trailer.{Trailer}
use Rattle.rpc_units.specs.Writing.{zeros, pad_for, value_len, written_body, written_tail, written, HasPieces, HasCounts, HasValue, IsWritable, HasNumbers, IsInRange, IsSendable}
use Rattle.rpc_units.specs.Calls.{bytes_of_call, CanBeSent, IsHeard}
use Rattle.rpc_units.specs.Reading.{unit_of}
use Rattle.rpc_units.proofs.CutStreamLaws.{cut_written}
use Rattle.rpc_units.proofs.JoiningLaws.{with_stub-own, stub_short, AddsTo-IsJoined}
use Rattle.rpc_units.proofs.WritingLaws.{length_written, length_zeros, unit_of-written}
use Rattle.rpc_units.specs.Joining.{stub_of, with_stub, key_of, same_key, same_call, stubs_of, Continue, IsJoined, fragment, fragments_of, stub_size, cut_of, HasStub, IsWholeCall}

-- a stub that isn't longer than a fragment's is the last fragment
pub fragments_end : (most : ℕ) (unit : RpcUnit) (size : ℕ) (first : Bool) (stub : List ℕ) → length stub ≤ size → fragments_of most unit size first stub ≡ fragment unit first true stub ∷ []
fragments_end zero unit size first stub short = refl
fragments_end (suc most) unit size first stub short = rw (le-leb _ _ short) refl

-- more than a fragment is left
pub fragments_more : (most : ℕ) (unit : RpcUnit) (size : ℕ) (first : Bool) (stub : List ℕ) → size < length stub → fragments_of (suc most) unit size first stub ≡ fragment unit first false (take size stub) ∷ fragments_of most unit size false (drop size stub)
fragments_more most unit size first stub long = rw (lt-leb _ _ long) refl

pub ruleset steps = (fragments_end, fragments_more)

-- a loop's step: new is units with the next fragment, and after is what is left of the rest
pub cut_step : (most : ℕ) (unit : RpcUnit) (size : ℕ) (first : Bool) (rest front after : List ℕ) (units new whole : List RpcUnit) → 1 ≤ size → size < length rest → length rest ≤ most → units ++ fragments_of most unit size first rest ≡ whole → front ≡ take size rest → after ≡ drop size rest → new ≡ units ++ fragment unit first false front ∷ [] → (left : ℕ) × (length after ≤ left) × (new ++ fragments_of left unit size false after ≡ whole)
cut_step zero unit size first rest front after units new whole some long enough so_far front-is after-is new-is = absurd (omega arith)
cut_step (suc most) unit size first rest front after units new whole some long enough so_far front-is after-is new-is =
    let less : length after ≤ most = rw after-is (omega (arith, length-drop size rest)) in
    let next : new ++ fragments_of most unit size false after ≡ whole =
    rw (new-is, front-is, after-is) (append_assoc units (fragment unit first false (take size rest) ∷ []) (fragments_of most unit size false (drop size rest)) ∙ rw (← fragments_more most unit size first rest long) so_far) in
    (most, less, next)

-- ---- the fragments joined

eqb_same : (n : ℕ) → eqb n n ≡ true
eqb_same n = eq-eqb n n refl

same_keys : (body : Body) (s t : List ℕ) → HasStub body → same_key (key_of (with_stub body s)) (key_of (with_stub body t)) ≡ true
same_keys (Request hint context opnum stub) s t h = rw (eqb_same context, eqb_same opnum) refl
same_keys (Response hint context stub) s t h = rw (eqb_same context) refl
same_keys (Bind send receive group contexts) s t h = absurd h
same_keys (BindAck send receive group results) s t h = absurd h
same_keys (BindNak reason) s t h = absurd h
same_keys Auth3 s t h = absurd h
same_keys (Fault hint context status) s t h = absurd h

stub_of-with_stub : (body : Body) (s : List ℕ) → HasStub body → stub_of (with_stub body s) ≡ s
stub_of-with_stub (Request hint context opnum stub) s h = refl
stub_of-with_stub (Response hint context stub) s h = refl
stub_of-with_stub (Bind send receive group contexts) s h = absurd h
stub_of-with_stub (BindAck send receive group results) s h = absurd h
stub_of-with_stub (BindNak reason) s h = absurd h
stub_of-with_stub Auth3 s h = absurd h
stub_of-with_stub (Fault hint context status) s h = absurd h

with_stub-again : (body : Body) (s t : List ℕ) → with_stub (with_stub body s) t ≡ with_stub body t
with_stub-again (Request hint context opnum stub) s t = refl
with_stub-again (Response hint context stub) s t = refl
with_stub-again (Bind send receive group contexts) s t = refl
with_stub-again (BindAck send receive group results) s t = refl
with_stub-again (BindNak reason) s t = refl
with_stub-again Auth3 s t = refl
with_stub-again (Fault hint context status) s t = refl

-- two fragments of a call are of one call
same_fragments : (unit : RpcUnit) (a b c d : Bool) (s t : List ℕ) → HasStub unit.body → same_call (fragment unit a b s) (fragment unit c d t) ≡ true
same_fragments unit a b c d s t h = and_from _ _ (eqb_same unit.call) (same_keys unit.body s t h)

-- the fragments behind the first
others_joined : (most : ℕ) (unit : RpcUnit) (size : ℕ) (rest : List ℕ) (first : RpcUnit) → 1 ≤ size → length rest ≤ most → HasStub unit.body → ((b : Bool) (s : List ℕ) → same_call first (fragment unit false b s) ≡ true) → Continue first false (fragments_of most unit size false rest) × (stubs_of (fragments_of most unit size false rest) ≡ rest)
others_joined zero unit size rest first some enough h same =
    ((refl, refl, same true rest, refl), append-nil (stub_of (with_stub unit.body rest)) ∙ stub_of-with_stub unit.body rest h)
others_joined (suc most) unit size rest first some enough h same =
    elim (cases_lt size (length rest)) [
      | inl long ↦
          let more = others_joined most unit size (drop size rest) first some (omega (arith, length-drop size rest)) h same in
          rw (fragments_more most unit size false rest long) (
            (refl, refl, same false (take size rest), more.0),
            ap (λ (s : List ℕ). s ++ stubs_of (fragments_of most unit size false (drop size rest))) (stub_of-with_stub unit.body (take size rest) h)
                ∙ ap (λ (s : List ℕ). take size rest ++ s) more.1
                ∙ take-append-drop size rest,
          )
      | inr short ↦
          rw (fragments_end (suc most) unit size false rest short)
          ((refl, refl, same true rest, refl), append-nil (stub_of (with_stub unit.body rest)) ∙ stub_of-with_stub unit.body rest h)
    ]

-- the whole unit is the first fragment with all stubs
whole_is : (unit : RpcUnit) (last : Bool) (s t : List ℕ) → IsWholeCall unit → s ++ t ≡ stub_of unit.body → unit ≡ record (fragment unit true last s) { last = true; body = with_stub (with_stub unit.body s) (stub_of (with_stub unit.body s) ++ t) }
whole_is unit last s t h e =
    let body-is : with_stub (with_stub unit.body s) (stub_of (with_stub unit.body s) ++ t) ≡ unit.body =
    with_stub-again unit.body s (stub_of (with_stub unit.body s) ++ t)
    ∙ ap (with_stub unit.body) (ap (λ (x : List ℕ). x ++ t) (stub_of-with_stub unit.body s h.stub) ∙ e)
    ∙ with_stub-own unit.body in
    ap (λ (f : Bool). record unit { first = f }) h.first
    ∙ ap (λ (l : Bool). record unit { first = true; last = l }) h.last
    ∙ ap (λ (b : Body). record unit { first = true; last = true; body = b }) (sym body-is)

all_joined : (most : ℕ) (unit : RpcUnit) (size : ℕ) → IsWholeCall unit → 1 ≤ size → length (stub_of unit.body) ≤ most → IsJoined (fragments_of most unit size true (stub_of unit.body)) unit
all_joined zero unit size h some enough = (refl, refl, whole_is unit true (stub_of unit.body) [] h (append-nil (stub_of unit.body)))
all_joined (suc most) unit size h some enough =
    let stub = stub_of unit.body in
    elim (cases_lt size (length stub)) [
      | inl long ↦
          let same : (b : Bool) (s : List ℕ) → same_call (fragment unit true false (take size stub)) (fragment unit false b s) ≡ true = λ b s. same_fragments unit true false false b (take size stub) s h.stub in
          let more = others_joined most unit size (drop size stub) (fragment unit true false (take size stub)) some (omega (arith, length-drop size stub)) h.stub same in
          rw (fragments_more most unit size true stub long)
          (refl, more.0, whole_is unit false (take size stub) (stubs_of (fragments_of most unit size false (drop size stub))) h (ap (λ (s : List ℕ). take size stub ++ s) more.1 ∙ take-append-drop size stub))
      | inr short ↦ rw (fragments_end (suc most) unit size true stub short) (refl, refl, whole_is unit true stub [] h (append-nil stub))
    ]

-- what was cut is joined to the call
pub IsJoined-cut_of : (unit : RpcUnit) (limit : ℕ) → IsWholeCall unit → 1 ≤ stub_size limit → IsJoined (cut_of unit limit) unit
unfolding cut_of
IsJoined-cut_of unit limit h some = all_joined (length (stub_of unit.body)) unit (stub_size limit) h some (omega arith)

-- ---- the number of the fragments

-- fragments that hold as many stub bytes, and no more each, are as many
fragments_fewest : (most : ℕ) (unit : RpcUnit) (size : ℕ) (first : Bool) (stub : List ℕ) (others : List RpcUnit) → 1 ≤ length others → length stub ≤ length (stubs_of others) → AllByRecursion (λ u. length (stub_of u.body) ≤ size) others → length (fragments_of most unit size first stub) ≤ length others
fragments_fewest most unit size first stub [] some enough each = absurd (omega arith)
fragments_fewest zero unit size first stub (other ∷ others) some enough each = omega arith
fragments_fewest (suc most) unit size first stub (other ∷ []) some enough each =
    let all = length-append (stub_of other.body) [] in
    let less : length (stub_of other.body) ≤ size = each.0 in
    rw (fragments_end (suc most) unit size first stub (omega arith)) (omega arith)
fragments_fewest (suc most) unit size first stub (other ∷ next ∷ others) some enough each =
    elim (cases_lt size (length stub)) [
      | inl long ↦
          let all = length-append (stub_of other.body) (stubs_of (next ∷ others)) in
          let left = length-drop size stub in
          let less : length (stub_of other.body) ≤ size = each.0 in
          let more = fragments_fewest most unit size false (drop size stub) (next ∷ others) (omega arith) (omega arith) each.1 in
          rw (fragments_more most unit size first stub long) (omega arith)
      | inr short ↦ rw (fragments_end (suc most) unit size first stub short) (omega arith)
    ]

-- the stub of a whole has no more bytes than those of its fragments
whole_short : (others : List RpcUnit) (unit : RpcUnit) → IsJoined others unit → (1 ≤ length others) × (length (stub_of unit.body) ≤ length (stubs_of others))
whole_short [] unit h = absurd h
whole_short (first ∷ others) unit h = rw h.2 (omega arith, stub_short first.body (stub_of first.body ++ stubs_of others))

-- no fewer fragments with the stub bytes that `limit` leaves are joined to the call
pub cut_fewest : (unit : RpcUnit) (limit : ℕ) (others : List RpcUnit) → IsJoined others unit → AllByRecursion (λ u. length (stub_of u.body) ≤ stub_size limit) others → length (cut_of unit limit) ≤ length others
unfolding cut_of
cut_fewest unit limit others joined each =
    let parts = whole_short others unit joined in
    fragments_fewest (length (stub_of unit.body)) unit (stub_size limit) true (stub_of unit.body) others parts.0 parts.1 each

-- ---- the fragments written

pad_up : (count k : ℕ) → count ≤ 4 * k → count + pad_for count ≤ 4 * k
pad_up count k short = omega arith

body_size : (body : Body) (stub : List ℕ) → HasStub body → length (written_body (with_stub body stub)) ≡ 8 + length stub
unfolding zeros
body_size (Request hint context opnum stub) s h = omega arith
body_size (Response hint context stub) s h = omega arith
body_size (Bind send receive group contexts) s h = absurd h
body_size (BindAck send receive group results) s h = absurd h
body_size (BindNak reason) s h = absurd h
body_size Auth3 s h = absurd h
body_size (Fault hint context status) s h = absurd h

tail_size : (count k : ℕ) (trailer : Option Trailer) → count ≤ 4 * k → count + length (written_tail count trailer) ≤ 4 * k + 8 + value_len trailer
tail_size count k None short = omega arith
tail_size count k (Some trailer) short =
    let up = pad_up count k short in
    omega (arith, length-append (zeros (pad_for count)) ((trailer.kind ∷ trailer.level ∷ pad_for count ∷ 0 ∷ []) ++ (to_le_bytes w32 trailer.context ++ trailer.value)), length_zeros (pad_for count))

fragment_short : (unit : RpcUnit) (limit : ℕ) (first last : Bool) (stub : List ℕ) → HasStub unit.body → 48 ≤ limit → length stub ≤ stub_size limit → length (written (fragment unit first last stub)) + 16 ≤ limit + value_len unit.trailer
fragment_short unit limit first last stub h least short =
    let body = written_body (with_stub unit.body stub) in
    let size = body_size unit.body stub h in
    let whole = length_written (fragment unit first last stub) in
    let sum = length-append body (written_tail (length body) unit.trailer) in
    let most : length body ≤ 4 * (2 + 2 * ((limit - 48) / 8)) = omega arith in
    let all = tail_size (length body) (2 + 2 * ((limit - 48) / 8)) unit.trailer most in
    omega arith

-- what holds of a fragment with a stub that is short enough holds of each
fragments_each : (P : RpcUnit → Type 0) (unit : RpcUnit) (size : ℕ) (one : (first last : Bool) (stub : List ℕ) → length stub ≤ size → P (fragment unit first last stub)) (most : ℕ) (first : Bool) (rest : List ℕ) → length rest ≤ most → 1 ≤ size → AllByRecursion P (fragments_of most unit size first rest)
fragments_each P unit size one zero first rest enough some = (one first true rest (omega arith), tt)
fragments_each P unit size one (suc most) first rest enough some =
    elim (cases_lt size (length rest)) [
      | inl long ↦
          rw (fragments_more most unit size first rest long) (
            one first false (take size rest) (omega (arith, length-take size rest)),
            fragments_each P unit size one most false (drop size rest) (omega (arith, length-drop size rest)) some,
          )
      | inr short ↦ rw (fragments_end (suc most) unit size first rest short) (one first true rest short, tt)
    ]

pub cut_each : (P : RpcUnit → Type 0) (unit : RpcUnit) (limit : ℕ) → 56 ≤ limit → ((first last : Bool) (stub : List ℕ) → length stub ≤ stub_size limit → P (fragment unit first last stub)) → AllByRecursion P (cut_of unit limit)
unfolding cut_of
cut_each P unit limit least one = fragments_each P unit (stub_size limit) one (length (stub_of unit.body)) true (stub_of unit.body) (omega arith) (omega arith)

-- each fragment of a call is written with at most as many bytes as `limit` says
pub cut_short : (unit : RpcUnit) (limit : ℕ) → HasStub unit.body → 56 ≤ limit → AllByRecursion (λ u. length (written u) + 16 ≤ limit + value_len unit.trailer) (cut_of unit limit)
cut_short unit limit h least =
    cut_each (λ u. length (written u) + 16 ≤ limit + value_len unit.trailer) unit limit least (λ first last stub short. fragment_short unit limit first last stub h (omega arith) short)

-- ---- a call that one unit carries

own_stub : (body : Body) → with_stub body (stub_of body) ≡ body
own_stub (Request hint context opnum stub) = refl
own_stub (Response hint context stub) = refl
own_stub (Bind send receive group contexts) = refl
own_stub (BindAck send receive group results) = refl
own_stub (BindNak reason) = refl
own_stub Auth3 = refl
own_stub (Fault hint context status) = refl

own_fragment : (unit : RpcUnit) → IsWholeCall unit → fragment unit true true (stub_of unit.body) ≡ unit
own_fragment unit whole = λ i. record unit { first = sym whole.first i; last = sym whole.last i; body = own_stub unit.body i }

pub cut_whole : (unit : RpcUnit) (limit : ℕ) → IsWholeCall unit → length (stub_of unit.body) ≤ stub_size limit → cut_of unit limit ≡ unit ∷ []
unfolding cut_of
cut_whole unit limit whole short =
    fragments_end (length (stub_of unit.body)) unit (stub_size limit) true (stub_of unit.body) short
    ∙ ap (λ (u : RpcUnit). u ∷ []) (own_fragment unit whole)

-- ---- the fragments can be written

writable_parts : (body : Body) (stub : List ℕ) (first last : Bool) → HasStub body → HasPieces (with_stub body stub) first last × HasCounts (with_stub body stub)
writable_parts (Request hint context opnum stub) s first last h = (tt, tt)
writable_parts (Response hint context stub) s first last h = (tt, tt)
writable_parts (Bind send receive group contexts) s first last h = absurd h
writable_parts (BindAck send receive group results) s first last h = absurd h
writable_parts (BindNak reason) s first last h = absurd h
writable_parts Auth3 s first last h = absurd h
writable_parts (Fault hint context status) s first last h = absurd h

fragment_writable : (unit : RpcUnit) (first last : Bool) (stub : List ℕ) → HasStub unit.body → HasValue unit.trailer → IsWritable (fragment unit first last stub)
fragment_writable unit first last stub h value =
    let parts = writable_parts unit.body stub first last h in
    record { pieces = parts.0; counts = parts.1; value = value }

pub cut_writable : (unit : RpcUnit) (limit : ℕ) → HasStub unit.body → HasValue unit.trailer → 56 ≤ limit → AllByRecursion IsWritable (cut_of unit limit)
cut_writable unit limit h value least = cut_each IsWritable unit limit least (λ first last stub short. fragment_writable unit first last stub h value)

-- ---- the fragments are in range

numbers_same : (body : Body) (stub : List ℕ) → HasNumbers body → HasNumbers (with_stub body stub)
numbers_same (Request hint context opnum stub) s h = h
numbers_same (Response hint context stub) s h = h
numbers_same (Bind send receive group contexts) s h = h
numbers_same (BindAck send receive group results) s h = h
numbers_same (BindNak reason) s h = h
numbers_same Auth3 s h = h
numbers_same (Fault hint context status) s h = h

fragment_range : (unit : RpcUnit) (first last : Bool) (stub : List ℕ) → IsInRange unit → IsInRange (fragment unit first last stub)
fragment_range unit first last stub h = record { call = h.call; body = numbers_same unit.body stub h.body; trailer = h.trailer }

pub cut_range : (unit : RpcUnit) (limit : ℕ) → IsInRange unit → 56 ≤ limit → AllByRecursion IsInRange (cut_of unit limit)
cut_range unit limit h least = cut_each IsInRange unit limit least (λ first last stub short. fragment_range unit first last stub h)

-- ---- a call on the wire

fragment_sendable : (call : RpcUnit) (limit : ℕ) (first last : Bool) (stub : List ℕ) → CanBeSent call limit → length stub ≤ stub_size limit → IsSendable (fragment call first last stub)
fragment_sendable call limit first last stub h short =
    let least : 1432 ≤ limit = h.least in
    let room : limit + value_len call.trailer ≤ 5840 + 16 = h.room in
    let size = fragment_short call limit first last stub h.whole.stub (omega arith) short in
    record {
      writable = fragment_writable call first last stub h.whole.stub h.value;
      range = fragment_range call first last stub h.range;
      short = omega arith;
    }

pub cut_sendable : (call : RpcUnit) (limit : ℕ) → CanBeSent call limit → AllByRecursion IsSendable (cut_of call limit)
cut_sendable call limit h =
    let least : 1432 ≤ limit = h.least in
    cut_each IsSendable call limit (omega arith) (λ first last stub short. fragment_sendable call limit first last stub h short)

-- the stub of a whole is those of its fragments
has_stub-with : (body : Body) (s : List ℕ) → HasStub (with_stub body s) → HasStub body
has_stub-with (Request hint context opnum stub) s h = tt
has_stub-with (Response hint context stub) s h = tt
has_stub-with (Bind send receive group contexts) s h = absurd h
has_stub-with (BindAck send receive group results) s h = absurd h
has_stub-with (BindNak reason) s h = absurd h
has_stub-with Auth3 s h = absurd h
has_stub-with (Fault hint context status) s h = absurd h

joined_stubs : (units : List RpcUnit) (whole : RpcUnit) → IsJoined units whole → HasStub whole.body → stub_of whole.body ≡ stubs_of units
joined_stubs [] whole is h = absurd is
joined_stubs (first ∷ others) whole is h =
    let body-is : whole.body ≡ with_stub first.body (stub_of first.body ++ stubs_of others) = ap (λ (u : RpcUnit). u.body) is.2 in
    let has : HasStub first.body = has_stub-with first.body (stub_of first.body ++ stubs_of others) (subst HasStub body-is h) in
    ap stub_of body-is ∙ stub_of-with_stub first.body (stub_of first.body ++ stubs_of others) has

read_again : (units : List RpcUnit) → AllByRecursion IsSendable units → map unit_of (map written units) ≡ map (λ unit. Ok unit) units
read_again [] each = refl
read_again (unit ∷ units) each =
    let s : IsSendable unit = each.0 in
    let one = unit_of-written unit s.writable s.range s.short in
    let more = read_again units each.1 in
    (λ i. one i ∷ more i)

pub call_heard : (call : RpcUnit) (limit : ℕ) → CanBeSent call limit → length (stub_of call.body) ≤ 65536 → IsHeard (bytes_of_call call limit) (cut_of call limit) call
call_heard call limit h short =
    let each = cut_sendable call limit h in
    let least : 1432 ≤ limit = h.least in
    let joined = IsJoined-cut_of call limit h.whole (omega arith) in
    let stubs = joined_stubs (cut_of call limit) call joined h.whole.stub in
    record {
      stream = cut_written (cut_of call limit) each;
      read = read_again (cut_of call limit) each;
      joined = AddsTo-IsJoined (cut_of call limit) call joined (subst (λ (s : List ℕ). length s ≤ 65536) stubs short);
    }

-- ---- the bytes of a call

tail_bytes : (count : ℕ) (trailer : Option Trailer) → length (written_tail count trailer) ≤ 11 + value_len trailer
tail_bytes count None = omega arith
tail_bytes count (Some trailer) =
    omega (arith, length-append (zeros (pad_for count)) ((trailer.kind ∷ trailer.level ∷ pad_for count ∷ 0 ∷ []) ++ (to_le_bytes w32 trailer.context ++ trailer.value)), length_zeros (pad_for count))

-- a fragment has a header of 16 bytes, 8 of its body before the stub, at most 3 of padding, and 8 of a trailer before
-- its value
fragment_bytes : (unit : RpcUnit) (first last : Bool) (stub : List ℕ) → HasStub unit.body → length (written (fragment unit first last stub)) ≤ length stub + 35 + value_len unit.trailer
fragment_bytes unit first last stub h =
    let body = written_body (with_stub unit.body stub) in
    let tail = tail_bytes (length body) unit.trailer in
    omega (arith, body_size unit.body stub h, length_written (fragment unit first last stub), length-append body (written_tail (length body) unit.trailer), tail)

one_fragment : (unit : RpcUnit) (first : Bool) (stub : List ℕ) → HasStub unit.body → value_len unit.trailer ≤ 16 →
    8 * length (flat_map written (fragment unit first true stub ∷ [])) ≤ 9 * length stub + 408
one_fragment unit first stub h small =
    omega (arith, length-append (written (fragment unit first true stub)) [], fragment_bytes unit first true stub h)

fragments_bytes : (most : ℕ) (unit : RpcUnit) (size : ℕ) (first : Bool) (stub : List ℕ) → HasStub unit.body → 408 ≤ size → value_len unit.trailer ≤ 16 →
    8 * length (flat_map written (fragments_of most unit size first stub)) ≤ 9 * length stub + 408
fragments_bytes zero unit size first stub h large small = one_fragment unit first stub h small
fragments_bytes (suc most) unit size first stub h large small =
    elim (cases_lt size (length stub)) [
      | inl long ↦
          let one = fragment unit first false (take size stub) in
          let more = fragments_of most unit size false (drop size stub) in
          rw (fragments_more most unit size first stub long) (omega (
            arith,
            length-append (written one) (flat_map written more),
            fragment_bytes unit first false (take size stub) h,
            fragments_bytes most unit size false (drop size stub) h large small,
            length-take size stub,
            length-drop size stub,
          ))
      | inr short ↦ rw (fragments_end (suc most) unit size first stub short) (one_fragment unit first stub h small)
    ]

-- at most nine eighths of its stub, and what a fragment has besides
pub call_short : (call : RpcUnit) (limit : ℕ) → HasStub call.body → 1432 ≤ limit → value_len call.trailer ≤ 16 →
    8 * length (bytes_of_call call limit) ≤ 9 * length (stub_of call.body) + 408
unfolding cut_of
call_short call limit h least small =
    fragments_bytes (length (stub_of call.body)) call (stub_size limit) true (stub_of call.body) h (omega arith) small
