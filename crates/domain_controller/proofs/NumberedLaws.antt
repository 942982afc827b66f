-- For the laws `what_is_sent_is_whole` and `replies_are_read_as_made`: a unit is written with its call number and its
-- context modulo their widths (C706 12.6.3.1).
use Rattle.std.proofs.Common.{◌≡◌, ℕ, zero, suc, ◌+◌, ◌/◌, ◌%◌, ◌^◌, Bool, true, false, List, [], ◌∷◌, ◌++◌, length, take, drop, Option, None, inl, inr, refl, ap, arith}
use Rattle.std.specs.Int.{w16, w32, to_le_bytes}
use Rattle.std.specs.List.{flat_map}
use Rattle.std.proofs.lemmas.Bool.{cases_lt}
use Rattle.rpc_units.specs.declared.unit.Syntax.{Syntax}
use Rattle.rpc_units.specs.declared.unit.Trailer.{Trailer}
use Rattle.rpc_units.specs.declared.unit.Unit.{Unit as RpcUnit}
use Rattle.rpc_units.specs.declared.unit.Body.{Body}
use Rattle.rpc_units.specs.declared.unit.Body.TheVariants.{Response, Fault}
use Rattle.rpc_units.specs.Calls.{bytes_of_call}
use Rattle.rpc_units.specs.Joining.{cut_of, fragment, fragments_of, stub_size}
use Rattle.rpc_units.specs.Layout.{kind_by, type_by}
use Rattle.rpc_units.specs.Writing.{flags_by, value_len, written, written_body, written_start, written_tail, zeros}
use Rattle.rpc_units.proofs.CuttingLaws.{fragments_end, fragments_more}
use Rattle.end_links.specs.Binding.{ack_of, nak_of}
use Rattle.end_links.specs.Sending.{fault_of, response_of}

-- ---- numbers

short_alike : (n : ℕ) → to_le_bytes w16 (n % 2 ^ 16) ≡ to_le_bytes w16 n
short_alike n =
    let low : n % 2 ^ 16 % 256 ≡ n % 256 = omega arith in
    let high : n % 2 ^ 16 / 256 % 256 ≡ n / 256 % 256 = omega arith in
    (λ i. low i ∷ high i ∷ [])

long_alike : (n : ℕ) → to_le_bytes w32 (n % 2 ^ 32) ≡ to_le_bytes w32 n
long_alike n =
    let one : n % 2 ^ 32 % 256 ≡ n % 256 = omega arith in
    let two : n % 2 ^ 32 / 256 % 256 ≡ n / 256 % 256 = omega arith in
    let three : n % 2 ^ 32 / 65536 % 256 ≡ n / 65536 % 256 = omega arith in
    let four : n % 2 ^ 32 / 16777216 % 256 ≡ n / 16777216 % 256 = omega arith in
    (λ i. one i ∷ two i ∷ three i ∷ four i ∷ [])

-- ---- units

-- units that differ in numbers which are written alike
unit_alike : (first last : Bool) (call other_call : ℕ) (body other_body : Body) (trailer : Option Trailer) → to_le_bytes w32 call ≡ to_le_bytes w32 other_call →
    type_by (kind_by body) ≡ type_by (kind_by other_body) → written_body body ≡ written_body other_body →
    written (record { first = first; last = last; call = call; body = body; trailer = trailer })
    ≡ written (record { first = first; last = last; call = other_call; body = other_body; trailer = trailer })
unfolding written written_start
unit_alike first last call other_call body other_body trailer number kind bodies =
    let behind : List ℕ → List ℕ = λ bytes. bytes ++ written_tail (length bytes) trailer in
    let whole : List ℕ → ℕ → List ℕ → List ℕ = λ digits type bytes.
    ((5 ∷ 0 ∷ type ∷ flags_by first last ∷ 0x10 ∷ 0 ∷ 0 ∷ 0 ∷ []) ++ (to_le_bytes w16 (16 + length (behind bytes)) ++ (to_le_bytes w16 (value_len trailer) ++ digits))) ++ behind bytes in
    (λ i. whole (number i) (kind i) (bodies i))

response_alike : (hint context : ℕ) (stub : List ℕ) → written_body (Response hint (context % 2 ^ 16) stub) ≡ written_body (Response hint context stub)
response_alike hint context stub = ap (λ (bytes : List ℕ). to_le_bytes w32 hint ++ (bytes ++ (zeros 2 ++ stub))) (short_alike context)

pub fault_alike : (call context status : ℕ) → written (fault_of (call % 2 ^ 32) (context % 2 ^ 16) status) ≡ written (fault_of call context status)
fault_alike call context status =
    unit_alike true true (call % 2 ^ 32) call (Fault 0 (context % 2 ^ 16) status) (Fault 0 context status) None (long_alike call) refl
    (ap (λ (bytes : List ℕ). to_le_bytes w32 0 ++ (bytes ++ (zeros 2 ++ (to_le_bytes w32 status ++ zeros 4)))) (short_alike context))

pub nak_alike : (call : ℕ) → written (nak_of (call % 2 ^ 32)) ≡ written (nak_of call)
nak_alike call = unit_alike true true (call % 2 ^ 32) call (nak_of call).body (nak_of call).body None (long_alike call) refl refl

pub ack_alike : (served : Syntax) (call receive : ℕ) (contexts : List (ℕ × Syntax × List Syntax)) →
    written (ack_of served (call % 2 ^ 32) receive contexts) ≡ written (ack_of served call receive contexts)
ack_alike served call receive contexts =
    unit_alike true true (call % 2 ^ 32) call (ack_of served call receive contexts).body (ack_of served call receive contexts).body None (long_alike call) refl refl

-- ---- the fragments of a call

fragments_alike : (most : ℕ) (one other : RpcUnit) (size : ℕ) (first : Bool) (stub : List ℕ) →
    ((first last : Bool) (part : List ℕ) → written (fragment one first last part) ≡ written (fragment other first last part)) →
    flat_map written (fragments_of most one size first stub) ≡ flat_map written (fragments_of most other size first stub)
fragments_alike zero one other size first stub each = ap (λ (bytes : List ℕ). bytes ++ []) (each first true stub)
fragments_alike (suc most) one other size first stub each =
    elim (cases_lt size (length stub)) [
      | inl long ↦
          let more = fragments_alike most one other size false (drop size stub) each in
          let now = each first false (take size stub) in
          rw (fragments_more most one size first stub long, fragments_more most other size first stub long) (λ i. now i ++ more i)
      | inr short ↦
          rw (fragments_end (suc most) one size first stub short, fragments_end (suc most) other size first stub short)
          (ap (λ (bytes : List ℕ). bytes ++ []) (each first true stub))
    ]

pub reply_alike : (call context limit : ℕ) (stub : List ℕ) →
    bytes_of_call (response_of (call % 2 ^ 32) (context % 2 ^ 16) stub) limit ≡ bytes_of_call (response_of call context stub) limit
unfolding cut_of
reply_alike call context limit stub =
    fragments_alike (length stub) (response_of (call % 2 ^ 32) (context % 2 ^ 16) stub) (response_of call context stub) (stub_size limit) true stub
    (λ first last part. unit_alike first last (call % 2 ^ 32) call (Response (length stub) (context % 2 ^ 16) part) (Response (length stub) context part) None (long_alike call) refl
    (response_alike (length stub) context part))
