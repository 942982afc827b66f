-- The bind of a channel that seals is never too long.
use Rattle.std.proofs.Common.{◌≡◌, ◌≤◌, ◌<◌, ◌+◌, ◌*◌, ◌^◌, ℕ, Bool, true, false, map, List, [], ◌∷◌, ◌++◌, length, Some, refl, arith}
use Rattle.std.proofs.lemmas.List.{length-append}
use Rattle.std.specs.Int.{w32, to_le_bytes}
use Rattle.std.specs.List.{flat_map}
use Rattle.wire_base.specs.Numbers.{AreBytes}
use Rattle.rpc_units.specs.Numbers.{ndr_syntax}
use Rattle.rpc_units.specs.declared.unit.Syntax.{Syntax}
use Rattle.rpc_units.specs.declared.unit.Unit.{Unit as RpcUnit}
use Rattle.rpc_units.specs.Writing.{IsWritable, pad_for, written, written_address, written_answer, written_body, written_context, written_syntax, written_syntaxes, written_tail, zeros}
use Rattle.rpc_units.proofs.WritingLaws.{length_written, length_zeros}
use Rattle.rpc_units.specs.Joining.{joined_of}
use Rattle.end_links.specs.Whole.{IsWholeSend}
use Rattle.end_links.proofs.WholeLaws.{single_whole, syntax_of_bytes}
use Rattle.end_links.specs.Binding.{answer_by, answer_to, offers_ndr, same_syntax}
use Rattle.channel_sealing.specs.Trailers.{ack_value, own_context, sealed_ack_of, sealed_bind_of, trailer_of}

pub sealed_bind_writable : (interface : Syntax) (call : ℕ) (value : List ℕ) → 0 < length value → IsWritable (sealed_bind_of interface call value)
sealed_bind_writable interface call value some = record { pieces = (refl, refl); counts = (omega arith, tt); value = some }

syntax_len : (syntax : Syntax) → length syntax.uuid ≡ 16 → length (written_syntax syntax) ≡ 20
syntax_len syntax is = let both = length-append syntax.uuid (to_le_bytes w32 syntax.version) in omega (arith, both, is)

syntaxes_len : (syntax : Syntax) → length syntax.uuid ≡ 16 → length (written_syntaxes (syntax ∷ [])) ≡ 20
syntaxes_len syntax is = let all = length-append (written_syntax syntax) [] in omega (arith, all, syntax_len syntax is)

context_len : (interface : Syntax) → length interface.uuid ≡ 16 → length (written_context (0, interface, ndr_syntax ∷ [])) ≡ 44
unfolding zeros
context_len interface is =
    let both = length-append (written_syntax interface) (written_syntaxes (ndr_syntax ∷ [])) in
    omega (arith, both, syntax_len interface is, syntaxes_len ndr_syntax refl)

body_len : (interface : Syntax) (call : ℕ) (value : List ℕ) → length interface.uuid ≡ 16 → length (written_body (sealed_bind_of interface call value).body) ≤ 64
unfolding zeros
body_len interface call value is =
    let all = length-append (written_context (0, interface, ndr_syntax ∷ [])) [] in
    omega (arith, all, context_len interface is)

tail_len : (context count : ℕ) (value : List ℕ) → length (written_tail count (Some (trailer_of context value))) ≤ 11 + length value
tail_len context count value =
    omega (arith, length-append (zeros (pad_for count)) ((68 ∷ 6 ∷ pad_for count ∷ 0 ∷ []) ++ (to_le_bytes w32 context ++ value)), length_zeros (pad_for count))

pub sealed_bind_short : (interface : Syntax) (call : ℕ) (value : List ℕ) → length interface.uuid ≡ 16 → length value ≤ 138 →
    length (written (sealed_bind_of interface call value)) ≤ 5840
sealed_bind_short interface call value is few =
    let body = written_body (sealed_bind_of interface call value).body in
    omega (
      arith,
      length_written (sealed_bind_of interface call value),
      length-append body (written_tail (length body) (Some (trailer_of own_context value))),
      body_len interface call value is,
      tail_len own_context (length body) value,
      few,
    )

-- ---- the answer: each of its results has 24 bytes

pub sealed_ack_writable : (served : Syntax) (call receive : ℕ) (contexts : List (ℕ × Syntax × List Syntax)) (context : ℕ) → IsWritable (sealed_ack_of served call receive contexts context)
sealed_ack_writable served call receive contexts context = record { pieces = (refl, refl); counts = tt; value = omega arith }

answer_len : (same ndr : Bool) → length (written_answer (answer_by same ndr)) ≡ 24
answer_len false ndr = refl
answer_len true false = refl
answer_len true true = refl

answers_len : (served : Syntax) (contexts : List (ℕ × Syntax × List Syntax)) → length (flat_map written_answer (map (answer_to served) contexts)) ≡ 24 * length contexts
answers_len served [] = refl
answers_len served (context ∷ contexts) =
    let own : List ℕ = written_answer (answer_to served context) in
    omega (
      arith,
      length-append own (flat_map written_answer (map (answer_to served) contexts)),
      answer_len (same_syntax context.1 served) (offers_ndr context.2),
      answers_len served contexts,
    )

ack_body_len : (served : Syntax) (call receive : ℕ) (contexts : List (ℕ × Syntax × List Syntax)) (context : ℕ) →
    length (written_body (sealed_ack_of served call receive contexts context).body) ≡ 16 + 24 * length contexts
unfolding zeros written_address
ack_body_len served call receive contexts context = omega (arith, answers_len served contexts)

pub sealed_ack_short : (served : Syntax) (call receive : ℕ) (contexts : List (ℕ × Syntax × List Syntax)) (context : ℕ) → length contexts ≤ 241 →
    length (written (sealed_ack_of served call receive contexts context)) ≤ 5840
sealed_ack_short served call receive contexts context few =
    let ack : RpcUnit = sealed_ack_of served call receive contexts context in
    let body = written_body ack.body in
    omega (
      arith,
      length_written ack,
      length-append body (written_tail (length body) ack.trailer),
      ack_body_len served call receive contexts context,
      tail_len context (length body) ack_value,
      few,
    )

-- a bind of a channel that seals is sent as one whole unit
pub sealed_bind_whole : (interface : Syntax) (call : ℕ) (value : List ℕ) → length interface.uuid ≡ 16 → AreBytes interface.uuid → interface.version < 2 ^ 32 → call < 2 ^ 32 → 0 < length value → length value ≤ 138 →
    AreBytes value → IsWholeSend (written (sealed_bind_of interface call value))
unfolding joined_of
sealed_bind_whole interface call value uuid are version number some few bytes =
    single_whole (sealed_bind_of interface call value) (record {
      writable = sealed_bind_writable interface call value some;
      range = record { call = number; body = (omega arith, omega arith, omega arith, ((omega arith, (uuid, version), ((refl, omega arith), tt)), tt)); trailer = omega arith };
      short = sealed_bind_short interface call value uuid few;
    }) (((are, (syntax_of_bytes ndr_syntax refl, tt)), tt), record { kind = omega arith; level = omega arith; value = bytes }) refl
