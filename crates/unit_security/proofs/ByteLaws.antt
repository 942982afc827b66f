-- What a session signs or seals are bytes, as many as the units had. It serves laws of what ends send.
use Rattle.std.proofs.Common.{◌≡◌, ℕ, ◌+◌, ◌-◌, ◌*◌, ◌<◌, ◌≤◌, ◌==◌, Bool, true, false, List, [], ◌∷◌, ◌++◌, length, take, drop, Option, Some, None, Result, Ok, Err, refl, sym, ap, subst, ◌∙◌, arith, length-append}
use Rattle.std.specs.Prelude.{slice_range}
use Rattle.std.specs.List.{AllByRecursion, flat_map}
use Rattle.std.specs.Int.{w32, to_le_bytes}
use Rattle.std.proofs.lemmas.Bool.Decides.{Decides-eqb}
use Rattle.std.proofs.lemmas.List.{length-take}
use Rattle.wire_base.specs.Numbers.{AreBytes}
use Rattle.wire_base.proofs.NumberLaws.{AreBytes-drop, AreBytes-take, all_from_bytes, bytes_from_all}
use Rattle.digest_parts.specs.Hmac.{hmac_of}
use Rattle.digest_parts.proofs.Laws.{All-hmac_of}
use Rattle.rc4_stream.specs.Rc4.{applied}
use Rattle.rc4_stream.proofs.Rc4Laws.{All-applied}
use Rattle.ntlm_seal.specs.declared.refusal.SealRefused.{SealRefused}
use Rattle.ntlm_seal.specs.Directions.{Direction, checksum_of, combine, sent_checksum, sent_form_by, signature_of}
use Rattle.ntlm_seal.specs.Sessions.{SessionState, is_spent, seal_by, Judgement, judge_of, open_of}
use Rattle.ntlm_seal.proofs.TurnLaws.{length-combine, length-signature_of}
use Rattle.rpc_units.specs.declared.unit.Unit.{Unit as RpcUnit}
use Rattle.rpc_units.specs.Calls.{bytes_of_call}
use Rattle.rpc_units.specs.Joining.{HasStub, cut_of, stub_of}
use Rattle.rpc_units.specs.Sealed.{IsSealedRange}
use Rattle.rpc_units.specs.Sealing.{sealed_of}
use Rattle.rpc_units.specs.Writing.{written}
use Rattle.rpc_units.proofs.CuttingLaws.{call_short}
use Rattle.rpc_units.proofs.SealedLaws.{sealed_of-Some}
use Rattle.end_links.proofs.ByteLaws.{IsBody, IsBytes, IsOfBytes, both, cut_are, is_bytes, number, written_bytes, zero_bytes}
use Rattle.unit_security.specs.declared.securing.Secured.{Secured}
use Rattle.unit_security.specs.Levels.{is_sealed}
use Rattle.unit_security.specs.Securing.{behind, range_by, range_if, range_of, secure_all, secure_call, secure_in, secure_unit, sealed_with, signed_part, signed_with, then_secured, with_room, open_in, open_unit, signature_part, taken_by}

-- ---- what the key stream makes of bytes

applied_bytes : (key : List ℕ) (used : ℕ) (bytes : List ℕ) → AreBytes bytes → AreBytes (applied key used bytes)
applied_bytes key used bytes are = bytes_from_all (applied key used bytes) (All-applied key used bytes (all_from_bytes bytes are))

range_bytes : (bytes : List ℕ) (from to : ℕ) → AreBytes bytes → AreBytes (slice_range bytes from to)
range_bytes bytes from to are = AreBytes-take (to - from) (drop from bytes) (AreBytes-drop from bytes are)

combined_bytes : (d : Direction) (unit : List ℕ) (from to : ℕ) → AreBytes unit → IsBytes (combine d unit from to)
unfolding combine
combined_bytes d unit from to are =
    both (both (is_bytes (take from unit) (AreBytes-take from unit are))
    (is_bytes (applied d.sealing_key d.used (slice_range unit from to)) (applied_bytes d.sealing_key d.used (slice_range unit from to) (range_bytes unit from to are))))
    (is_bytes (drop to unit) (AreBytes-drop to unit are))

-- ---- a signature

checksum_bytes : (key : List ℕ) (count : ℕ) (plain : List ℕ) → AreBytes (checksum_of key count plain)
unfolding checksum_of
checksum_bytes key count plain =
    AreBytes-take 8 (hmac_of key (to_le_bytes w32 count ++ plain)) (bytes_from_all (hmac_of key (to_le_bytes w32 count ++ plain)) (All-hmac_of key (to_le_bytes w32 count ++ plain)))

form_bytes : (exchanged : Bool) (key : List ℕ) (used : ℕ) (checksum : List ℕ) → AreBytes checksum → AreBytes (sent_form_by exchanged key used checksum)
form_bytes true key used checksum are = applied_bytes key used checksum are
form_bytes false key used checksum are = are

sent_bytes : (d : Direction) (plain : List ℕ) (range : ℕ) → AreBytes (sent_checksum d plain range)
unfolding sent_checksum
sent_bytes d plain range =
    form_bytes d.key_exchange d.sealing_key (d.used + range) (checksum_of d.signing_key d.number plain) (checksum_bytes d.signing_key d.number plain)

signature_bytes : (d : Direction) (plain : List ℕ) (from to : ℕ) → IsBytes (signature_of d plain from to)
unfolding signature_of
signature_bytes d plain from to = both (both (number w32 1) (is_bytes (sent_checksum d plain (to - from)) (sent_bytes d plain (to - from)))) (number w32 d.number)

-- ---- one unit

-- bytes, as many as that
pub record IsSized (size : ℕ) (bytes : List ℕ) : Type 0 where
  pub are : AreBytes bytes
  pub size_is : length bytes ≡ size

abbrev pub IfSecured : (List ℕ → Type 0) → Option Secured → Type 0
IfSecured Is None = Unit {0}
IfSecured Is (Some secured) = Is secured.bytes

signed_is : (answer : Result (List ℕ) SealRefused) (unit : List ℕ) (session : SessionState) (size : ℕ) → AreBytes unit → length unit + 16 ≡ size →
    ((signature : List ℕ) → answer ≡ Ok signature → IsSized 16 signature) → IfSecured (IsSized size) (signed_with answer unit session)
signed_is (Err why) unit session size are long so = tt
signed_is (Ok signature) unit session size are long so =
    let one : IsSized 16 signature = so signature refl in
    record { are = (both (is_bytes unit are) (is_bytes signature one.are)).are; size_is = omega (arith, length-append unit signature, one.size_is, long) }

-- whatever the session answers
seals_by : (broken spent seals : Bool) (s : SessionState) (unit : List ℕ) (from to size : ℕ) → AreBytes unit → from ≤ to → to ≤ length unit → length unit + 16 ≡ size →
    IfSecured (IsSized size) (sealed_with (seal_by broken spent s unit from to))
seals_by true spent seals s unit from to size are order within long = tt
seals_by false true seals s unit from to size are order within long = tt
seals_by false false seals s unit from to size are order within long =
    signed_is (Ok (signature_of s.sending unit from to)) (combine s.sending unit from to) (seal_by false false s unit from to).session size (combined_bytes s.sending unit from to are).are
    (omega (arith, length-combine s.sending unit from to order within, long))
    (λ signature is. record {
      are = (let same : signature_of s.sending unit from to ≡ signature = (let x = is in cc) in subst AreBytes same (signature_bytes s.sending unit from to).are);
      size_is = (let same : signature_of s.sending unit from to ≡ signature = (let x = is in cc) in ap length (sym same) ∙ length-signature_of s.sending unit from to);
    })

signs_by : (broken spent : Bool) (s : SessionState) (unit : List ℕ) (size : ℕ) → AreBytes unit → length unit + 16 ≡ size →
    IfSecured (IsSized size) (signed_with (seal_by broken spent s unit 0 0).answer unit (seal_by broken spent s unit 0 0).session)
signs_by true spent s unit size are long = tt
signs_by false true s unit size are long = tt
signs_by false false s unit size are long =
    signed_is (Ok (signature_of s.sending unit 0 0)) unit (seal_by false false s unit 0 0).session size are long
    (λ signature is. record {
      are = (let same : signature_of s.sending unit 0 0 ≡ signature = (let x = is in cc) in subst AreBytes same (signature_bytes s.sending unit 0 0).are);
      size_is = (let same : signature_of s.sending unit 0 0 ≡ signature = (let x = is in cc) in ap length (sym same) ∙ length-signature_of s.sending unit 0 0);
    })

-- the range of a unit, behind which a trailer of 24 bytes follows
pub record IsItsRange (bytes : List ℕ) (range : ℕ × ℕ) : Type 0 where
  pub order : range.0 ≤ range.1
  pub ends : range.1 + 24 ≡ length bytes

secured_in : (seals : Bool) (range : Option (ℕ × ℕ)) (s : SessionState) (bytes : List ℕ) → AreBytes bytes → ((r : ℕ × ℕ) → range ≡ Some r → IsItsRange bytes r) →
    IfSecured (IsSized (length bytes)) (secure_in seals range s bytes)
secured_in seals None s bytes are of = tt
secured_in true (Some range) s bytes are of =
    let is : IsItsRange bytes range = of range refl in
    let part : length (signed_part range bytes) ≡ range.1 + 8 = omega (arith, length-take (range.1 + 8) bytes, is.ends) in
    seals_by s.broken (is_spent s.sending) true s (signed_part range bytes) range.0 range.1 (length bytes) (AreBytes-take (range.1 + 8) bytes are) is.order (omega (arith, part))
    (omega (arith, part, is.ends))
secured_in false (Some range) s bytes are of =
    let is : IsItsRange bytes range = of range refl in
    let part : length (signed_part range bytes) ≡ range.1 + 8 = omega (arith, length-take (range.1 + 8) bytes, is.ends) in
    signs_by s.broken (is_spent s.sending) s (signed_part range bytes) (length bytes) (AreBytes-take (range.1 + 8) bytes are) (omega (arith, part, is.ends))

range_is_if : (ends : Bool) (found range : ℕ × ℕ) (bytes : List ℕ) → (found.1 + 24 == length bytes) ≡ ends → sealed_of bytes ≡ Some found → range_if ends found ≡ Some range → IsItsRange bytes range
range_is_if false found range bytes ends sealed is = absurd (let x = is in cc)
range_is_if true found range bytes ends sealed is =
    let same : found ≡ range = (let x = is in cc) in
    let of : IsSealedRange bytes found.0 found.1 = sealed_of-Some bytes found.0 found.1 sealed in
    subst (IsItsRange bytes) same (record { order = of.in_order; ends = (Decides-eqb (found.1 + 24) (length bytes)).0 ends })

range_is_by : (found : Option (ℕ × ℕ)) (range : ℕ × ℕ) (bytes : List ℕ) → sealed_of bytes ≡ found → range_by found bytes ≡ Some range → IsItsRange bytes range
range_is_by None range bytes sealed is = absurd (let x = is in cc)
range_is_by (Some found) range bytes sealed is = range_is_if (found.1 + 24 == length bytes) found range bytes refl sealed is

pub unit_secured : (seals : Bool) (s : SessionState) (bytes : List ℕ) → AreBytes bytes → IfSecured (IsSized (length bytes)) (secure_unit seals s bytes)
unit_secured seals s bytes are = secured_in seals (range_of bytes) s bytes are (λ range is. range_is_by (sealed_of bytes) range bytes refl is)

-- what is opened are bytes too
taken_are : (answer : Result Unit SealRefused) (s : SessionState) (bytes : List ℕ) → AreBytes bytes → IfSecured AreBytes (taken_by answer s bytes)
taken_are (Err why) s bytes are = tt
taken_are (Ok taken) s bytes are = are

opened_in : (seals : Bool) (range : Option (ℕ × ℕ)) (s : SessionState) (bytes : List ℕ) → AreBytes bytes → IfSecured AreBytes (open_in seals range s bytes)
opened_in seals None s bytes are = tt
opened_in true (Some range) s bytes are =
    let judgement : Judgement = open_of s (signed_part range bytes) range.0 range.1 (signature_part range bytes) in
    taken_are judgement.answer judgement.session (combine s.receiving (signed_part range bytes) range.0 range.1 ++ signature_part range bytes)
    (both (combined_bytes s.receiving (signed_part range bytes) range.0 range.1 (AreBytes-take (range.1 + 8) bytes are))
    (is_bytes (signature_part range bytes) (AreBytes-drop (range.1 + 8) bytes are))).are
opened_in false (Some range) s bytes are =
    let judgement : Judgement = judge_of s (signed_part range bytes) 0 0 (signature_part range bytes) in
    taken_are judgement.answer judgement.session bytes are

pub unit_opened : (seals : Bool) (s : SessionState) (bytes : List ℕ) → AreBytes bytes → IfSecured AreBytes (open_unit seals s bytes)
unit_opened seals s bytes are = opened_in seals (range_of bytes) s bytes are

-- ---- a call

behind_is : (size more : ℕ) (bytes : List ℕ) (later : Option Secured) → IsSized size bytes → IfSecured (IsSized more) later → IfSecured (IsSized (size + more)) (behind bytes later)
behind_is size more bytes None is of = tt
behind_is size more bytes (Some later) is of =
    record { are = (both (is_bytes bytes is.are) (is_bytes later.bytes of.are)).are; size_is = omega (arith, length-append bytes later.bytes, is.size_is, of.size_is) }

then_is : (size more : ℕ) (one : Option Secured) (next : SessionState → Option Secured) → IfSecured (IsSized size) one → ((s : SessionState) → IfSecured (IsSized more) (next s)) →
    IfSecured (IsSized (size + more)) (then_secured one next)
then_is size more None next is later = tt
then_is size more (Some one) next is later = behind_is size more one.bytes (next one.session) is (later one.session)

same_size : (one other : ℕ) (secured : Option Secured) → one ≡ other → IfSecured (IsSized one) secured → IfSecured (IsSized other) secured
same_size one other secured is of = subst (λ (n : ℕ). IfSecured (IsSized n) secured) is of

all_secured : (seals : Bool) (s : SessionState) (units : List RpcUnit) → AllByRecursion IsOfBytes units → IfSecured (IsSized (length (flat_map written units))) (secure_all seals s units)
unfolding secure_all
all_secured seals s [] all = record { are = (zero_bytes 0).are; size_is = refl }
all_secured seals s (unit ∷ units) all =
    same_size (length (written unit) + length (flat_map written units)) (length (flat_map written (unit ∷ units)))
    (then_secured (secure_unit seals s (written unit)) (λ next. secure_all seals next units)) (sym (length-append (written unit) (flat_map written units)))
    (then_is (length (written unit)) (length (flat_map written units)) (secure_unit seals s (written unit)) (λ next. secure_all seals next units)
    (unit_secured seals s (written unit) (written_bytes unit all.0)) (λ next. all_secured seals next units all.1))

-- bytes, at most nine eighths of a stub and 51 more
pub record IsSecured (stub bytes : List ℕ) : Type 0 where
  pub are : AreBytes bytes
  pub few : 8 * length bytes ≤ 9 * length stub + 408

few_of : (stub : List ℕ) (size : ℕ) (secured : Option Secured) → 8 * size ≤ 9 * length stub + 408 → IfSecured (IsSized size) secured → IfSecured (IsSecured stub) secured
few_of stub size None few is = tt
few_of stub size (Some secured) few is = record { are = is.are; few = omega (arith, few, is.size_is) }

pub call_secured : (s : SessionState) (level context : ℕ) (call : RpcUnit) (limit : ℕ) → level < 256 → HasStub call.body → IsBody call.body → 1432 ≤ limit →
    IfSecured (IsSecured (stub_of call.body)) (secure_call s level context call limit)
call_secured s level context call limit below has of least =
    let room : RpcUnit = with_room level context call in
    let bytes : IsOfBytes room = (of, record { kind = omega arith; level = below; value = (zero_bytes 16).are }) in
    few_of (stub_of call.body) (length (bytes_of_call room limit)) (secure_call s level context call limit) (call_short room limit has least (omega arith))
    (all_secured (is_sealed level) s (cut_of room limit) (cut_are room limit bytes))
