-- What a member sends on the links that it accepted is bytes, and no more than an end sends at once. For the law
-- `what_turns_send_is_whole`.
use Rattle.std.proofs.Common.{◌≡◌, ℕ, ◌+◌, ◌%◌, ◌≤◌, ◌<◌, ◌==◌, ◌&&◌, ◌||◌, Bool, true, false, List, [], ◌∷◌, ◌++◌, length, map, Option, Some, None, Result, Ok, Err, nat_le, refl, sym, ap, subst, arith, ◌-◌, ◌/◌, zero, suc, drop}
use Rattle.std.specs.Prelude.{IsTrue}
use Rattle.std.specs.Int.{w16, w32, w64, to_le_bytes}
use Rattle.std.proofs.lemmas.Bool.{leb-true}
use Rattle.std.proofs.lemmas.Bool.Decides.{Decides-eqb}
use Rattle.wire_base.specs.Numbers.{AreBytes}
use Rattle.wire_base.specs.Units.{AreUnits, utf16_of}
use Rattle.wire_base.proofs.NumberLaws.{AreBytes-drop, AreBytes-take, AreBytes-append, AreBytes-cons, AreBytes-nil}
use Rattle.wire_base.proofs.UnitLaws.{AreBytes-utf16_of}
use Rattle.ntlm_messages.specs.Challenge.{written_challenge}
use Rattle.ntlm_messages.specs.Fields.{bytes_of, field_bytes, signature}
use Rattle.ntlm_messages.specs.Negotiate.{negotiate_of}
use Rattle.ntlm_messages.specs.Pairs.{pair_bytes, written_pairs}
use Rattle.ntlm_messages.specs.Places.{challenge_size}
use Rattle.ntlm_messages.specs.declared.messages.Challenge.{Challenge}
use Rattle.ntlm_messages.specs.declared.messages.Negotiate.{Negotiate}
use Rattle.ntlm_messages.specs.declared.refused.MessageRefused.{MessageRefused}
use Rattle.ntlm_seal.specs.Sessions.{SessionState}
use Rattle.rpc_units.specs.declared.unit.Syntax.{Syntax}
use Rattle.rpc_units.specs.declared.unit.Trailer.{Trailer}
use Rattle.rpc_units.specs.declared.unit.Unit.{Unit as RpcUnit}
use Rattle.rpc_units.specs.declared.unit.Body.{Body}
use Rattle.rpc_units.specs.declared.unit.Body.TheVariants.{Bind, BindAck, BindNak, Auth3, Request, Response, Fault}
use Rattle.rpc_units.specs.Calls.{bytes_of_call}
use Rattle.rpc_units.specs.Joining.{grown, kept_by, open_after, stub_of, answer_by, answer_of, given_by, in_place, joined_by, joined_of, stub_len, with_stub}
use Rattle.rpc_units.specs.Numbers.{ntlm_provider}
use Rattle.rpc_units.specs.Writing.{written}
use Rattle.rpc_units.proofs.CuttingLaws.{call_short}
use Rattle.rpc_units.proofs.ShortLaws.{written_short}
use Rattle.rpc_units.proofs.WritingLaws.{length_written}
use Rattle.ndr_codec.specs.Stub.{Begins, HasLayout}
use Rattle.memo_stubs.specs.Interface.{memo_syntax}
use Rattle.memo_stubs.specs.Memo.{FitsEcho, echo_request, echo_request_of, put_who_reply, written_who_reply}
use Rattle.memo_stubs.specs.declared.refused.MemoRefused.{MemoRefused}
use Rattle.memo_stubs.proofs.MemoLaws.{parsed-Begins, reply_stub, request_fits, who_stub}
use Rattle.end_links.specs.Binding.{nak_of}
use Rattle.end_links.specs.Sending.{fault_of, response_of}
use Rattle.end_links.specs.Whole.{IsByteSend}
use Rattle.end_links.proofs.ByteLaws.{IsBytes, both, call_bytes, is_bytes, more, none, number, written_bytes}
use Rattle.end_links.proofs.WholeLaws.{answers_of_bytes}
use Rattle.unit_security.specs.Levels.{is_level}
use Rattle.unit_security.specs.Securing.{secure_call}
use Rattle.unit_security.specs.declared.securing.Secured.{Secured}
use Rattle.unit_security.proofs.ByteLaws.{IfSecured, IsSecured, call_secured}
use Rattle.std.proofs.lemmas.List.{length-map}
use Rattle.rpc_units.specs.declared.kind.Kind.{Kind}
use Rattle.rpc_units.specs.Grammar.{IsBody, IsUnit}
use Rattle.rpc_units.specs.Layout.{body_bytes}
use Rattle.rpc_units.specs.Reading.{unit_of}
use Rattle.rpc_units.proofs.GrammarLaws.{IsUnit-unit_of}
use Rattle.ndr_codec.specs.Layout.{long}
use Rattle.ndr_codec.specs.Writing.{nothing, put, put_array}
use Rattle.logon_stubs.specs.Ranges.{IsBlock}
use Rattle.member_server.specs.Whole.{InRangeJoiner}
use Rattle.member_server.specs.declared.binds.Offer.{Offer}
use Rattle.member_server.specs.declared.memo.Answer.{Answer}
use Rattle.member_server.specs.declared.memo.Answer.TheVariants as answer
use Rattle.member_server.specs.declared.plan.MemberPlan.{MemberPlan}
use Rattle.member_server.specs.Binds.{ack_fits, challenge_ack, challenge_message, challenge_trailer, is_enough, offer_at, offer_by, offer_if, offer_in}
use Rattle.member_server.specs.Memo.{call_answer, memo_answer, echo_answer, stub_limit, who_answer}
use Rattle.member_server.proofs.BindLaws.{ack_short}

-- ---- units without a stub

pub nak_send : (call : ℕ) → IsByteSend (written (nak_of call))
nak_send call = record { are = written_bytes (nak_of call) (tt, tt); short = omega (arith, length_written (nak_of call)) }

pub fault_send : (call context status : ℕ) → IsByteSend (written (fault_of call context status))
fault_send call context status =
    record { are = written_bytes (fault_of call context status) (tt, tt); short = omega (arith, written_short (fault_of call context status) refl tt) }

-- ---- the CHALLENGE

field_are : (part : List ℕ) (offset : ℕ) → IsBytes (field_bytes part offset)
field_are part offset = both (both (number w16 (length part)) (number w16 (length part))) (number w32 offset)

pair_are : (id : ℕ) (value : List ℕ) → IsBytes value → IsBytes (pair_bytes (id, value))
pair_are id value are = both (both (number w16 id) (number w16 (length value))) are

name_are : (name : List ℕ) → IsBytes (utf16_of name)
name_are name = is_bytes (utf16_of name) (AreBytes-utf16_of name)

pairs_are : (domain computer : List ℕ) → IsBytes (written_pairs ((2, utf16_of domain) ∷ (1, utf16_of computer) ∷ []))
unfolding written_pairs
pairs_are domain computer =
    both (both (pair_are 2 (utf16_of domain) (name_are domain)) (both (pair_are 1 (utf16_of computer) (name_are computer)) none)) (pair_are 0 [] none)

signature_are : IsBytes signature
signature_are =
    more 0x4E (omega arith) (more 0x54 (omega arith) (more 0x4C (omega arith) (more 0x4D (omega arith) (more 0x53 (omega arith) (more 0x53 (omega arith)
    (more 0x50 (omega arith) (more 0 (omega arith) none)))))))

message_are : (m : Challenge) → IsBytes m.target → IsBytes m.challenge → IsBytes m.info → IsBytes (written_challenge (record m { version = None }))
unfolding written_challenge
message_are m target challenge info =
    let at : ℕ = challenge_size + length (bytes_of None) in
    both (both (both (both (both (both (both (both (both signature_are (number w32 2)) (field_are m.target at)) (number w32 m.flags)) challenge) (number w64 0))
    (field_are m.info (at + length m.target))) none) target) info

-- ---- what is offered

level_if : (enough : Bool) (trailer : Trailer) (flags : ℕ) (offer : Offer) → offer_if enough trailer flags ≡ Some offer → trailer.level ≡ offer.level
level_if false trailer flags offer is = absurd (let z = is in cc)
level_if true trailer flags offer is = let z = is in cc

level_by : (read : Result Negotiate MessageRefused) (trailer : Trailer) (offer : Offer) → offer_by read trailer ≡ Some offer → trailer.level ≡ offer.level
level_by (Err why) trailer offer is = absurd (let z = is in cc)
level_by (Ok message) trailer offer is = level_if (is_enough trailer.level message.flags) trailer message.flags offer is

level_small : (plain integrity privacy : Bool) (level : ℕ) → (level == 2) ≡ plain → (level == 5) ≡ integrity → (level == 6) ≡ privacy → (plain || (integrity || privacy)) ≡ true → level < 256
level_small true integrity privacy level two five six is = omega (arith, (Decides-eqb level 2).0 two)
level_small false true privacy level two five six is = omega (arith, (Decides-eqb level 5).0 five)
level_small false false true level two five six is = omega (arith, (Decides-eqb level 6).0 six)
level_small false false false level two five six is = absurd (let z = is in cc)

at_small : (ntlm spoken : Bool) (trailer : Trailer) (offer : Offer) → is_level trailer.level ≡ spoken → offer_at (ntlm && spoken) trailer ≡ Some offer → offer.level < 256
at_small false spoken trailer offer is found = absurd (let z = found in cc)
at_small true false trailer offer is found = absurd (let z = found in cc)
at_small true true trailer offer is found =
    let same : trailer.level ≡ offer.level = level_by (negotiate_of trailer.value) trailer offer found in
    let small : trailer.level < 256 = level_small (trailer.level == 2) (trailer.level == 5) (trailer.level == 6) trailer.level refl refl refl is in
    omega (arith, same, small)

-- the level of what is offered is a byte
pub offer_small : (trailer : Option Trailer) (offer : Offer) → offer_in trailer ≡ Some offer → offer.level < 256
offer_small None offer found = absurd (let z = found in cc)
offer_small (Some trailer) offer found = at_small (trailer.kind == ntlm_provider) (is_level trailer.level) trailer offer refl found

pub ack_send : (offer : Offer) (plan : MemberPlan) (call receive : ℕ) (contexts : List (ℕ × Syntax × List Syntax)) (challenge : List ℕ) → offer.level < 256 →
    IsBlock 8 challenge → IsTrue (ack_fits offer plan call receive contexts) → IsByteSend (written (challenge_ack offer plan call receive contexts challenge))
ack_send offer plan call receive contexts challenge small block fits =
    let value : IsBytes (challenge_trailer offer plan challenge).value =
    message_are (challenge_message offer.flags plan challenge) (name_are plan.domain) (is_bytes challenge block.1) (pairs_are plan.domain plan.computer) in
    record {
      are = written_bytes (challenge_ack offer plan call receive contexts challenge)
          (answers_of_bytes memo_syntax contexts, record { kind = omega arith; level = small; value = value.are });
      short = omega (arith, ack_short offer plan call receive contexts challenge block.0 fits);
    }

-- ---- replies

pub plain_send : (call context limit : ℕ) (stub : List ℕ) → 1432 ≤ limit → length stub ≤ stub_limit → AreBytes stub → IsByteSend (bytes_of_call (response_of call context stub) limit)
plain_send call context limit stub least few are = record {
  are = call_bytes (response_of call context stub) limit (are, tt);
  short = omega (arith, call_short (response_of call context stub) limit tt least (omega arith), few);
}

sends_if : (stub : List ℕ) (secured : Option Secured) → length stub ≤ stub_limit → IfSecured (IsSecured stub) secured → IfSecured IsByteSend secured
sends_if stub None few is = tt
sends_if stub (Some secured) few is = record { are = is.are; short = omega (arith, few, is.few) }

pub secured_send : (session : SessionState) (level context call number : ℕ) (stub : List ℕ) (limit : ℕ) → level < 256 → 1432 ≤ limit → length stub ≤ stub_limit → AreBytes stub →
    IfSecured IsByteSend (secure_call session level context (response_of call number stub) limit)
secured_send session level context call number stub limit small least few are =
    sends_if stub (secure_call session level context (response_of call number stub) limit) few (call_secured session level context (response_of call number stub) limit small tt are least)

-- ---- the stubs of answers

-- bytes, few enough for one send
abbrev pub FitsAnswer : Answer → Type 0
FitsAnswer (answer.Stub stub) = AreBytes stub × (length stub ≤ stub_limit)
FitsAnswer (answer.Fault status) = Unit {0}

-- a name is written by its units modulo 2^16
abbrev low : List ℕ → List ℕ
low name = map (λ (unit : ℕ). unit % 65536) name

unit_alike : (n : ℕ) → to_le_bytes w16 (n % 65536) ≡ to_le_bytes w16 n
unit_alike n =
    let first : n % 65536 % 256 ≡ n % 256 = omega arith in
    let second : n % 65536 / 256 % 256 ≡ n / 256 % 256 = omega arith in
    (λ i. first i ∷ second i ∷ [])

low_alike : (name : List ℕ) → utf16_of (low name ++ 0 ∷ []) ≡ utf16_of (name ++ 0 ∷ [])
unfolding utf16_of
low_alike [] = refl
low_alike (unit ∷ name) = (λ i. unit_alike unit i ++ low_alike name i)

low_units : (name : List ℕ) → AreUnits (low name)
low_units [] place = omega arith
low_units (unit ∷ name) zero = omega arith
low_units (unit ∷ name) (suc place) = low_units name place

who_alike : (name : List ℕ) → written_who_reply (low name) ≡ written_who_reply name
unfolding written_who_reply put_who_reply
who_alike name =
    let size : length (low name) ≡ length name = length-map name (λ (unit : ℕ). unit % 65536) in
    (λ i. (put long 0 (put_array (size i + 1) (low_alike name i) nothing)).bytes)

who_fits : (short : Bool) (name : List ℕ) → nat_le (length name) 32767 ≡ short → FitsAnswer (who_answer short name)
who_fits false name is = tt
who_fits true name is =
    let few : length name ≤ 32767 = leb-true (length name) 32767 is in
    let size : length (low name) ≡ length name = length-map name (λ (unit : ℕ). unit % 65536) in
    let stub = who_stub (low name) (omega (arith, size, few)) (low_units name) in (
      subst AreBytes (who_alike name) stub.are_bytes,
      omega (arith, ap length (who_alike name), stub.short, size, few),
    )

behind_are : (front back : List ℕ) → AreBytes (front ++ back) → AreBytes back
behind_are [] back are = are
behind_are (byte ∷ front) back are = behind_are front back (λ place. are (suc place))

before_are : (front back : List ℕ) → AreBytes (front ++ back) → AreBytes front
before_are [] back are = AreBytes-nil
before_are (byte ∷ front) back are = AreBytes-cons byte front (are 0) (before_are front back (λ place. are (suc place)))

layout_are : (place : ℕ) (bytes found : List ℕ) → HasLayout echo_request place bytes found → AreBytes found → AreBytes bytes
unfolding echo_request
layout_are place bytes found is are = subst AreBytes is.rest_is.1.1 (behind_are is.front is.back (subst AreBytes is.split are))

echo_are : (stub bytes : List ℕ) → Begins echo_request bytes stub → AreBytes stub → AreBytes bytes
echo_are stub bytes begins are = layout_are 0 bytes begins.bytes begins.has_layout (before_are begins.bytes begins.rest (subst AreBytes begins.whole are))

echo_fits : (read : Result (List ℕ) MemoRefused) (stub : List ℕ) → AreBytes stub → echo_request_of stub ≡ read → FitsAnswer (echo_answer read)
unfolding echo_request_of
echo_fits (Err why) stub are is = tt
echo_fits (Ok bytes) stub are is =
    let begins : Begins echo_request bytes stub = parsed-Begins echo_request stub are bytes is in
    let few : FitsEcho bytes = request_fits stub bytes begins in
    let reply = reply_stub bytes few (echo_are stub bytes begins are) in
    (reply.are_bytes, omega (arith, reply.short, few))

memo_fits : (who echo : Bool) (name stub : List ℕ) → AreBytes stub → FitsAnswer (memo_answer who echo name stub)
memo_fits true echo name stub are = who_fits (nat_le (length name) 32767) name refl
memo_fits false true name stub are = echo_fits (echo_request_of stub) stub are refl
memo_fits false false name stub are = tt

pub answer_fits : (accepted : Bool) (opnum : ℕ) (name stub : List ℕ) → AreBytes stub → FitsAnswer (call_answer accepted opnum name stub)
answer_fits false opnum name stub are = tt
answer_fits true opnum name stub are = memo_fits (opnum == 0) (opnum == 1) name stub are

-- ---- what is open of a call

other_stub : (body : Body) (stub : List ℕ) → AreBytes stub → AreBytes (stub_of (with_stub body stub))
other_stub (Request hint context opnum old) stub are = are
other_stub (Response hint context old) stub are = are
other_stub (Bind send receive group contexts) stub are = AreBytes-nil
other_stub (BindAck send receive group results) stub are = AreBytes-nil
other_stub (BindNak reason) stub are = AreBytes-nil
other_stub Auth3 stub are = AreBytes-nil
other_stub (Fault hint context status) stub are = AreBytes-nil

grown_are : (joiner : Option RpcUnit) (unit : RpcUnit) → InRangeJoiner joiner → AreBytes (stub_of unit.body) → AreBytes (stub_of (grown joiner unit).body)
grown_are None unit begun are = are
grown_are (Some first) unit begun are =
    other_stub first.body (stub_of first.body ++ stub_of unit.body) (AreBytes-append (stub_of first.body) (stub_of unit.body) begun are)

kept_are : (last : Bool) (unit : RpcUnit) → AreBytes (stub_of unit.body) → InRangeJoiner (kept_by last unit)
kept_are true unit are = tt
kept_are false unit are = are

pub open_are : (joiner : Option RpcUnit) (unit : RpcUnit) → InRangeJoiner joiner → AreBytes (stub_of unit.body) → InRangeJoiner (open_after joiner unit)
open_are joiner unit begun are = kept_are unit.last (grown joiner unit) (grown_are joiner unit begun are)

-- what is given of a fragment
given_are : (last : Bool) (unit whole : RpcUnit) → AreBytes (stub_of unit.body) → given_by last unit ≡ Some whole → AreBytes (stub_of whole.body)
given_are false unit whole are is = absurd (let z = is in cc)
given_are true unit whole are is = let same : unit ≡ whole = (let z = is in cc) in subst (λ (u : RpcUnit). AreBytes (stub_of u.body)) same are

joined_are : (placed fits last : Bool) (unit whole : RpcUnit) → AreBytes (stub_of unit.body) → answer_by (joined_by placed fits unit) last ≡ Ok (Some whole) → AreBytes (stub_of whole.body)
joined_are false fits last unit whole are is = absurd (let z = is in cc)
joined_are true false last unit whole are is = absurd (let z = is in cc)
joined_are true true last unit whole are is = given_are last unit whole are (let z = is in cc)

pub whole_are : (joiner : Option RpcUnit) (unit whole : RpcUnit) → InRangeJoiner joiner → AreBytes (stub_of unit.body) → answer_of joiner unit ≡ Ok (Some whole) → AreBytes (stub_of whole.body)
unfolding joined_of
whole_are joiner unit whole begun are is =
    joined_are (in_place joiner unit) (nat_le (stub_len joiner unit) 65536) unit.last (grown joiner unit) whole (grown_are joiner unit begun are) is

-- ---- the stub of a unit that came

body_stub : (b : Body) (k : Kind) (body : List ℕ) → AreBytes body → IsBody b k body → AreBytes (stub_of b)
body_stub (Request hint context opnum stub) k body are is = subst AreBytes (sym is.1.stub_from) (AreBytes-drop 8 body are)
body_stub (Response hint context stub) k body are is = subst AreBytes (sym is.1.stub_from) (AreBytes-drop 8 body are)
body_stub (Bind send receive group contexts) k body are is = AreBytes-nil
body_stub (BindAck send receive group results) k body are is = AreBytes-nil
body_stub (BindNak reason) k body are is = AreBytes-nil
body_stub Auth3 k body are is = AreBytes-nil
body_stub (Fault hint context status) k body are is = AreBytes-nil

pub stub_are : (bytes : List ℕ) (unit : RpcUnit) → AreBytes bytes → unit_of bytes ≡ Ok unit → AreBytes (stub_of unit.body)
stub_are bytes unit are read =
    let is : IsUnit bytes unit = IsUnit-unit_of bytes unit read in
    body_stub unit.body is.k (body_bytes is.end bytes) (AreBytes-take (is.end - 16) (drop 16 bytes) (AreBytes-drop 16 bytes are)) is.body
