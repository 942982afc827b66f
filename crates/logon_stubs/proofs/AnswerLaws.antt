-- The law `answers_are_long`: a reply to a Logon call with an authenticator has more than 16 bytes.
use Rattle.std.proofs.Common.{◌≡◌, ℕ, ◌+◌, ◌≤◌, Bool, true, false, List, ◌++◌, length, Option, Some, Ok, sym, ap, ◌∙◌, arith}
use Rattle.std.proofs.lemmas.List.{length-append}
use Rattle.std.specs.Int.{Width, w16, w32, byte_len, to_le_bytes}
use Rattle.wire_base.proofs.NumberLaws.{length-to_le_bytes}
use Rattle.wire_base.specs.Numbers.{AreBytes}
use Rattle.wire_base.specs.declared.authenticator.Authenticator.{Authenticator}
use Rattle.ndr_codec.specs.Layout.{IsNumber, padding}
use Rattle.ndr_codec.specs.Writing.{aligned}
use Rattle.ndr_codec.specs.Parts.{pointed, unique}
use Rattle.ndr_codec.specs.Stub.{Begins, HasLayout}
use Rattle.logon_stubs.specs.Calls.{IsReply, logon_reply, reply_of}
use Rattle.logon_stubs.specs.Writing.{put_auth_reply, written_reply}
use Rattle.logon_stubs.specs.Structures.{authenticator}
use Rattle.logon_stubs.specs.declared.calls.AuthReply.{AuthReply}
use Rattle.logon_stubs.specs.declared.calls.LogonReply.{LogonReply}
use Rattle.logon_stubs.specs.declared.calls.Reply.TheVariants as reply
use Rattle.logon_stubs.proofs.CallLaws.{reply_of-IsReply}
use Rattle.logon_stubs.specs.Answers.{AnswersAreLong}

number_len : (w : Width) (place value : ℕ) (bytes : List ℕ) → IsNumber w place value bytes → byte_len w ≤ length bytes
number_len w place value bytes is =
    let whole : length bytes ≡ length is.layout.gap + length (to_le_bytes w value) = ap length is.layout.whole ∙ length-append is.layout.gap (to_le_bytes w value) in
    omega (arith, whole, length-to_le_bytes w value)

-- an authenticator has 12 bytes at least
authenticator_len : (place : ℕ) (given : Authenticator) (bytes : List ℕ) → HasLayout authenticator place given bytes → 12 ≤ length bytes
unfolding authenticator
authenticator_len place given bytes has =
    let outer : length bytes ≡ length has.front + length has.back = ap length has.split ∙ length-append has.front has.back in
    let credential : length has.front ≡ 8 = ap length has.head_is.1 ∙ has.head_is.0 in
    let inner : length has.back ≡ length has.rest_is.front + length has.rest_is.back = ap length has.rest_is.split ∙ length-append has.rest_is.front has.rest_is.back in
    let four : 4 ≤ length has.rest_is.front = number_len w32 _ _ has.rest_is.front has.rest_is.head_is in
    omega (arith, outer, credential, inner, four)

-- a pointer to one, where it points to one, 16
given_len : (there : Bool) (place : ℕ) (returned : Option Authenticator) (given : Authenticator) (bytes : List ℕ) → returned ≡ Some given →
    HasLayout (pointed authenticator there) place returned bytes → 12 ≤ length bytes
given_len false place returned given bytes is has = absurd (let x = sym is ∙ has.0 in cc)
given_len true place returned given bytes is has =
    let outer : length bytes ≡ length has.front + length has.back = ap length has.split ∙ length-append has.front has.back in
    let twelve : 12 ≤ length has.front = authenticator_len place has.head has.front has.head_is in
    omega (arith, outer, twelve)

unique_len : (place : ℕ) (returned : Option Authenticator) (given : Authenticator) (bytes : List ℕ) → returned ≡ Some given → HasLayout (unique authenticator) place returned bytes →
    16 ≤ length bytes
unfolding unique
unique_len place returned given bytes is has =
    let outer : length bytes ≡ length has.front + length has.back = ap length has.split ∙ length-append has.front has.back in
    let four : 4 ≤ length has.front = number_len w32 place has.head_is.referent has.front has.head_is.number in
    let twelve : 12 ≤ length has.back = given_len has.head (place + length has.front) returned given has.back is has.rest_is in
    omega (arith, outer, four, twelve)

reply_len : (r : LogonReply) (given : Authenticator) (bytes : List ℕ) → r.returned ≡ Some given → HasLayout logon_reply 0 r bytes → 17 ≤ length bytes
unfolding logon_reply
reply_len r given bytes is has =
    let made : r.returned ≡ has.head = ap (λ (one : LogonReply). one.returned) has.rest_is.rest_is.rest_is.rest_is.rest_is.0 in
    let outer : length bytes ≡ length has.front + length has.back = ap length has.split ∙ length-append has.front has.back in
    let inner : length has.back ≡ length has.rest_is.front + length has.rest_is.back = ap length has.rest_is.split ∙ length-append has.rest_is.front has.rest_is.back in
    let sixteen : 16 ≤ length has.front = unique_len 0 has.head given has.front (sym made ∙ is) has.head_is in
    let two : 2 ≤ length has.rest_is.front = number_len w16 _ _ has.rest_is.front has.rest_is.head_is in
    omega (arith, outer, inner, sixteen, two)

begins_len : (stub : List ℕ) (r : LogonReply) (given : Authenticator) → r.returned ≡ Some given → Begins logon_reply r stub → 17 ≤ length stub
begins_len stub r given is begins =
    let whole : length stub ≡ length begins.bytes + length begins.rest = ap length begins.whole ∙ length-append begins.bytes begins.rest in
    let long : 17 ≤ length begins.bytes = reply_len r given begins.bytes is begins.has_layout in
    omega (arith, whole, long)

answer_len : (stub : List ℕ) (r : LogonReply) (given : Authenticator) → AreBytes stub → reply_of 2 stub ≡ Ok (reply.Logon r) → r.returned ≡ Some given → 17 ≤ length stub
unfolding IsReply
answer_len stub r given bytes read is = begins_len stub r given is (reply_of-IsReply 2 stub (reply.Logon r) bytes read).1

-- ---- the reply to an opening

at_eight : (item : List ℕ) (place : ℕ) → place ≡ 8 → length (aligned 4 item place) ≡ length item
unfolding aligned padding
at_eight item place is = ap (λ (p : ℕ). length (aligned 4 item p)) is

at_twelve : (item : List ℕ) (place : ℕ) → place ≡ 12 → length (aligned 4 item place) ≡ length item
unfolding aligned padding
at_twelve item place is = ap (λ (p : ℕ). length (aligned 4 item p)) is

opened_len : (r : AuthReply) → length r.credential ≡ 8 → length (written_reply (reply.Authenticate r)) ≡ 16
unfolding written_reply put_auth_reply
opened_len r eight =
    let flags : List ℕ = to_le_bytes w32 r.flags in
    let status : List ℕ = to_le_bytes w32 r.status in
    let one : List ℕ = aligned 4 flags (length r.credential) in
    let first : length one ≡ 4 = at_eight flags (length r.credential) eight ∙ length-to_le_bytes w32 r.flags in
    let front : length (r.credential ++ one) ≡ 12 = omega (arith, length-append r.credential one, eight, first) in
    let other : List ℕ = aligned 4 status (length (r.credential ++ one)) in
    let second : length other ≡ 4 = at_twelve status (length (r.credential ++ one)) front ∙ length-to_le_bytes w32 r.status in
    let whole : length ((r.credential ++ one) ++ other) ≡ 16 = omega (arith, length-append (r.credential ++ one) other, front, second) in
    whole

pub answers_are_long : AnswersAreLong
answers_are_long = record {
  answer = answer_len;
  opened = opened_len;
  apart = λ r other given eight bytes read is.
      let long = answer_len (written_reply (reply.Authenticate r)) other given bytes read is in
      let short = opened_len r eight in
      omega (arith, long, short);
}
