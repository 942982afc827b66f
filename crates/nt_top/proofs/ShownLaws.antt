-- `show` in the grammar's own terms: what is asked is answered by the lines of the message that the bytes are.
use Rattle.std.proofs.Common.{◌≡◌, ◌⊎◌, inl, inr, ℕ, ◌≤◌, ◌==◌, Bool, true, false, List, [], ◌∷◌, take, drop, Result, Ok, Err, Option, Some, None, refl, sym, ap, subst, ◌∙◌, arith, if◌then◌else◌}
use Rattle.std.specs.Int.{w32, from_le_bytes}
use Rattle.std.specs.Option.{unwrap_or}
use Rattle.hex.specs.Hex.{decode_of}
use Rattle.hex.proofs.HexLemmas.{decode_of-ok}
use Rattle.wire_base.specs.Numbers.{AreBytes, u32_of}
use Rattle.wire_base.proofs.NumberLaws.{AreBytes-drop, AreBytes-nil, AreBytes-take, number_at-inside}
use Rattle.ntlm_messages.specs.Fields.{IsField, IsHeader}
use Rattle.ntlm_messages.specs.Authenticate.{authenticate_of, IsAuthenticate}
use Rattle.ntlm_messages.specs.Challenge.{challenge_of, IsChallenge}
use Rattle.ntlm_messages.specs.Negotiate.{negotiate_of, IsNegotiate}
use Rattle.ntlm_messages.specs.Pairs.{pair_of, pairs_of, pairs_within, IsPairs}
use Rattle.ntlm_messages.specs.declared.messages.Authenticate.{Authenticate}
use Rattle.ntlm_messages.specs.declared.messages.Challenge.{Challenge}
use Rattle.ntlm_messages.specs.declared.messages.Negotiate.{Negotiate}
use Rattle.ntlm_messages.specs.declared.pairs.PairsRefused.TheVariants.{NoEnd}
use Rattle.ntlm_messages.proofs.AuthenticateLaws.{authenticate_found, authenticate_only}
use Rattle.ntlm_messages.proofs.ChallengeLaws.{challenge_found, challenge_only}
use Rattle.ntlm_messages.proofs.NegotiateLaws.{negotiate_found, negotiate_only}
use Rattle.ntlm_messages.proofs.PairsLaws.{pairs_of_found, pairs_of_only}
use Rattle.nt_top.specs.declared.answer.Answer.{Answer}
use Rattle.nt_top.specs.declared.exit.Exit.{Exit}
use Rattle.nt_top.specs.declared.exit.Exit.TheVariants.{BadInput}
use Rattle.nt_top.specs.Causes.{ShowsNothing}
use Rattle.nt_top.specs.Needs.{needs}
use Rattle.nt_top.specs.Show.{negotiate_lines, challenge_lines, authenticate_lines, info_pairs, lines_by, lines_from, shown, shown_challenge, shown_lines, show_answer, InfoPairs, ShowsAs}
use Rattle.nt_top.proofs.NeedsLaws.{ok_injective, err_injective, ok_no_err, ok_or_err, needs_ok, needs_err}

-- ---- a message says its type

kind_of : (kind size : ℕ) (bytes : List ℕ) → 12 ≤ size → IsHeader kind size bytes → u32_of bytes 8 ≡ Some kind
kind_of kind size bytes long header =
    let inside : u32_of bytes 8 ≡ Some (from_le_bytes w32 (take 4 (drop 8 bytes))) = number_at-inside w32 bytes 8 (omega (arith, header.whole)) in
    let value : from_le_bytes w32 (take 4 (drop 8 bytes)) ≡ kind = sym (ap (λ (o : Option ℕ). unwrap_or o 0) inside) ∙ header.typed in
    inside ∙ ap (λ n. Some n) value

negotiate_by : (bytes : List ℕ) (message : Negotiate) → IsNegotiate bytes message → lines_by 1 bytes ≡ Ok (negotiate_lines message)
unfolding lines_by
negotiate_by bytes message is = rw (negotiate_only bytes message is) refl

-- ---- the pairs of a target information

none_read : pairs_of [] ≡ Err NoEnd
unfolding pairs_of pairs_within pair_of
none_read = refl

some_pairs : (info : List ℕ) (pairs : List (ℕ × List ℕ)) → IsPairs info pairs → info_pairs info ≡ Ok pairs
some_pairs [] pairs is = absurd (ok_no_err (pairs_of []) pairs NoEnd (pairs_of_only [] pairs is) none_read)
some_pairs (byte ∷ bytes) pairs is = pairs_of_only (byte ∷ bytes) pairs is

pairs_only : (info : List ℕ) (pairs : List (ℕ × List ℕ)) → InfoPairs info pairs → info_pairs info ≡ Ok pairs
pairs_only info pairs (inl none) = rw (none.0, none.1) refl
pairs_only info pairs (inr some) = some_pairs info pairs some

pairs_found : (info : List ℕ) (pairs : List (ℕ × List ℕ)) → AreBytes info → info_pairs info ≡ Ok pairs → InfoPairs info pairs
pairs_found [] pairs fits e = inl (refl, sym (ok_injective e))
pairs_found (byte ∷ bytes) pairs fits e = inr (pairs_of_found (byte ∷ bytes) pairs fits e)

field_fits : (place size : ℕ) (bytes part : List ℕ) → AreBytes bytes → IsField place size bytes part → AreBytes part
field_fits place size bytes part fits is =
    elim is.stands [
      | inl none ↦ subst AreBytes (sym none) AreBytes-nil
      | inr some ↦ subst AreBytes some.bytes_are (AreBytes-take _ _ (AreBytes-drop _ bytes fits))
    ]

challenge_by : (bytes : List ℕ) (message : Challenge) (pairs : List (ℕ × List ℕ)) → IsChallenge bytes message → InfoPairs message.info pairs → lines_by 2 bytes ≡ Ok (challenge_lines message pairs)
unfolding lines_by shown_challenge
challenge_by bytes message pairs is info = rw (challenge_only bytes message is) (rw (pairs_only message.info pairs info) refl)

authenticate_by : (bytes : List ℕ) (message : Authenticate) → IsAuthenticate bytes message → lines_by 3 bytes ≡ Ok (authenticate_lines message)
unfolding lines_by
authenticate_by bytes message is = rw (authenticate_only bytes message is) refl

lines_are : (bytes lines : List ℕ) → ShowsAs bytes lines → lines_from (u32_of bytes 8) bytes ≡ Ok lines
lines_are bytes lines (inl shows) =
    rw (kind_of 1 16 bytes (omega arith) shows.1.header, shows.2) (negotiate_by bytes shows.0 shows.1)
lines_are bytes lines (inr (inl shows)) =
    rw (kind_of 2 48 bytes (omega arith) shows.2.header, shows.4) (challenge_by bytes shows.0 shows.1 shows.2 shows.3)
lines_are bytes lines (inr (inr shows)) =
    rw (kind_of 3 64 bytes (omega arith) shows.1.header, shows.2) (authenticate_by bytes shows.0 shows.1)

pub show_answer-is : (text bytes lines : List ℕ) → decode_of text ≡ Ok bytes → lines_from (u32_of bytes 8) bytes ≡ Ok lines → show_answer text ≡ Ok (shown lines)
unfolding show_answer
show_answer-is text bytes lines p q = rw p (rw q refl)

-- ---- what was asked where `show` put lines

choose : {Y : Type 0} (test : Bool) (a b : Result Y Exit) (r : Result Y Exit) → (if test then a else b) ≡ r → (a ≡ r) ⊎ (b ≡ r)
choose true a b r e = inl e
choose false a b r e = inr e

negotiate_shown : (bytes lines : List ℕ) → needs 1 (negotiate_of bytes) (λ message. Ok (negotiate_lines message)) ≡ Ok lines → ShowsAs bytes lines
negotiate_shown bytes lines e =
    let read = needs_ok 1 (negotiate_of bytes) _ lines e in
    inl (read.0, negotiate_found bytes read.0 read.1, sym (ok_injective read.2))

challenge_shown : (bytes lines : List ℕ) → AreBytes bytes → needs 1 (challenge_of bytes) shown_challenge ≡ Ok lines → ShowsAs bytes lines
unfolding shown_challenge
challenge_shown bytes lines fits e =
    let read = needs_ok 1 (challenge_of bytes) shown_challenge lines e in
    let pairs = needs_ok 1 (info_pairs (read.0).info) _ lines read.2 in
    let is = challenge_found bytes read.0 read.1 in
    inr (inl (read.0, pairs.0, is, pairs_found (read.0).info pairs.0 (field_fits _ _ bytes _ fits is.info) pairs.1, sym (ok_injective pairs.2)))

authenticate_shown : (bytes lines : List ℕ) → needs 1 (authenticate_of bytes) (λ message. Ok (authenticate_lines message)) ≡ Ok lines → ShowsAs bytes lines
authenticate_shown bytes lines e =
    let read = needs_ok 1 (authenticate_of bytes) _ lines e in
    inr (inr (read.0, authenticate_found bytes read.0 read.1, sym (ok_injective read.2)))

lines_ok : (kind : ℕ) (bytes lines : List ℕ) → AreBytes bytes → lines_by kind bytes ≡ Ok lines → ShowsAs bytes lines
unfolding lines_by
lines_ok kind bytes lines fits e =
    elim (choose (kind == 1) _ _ (Ok lines) e) [
      | inl one ↦ negotiate_shown bytes lines one
      | inr others ↦ elim (choose (kind == 2) _ _ (Ok lines) others) [
        | inl two ↦ challenge_shown bytes lines fits two
        | inr last ↦ elim (choose (kind == 3) _ _ (Ok lines) last) [
          | inl three ↦ authenticate_shown bytes lines three
          | inr none ↦ cc
        ]
      ]
    ]

from_ok : (kind : Option ℕ) (bytes lines : List ℕ) → AreBytes bytes → lines_from kind bytes ≡ Ok lines → ShowsAs bytes lines
from_ok None bytes lines fits e = cc
from_ok (Some kind) bytes lines fits e = lines_ok kind bytes lines fits e

bytes_fit : (text bytes : List ℕ) → decode_of text ≡ Ok bytes → AreBytes bytes
bytes_fit text bytes e = (decode_of-ok text bytes e).3

shown_lines_ok : (made : Result (List ℕ) Exit) (answer : Answer) → shown_lines made ≡ Ok answer → (lines : List ℕ) × (made ≡ Ok lines) × (answer ≡ shown lines)
shown_lines_ok (Ok lines) answer e = (lines, refl, sym (ok_injective e))
shown_lines_ok (Err exit) answer e = cc

shown_lines_err : (made : Result (List ℕ) Exit) (exit : Exit) → shown_lines made ≡ Err exit → made ≡ Err exit
shown_lines_err (Ok lines) exit e = cc
shown_lines_err (Err other) exit e = ap (λ x. Err x) (err_injective e)

pub show_ok : (text : List ℕ) (answer : Answer) → show_answer text ≡ Ok answer →
    (bytes lines : List ℕ) × (decode_of text ≡ Ok bytes) × ShowsAs bytes lines × (answer ≡ shown lines)
unfolding show_answer
show_ok text answer e =
    let read = needs_ok 1 (decode_of text) _ answer e in
    let made = shown_lines_ok (lines_from (u32_of read.0 8) read.0) answer read.2 in
    (read.0, made.0, read.1, from_ok (u32_of read.0 8) read.0 made.0 (bytes_fit text read.0 read.1) made.1, made.2)

-- ---- the refusals of `show` are of its word

no_refusal : {X : Type 0} (lines : X) (exit other : Exit) → ◌≡◌ {A = Result X Exit} (Ok lines) (Err exit) → exit ≡ other
no_refusal lines exit other e = absurd (let g = e in cc)

refusal_of : {X E : Type 0} (read : Result X E) (rest : X → Result (List ℕ) Exit) (exit : Exit) → ((x : X) → rest x ≡ Err exit → exit ≡ BadInput 1) → needs 1 read rest ≡ Err exit → exit ≡ BadInput 1
refusal_of read rest exit later e =
    elim (needs_err 1 read rest exit e) [
      | inl bad ↦ bad.2
      | inr good ↦ later good.0 good.2
    ]

lines_err : (kind : ℕ) (bytes : List ℕ) (exit : Exit) → lines_by kind bytes ≡ Err exit → exit ≡ BadInput 1
unfolding lines_by shown_challenge
lines_err kind bytes exit e =
    elim (choose (kind == 1) _ _ (Err exit) e) [
      | inl one ↦ refusal_of (negotiate_of bytes) _ exit (λ message f. no_refusal _ exit _ f) one
      | inr others ↦ elim (choose (kind == 2) _ _ (Err exit) others) [
        | inl two ↦ refusal_of (challenge_of bytes) shown_challenge exit (λ message f. refusal_of (info_pairs message.info) _ exit (λ pairs g. no_refusal _ exit _ g) f) two
        | inr last ↦ elim (choose (kind == 3) _ _ (Err exit) last) [
          | inl three ↦ refusal_of (authenticate_of bytes) _ exit (λ message f. no_refusal _ exit _ f) three
          | inr none ↦ sym (err_injective none)
        ]
      ]
    ]

from_err : (kind : Option ℕ) (bytes : List ℕ) (exit : Exit) → lines_from kind bytes ≡ Err exit → exit ≡ BadInput 1
from_err None bytes exit e = sym (err_injective e)
from_err (Some kind) bytes exit e = lines_err kind bytes exit e

show_exit : (text : List ℕ) (exit : Exit) → show_answer text ≡ Err exit → exit ≡ BadInput 1
unfolding show_answer
show_exit text exit e =
    elim (needs_err 1 (decode_of text) _ exit e) [
      | inl bad ↦ bad.2
      | inr read ↦ from_err (u32_of read.0 8) read.0 exit (shown_lines_err _ exit read.2)
    ]

-- the exit of a refusal is `BadInput(1)`, and there is nothing to show
pub show_err : (text : List ℕ) (exit : Exit) → show_answer text ≡ Err exit → (exit ≡ BadInput 1) × ShowsNothing text
show_err text exit e =
    (show_exit text exit e, λ bytes lines is shows. ok_no_err _ (shown lines) exit (show_answer-is text bytes lines is (lines_are bytes lines shows)) e)

pub shown_answer : (text bytes lines : List ℕ) → decode_of text ≡ Ok bytes → ShowsAs bytes lines → show_answer text ≡ Ok (shown lines)
shown_answer text bytes lines is shows = show_answer-is text bytes lines is (lines_are bytes lines shows)

-- a text that shows nothing is answered with `BadInput(1)`
pub show_is_bad : (text : List ℕ) → ShowsNothing text → show_answer text ≡ Err (BadInput 1)
show_is_bad text none =
    elim (ok_or_err (show_answer text)) [
      | inl made ↦
          let found = show_ok text made.0 made.1 in
          absurd (none found.0 found.1 found.2 found.3)
      | inr refused ↦ refused.1 ∙ ap (λ (exit : Exit). Err exit) (show_exit text refused.0 refused.1)
    ]
