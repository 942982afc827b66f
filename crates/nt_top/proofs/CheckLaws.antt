-- `check` in the field's own words: what is asked is answered by whether the response verifies.
use Rattle.std.proofs.Common.{◌≡◌, inl, inr, ℕ, Bool, true, false, List, Result, Ok, Err, refl, sym, ap, subst, ◌∙◌}
use Rattle.std.specs.Bool.{Decides}
use Rattle.hex.specs.Hex.{decode_of, decode_sized}
use Rattle.hex.specs.declared.error.FromHexError.{FromHexError}
use Rattle.ntlm_messages.specs.Authenticate.{authenticate_of, IsAuthenticate}
use Rattle.ntlm_messages.specs.declared.messages.Authenticate.{Authenticate}
use Rattle.ntlm_messages.specs.declared.refused.MessageRefused.{MessageRefused}
use Rattle.ntlm_messages.proofs.AuthenticateLaws.{authenticate_found, authenticate_only}
use Rattle.ntlm_responses.proofs.VerificationLaws.{verifies-Decides}
use Rattle.nt_top.specs.declared.answer.Answer.{Answer}
use Rattle.nt_top.specs.declared.exit.Exit.{Exit}
use Rattle.nt_top.specs.declared.exit.Exit.TheVariants.{BadInput}
use Rattle.nt_top.specs.Causes.{HoldsNoMessage, IsBadOfCheck}
use Rattle.nt_top.specs.Check.{check_answer, judged, verdict_answer, accepts_of, Accepts}
use Rattle.nt_top.specs.Needs.{needs}
use Rattle.nt_top.proofs.NeedsLaws.{ok_injective, ok_no_err, ok_or_err, needs_ok, needs_err, needs_refused, needs_taken, is_hex, is_no_hex, hex_read, hex_refused}

-- ---- words of their forms

pub check_answer-is : (h c m bytes hash challenge : List ℕ) (message : Authenticate) → decode_sized h 16 ≡ Ok hash → decode_sized c 8 ≡ Ok challenge →
    decode_of m ≡ Ok bytes → authenticate_of bytes ≡ Ok message → check_answer h c m ≡ Ok (verdict_answer (accepts_of hash challenge message))
unfolding check_answer judged
check_answer-is h c m bytes hash challenge message p q r s = rw (p, q, r, s) refl

not_true : (b : Bool) → (b ≡ true → ⊥) → b ≡ false
not_true true wrong = absurd (wrong refl)
not_true false wrong = refl

-- the test decides the fact
pub decided : (hash challenge : List ℕ) (message : Authenticate) → Decides (accepts_of hash challenge message) (Accepts hash challenge message)
decided hash challenge message = verifies-Decides _ _ _ _ _

pub accepts_is : (hash challenge : List ℕ) (message : Authenticate) → Accepts hash challenge message → accepts_of hash challenge message ≡ true
accepts_is hash challenge message accepts = (decided hash challenge message).1 accepts

pub refuses_is : (hash challenge : List ℕ) (message : Authenticate) → ¬ Accepts hash challenge message → accepts_of hash challenge message ≡ false
refuses_is hash challenge message wrong = not_true _ (λ yes. wrong ((decided hash challenge message).0 yes))

-- ---- an answer says what the words hold

pub record Checked (h c m : List ℕ) (answer : Answer) : Type 0 where
  pub hash : List ℕ
  pub challenge : List ℕ
  pub bytes : List ℕ
  pub message : Authenticate
  pub hash_is : decode_sized h 16 ≡ Ok hash
  pub challenge_is : decode_sized c 8 ≡ Ok challenge
  pub bytes_are : decode_of m ≡ Ok bytes
  pub message_is : IsAuthenticate bytes message
  pub answer_is : answer ≡ verdict_answer (accepts_of hash challenge message)

judged_ok : (hash challenge bytes : List ℕ) (answer : Answer) → judged hash challenge bytes ≡ Ok answer →
    (message : Authenticate) × (authenticate_of bytes ≡ Ok message) × (answer ≡ verdict_answer (accepts_of hash challenge message))
unfolding judged
judged_ok hash challenge bytes answer e =
    let read = needs_ok 3 (authenticate_of bytes) _ answer e in
    (read.0, read.1, sym (ok_injective read.2))

pub check_ok : (h c m : List ℕ) (answer : Answer) → check_answer h c m ≡ Ok answer → Checked h c m answer
unfolding check_answer
check_ok h c m answer e =
    let one = needs_ok 1 (decode_sized h 16) _ answer e in
    let two = needs_ok 2 (decode_sized c 8) _ answer one.2 in
    let three = needs_ok 3 (decode_of m) _ answer two.2 in
    let end = judged_ok one.0 two.0 three.0 answer three.2 in record {
      hash = one.0;
      challenge = two.0;
      bytes = three.0;
      message = end.0;
      hash_is = one.1;
      challenge_is = two.1;
      bytes_are = three.1;
      message_is = authenticate_found three.0 end.0 end.1;
      answer_is = end.2;
    }

-- ---- words that aren't of their forms

same_bytes : {E : Type 0} (r : Result (List ℕ) E) (a b : List ℕ) → r ≡ Ok a → r ≡ Ok b → a ≡ b
same_bytes r a b p q = ok_injective (sym p ∙ q)

no_hex_holds_none : (m : List ℕ) (refused : FromHexError) → decode_of m ≡ Err refused → HoldsNoMessage m
no_hex_holds_none m refused e bytes message is _ = ok_no_err _ bytes refused is e

refused_holds_none : (m bytes : List ℕ) (refused : MessageRefused) → decode_of m ≡ Ok bytes → authenticate_of bytes ≡ Err refused → HoldsNoMessage m
refused_holds_none m bytes refused here e other message is holds =
    ok_no_err _ message refused (authenticate_only bytes message (subst (λ (b : List ℕ). IsAuthenticate b message) (same_bytes _ other bytes is here) holds)) e

judged_err : (hash challenge m bytes : List ℕ) (exit : Exit) → decode_of m ≡ Ok bytes → judged hash challenge bytes ≡ Err exit → (exit ≡ BadInput 3) × HoldsNoMessage m
unfolding judged
judged_err hash challenge m bytes exit here e =
    elim (needs_err 3 (authenticate_of bytes) _ exit e) [
      | inl bad ↦ (bad.2, refused_holds_none m bytes bad.0 here bad.1)
      | inr read ↦ absurd (let wrong = read.2 in cc)
    ]

-- the exit of a refusal is `BadInput` of the first word that isn't of its form
pub check_err : (h c m : List ℕ) (exit : Exit) → check_answer h c m ≡ Err exit → (number : ℕ) × (exit ≡ BadInput number) × IsBadOfCheck h c m number
unfolding check_answer
check_err h c m exit e =
    elim (needs_err 1 (decode_sized h 16) _ exit e) [
      | inl bad ↦ (1, bad.2, inl (refl, is_no_hex 16 h bad.0 bad.1))
      | inr one ↦ elim (needs_err 2 (decode_sized c 8) _ exit one.2) [
        | inl bad ↦ (2, bad.2, inr (inl (refl, is_hex 16 h one.0 one.1, is_no_hex 8 c bad.0 bad.1)))
        | inr two ↦ elim (needs_err 3 (decode_of m) _ exit two.2) [
          | inl bad ↦ (3, bad.2, inr (inr (refl, is_hex 16 h one.0 one.1, is_hex 8 c two.0 two.1, no_hex_holds_none m bad.0 bad.1)))
          | inr three ↦
              let last = judged_err one.0 two.0 m three.0 exit three.1 three.2 in
              (3, last.0, inr (inr (refl, is_hex 16 h one.0 one.1, is_hex 8 c two.0 two.1, last.1)))
        ]
      ]
    ]

third_refused : (hash challenge m : List ℕ) → HoldsNoMessage m → needs 3 (decode_of m) (λ bytes. judged hash challenge bytes) ≡ Err (BadInput 3)
unfolding judged
third_refused hash challenge m none =
    elim (ok_or_err (decode_of m)) [
      | inl read ↦ elim (ok_or_err (authenticate_of read.0)) [
        | inl message ↦ absurd (none read.0 message.0 read.1 (authenticate_found read.0 message.0 message.1))
        | inr refused ↦ needs_taken 3 (decode_of m) _ read.0 _ read.1 (needs_refused 3 (authenticate_of read.0) _ refused.0 refused.1)
      ]
      | inr refused ↦ needs_refused 3 (decode_of m) _ refused.0 refused.1
    ]

-- a check with a bad word is answered with `BadInput` of its number
pub check_is_bad : (h c m : List ℕ) (number : ℕ) → IsBadOfCheck h c m number → check_answer h c m ≡ Err (BadInput number)
unfolding check_answer
check_is_bad h c m number (inl one) =
    let refused = hex_refused 16 h one.1 in
    needs_refused 1 (decode_sized h 16) _ refused.0 refused.1 ∙ ap (λ (n : ℕ). Err (BadInput n)) (sym one.0)
check_is_bad h c m number (inr (inl two)) =
    let hash = hex_read 16 h two.1 in
    let refused = hex_refused 8 c two.2 in
    needs_taken 1 (decode_sized h 16) _ hash.0 _ hash.1 (needs_refused 2 (decode_sized c 8) _ refused.0 refused.1) ∙ ap (λ (n : ℕ). Err (BadInput n)) (sym two.0)
check_is_bad h c m number (inr (inr three)) =
    let hash = hex_read 16 h three.1 in
    let challenge = hex_read 8 c three.2 in
    needs_taken 1 (decode_sized h 16) _ hash.0 _ hash.1 (needs_taken 2 (decode_sized c 8) _ challenge.0 _ challenge.1 (third_refused hash.0 challenge.0 m three.3))
    ∙ ap (λ (n : ℕ). Err (BadInput n)) (sym three.0)
