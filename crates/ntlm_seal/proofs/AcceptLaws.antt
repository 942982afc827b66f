-- When a signature is accepted: exactly where it is the one of the next unit.
use Rattle.std.proofs.Common.{◌≡◌, ℕ, zero, suc, ◌+◌, ◌-◌, ◌^◌, ◌<◌, ◌≤◌, Bool, true, false, List, [], ◌∷◌, ◌++◌, length, get_or, take, drop, refl, ap, sym, ◌∙◌, arith, lit<, lit≤, eq-eqb}
use Rattle.std.proofs.lemmas.Bool.{eqb-true, ne_eqb}
use Rattle.std.proofs.lemmas.List.{take_all, drop_at, length-take-le, length-drop, get_or-drop}
use Rattle.std.proofs.lemmas.Nat.{from_le_bytes-to_le_bytes_4, le_bytes_4}
use Rattle.std.proofs.lemmas.Slice.Eq.{bytes_eq-Decides}
use Rattle.std.proofs.Math.Seq.{take-append_seam, take-add}
use Rattle.std.specs.Int.{w32, to_le_bytes, from_le_bytes}
use Rattle.std.specs.Prelude.{bytes_eq, ◌==◌, Result, Ok, Err}
use Rattle.digest_parts.proofs.Laws.{length-hmac_of}
use Rattle.rc4_stream.proofs.Rc4Laws.{length-applied}
use Rattle.ntlm_seal.specs.declared.refusal.SealRefused.{SealRefused}
use Rattle.ntlm_seal.specs.Directions.{Direction, checksum_of, sent_form_by, sent_checksum, signature_of, version_in, checksum_in, number_in}
use Rattle.ntlm_seal.specs.Sessions.{last_number, is_spent, expect_by, expect, compare_by, verdict_by, verdict_of}

-- ---- lengths

pub length-checksum_of : (key : List ℕ) (number : ℕ) (plain : List ℕ) → length (checksum_of key number plain) ≡ 8
unfolding checksum_of
length-checksum_of key number plain =
    length-take-le 8 _ (omega (arith, length-hmac_of key (to_le_bytes w32 number ++ plain)))

length-sent_form_by : (exchange : Bool) (key : List ℕ) (used : ℕ) (checksum : List ℕ) → length (sent_form_by exchange key used checksum) ≡ length checksum
length-sent_form_by true key used checksum = length-applied key used checksum
length-sent_form_by false key used checksum = refl

pub length-sent_checksum : (d : Direction) (plain : List ℕ) (range : ℕ) → length (sent_checksum d plain range) ≡ 8
unfolding sent_checksum
length-sent_checksum d plain range =
    length-sent_form_by d.key_exchange d.sealing_key (d.used + range) _ ∙ length-checksum_of d.signing_key d.number plain

-- ---- the parts of a written signature

pub version_in-signature_of : (d : Direction) (plain : List ℕ) (from to : ℕ) → version_in (signature_of d plain from to) ≡ 1
unfolding signature_of
version_in-signature_of d plain from to = refl

-- what follows the version, past its 4 bytes
rest_of : (b c : List ℕ) → drop 4 ((to_le_bytes w32 1 ++ b) ++ c) ≡ b ++ c
rest_of b c = refl

rest_past : (b c : List ℕ) → length b ≡ 8 → drop 12 ((to_le_bytes w32 1 ++ b) ++ c) ≡ c
rest_past b c eight = drop_at b c 8 eight

pub checksum_in-signature_of : (d : Direction) (plain : List ℕ) (from to : ℕ) → checksum_in (signature_of d plain from to) ≡ sent_checksum d plain (to - from)
unfolding signature_of
checksum_in-signature_of d plain from to =
    let b = sent_checksum d plain (to - from) in
    let c = to_le_bytes w32 d.number in
    ap (λ n. take n (b ++ c)) (sym (length-sent_checksum d plain (to - from))) ∙ take-append_seam b c

pub number_in-signature_of : (d : Direction) (plain : List ℕ) (from to : ℕ) → d.number < 2 ^ 32 → number_in (signature_of d plain from to) ≡ d.number
unfolding signature_of
number_in-signature_of d plain from to small =
    let b = sent_checksum d plain (to - from) in
    let c = to_le_bytes w32 d.number in
    ap (λ xs. from_le_bytes w32 (take 4 xs)) (rest_past b c (length-sent_checksum d plain (to - from)))
    ∙ from_le_bytes-to_le_bytes_4 d.number small

-- ---- a signature of its parts

take_bytes : (n : ℕ) (xs : List ℕ) → ((i : ℕ) → get_or xs i 0 < 256) → (i : ℕ) → get_or (take n xs) i 0 < 256
take_bytes zero xs h i = lit< tt
take_bytes (suc n) [] h i = lit< tt
take_bytes (suc n) (x ∷ xs) h zero = h zero
take_bytes (suc n) (x ∷ xs) h (suc i) = take_bytes n xs (λ j. h (suc j)) i

drop_bytes : (n : ℕ) (xs : List ℕ) → ((i : ℕ) → get_or xs i 0 < 256) → (i : ℕ) → get_or (drop n xs) i 0 < 256
drop_bytes n xs h i = omega (arith, get_or-drop n xs i 0, h (n + i))

-- 16 bytes are the first 4, the 8 after them and the last 4
three_parts : (s : List ℕ) → length s ≡ 16 → (take 4 s ++ take 8 (drop 4 s)) ++ take 4 (drop 12 s) ≡ s
three_parts s sixteen =
    ap (λ x. x ++ take 4 (drop 12 s)) (sym (take-add 4 8 s)) ∙ sym (take-add 12 4 s) ∙ take_all 16 s (omega arith)

-- the bytes of a number that was read from 4 bytes are these bytes
read_back : (s : List ℕ) (at n : ℕ) → length s ≡ 16 → at + 4 ≤ 16 → ((i : ℕ) → get_or s i 0 < 256) → from_le_bytes w32 (take 4 (drop at s)) ≡ n → to_le_bytes w32 n ≡ take 4 (drop at s)
read_back s at n sixteen within bytes e =
    le_bytes_4 (take 4 (drop at s)) n (length-take-le 4 (drop at s) (omega (arith, length-drop at s))) (take_bytes 4 (drop at s) (drop_bytes at s bytes)) (sym e)

-- ---- the tests

expect_true : (spent version number : Bool) (d : Direction) (s : List ℕ) → expect_by spent version number d s ≡ Ok tt → (version ≡ true) × (number ≡ true)
expect_true true version number d s e = absurd (let no : ⊥ = cc in no)
expect_true false false number d s e = absurd (let no : ⊥ = cc in no)
expect_true false true false d s e = absurd (let no : ⊥ = cc in no)
expect_true false true true d s e = (refl, refl)

verdict_true : (answer : Result Unit SealRefused) (same : Bool) → verdict_by answer same ≡ Ok tt → (answer ≡ Ok tt) × (same ≡ true)
verdict_true (Ok tt) true e = (refl, refl)
verdict_true (Ok tt) false e = absurd (let no : ⊥ = cc in no)
verdict_true (Err r) same e = absurd (let no : ⊥ = cc in no)

-- ---- accepted exactly where it is the signature of the next unit

pub verdict_accepts : (d : Direction) (plain : List ℕ) (from to : ℕ) (s : List ℕ) → length s ≡ 16 → ((i : ℕ) → get_or s i 0 < 256) → verdict_of d plain from to s ≡ Ok tt → s ≡ signature_of d plain from to
unfolding signature_of
verdict_accepts d plain from to s sixteen bytes e =
    let parts = verdict_true (expect d s) (bytes_eq (checksum_in s) (sent_checksum d plain (to - from))) e in
    let numbers = expect_true (is_spent d) (version_in s == 1) (number_in s == d.number) d s parts.0 in
    let version : to_le_bytes w32 1 ≡ take 4 s = read_back s 0 1 sixteen (lit≤ tt) bytes (eqb-true (version_in s) 1 numbers.0) in
    let number : to_le_bytes w32 d.number ≡ take 4 (drop 12 s) = read_back s 12 d.number sixteen (lit≤ tt) bytes (eqb-true (number_in s) d.number numbers.1) in
    let checksum : checksum_in s ≡ sent_checksum d plain (to - from) = (bytes_eq-Decides (checksum_in s) (sent_checksum d plain (to - from))).0 parts.1 in
    sym (three_parts s sixteen)
    ∙ ap (λ x. (x ++ checksum_in s) ++ take 4 (drop 12 s)) (sym version)
    ∙ ap (λ x. (to_le_bytes w32 1 ++ x) ++ take 4 (drop 12 s)) checksum
    ∙ ap (λ x. (to_le_bytes w32 1 ++ sent_checksum d plain (to - from)) ++ x) (sym number)

pub verdict_of-signature_of : (d : Direction) (plain : List ℕ) (from to : ℕ) → d.number < 2 ^ 32 - 1 → verdict_of d plain from to (signature_of d plain from to) ≡ Ok tt
verdict_of-signature_of d plain from to room =
    let s = signature_of d plain from to in
    let spent : is_spent d ≡ false = ne_eqb d.number last_number (λ (same : d.number ≡ last_number). omega arith) in
    let version : (version_in s == 1) ≡ true = eq-eqb (version_in s) 1 (version_in-signature_of d plain from to) in
    let number : (number_in s == d.number) ≡ true = eq-eqb (number_in s) d.number (number_in-signature_of d plain from to (omega arith)) in
    let checksum : bytes_eq (checksum_in s) (sent_checksum d plain (to - from)) ≡ true = (bytes_eq-Decides (checksum_in s) (sent_checksum d plain (to - from))).1 (checksum_in-signature_of d plain from to) in
    ap (λ b. verdict_by (expect_by b (version_in s == 1) (number_in s == d.number) d s) (bytes_eq (checksum_in s) (sent_checksum d plain (to - from)))) spent
    ∙ ap (λ b. verdict_by (expect_by false b (number_in s == d.number) d s) (bytes_eq (checksum_in s) (sent_checksum d plain (to - from)))) version
    ∙ ap (λ b. verdict_by (expect_by false true b d s) (bytes_eq (checksum_in s) (sent_checksum d plain (to - from)))) number
    ∙ ap compare_by checksum
