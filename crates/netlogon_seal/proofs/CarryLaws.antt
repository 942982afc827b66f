-- What one end seals the other opens, and nothing else.
use Rattle.std.proofs.Common.{◌≡◌, ℕ, ◌+◌, ◌-◌, ◌^◌, ◌<◌, ◌≤◌, Bool, true, false, List, [], ◌∷◌, ◌++◌, length, get_or, map, take, drop, slice_range, refl, ap, sym, ◌∙◌, arith}
use Rattle.std.proofs.lemmas.Bool.{ne_eqb}
use Rattle.std.proofs.lemmas.List.{append_assoc, drop_at, length-append, length-take-le, length-drop, take-append-drop, take_all}
use Rattle.std.proofs.lemmas.Slice.Eq.{bytes_eq-Decides}
use Rattle.std.proofs.Math.Seq.{take-append_seam, take-add}
use Rattle.std.proofs.lemmas.Nat.{from_be_bytes-to_be_bytes_4}
use Rattle.std.specs.Int.{w32, to_be_bytes, from_be_bytes}
use Rattle.std.specs.List.{AllByRecursion}
use Rattle.std.specs.Prelude.{◌↔◌, not, bytes_eq, ◌==◌, Result, Ok, Err}
use Rattle.md5.specs.Md5.{md5}
use Rattle.digest_parts.proofs.Laws.{length-hmac_of}
use Rattle.rc4_stream.specs.Rc4.{applied}
use Rattle.rc4_stream.proofs.Rc4Laws.{length-applied, applied-applied}
use Rattle.netlogon_seal.specs.declared.refusal.NlRefused.{NlRefused}
use Rattle.netlogon_seal.specs.declared.refusal.NlRefused.TheVariants.{BadSequence}
use Rattle.netlogon_seal.specs.Signatures.{before_signature, signature_in, algorithms, algorithms_in, hidden_number_in, checksum_in, hidden_confounder_in, four_zeros, sender_mark, sequence_bytes, checksum_of, sealing_key_of, sequence_key_of, combine_range, signature_of, sealed_unit, number_in, confounder_in}
use Rattle.netlogon_seal.specs.Channels.{NlState, nl_state_of, Sealing, Opening, seal_by, state_left, last_number, awaited_sequence, plain_of, expect_by, expect, compare_by, verdict_by, checksum_with, verdict_of, seal_of, opening_with, open_of}
use Rattle.netlogon_seal.specs.Runs.{PlainUnit, HasRange, SentUnit, OpenedUnit, whole_opening, Follows, Paired, after_sending, after_taking, next_sealed, next_opened, sealing_done, taking_done, OpensAgain, sealed_again, send_with, send_all, open_all}
use Rattle.netlogon_seal.proofs.SealLaws.{combine-combine, length-combine_range}

-- ---- lengths

pub length-sequence_bytes : (number : ℕ) (requester : Bool) → length (sequence_bytes number requester) ≡ 8
unfolding sequence_bytes
length-sequence_bytes number true = refl
length-sequence_bytes number false = refl

pub length-checksum_of : (key confounder plain : List ℕ) → length (checksum_of key confounder plain) ≡ 8
unfolding checksum_of
length-checksum_of key confounder plain =
    length-take-le 8 _ (omega (arith, length-hmac_of key (md5 (four_zeros ++ algorithms ++ confounder ++ plain))))

-- four parts of 8 bytes
parts_of_four : (a b c d : List ℕ) → length a ≡ 8 → length b ≡ 8 → length c ≡ 8 → length d ≡ 8
    → (take 8 (a ++ b ++ c ++ d) ≡ a) × (slice_range (a ++ b ++ c ++ d) 8 16 ≡ b) × (slice_range (a ++ b ++ c ++ d) 16 24 ≡ c) × (slice_range (a ++ b ++ c ++ d) 24 32 ≡ d)
parts_of_four a b c d la lb lc ld =
    let s = a ++ b ++ c ++ d in
    let e : s ≡ a ++ (b ++ (c ++ d)) = append_assoc (a ++ b) c d ∙ append_assoc a b (c ++ d) in
    let f : s ≡ (a ++ b) ++ (c ++ d) = append_assoc (a ++ b) c d in
    let at8 : drop 8 s ≡ b ++ (c ++ d) = ap (drop 8) e ∙ drop_at a (b ++ (c ++ d)) 8 la in
    let at16 : drop 16 s ≡ c ++ d = ap (drop 16) f ∙ drop_at (a ++ b) (c ++ d) 16 (omega (arith, length-append a b)) in
    let at24 : drop 24 s ≡ d = drop_at (a ++ b ++ c) d 24 (omega (arith, length-append (a ++ b) c, length-append a b)) in (
      ap (take 8) e ∙ ap (λ n. take n (a ++ (b ++ (c ++ d)))) (sym la) ∙ take-append_seam a (b ++ (c ++ d)),
      ap (take 8) at8 ∙ ap (λ n. take n (b ++ (c ++ d))) (sym lb) ∙ take-append_seam b (c ++ d),
      ap (take 8) at16 ∙ ap (λ n. take n (c ++ d)) (sym lc) ∙ take-append_seam c d,
      ap (take 8) at24 ∙ take_all 8 d (omega arith),
    )

-- 32 bytes are four parts of 8
four_of : (s : List ℕ) → length s ≡ 32 → take 8 s ++ slice_range s 8 16 ++ slice_range s 16 24 ++ slice_range s 24 32 ≡ s
four_of s whole =
    ap (λ x. x ++ slice_range s 16 24 ++ slice_range s 24 32) (sym (take-add 8 8 s))
    ∙ ap (λ x. x ++ slice_range s 24 32) (sym (take-add 16 8 s))
    ∙ sym (take-add 24 8 s)
    ∙ take_all 32 s (omega arith)

-- ---- the parts of a unit with its signature

parts_of_unit : (front signature : List ℕ) → length signature ≡ 32 → (before_signature (front ++ signature) ≡ front) × (signature_in (front ++ signature) ≡ signature)
parts_of_unit front signature whole =
    let n : length (front ++ signature) - 32 ≡ length front = omega (arith, length-append front signature) in (
      ap (λ k. take k (front ++ signature)) n ∙ take-append_seam front signature,
      ap (λ k. drop k (front ++ signature)) n ∙ drop_at front signature (length front) refl,
    )

-- ---- the parts of a written signature

pub written_parts : (key : List ℕ) (number : ℕ) (requester : Bool) (plain confounder : List ℕ) → length confounder ≡ 8 → let s = signature_of key number requester plain confounder in
    (length s ≡ 32)
    × (algorithms_in s ≡ algorithms)
    × (hidden_number_in s ≡ applied (sequence_key_of key (checksum_of key confounder plain)) 0 (sequence_bytes number requester))
    × (checksum_in s ≡ checksum_of key confounder plain)
    × (hidden_confounder_in s ≡ applied (sealing_key_of key (sequence_bytes number requester)) 0 confounder)
unfolding signature_of
written_parts key number requester plain confounder eight =
    let b = applied (sequence_key_of key (checksum_of key confounder plain)) 0 (sequence_bytes number requester) in
    let c = checksum_of key confounder plain in
    let d = applied (sealing_key_of key (sequence_bytes number requester)) 0 confounder in
    let lb : length b ≡ 8 = length-applied _ 0 (sequence_bytes number requester) ∙ length-sequence_bytes number requester in
    let lc : length c ≡ 8 = length-checksum_of key confounder plain in
    let ld : length d ≡ 8 = length-applied _ 0 confounder ∙ eight in
    let p = parts_of_four algorithms b c d refl lb lc ld in
    (omega (arith, length-append (algorithms ++ b ++ c) d, length-append (algorithms ++ b) c, length-append algorithms b), p.0, p.1, p.2, p.3)

pub length-signature_of : (key : List ℕ) (number : ℕ) (requester : Bool) (plain confounder : List ℕ) → length confounder ≡ 8 → length (signature_of key number requester plain confounder) ≡ 32
length-signature_of key number requester plain confounder eight = (written_parts key number requester plain confounder eight).0

-- the number that is read in a written signature
pub number_in-signature_of : (key : List ℕ) (number : ℕ) (requester : Bool) (plain confounder : List ℕ) → length confounder ≡ 8 → number_in key (signature_of key number requester plain confounder) ≡ sequence_bytes number requester
unfolding number_in
number_in-signature_of key number requester plain confounder eight =
    let p = written_parts key number requester plain confounder eight in
    ap (λ x. applied (sequence_key_of key x) 0 (hidden_number_in (signature_of key number requester plain confounder))) p.3
    ∙ ap (applied (sequence_key_of key (checksum_of key confounder plain)) 0) p.2
    ∙ applied-applied (sequence_key_of key (checksum_of key confounder plain)) 0 (sequence_bytes number requester)

-- the confounder
pub confounder_in-signature_of : (key : List ℕ) (number : ℕ) (requester : Bool) (plain confounder : List ℕ) → length confounder ≡ 8 → confounder_in key (sequence_bytes number requester) (signature_of key number requester plain confounder) ≡ confounder
unfolding confounder_in
confounder_in-signature_of key number requester plain confounder eight =
    let p = written_parts key number requester plain confounder eight in
    ap (applied (sealing_key_of key (sequence_bytes number requester)) 0) p.4
    ∙ applied-applied (sealing_key_of key (sequence_bytes number requester)) 0 confounder

-- ---- the parts of a sealed unit

pub sealed_parts : (key : List ℕ) (number : ℕ) (requester : Bool) (plain : List ℕ) (from to : ℕ) (confounder : List ℕ) → length confounder ≡ 8
    → (before_signature (sealed_unit key number requester plain from to confounder) ≡ combine_range (sealing_key_of key (sequence_bytes number requester)) plain from to)
    × (signature_in (sealed_unit key number requester plain from to confounder) ≡ signature_of key number requester plain confounder)
unfolding sealed_unit
sealed_parts key number requester plain from to confounder eight =
    parts_of_unit (combine_range (sealing_key_of key (sequence_bytes number requester)) plain from to) (signature_of key number requester plain confounder) (length-signature_of key number requester plain confounder eight)

-- ---- opening

test_same : (xs ys : List ℕ) → xs ≡ ys → bytes_eq xs ys ≡ true
test_same xs ys e = (bytes_eq-Decides xs ys).1 e

same_test : (xs ys : List ℕ) → bytes_eq xs ys ≡ true → xs ≡ ys
same_test xs ys e = (bytes_eq-Decides xs ys).0 e

not_spent : (n : ℕ) → n < 2 ^ 32 - 1 → (n == last_number) ≡ false
not_spent n room = ne_eqb n last_number (λ (same : n ≡ last_number). omega arith)

-- a unit whose parts are those of the next is taken
takes : (s : NlState) (plain signature : List ℕ) → s.received < 2 ^ 32 - 1 → algorithms_in signature ≡ algorithms → number_in s.key signature ≡ awaited_sequence s → checksum_in signature ≡ checksum_with s plain signature → verdict_of s plain signature ≡ Ok tt
takes s plain signature room a n k =
    ap (λ b. verdict_by (expect_by b (bytes_eq (algorithms_in signature) algorithms) (bytes_eq (number_in s.key signature) (awaited_sequence s)) s.received) (bytes_eq (checksum_in signature) (checksum_with s plain signature))) (not_spent s.received room)
    ∙ ap (λ b. verdict_by (expect_by false b (bytes_eq (number_in s.key signature) (awaited_sequence s)) s.received) (bytes_eq (checksum_in signature) (checksum_with s plain signature))) (test_same (algorithms_in signature) algorithms a)
    ∙ ap (λ b. verdict_by (expect_by false true b s.received) (bytes_eq (checksum_in signature) (checksum_with s plain signature))) (test_same (number_in s.key signature) (awaited_sequence s) n)
    ∙ ap compare_by (test_same (checksum_in signature) (checksum_with s plain signature) k)

-- the verdict on the signature of the next unit
pub signature_taken : (s : NlState) (plain confounder : List ℕ) → length confounder ≡ 8 → s.received < 2 ^ 32 - 1 → verdict_of s plain (signature_of s.key s.received (not s.requester) plain confounder) ≡ Ok tt
signature_taken s plain confounder eight room =
    let signature = signature_of s.key s.received (not s.requester) plain confounder in
    let p = written_parts s.key s.received (not s.requester) plain confounder eight in
    takes s plain signature room p.1 (number_in-signature_of s.key s.received (not s.requester) plain confounder eight)
    (p.3 ∙ ap (λ x. checksum_of s.key x plain) (sym (confounder_in-signature_of s.key s.received (not s.requester) plain confounder eight)))

pub opens_next : (s : NlState) (plain confounder : List ℕ) (from to : ℕ) → from ≤ to → to ≤ length plain → length confounder ≡ 8 → s.received < 2 ^ 32 - 1 → open_of s (next_opened s plain from to confounder) from to ≡ taking_done s plain confounder
opens_next s plain confounder from to h within eight room =
    let unit = next_opened s plain from to confounder in
    let signature = signature_of s.key s.received (not s.requester) plain confounder in
    let p = sealed_parts s.key s.received (not s.requester) plain from to confounder eight in
    let back : plain_of s (before_signature unit) from to ≡ plain = ap (λ x. plain_of s x from to) p.0 ∙ combine-combine (sealing_key_of s.key (awaited_sequence s)) plain from to h within in
    ap (λ x. opening_with (verdict_of s x (signature_in unit)) s unit x from to) back
    ∙ ap (λ x. opening_with (verdict_of s plain x) s unit plain from to) p.1
    ∙ ap (λ z. opening_with z s unit plain from to) (signature_taken s plain confounder eight room)
    ∙ ap (λ x. record { answer = Ok tt; unit = plain ++ x; state = record s { received = s.received + 1 } }) p.1

pub plain_again : (s : NlState) (plain confounder : List ℕ) → length confounder ≡ 8 → before_signature (taking_done s plain confounder).unit ≡ plain
plain_again s plain confounder eight =
    (parts_of_unit plain (signature_of s.key s.received (not s.requester) plain confounder) (length-signature_of s.key s.received (not s.requester) plain confounder eight)).0

-- ---- a unit that is taken is the one that the other end seals

expect_true : (spent same next : Bool) (wanted : ℕ) → expect_by spent same next wanted ≡ Ok tt → (same ≡ true) × (next ≡ true)
expect_true true same next wanted e = absurd (let no : ⊥ = cc in no)
expect_true false false next wanted e = absurd (let no : ⊥ = cc in no)
expect_true false true false wanted e = absurd (let no : ⊥ = cc in no)
expect_true false true true wanted e = (refl, refl)

verdict_true : (answer : Result Unit NlRefused) (same : Bool) → verdict_by answer same ≡ Ok tt → (answer ≡ Ok tt) × (same ≡ true)
verdict_true (Ok tt) true e = (refl, refl)
verdict_true (Ok tt) false e = absurd (let no : ⊥ = cc in no)
verdict_true (Err r) same e = absurd (let no : ⊥ = cc in no)

-- a signature that is taken is the one that is written
signature_again : (s : NlState) (plain signature : List ℕ) → length signature ≡ 32 → verdict_of s plain signature ≡ Ok tt → signature ≡ signature_of s.key s.received (not s.requester) plain (confounder_in s.key (awaited_sequence s) signature)
unfolding signature_of number_in confounder_in
signature_again s plain signature whole e =
    let v = verdict_true (expect s signature) (bytes_eq (checksum_in signature) (checksum_with s plain signature)) e in
    let t = expect_true (s.received == last_number) (bytes_eq (algorithms_in signature) algorithms) (bytes_eq (number_in s.key signature) (awaited_sequence s)) s.received v.0 in
    let a : algorithms_in signature ≡ algorithms = same_test (algorithms_in signature) algorithms t.0 in
    let n : applied (sequence_key_of s.key (checksum_in signature)) 0 (hidden_number_in signature) ≡ awaited_sequence s = same_test (number_in s.key signature) (awaited_sequence s) t.1 in
    let k : checksum_in signature ≡ checksum_with s plain signature = same_test (checksum_in signature) (checksum_with s plain signature) v.1 in
    let hidden : hidden_number_in signature ≡ applied (sequence_key_of s.key (checksum_with s plain signature)) 0 (awaited_sequence s) =
    sym (applied-applied (sequence_key_of s.key (checksum_in signature)) 0 (hidden_number_in signature))
    ∙ ap (applied (sequence_key_of s.key (checksum_in signature)) 0) n
    ∙ ap (λ x. applied (sequence_key_of s.key x) 0 (awaited_sequence s)) k in
    let sealed : hidden_confounder_in signature ≡ applied (sealing_key_of s.key (awaited_sequence s)) 0 (applied (sealing_key_of s.key (awaited_sequence s)) 0 (hidden_confounder_in signature)) =
    sym (applied-applied (sealing_key_of s.key (awaited_sequence s)) 0 (hidden_confounder_in signature)) in
    sym (four_of signature whole)
    ∙ ap (λ x. x ++ hidden_number_in signature ++ checksum_in signature ++ hidden_confounder_in signature) a
    ∙ ap (λ x. algorithms ++ x ++ checksum_in signature ++ hidden_confounder_in signature) hidden
    ∙ ap (λ x. algorithms ++ applied (sequence_key_of s.key (checksum_with s plain signature)) 0 (awaited_sequence s) ++ x ++ hidden_confounder_in signature) k
    ∙ ap (λ x. algorithms ++ applied (sequence_key_of s.key (checksum_with s plain signature)) 0 (awaited_sequence s) ++ checksum_with s plain signature ++ x) sealed

pub length_signature_in : (unit : List ℕ) → 32 ≤ length unit → length (signature_in unit) ≡ 32
length_signature_in unit room = omega (arith, length-drop (length unit - 32) unit)

pub length_before : (unit : List ℕ) → 32 ≤ length unit → length (before_signature unit) ≡ length unit - 32
length_before unit room = length-take-le (length unit - 32) unit (omega arith)

length_confounder_in : (key sequence signature : List ℕ) → length signature ≡ 32 → length (confounder_in key sequence signature) ≡ 8
unfolding confounder_in
length_confounder_in key sequence signature whole =
    length-applied (sealing_key_of key sequence) 0 (hidden_confounder_in signature) ∙ length-take-le 8 (drop 24 signature) (omega (arith, length-drop 24 signature))

pub taken_was_sealed : (s : NlState) (unit : List ℕ) (from to : ℕ) → from ≤ to → to + 32 ≤ length unit → (open_of s unit from to).answer ≡ Ok tt → unit ≡ sealed_again s unit from to
unfolding sealed_unit
taken_was_sealed s unit from to h within e =
    let front = before_signature unit in
    let signature = signature_in unit in
    let plain = plain_of s front from to in
    let key = sealing_key_of s.key (awaited_sequence s) in
    let confounder = confounder_in s.key (awaited_sequence s) signature in
    let room : to ≤ length front = omega (arith, length_before unit (omega arith)) in
    let whole : length signature ≡ 32 = length_signature_in unit (omega arith) in
    sym (take-append-drop (length unit - 32) unit)
    ∙ ap (λ x. x ++ signature) (sym (combine-combine key front from to h room))
    ∙ ap (λ x. combine_range key plain from to ++ x) (signature_again s plain signature whole e)

pub sealed_is_taken : (s : NlState) (unit : List ℕ) (from to : ℕ) → from ≤ to → to + 32 ≤ length unit → s.received < 2 ^ 32 - 1 → unit ≡ sealed_again s unit from to → (open_of s unit from to).answer ≡ Ok tt
sealed_is_taken s unit from to h within room e =
    let front = before_signature unit in
    let plain = plain_of s front from to in
    let confounder = confounder_in s.key (awaited_sequence s) (signature_in unit) in
    let lf : length front ≡ length unit - 32 = length_before unit (omega arith) in
    let lp : length plain ≡ length front = length-combine_range (sealing_key_of s.key (awaited_sequence s)) front from to h (omega arith) in
    let eight : length confounder ≡ 8 = length_confounder_in s.key (awaited_sequence s) (signature_in unit) (length_signature_in unit (omega arith)) in
    ap (λ u. (open_of s u from to).answer) e
    ∙ ap (λ (o : Opening). o.answer) (opens_next s plain confounder from to h (omega arith) eight room)

-- ---- a number that isn't the next

marks_differ : (r q : Bool) → sender_mark r ≡ sender_mark q → r ≡ q
marks_differ true true e = refl
marks_differ false false e = refl
marks_differ true false e = absurd (let n : 0x80 ≡ 0 = ap (λ xs. get_or xs 0 0) e in omega arith)
marks_differ false true e = absurd (let n : 0 ≡ 0x80 = ap (λ xs. get_or xs 0 0) e in omega arith)

front_of_sequence : (number : ℕ) (requester : Bool) → take 4 (sequence_bytes number requester) ≡ to_be_bytes w32 number
unfolding sequence_bytes
front_of_sequence number requester = refl

end_of_sequence : (number : ℕ) (requester : Bool) → drop 4 (sequence_bytes number requester) ≡ sender_mark requester
unfolding sequence_bytes
end_of_sequence number requester = refl

pub same_sequence : (n m : ℕ) (r q : Bool) → n < 2 ^ 32 → m < 2 ^ 32 → sequence_bytes n r ≡ sequence_bytes m q → (n ≡ m) × (r ≡ q)
same_sequence n m r q hn hm e =
    let numbers : to_be_bytes w32 n ≡ to_be_bytes w32 m = sym (front_of_sequence n r) ∙ ap (take 4) e ∙ front_of_sequence m q in
    let marks : sender_mark r ≡ sender_mark q = sym (end_of_sequence n r) ∙ ap (drop 4) e ∙ end_of_sequence m q in
    (sym (from_be_bytes-to_be_bytes_4 n hn) ∙ ap (from_be_bytes w32) numbers ∙ from_be_bytes-to_be_bytes_4 m hm, marks_differ r q marks)

false_test : (b : Bool) → (b ≡ true → ⊥) → b ≡ false
false_test true differ = absurd (differ refl)
false_test false differ = refl

pub other_refused : (s : NlState) (number : ℕ) (requester : Bool) (plain confounder : List ℕ) (sealed_from sealed_to from to : ℕ)
    → length confounder ≡ 8 → number < 2 ^ 32 → s.received < 2 ^ 32 - 1 → ((number ≡ s.received) × (requester ≡ not s.requester) → ⊥)
    → (open_of s (sealed_unit s.key number requester plain sealed_from sealed_to confounder) from to).answer ≡ Err (BadSequence s.received)
other_refused s number requester plain confounder sealed_from sealed_to from to eight small room other =
    let unit = sealed_unit s.key number requester plain sealed_from sealed_to confounder in
    let written = signature_of s.key number requester plain confounder in
    let signature = signature_in unit in
    let p = written_parts s.key number requester plain confounder eight in
    let e : signature ≡ written = (sealed_parts s.key number requester plain sealed_from sealed_to confounder eight).1 in
    let a : bytes_eq (algorithms_in signature) algorithms ≡ true = test_same (algorithms_in signature) algorithms (ap (λ x. algorithms_in x) e ∙ p.1) in
    let found : number_in s.key signature ≡ sequence_bytes number requester = ap (number_in s.key) e ∙ number_in-signature_of s.key number requester plain confounder eight in
    let n : bytes_eq (number_in s.key signature) (awaited_sequence s) ≡ false =
    false_test (bytes_eq (number_in s.key signature) (awaited_sequence s)) (λ same. other (same_sequence number s.received requester (not s.requester) small (omega arith) (sym found ∙ same_test (number_in s.key signature) (awaited_sequence s) same))) in
    let same : Bool = bytes_eq (checksum_in signature) (checksum_with s (plain_of s (before_signature unit) from to) signature) in
    ap (λ b. verdict_by (expect_by b (bytes_eq (algorithms_in signature) algorithms) (bytes_eq (number_in s.key signature) (awaited_sequence s)) s.received) same) (not_spent s.received room)
    ∙ ap (λ b. verdict_by (expect_by false b (bytes_eq (number_in s.key signature) (awaited_sequence s)) s.received) same) a
    ∙ ap (λ b. verdict_by (expect_by false true b s.received) same) n

pub repeated_refused : (s : NlState) (unit : List ℕ) (from to : ℕ) → from ≤ to → to + 32 ≤ length unit → s.received + 1 < 2 ^ 32 - 1 → (open_of s unit from to).answer ≡ Ok tt → (open_of (open_of s unit from to).state unit from to).answer ≡ Err (BadSequence (s.received + 1))
repeated_refused s unit from to h within room taken =
    let plain = plain_of s (before_signature unit) from to in
    let confounder = confounder_in s.key (awaited_sequence s) (signature_in unit) in
    let after : NlState = record s { received = s.received + 1 } in
    let eight : length confounder ≡ 8 = length_confounder_in s.key (awaited_sequence s) (signature_in unit) (length_signature_in unit (omega arith)) in
    ap (λ z. (open_of (state_left z s) unit from to).answer) taken
    ∙ ap (λ u. (open_of after u from to).answer) (taken_was_sealed s unit from to h within taken)
    ∙ other_refused after s.received (not s.requester) plain confounder from to from to eight (omega arith) room (λ (same : (s.received ≡ s.received + 1) × (not s.requester ≡ not s.requester)). let e = same.0 in omega arith)

-- ---- both ends of a channel

pub follows_after : (sender receiver : NlState) → Follows sender receiver → Follows (after_sending sender) (after_taking receiver)
follows_after sender receiver f = record { key = f.key; sides = f.sides; numbers = ap (λ n. n + 1) f.numbers }

pub sealing_goes : (s : NlState) (p : PlainUnit) → s.sent < 2 ^ 32 - 1 → seal_of s p.unit p.from p.to p.confounder ≡ sealing_done s p
sealing_goes s p room = ap (λ b. seal_by b s p.unit p.from p.to p.confounder) (not_spent s.sent room)

same_unit : (sender receiver : NlState) (plain : List ℕ) (from to : ℕ) (confounder : List ℕ) → Follows sender receiver → next_sealed sender plain from to confounder ≡ next_opened receiver plain from to confounder
same_unit sender receiver plain from to confounder f =
    ap (λ k. sealed_unit k sender.sent sender.requester plain from to confounder) f.key
    ∙ ap (λ n. sealed_unit receiver.key n sender.requester plain from to confounder) f.numbers
    ∙ ap (λ b. sealed_unit receiver.key receiver.received b plain from to confounder) f.sides

pub opening_goes : (sender receiver : NlState) (p : PlainUnit) → Follows sender receiver → HasRange p → sender.sent < 2 ^ 32 - 1 → open_of receiver (sealing_done sender p).unit p.from p.to ≡ taking_done receiver (before_signature p.unit) p.confounder
opening_goes sender receiver p f range room =
    let n : sender.sent ≡ receiver.received = f.numbers in
    ap (λ u. open_of receiver u p.from p.to) (same_unit sender receiver (before_signature p.unit) p.from p.to p.confounder f)
    ∙ opens_next receiver (before_signature p.unit) p.confounder p.from p.to range.0 (omega (arith, length_before p.unit (omega (arith, range.1)), range.1)) range.2 (omega arith)

pub opens_again : (one other : NlState) (p : PlainUnit) → Paired one other → HasRange p → one.sent < 2 ^ 32 - 1 → OpensAgain one other p
opens_again one other p paired range room = record {
  sealed = sealing_goes one p room;
  opened = opening_goes one other p paired.there range room;
  same = plain_again other (before_signature p.unit) p.confounder range.2;
  paired = record {
    there = follows_after one other paired.there;
    back = record { key = paired.back.key; sides = paired.back.sides; numbers = paired.back.numbers };
  };
}

pub paired_first : (key : List ℕ) (requester : Bool) → Paired (nl_state_of key requester) (nl_state_of key (not requester))
paired_first key true = record { there = record { key = refl; sides = refl; numbers = refl }; back = record { key = refl; sides = refl; numbers = refl } }
paired_first key false = record { there = record { key = refl; sides = refl; numbers = refl }; back = record { key = refl; sides = refl; numbers = refl } }

pub open_all-send_all : (sender receiver : NlState) (units : List PlainUnit) → Follows sender receiver → AllByRecursion HasRange units → sender.sent + length units < 2 ^ 32 → open_all receiver (send_all sender units) ≡ map whole_opening units
unfolding send_all open_all
open_all-send_all sender receiver [] f ranges room = refl
open_all-send_all sender receiver (p ∷ ps) f ranges room =
    let below : sender.sent < 2 ^ 32 - 1 = omega arith in
    let sealed = (sealing_done sender p).unit in
    let rest : List SentUnit = send_all (after_sending sender) ps in
    let opened : Opening → List OpenedUnit = λ o. record { answer = o.answer; plain = before_signature o.unit } ∷ open_all o.state rest in
    ap (λ (x : Sealing). open_all receiver (send_with x.answer x.unit p (send_all x.state ps))) (sealing_goes sender p below)
    ∙ ap opened (opening_goes sender receiver p f ranges.0 below)
    ∙ ap (λ u. record { answer = Ok tt; plain = u } ∷ open_all (after_taking receiver) rest) (plain_again receiver (before_signature p.unit) p.confounder ranges.0.2)
    ∙ ap (λ xs. whole_opening p ∷ xs) (open_all-send_all (after_sending sender) (after_taking receiver) ps (follows_after sender receiver f) ranges.1 (omega arith))

-- a unit is taken exactly where it is what was sealed, by an answer that is known to be that of opening
pub accepts_by : (s : NlState) (unit : List ℕ) (from to : ℕ) (answer : Result Unit NlRefused) → from ≤ to → to + 32 ≤ length unit → answer ≡ (open_of s unit from to).answer → s.received < 2 ^ 32 - 1 → (answer ≡ Ok tt) ↔ (unit ≡ sealed_again s unit from to)
accepts_by s unit from to answer h within e room =
    (λ taken. taken_was_sealed s unit from to h within (sym e ∙ taken), λ same. e ∙ sealed_is_taken s unit from to h within room same)
