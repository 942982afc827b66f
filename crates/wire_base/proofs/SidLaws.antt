-- Laws of the text of a security identifier: what is read is what is written, and the other way round.
use Rattle.std.proofs.Common.{◌≡◌, ℕ, zero, suc, ◌+◌, ◌-◌, ◌^◌, ◌<◌, ◌≤◌, Bool, false, List, [], ◌∷◌, ◌++◌, length, map, take, drop, Option, Some, None, Result, Ok, Err, refl, sym, ap, ◌∙◌, arith, inl, inr, append_assoc, add-one, codes}
use Rattle.std.specs.List.{All, position, slice_split, position_or_len, join_with_byte, AllByRecursion}
use Rattle.std.proofs.lemmas.Bool.{ne_eqb, lt-ltb, le-ltb, cases_lt, cases_Bool}
use Rattle.std.proofs.lemmas.List.{take-append-drop, take_rest, length_push, append-nil}
use Rattle.std.proofs.lemmas.List.Splits.{slice_split_none, slice_split_at, slice_split_first, join_with_byte-slice_split}
use Rattle.wire_base.specs.declared.sid.SidRefused.{SidRefused}
use Rattle.wire_base.specs.declared.sid.SidRefused.TheVariants.{NotSid}
use Rattle.wire_base.specs.Decimal.{decimal_of}
use Rattle.std.specs.Str.{bytes_eq}
use Rattle.std.specs.Fmt.{decimal}
use Rattle.std.proofs.lemmas.Slice.Eq.{bytes_eq-Decides}
use Rattle.std.proofs.lemmas.Fmt.{digits_decimal}
use Rattle.std.proofs.lemmas.List.Elements.{All-from_get_or}
use Rattle.std.proofs.lemmas.Str.Parse.{not_in_digits}
use Rattle.wire_base.specs.Sid.{SidParts, IsSid, IsSidText, sid_text, is_dash, number_below, with_first, numbers_of, sid_by, sid_of_parts, sid_of}
use Rattle.wire_base.proofs.DecimalLaws.{own, decimal_of-decimal, decimal_from-decimal_of}

-- ---- cutting at the first dash

split_at : (p : ℕ → Bool) (text : List ℕ) (at : ℕ) → position p text ≡ Some at → slice_split p text ≡ take at text ∷ slice_split p (drop (at + 1) text)
split_at p text at found =
    elim (cases_lt (position_or_len p text) (length text)) [
      | inl inside ↦
          let here : position p text ≡ Some (position_or_len p text) = rw (lt-ltb _ _ inside) refl in
          let at-is : position_or_len p text ≡ at = cc in
          slice_split_first p text 0 inside ∙ rw (at-is, add-one) refl
      | inr past ↦ absurd (let none : position p text ≡ None = rw (le-ltb _ _ past) refl in cc)
    ]

pub split_at_dash : (text : List ℕ) (at : ℕ) → position is_dash text ≡ Some at → slice_split is_dash text ≡ take at text ∷ slice_split is_dash (take (length text - (at + 1)) (drop (at + 1) text))
split_at_dash text at found = rw take_rest (split_at is_dash text at found)

pub split_none : (text : List ℕ) → All (λ byte. is_dash byte ≡ false) text → slice_split is_dash text ≡ text ∷ []
split_none text none = slice_split_none is_dash text none

pub ruleset splitting = (split_at_dash, split_none)

-- ---- the numbers, one after the other

abbrev pub with_front : List ℕ → Result (List ℕ) SidRefused → Result (List ℕ) SidRefused
with_front front (Ok numbers) = Ok (front ++ numbers)
with_front front (Err refused) = Err refused

-- how much is left to read
abbrev pub rest_size : Option (List ℕ) → ℕ
rest_size None = 0
rest_size (Some text) = length text + 1

regroup : (front : List ℕ) (n : ℕ) (read : Result (List ℕ) SidRefused) → with_front (front ++ n ∷ []) read ≡ with_front front (with_first (Some n) read)
regroup front n (Ok numbers) = ap (λ (ns : List ℕ). Ok ns) (append_assoc front (n ∷ []) numbers)
regroup front n (Err refused) = refl

pub front_more : (front : List ℕ) (n : ℕ) (part : List ℕ) (parts : List (List ℕ)) → length front < 15 → number_below (2 ^ 32) (decimal_of part) ≡ Some n → with_front (front ++ n ∷ []) (numbers_of (15 - length (front ++ n ∷ [])) parts) ≡ with_front front (numbers_of (15 - length front) (part ∷ parts))
front_more front n part parts room here =
    let next : 15 - length front ≡ suc (15 - length (front ++ n ∷ [])) = omega (arith, length_push front n) in
    regroup front n (numbers_of (15 - length (front ++ n ∷ [])) parts) ∙ rw (next, here) refl

-- the loop's step: new is front with the number of the first part
pub loop_more : (front new : List ℕ) (n : ℕ) (part : List ℕ) (rest after : List (List ℕ)) (whole : Result (List ℕ) SidRefused) → length front < 15 → number_below (2 ^ 32) (decimal_of part) ≡ Some n → rest ≡ part ∷ after → new ≡ front ++ n ∷ [] → with_front front (numbers_of (15 - length front) rest) ≡ whole → with_front new (numbers_of (15 - length new) after) ≡ whole
loop_more front new n part rest after whole room here parts new-is so_far =
    rw new-is (front_more front n part after room here ∙ rw (← parts) so_far)

bad_at : (front : List ℕ) (room : ℕ) (part : List ℕ) (parts : List (List ℕ)) → number_below (2 ^ 32) (decimal_of part) ≡ None → with_front front (numbers_of room (part ∷ parts)) ≡ Err NotSid
bad_at front zero part parts bad = refl
bad_at front (suc room) part parts bad = rw bad refl

pub front_bad : (front : List ℕ) (part : List ℕ) (parts : List (List ℕ)) → number_below (2 ^ 32) (decimal_of part) ≡ None → with_front front (numbers_of (15 - length front) (part ∷ parts)) ≡ Err NotSid
front_bad front part parts bad = bad_at front (15 - length front) part parts bad

pub front_full : (front : List ℕ) (part : List ℕ) (parts : List (List ℕ)) → length front ≡ 15 → with_front front (numbers_of (15 - length front) (part ∷ parts)) ≡ Err NotSid
front_full front part parts full = rw full refl

pub front_end : (front : List ℕ) → with_front front (numbers_of (15 - length front) []) ≡ Ok front
front_end front = ap (λ (ns : List ℕ). Ok ns) (append-nil front)

pub ruleset counting = (front_more, front_bad, front_full, front_end)

-- ---- what is read is what is written

number_below-Some : (limit : ℕ) (o : Option ℕ) (n : ℕ) → number_below limit o ≡ Some n → (o ≡ Some n) × (n < limit)
number_below-Some limit None n e = absurd cc
number_below-Some limit (Some m) n e =
    elim (cases_lt m limit) [
      | inl lt ↦ let here : number_below limit (Some m) ≡ Some m = rw (lt-ltb m limit lt) refl in let m-is : m ≡ n = cc in (ap (λ (k : ℕ). Some k) m-is, omega arith)
      | inr le ↦ absurd (let none : number_below limit (Some m) ≡ None = rw (le-ltb m limit le) refl in cc)
    ]

number_below-at : (limit n : ℕ) → n < limit → number_below limit (Some n) ≡ Some n
number_below-at limit n lt = rw (lt-ltb n limit lt) refl

number_takes : (limit n : ℕ) (part : List ℕ) → number_below limit (decimal_of part) ≡ Some n → (part ≡ decimal n) × (n < limit)
number_takes limit n part e =
    let parts = number_below-Some limit (decimal_of part) n e in
    ((decimal_from-decimal_of part n parts.0).0, parts.1)

number_again : (limit n : ℕ) → n < limit → limit ≤ 2 ^ 64 → number_below limit (decimal_of (decimal n)) ≡ Some n
number_again limit n lt small = rw (decimal_of-decimal n (omega arith)) (number_below-at limit n lt)

-- a first number and the numbers after it
record IsFirst (o : Option ℕ) (read : Result (List ℕ) SidRefused) (numbers : List ℕ) : Type 0 where
  first : ℕ
  others : List ℕ
  one : o ≡ Some first
  more : read ≡ Ok others
  whole : numbers ≡ first ∷ others

with_first-Ok : (o : Option ℕ) (read : Result (List ℕ) SidRefused) (numbers : List ℕ) → with_first o read ≡ Ok numbers → IsFirst o read numbers
with_first-Ok None read numbers e = absurd cc
with_first-Ok (Some n) (Err refused) numbers e = absurd cc
with_first-Ok (Some n) (Ok others) numbers e = record { first = n; others = others; one = refl; more = refl; whole = cc }

-- the parts are the texts of the numbers, which fit
record AreTexts (room : ℕ) (parts : List (List ℕ)) (numbers : List ℕ) : Type 0 where
  texts : parts ≡ map decimal numbers
  each : AllByRecursion (λ n. n < 2 ^ 32) numbers
  count : length numbers ≤ room

numbers_takes : (room : ℕ) (parts : List (List ℕ)) (numbers : List ℕ) → numbers_of room parts ≡ Ok numbers → AreTexts room parts numbers
numbers_takes room [] [] e = record { texts = refl; each = tt; count = omega arith }
numbers_takes room [] (n ∷ numbers) e = absurd cc
numbers_takes zero (part ∷ parts) numbers e = absurd cc
numbers_takes (suc room) (part ∷ parts) numbers e =
    let f = with_first-Ok (number_below (2 ^ 32) (decimal_of part)) (numbers_of room parts) numbers e in
    let one = number_takes (2 ^ 32) f.first part f.one in
    let more = numbers_takes room parts f.others f.more in
    let texts = ap (λ (text : List ℕ). text ∷ parts) one.0 ∙ ap (λ (ts : List (List ℕ)). decimal f.first ∷ ts) more.texts in
    rw f.whole (record { texts = texts; each = (one.1, more.each); count = omega (arith, more.count) })

numbers_again : (room : ℕ) (numbers : List ℕ) → AllByRecursion (λ n. n < 2 ^ 32) numbers → length numbers ≤ room → numbers_of room (map decimal numbers) ≡ Ok numbers
numbers_again room [] each count = refl
numbers_again zero (n ∷ numbers) each count = absurd (omega arith)
numbers_again (suc room) (n ∷ numbers) each count = rw (number_again (2 ^ 32) n each.0 (omega arith), numbers_again room numbers each.1 (omega arith)) refl

-- ---- the text and its parts

abbrev ok_of : {A : Type 0} → A → Result A SidRefused
ok_of x = Ok x

no_dash : (n : ℕ) → n < 2 ^ 64 → All (λ byte. is_dash byte ≡ false) (decimal n)
no_dash n fits = All-from_get_or (λ byte. is_dash byte ≡ false) (decimal n) 0 (λ i inside. ne_eqb _ _ (not_in_digits own (decimal n) 45 (digits_decimal own n fits) (λ r. omega (arith, r)) i inside))

split_joined : (n : ℕ) (numbers : List ℕ) → n < 2 ^ 64 → AllByRecursion (λ m. m < 2 ^ 32) numbers → slice_split is_dash (join_with_byte 45 (decimal n ∷ map decimal numbers)) ≡ decimal n ∷ map decimal numbers
split_joined n [] fits each = slice_split_none is_dash (decimal n) (no_dash n fits)
split_joined n (m ∷ numbers) fits each =
    slice_split_at is_dash (decimal n) 45 (join_with_byte 45 (decimal m ∷ map decimal numbers)) (no_dash n fits) refl
    ∙ ap (λ (parts : List (List ℕ)). decimal n ∷ parts) (split_joined m numbers (omega (arith, each.0)) each.1)

ok_is : {A : Type 0} (x y : A) → ok_of x ≡ ok_of y → x ≡ y
ok_is x y e = cc

-- an identifier of some number is read as it is
by_some : (authority : ℕ) (numbers : List ℕ) → 1 ≤ length numbers → sid_by (Some authority) (Ok numbers) ≡ Ok (record { authority = authority; numbers = numbers })
by_some authority [] one = absurd (omega arith)
by_some authority (n ∷ numbers) one = refl

sid_by-Ok : (o : Option ℕ) (read : Result (List ℕ) SidRefused) (sid : SidParts) → sid_by o read ≡ Ok sid → (o ≡ Some sid.authority) × (read ≡ Ok sid.numbers) × (1 ≤ length sid.numbers)
sid_by-Ok None read sid e = absurd cc
sid_by-Ok (Some a) (Err refused) sid e = absurd cc
sid_by-Ok (Some a) (Ok []) sid e = absurd cc
sid_by-Ok (Some a) (Ok (n ∷ numbers)) sid e =
    let parts : record { authority = a; numbers = n ∷ numbers } ≡ sid = ok_is _ _ e in
    rw (← parts) (refl, refl, omega arith)

-- the parts behind `S-1-` are the texts of the authority and the numbers
parts_takes : (parts : List (List ℕ)) (sid : SidParts) → sid_of_parts parts ≡ Ok sid → (parts ≡ decimal sid.authority ∷ map decimal sid.numbers) × IsSid sid × AllByRecursion (λ n. n < 2 ^ 32) sid.numbers
parts_takes [] sid e = absurd cc
parts_takes (part ∷ parts) sid e =
    let by = sid_by-Ok (number_below (2 ^ 48) (decimal_of part)) (numbers_of 15 parts) sid e in
    let one = number_takes (2 ^ 48) sid.authority part by.0 in
    let more = numbers_takes 15 parts sid.numbers by.1 in
    (ap (λ (text : List ℕ). text ∷ parts) one.0 ∙ ap (λ (ts : List (List ℕ)). decimal sid.authority ∷ ts) more.texts, record { authority = one.1; one = by.2; at_most = more.count }, more.each)

parts_again : (sid : SidParts) → IsSid sid → AllByRecursion (λ n. n < 2 ^ 32) sid.numbers → sid_of_parts (decimal sid.authority ∷ map decimal sid.numbers) ≡ Ok sid
parts_again sid form each =
    rw (number_again (2 ^ 48) sid.authority form.authority (omega arith), numbers_again 15 sid.numbers each form.at_most) (by_some sid.authority sid.numbers form.one)

-- what is read is the text of the identifier
pub IsSidText-sid_of : (text : List ℕ) (sid : SidParts) → sid_of text ≡ Ok sid → IsSidText text sid
unfolding sid_of sid_text
IsSidText-sid_of text sid read =
    elim (cases_Bool (bytes_eq (take 4 text) (codes "S-1-"))) [
      | inl begins ↦
          let parts = parts_takes (slice_split is_dash (drop 4 text)) sid (sym (rw begins refl) ∙ read) in
          let front : take 4 text ≡ codes "S-1-" = (bytes_eq-Decides (take 4 text) (codes "S-1-")).0 begins in
          record {
            form = parts.1;
            each = parts.2;
            whole = sym (take-append-drop 4 text) ∙ rw front (ap (λ (t : List ℕ). codes "S-1-" ++ t) (sym (join_with_byte-slice_split 45 (drop 4 text)) ∙ ap (join_with_byte 45) parts.0));
          }
      | inr other ↦ absurd (let refused : sid_of text ≡ Err NotSid = rw other refl in cc)
    ]

-- the text of an identifier is read
pub sid_of-IsSidText : (text : List ℕ) (sid : SidParts) → IsSidText text sid → sid_of text ≡ Ok sid
unfolding sid_of sid_text
sid_of-IsSidText text sid written =
    rw (written.whole, split_joined sid.authority sid.numbers (omega (arith, written.form.authority)) written.each)
    (parts_again sid written.form written.each)
