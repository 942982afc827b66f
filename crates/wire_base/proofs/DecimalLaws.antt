-- Laws of decimal text: what is read is what writes the number, and what writes a number of 64 bits is read.
use Rattle.std.proofs.Common.{◌≡◌, ℕ, suc, ◌^◌, ◌<◌, true, false, List, [], ◌∷◌, length, get_or, Some, None, Result, Ok, Err, refl, sym, ap, ◌∙◌, arith, rules, inl, inr}
use Rattle.std.specs.Char.{is_ascii_digit}
use Rattle.std.specs.Fmt.{decimal}
use Rattle.std.specs.List.{list_all}
use Rattle.std.specs.Result.{OkIff, result_ok}
use Rattle.std.specs.Str.Parse.{digits_value, ParsesUnsigned}
use Rattle.std.proofs.lemmas.Bool.{true≢false, not-true, lt-ltb, le-ltb, ne_eqb, eq-eqb, cases_Bool, cases_eq, and_parts, and_from, cases_lt}
use Rattle.std.specs.Str.{IsUtf8}
use Rattle.std.proofs.lemmas.Str.{IsUtf8-from_ascii}
use Rattle.std.proofs.lemmas.Str.Parse.{IsNumeralModel, numerals_by_value, parse_digits}
use Rattle.std.proofs.lemmas.Fmt.{IsAscii-from_digits, decimal_digit, digits_decimal, digits_value-decimal, decimal-digits_value, decimal_nonempty, first_decimal}
use Rattle.wire_base.specs.Decimal.{has_no_leading_zero, has_decimal_form, number_of_bits, decimal_of}

-- std's laws on numerals hold of these digits and their value
pub own : IsNumeralModel (λ text. list_all is_ascii_digit text ≡ true) (digits_value 10)
own = numerals_by_value _ (search rules)

pub length_from_has_no_leading_zero : (text : List ℕ) → has_no_leading_zero text ≡ true → 0 < length text
length_from_has_no_leading_zero [] led = absurd cc
length_from_has_no_leading_zero (digit ∷ digits) led = omega arith

lone_zero : (text : List ℕ) → has_no_leading_zero text ≡ true → get_or text 0 0 ≡ 48 → length text ≡ 1
lone_zero [] led first_is = absurd cc
lone_zero (digit ∷ []) led first_is = refl
lone_zero (first ∷ digit ∷ digits) led first_is = absurd (true≢false (sym (eq-eqb first 48 first_is) ∙ not-true _ led))

has_no_leading_zero-from : (text : List ℕ) → 0 < length text → (get_or text 0 0 ≡ 48 → length text ≡ 1) → has_no_leading_zero text ≡ true
has_no_leading_zero-from [] some one = absurd (omega arith)
has_no_leading_zero-from (digit ∷ []) some one = refl
has_no_leading_zero-from (first ∷ digit ∷ digits) some one =
    rw (ne_eqb first 48 (λ e. let k : suc (suc (length digits)) ≡ 1 = one e in omega arith)) refl

-- what has the form is what its value writes
decimal-digits : (text : List ℕ) → has_decimal_form text ≡ true → digits_value 10 text < 2 ^ 64 → decimal (digits_value 10 text) ≡ text
decimal-digits text form fits =
    let parts = and_parts (has_no_leading_zero text) (list_all is_ascii_digit text) form in
    decimal-digits_value own text parts.1 (length_from_has_no_leading_zero text parts.0) (lone_zero text parts.0) fits

one_zero : (n : ℕ) → n < 2 ^ 64 → get_or (decimal n) 0 0 ≡ 48 → length (decimal n) ≡ 1
one_zero n fits first_is =
    elim (cases_eq n 0) [
      | inl zero_is ↦ rw (zero_is, decimal_digit 0 (omega arith)) refl
      | inr more ↦ absurd (let above = first_decimal n (omega arith) fits in omega arith)
    ]

-- what is written has the form
pub has_decimal_form-decimal : (n : ℕ) → n < 2 ^ 64 → has_decimal_form (decimal n) ≡ true
has_decimal_form-decimal n fits =
    and_from (has_no_leading_zero (decimal n)) (list_all is_ascii_digit (decimal n)) (has_no_leading_zero-from (decimal n) (decimal_nonempty n fits) (one_zero n fits)) (digits_decimal own n fits)

-- what is written is read
pub decimal_of-decimal : (n : ℕ) → n < 2 ^ 64 → decimal_of (decimal n) ≡ Some n
unfolding decimal_of
decimal_of-decimal n fits =
    let value : digits_value 10 (decimal n) ≡ n = digits_value-decimal own n fits in
    rw (has_decimal_form-decimal n fits, value, lt-ltb n (2 ^ 64) fits) refl

number_of_bits-Some : (v n : ℕ) → number_of_bits 64 v ≡ Some n → (v ≡ n) × (n < 2 ^ 64)
number_of_bits-Some v n here =
    elim (cases_lt v (2 ^ 64)) [
      | inl lt ↦ let v-is : v ≡ n = (let e : number_of_bits 64 v ≡ Some v = rw (lt-ltb v (2 ^ 64) lt) refl in cc) in (v-is, omega arith)
      | inr le ↦ absurd (let e : number_of_bits 64 v ≡ None = rw (le-ltb v (2 ^ 64) le) refl in cc)
    ]

decimal_of-form : (text : List ℕ) → has_decimal_form text ≡ true → decimal_of text ≡ number_of_bits 64 (digits_value 10 text)
unfolding decimal_of
decimal_of-form text form = rw form refl

decimal_of-other : (text : List ℕ) → has_decimal_form text ≡ false → decimal_of text ≡ None
unfolding decimal_of
decimal_of-other text other = rw other refl

-- what is read is what writes the number, which has 64 bits
pub decimal_from-decimal_of : (text : List ℕ) (n : ℕ) → decimal_of text ≡ Some n → (text ≡ decimal n) × (n < 2 ^ 64)
decimal_from-decimal_of text n read =
    elim (cases_Bool (has_decimal_form text)) [
      | inl form ↦
          let value = number_of_bits-Some (digits_value 10 text) n (sym (decimal_of-form text form) ∙ read) in
          (sym (decimal-digits text form (omega (arith, value))) ∙ ap decimal value.0, value.1)
      | inr other ↦ absurd (let none = decimal_of-other text other in cc)
    ]

-- what isn't read writes no number of 64 bits
pub none_from-decimal_of : (text : List ℕ) (n : ℕ) → decimal_of text ≡ None → n < 2 ^ 64 → text ≡ decimal n → ⊥
none_from-decimal_of text n none fits written =
    let some : decimal_of text ≡ Some n = rw written (decimal_of-decimal n fits) in cc

-- digits are text
pub IsUtf8-digits : (text : List ℕ) → list_all is_ascii_digit text ≡ true → IsUtf8 text
IsUtf8-digits text digits = IsUtf8-from_ascii text (IsAscii-from_digits text (own.to text digits))

number_of_bits_from-OkIff : {E P : Type 0} (width : ℕ) (r : Result ℕ E) (v : ℕ) → P → OkIff r (P × (v < 2 ^ width)) v → result_ok r ≡ number_of_bits width v
number_of_bits_from-OkIff width (Ok x) v some h = rw (lt-ltb v (2 ^ width) h.0.1, h.1) refl
number_of_bits_from-OkIff width (Err e) v some h =
    elim (cases_lt v (2 ^ width)) [
      | inl lt ↦ absurd (h (some, lt))
      | inr le ↦ rw (le-ltb v (2 ^ width) le) refl
    ]

-- what `parse` gives at digits, as a number of `width` bits
pub result_ok-parse : {E : Type 0} (width : ℕ) (text : List ℕ) (r : Result ℕ E) → 0 < length text → list_all is_ascii_digit text ≡ true → ParsesUnsigned width 10 text r → result_ok r ≡ number_of_bits width (digits_value 10 text)
result_ok-parse width text r some digits parsed = number_of_bits_from-OkIff width r (digits_value 10 text) some (parse_digits own width text r parsed digits)

pub ruleset forms = (length_from_has_no_leading_zero)

pub ruleset parsing = (IsUtf8-digits, result_ok-parse)

pub ruleset reading = (decimal_from-decimal_of, none_from-decimal_of)
