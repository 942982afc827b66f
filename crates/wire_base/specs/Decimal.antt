-- Numbers as text: decimal digits without a sign or a leading zero (this project's own choice). `decimal n` of std is
-- the text of n.
use Rattle.std.specs.Prelude.{ℕ, ◌^◌, ◌&&◌, ◌==◌, Bool, true, false, not, List, [], ◌∷◌, Option, Some, None, nat_lt, if◌then◌else◌}
use Rattle.std.specs.Char.{is_ascii_digit}
use Rattle.std.specs.List.{list_all}
use Rattle.std.specs.Str.Parse.{digits_value}

-- a digit alone, or the first of more that isn't a zero
abbrev pub has_no_leading_zero : List ℕ → Bool
has_no_leading_zero [] = false
has_no_leading_zero (digit ∷ []) = true
has_no_leading_zero (first ∷ digit ∷ digits) = not (first == 48)

-- digits, at least one
abbrev pub has_decimal_form : List ℕ → Bool
has_decimal_form text = has_no_leading_zero text && list_all is_ascii_digit text

-- the number where it fits that many bits
abbrev pub number_of_bits : ℕ → ℕ → Option ℕ
number_of_bits width n = if nat_lt n (2 ^ width) then Some n else None

-- the number of 64 bits that the text writes; None where it writes none
unfoldable pub decimal_of : List ℕ → Option ℕ
decimal_of text = if has_decimal_form text then number_of_bits 64 (digits_value 10 text) else None
