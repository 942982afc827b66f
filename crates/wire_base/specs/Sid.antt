-- Security identifiers of revision 1 (MS-DTYP 2.4.2) and their text (this project's own choice of the form in MS-DTYP
-- 2.4.2.1: the authority is decimal at any size).
use Rattle.std.specs.Prelude.{ℕ, ◌≡◌, ◌<◌, ◌≤◌, ◌^◌, ◌==◌, ◌&&◌, Bool, List, [], ◌∷◌, ◌++◌, map, length, drop, take, zero, suc, Option, Some, None, Result, Ok, Err, codes, nat_lt, nat_le, if◌then◌else◌}
use Rattle.std.specs.Fmt.{decimal}
use Rattle.std.specs.List.{AllByRecursion, join_with_byte, slice_split}
use Rattle.std.specs.Str.{bytes_eq}
use Rattle.wire_base.specs.declared.sid.SidRefused.{SidRefused}
use Rattle.wire_base.specs.declared.sid.SidRefused.TheVariants.{NotSid}
use Rattle.wire_base.specs.Decimal.{decimal_of}

-- an authority of 48 bits, and numbers of 32 bits
pub record SidParts : Type 0 where
  pub authority : ℕ
  pub numbers : List ℕ

-- 1 to 15 numbers
pub record IsSid (sid : SidParts) : Type 0 where
  pub authority : sid.authority < 2 ^ 48
  pub one : 1 ≤ length sid.numbers
  pub at_most : length sid.numbers ≤ 15

-- the test of it
abbrev pub is_sid : ℕ → ℕ → Bool
is_sid authority count = nat_lt authority (2 ^ 48) && nat_le 1 count && nat_le count 15

-- ---- the text

-- S-1-, then the authority and the numbers, joined by '-', in decimal without leading zeros
unfoldable pub sid_text : SidParts → List ℕ
sid_text sid = codes "S-1-" ++ join_with_byte 45 (decimal sid.authority ∷ map decimal sid.numbers)

pub record IsSidText (text : List ℕ) (sid : SidParts) : Type 0 where
  pub form : IsSid sid
  pub each : AllByRecursion (λ n. n < 2 ^ 32) sid.numbers
  pub whole : text ≡ sid_text sid

-- ---- reading it

abbrev pub is_dash : ℕ → Bool
is_dash byte = byte == 45

abbrev pub number_below : ℕ → Option ℕ → Option ℕ
number_below limit None = None
number_below limit (Some n) = if nat_lt n limit then Some n else None

abbrev pub with_first : Option ℕ → Result (List ℕ) SidRefused → Result (List ℕ) SidRefused
with_first None read = Err NotSid
with_first (Some n) (Err refused) = Err refused
with_first (Some n) (Ok numbers) = Ok (n ∷ numbers)

-- the numbers that the parts write, where there is room for each
abbrev pub numbers_of : ℕ → List (List ℕ) → Result (List ℕ) SidRefused
numbers_of room [] = Ok []
numbers_of zero (part ∷ parts) = Err NotSid
numbers_of (suc room) (part ∷ parts) = with_first (number_below (2 ^ 32) (decimal_of part)) (numbers_of room parts)

abbrev pub sid_by : Option ℕ → Result (List ℕ) SidRefused → Result SidParts SidRefused
sid_by None read = Err NotSid
sid_by (Some authority) (Err refused) = Err refused
sid_by (Some authority) (Ok []) = Err NotSid
sid_by (Some authority) (Ok (n ∷ numbers)) = Ok (record { authority = authority; numbers = n ∷ numbers })

abbrev pub sid_of_parts : List (List ℕ) → Result SidParts SidRefused
sid_of_parts [] = Err NotSid
sid_of_parts (authority ∷ numbers) = sid_by (number_below (2 ^ 48) (decimal_of authority)) (numbers_of 15 numbers)

-- the authority that a text with this first part writes
abbrev pub first_authority : List (List ℕ) → Option ℕ
first_authority [] = None
first_authority (authority ∷ numbers) = number_below (2 ^ 48) (decimal_of authority)

-- the authority of a text that begins with S-1- and one; None where it begins otherwise
unfoldable pub authority_of : List ℕ → Option ℕ
authority_of text = if bytes_eq (take 4 text) (codes "S-1-") then first_authority (slice_split is_dash (drop 4 text)) else None

-- the identifier that the text writes; NotSid where it writes none
unfoldable pub sid_of : List ℕ → Result SidParts SidRefused
sid_of text = if bytes_eq (take 4 text) (codes "S-1-") then sid_of_parts (slice_split is_dash (drop 4 text)) else Err NotSid

-- the parts of a rest: what stands round each '-'; none where there is no rest
abbrev pub parts_of : Option (List ℕ) → List (List ℕ)
parts_of None = []
parts_of (Some text) = slice_split is_dash text
