-- Names of accounts, computers and domains, and when two of them are the same (this project's own choice: MS-NLMP 3.3
-- upper-cases the user's name, and here the letters a to z alone have another case).
use Rattle.std.specs.Prelude.{ℕ, ◌-◌, ◌<◌, ◌≤◌, ◌≡◌, ◌&&◌, Bool, true, false, not, List, map, length, Option, Some, None, Result, Ok, Err, All, nat_lt, nat_le, slice_index, if◌then◌else◌}
use Rattle.std.specs.Int.{is_in_range}
use Rattle.std.specs.List.{position, list_all}
use Rattle.std.specs.Str.{bytes_eq}
use Rattle.wire_base.specs.declared.names.NameRefused.{NameRefused}
use Rattle.wire_base.specs.declared.names.NameRefused.TheVariants.{TooLong, NotAscii, Memory}

-- ---- upper case

-- the ASCII upper case of a unit: a to z become A to Z, and all others stay
unfoldable pub upper_of : ℕ → ℕ
upper_of unit = if is_in_range 0x61 0x7A unit then unit - 0x20 else unit

abbrev pub upper_case : List ℕ → List ℕ
upper_case units = map upper_of units

-- two texts, of bytes or of units, are the same name where their upper cases are equal
abbrev pub SameName : List ℕ → List ℕ → Type 0
SameName one other = upper_case one ≡ upper_case other

-- the test of it
unfoldable pub same_name : List ℕ → List ℕ → Bool
same_name one other = bytes_eq (upper_case one) (upper_case other)

-- ---- the form of a name

-- a printable ASCII byte, or a space
abbrev pub is_name_byte : ℕ → Bool
is_name_byte byte = is_in_range 0x20 0x7E byte

abbrev pub IsNameByte : ℕ → Type 0
IsNameByte byte = (0x20 ≤ byte) × (byte ≤ 0x7E)

-- at most 64 such bytes
abbrev pub IsName : List ℕ → Type 0
IsName text = (length text ≤ 64) × All IsNameByte text

-- the test of it
abbrev pub is_name : List ℕ → Bool
is_name text = nat_le (length text) 64 && list_all is_name_byte text

-- the byte at the place is the first that isn't of a name
pub record IsFirstOutside (text : List ℕ) (place : ℕ) : Type 0 where
  pub inside : place < length text
  pub outside : is_name_byte (slice_index text place) ≡ false
  pub before : (earlier : ℕ) → earlier < place → IsNameByte (slice_index text earlier)

-- when each refusal comes
abbrev pub IsNameRefusal : List ℕ → NameRefused → Type 0
IsNameRefusal text TooLong = 64 < length text
IsNameRefusal text (NotAscii place) = (length text ≤ 64) × IsFirstOutside text place
IsNameRefusal text Memory = Unit {0}

-- the name, or the first refusal: the length is judged before the bytes
abbrev pub name_by : Bool → Option ℕ → List ℕ → Result (List ℕ) NameRefused
name_by true outside text = Err TooLong
name_by false (Some place) text = Err (NotAscii place)
name_by false None text = Ok text

unfoldable pub name_of : List ℕ → Result (List ℕ) NameRefused
name_of text = name_by (nat_lt 64 (length text)) (position (λ byte. not (is_name_byte byte)) text) text

-- ---- a text of units as ASCII, for lines that are put

-- a printable ASCII unit, or a space, as it is; another one as a question mark
abbrev pub printable_unit : ℕ → ℕ
printable_unit unit = if is_in_range 0x20 0x7E unit then unit else 0x3F

abbrev pub printable_text : List ℕ → List ℕ
printable_text units = map printable_unit units
