-- What the three messages share: the header's first twelve bytes and the payload fields (MS-NLMP 2.2.1, 2.2.2.10).
-- Bytes are numbers below 256. A place is counted from the message's first byte, and the size is that of the fixed
-- header.
use Rattle.std.specs.Prelude.{◌≡◌, ◌≢◌, ◌<◌, ◌≤◌, ◌+◌, ◌%◌, ◌==◌, ◌&&◌, ◌⊎◌, ℕ, Bool, List, [], ◌∷◌, ◌++◌, length, take, drop, min, Option, Some, None, unwrap_or, Result, Ok, Err, IsTrue, nat_lt, nat_le, nat_eq, codes, if◌then◌else◌}
use Rattle.std.specs.List.{starts_with, AllByRecursion}
use Rattle.std.specs.Int.{w16, w32, to_le_bytes}
use Rattle.wire_base.specs.Numbers.{u16_of, u32_of}
use Rattle.ntlm_flags.specs.Flags.{has_flag, negotiate_unicode, negotiate_version}
use Rattle.ntlm_messages.specs.Places.{type_place}
use Rattle.ntlm_messages.specs.declared.refused.Field.{Field}
use Rattle.ntlm_messages.specs.declared.refused.MessageRefused.{MessageRefused}
use Rattle.ntlm_messages.specs.declared.refused.MessageRefused.TheVariants.{ShortHeader, BadSignature, BadType, FieldOutside, OddText, Memory}
use Rattle.ntlm_messages.specs.declared.refused.WriteRefused.{WriteRefused}
use Rattle.ntlm_messages.specs.declared.refused.WriteRefused.TheVariants.{TooLong}

-- a step after a step that wasn't refused
infixl 10 ◌>>=◌
abbrev pub ◌>>=◌ : {A B E : Type 0} → Result A E → (A → Result B E) → Result B E
(Ok x) >>= f = f x
(Err e) >>= f = Err e

-- What the result holds shows that value, or it is that refusal.
abbrev pub Shows : {X Y E : Type 0} → (X → Y) → Result X E → Result Y E → Type 0
Shows shown (Ok x) value = value ≡ Ok (shown x)
Shows shown (Err e) value = value ≡ Err e

-- ---- numbers of the fixed header

-- the 16-bit number at the place, 0 where the bytes end before it does
abbrev pub short_at : List ℕ → ℕ → ℕ
short_at bytes place = unwrap_or (u16_of bytes place) 0

-- the 32-bit number at the place, 0 where the bytes end before it does
abbrev pub long_at : List ℕ → ℕ → ℕ
long_at bytes place = unwrap_or (u32_of bytes place) 0

-- ---- the first twelve bytes

-- "NTLMSSP" and a zero
abbrev pub signature : List ℕ
signature = codes "NTLMSSP" ++ 0 ∷ []

-- a message of the type `kind`, with at least `least` bytes
pub record IsHeader (kind least : ℕ) (bytes : List ℕ) : Type 0 where
  pub whole : least ≤ length bytes
  pub signed : take 8 bytes ≡ signature
  pub typed : long_at bytes type_place ≡ kind

-- the first refusal of the first twelve bytes
unfoldable pub header_of : ℕ → ℕ → List ℕ → Result (Unit {0}) MessageRefused
header_of kind least bytes =
    if nat_lt (length bytes) least then Err ShortHeader
    else (if starts_with nat_eq bytes signature then (if long_at bytes type_place == kind then Ok tt else Err (BadType (long_at bytes type_place)))
    else Err BadSignature)

-- ---- payload fields: the length (16 bits), the greatest length (16 bits, free) and the offset (32 bits)

-- the length of the field that stands at the place of the header
abbrev pub length_at : List ℕ → ℕ → ℕ
length_at bytes place = short_at bytes place

-- the offset of its bytes from the message's first byte
abbrev pub offset_at : List ℕ → ℕ → ℕ
offset_at bytes place = long_at bytes (place + 4)

-- the bytes begin at the offset, behind the fixed header, and end within the message
pub record IsPart (offset size : ℕ) (bytes part : List ℕ) : Type 0 where
  pub begins : size ≤ offset
  pub ends : offset + length part ≤ length bytes
  pub bytes_are : take (length part) (drop offset bytes) ≡ part

-- `part` is the bytes of the field at `place`. That an empty field's offset is free is this project's own choice.
pub record IsField (place size : ℕ) (bytes part : List ℕ) : Type 0 where
  pub len : length_at bytes place ≡ length part
  pub stands : (part ≡ []) ⊎ IsPart (offset_at bytes place) size bytes part

-- the field's bytes, or that it lies outside
unfoldable pub field_of : Field → ℕ → ℕ → List ℕ → Result (List ℕ) MessageRefused
field_of name place size bytes =
    if length_at bytes place == 0 then Ok []
    else (if nat_le size (offset_at bytes place) && nat_le (offset_at bytes place + length_at bytes place) (length bytes)
    then Ok (take (length_at bytes place) (drop (offset_at bytes place) bytes)) else Err (FieldOutside name))

-- ---- texts

-- a text of UTF-16LE has an even length
abbrev pub IsText : ℕ → List ℕ → Type 0
IsText flags text = IsTrue (has_flag flags negotiate_unicode) → length text % 2 ≡ 0

unfoldable pub text_of : Field → ℕ → List ℕ → Result (Unit {0}) MessageRefused
text_of name flags text = if has_flag flags negotiate_unicode && length text % 2 == 1 then Err (OddText name) else Ok tt

-- ---- The version and the message integrity code, which are there only where the payload leaves room for them. This
-- rule is this project's
-- ---- own choice: MS-NLMP has them in the layout, and old clients leave them out.

-- The least offset of the fields at these places that aren't empty, or the message's length where there is none.
abbrev pub gap_of : List ℕ → List ℕ → ℕ
gap_of [] bytes = length bytes
gap_of (place ∷ places) bytes = if length_at bytes place == 0 then gap_of places bytes else min (offset_at bytes place) (gap_of places bytes)

-- the least offset so far, once the field at the place is read too
unfoldable pub narrow_gap : ℕ → List ℕ → ℕ → ℕ
narrow_gap place bytes gap = if length_at bytes place == 0 then gap else min gap (offset_at bytes place)

-- the least offset so far, once the fields at these places are read too, in the header's order
abbrev pub narrow_gaps : List ℕ → List ℕ → ℕ → ℕ
narrow_gaps [] bytes gap = gap
narrow_gaps (place ∷ places) bytes gap = narrow_gaps places bytes (narrow_gap place bytes gap)

-- the bytes at a place, as many as `number`, where they are there
abbrev pub bytes_if : (there : Bool) (place number : ℕ) → List ℕ → Option (List ℕ)
bytes_if there place number bytes = if there then Some (take number (drop place bytes)) else None

-- the version, 8 bytes behind the fixed header: with the flag, and before the payload
abbrev pub version_of : ℕ → ℕ → ℕ → List ℕ → Option (List ℕ)
version_of flags size gap bytes = bytes_if (has_flag flags negotiate_version && nat_le (size + 8) gap) size 8 bytes

-- the message integrity code, 16 bytes behind the version: with the version, and before the payload
abbrev pub mic_of : ℕ → ℕ → ℕ → List ℕ → Option (List ℕ)
mic_of flags size gap bytes = bytes_if (has_flag flags negotiate_version && nat_le (size + 24) gap) (size + 8) 16 bytes

-- ---- refusals, in the order in which they are judged

-- the field at the place isn't empty, and begins inside the fixed header or ends past the message
abbrev pub IsOutside : ℕ → ℕ → List ℕ → Type 0
IsOutside place size bytes =
    (0 < length_at bytes place) × ((offset_at bytes place < size) ⊎ (length bytes < offset_at bytes place + length_at bytes place))

abbrev pub IsInside : ℕ → ℕ → List ℕ → Type 0
IsInside place size bytes =
    (length_at bytes place ≡ 0) ⊎ ((size ≤ offset_at bytes place) × (offset_at bytes place + length_at bytes place ≤ length bytes))

-- the first of the fields, each with its place, that lies outside
abbrev pub IsFirstOutside : ℕ → List (Field × ℕ) → List ℕ → Field → Type 0
IsFirstOutside size [] bytes name = ⊥
IsFirstOutside size (field ∷ fields) bytes name =
    (IsOutside field.1 size bytes × (name ≡ field.0)) ⊎ (IsInside field.1 size bytes × IsFirstOutside size fields bytes name)

-- the first of the text fields, each with its place, that has an odd length
abbrev pub IsFirstOdd : List (Field × ℕ) → List ℕ → Field → Type 0
IsFirstOdd [] bytes name = ⊥
IsFirstOdd (text ∷ texts) bytes name =
    ((length_at bytes text.1 % 2 ≡ 1) × (name ≡ text.0)) ⊎ ((length_at bytes text.1 % 2 ≡ 0) × IsFirstOdd texts bytes name)

-- The first refusal of a message, by its type, least length, header size, flags, fields in the header's order and text
-- fields. Want of memory is none.
abbrev pub IsRefusal : ℕ → ℕ → ℕ → ℕ → List (Field × ℕ) → List (Field × ℕ) → List ℕ → MessageRefused → Type 0
IsRefusal kind least size flags fields texts bytes ShortHeader = length bytes < least
IsRefusal kind least size flags fields texts bytes BadSignature = (least ≤ length bytes) × (take 8 bytes ≢ signature)
IsRefusal kind least size flags fields texts bytes (BadType found) =
    (least ≤ length bytes) × (take 8 bytes ≡ signature) × (long_at bytes type_place ≡ found) × (found ≢ kind)
IsRefusal kind least size flags fields texts bytes (FieldOutside name) = IsHeader kind least bytes × IsFirstOutside size fields bytes name
IsRefusal kind least size flags fields texts bytes (OddText name) =
    IsHeader kind least bytes × AllByRecursion (λ field. IsInside field.1 size bytes) fields
    × IsTrue (has_flag flags negotiate_unicode) × IsFirstOdd texts bytes name
IsRefusal kind least size flags fields texts bytes Memory = ⊥

-- ---- the written form

-- a payload field in the header, its greatest length written as its length
abbrev pub field_bytes : List ℕ → ℕ → List ℕ
field_bytes part offset = to_le_bytes w16 (length part) ++ to_le_bytes w16 (length part) ++ to_le_bytes w32 offset

-- the bytes where there are some
abbrev pub bytes_of : Option (List ℕ) → List ℕ
bytes_of None = []
bytes_of (Some bytes) = bytes

-- each field has at most 65,535 bytes, since its length has 16 bits
abbrev pub FieldsFit : List (Field × List ℕ) → Type 0
FieldsFit fields = AllByRecursion (λ field. length field.1 ≤ 65535) fields

-- the first of the fields that has more
abbrev pub IsFirstTooLong : List (Field × List ℕ) → Field → Type 0
IsFirstTooLong [] name = ⊥
IsFirstTooLong (field ∷ fields) name =
    ((65535 < length field.1) × (name ≡ field.0)) ⊎ ((length field.1 ≤ 65535) × IsFirstTooLong fields name)

abbrev pub fits_of : Field → List ℕ → Result (Unit {0}) WriteRefused
fits_of name part = if nat_lt 65535 (length part) then Err (TooLong name) else Ok tt

-- that each field fits, or the first that doesn't
abbrev pub lengths_of : List (Field × List ℕ) → Result (Unit {0}) WriteRefused
lengths_of [] = Ok tt
lengths_of (field ∷ fields) = fits_of field.0 field.1 >>= λ fits. lengths_of fields

-- the written form, or the first field that is too long for it
abbrev pub form_of : List (Field × List ℕ) → List ℕ → Result (List ℕ) WriteRefused
form_of fields written = lengths_of fields >>= λ fits. Ok written
