-- Unicode text: a list of 16-bit units, and the same in bytes as UTF-16LE, two a unit, the low byte first (MS-NLMP
-- 2.2).
use Rattle.std.specs.Prelude.{ℕ, List, [], ◌∷◌, Result, Ok, Err, ◌%◌, ◌<◌, ◌^◌, ◌==◌, length, slice_index, if◌then◌else◌}
use Rattle.std.specs.List.{flat_map}
use Rattle.std.specs.Int.{w16, to_le_bytes, from_le_bytes}
use Rattle.wire_base.specs.declared.units.UnitsRefused.{UnitsRefused}
use Rattle.wire_base.specs.declared.units.UnitsRefused.TheVariants.{Odd}

-- each item is a 16-bit unit
abbrev pub AreUnits : List ℕ → Type 0
AreUnits units = (place : ℕ) → slice_index units place < 2 ^ 16

-- the bytes of the units
unfoldable pub utf16_of : List ℕ → List ℕ
utf16_of units = flat_map (to_le_bytes w16) units

-- the units of an even number of bytes; an odd last byte belongs to none
abbrev pub whole_units : List ℕ → List ℕ
whole_units [] = []
whole_units (low ∷ []) = []
whole_units (low ∷ high ∷ rest) = from_le_bytes w16 (low ∷ high ∷ []) ∷ whole_units rest

-- the units of the bytes; Odd where their number is odd
unfoldable pub units_of : List ℕ → Result (List ℕ) UnitsRefused
units_of bytes = if (length bytes % 2 == 0) then Ok (whole_units bytes) else Err Odd
