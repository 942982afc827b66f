-- Laws of UTF-16LE: what is read of written units is the units, and what is written of read bytes is the bytes.
use Rattle.std.proofs.Common.{◌≡◌, ℕ, zero, suc, ◌+◌, ◌*◌, ◌/◌, ◌%◌, ◌<◌, List, [], ◌∷◌, ◌++◌, length, get_or, take, Ok, Err, refl, sym, ap, ◌∙◌, arith, inl, inr}
use Rattle.std.specs.Int.{w16, to_le_bytes}
use Rattle.std.proofs.lemmas.List.{append_assoc, take_more}
use Rattle.std.proofs.lemmas.Bool.{cases_eq}
use Rattle.std.proofs.lemmas.Nat.{from_le_bytes-to_le_bytes_2}
use Rattle.wire_base.specs.declared.units.UnitsRefused.TheVariants.{Odd}
use Rattle.wire_base.specs.Numbers.{AreBytes}
use Rattle.wire_base.specs.Units.{AreUnits, utf16_of, whole_units, units_of}
use Rattle.wire_base.proofs.NumberLaws.{AreBytes-nil, AreBytes-append, AreBytes-to_le_bytes}

pub utf16_of-nil : utf16_of [] ≡ []
unfolding utf16_of
utf16_of-nil = refl

pub utf16_of-cons : (unit : ℕ) (units : List ℕ) → utf16_of (unit ∷ units) ≡ to_le_bytes w16 unit ++ utf16_of units
unfolding utf16_of
utf16_of-cons unit units = refl

pub utf16_of-append : (front rest : List ℕ) → utf16_of (front ++ rest) ≡ utf16_of front ++ utf16_of rest
unfolding utf16_of
utf16_of-append [] rest = refl
utf16_of-append (unit ∷ front) rest = ap (λ (t : List ℕ). to_le_bytes w16 unit ++ t) (utf16_of-append front rest) ∙ sym (append_assoc (to_le_bytes w16 unit) (utf16_of front) (utf16_of rest))

-- one unit more
pub utf16_of_more : (units : List ℕ) (i : ℕ) → i < length units → utf16_of (take (i + 1) units) ≡ utf16_of (take i units) ++ to_le_bytes w16 (get_or units i 0)
utf16_of_more units i lt =
    ap utf16_of (take_more units i 0 lt)
    ∙ utf16_of-append (take i units) (get_or units i 0 ∷ [])
    ∙ ap (λ (t : List ℕ). utf16_of (take i units) ++ t) (utf16_of-cons (get_or units i 0) [] ∙ rw utf16_of-nil refl)

pub length-utf16_of : (units : List ℕ) → length (utf16_of units) ≡ 2 * length units
unfolding utf16_of
length-utf16_of [] = refl
length-utf16_of (unit ∷ units) = omega (arith, length-utf16_of units)

pub AreBytes-utf16_of : (units : List ℕ) → AreBytes (utf16_of units)
unfolding utf16_of
AreBytes-utf16_of [] = AreBytes-nil
AreBytes-utf16_of (unit ∷ units) = AreBytes-append (to_le_bytes w16 unit) (utf16_of units) (AreBytes-to_le_bytes w16 unit) (AreBytes-utf16_of units)

-- ---- the first units of bytes

pub whole_units-utf16_of : (units : List ℕ) → AreUnits units → whole_units (utf16_of units) ≡ units
unfolding utf16_of
whole_units-utf16_of [] fits = refl
whole_units-utf16_of (unit ∷ units) fits =
    rw (from_le_bytes-to_le_bytes_2 unit (fits 0), whole_units-utf16_of units (λ i. fits (suc i))) refl

pub utf16_of-whole_units : (bytes : List ℕ) → AreBytes bytes → length bytes % 2 ≡ 0 → utf16_of (whole_units bytes) ≡ bytes
unfolding utf16_of
utf16_of-whole_units [] fits even = refl
utf16_of-whole_units (low ∷ []) fits even = absurd (omega arith)
utf16_of-whole_units (low ∷ high ∷ rest) fits even =
    let first : low < 256 = fits 0 in
    let second : high < 256 = fits 1 in
    let low-is : (low + high * 256) % 256 ≡ low = omega arith in
    let high-is : (low + high * 256) / 256 % 256 ≡ high = omega arith in
    rw (low-is, high-is, utf16_of-whole_units rest (λ i. fits (suc (suc i))) (omega arith)) refl

AreUnits-whole_units : (bytes : List ℕ) → AreBytes bytes → AreUnits (whole_units bytes)
AreUnits-whole_units [] fits i = omega arith
AreUnits-whole_units (low ∷ []) fits i = omega arith
AreUnits-whole_units (low ∷ high ∷ rest) fits zero = omega (arith, fits 0, fits 1)
AreUnits-whole_units (low ∷ high ∷ rest) fits (suc i) = AreUnits-whole_units rest (λ k. fits (suc (suc k))) i

-- ---- units as bytes, and bytes as units

-- an odd number of bytes is refused
pub units_of-odd : (bytes : List ℕ) → length bytes % 2 ≡ 1 → units_of bytes ≡ Err Odd
unfolding units_of
units_of-odd bytes odd = rw odd refl

-- an even number of bytes is read
pub units_of-even : (bytes : List ℕ) → length bytes % 2 ≡ 0 → units_of bytes ≡ Ok (whole_units bytes)
unfolding units_of
units_of-even bytes even = rw even refl

-- what is read has an even number of bytes
pub even_from-units_of : (bytes units : List ℕ) → units_of bytes ≡ Ok units → length bytes % 2 ≡ 0
even_from-units_of bytes units read =
    elim (cases_eq (length bytes % 2) 1) [
      | inl odd ↦ absurd (let refused = units_of-odd bytes odd in cc)
      | inr even ↦ omega arith
    ]

-- the units that bytes are read as are their whole units
pub whole_units_from-units_of : (bytes units : List ℕ) → units_of bytes ≡ Ok units → whole_units bytes ≡ units
whole_units_from-units_of bytes units read =
    let here = units_of-even bytes (even_from-units_of bytes units read) in cc

-- what is read of written units is the units
pub units_of-utf16_of : (units : List ℕ) → AreUnits units → units_of (utf16_of units) ≡ Ok units
units_of-utf16_of units fits =
    units_of-even (utf16_of units) (omega (arith, length-utf16_of units)) ∙ ap (λ (t : List ℕ). Ok t) (whole_units-utf16_of units fits)

-- what is written of read bytes is the bytes
pub utf16_of-units_of : (bytes units : List ℕ) → AreBytes bytes → units_of bytes ≡ Ok units → utf16_of units ≡ bytes
utf16_of-units_of bytes units fits read =
    rw (← whole_units_from-units_of bytes units read) (utf16_of-whole_units bytes fits (even_from-units_of bytes units read))

-- each unit that is read has 16 bits
pub AreUnits-units_of : (bytes units : List ℕ) → AreBytes bytes → units_of bytes ≡ Ok units → AreUnits units
AreUnits-units_of bytes units fits read = rw (← whole_units_from-units_of bytes units read) (AreUnits-whole_units bytes fits)

-- for `grind`: the calls that read and write units
pub ruleset reading = (units_of-odd, units_of-even)

pub ruleset writing = (utf16_of-nil, utf16_of_more)
