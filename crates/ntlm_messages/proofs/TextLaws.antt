-- The text fields of a message that was read are texts, and so is what is written in UTF-16LE.
use Rattle.std.proofs.Common.{◌≡◌, ℕ, ◌%◌, Bool, true, false, IsTrue, List, [], length, Result, Ok, refl, sym, ap, ◌∙◌, if◌then◌else◌, arith}
use Rattle.std.specs.Result.{result_unwrap_or}
use Rattle.wire_base.specs.Units.{AreUnits, units_of, utf16_of}
use Rattle.wire_base.specs.declared.units.UnitsRefused.{UnitsRefused}
use Rattle.wire_base.proofs.UnitLaws.{units_of-even, units_of-utf16_of, length-utf16_of}
use Rattle.ntlm_flags.specs.Flags.{has_flag, negotiate_unicode}
use Rattle.ntlm_messages.specs.Fields.{IsText}
use Rattle.ntlm_messages.specs.Text.{text_units_of, units_of_text}

by_flag : (wide : Bool) (text : List ℕ) → (IsTrue wide → length text % 2 ≡ 0) →
    (if wide then units_of text else Ok text) ≡ Ok (result_unwrap_or (if wide then units_of text else Ok text) [])
by_flag true text even = rw (units_of-even text (even refl)) refl
by_flag false text even = refl

ok_injective : {E : Type 0} {a b : List ℕ} → ◌≡◌ {A = Result (List ℕ) E} (Ok a) (Ok b) → a ≡ b
ok_injective e = cc

pub text_units_read : (flags : ℕ) (text : List ℕ) → IsText flags text → text_units_of flags text ≡ Ok (units_of_text flags text)
text_units_read flags text even = by_flag (has_flag flags negotiate_unicode) text even

pub text_units_are : (flags : ℕ) (text units : List ℕ) → IsText flags text → text_units_of flags text ≡ Ok units → units ≡ units_of_text flags text
text_units_are flags text units even read = ok_injective (sym read ∙ text_units_read flags text even)

-- ---- what is written

pub text_units_of-written : (flags : ℕ) (units : List ℕ) → IsTrue (has_flag flags negotiate_unicode) → AreUnits units → text_units_of flags (utf16_of units) ≡ Ok units
text_units_of-written flags units wide fits = rw wide (units_of-utf16_of units fits)

pub IsText-written : (flags : ℕ) (units : List ℕ) → IsText flags (utf16_of units)
IsText-written flags units wide = omega (arith, length-utf16_of units)

pub units_of_text-written : (flags : ℕ) (units : List ℕ) → IsTrue (has_flag flags negotiate_unicode) → AreUnits units → units_of_text flags (utf16_of units) ≡ units
units_of_text-written flags units wide fits =
    ap (λ (r : Result (List ℕ) UnitsRefused). result_unwrap_or r []) (text_units_of-written flags units wide fits)
