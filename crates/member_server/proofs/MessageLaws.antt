-- What holds of a message that is fit.
use Rattle.std.proofs.Common.{◌≡◌, ℕ, ◌*◌, ◌≤◌, ◌&&◌, Bool, true, false, List, [], ◌∷◌, length, Ok, Err, arith, sym, ◌∙◌, if◌then◌else◌}
use Rattle.std.specs.Prelude.{IsTrue}
use Rattle.std.specs.Result.{result_unwrap_or}
use Rattle.wire_base.specs.Units.{whole_units, units_of}
use Rattle.wire_base.specs.declared.units.UnitsRefused.{UnitsRefused}
use Rattle.ndr_codec.specs.Parts.{FitsText}
use Rattle.ntlm_flags.specs.Flags.{has_flag, agreed_flags, negotiate_unicode}
use Rattle.ntlm_flags.proofs.FlagLaws.{has_flag-and}
use Rattle.ntlm_messages.specs.Text.{units_of_text}

-- two bytes a unit
whole_short : (bytes : List ℕ) → 2 * length (whole_units bytes) ≤ length bytes
whole_short [] = omega arith
whole_short (low ∷ []) = omega arith
whole_short (low ∷ high ∷ rest) = omega (arith, whole_short rest)

units_short : (even : Bool) (bytes : List ℕ) (odd : UnitsRefused) →
    2 * length (result_unwrap_or (if even then Ok (whole_units bytes) else Err odd) []) ≤ length bytes
units_short true bytes odd = whole_short bytes
units_short false bytes odd = omega arith

text_short : (unicode : Bool) (text : List ℕ) → unicode ≡ true → 2 * length (result_unwrap_or (if unicode then units_of text else Ok text) []) ≤ length text
unfolding units_of
text_short true text is = units_short _ text _
text_short false text is = absurd (let z = is in cc)

pub text_fits : (flags : ℕ) (text : List ℕ) → IsTrue (has_flag flags negotiate_unicode) → length text ≤ 65535 → FitsText (units_of_text flags text)
text_fits flags text is short = let most = text_short (has_flag flags negotiate_unicode) text is in omega (arith, most, short)

right_of : (one other : Bool) → (one && other) ≡ true → other ≡ true
right_of true other is = is
right_of false other is = absurd (let z = is in cc)

-- a flag that is agreed is one of the message
pub agreed_in_message : (flags message flag : ℕ) → IsTrue (has_flag (agreed_flags flags message) flag) → IsTrue (has_flag message flag)
agreed_in_message flags message flag is =
    right_of (has_flag flags flag) (has_flag message flag) (sym (has_flag-and flags message flag) ∙ is)
