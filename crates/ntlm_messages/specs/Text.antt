-- The text fields of messages (MS-NLMP 2.2): UTF-16LE where the flag is set, else the OEM character set, of which each
-- byte stands for the unit of its own number (this project's own choice, which knows no code page).
use Rattle.std.specs.Prelude.{ℕ, List, [], Result, Ok, if◌then◌else◌}
use Rattle.std.specs.Result.{result_unwrap_or}
use Rattle.wire_base.specs.Units.{units_of}
use Rattle.wire_base.specs.declared.units.UnitsRefused.{UnitsRefused}
use Rattle.ntlm_flags.specs.Flags.{has_flag, negotiate_unicode}

-- the 16-bit units of a text
abbrev pub text_units_of : ℕ → List ℕ → Result (List ℕ) UnitsRefused
text_units_of flags text = if has_flag flags negotiate_unicode then units_of text else Ok text

-- the units of a text field of a message with these flags; none of what is no text, which no message that was read has
abbrev pub units_of_text : ℕ → List ℕ → List ℕ
units_of_text flags text = result_unwrap_or (text_units_of flags text) []
