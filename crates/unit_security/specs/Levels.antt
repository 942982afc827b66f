-- What the authentication levels say of units (MS-RPCE 2.2.1.1.8).
use Rattle.std.specs.Prelude.{ℕ, ◌==◌, ◌||◌, Bool}
use Rattle.rpc_units.specs.Numbers.{connect_level, integrity_level, privacy_level}

-- calls and replies have no signature
abbrev pub is_plain : ℕ → Bool
is_plain level = level == connect_level

-- units are signed
abbrev pub is_signed : ℕ → Bool
is_signed level = level == integrity_level || level == privacy_level

-- whether stubs are sealed at a level, besides being signed
abbrev pub is_sealed : ℕ → Bool
is_sealed level = level == privacy_level

-- the levels that are spoken
abbrev pub is_level : ℕ → Bool
is_level level = is_plain level || is_signed level
