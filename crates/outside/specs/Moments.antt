-- Moments, in units of 100 ns since 1601-01-01 (the FILETIME of MS-DTYP 2.3.3).
use Rattle.std.specs.Prelude.{ℕ, ◌+◌, ◌-◌, ◌*◌, ◌/◌, ◌^◌, min}

-- the moment of 1970-01-01
abbrev pub moment_of_1970 : ℕ
moment_of_1970 = 11644473600 * 10000000

-- the moment `nanoseconds` after 1970-01-01, which stands still at the end of 64 bits
abbrev pub moment_after_1970 : (nanoseconds : ℕ) → ℕ
moment_after_1970 nanoseconds = min (moment_of_1970 + nanoseconds / 100) (2 ^ 64 - 1)
