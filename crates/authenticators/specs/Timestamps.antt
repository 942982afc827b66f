-- The timestamp of a moment: seconds since 1970-01-01 (MS-NRPC 2.2.1.1.5), as a number below 2^32. A moment is a number
-- of units of 100 ns since 1601-01-01 (MS-DTYP 2.3.3, FILETIME), below 2^64. That the seconds wrap is this project's
-- own choice.
use Rattle.std.specs.Prelude.{ℕ, ◌+◌, ◌-◌, ◌*◌, ◌/◌, ◌%◌, ◌^◌}

-- the seconds from 1601-01-01 to 1970-01-01
abbrev pub seconds_to_1970 : ℕ
seconds_to_1970 = 11644473600

-- the whole seconds from 1970 on, modulo 2^32; a moment before 1970 counts back from 2^32. A multiple of 2^32 is added
-- first, since these numbers have no sign
abbrev pub timestamp_of : ℕ → ℕ
timestamp_of now = (now / 10000000 + 3 * 2 ^ 32 - seconds_to_1970) % 2 ^ 32
