-- Little-endian numbers in a byte string, as every message here has them (MS-NLMP 2.2, C706 14.2).
-- Bytes are numbers below 256; a width is w16, w32 or w64 of `Rattle.std.specs.Int`.
use Rattle.std.specs.Prelude.{ℕ, List, Option, Some, None, ◌+◌, ◌<◌, length, nat_le, take, drop, slice_index, if◌then◌else◌}
use Rattle.std.specs.Int.{Width, w16, w32, w64, byte_len, from_le_bytes}

-- the number of that width whose lowest byte is at the place; None where the bytes end before it does
unfoldable pub number_at : Width → List ℕ → ℕ → Option ℕ
number_at w bytes place =
    if nat_le (place + byte_len w) (length bytes) then Some (from_le_bytes w (take (byte_len w) (drop place bytes))) else None

abbrev pub u16_of : List ℕ → ℕ → Option ℕ
u16_of bytes place = number_at w16 bytes place

abbrev pub u32_of : List ℕ → ℕ → Option ℕ
u32_of bytes place = number_at w32 bytes place

abbrev pub u64_of : List ℕ → ℕ → Option ℕ
u64_of bytes place = number_at w64 bytes place

-- each item is a byte
abbrev pub AreBytes : List ℕ → Type 0
AreBytes bytes = (place : ℕ) → slice_index bytes place < 256
