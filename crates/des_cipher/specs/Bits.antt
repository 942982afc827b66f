-- Lists of bits, and the bytes that they write. A bit is a `Bool`, a byte a number below 256. The bits of a list are
-- numbered from 1, and the first bit of a byte is its highest (FIPS 46-3, "Data Encryption Algorithm").
use Rattle.std.specs.Prelude.{ℕ, zero, suc, ◌+◌, ◌-◌, ◌*◌, ◌==◌, Bool, false, List, [], ◌∷◌, map, slice_index_or, slice_range, if◌then◌else◌}
use Rattle.std.specs.Bool.{xor}
use Rattle.std.specs.Int.{bit_at}
use Rattle.std.specs.List.{fold, flat_map, range_with_len}

-- the bit with this number
abbrev pub bit : List Bool → ℕ → Bool
bit bits place = slice_index_or bits (place - 1) false

-- the bits with the numbers listed, in this order
unfoldable pub permuted : List ℕ → List Bool → List Bool
permuted places bits = map (bit bits) places

-- two lists of one length combined bit by bit, by exclusive or
unfoldable pub combined : List Bool → List Bool → List Bool
combined [] ys = []
combined (x ∷ xs) [] = []
combined (x ∷ xs) (y ∷ ys) = xor x y ∷ combined xs ys

-- the last bits of a number, as many as `width`, the highest first
unfoldable pub number_bits : (width number : ℕ) → List Bool
number_bits zero n = []
number_bits (suc width) n = (bit_at n width == 1) ∷ number_bits width n

-- the number that bits write, the highest first
unfoldable pub number_of : List Bool → ℕ
number_of = fold (λ n b. 2 * n + (if b then 1 else 0)) 0

-- the bits of bytes, eight for each
unfoldable pub bits_of : List ℕ → List Bool
bits_of = flat_map (number_bits 8)

-- the 8 bytes that 64 bits write
unfoldable pub bytes_of : List Bool → List ℕ
bytes_of bits = map (λ i. number_of (slice_range bits (8 * i) (8 * i + 8))) (range_with_len 0 8)
