-- What crates above may use of `applied`: its length, its parts, that it undoes itself, and bounds.
use Rattle.std.proofs.Common.{◌≡◌, ℕ, zero, suc, ◌+◌, ◌<◌, ◌≤◌, List, [], ◌∷◌, length, get_or, set, All, swap, bit_xor, refl, ap, ◌∙◌, arith, lit<, lit≤}
use Rattle.std.proofs.lemmas.List.Edits.{length-swap}
use Rattle.std.proofs.lemmas.List.Elements.{All-cons, All-set}
use Rattle.std.proofs.lemmas.List.FromFn.{get_or-range_with_len}
use Rattle.std.proofs.lemmas.Nat.{xor_lt}
use Rattle.std.specs.Int.Bits.{xor_assoc, xor_self, xor_zero_r}
use Rattle.std.specs.List.{range_with_len}
use Rattle.rc4_stream.specs.Rc4.{shuffled, state_after, key_byte, applied}

-- ---- lengths

pub length-applied : (key : List ℕ) (used : ℕ) (bytes : List ℕ) → length (applied key used bytes) ≡ length bytes
unfolding applied
length-applied key used [] = refl
length-applied key used (b ∷ bs) = ap suc (length-applied key (used + 1) bs)

pub length-shuffled : (key : List ℕ) (n : ℕ) → length (shuffled key n).table ≡ 256
unfolding shuffled
length-shuffled key zero = refl
length-shuffled key (suc n) = length-swap _ _ _ ∙ length-shuffled key n

-- ---- the same bytes of the key stream give back what they were combined with

pub applied-applied : (key : List ℕ) (used : ℕ) (bytes : List ℕ) → applied key used (applied key used bytes) ≡ bytes
unfolding applied
applied-applied key used [] = refl
applied-applied key used (b ∷ bs) =
    let k = key_byte key used in
    let back : bit_xor (bit_xor b k) k ≡ b = xor_assoc b k k ∙ ap (bit_xor b) (xor_self k) ∙ xor_zero_r b in
    ap (λ n. n ∷ applied key (used + 1) (applied key (used + 1) bs)) back ∙ ap (λ zs. b ∷ zs) (applied-applied key (used + 1) bs)

-- ---- bounds

abbrev IsByte : ℕ → Type 0
IsByte n = n < 256

-- an entry of a table of bytes, or a default that is one
byte_at : (table : List ℕ) (i d : ℕ) → d < 256 → All IsByte table → get_or table i d < 256
byte_at [] i d e h = e
byte_at (x ∷ xs) zero d e h = h 0 0 (omega arith)
byte_at (x ∷ xs) (suc i) d e h = byte_at xs i d e (λ k f below. h (suc k) f (omega arith))

swapped_bytes : (table : List ℕ) (i j : ℕ) → All IsByte table → All IsByte (swap table i j)
swapped_bytes [] i j h = h
swapped_bytes (d ∷ ds) i j h =
    let first : d < 256 = h 0 0 (omega arith) in
    All-set IsByte (set (d ∷ ds) i (get_or (d ∷ ds) j d)) j (get_or (d ∷ ds) i d) (byte_at (d ∷ ds) i d first h)
    (All-set IsByte (d ∷ ds) i (get_or (d ∷ ds) j d) (byte_at (d ∷ ds) j d first h) h)

range_bytes : (n k d : ℕ) → n ≤ 256 → k < n → get_or (range_with_len 0 n) k d < 256
range_bytes n k d e h = omega (arith, get_or-range_with_len 0 n k d h)

table_in_order : All IsByte (range_with_len 0 256)
table_in_order k d h = range_bytes 256 k d (lit≤ tt) h

shuffled_bytes : (key : List ℕ) (n : ℕ) → All IsByte (shuffled key n).table
unfolding shuffled
shuffled_bytes key zero = table_in_order
shuffled_bytes key (suc n) = swapped_bytes _ _ _ (shuffled_bytes key n)

state_bytes : (key : List ℕ) (n : ℕ) → All IsByte (state_after key n).table
unfolding state_after
state_bytes key zero = shuffled_bytes key 256
state_bytes key (suc n) = swapped_bytes _ _ _ (state_bytes key n)

pub key_byte-lt : (key : List ℕ) (n : ℕ) → key_byte key n < 256
unfolding key_byte
key_byte-lt key n = byte_at _ _ 0 (lit< tt) (state_bytes key (n + 1))

pub All-applied : (key : List ℕ) (used : ℕ) (bytes : List ℕ) → All (λ b. b < 256) bytes → All (λ b. b < 256) (applied key used bytes)
unfolding applied
All-applied key used [] h = h
All-applied key used (b ∷ bs) h =
    let first : b < 256 = h 0 0 (omega arith) in
    All-cons (λ n. n < 256) _ _ (xor_lt 8 b (key_byte key used) first (key_byte-lt key used))
    (All-applied key (used + 1) bs (λ k d below. h (suc k) d (omega arith)))
