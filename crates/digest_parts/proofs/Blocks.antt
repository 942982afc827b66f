-- How the registers and the rest follow bytes that are joined.
use Rattle.std.proofs.Common.{◌≡◌, ℕ, zero, suc, ◌+◌, ◌-◌, ◌*◌, ◌/◌, ◌%◌, ◌^◌, ◌<◌, ◌≤◌, List, [], ◌∷◌, ◌++◌, length, take, drop, replicate, refl, sym, ap, ◌∙◌, arith, length-append, length-drop}
use Rattle.std.proofs.lemmas.List.{take-append-le, drop-append-le, take_all, drop_all, drop-drop, drop_at, take-append-drop, length-take-le, append_assoc, append-nil}
use borrow.Rule.Slice.PartMut.{put_mid, post_of}
use Rattle.std.proofs.lemmas.List.Sums.{fold-append}
use Rattle.std.specs.Simd.{first_chunks}
use Rattle.std.specs.Int.{w64, to_le_bytes}
use Rattle.digest_parts.specs.Md4.{padded, zeros_after, blocks_of, rest_of, after_block, after_blocks}

chunks-add : (a b : ℕ) (p : List ℕ) → first_chunks 64 (a + b) p ≡ first_chunks 64 a p ++ first_chunks 64 b (drop (a * 64) p)
chunks-add zero b p =
    let e : 0 + b ≡ b = omega arith in
    rw e refl
chunks-add (suc a) b p =
    let e : suc a + b ≡ suc (a + b) = omega arith in
    let at : suc a * 64 ≡ 64 + a * 64 = omega arith in
    rw (e, chunks-add a b (drop 64 p), drop-drop (a * 64) 64 p, at) refl

chunks-append : (n : ℕ) (p x : List ℕ) → n * 64 ≤ length p → first_chunks 64 n (p ++ x) ≡ first_chunks 64 n p
chunks-append zero p x fits = refl
chunks-append (suc n) p x fits =
    rw (take-append-le 64 p x (omega arith), drop-append-le 64 p x (omega arith), chunks-append n (drop 64 p) x (omega (arith, length-drop 64 p))) refl

-- bytes after whole blocks
pub after_blocks-append : (h p x : List ℕ) → length p % 64 ≡ 0 → after_blocks h (p ++ x) ≡ after_blocks (after_blocks h p) x
unfolding after_blocks blocks_of
after_blocks-append h p x whole =
    let count : length (p ++ x) / 64 ≡ length p / 64 + length x / 64 = omega (arith, length-append p x) in
    let front = chunks-append (length p / 64) p x (omega arith) in
    let back : drop (length p / 64 * 64) (p ++ x) ≡ x = drop_at p x (length p / 64 * 64) (omega arith) in
    rw (count, chunks-add (length p / 64) (length x / 64) (p ++ x), front, back)
    (fold-append after_block h (first_chunks 64 (length p / 64) p) (first_chunks 64 (length x / 64) x))

pub rest_of-append : (p x : List ℕ) → length p % 64 ≡ 0 → rest_of (p ++ x) ≡ rest_of x
unfolding rest_of
rest_of-append p x whole =
    let at : length (p ++ x) / 64 * 64 ≡ length p + length x / 64 * 64 = omega (arith, length-append p x) in
    rw (at, ← drop-drop (length x / 64 * 64) (length p) (p ++ x), drop_at p x (length p) refl) refl

-- bytes that are less than a block
pub after_blocks_short : (h p : List ℕ) → length p < 64 → after_blocks h p ≡ h
unfolding after_blocks blocks_of
after_blocks_short h p short =
    let none : length p / 64 ≡ 0 = omega arith in
    rw none refl

pub rest_of_short : (p : List ℕ) → length p < 64 → rest_of p ≡ p
unfolding rest_of
rest_of_short p short =
    let none : length p / 64 * 64 ≡ 0 = omega arith in
    rw none refl

-- one block
pub after_blocks_one : (h p : List ℕ) → length p ≡ 64 → after_blocks h p ≡ after_block h p
unfolding after_blocks blocks_of
after_blocks_one h p whole =
    let one : length p / 64 ≡ 1 = omega arith in
    rw (one, take_all 64 p (omega arith)) refl

pub length-rest_of : (p : List ℕ) → length (rest_of p) ≡ length p % 64
unfolding rest_of
length-rest_of p = omega (arith, length-drop (length p / 64 * 64) p)

-- the whole blocks of bytes, which come before their rest
front_of : List ℕ → List ℕ
front_of m = take (length m / 64 * 64) m

front_of-append-rest_of : (m : List ℕ) → front_of m ++ rest_of m ≡ m
unfolding front_of rest_of
front_of-append-rest_of m = take-append-drop (length m / 64 * 64) m

length-front_of : (m : List ℕ) → length (front_of m) % 64 ≡ 0
unfolding front_of
length-front_of m =
    let len = length-take-le (length m / 64 * 64) m (omega arith) in
    omega arith

split_append : (m x : List ℕ) → m ++ x ≡ front_of m ++ (rest_of m ++ x)
split_append m x = ap (λ (y : List ℕ). y ++ x) (sym (front_of-append-rest_of m)) ∙ append_assoc (front_of m) (rest_of m) x

-- after more bytes, the registers and the rest follow from those of the bytes before
pub after_blocks_on : (h m x : List ℕ) → after_blocks h (m ++ x) ≡ after_blocks (after_blocks h m) (rest_of m ++ x)
after_blocks_on h m x =
    let whole = length-front_of m in
    let before : after_blocks h m ≡ after_blocks h (front_of m) =
    ap (λ (y : List ℕ). after_blocks h y) (sym (front_of-append-rest_of m)) ∙ after_blocks-append h (front_of m) (rest_of m) whole
    ∙ after_blocks_short (after_blocks h (front_of m)) (rest_of m) (omega (arith, length-rest_of m)) in
    rw (split_append m x, before) (after_blocks-append h (front_of m) (rest_of m ++ x) whole)

pub rest_of_on : (m x : List ℕ) → rest_of (m ++ x) ≡ rest_of (rest_of m ++ x)
rest_of_on m x = rw (split_append m x) (rest_of-append (front_of m) (rest_of m ++ x) (length-front_of m))

-- a block b of which the first n bytes are kept is completed by the first bytes of d, and o is left
pub completed : (b d f o full : List ℕ) (n k : ℕ) → length b ≡ 64 → n < 64 → 64 ≤ n + length d → k ≡ 64 - n → f ≡ take k d → o ≡ drop k d
    → full ≡ put_mid n k b f → (full ≡ take n b ++ f) × (length full ≡ 64) × (take n b ++ d ≡ full ++ o)
completed b d f o full n k len low enough count front back is =
    let lk : length (take n b) ≡ n = length-take-le n b (omega arith) in
    let lf : length f ≡ k = ap length front ∙ length-take-le k d (omega arith) in
    let none : post_of n k b ≡ [] = drop_all k (drop n b) (omega (arith, length-drop n b)) in
    let joined : full ≡ take n b ++ f = is ∙ rw (none, append-nil f) refl in
    (joined, ap length joined ∙ omega (arith, length-append (take n b) f), rw (joined, append_assoc (take n b) f o, front, back, take-append-drop k d) refl)

-- a message, the padding that its count asks for, and the count in bits
pub padded_from_count : (m p b : List ℕ) (n : ℕ) → n ≡ length m % 2 ^ 64 → p ≡ 0x80 ∷ replicate (zeros_after (n % 64)) 0 → b ≡ to_le_bytes w64 (n * 8 % 2 ^ 64)
    → (m ++ p) ++ b ≡ padded m
unfolding padded
padded_from_count m p b n count padding bytes =
    let zeros : zeros_after (n % 64) ≡ zeros_after (length m) = omega arith in
    let bits : n * 8 % 2 ^ 64 ≡ length m * 8 % 2 ^ 64 = omega arith in
    rw (padding, bytes, zeros, bits) refl
