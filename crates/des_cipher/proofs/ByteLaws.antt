-- Bits and bytes: the bytes that the bits of 8 bytes write are these bytes, and conversely.
use Rattle.std.proofs.Common.{◌≡◌, ℕ, zero, suc, ◌+◌, ◌-◌, ◌*◌, ◌%◌, ◌^◌, ◌<◌, ◌≤◌, ◌==◌, Bool, true, false, cond, List, [], ◌∷◌, ◌++◌, length, take, drop, slice_range, refl, ap, sym, ◌∙◌, arith, lit<}
use Rattle.std.proofs.lemmas.Nat.{mod-pow-add}
use Rattle.std.proofs.lemmas.Nat.Bits.{bit_at-lt, bit_at_cat_high, bit_at_lowest}
use Rattle.std.proofs.lemmas.List.{take-append-drop, drop-drop, drop_all, length-append, length-take-le, length-drop}
use Rattle.std.proofs.Math.Nat.{pow-suc, mod-eq_of_lt}
use Rattle.std.specs.Int.{bit_at}
use Rattle.std.specs.List.{fold}
use Rattle.des_cipher.specs.Bits.{number_bits, number_of, bits_of, bytes_of}
use Rattle.des_cipher.specs.Des.{IsBlock}
use Rattle.des_cipher.proofs.BitLemmas.{length-number_bits}

-- ---- one number

-- the step of `number_of`
more : ℕ → Bool → ℕ
more n b = 2 * n + cond b 1 0

-- a bit tested, and read as a number
bit_read : (n : ℕ) → n < 2 → cond (n == 1) 1 0 ≡ n
bit_read zero h = refl
bit_read (suc zero) h = refl
bit_read (suc (suc n)) h = absurd (omega (arith, h))

bit_tested : (b : Bool) → (cond b 1 0 == 1) ≡ b
bit_tested true = refl
bit_tested false = refl

-- a number of three parts, in two ways
regroup : (a b p q r : ℕ) → q ≡ p * 2 → (2 * a + b) * p + r ≡ a * q + (b * p + r)
regroup a b p q r e = rw e (omega arith)

-- the last bits of a number, read after a number
read_after : (width n a : ℕ) → fold more a (number_bits width n) ≡ a * 2 ^ width + n % 2 ^ width
unfolding number_bits more
read_after zero n a = omega arith
read_after (suc width) n a =
    let bit : ℕ = bit_at n width in
    let b : cond (bit == 1) 1 0 ≡ bit = bit_read bit (bit_at-lt n width) in
    let split : n % 2 ^ suc width ≡ bit * 2 ^ width + n % 2 ^ width =
    let place : suc width ≡ 1 + width = omega arith in ap (λ k. n % 2 ^ k) place ∙ mod-pow-add n 1 width in
    read_after width n (2 * a + cond (bit == 1) 1 0)
    ∙ ap (λ z. (2 * a + z) * 2 ^ width + n % 2 ^ width) b
    ∙ regroup a bit (2 ^ width) (2 ^ suc width) (n % 2 ^ width) (pow-suc 2 width)
    ∙ ap (λ z. a * 2 ^ suc width + z) (sym split)

pub number_of-number_bits : (n : ℕ) → n < 256 → number_of (number_bits 8 n) ≡ n
unfolding number_of more
number_of-number_bits n h =
    let start : 0 * 2 ^ 8 + n % 2 ^ 8 ≡ n = omega (arith, mod-eq_of_lt h) in
    read_after 8 n 0 ∙ start

-- what bits write after a number
record Reading (bits : List Bool) (a : ℕ) : Type 0 where
  rest : ℕ
  below : rest < 2 ^ length bits
  value : fold more a bits ≡ a * 2 ^ length bits + rest

one_bit_more : (b : Bool) (p q r : ℕ) → q ≡ p * 2 → r < p → cond b 1 0 * p + r < q
one_bit_more true p q r e h = omega (arith, e, h)
one_bit_more false p q r e h = omega (arith, e, h)

reading : (bits : List Bool) (a : ℕ) → Reading bits a
unfolding more
reading [] a = record { rest = 0; below = lit< tt; value = omega arith }
reading (b ∷ bits) a =
    let r : Reading bits (2 * a + cond b 1 0) = reading bits (2 * a + cond b 1 0) in
    let power : 2 ^ length (b ∷ bits) ≡ 2 ^ length bits * 2 = pow-suc 2 (length bits) in
    record {
      rest = cond b 1 0 * 2 ^ length bits + r.rest;
      below = one_bit_more b (2 ^ length bits) _ r.rest power r.below;
      value = r.value ∙ regroup a (cond b 1 0) (2 ^ length bits) _ r.rest power;
    }

last_bit : (b : Bool) (a : ℕ) → (2 * a + cond b 1 0) % 2 ≡ cond b 1 0
last_bit true a = omega arith
last_bit false a = omega arith

-- the bits of what bits write after a number
bits_read : (bits : List Bool) (a : ℕ) → number_bits (length bits) (fold more a bits) ≡ bits
unfolding number_bits more
bits_read [] a = refl
bits_read (b ∷ bits) a =
    let n : ℕ = 2 * a + cond b 1 0 in
    let width : ℕ = length bits in
    let r : Reading bits n = reading bits n in
    let none : width - width ≡ 0 = omega arith in
    let first : bit_at (fold more n bits) width ≡ cond b 1 0 =
    ap (λ z. bit_at z width) r.value
    ∙ bit_at_cat_high n width r.rest width r.below (omega arith)
    ∙ ap (bit_at n) none ∙ bit_at_lowest n ∙ last_bit b a in
    ap (λ z. (z == 1) ∷ number_bits width (fold more n bits)) first
    ∙ ap (λ z. z ∷ number_bits width (fold more n bits)) (bit_tested b)
    ∙ ap (λ z. b ∷ z) (bits_read bits n)

number_bits-number_of : (bits : List Bool) → length bits ≡ 8 → number_bits 8 (number_of bits) ≡ bits
unfolding number_of more
number_bits-number_of bits h = ap (λ k. number_bits k (number_of bits)) (sym h) ∙ bits_read bits 0

-- ---- 8 bytes

-- the bytes that the bits of a block write
pub bytes_of-bits_of : (block : List ℕ) → IsBlock block → bytes_of (bits_of block) ≡ block
unfolding bytes_of bits_of number_bits
bytes_of-bits_of (a ∷ b ∷ c ∷ d ∷ e ∷ f ∷ g ∷ h ∷ []) is =
    let e0 : number_of (number_bits 8 a) ≡ a = number_of-number_bits a (is.bytes 0 0 (lit< tt)) in
    let e1 : number_of (number_bits 8 b) ≡ b = number_of-number_bits b (is.bytes 1 0 (lit< tt)) in
    let e2 : number_of (number_bits 8 c) ≡ c = number_of-number_bits c (is.bytes 2 0 (lit< tt)) in
    let e3 : number_of (number_bits 8 d) ≡ d = number_of-number_bits d (is.bytes 3 0 (lit< tt)) in
    let e4 : number_of (number_bits 8 e) ≡ e = number_of-number_bits e (is.bytes 4 0 (lit< tt)) in
    let e5 : number_of (number_bits 8 f) ≡ f = number_of-number_bits f (is.bytes 5 0 (lit< tt)) in
    let e6 : number_of (number_bits 8 g) ≡ g = number_of-number_bits g (is.bytes 6 0 (lit< tt)) in
    let e7 : number_of (number_bits 8 h) ≡ h = number_of-number_bits h (is.bytes 7 0 (lit< tt)) in
    cc
bytes_of-bits_of _ is = absurd (omega (arith, is.eight))

-- eight bits, and the bits from the next ones on
eight_more : (bits : List Bool) (from to : ℕ) (rest : List Bool) → rest ≡ drop to bits → to ≡ from + 8 → to ≤ length bits → number_bits 8 (number_of (slice_range bits from to)) ++ rest ≡ drop from bits
eight_more bits from to rest r e h =
    let width : to - from ≡ 8 = omega arith in
    let long : length (slice_range bits from to) ≡ 8 =
    ap (λ k. length (take k (drop from bits))) width ∙ length-take-le 8 (drop from bits) (omega (arith, length-drop from bits)) in
    let after : rest ≡ drop 8 (drop from bits) = r ∙ ap (λ k. drop k bits) e ∙ sym (drop-drop 8 from bits) in
    ap (λ z. z ++ rest) (number_bits-number_of (slice_range bits from to) long)
    ∙ ap (λ k. take k (drop from bits) ++ rest) width
    ∙ ap (λ z. take 8 (drop from bits) ++ z) after
    ∙ take-append-drop 8 (drop from bits)

-- the bits of the bytes that 64 bits write
pub bits_of-bytes_of : (bits : List Bool) → length bits ≡ 64 → bits_of (bytes_of bits) ≡ bits
unfolding bytes_of bits_of
bits_of-bytes_of bits h =
    eight_more bits 0 8 _ (
    eight_more bits 8 16 _ (
    eight_more bits 16 24 _ (
    eight_more bits 24 32 _ (
    eight_more bits 32 40 _ (
    eight_more bits 40 48 _ (
    eight_more bits 48 56 _ (
    eight_more bits 56 64 [] (sym (drop_all 64 bits (omega arith))) refl (omega arith)) refl (omega arith)) refl (omega arith)) refl (omega arith))
    refl (omega arith)) refl (omega arith)) refl (omega arith)) refl (omega arith)

pub length-bits_of : (bytes : List ℕ) → length (bits_of bytes) ≡ 8 * length bytes
unfolding bits_of
length-bits_of [] = refl
length-bits_of (b ∷ bytes) =
    omega (arith, length-append (number_bits 8 b) (bits_of bytes), length-number_bits 8 b, length-bits_of bytes)
