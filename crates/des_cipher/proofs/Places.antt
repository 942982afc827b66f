-- The bits of words that are shifted, rotated, masked and combined, by their places.
use Rattle.std.proofs.Common.{◌≡◌, ℕ, zero, suc, ◌+◌, ◌-◌, ◌*◌, ◌/◌, ◌%◌, ◌^◌, ◌<◌, ◌≤◌, ◌==◌, min, ◌&&◌, Bool, true, false, not, cond, List, [], ◌∷◌, bit_and, bit_xor, get_or, ltb, ltb-true, refl, ap, ap₂, sym, ◌∙◌, arith, shr-shr, pow_pos, div-add-mod', leb, leb-true, leb-false, add-zero}
use Rattle.std.proofs.lemmas.Nat.Bits.{bit_at-lt, bit_at_cat_low, bit_at_cat_high, bit_at_and, bit_at_xor, bit_at-zero}
use Rattle.std.proofs.lemmas.Bool.{eqb-true, eqb-false}
use Rattle.std.proofs.lemmas.Bool.{and_parts}
use Rattle.std.proofs.lemmas.List.Elements.{All-get_or}
use Rattle.std.proofs.lemmas.List.FromFn.{get_or-range_with_len, length-range_with_len}
use Rattle.std.proofs.lemmas.List.Sums.{AllPass-from_list_all}
use Rattle.std.specs.Int.{bit_at}
use Rattle.std.specs.List.{list_all, range_with_len}
use Rattle.des_cipher.specs.Bits.{number_bits}
use Rattle.des_cipher.specs.Words.{exchanged}

-- ---- a list of bits by a function of their places, the highest first

unfoldable pub read : (ℕ → ℕ) → ℕ → List Bool
read f zero = []
read f (suc w) = (f w == 1) ∷ read f w

pub number_bits_by : (w n : ℕ) (f : ℕ → ℕ) → ((i : ℕ) → i < w → bit_at n i ≡ f i) → number_bits w n ≡ read f w
unfolding number_bits read
number_bits_by zero n f h = refl
number_bits_by (suc w) n f h =
    ap (λ z. (z == 1) ∷ number_bits w n) (h w (omega arith))
    ∙ ap (λ z. (f w == 1) ∷ z) (number_bits_by w n f (λ i below. h i (omega (arith, below))))

-- ---- shifts

pub bit_at-shr : (x n i : ℕ) → bit_at (x / 2 ^ n) i ≡ bit_at x (n + i)
bit_at-shr x n i = ap (λ z. z % 2) (shr-shr x n i)

pub bit_at-wrapped : (m k i : ℕ) → i < k → bit_at (m % 2 ^ k) i ≡ bit_at m i
bit_at-wrapped m k i h =
    sym (bit_at_cat_low (m / 2 ^ k) k (m % 2 ^ k) i h) ∙ ap (λ z. bit_at z i) (div-add-mod' m (2 ^ k))

pub bit_at-shl_low : (t n i : ℕ) → i < n → bit_at (t * 2 ^ n) i ≡ 0
bit_at-shl_low t n i h =
    ap (λ z. bit_at z i) (sym (add-zero (t * 2 ^ n))) ∙ bit_at_cat_low t n 0 i h ∙ bit_at-zero i

pub bit_at-shl_high : (t n i : ℕ) → n ≤ i → bit_at (t * 2 ^ n) i ≡ bit_at t (i - n)
bit_at-shl_high t n i h =
    ap (λ z. bit_at z i) (sym (add-zero (t * 2 ^ n))) ∙ bit_at_cat_high t n 0 i (pow_pos n) h

-- ---- bits exchanged with those some places higher

-- the place that a bit comes from
unfoldable pub from_place : ℕ → ℕ → ℕ → ℕ
from_place n mask i =
    cond (bit_at mask i == 1) (n + i) (cond (leb n i && (bit_at mask (i - n) == 1)) (i - n) i)

-- no bit is in both parts
unfoldable pub is_apart : ℕ → ℕ → ℕ → Bool
is_apart n mask i = not ((bit_at mask i == 1) && leb n i && (bit_at mask (i - n) == 1))

-- the sum of bits, by the three tests
exchanged_by : (x n i m l s : ℕ) (b1 b2 b3 : Bool) → (m == 1) ≡ b1 → leb n i ≡ b2 → (l == 1) ≡ b3 → not (b1 && b2 && b3) ≡ true → m < 2 → l < 2 → (n ≤ i → s ≡ min ((bit_at x i + bit_at x (i - n)) % 2) l) → (i < n → s ≡ 0) → ((bit_at x i + min ((bit_at x (n + i) + bit_at x i) % 2) m) % 2 + s) % 2 ≡ bit_at x (cond b1 (n + i) (cond (b2 && b3) (i - n) i))
exchanged_by x n i m l s true true true e1 e2 e3 ok hm hl high low = cc
exchanged_by x n i m l s true true false e1 e2 e3 ok hm hl high low =
    omega (arith, eqb-true m 1 e1, eqb-false l 1 e3, high (leb-true n i e2), bit_at-lt x i, bit_at-lt x (n + i), bit_at-lt x (i - n))
exchanged_by x n i m l s true false b3 e1 e2 e3 ok hm hl high low =
    omega (arith, eqb-true m 1 e1, low (leb-false n i e2), bit_at-lt x i, bit_at-lt x (n + i))
exchanged_by x n i m l s false true true e1 e2 e3 ok hm hl high low =
    omega (arith, eqb-false m 1 e1, eqb-true l 1 e3, high (leb-true n i e2), bit_at-lt x i, bit_at-lt x (i - n))
exchanged_by x n i m l s false true false e1 e2 e3 ok hm hl high low =
    omega (arith, eqb-false m 1 e1, eqb-false l 1 e3, high (leb-true n i e2), bit_at-lt x i)
exchanged_by x n i m l s false false b3 e1 e2 e3 ok hm hl high low =
    omega (arith, eqb-false m 1 e1, low (leb-false n i e2), bit_at-lt x i)

pub bit_at-exchanged : (x n mask i : ℕ) → i < 64 → is_apart n mask i ≡ true → bit_at (exchanged x n mask) i ≡ bit_at x (from_place n mask i)
unfolding exchanged from_place is_apart
bit_at-exchanged x n mask i below ok =
    let d : ℕ = bit_and (bit_xor (x / 2 ^ n) x) mask in
    let differ : (j : ℕ) → bit_at d j ≡ min ((bit_at x (n + j) + bit_at x j) % 2) (bit_at mask j) =
    λ j. bit_at_and (bit_xor (x / 2 ^ n) x) mask j ∙ ap (λ z. min z (bit_at mask j)) (bit_at_xor (x / 2 ^ n) x j ∙ ap (λ z. (z + bit_at x j) % 2) (bit_at-shr x n j)) in
    let whole : bit_at (bit_xor (bit_xor x d) (d * 2 ^ n % 2 ^ 64)) i ≡ ((bit_at x i + min ((bit_at x (n + i) + bit_at x i) % 2) (bit_at mask i)) % 2 + bit_at (d * 2 ^ n) i) % 2 =
    bit_at_xor (bit_xor x d) (d * 2 ^ n % 2 ^ 64) i
    ∙ ap₂ (λ y z. (y + z) % 2) (bit_at_xor x d i ∙ ap (λ z. (bit_at x i + z) % 2) (differ i)) (bit_at-wrapped (d * 2 ^ n) 64 i below) in
    let high : n ≤ i → bit_at (d * 2 ^ n) i ≡ min ((bit_at x i + bit_at x (i - n)) % 2) (bit_at mask (i - n)) =
    λ h. bit_at-shl_high d n i h ∙ differ (i - n) ∙ ap (λ k. min ((bit_at x k + bit_at x (i - n)) % 2) (bit_at mask (i - n))) (omega (arith, h)) in
    whole ∙ exchanged_by x n i (bit_at mask i) (bit_at mask (i - n)) (bit_at (d * 2 ^ n) i) _ _ _ refl refl refl ok (bit_at-lt mask i) (bit_at-lt mask (i - n)) high (λ h. bit_at-shl_low d n i h)

-- ---- a test of all numbers below a bound

pub at_each : (test : ℕ → Bool) (n i : ℕ) → list_all test (range_with_len 0 n) ≡ true → i < n → test i ≡ true
at_each test n i h below =
    let place : get_or (range_with_len 0 n) i 0 ≡ i = omega (arith, get_or-range_with_len 0 n i 0 below) in
    sym (ap test place)
    ∙ All-get_or (λ k. test k ≡ true) (range_with_len 0 n) i 0 (omega (arith, below, length-range_with_len 0 n)) (AllPass-from_list_all test (range_with_len 0 n) h)

-- ---- words of 64 bits with bits moved

-- the bits of y are bits of x, by their places
pub record Moved (y x : ℕ) (from : ℕ → ℕ) : Type 0 where
  pub bits : (i : ℕ) → i < 64 → bit_at y i ≡ bit_at x (from i)
  pub below : (i : ℕ) → i < 64 → from i < 64

pub moved_twice : (z y x : ℕ) (g f : ℕ → ℕ) → Moved z y g → Moved y x f → Moved z x (λ i. f (g i))
moved_twice z y x g f a b = record {
  bits = λ i h. a.bits i h ∙ b.bits (g i) (a.below i h);
  below = λ i h. b.below (g i) (a.below i h);
}

-- what is tested of a distance and a mask
unfoldable pub is_sound : ℕ → ℕ → ℕ → Bool
is_sound n mask i = is_apart n mask i && ltb (from_place n mask i) 64

pub Moved-exchanged : (y x n mask : ℕ) → y ≡ exchanged x n mask → list_all (is_sound n mask) (range_with_len 0 64) ≡ true → Moved y x (from_place n mask)
unfolding is_sound
Moved-exchanged y x n mask e h =
    let test : (i : ℕ) → i < 64 → (is_apart n mask i ≡ true) × (ltb (from_place n mask i) 64 ≡ true) =
    λ i below. and_parts (is_apart n mask i) (ltb (from_place n mask i) 64) (at_each (is_sound n mask) 64 i h below) in
    record {
      bits = λ i below. ap (λ z. bit_at z i) e ∙ bit_at-exchanged x n mask i below (test i below).0;
      below = λ i below. ltb-true (from_place n mask i) 64 (test i below).1;
    }

pub permuted_by : (y x : ℕ) (from : ℕ → ℕ) → Moved y x from → number_bits 64 y ≡ read (λ i. bit_at x (from i)) 64
permuted_by y x from h = number_bits_by 64 y (λ i. bit_at x (from i)) h.bits
