-- Words of 64 bits and their halves.
use Rattle.std.proofs.Common.{◌≡◌, ℕ, ◌+◌, ◌-◌, ◌*◌, ◌/◌, ◌%◌, ◌^◌, ◌<◌, max, Bool, true, false, cond, ◌++◌, take, drop, bit_and, bit_or, leb, leb-true, leb-false, refl, ap, ap₂, ◌∙◌, arith}
use Rattle.std.proofs.lemmas.Nat.{and_mask}
use Rattle.std.proofs.lemmas.Nat.Bits.{bit_at_above, bit_at_or}
use Rattle.std.specs.Int.{bit_at}
use Rattle.des_cipher.specs.Bits.{number_bits}
use Rattle.des_cipher.proofs.Places.{read, number_bits_by, bit_at-shr, bit_at-wrapped, bit_at-shl_low, bit_at-shl_high}

pub left_half : (x : ℕ) → number_bits 32 (x / 2 ^ 32) ≡ take 32 (number_bits 64 x)
unfolding number_bits read
left_half x = number_bits_by 32 (x / 2 ^ 32) (λ i. bit_at x (32 + i)) (λ i h. bit_at-shr x 32 i)

pub right_half : (x : ℕ) → number_bits 32 (bit_and x 4294967295) ≡ drop 32 (number_bits 64 x)
unfolding number_bits read
right_half x = number_bits_by 32 (bit_and x 4294967295) (bit_at x) (λ i h. ap (λ z. bit_at z i) (and_mask x 32) ∙ bit_at-wrapped x 32 i h)

both_by : (r l i : ℕ) (t : Bool) → leb 32 i ≡ t → l < 2 ^ 32 → max (bit_at (r * 2 ^ 32) i) (bit_at l i) ≡ cond t (bit_at r (i - 32)) (bit_at l i)
both_by r l i true e h =
    ap₂ max (bit_at-shl_high r 32 i (leb-true 32 i e)) (bit_at_above l 32 i h (leb-true 32 i e)) ∙ omega arith
both_by r l i false e h =
    ap (λ z. max z (bit_at l i)) (bit_at-shl_low r 32 i (leb-false 32 i e)) ∙ omega arith

pub both_halves : (r l : ℕ) → l < 2 ^ 32 → number_bits 64 (bit_or (r * 2 ^ 32 % 2 ^ 64) l) ≡ number_bits 32 r ++ number_bits 32 l
unfolding number_bits read
both_halves r l h =
    number_bits_by 64 (bit_or (r * 2 ^ 32 % 2 ^ 64) l) (λ i. cond (leb 32 i) (bit_at r (i - 32)) (bit_at l i)) (λ i below.
    bit_at_or (r * 2 ^ 32 % 2 ^ 64) l i
    ∙ ap (λ z. max z (bit_at l i)) (bit_at-wrapped (r * 2 ^ 32) 64 i below)
    ∙ both_by r l i (leb 32 i) refl h)
