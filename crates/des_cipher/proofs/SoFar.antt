-- The bits of half words as the bytes of a key are taken in, and the round keys that they make.
use Rattle.std.proofs.Common.{◌≡◌, ℕ, ◌+◌, ◌-◌, ◌*◌, ◌/◌, ◌%◌, ◌^◌, ◌<◌, ◌≤◌, ◌==◌, ◌&&◌, min, max, Bool, true, false, cond, List, [], ◌∷◌, map, length, get_or, bit_and, bit_or, bit_xor, ltb, leb, leb-true, leb-false, refl, ap, ap₂, sym, ◌∙◌, arith}
use Rattle.std.proofs.lemmas.Bool.{eqb-true}
use Rattle.std.proofs.lemmas.Nat.Bits.{bit_at-lt, bit_at-zero, bit_at_above, bit_at_and, bit_at_or, bit_at_xor}
use Rattle.std.specs.Int.{bit_at}
use Rattle.std.specs.List.{range_with_len}
use Rattle.des_cipher.specs.Bits.{bits_of, number_bits, permuted}
use Rattle.des_cipher.specs.Schedule.{round_keys, round_keys_from}
use Rattle.des_cipher.proofs.Places.{at_each, read, number_bits_by, bit_at-shr, bit_at-wrapped, bit_at-shl_low, bit_at-shl_high}
use Rattle.des_cipher.specs.KeyPlaces.{bit_so_far, bit_of_byte, left_place, right_place, left_order, right_order, key_places}
use Rattle.des_cipher.specs.Words.{key_bits, interleaved}

more : (p i a b : ℕ) → a < 2 → b < 2 → (8 * i < p → p ≤ 8 * i + 8 → b ≡ a) → (cond (ltb 0 p && leb p (8 * i)) a 0 + cond (ltb (8 * i) p && leb p (8 * i + 8)) b 0) % 2 ≡ cond (ltb 0 p && leb p (8 * (i + 1))) a 0
more p i a b ha hb h = grind arith

pub so_far_more : (key : List ℕ) (i p : ℕ) → (bit_so_far key i p + bit_of_byte i (get_or key i 0) p) % 2 ≡ bit_so_far key (i + 1) p
unfolding bit_so_far bit_of_byte
so_far_more key i p =
    more p i _ _ (bit_at-lt _ _) (bit_at-lt _ _) (λ low high.
    let q : (p - 1) / 8 ≡ i = omega (arith, low, high) in
    ap (λ z. bit_at (get_or key z 0) (7 - (p - 1) % 8)) (sym q))

none : (p a : ℕ) → cond (ltb 0 p && leb p (8 * 0)) a 0 ≡ 0
none p a = grind arith

pub so_far_none : (key : List ℕ) (p : ℕ) → bit_so_far key 0 p ≡ 0
unfolding bit_so_far
so_far_none key p = none p _

zeros : List ℕ
zeros = 0 ∷ 0 ∷ 0 ∷ 0 ∷ 0 ∷ 0 ∷ 0 ∷ 0 ∷ 0 ∷ 0 ∷ 0 ∷ 0 ∷ 0 ∷ 0 ∷ 0 ∷ 0 ∷ []

is_zero : ℕ → Bool
is_zero k = get_or zeros k 0 == 0

-- nothing is taken in at first
pub nothing_yet : (key : List ℕ) (p k j : ℕ) → k < 16 → bit_at (get_or (0 ∷ 0 ∷ 0 ∷ 0 ∷ 0 ∷ 0 ∷ 0 ∷ 0 ∷ 0 ∷ 0 ∷ 0 ∷ 0 ∷ 0 ∷ 0 ∷ 0 ∷ 0 ∷ []) k 0) j ≡ bit_so_far key 0 p
unfolding zeros is_zero
nothing_yet key p k j hk =
    ap (λ z. bit_at z j) (eqb-true (get_or zeros k 0) 0 (at_each is_zero 16 k refl hk)) ∙ bit_at-zero j ∙ sym (so_far_none key p)

-- a word with the bits of a row added
pub added : (key : List ℕ) (i p j new old row : ℕ) → new ≡ bit_xor old row → bit_at old j ≡ bit_so_far key i p → bit_at row j ≡ bit_of_byte i (get_or key i 0) p → bit_at new j ≡ bit_so_far key (i + 1) p
added key i p j new old row e eo er =
    ap (λ z. bit_at z j) e ∙ bit_at_xor old row j ∙ ap₂ (λ y z. (y + z) % 2) eo er ∙ so_far_more key i p

-- ---- half words merged

high_mask : ℕ → Bool
high_mask j = bit_at 4294901760 j == cond (leb 16 j) 1 0

low_mask : ℕ → Bool
low_mask j = bit_at 65535 j == cond (leb 16 j) 0 1

odd_by : (a b : ℕ) (t : Bool) → a < 2 → b < 2 → max (min a (cond t 1 0)) (min b (cond t 0 1)) ≡ cond t a b
odd_by a b true ha hb = omega (arith, ha)
odd_by a b false ha hb = omega (arith, hb)

pub odd_bits : (left right j : ℕ) → j < 32 → bit_at (bit_or (bit_and left 4294901760) (bit_and right 65535)) j ≡ cond (leb 16 j) (bit_at left j) (bit_at right j)
unfolding high_mask low_mask
odd_bits left right j h =
    bit_at_or (bit_and left 4294901760) (bit_and right 65535) j
    ∙ ap₂ max (bit_at_and left 4294901760 j ∙ ap (min (bit_at left j)) (eqb-true _ _ (at_each high_mask 32 j refl h))) (bit_at_and right 65535 j ∙ ap (min (bit_at right j)) (eqb-true _ _ (at_each low_mask 32 j refl h)))
    ∙ odd_by (bit_at left j) (bit_at right j) (leb 16 j) (bit_at-lt left j) (bit_at-lt right j)

even_by : (left right j : ℕ) (t : Bool) → leb 16 j ≡ t → j < 32 → right < 2 ^ 32 → max (bit_at (left * 2 ^ 16) j) (bit_at right (16 + j)) ≡ cond t (bit_at left (j - 16)) (bit_at right (16 + j))
even_by left right j true e h fits =
    ap₂ max (bit_at-shl_high left 16 j (leb-true 16 j e)) (bit_at_above right 32 (16 + j) fits (omega (arith, leb-true 16 j e))) ∙ omega arith
even_by left right j false e h fits =
    ap (λ z. max z (bit_at right (16 + j))) (bit_at-shl_low left 16 j (leb-false 16 j e)) ∙ omega arith

pub even_bits : (left right j : ℕ) → j < 32 → right < 2 ^ 32 → bit_at (bit_or (left * 2 ^ 16 % 2 ^ 32) (right / 2 ^ 16)) j ≡ cond (leb 16 j) (bit_at left (j - 16)) (bit_at right (16 + j))
even_bits left right j h fits =
    bit_at_or (left * 2 ^ 16 % 2 ^ 32) (right / 2 ^ 16) j
    ∙ ap₂ max (bit_at-wrapped (left * 2 ^ 16) 32 j h) (bit_at-shr right 16 j)
    ∙ even_by left right j (leb 16 j) refl h fits

-- ---- round keys

unfoldable pub odd_place : ℕ → ℕ → ℕ
odd_place k j = cond (leb 16 j) (left_place k j) (right_place k j)

unfoldable pub even_place : ℕ → ℕ → ℕ
even_place k j = cond (leb 16 j) (left_place k (j - 16)) (right_place k (16 + j))

unfoldable pub key_row : List ℕ → ℕ → List Bool
key_row key k =
    interleaved (read (λ j. bit_so_far key 8 (odd_place k j)) 32) (read (λ j. bit_so_far key 8 (even_place k j)) 32)

key_rows : (a b c d e f g h : ℕ) → map (key_row (a ∷ b ∷ c ∷ d ∷ e ∷ f ∷ g ∷ h ∷ [])) (range_with_len 0 16) ≡ round_keys (bits_of (a ∷ b ∷ c ∷ d ∷ e ∷ f ∷ g ∷ h ∷ []))
unfolding key_row interleaved read bit_so_far odd_place even_place left_place right_place left_order right_order key_places round_keys round_keys_from bits_of number_bits permuted
key_rows a b c d e f g h = refl

pub rows_are : (key : List ℕ) → length key ≡ 8 → map (key_row key) (range_with_len 0 16) ≡ round_keys (bits_of key)
rows_are (a ∷ b ∷ c ∷ d ∷ e ∷ f ∷ g ∷ h ∷ []) is = key_rows a b c d e f g h
rows_are [] is = absurd (omega (arith, is))
rows_are (a ∷ []) is = absurd (omega (arith, is))
rows_are (a ∷ b ∷ []) is = absurd (omega (arith, is))
rows_are (a ∷ b ∷ c ∷ []) is = absurd (omega (arith, is))
rows_are (a ∷ b ∷ c ∷ d ∷ []) is = absurd (omega (arith, is))
rows_are (a ∷ b ∷ c ∷ d ∷ e ∷ []) is = absurd (omega (arith, is))
rows_are (a ∷ b ∷ c ∷ d ∷ e ∷ f ∷ []) is = absurd (omega (arith, is))
rows_are (a ∷ b ∷ c ∷ d ∷ e ∷ f ∷ g ∷ []) is = absurd (omega (arith, is))
rows_are (a ∷ b ∷ c ∷ d ∷ e ∷ f ∷ g ∷ h ∷ i ∷ rest) is = absurd (omega (arith, is))

odd_from : (key : List ℕ) (k left right j : ℕ) (t : Bool) → bit_at left j ≡ bit_so_far key 8 (left_place k j) → bit_at right j ≡ bit_so_far key 8 (right_place k j) → cond t (bit_at left j) (bit_at right j) ≡ bit_so_far key 8 (cond t (left_place k j) (right_place k j))
odd_from key k left right j true hl hr = hl
odd_from key k left right j false hl hr = hr

even_from : (key : List ℕ) (k left right j : ℕ) (t : Bool) → leb 16 j ≡ t → j < 32 → ((j : ℕ) → j < 32 → bit_at left j ≡ bit_so_far key 8 (left_place k j)) → ((j : ℕ) → j < 32 → bit_at right j ≡ bit_so_far key 8 (right_place k j)) → cond t (bit_at left (j - 16)) (bit_at right (16 + j)) ≡ bit_so_far key 8 (cond t (left_place k (j - 16)) (right_place k (16 + j)))
even_from key k left right j true e h hl hr = hl (j - 16) (omega (arith, h))
even_from key k left right j false e h hl hr = hr (16 + j) (omega (arith, leb-false 16 j e))

pub merged_row : (key : List ℕ) (k odd even left right : ℕ) → ((j : ℕ) → j < 32 → bit_at odd j ≡ cond (leb 16 j) (bit_at left j) (bit_at right j)) → ((j : ℕ) → j < 32 → bit_at even j ≡ cond (leb 16 j) (bit_at left (j - 16)) (bit_at right (16 + j))) → ((j : ℕ) → j < 32 → bit_at left j ≡ bit_so_far key 8 (left_place k j)) → ((j : ℕ) → j < 32 → bit_at right j ≡ bit_so_far key 8 (right_place k j)) → key_bits odd even ≡ key_row key k
unfolding key_bits key_row odd_place even_place
merged_row key k odd even left right ho he hl hr =
    ap₂ interleaved
    (number_bits_by 32 odd (λ j. bit_so_far key 8 (odd_place k j)) (λ j h. ho j h ∙ odd_from key k left right j (leb 16 j) (hl j h) (hr j h)))
    (number_bits_by 32 even (λ j. bit_so_far key 8 (even_place k j)) (λ j h. he j h ∙ even_from key k left right j (leb 16 j) refl h hl hr))
