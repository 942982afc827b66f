-- The rows of the key schedule: each bit is a bit of the key byte, or none.
use Rattle.std.proofs.Common.{◌≡◌, ℕ, ◌+◌, ◌-◌, ◌*◌, ◌/◌, ◌%◌, ◌^◌, ◌<◌, ◌≤◌, ◌==◌, ◌&&◌, ◌||◌, Bool, true, false, cond, [], get_or, bit_and, refl, ap, sym, ◌∙◌, arith, nat_lt, nat_le, nat_eq, leb-true, le-ltb}
use Rattle.std.proofs.lemmas.Bool.{and_parts, eqb-true}
use Rattle.std.proofs.lemmas.Nat.{and_mask}
use Rattle.std.specs.Int.{bit_at}
use Rattle.std.specs.List.{list_all, range_with_len}
use Rattle.des_cipher.proofs.Places.{at_each, bit_at-shr, bit_at-wrapped}
use Rattle.des_cipher.specs.KeyPlaces.{key_places, left_order, right_order, left_place, right_place, bit_of_byte}
use Rattle.des_cipher.specs.declared.left_rows.TheConstants.{LEFT_KEYS}
use Rattle.des_cipher.specs.declared.right_rows.TheConstants.{RIGHT_KEYS}

-- the bit of four bits of a byte that a key bit is, those of the left beginning with the byte's first, and those of the
-- right with its fourth
left_bit : ℕ → ℕ → ℕ → ℕ
left_bit i v p = cond (nat_lt (8 * i) p && nat_le p (8 * i + 8)) (bit_at v (3 - (p - 1) % 8)) 0

right_bit : ℕ → ℕ → ℕ → ℕ
right_bit i v p = cond (nat_lt (8 * i) p && nat_le p (8 * i + 8)) (bit_at v (6 - (p - 1) % 8)) 0

left_4 : ℕ → ℕ → ℕ → ℕ → Bool
left_4 i v k j = bit_at (get_or (get_or (get_or LEFT_KEYS i []) v []) k 0) j == left_bit i v (left_place k j)

left_3 : ℕ → ℕ → ℕ → Bool
left_3 i v k = list_all (left_4 i v k) (range_with_len 0 32)

left_2 : ℕ → ℕ → Bool
left_2 i v = list_all (left_3 i v) (range_with_len 0 16)

left_1 : ℕ → Bool
left_1 i = list_all (left_2 i) (range_with_len 0 16)

all_left : list_all left_1 (range_with_len 0 8) ≡ true
unfolding left_1 left_2 left_3 left_4 left_bit left_place left_order key_places
all_left = refl

-- the key bit of a left place is among the first four of its byte, or there is none
left_c : ℕ → ℕ → Bool
left_c k j = nat_le ((left_place k j - 1) % 8) 3

left_d : ℕ → Bool
left_d k = list_all (left_c k) (range_with_len 0 32)

all_left_places : list_all left_d (range_with_len 0 16) ≡ true
unfolding left_d left_c left_place left_order key_places
all_left_places = refl

pub left_fact : (i byte k j : ℕ) → i < 8 → byte < 256 → k < 16 → j < 32 → bit_at (get_or (get_or (get_or LEFT_KEYS i []) (byte / 2 ^ 4) []) k 0) j ≡ bit_of_byte i byte (left_place k j)
unfolding left_1 left_2 left_3 left_4 left_bit bit_of_byte left_c left_d
left_fact i byte k j hi hb hk hj =
    let v : ℕ = byte / 2 ^ 4 in
    let p : ℕ = left_place k j in
    let hv : v < 16 = omega (arith, hb) in
    let test = at_each (left_4 i v k) 32 j (at_each (left_3 i v) 16 k (at_each (left_2 i) 16 v (at_each left_1 8 i all_left hi) hv) hk) hj in
    let place : (p - 1) % 8 ≤ 3 = leb-true _ _ (at_each (left_c k) 32 j (at_each left_d 16 k all_left_places hk) hj) in
    eqb-true _ _ test
    ∙ ap (λ z. cond (nat_lt (8 * i) p && nat_le p (8 * i + 8)) z 0) (bit_at-shr byte 4 (3 - (p - 1) % 8) ∙ ap (bit_at byte) (omega (arith, place)))

right_4 : ℕ → ℕ → ℕ → ℕ → Bool
right_4 i v k j = bit_at (get_or (get_or (get_or RIGHT_KEYS i []) v []) k 0) j == right_bit i v (right_place k j)

right_3 : ℕ → ℕ → ℕ → Bool
right_3 i v k = list_all (right_4 i v k) (range_with_len 0 32)

right_2 : ℕ → ℕ → Bool
right_2 i v = list_all (right_3 i v) (range_with_len 0 16)

right_1 : ℕ → Bool
right_1 i = list_all (right_2 i) (range_with_len 0 16)

all_right : list_all right_1 (range_with_len 0 8) ≡ true
unfolding right_1 right_2 right_3 right_4 right_bit right_place right_order key_places
all_right = refl

-- the key bit of a right place is the fourth to the seventh of its byte; 0, for none, passes too
right_c : ℕ → ℕ → Bool
right_c k j = nat_eq (right_place k j) 0 || (nat_le 3 ((right_place k j - 1) % 8) && nat_le ((right_place k j - 1) % 8) 6)

right_d : ℕ → Bool
right_d k = list_all (right_c k) (range_with_len 0 32)

all_right_places : list_all right_d (range_with_len 0 16) ≡ true
unfolding right_d right_c right_place right_order key_places
all_right_places = refl

right_read : (i byte p : ℕ) (b : Bool) → nat_eq p 0 ≡ b → (b || (nat_le 3 ((p - 1) % 8) && nat_le ((p - 1) % 8) 6)) ≡ true → cond (nat_lt (8 * i) p && nat_le p (8 * i + 8)) (bit_at (bit_and (byte / 2 ^ 1) 15) (6 - (p - 1) % 8)) 0 ≡ cond (nat_lt (8 * i) p && nat_le p (8 * i + 8)) (bit_at byte (7 - (p - 1) % 8)) 0
right_read i byte p true e h =
    let none : nat_lt (8 * i) p ≡ false = le-ltb (8 * i) p (omega (arith, eqb-true p 0 e)) in
    ap (λ z. cond (z && nat_le p (8 * i + 8)) (bit_at (bit_and (byte / 2 ^ 1) 15) (6 - (p - 1) % 8)) 0) none
    ∙ sym (ap (λ z. cond (z && nat_le p (8 * i + 8)) (bit_at byte (7 - (p - 1) % 8)) 0) none)
right_read i byte p false e h =
    let both = and_parts _ _ h in
    let low : 3 ≤ (p - 1) % 8 = leb-true _ _ both.0 in
    let high : (p - 1) % 8 ≤ 6 = leb-true _ _ both.1 in
    ap (λ z. cond (nat_lt (8 * i) p && nat_le p (8 * i + 8)) z 0)
    (ap (λ z. bit_at z (6 - (p - 1) % 8)) (and_mask (byte / 2 ^ 1) 4)
    ∙ bit_at-wrapped (byte / 2 ^ 1) 4 (6 - (p - 1) % 8) (omega (arith, low, high))
    ∙ bit_at-shr byte 1 (6 - (p - 1) % 8)
    ∙ ap (bit_at byte) (omega (arith, low, high)))

pub right_fact : (i byte k j : ℕ) → i < 8 → k < 16 → j < 32 → bit_at (get_or (get_or (get_or RIGHT_KEYS i []) (bit_and (byte / 2 ^ 1) 15) []) k 0) j ≡ bit_of_byte i byte (right_place k j)
unfolding right_1 right_2 right_3 right_4 right_bit bit_of_byte right_c right_d
right_fact i byte k j hi hk hj =
    let v : ℕ = bit_and (byte / 2 ^ 1) 15 in
    let p : ℕ = right_place k j in
    let hv : v < 16 = omega (arith, and_mask (byte / 2 ^ 1) 4) in
    let test = at_each (right_4 i v k) 32 j (at_each (right_3 i v) 16 k (at_each (right_2 i) 16 v (at_each right_1 8 i all_right hi) hv) hk) hj in
    eqb-true _ _ test
    ∙ right_read i byte p _ refl (at_each (right_c k) 32 j (at_each right_d 16 k all_right_places hk) hj)
