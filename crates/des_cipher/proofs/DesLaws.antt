-- What crates above may use of `des_of`, its inverse and `spread_of`: lengths, bounds, that a key's low bits have no
-- effect, and that DES and its inverse undo each other.
use Rattle.std.proofs.Common.{◌≡◌, ℕ, zero, suc, ◌+◌, ◌-◌, ◌*◌, ◌/◌, ◌%◌, ◌^◌, ◌<◌, ◌≤◌, ◌==◌, Bool, true, false, cond, List, [], ◌∷◌, map, length, get_or, take, drop, All, slice_range, reverse, refl, ap, sym, ◌∙◌, arith, nat_lt, add-one, lit<, lit≤}
use Rattle.std.proofs.lemmas.List.{length-map, get_or-map, get_or_append_left, get_or-append_right, ext_get_or, length-take, take_all}
use Rattle.std.proofs.lemmas.Nat.Bits.{bit_at-suc}
use Rattle.std.proofs.Math.Nat.{mod-lt, pow-le-pow_right, pow-suc}
use Rattle.std.proofs.lemmas.Bool.{ltb-true}
use Rattle.std.proofs.lemmas.List.Elements.{All-get_or, All-map}
use Rattle.std.proofs.lemmas.List.Sums.{AllPass-from_list_all}
use Rattle.std.specs.Int.{bit_at}
use Rattle.std.specs.List.{range_with_len, list_all}
use Rattle.des_cipher.specs.Bits.{bit, permuted, number_bits, number_of, bits_of, bytes_of}
use Rattle.des_cipher.specs.Cipher.{cipher}
use Rattle.des_cipher.specs.Schedule.{round_keys_from, round_keys}
use Rattle.des_cipher.specs.Tables.{key_choice_c, key_choice_d, rotations}
use Rattle.des_cipher.specs.Des.{des_of, des_back_of, IsBlock, SameButLowBits}
use Rattle.des_cipher.proofs.BitLemmas.{number_of_push, number_of_none, length-number_bits}
use Rattle.des_cipher.proofs.ByteLaws.{bytes_of-bits_of, bits_of-bytes_of, length-bits_of}
use Rattle.des_cipher.proofs.FeistelLaws.{cipher_back, cipher_forth, length-cipher}

-- ---- lengths

pub length-des_of : (key block : List ℕ) → length (des_of key block) ≡ 8
unfolding des_of bytes_of
length-des_of key block = refl

-- ---- bounds

bit-le : (b : Bool) → cond b 1 0 ≤ 1
bit-le true = lit≤ tt
bit-le false = lit≤ tt

-- the number of the first `i` bits is below 2^i
number_of-below : (bits : List Bool) (i : ℕ) → i ≤ length bits → number_of (take i bits) < 2 ^ i
number_of-below bits zero h = omega (arith, number_of_none)
number_of-below bits (suc i) h =
    let before : number_of (take i bits) < 2 ^ i = number_of-below bits i (omega arith) in
    let more : number_of (take (suc i) bits) ≡ 2 * number_of (take i bits) + cond (get_or bits i false) 1 0 =
    ap (λ k. number_of (take k bits)) (sym (add-one i)) ∙ number_of_push bits i (omega arith) in
    let last : cond (get_or bits i false) 1 0 ≤ 1 = bit-le (get_or bits i false) in
    let power : 2 ^ suc i ≡ 2 ^ i * 2 = pow-suc 2 i in
    rw power (omega arith)

number_of-lt : (bits : List Bool) → length bits ≤ 8 → number_of bits < 256
number_of-lt bits h =
    let below : number_of (take (length bits) bits) < 2 ^ length bits = number_of-below bits (length bits) (omega arith) in
    let whole : take (length bits) bits ≡ bits = take_all (length bits) bits (omega arith) in
    let power : 2 ^ length bits ≤ 2 ^ 8 = pow-le-pow_right (lit< tt) h in
    omega (arith, ap number_of whole)

length-part : (bits : List Bool) (from to : ℕ) → length (slice_range bits from to) ≤ to - from
length-part bits from to = omega (arith, length-take (to - from) (drop from bits))

-- what 64 bits write is a block
IsBlock-bytes_of : (bits : List Bool) → IsBlock (bytes_of bits)
unfolding bytes_of
IsBlock-bytes_of bits = record {
  eight = refl;
  bytes =
      All-map (λ b. b < 256) (λ i. number_of (slice_range bits (8 * i) (8 * i + 8))) (range_with_len 0 8)
      (λ k d h.
      let i : ℕ = get_or (range_with_len 0 8) k d in
      number_of-lt (slice_range bits (8 * i) (8 * i + 8)) (omega (arith, length-part bits (8 * i) (8 * i + 8))));
}

pub IsBlock-des_of : (key block : List ℕ) → IsBlock (des_of key block)
unfolding des_of
IsBlock-des_of key block = IsBlock-bytes_of (cipher (round_keys (bits_of key)) (bits_of block))

pub IsBlock-des_back_of : (key block : List ℕ) → IsBlock (des_back_of key block)
unfolding des_back_of
IsBlock-des_back_of key block = IsBlock-bytes_of (cipher (reverse (round_keys (bits_of key))) (bits_of block))

-- each of the 8 bytes is below 256
pub All-des_of : (key block : List ℕ) → All (λ b. b < 256) (des_of key block)
All-des_of key block = (IsBlock-des_of key block).bytes

-- ---- the low bits of a key

-- the bit of a number with this place in its list of bits
get_or-number_bits : (width n i : ℕ) → i < width → get_or (number_bits width n) i false ≡ (bit_at n (width - 1 - i) == 1)
unfolding number_bits
get_or-number_bits zero n i h = absurd (omega arith)
get_or-number_bits (suc width) n zero h = ap (λ k. bit_at n k == 1) (omega arith)
get_or-number_bits (suc width) n (suc i) h =
    get_or-number_bits width n i (omega arith) ∙ ap (λ k. bit_at n k == 1) (omega arith)

-- a bit of a byte other than the last is a bit of the byte's half
high_bit : (x y i : ℕ) → x / 2 ≡ y / 2 → i < 7 → get_or (number_bits 8 x) i false ≡ get_or (number_bits 8 y) i false
high_bit x y i e h =
    let place : 8 - 1 - i ≡ suc (6 - i) = omega arith in
    let same : bit_at x (suc (6 - i)) ≡ bit_at y (suc (6 - i)) =
    bit_at-suc x (6 - i) ∙ ap (λ n. bit_at n (6 - i)) e ∙ sym (bit_at-suc y (6 - i)) in
    get_or-number_bits 8 x i (omega arith)
    ∙ ap (λ k. bit_at x k == 1) place ∙ ap (λ b. b == 1) same ∙ ap (λ k. bit_at y k == 1) (sym place)
    ∙ sym (get_or-number_bits 8 y i (omega arith))

-- bit r of byte q, of keys that are alike but for low bits
high_bits : (xs ys : List ℕ) (q r : ℕ) → SameButLowBits xs ys → r < 7 → get_or (bits_of xs) (8 * q + r) false ≡ get_or (bits_of ys) (8 * q + r) false
unfolding bits_of
high_bits [] [] q r e h = refl
high_bits [] (y ∷ ys) q r e h = cc
high_bits (x ∷ xs) [] q r e h = cc
high_bits (x ∷ xs) (y ∷ ys) zero r e h =
    let first : x / 2 ≡ y / 2 = cc in
    let lx : length (number_bits 8 x) ≡ 8 = length-number_bits 8 x in
    let ly : length (number_bits 8 y) ≡ 8 = length-number_bits 8 y in
    get_or_append_left (number_bits 8 x) _ false (8 * 0 + r) (omega arith)
    ∙ high_bit x y (8 * 0 + r) first (omega arith)
    ∙ sym (get_or_append_left (number_bits 8 y) _ false (8 * 0 + r) (omega arith))
high_bits (x ∷ xs) (y ∷ ys) (suc q) r e h =
    let rest : SameButLowBits xs ys = cc in
    let place : 8 * suc q + r - 8 ≡ 8 * q + r = omega arith in
    get_or-append_right (number_bits 8 x) (bits_of xs) 8 (8 * suc q + r) false (length-number_bits 8 x) (omega arith)
    ∙ ap (λ k. get_or (bits_of xs) k false) place
    ∙ high_bits xs ys q r rest h
    ∙ ap (λ k. get_or (bits_of ys) k false) (sym place)
    ∙ sym (get_or-append_right (number_bits 8 y) (bits_of ys) 8 (8 * suc q + r) false (length-number_bits 8 y) (omega arith))

-- a place of a bit that isn't the last of its byte
high_place : ℕ → Bool
high_place p = nat_lt 0 (p % 8)

high_bits_at : (xs ys : List ℕ) (p : ℕ) → SameButLowBits xs ys → high_place p ≡ true → bit (bits_of xs) p ≡ bit (bits_of ys) p
unfolding high_place
high_bits_at xs ys p e h =
    let above : 0 < p % 8 = ltb-true 0 (p % 8) h in
    let below : p % 8 < 8 = mod-lt p (lit< tt) in
    let parts : p - 1 ≡ 8 * (p / 8) + (p % 8 - 1) = omega arith in
    ap (λ k. get_or (bits_of xs) k false) parts
    ∙ high_bits xs ys (p / 8) (p % 8 - 1) e (omega arith)
    ∙ ap (λ k. get_or (bits_of ys) k false) (sym parts)

high_bits_chosen : (xs ys places : List ℕ) → SameButLowBits xs ys → list_all high_place places ≡ true → permuted places (bits_of xs) ≡ permuted places (bits_of ys)
unfolding permuted
high_bits_chosen xs ys places e h =
    let passed = AllPass-from_list_all high_place places h in
    ext_get_or false (map (bit (bits_of xs)) places) (map (bit (bits_of ys)) places) (length-map places _ ∙ sym (length-map places _))
    (λ i below.
    let within : i < length places = omega (arith, length-map places (bit (bits_of xs))) in
    get_or-map (bit (bits_of xs)) places i 0 false within
    ∙ high_bits_at xs ys (get_or places i 0) e (All-get_or (λ p. high_place p ≡ true) places i 0 within passed)
    ∙ sym (get_or-map (bit (bits_of ys)) places i 0 false within))

-- the low bit of each byte of a key has no effect
pub des_of-same_but_low_bits : (key other block : List ℕ) → SameButLowBits key other → des_of key block ≡ des_of other block
unfolding des_of round_keys high_place
des_of-same_but_low_bits key other block e =
    let c = high_bits_chosen key other key_choice_c e refl in
    let d = high_bits_chosen key other key_choice_d e refl in
    ap (λ z. bytes_of (cipher (round_keys_from rotations z (permuted key_choice_d (bits_of key))) (bits_of block))) c
    ∙ ap (λ z. bytes_of (cipher (round_keys_from rotations (permuted key_choice_c (bits_of other)) z) (bits_of block))) d

-- ---- the inverse

-- the inverse undoes DES
pub des_back_of-des_of : (key block : List ℕ) → IsBlock block → des_back_of key (des_of key block) ≡ block
unfolding des_of des_back_of
des_back_of-des_of key block h =
    let keys = round_keys (bits_of key) in
    let bits = bits_of block in
    let long : length bits ≡ 64 = length-bits_of block ∙ ap (λ n. 8 * n) h.eight in
    ap (λ z. bytes_of (cipher (reverse keys) z)) (bits_of-bytes_of (cipher keys bits) (length-cipher keys bits))
    ∙ ap bytes_of (cipher_back keys bits long)
    ∙ bytes_of-bits_of block h

-- DES undoes its inverse
pub des_of-des_back_of : (key block : List ℕ) → IsBlock block → des_of key (des_back_of key block) ≡ block
unfolding des_of des_back_of
des_of-des_back_of key block h =
    let keys = round_keys (bits_of key) in
    let bits = bits_of block in
    let long : length bits ≡ 64 = length-bits_of block ∙ ap (λ n. 8 * n) h.eight in
    ap (λ z. bytes_of (cipher keys z)) (bits_of-bytes_of (cipher (reverse keys) bits) (length-cipher (reverse keys) bits))
    ∙ ap bytes_of (cipher_forth keys bits long)
    ∙ bytes_of-bits_of block h
