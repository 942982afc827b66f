-- The cipher function f on words: what is combined, and what is put in place.
use Rattle.std.proofs.Common.{◌≡◌, ℕ, zero, suc, ◌+◌, ◌-◌, ◌*◌, ◌/◌, ◌%◌, ◌^◌, ◌<◌, ◌≤◌, ◌==◌, max, Bool, true, false, cond, List, [], ◌∷◌, ◌++◌, bit_and, bit_or, bit_xor, length, get_or, replicate, refl, ap, ap₂, sym, ◌∙◌, arith, leb, leb-true, leb-false, append_assoc}
use Rattle.std.proofs.lemmas.Nat.{and_mask}
use Rattle.std.proofs.lemmas.Nat.Bits.{bit_at-lt, bit_at_or, bit_at_xor, bit_at_above}
use Rattle.std.proofs.lemmas.List.{length-append}
use Rattle.std.proofs.Math.Bool.{xor}
use Rattle.std.specs.Int.{bit_at}
use Rattle.des_cipher.specs.Bits.{number_bits, combined, permuted}
use Rattle.des_cipher.proofs.Places.{read, number_bits_by, bit_at-shr, bit_at-wrapped, bit_at-shl_low, bit_at-shl_high}

-- ---- exclusive or

xor_bits : (a b : ℕ) → a < 2 → b < 2 → ((a + b) % 2 == 1) ≡ xor (a == 1) (b == 1)
unfolding xor
xor_bits zero zero ha hb = refl
xor_bits zero (suc zero) ha hb = refl
xor_bits (suc zero) zero ha hb = refl
xor_bits (suc zero) (suc zero) ha hb = refl
xor_bits (suc (suc a)) b ha hb = absurd (omega (arith, ha))
xor_bits a (suc (suc b)) ha hb = absurd (omega (arith, hb))

xor_false : (b : Bool) → xor b false ≡ b
unfolding xor
xor_false true = refl
xor_false false = refl

false_xor : (b : Bool) → xor false b ≡ b
unfolding xor
false_xor true = refl
false_xor false = refl

pub combined_read : (w n : ℕ) (f g : ℕ → ℕ) → ((i : ℕ) → i < w → bit_at n i ≡ (f i + g i) % 2) → ((i : ℕ) → f i < 2) → ((i : ℕ) → g i < 2) → number_bits w n ≡ combined (read f w) (read g w)
unfolding number_bits read combined
combined_read zero n f g h hf hg = refl
combined_read (suc w) n f g h hf hg =
    ap₂ (λ (x : Bool) (xs : List Bool). x ∷ xs) (ap (λ z. z == 1) (h w (omega arith)) ∙ xor_bits (f w) (g w) (hf w) (hg w))
    (combined_read w n f g (λ i below. h i (omega (arith, below))) hf hg)

pub number_bits-xor : (w a b : ℕ) → number_bits w (bit_xor a b) ≡ combined (number_bits w a) (number_bits w b)
number_bits-xor w a b =
    combined_read w (bit_xor a b) (bit_at a) (bit_at b) (λ i below. bit_at_xor a b i) (bit_at-lt a) (bit_at-lt b)
    ∙ sym (ap₂ combined (number_bits_by w a (bit_at a) (λ i below. refl)) (number_bits_by w b (bit_at b) (λ i below. refl)))

get_or-combined : (xs ys : List Bool) (i : ℕ) → length xs ≡ length ys → get_or (combined xs ys) i false ≡ xor (get_or xs i false) (get_or ys i false)
unfolding combined xor
get_or-combined [] [] i h = refl
get_or-combined [] (y ∷ ys) i h = absurd (omega (arith, h))
get_or-combined (x ∷ xs) [] i h = absurd (omega (arith, h))
get_or-combined (x ∷ xs) (y ∷ ys) zero h = refl
get_or-combined (x ∷ xs) (y ∷ ys) (suc i) h = get_or-combined xs ys i (omega (arith, h))

pub permuted-combined : (places : List ℕ) (xs ys : List Bool) → length xs ≡ length ys → permuted places (combined xs ys) ≡ combined (permuted places xs) (permuted places ys)
unfolding permuted combined
permuted-combined [] xs ys h = refl
permuted-combined (p ∷ places) xs ys h =
    ap₂ (λ (x : Bool) (zs : List Bool). x ∷ zs) (get_or-combined xs ys (p - 1) h) (permuted-combined places xs ys h)

combined_zeros : (m : ℕ) (rest : List Bool) → length rest ≡ m → combined (replicate m false) rest ≡ rest
unfolding combined
combined_zeros zero [] h = refl
combined_zeros zero (x ∷ rest) h = absurd (omega (arith, h))
combined_zeros (suc m) [] h = absurd (omega (arith, h))
combined_zeros (suc m) (x ∷ rest) h =
    ap₂ (λ (x : Bool) (zs : List Bool). x ∷ zs) (false_xor x) (combined_zeros m rest (omega (arith, h)))

combined_front : (front rest : List Bool) (m : ℕ) → combined (front ++ replicate m false) (replicate (length front) false ++ rest) ≡ front ++ combined (replicate m false) rest
unfolding combined
combined_front [] rest m = refl
combined_front (x ∷ front) rest m = ap₂ (λ (x : Bool) (zs : List Bool). x ∷ zs) (xor_false x) (combined_front front rest m)

length-replicate : (m : ℕ) → length (replicate m false) ≡ m
length-replicate zero = refl
length-replicate (suc m) = ap suc (length-replicate m)

-- four bits more in their place
pub gathered : (places : List ℕ) (front four : List Bool) (n m r w t : ℕ) → length front ≡ n → m ≡ length four + r → number_bits 32 w ≡ permuted places (front ++ replicate m false) → number_bits 32 t ≡ permuted places (replicate n false ++ (four ++ replicate r false)) → number_bits 32 (bit_xor w t) ≡ permuted places ((front ++ four) ++ replicate r false)
gathered places front four n m r w t long room ew et =
    let rest = four ++ replicate r false in
    let long_rest : length rest ≡ m = omega (arith, length-append four (replicate r false), length-replicate r, room) in
    let alike : length (front ++ replicate m false) ≡ length (replicate n false ++ rest) =
    omega (arith, length-append front (replicate m false), length-append (replicate n false) rest, length-replicate n, length-replicate m, long, long_rest) in
    let whole : combined (front ++ replicate m false) (replicate n false ++ rest) ≡ (front ++ four) ++ replicate r false =
    ap (λ k. combined (front ++ replicate m false) (replicate k false ++ rest)) (sym long)
    ∙ combined_front front rest m
    ∙ ap (λ z. front ++ z) (combined_zeros m rest long_rest)
    ∙ sym (append_assoc front four (replicate r false)) in
    number_bits-xor 32 w t ∙ ap₂ combined ew et ∙ sym (permuted-combined places _ _ alike) ∙ ap (permuted places) whole

-- ---- six bits of a half that is rotated and combined with a word

-- where a bit was before its word was rotated by k to the left, which is by r to the right
unfoldable pub before_rotation : ℕ → ℕ → ℕ → ℕ
before_rotation k r i = cond (leb k i) (i - k) (r + i)

rotated_by : (n k r i : ℕ) (b : Bool) → leb k i ≡ b → k + r ≡ 32 → n < 2 ^ 32 → i < 32 → bit_at (bit_or (n * 2 ^ k % 2 ^ 32) (n / 2 ^ r)) i ≡ bit_at n (cond b (i - k) (r + i))
rotated_by n k r i true e h fits below =
    bit_at_or (n * 2 ^ k % 2 ^ 32) (n / 2 ^ r) i
    ∙ ap₂ max (bit_at-wrapped (n * 2 ^ k) 32 i below ∙ bit_at-shl_high n k i (leb-true k i e)) (bit_at-shr n r i ∙ bit_at_above n 32 (r + i) fits (omega (arith, leb-true k i e, h)))
    ∙ omega arith
rotated_by n k r i false e h fits below =
    bit_at_or (n * 2 ^ k % 2 ^ 32) (n / 2 ^ r) i
    ∙ ap₂ max (bit_at-wrapped (n * 2 ^ k) 32 i below ∙ bit_at-shl_low n k i (leb-false k i e)) (bit_at-shr n r i)
    ∙ omega arith

pub six_bits : (n o k r s : ℕ) → k + r ≡ 32 → n < 2 ^ 32 → s + 6 ≤ 32 → number_bits 6 (bit_and (bit_xor (bit_or (n * 2 ^ k % 2 ^ 32) (n / 2 ^ r)) o / 2 ^ s) 63) ≡ combined (read (λ j. bit_at n (before_rotation k r (s + j))) 6) (read (λ j. bit_at o (s + j)) 6)
unfolding before_rotation
six_bits n o k r s h fits within =
    let u : ℕ = bit_xor (bit_or (n * 2 ^ k % 2 ^ 32) (n / 2 ^ r)) o in
    combined_read 6 (bit_and (u / 2 ^ s) 63) (λ j. bit_at n (before_rotation k r (s + j))) (λ j. bit_at o (s + j))
    (λ j below.
    ap (λ z. bit_at z j) (and_mask (u / 2 ^ s) 6)
    ∙ bit_at-wrapped (u / 2 ^ s) 6 j below
    ∙ bit_at-shr u s j
    ∙ bit_at_xor (bit_or (n * 2 ^ k % 2 ^ 32) (n / 2 ^ r)) o (s + j)
    ∙ ap (λ z. (z + bit_at o (s + j)) % 2) (rotated_by n k r (s + j) _ refl h fits (omega (arith, below, within))))
    (λ j. bit_at-lt n _) (λ j. bit_at-lt o _)

pub six_below : (n : ℕ) → bit_and n 63 < 64
six_below n = omega (arith, and_mask n 6)
