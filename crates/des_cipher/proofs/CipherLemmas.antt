-- Lemmas on the words of specs/Cipher and specs/Schedule: the steps of the loops that compute them, and lengths.
use Rattle.std.proofs.Common.{◌≡◌, ℕ, ◌+◌, ◌*◌, ◌<◌, ◌≤◌, Bool, true, false, leb, List, [], ◌∷◌, ◌++◌, length, get_or, slice_index, take, drop, refl, ap, sym, ◌∙◌, arith}
use Rattle.std.proofs.lemmas.List.{drop_more, drop_all, length-drop, length-take-le, drop-drop, length-append}
use Rattle.std.proofs.lemmas.Bool.{leb-true}
use Rattle.std.proofs.lemmas.List.Elements.{All-get_or}
use Rattle.std.proofs.lemmas.List.Sums.{AllPass-from_list_all}
use Rattle.des_cipher.specs.Bits.{bit, permuted, combined, number_bits, number_of}
use Rattle.des_cipher.specs.Cipher.{box_place, substituted, substitutions, mixed, Halves, rounds}
use Rattle.des_cipher.specs.Schedule.{rotated, round_keys_from}
use Rattle.des_cipher.specs.Tables.{rotations, round_key_choice}
use Rattle.des_cipher.proofs.BitLemmas.{length-number_bits}

-- ---- a box

-- the middle four of six bits, one by one
pub middle_four : (six : List Bool) → length six ≡ 6 → take 4 (drop 1 six) ≡ bit six 2 ∷ bit six 3 ∷ bit six 4 ∷ bit six 5 ∷ []
middle_four six h =
    let e1 : drop 1 six ≡ get_or six 1 false ∷ drop 2 six = drop_more six 1 false (omega arith) in
    let e2 : drop 2 six ≡ get_or six 2 false ∷ drop 3 six = drop_more six 2 false (omega arith) in
    let e3 : drop 3 six ≡ get_or six 3 false ∷ drop 4 six = drop_more six 3 false (omega arith) in
    let e4 : drop 4 six ≡ get_or six 4 false ∷ drop 5 six = drop_more six 4 false (omega arith) in
    rw (e1, e2, e3, e4) refl

-- what the code reads of a box is what the box gives
pub substituted_read : (box : List ℕ) (six : List Bool) (row column value : ℕ) → length six ≡ 6 → row ≡ number_of (get_or six 0 false ∷ get_or six 5 false ∷ []) → column ≡ number_of (take 4 (drop 1 six)) → value ≡ get_or box (16 * row + column) 0 → number_bits 4 value ≡ substituted box six
unfolding substituted box_place
substituted_read box six row column value long r c v =
    ap (number_bits 4) (v ∙ ap (λ n. get_or box n 0) (ap (λ n. 16 * n + column) r ∙ ap (λ n. 16 * number_of (bit six 1 ∷ bit six 6 ∷ []) + n) (c ∙ ap number_of (middle_four six long))))

pub length-substituted : (box : List ℕ) (six : List Bool) → length (substituted box six) ≡ 4
unfolding substituted
length-substituted box six = length-number_bits 4 (slice_index box (box_place six))

-- ---- boxes in turn

-- no box is left
pub substitutions_all : (boxes : List (List ℕ)) (bits : List Bool) (i : ℕ) → length boxes ≤ i → substitutions (drop i boxes) bits ≡ []
unfolding substitutions
substitutions_all boxes bits i h = ap (λ z. substitutions z bits) (drop_all i boxes h)

-- one box more
pub substitutions_more : (boxes : List (List ℕ)) (bits : List Bool) (i n m : ℕ) → i < length boxes → m ≡ n + 6 → substitutions (drop i boxes) (drop n bits) ≡ substituted (get_or boxes i []) (take 6 (drop n bits)) ++ substitutions (drop (i + 1) boxes) (drop m bits)
unfolding substitutions
substitutions_more boxes bits i n m h e =
    ap (λ z. substitutions z (drop n bits)) (drop_more boxes i [] h)
    ∙ ap (λ z. substituted (get_or boxes i []) (take 6 (drop n bits)) ++ substitutions (drop (i + 1) boxes) z) (drop-drop 6 n bits ∙ ap (λ k. drop k bits) (sym e))

-- ---- rounds

-- one round more
pub rounds_more : (keys : List (List Bool)) (i : ℕ) (left right next : List Bool) → i < length keys → next ≡ combined left (mixed right (get_or keys i [])) → rounds (drop (i + 1) keys) (record { left = right; right = next }) ≡ rounds (drop i keys) (record { left = left; right = right })
unfolding rounds
rounds_more keys i left right next b e =
    ap (λ (x : List Bool). rounds (drop (i + 1) keys) (record { left = right; right = x })) e
    ∙ ap (λ z. rounds z (record { left = left; right = right })) (sym (drop_more keys i [] b))

-- the end of the rounds
pub rounds_all : (keys : List (List Bool)) (i : ℕ) (h : Halves) → length keys ≤ i → rounds (drop i keys) h ≡ h
unfolding rounds
rounds_all keys i h b = ap (λ z. rounds z h) (drop_all i keys b)

-- ---- round keys

pub round_keys_from_more : (counts : List ℕ) (c d : List Bool) (i : ℕ) → i < length counts → let n = get_or counts i 0 in round_keys_from (drop i counts) c d ≡ permuted round_key_choice (rotated n c ++ rotated n d) ∷ round_keys_from (drop (i + 1) counts) (rotated n c) (rotated n d)
unfolding round_keys_from
round_keys_from_more counts c d i h = ap (λ z. round_keys_from z c d) (drop_more counts i 0 h)

pub round_keys_from_all : (counts : List ℕ) (c d : List Bool) (i : ℕ) → length counts ≤ i → round_keys_from (drop i counts) c d ≡ []
unfolding round_keys_from
round_keys_from_all counts c d i h = ap (λ z. round_keys_from z c d) (drop_all i counts h)

pub length-rotated : (n : ℕ) (half : List Bool) → n ≤ length half → length (rotated n half) ≡ length half
length-rotated n half h = omega (arith, length-append (drop n half) (take n half), length-drop n half, length-take-le n half h)

-- no half is rotated by more than two places
pub rotations_small : (i : ℕ) → i < 16 → get_or rotations i 0 ≤ 2
rotations_small i h =
    leb-true _ 2 (All-get_or (λ n. leb n 2 ≡ true) rotations i 0 h (AllPass-from_list_all (λ n. leb n 2) rotations refl))
