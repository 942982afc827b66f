-- From the words of specs/Steps to those of specs/Rc4, and one step of each loop.
use Rattle.std.proofs.Common.{◌≡◌, ℕ, zero, suc, ◌+◌, ◌-◌, ◌%◌, ◌<◌, ◌≤◌, List, [], ◌∷◌, ◌++◌, length, get_or, set, take, drop, swap, bit_xor, refl, ap, sym, ◌∙◌, add-one, add-zero, lit<, arith}
use Rattle.std.proofs.lemmas.List.{drop_more, drop_all, take_more_set, drop-set-lt, append_assoc, append-nil, take_all, length-take-le, length-drop, drop-drop, take-append-drop}
use Rattle.std.proofs.lemmas.List.Edits.{swap_is}
use Rattle.std.proofs.lemmas.Slice.{take-put_mid, drop-put_mid}
use borrow.Rule.Slice.PartMut.{mid_of, put_mid}
use Rattle.std.proofs.Math.Nat.{add-mod, mod-mod, mod-lt}
use Rattle.rc4_stream.specs.Rc4.{Shuffle, shuffle, shuffled, State, next_state, byte_of, state_after, key_byte, applied}
use Rattle.rc4_stream.proofs.Rc4Laws.{length-shuffled}
use Rattle.rc4_stream.specs.Steps.{combined_from, advanced}

shuffled-add_one : (key : List ℕ) (n : ℕ) → shuffle key n (shuffled key n) ≡ shuffled key (n + 1)
unfolding shuffled
shuffled-add_one key n = ap (shuffled key) (sym (add-one n))

-- a sum whose first part is reduced already
mod-add_mod : (a b m : ℕ) → (a % m + b) % m ≡ (a + b) % m
mod-add_mod a b m =
    add-mod (a % m) b m ∙ ap (λ x. (x + b % m) % m) (mod-mod a m) ∙ sym (add-mod a b m)

-- the state one byte further on
state_after-add_one : (key : List ℕ) (n : ℕ) → state_after key (n + 1) ≡ next_state (state_after key n)
unfolding state_after
state_after-add_one key n = ap (state_after key) (add-one n)

pub combined_from-is : (key : List ℕ) (used : ℕ) (bytes : List ℕ) → combined_from (state_after key used) bytes ≡ applied key used bytes
unfolding combined_from applied key_byte
combined_from-is key used [] = refl
combined_from-is key used (b ∷ bs) =
    ap (λ s. bit_xor b (byte_of s) ∷ combined_from s bs) (sym (state_after-add_one key used))
    ∙ ap (λ zs. bit_xor b (key_byte key used) ∷ zs) (combined_from-is key (used + 1) bs)

pub advanced-is : (key : List ℕ) (used n : ℕ) → advanced n (state_after key used) ≡ state_after key (used + n)
unfolding advanced
advanced-is key used zero = ap (state_after key) (sym (add-zero used))
advanced-is key used (suc n) =
    ap (advanced n) (sym (state_after-add_one key used))
    ∙ advanced-is key (used + 1) n
    ∙ ap (state_after key) (omega arith)

-- ---- exchanges

-- two writes that exchange entries leave the table with the two swapped
pub exchanged : (table : List ℕ) (i j : ℕ) → length table ≡ 256 → i < 256 → j < 256 → set (set table i (get_or table j 0)) j (get_or table i 0) ≡ swap table i j
exchanged table i j e hi hj = swap_is table i j 0 (omega arith) (omega arith)

-- ---- one step of the schedule

-- what the loop makes of the table and j is the schedule's next step
pub shuffled_more : (key : List ℕ) (n : ℕ) (table : List ℕ) (j : ℕ) → table ≡ (shuffled key n).table → j ≡ (shuffled key n).j → n < 256 → let k = ((j + get_or table n 0) % 256 + get_or key (n % length key) 0) % 256 in (set (set table n (get_or table k 0)) k (get_or table n 0) ≡ (shuffled key (n + 1)).table) × (k ≡ (shuffled key (n + 1)).j)
shuffled_more key n table j t e h =
    let k : ℕ = ((j + get_or table n 0) % 256 + get_or key (n % length key) 0) % 256 in
    let part : ℕ = get_or key (n % length key) 0 in
    let s : Shuffle = shuffled key n in
    let moved : List ℕ → ℕ → ℕ = λ x y. (y + get_or x n 0 + part) % 256 in
    let sum : k ≡ moved table j = mod-add_mod (j + get_or table n 0) part 256 in
    let place : k ≡ moved s.table s.j = sum ∙ ap (λ x. moved x j) t ∙ ap (moved s.table) e in
    let long : length table ≡ 256 = ap length t ∙ length-shuffled key n in (
      exchanged table n k long h (mod-lt _ (lit< tt)) ∙ ap (λ x. swap x n k) t ∙ ap (swap s.table n) place ∙ ap (λ (x : Shuffle). x.table) (shuffled-add_one key n),
      place ∙ ap (λ (x : Shuffle). x.j) (shuffled-add_one key n),
    )

-- ---- one byte of the loop

pub combined_from_step : (s : State) (xs : List ℕ) (i : ℕ) → i < length xs → let y = bit_xor (get_or xs i 0) (byte_of (next_state s)) in take (i + 1) (set xs i y) ++ combined_from (next_state s) (drop (i + 1) (set xs i y)) ≡ take i xs ++ combined_from s (drop i xs)
unfolding combined_from
combined_from_step s xs i h =
    let y : ℕ = bit_xor (get_or xs i 0) (byte_of (next_state s)) in
    let rest = combined_from (next_state s) (drop (i + 1) xs) in
    ap (λ z. z ++ combined_from (next_state s) (drop (i + 1) (set xs i y))) (take_more_set xs i y h)
    ∙ ap (λ z. (take i xs ++ y ∷ []) ++ combined_from (next_state s) z) (drop-set-lt (i + 1) xs i y (omega arith))
    ∙ append_assoc (take i xs) (y ∷ []) rest
    ∙ ap (λ z. take i xs ++ combined_from s z) (sym (drop_more xs i 0 h))

combined_from-nil : (s : State) → combined_from s [] ≡ []
unfolding combined_from
combined_from-nil s = refl

pub combined_from_end : (s : State) (xs : List ℕ) (i : ℕ) → length xs ≤ i → take i xs ++ combined_from s (drop i xs) ≡ xs
combined_from_end s xs i h =
    rw (take_all i xs h, drop_all i xs h, combined_from-nil s) (append-nil xs)

pub advanced_step : (s : State) (n i : ℕ) → i < n → advanced (n - (i + 1)) (next_state s) ≡ advanced (n - i) s
unfolding advanced
advanced_step s n i h = ap (λ k. advanced k s) (let e : suc (n - (i + 1)) ≡ n - i = omega arith in e)

pub advanced_none : (s : State) (n i : ℕ) → n ≤ i → advanced (n - i) s ≡ s
unfolding advanced
advanced_none s n i h = ap (λ k. advanced k s) (let e : n - i ≡ 0 = omega arith in e)

-- ---- pieces

combined_from-append : (s : State) (xs ys : List ℕ) → combined_from s (xs ++ ys) ≡ combined_from s xs ++ combined_from (advanced (length xs) s) ys
unfolding combined_from advanced
combined_from-append s [] ys = refl
combined_from-append s (x ∷ xs) ys = ap (λ zs. bit_xor x (byte_of (next_state s)) ∷ zs) (combined_from-append (next_state s) xs ys)

advanced-more : (s : State) (m n : ℕ) → advanced n (advanced m s) ≡ advanced (m + n) s
unfolding advanced
advanced-more s zero n = ap (λ k. advanced k s) (let e : n ≡ zero + n = omega arith in e)
advanced-more s (suc m) n =
    advanced-more (next_state s) m n ∙ ap (λ k. advanced k s) (let e : suc (m + n) ≡ suc m + n = omega arith in e)

length-combined_from : (s : State) (xs : List ℕ) → length (combined_from s xs) ≡ length xs
unfolding combined_from
length-combined_from s [] = refl
length-combined_from s (x ∷ xs) = ap suc (length-combined_from (next_state s) xs)

-- after the piece of k bytes from place a on is combined, from the state s on: what is done and what is left
pub combined_piece : (s t : State) (a k e : ℕ) (xs ys : List ℕ) → e ≡ a + k → e ≤ length xs → ys ≡ combined_from s (mid_of a k xs) → t ≡ advanced (length (mid_of a k xs)) s → take e (put_mid a k xs ys) ++ combined_from t (drop e (put_mid a k xs ys)) ≡ take a xs ++ combined_from s (drop a xs)
combined_piece s t a k e xs ys end inside made moved =
    let mid : List ℕ = mid_of a k xs in
    let size : length mid ≡ k = length-take-le k (drop a xs) (omega (arith, length-drop a xs)) in
    let long : length ys ≡ k = ap length made ∙ length-combined_from s mid ∙ size in
    let front : take e (put_mid a k xs ys) ≡ take a xs ++ ys = take-put_mid a k xs ys e (omega arith) (omega arith) in
    let back : drop e (put_mid a k xs ys) ≡ drop e xs = drop-put_mid a k xs ys e (omega arith) (omega arith) long in
    let behind : drop e xs ≡ drop k (drop a xs) = ap (λ n. drop n xs) end ∙ sym (drop-drop k a xs) in
    let split : combined_from s (drop a xs) ≡ combined_from s mid ++ combined_from (advanced (length mid) s) (drop k (drop a xs)) =
    ap (combined_from s) (sym (take-append-drop k (drop a xs))) ∙ combined_from-append s mid (drop k (drop a xs)) in
    ap (λ z. z ++ combined_from t (drop e (put_mid a k xs ys))) front
    ∙ ap (λ z. (take a xs ++ ys) ++ combined_from t z) (back ∙ behind)
    ∙ ap (λ z. (take a xs ++ z) ++ combined_from t (drop k (drop a xs))) made
    ∙ ap (λ z. (take a xs ++ combined_from s mid) ++ combined_from z (drop k (drop a xs))) moved
    ∙ append_assoc (take a xs) (combined_from s mid) (combined_from (advanced (length mid) s) (drop k (drop a xs)))
    ∙ ap (λ z. take a xs ++ z) (sym split)

-- the number of bytes that are left goes down by that of a piece
pub advanced_piece : (s t : State) (a k e n : ℕ) (xs : List ℕ) → e ≡ a + k → e ≤ n → length xs ≡ n → t ≡ advanced (length (mid_of a k xs)) s → advanced (n - e) t ≡ advanced (n - a) s
advanced_piece s t a k e n xs end inside len moved =
    let size : length (mid_of a k xs) ≡ k = length-take-le k (drop a xs) (omega (arith, length-drop a xs)) in
    ap (advanced (n - e)) (moved ∙ ap (λ m. advanced m s) size)
    ∙ advanced-more s k (n - e)
    ∙ ap (λ m. advanced m s) (let left : k + (n - e) ≡ n - a = omega arith in left)
