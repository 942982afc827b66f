-- Laws of the seed: how additions add up, and what is known of two seeds that are alike.
use Rattle.std.proofs.Common.{◌≡◌, ℕ, ◌+◌, ◌-◌, ◌%◌, ◌^◌, ◌<◌, List, [], ◌∷◌, ◌++◌, length, get_or, take, drop, ap, sym, ◌∙◌, arith}
use Rattle.std.proofs.lemmas.List.{length-append, length-drop, length-take-le, take-append-drop}
use Rattle.std.proofs.lemmas.List.Elements.{All-append, All-take, All-drop, All-from_recursion}
use Rattle.std.proofs.lemmas.List.Sums.{sum_by-cons}
use Rattle.std.proofs.lemmas.Nat.{le_bytes_4, from_le_bytes-to_le_bytes_4}
use Rattle.std.specs.Int.{w32, to_le_bytes, from_le_bytes}
use Rattle.channel_keys.specs.Des.{IsBlock}
use Rattle.authenticators.specs.Sequences.{add_to, seed_after, moved_by}
use Rattle.wire_base.proofs.NumberLaws.{bytes_from_all}

pub IsBlock-add_to : (seed : List ℕ) (n : ℕ) → IsBlock seed → IsBlock (add_to seed n)
unfolding add_to
IsBlock-add_to seed n h =
    let low : List ℕ = to_le_bytes w32 ((from_le_bytes w32 (take 4 seed) + n) % 2 ^ 32) in
    record {
      eight = omega (arith, length-append low (drop 4 seed), length-drop 4 seed, h.eight);
      bytes = All-append (λ b. b < 256) low (drop 4 seed) (All-from_recursion (λ b. b < 256) low (omega arith, (omega arith, (omega arith, (omega arith, tt))))) (All-drop (λ b. b < 256) 4 seed h.bytes);
    }

-- two additions are one of the sum
pub add_to-add_to : (seed : List ℕ) (a b : ℕ) → add_to (add_to seed a) b ≡ add_to seed (a + b)
unfolding add_to
add_to-add_to seed a b =
    let low : ℕ = (from_le_bytes w32 (take 4 seed) + a) % 2 ^ 32 in
    let read : from_le_bytes w32 (to_le_bytes w32 low) ≡ low = from_le_bytes-to_le_bytes_4 low (omega arith) in
    let sum : (low + b) % 2 ^ 32 ≡ (from_le_bytes w32 (take 4 seed) + (a + b)) % 2 ^ 32 = omega arith in
    ap (λ n. to_le_bytes w32 ((n + b) % 2 ^ 32) ++ drop 4 seed) read ∙ ap (λ n. to_le_bytes w32 n ++ drop 4 seed) sum

-- adding none
pub add_to-zero : (seed : List ℕ) → IsBlock seed → add_to seed 0 ≡ seed
unfolding add_to
add_to-zero seed h =
    let low : List ℕ = take 4 seed in
    let byte : (i : ℕ) → get_or low i 0 < 256 = bytes_from_all low (All-take (λ b. b < 256) 4 seed h.bytes) in
    let below : from_le_bytes w32 low < 2 ^ 32 = omega (arith, byte 0, byte 1, byte 2, byte 3) in
    let kept : (from_le_bytes w32 low + 0) % 2 ^ 32 ≡ from_le_bytes w32 low = omega arith in
    let long : length low ≡ 4 = length-take-le 4 seed (omega (arith, h.eight)) in
    ap (λ z. z ++ drop 4 seed) (le_bytes_4 low _ long byte kept) ∙ take-append-drop 4 seed

-- two numbers that make one seed of a seed are alike modulo 2^32
pub add_to-same : (seed : List ℕ) (a b : ℕ) → add_to seed a ≡ add_to seed b → a % 2 ^ 32 ≡ b % 2 ^ 32
unfolding add_to
add_to-same seed a b e =
    let x : ℕ = from_le_bytes w32 (take 4 seed) in
    let v : ℕ = (x + a) % 2 ^ 32 in
    let w : ℕ = (x + b) % 2 ^ 32 in
    let same : v ≡ w =
    sym (from_le_bytes-to_le_bytes_4 v (omega arith)) ∙ ap (λ z. from_le_bytes w32 (take 4 z)) e ∙ from_le_bytes-to_le_bytes_4 w (omega arith) in
    omega arith

-- two numbers that are alike modulo 2^32 make one seed of a seed
pub add_to-alike : (seed : List ℕ) (a b : ℕ) → a % 2 ^ 32 ≡ b % 2 ^ 32 → add_to seed a ≡ add_to seed b
unfolding add_to
add_to-alike seed a b e =
    let x : ℕ = from_le_bytes w32 (take 4 seed) in
    let same : (x + a) % 2 ^ 32 ≡ (x + b) % 2 ^ 32 = omega arith in
    ap (λ n. to_le_bytes w32 n ++ drop 4 seed) same

-- timestamps move the seed by the sum of each plus one
pub seed_after-moved_by : (seed : List ℕ) (timestamps : List ℕ) → IsBlock seed → seed_after seed timestamps ≡ add_to seed (moved_by timestamps)
unfolding moved_by
seed_after-moved_by seed [] h = sym (add_to-zero seed h)
seed_after-moved_by seed (t ∷ later) h =
    seed_after-moved_by (add_to seed (t + 1)) later (IsBlock-add_to seed (t + 1) h)
    ∙ add_to-add_to seed (t + 1) (moved_by later)
    ∙ ap (add_to seed) (sym (sum_by-cons (λ n. n + 1) t later))

-- two seeds that one number moves to one seed are one
pub add_to-seeds : (one other : List ℕ) (n : ℕ) → IsBlock one → IsBlock other → add_to one n ≡ add_to other n → one ≡ other
add_to-seeds one other n h k e =
    let m : ℕ = 2 ^ 32 - n % 2 ^ 32 in
    let whole : 0 % 2 ^ 32 ≡ (n + m) % 2 ^ 32 = omega arith in
    sym (add_to-zero one h) ∙ add_to-alike one 0 (n + m) whole ∙ sym (add_to-add_to one n m)
    ∙ ap (λ z. add_to z m) e
    ∙ add_to-add_to other n m ∙ sym (add_to-alike other 0 (n + m) whole) ∙ add_to-zero other k
