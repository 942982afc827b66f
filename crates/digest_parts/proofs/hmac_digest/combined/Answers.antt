use Rattle.std.proofs.Common.{◌≡◌, ℕ, ◌+◌, ◌<◌, List, ◌∷◌, ◌++◌, length, get_or, set, map, take, drop, bit_xor, ◌∙◌, arith}
use Rattle.std.proofs.lemmas.List.{drop_more, map_more, set_at, get_or_at, append_assoc, length-map, length-take-le}
use Rattle.digest_parts.proofs.hmac_digest.combined.Goals as goal

-- one element more of a list that is mapped in place
mapped_more : (f : ℕ → ℕ) (xs ys : List ℕ) (i : ℕ) → i < length xs → ys ≡ map f (take i xs) ++ drop i xs
    → set ys i (f (get_or ys i 0)) ≡ map f (take (i + 1) xs) ++ drop (i + 1) xs
mapped_more f xs ys i low before =
    let at : length (map f (take i xs)) ≡ i = length-map (take i xs) f ∙ length-take-le i xs (omega arith) in
    let split : ys ≡ map f (take i xs) ++ get_or xs i 0 ∷ drop (i + 1) xs = rw (← drop_more xs i 0 low) before in
    let here : get_or ys i 0 ≡ get_or xs i 0 =
    rw split (get_or_at (map f (take i xs)) (get_or xs i 0) (drop (i + 1) xs) 0 i at) in
    let stored : set ys i (f (get_or xs i 0)) ≡ map f (take i xs) ++ f (get_or xs i 0) ∷ drop (i + 1) xs =
    rw split (set_at (map f (take i xs)) (get_or xs i 0) (drop (i + 1) xs) (f (get_or xs i 0)) i at) in
    rw (here, map_more f xs i 0 low, append_assoc) stored

pub loop-byte-preserved : goal.loop-byte-preserved
loop-byte-preserved c =
    mapped_more (λ byte. bit_xor byte c.args.pad) c.args.block.now c.loop-byte.byte-items c.loop-byte.byte-index (omega arith) c.loop-byte.invariant
