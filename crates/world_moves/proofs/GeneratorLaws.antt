-- The moves that a number makes.
-- It serves `moves_from`, `next_seed`, `value_of`.
use Rattle.std.proofs.Common.{◌≡◌, ℕ, suc, zero, ◌+◌, ◌-◌, ◌*◌, ◌/◌, ◌%◌, ◌^◌, ◌<◌, List, [], ◌∷◌, ◌++◌, refl, ap, sym, ◌∙◌, arith}
use Rattle.std.proofs.lemmas.List.{append_assoc, append-nil}
use Rattle.world_moves.specs.declared.moves.Move.{Move}
use Rattle.world_moves.specs.Generator.{made, moves_of, next_seed, value_of}

pub seed_is : (seed : ℕ) → (seed * 6364136223846793005 % 2 ^ 64 + 1442695040888963407) % 2 ^ 64 ≡ next_seed seed
unfolding next_seed
seed_is seed = omega arith

pub value_is : (seed : ℕ) → seed / 2 ^ 33 ≡ value_of seed
unfolding value_of
value_is seed = refl

moves_first : (left more seed : ℕ) → left ≡ more + 1 → moves_of left seed ≡ (made seed).what ∷ moves_of more (made seed).after
moves_first zero more seed is = absurd (omega arith)
moves_first (suc left) more seed is = ap (λ n. (made seed).what ∷ moves_of n (made seed).after) (let e : left ≡ more = omega arith in e)

-- a move and those after it, behind others
pub moves_more : (moves : List Move) (count at seed : ℕ) (all : List Move) → at < count → moves ++ moves_of (count - at) seed ≡ all →
    (moves ++ (made seed).what ∷ []) ++ moves_of (count - (at + 1)) (made seed).after ≡ all
moves_more moves count at seed all lt is =
    append_assoc moves ((made seed).what ∷ []) (moves_of (count - (at + 1)) (made seed).after)
    ∙ ap (λ (more : List Move). moves ++ more) (sym (moves_first (count - at) (count - (at + 1)) seed (omega arith)))
    ∙ is

none_left : (left seed : ℕ) → left ≡ 0 → moves_of left seed ≡ []
none_left zero seed is = refl
none_left (suc left) seed is = absurd (omega arith)

pub moves_all : (moves : List Move) (count at seed : ℕ) (all : List Move) → count ≡ at → moves ++ moves_of (count - at) seed ≡ all → moves ≡ all
moves_all moves count at seed all end is =
    sym (append-nil moves) ∙ ap (λ (more : List Move). moves ++ more) (sym (none_left (count - at) seed (omega arith))) ∙ is

pub ruleset making = (moves_more, moves_all)
