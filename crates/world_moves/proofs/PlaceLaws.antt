-- Places of the items that pass a test.
-- It serves `WorldLinks::add`.
use Rattle.std.proofs.Common.{◌≡◌, ℕ, suc, ◌+◌, Bool, true, false, List, [], ◌∷◌, ◌++◌, length, if◌then◌else◌, refl, ap, ◌∙◌, arith}
use Rattle.world_moves.specs.Choosing.{places, places_from, pushed_if}

push_behind : (wanted passes : Bool) (at number : ℕ) (numbers : List ℕ) →
    (if passes then at ∷ pushed_if wanted number numbers else pushed_if wanted number numbers) ≡ pushed_if wanted number (if passes then at ∷ numbers else numbers)
push_behind true true at number numbers = refl
push_behind true false at number numbers = refl
push_behind false true at number numbers = refl
push_behind false false at number numbers = refl

push_first : (wanted : Bool) (at number : ℕ) → at ≡ number → (if wanted then at ∷ [] else []) ≡ pushed_if wanted number []
push_first true at number is = ap (λ n. n ∷ []) is
push_first false at number is = refl

places_push_from : {T : Type 0} (test : T → Bool) (at : ℕ) (items : List T) (item : T) → places_from test at (items ++ item ∷ []) ≡ pushed_if (test item) (at + length items) (places_from test at items)
places_push_from test at [] item = push_first (test item) at (at + 0) (omega arith)
places_push_from test at (first ∷ items) item =
    ap (λ rest. if test first then at ∷ rest else rest)
    (places_push_from test (at + 1) items item ∙ ap (λ n. pushed_if (test item) n (places_from test (at + 1) items)) (let e : at + 1 + length items ≡ at + suc (length items) = omega arith in e))
    ∙ push_behind (test item) (test first) at (at + suc (length items)) (places_from test (at + 1) items)

pub places_push : {T : Type 0} (test : T → Bool) (items : List T) (item : T) → places test (items ++ item ∷ []) ≡ pushed_if (test item) (length items) (places test items)
places_push test items item =
    places_push_from test 0 items item ∙ ap (λ n. pushed_if (test item) n (places test items)) (let e : 0 + length items ≡ length items = omega arith in e)
