-- A world as it is made.
-- It serves `tasks_of`.
use Rattle.std.proofs.Common.{◌≡◌, suc, List, [], ◌∷◌, ◌++◌, All, ap, sym, ◌∙◌, subst, arith}
use Rattle.std.proofs.lemmas.List.{append_assoc}

-- an item comes off the front of what is left
pub one_more : {T : Type 0} (done rest left all : List T) (item : T) → done ++ left ≡ all → left ≡ item ∷ rest → (done ++ item ∷ []) ++ rest ≡ all
one_more done rest left all item is off =
    append_assoc done (item ∷ []) rest ∙ ap (λ (more : List _). done ++ more) (sym off) ∙ is

-- what holds of all that is left holds of the rest
pub all_rest : {T : Type 0} (P : T → Type 0) (rest left : List T) (item : T) → left ≡ item ∷ rest → All P left → All P rest
all_rest P rest left item off all = let h : All P (item ∷ rest) = subst (λ (items : List _). All P items) off all in λ k d lt. h (suc k) d (omega arith)
