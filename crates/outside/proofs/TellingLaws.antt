-- How what is told in two calls, one after the other, comes together.
use Rattle.std.proofs.Common.{◌≡◌, ◌+◌, ◌-◌, ℕ, List, [], ◌++◌, length, take, drop, Option, Some, None, refl, sym, ap, ◌∙◌, arith, append-nil, append_assoc, length-append}
use Rattle.std.proofs.Math.Seq.{take-append_seam, take-append-add}
use Rattle.std.proofs.lemmas.List.{take-append-drop}
use Rattle.outside.specs.Telling.{Appends, AppendsFront, AppendsPart, FrontsAreParts}

pub Appends-trans : {X : Type 0} (first second third : Option (List X)) (xs ys : List X) →
    Appends first second xs → Appends second third ys → Appends first third (xs ++ ys)
Appends-trans None None third xs ys p q = q
Appends-trans None (Some b) third xs ys p q = cc
Appends-trans (Some a) second None xs ys p q = tt
Appends-trans (Some a) None (Some c) xs ys p q = cc
Appends-trans (Some a) (Some b) (Some c) xs ys p q = q ∙ ap (λ now. now ++ ys) p ∙ append_assoc a xs ys

-- all of a front is a front of all
pub AppendsFront-append : {X : Type 0} (old new : Option (List X)) (front rest : List X) → Appends old new front → AppendsFront old new (front ++ rest)
AppendsFront-append None new front rest p = p
AppendsFront-append (Some a) None front rest p = tt
AppendsFront-append (Some a) (Some b) front rest p =
    let whole : a ++ (front ++ rest) ≡ b ++ rest = sym (append_assoc a front rest) ∙ ap (λ now. now ++ rest) (sym p) in
    (omega (arith, ap length p, length-append a front), sym (rw whole (take-append_seam b rest)))

-- nothing was taken
pub Appends-nothing : {X : Type 0} (told : Option (List X)) → Appends told told []
Appends-nothing None = refl
Appends-nothing (Some a) = sym (append-nil a)

-- a front by value
pub AppendsFront-part : {X : Type 0} (old new : Option (List X)) (items : List X) → AppendsFront old new items → AppendsPart old new items
AppendsFront-part None new items is = record { part = []; more = items; all = refl; told = is }
AppendsFront-part (Some a) None items is = record { part = []; more = items; all = refl; told = tt }
AppendsFront-part (Some a) (Some b) items is =
    let count : ℕ = length b - length a in
    let whole : length b ≡ length a + count = omega (arith, is.0) in
    record {
      part = take count items;
      more = drop count items;
      all = take-append-drop count items;
      told = is.1 ∙ ap (λ n. take n (a ++ items)) whole ∙ take-append-add a items count;
    }

pub fronts_are_parts : FrontsAreParts
fronts_are_parts = AppendsFront-part
