-- How several draws in a row come together.
use Rattle.std.proofs.Common.{◌≡◌, ◌-◌, ℕ, List, [], ◌∷◌, ◌++◌, length, take, refl, sym, ap, ◌∙◌, subst, arith, append-nil, append_assoc, length-append}
use Rattle.std.proofs.Math.Seq.{take-append_seam}
use Rattle.outside.specs.Drawing.{Drawing, Draws, DrawsAll, DrawsSome, DrawsAddUp, IsRest, draws_between}

pub DrawsAll-none : (drawing : Drawing) → DrawsAll drawing drawing []
DrawsAll-none drawing = record { left = refl; drawn = sym (append-nil drawing.drawn); seed = refl; boot = refl }

pub DrawsAll-one : (old new : Drawing) (challenge : List ℕ) → Draws old new challenge → DrawsAll old new (challenge ∷ [])
DrawsAll-one old new challenge draw = record { left = draw.next; drawn = draw.drawn; seed = draw.seed; boot = draw.boot }

pub DrawsAll-trans : (first second third : Drawing) (draws more : List (List ℕ)) → DrawsAll first second draws → DrawsAll second third more →
    DrawsAll first third (draws ++ more)
DrawsAll-trans first second third draws more one other = record {
  left = one.left ∙ ap (λ left. draws ++ left) other.left ∙ sym (append_assoc draws more third.left);
  drawn = other.drawn ∙ ap (λ drawn. drawn ++ more) one.drawn ∙ append_assoc first.drawn draws more;
  seed = other.seed ∙ one.seed;
  boot = other.boot ∙ one.boot;
}

-- what stands in front of a rest is known by both
pub between_front : (draws rest all : List (List ℕ)) → all ≡ draws ++ rest → draws ≡ draws_between all rest
between_front draws rest all is =
    let count : length all - length rest ≡ length draws = omega (arith, ap length is, length-append draws rest) in
    sym (ap (λ n. take n all) count ∙ ap (take (length draws)) is ∙ take-append_seam draws rest)

pub DrawsAll-between : (old new : Drawing) (draws : List (List ℕ)) → DrawsAll old new draws → draws ≡ draws_between old.left new.left
DrawsAll-between old new draws all = between_front draws new.left old.left all.left

-- ---- some draws

pub DrawsSome-none : (drawing : Drawing) → DrawsSome drawing drawing
DrawsSome-none drawing = record { draws = []; all = DrawsAll-none drawing }

pub DrawsSome-one : (old new : Drawing) (challenge : List ℕ) → Draws old new challenge → DrawsSome old new
DrawsSome-one old new challenge draw = record { draws = challenge ∷ []; all = DrawsAll-one old new challenge draw }

pub DrawsSome-trans : (first second third : Drawing) → DrawsSome first second → DrawsSome second third → DrawsSome first third
DrawsSome-trans first second third one other = record {
  draws = one.draws ++ other.draws;
  all = DrawsAll-trans first second third one.draws other.draws one.all other.all;
}

pub DrawsSome-between : (old new : Drawing) → DrawsSome old new → DrawsAll old new (draws_between old.left new.left)
DrawsSome-between old new some = subst (DrawsAll old new) (DrawsAll-between old new some.draws some.all) some.all

-- where none is left, all were drawn
pub DrawsSome-spent : (old new : Drawing) → DrawsSome old new → new.left ≡ [] → DrawsAll old new old.left
DrawsSome-spent old new some none =
    let all : some.draws ≡ old.left = sym (append-nil some.draws) ∙ ap (λ left. some.draws ++ left) (sym none) ∙ sym some.all.left in
    subst (DrawsAll old new) all some.all

pub draws_add_up : DrawsAddUp
draws_add_up = record { none = DrawsAll-none; one = DrawsAll-one; both = DrawsAll-trans; between = DrawsSome-between }

-- ---- rests

pub IsRest-refl : (all : List (List ℕ)) → IsRest all all
IsRest-refl all = record { front = []; is = refl }

pub IsRest-nothing : (all : List (List ℕ)) → IsRest [] all
IsRest-nothing all = record { front = all; is = append-nil all }

pub IsRest-later : (challenge : List ℕ) (rest all : List (List ℕ)) → IsRest rest all → IsRest rest (challenge ∷ all)
IsRest-later challenge rest all is = record { front = challenge ∷ is.front; is = ap (λ z. challenge ∷ z) is.is }

pub IsRest-trans : (last rest all : List (List ℕ)) → IsRest last rest → IsRest rest all → IsRest last all
IsRest-trans last rest all one other = record {
  front = other.front ++ one.front;
  is = append_assoc other.front one.front last ∙ ap (λ z. other.front ++ z) one.is ∙ other.is;
}
