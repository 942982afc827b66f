-- A list of challenges of which those from the place `begun` up to `used` were drawn.
use Rattle.std.proofs.Common.{◌≡◌, ℕ, ◌+◌, ◌-◌, ◌<◌, ◌≤◌, List, [], ◌∷◌, ◌++◌, length, take, drop, get_or, refl, arith, length-drop}
use Rattle.std.proofs.lemmas.List.{take_more, get_or-drop}

-- one more was drawn
pub drawn_more : {X : Type 0} (draws : List X) (begun used : ℕ) (d : X) → begun ≤ used → used < length draws →
    take (used + 1 - begun) (drop begun draws) ≡ take (used - begun) (drop begun draws) ++ get_or draws used d ∷ []
drawn_more draws begun used d in_order inside =
    let count : used + 1 - begun ≡ used - begun + 1 = omega arith in
    let place : begun + (used - begun) ≡ used = omega arith in
    let within : used - begun < length (drop begun draws) = omega (arith, length-drop begun draws) in
    rw (count, take_more (drop begun draws) (used - begun) d within, get_or-drop begun draws (used - begun) d, place) refl
