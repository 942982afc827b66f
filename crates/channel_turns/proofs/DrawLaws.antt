-- What the link of a turn and the next turn draw. It serves `serve_turn` and `next_turn`.
use Rattle.outside.proofs.DrawLaws.{DrawsSome-none, DrawsSome-one, IsRest-refl, IsRest-later, IsRest-nothing}

pub ruleset drawing = (DrawsSome-none, DrawsSome-one, IsRest-refl, IsRest-later, IsRest-nothing)
