-- What a station's link draws, and its first one.
use Rattle.outside.proofs.DrawLaws.{DrawsSome-none, DrawsSome-one, IsRest-refl, IsRest-later, IsRest-nothing}

pub ruleset drawing = (DrawsSome-none, DrawsSome-one, IsRest-refl, IsRest-later, IsRest-nothing)
