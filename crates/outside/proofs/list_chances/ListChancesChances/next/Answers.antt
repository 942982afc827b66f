use Rattle.std.proofs.Common.{◌<◌, length, [], refl, ap, arith}
use Rattle.std.proofs.lemmas.List.{drop_more}
use Rattle.outside.proofs.Drawn.{drawn_more}
use Rattle.outside.proofs.list_chances.ListChancesChances.next.Goals as goal

pub returns-clause-drawn : goal.returns-clause-drawn
returns-clause-drawn c =
    let inside : c.self.inside.used < length c.self.inside.draws = omega (arith, ap length c.items-draws.ensures) in
    rw (c.items-draws.ensures, ← c.self.view_is) record {
      next = drop_more _ c.self.inside.used [] inside;
      drawn = drawn_more _ c.self.inside.begun c.self.inside.used [] c.self.invariant.0 inside;
      seed = refl;
      boot = refl;
    }
