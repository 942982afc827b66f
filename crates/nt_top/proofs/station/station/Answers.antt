use Rattle.std.proofs.Common.{inl, refl, ◌∙◌}
use Rattle.nt_top.proofs.LogonLaws.{started}
use Rattle.nt_top.proofs.station.station.Goals as goal

pub returns-in-Err-clause-ends : goal.returns-in-Err-clause-ends
returns-in-Err-clause-ends g c = record {
  opened = _;
  opens = started _ _ _ _ (g.Q.Chances.drawing c.start.new.self) _ _ _ _ (c.start.ensures.seed ∙ c.seed.ensures) (c.start.ensures.boot ∙ c.boot.ensures) c.start.ensures.drawn;
  ends = inl (refl, refl);
}
