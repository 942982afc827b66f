use Rattle.std.proofs.Common.{refl, ◌∙◌}
use Rattle.world_moves.proofs.LevelLaws.{counts_fit}
use Rattle.world_moves.proofs.world.World.report.Goals as goal

pub returns-clause-fits : goal.returns-clause-fits
returns-clause-fits c = λ plan moves made.
    counts_fit plan moves (record { state = c.self.inside.state; moves = c.self.inside.moves; stopped = c.self.inside.stopped }) _ c.self.invariant.told c.self.invariant.few refl (c.self.view_is ∙ made)
