use Rattle.authenticators.proofs.SeedLaws.{IsBlock-add_to, seed_after-moved_by}
use Rattle.authenticators.proofs.laws.timestamps_move_the_seed.Goals as goal

pub returns-clause-block : goal.returns-clause-block
returns-clause-block c = IsBlock-add_to

pub returns-clause-moves : goal.returns-clause-moves
returns-clause-moves c = seed_after-moved_by
