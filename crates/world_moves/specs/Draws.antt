-- The challenges that were drawn in a world (this project's own choice).
use Rattle.std.specs.Prelude.{◌≢◌, AllPairs, All}
use Rattle.channel_keys.specs.Des.{IsBlock}
use Rattle.world_moves.specs.World.{World}

-- no two challenges that were drawn are alike
abbrev pub DrawsDiffer : World → Type 0
DrawsDiffer w = AllPairs (λ one other. one ≢ other) w.state.chances.drawn

-- each challenge that was drawn has 8 bytes
abbrev pub DrawsAreBlocks : World → Type 0
DrawsAreBlocks w = All IsBlock w.state.chances.drawn
