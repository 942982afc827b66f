-- The moves before have their forms.
use Rattle.std.proofs.Common.{All, take}
use Rattle.world_moves.specs.Forms.{HasMoveForm}
use Rattle.world_moves.proofs.moves.moves_have_forms.Given as goal

abbrev pub invariant-loop-what : goal.invariant-loop-what
invariant-loop-what l = All HasMoveForm (take l.what-index l.moves)
