-- What holds of each move between starts: what holds where a dial is answered, where a unit comes, and where time
-- passes. It serves the laws of a logon that goes on.
use Rattle.std.proofs.Common.{◌≡◌, ℕ, Bool, true, false}
use Rattle.world_moves.specs.declared.moves.Move.{Move}
use Rattle.world_moves.specs.declared.moves.Move.TheVariants as move
use Rattle.logon_runs.specs.Scenes.Others.{IfSo, IsStepOn}

unfoldable pub by_step : (P : Move → Type 0) → P move.Connect → P move.Onward → ((more : ℕ) → P (move.Tick more)) → (what : Move) → IsStepOn what → P what
by_step P connects comes ticks move.Connect steps = connects
by_step P connects comes ticks move.Onward steps = comes
by_step P connects comes ticks (move.Tick more) steps = ticks more
by_step P connects comes ticks (move.Start number) steps = absurd steps
by_step P connects comes ticks (move.Stranger number) steps = absurd steps
by_step P connects comes ticks move.FailDial steps = absurd steps
by_step P connects comes ticks move.Lose steps = absurd steps
by_step P connects comes ticks (move.Deliver unit link) steps = absurd steps
by_step P connects comes ticks (move.Hand link back bytes) steps = absurd steps
by_step P connects comes ticks (move.Shut number) steps = absurd steps
by_step P connects comes ticks (move.Restart number) steps = absurd steps
by_step P connects comes ticks (move.Change member secret) steps = absurd steps

-- ---- whether a unit comes

pub if_so : (hit : Bool) (Fact : Type 0) → Fact → IfSo hit Fact
if_so false Fact is = tt
if_so true Fact is = is

-- of the other moves nothing is said
pub if_other : (hit : Bool) (Fact : Type 0) → hit ≡ false → IfSo hit Fact
if_other false Fact other = tt
if_other true Fact other = absurd (let never : true ≡ false = other in cc)
