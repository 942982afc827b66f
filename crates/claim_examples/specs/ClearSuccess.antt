-- A whole logon meets completeness: the client of the example can succeed, her run meets all its premises, and she is
-- in (this project's own choice). So no credential clashes in it, as its logons come one at a time.
use Rattle.std.specs.Prelude.{true}
use Rattle.logon_runs.specs.FirstLogon.ExampleLogon.{ann_moves, ann_plan}
use Rattle.domain_world.specs.Claims.Completeness.{CanSucceed, ComesOneAtATime, OwnKeysArrive, Succeeds}
use Rattle.domain_world.specs.Claims.OneByOne.{HaveOwnMembers, NoneClashes}
use Rattle.domain_world.specs.Past.{Past, past}

-- ann's run, and the same with a clash written down
abbrev pub ann_run : Past
ann_run = past ann_plan ann_moves

abbrev pub ann_clashed : Past
ann_clashed = record ann_run { book = record ann_run.book { clash = true } }

-- Ann's account may log on in each state of the run. The run is a schedule that starts her alone, and the key of her
-- logon arrives. She is in, with the member's key, her name and her whole echo, and the member told so. The member that
-- she reaches has its own computer. So no credential clashes, which isn't so of the same run with a clash written down.
pub record AnnCanSucceed : Type 0 where
  pub can : CanSucceed ann_plan ann_moves 0
  pub comes : ComesOneAtATime (past ann_plan ann_moves) ann_moves
  pub arrives : OwnKeysArrive (past ann_plan ann_moves) ann_moves 0 can
  pub succeeds : Succeeds (past ann_plan ann_moves) ann_moves 0 can
  pub each : HaveOwnMembers ann_run ann_moves
  pub unclashed : NoneClashes ann_run ann_moves
  pub fails_clash : NoneClashes ann_clashed ann_moves → ⊥
