-- All that is proved of runs holds of the example's run, which is a clear schedule. A message of it is accepted, and
-- client and member hold its key.
-- It serves `ann_is_accepted`.
use Rattle.std.proofs.Common.{inl, refl}
use Rattle.logon_runs.specs.FirstLogon.ExampleLogon.{ann_moves, ann_plan}
use Rattle.world_moves.specs.Unforwarded.{IsJudgedAlone}
use Rattle.world_moves.proofs.AloneLaws.{plain_plan}
use Rattle.world_moves.specs.Plain.{IsPlainPlan}
use Rattle.domain_world.specs.Headline.{Proved}
use Rattle.domain_world.proofs.HeadlineLaws.{all_proved}
use Rattle.claim_examples.specs.AnnAccepted.{AnnIsAccepted}
use Rattle.claim_examples.proofs.Runs.AnnKeyLaws.{ann_keyed}
use Rattle.claim_examples.proofs.Runs.ClearRunLaws.{first_logons_are_clear}

pub ann_is_accepted : AnnIsAccepted
ann_is_accepted =
    let clear = first_logons_are_clear in
    let alone : IsJudgedAlone ann_plan ann_moves = inl (plain_plan ann_plan refl refl) in
    let nothing : IsPlainPlan ann_plan = record { controllers = refl; members = (refl, tt); stations = refl } in
    let proved : Proved ann_plan ann_moves = all_proved ann_plan ann_moves in
    let only = proved.only nothing alone clear.schedule clear.ann.clear in
    record {
      proved = proved;
      only = only;
      all = proved.all nothing alone clear.schedule clear.ann.clear;
      keys = proved.keys nothing alone clear.schedule clear.ann.clear;
      accepted = clear.ann.accepted only;
      keyed = ann_keyed;
    }
