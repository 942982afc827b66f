-- In every schedule that is clear both ends of an open channel share its sequence.
-- It serves `claims_hold_of_runs`.
use Rattle.domain_world.specs.Claims.{IsClear}
use Rattle.domain_world.specs.Claims.SharedSequences.{SequencesAreShared}
use Rattle.domain_world.specs.Past.{past}
use Rattle.domain_world.specs.Schedules.{OfSchedules}
use Rattle.domain_world.proofs.Acceptance.ScheduleLaws.{units_heard}
use Rattle.domain_world.proofs.Sequences.Own.OwnEndLaws.{turns_are_called}
use Rattle.domain_world.proofs.Sequences.SharedLaws.{sequences_follow}
use Rattle.domain_world.proofs.Sequences.StampLaws.{calls_stamped}

pub sequences_shared : OfSchedules (λ plan moves. IsClear (past plan moves).book → SequencesAreShared (past plan moves))
sequences_shared plan moves nobody schedule clear =
    sequences_follow plan moves nobody (units_heard plan moves nobody schedule) (calls_stamped plan moves nobody schedule) (turns_are_called plan moves nobody schedule clear) clear
