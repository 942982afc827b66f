-- Logons that come one at a time, move by move: no credential passes in a unit that was made for another channel.
pub mod ClearWalkLaws
pub mod NoServersLaws
pub mod NotedLaws
pub mod NotedOnLaws
pub mod OwnTakingLaws
pub mod PhaseClearLaws
pub mod TakenOnceLaws
pub mod UnitComesLaws
