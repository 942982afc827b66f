-- The calls of a member's own turns, through all that happens in a run.
pub mod OwnCarryLaws
pub mod OwnEndLaws
pub mod OwnFrameLaws
pub mod OwnKeepLaws
pub mod OwnOtherLaws
pub mod OwnOverLaws
pub mod OwnRunLaws
pub mod OwnStayLaws
pub mod OwnStepLaws
pub mod OwnTakenLaws
pub mod OwnTurnLaws
pub mod OwnWalkLaws
pub mod OwnWholeLaws
pub mod TrustOwnLaws
pub mod TrustStepLaws
