-- Runs that a world made itself: logons of its clients, move by move.
pub mod AnnAcceptedLaws
pub mod AnnKeyLaws
pub mod ChangeDrawLaws
pub mod ChangeRunLaws
pub mod ChangeShownLaws
pub mod ClearRunLaws
pub mod ClearSuccessLaws
pub mod ExampleKeyLaws
pub mod JudgedOnLaws
pub mod LogonTrailLaws
pub mod SharedChannelLaws
pub mod StrangerRunLaws
pub mod ToldLaws
pub mod TurnTrailLaws
