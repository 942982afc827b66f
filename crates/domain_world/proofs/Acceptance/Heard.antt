-- Units as they are made, marked, heard, judged and read back.
pub mod AnswerReadLaws
pub mod BoundOpeningLaws
pub mod HeardFrontLaws
pub mod HeardUnitLaws
pub mod JudgedRunLaws
pub mod JudgedUnitLaws
pub mod MarkSentLaws
pub mod MarkWholeLaws
pub mod OpeningCarriedLaws
pub mod ReadBackLaws
