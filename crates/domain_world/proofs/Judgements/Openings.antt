-- The openings of secure channels that controllers accepted, and the replies to them.
pub mod EveryOpeningLaws
pub mod KindDecideLaws
pub mod KindRunLaws
pub mod OpeningAnswerLaws
pub mod OpeningAskedLaws
pub mod OpeningKindLaws
pub mod OpeningLaws
pub mod OpeningMarkLaws
pub mod OpeningReplyLaws
pub mod OpeningRunLaws
pub mod OpeningUnclashedLaws
