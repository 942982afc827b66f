-- Of logons at any member.
pub mod AnyBeginLaws
pub mod AnyLogonLaws
pub mod AnyPhaseLaws
pub mod AnyReplyLaws
pub mod AnyRunLaws
pub mod AnyStartLaws
pub mod AnyTurnLaws
pub mod ControllerAnswerLaws
pub mod JudgingLaws
pub mod RestAgainLaws
pub mod SetAnswerLaws
pub mod UnreachedLaws
