-- What a controller hears, judges, keeps and sends at one step.
pub mod ComputerLaws
pub mod GrantSendLaws
pub mod GrantVerdictLaws
pub mod HeardLaws
pub mod JudgedCallLaws
pub mod JudgedInRangeLaws
pub mod JudgedStepLaws
pub mod KeptNoteLaws
pub mod NotedLaws
pub mod OpenedLaws
pub mod ReadCallLaws
pub mod ReplySendLaws
pub mod ReplyStepLaws
pub mod TrustNoteLaws
pub mod TrustNotedLaws
pub mod TrustReplyLaws
pub mod TrustedStepLaws
