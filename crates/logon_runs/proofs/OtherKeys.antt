-- What a client and its member make of each other where their keys may differ, and where a logon leads then.
pub mod ClosingLaws
pub mod DifferingLaws
pub mod EchoSizeLaws
pub mod GrantRestLaws
pub mod LetInLaws
pub mod LetInStepLaws
pub mod OpeningLaws
