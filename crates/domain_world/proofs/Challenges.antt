-- What holds in every run of links, their challenges and the messages that came on them.
pub mod LeftOutLaws
pub mod LinkUnitLaws
pub mod OwnChallengeLaws
pub mod OwnLinkLaws
pub mod WrittenDownLaws
