-- What holds in every run of the answers that members take, and the claims that rest on them.
pub mod AnsweredLaws
pub mod AnsweredRunLaws
pub mod CarriedLaws
pub mod Heard
pub mod LetInLaws
pub mod LetInStepLaws
pub mod MarkRunLaws
pub mod NameLaws
pub mod RunBeginLaws
pub mod ScheduleLaws
pub mod ShortResponseLaws
pub mod Turns
pub mod UnitLaws
