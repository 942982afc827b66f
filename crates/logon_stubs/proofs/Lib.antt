pub mod AnswerLaws
pub mod CallLaws
pub mod GivenLaws
pub mod ListLaws
pub mod LostMiddleLaws
pub mod WritableLaws
pub mod WrittenLaws
